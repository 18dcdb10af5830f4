-- RFC 894: the two addresses, the kind of the body, and the body
use Rattle.std.specs.Prelude.{◌≡◌, ℕ, ◌<◌, ◌^◌, List, ◌++◌, length}
use Rattle.std.specs.Int.{w16, to_be_bytes}
use Rattle.nb_wire.specs.declared.address.Mac.{Mac}
use Rattle.nb_ether.specs.declared.frame.EtherFrame.{EtherFrame}

-- a frame without where its body lies in memory
pub record Frame : Type 0 where
  pub dst : Mac
  pub src : Mac
  pub kind : ℕ
  pub body : List ℕ

abbrev pub frame_of : EtherFrame → Frame
frame_of f = record { dst = f.dst; src = f.src; kind = f.kind; body = f.body.now }

-- what stands before a frame's body
abbrev pub frame_head : Mac → Mac → ℕ → List ℕ
frame_head dst src kind = dst.0 ++ src.0 ++ to_be_bytes w16 kind

-- a frame's spelling
abbrev pub frame_text : Frame → List ℕ
frame_text f = frame_head f.dst f.src f.kind ++ f.body

-- these bytes are the frame
pub record IsFrame (bytes : List ℕ) (f : Frame) : Type 0 where
  pub dst : length f.dst.0 ≡ 6
  pub src : length f.src.0 ≡ 6
  pub kind : f.kind < 2 ^ 16
  pub spelled : bytes ≡ frame_text f
