-- own: how long a frame is that a client puts, its header of 14 bytes and a body of at most 1,508
use Rattle.std.specs.Prelude.{◌≡◌, ◌⊎◌, ℕ, ◌≤◌, List, [], length}

-- a frame without its check sequence has 14 to 1,522 bytes
pub record IsFrameSize (n : ℕ) : Type 0 where
  pub least : 14 ≤ n
  pub most : n ≤ 1522

-- no bytes, or as many as a frame has
abbrev pub IsReplySize : List ℕ → Type 0
IsReplySize bytes = (bytes ≡ []) ⊎ IsFrameSize (length bytes)
