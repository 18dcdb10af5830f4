-- The network: what a record does to the devices and to the opens that live. No word of scripts.
use Rattle.std.specs.Prelude.{◌≡◌, ℕ, ◌+◌, Bool, true, false, List, [], ◌∷◌, ◌++◌, Some, slice_get}
use Rattle.std.specs.List.{list_any}
use Rattle.nb_defs.specs.Records.{In, frame, tick, Out}
use Rattle.nb_ipv4.specs.PacketText.{PacketParts}
use Rattle.nb_ipv4.specs.UdpText.{UdpParts}
use Rattle.nb_ipv4.specs.EchoText.{EchoParts}
use Rattle.nb_tcpseg.specs.SegmentText.{SegmentParts}
use Rattle.nb_wire.specs.declared.address.Mac.{Mac}
use Rattle.nb_stack.specs.Client.{Client}
use Rattle.nb_stack.specs.Brings.{Brought, datagram, echo_reply, segment, Brings}
use Rattle.nb_stack.specs.Takes.{client_after}
use Rattle.nb_machine.specs.CommandRecords.{reply_records}
use Rattle.nb_machine.specs.Lives.{message, tcp_segment, time, Live}
use Rattle.nb_machine.specs.Kinds.{is_for, is_reply_for, is_segment_for, reply_beside}
use Rattle.nb_machine.specs.States.{State, net0, with_device, with_live, later_by}
use Rattle.nb_machine.specs.Takings.{Over, AllTake}

-- what a frame brought is for an open that lives
abbrev pub is_for_one : ℕ → Brought → List Live → Bool
is_for_one device (datagram p d) live = list_any (is_for device p d) live
is_for_one device (echo_reply p e) live = list_any (is_reply_for device p e) live
is_for_one device (segment from p g) live = list_any (is_segment_for device p g) live
is_for_one device m live = false

-- the record brings this frame on this device
pub data IsFrameOn : In → (device : ℕ) → List ℕ → Type 0 where
  on_net0 : (bytes : List ℕ) → IsFrameOn (frame bytes) net0 bytes

-- What the record of this number does: the records put, the state after it, and the opens that it ended.
pub data Network (s : State) (n : ℕ) : In → List Out → State → List Over → Type 0 where
  -- a frame for no open may change the neighbours, and be replied to
  passes_by : (r : In) (device : ℕ) (bytes : List ℕ) (link : Client) (m : Brought) → IsFrameOn r device bytes → slice_get s.devices device ≡ Some link →
      Brings link.up link.mac link.address bytes m → is_for_one device m s.live ≡ false →
      Network s n r (reply_records (reply_beside device s.live link m)) (with_device s device (client_after link m)) []
  -- a datagram goes to the open of its port, and to no other: no other takes it
  brings : (r : In) (device : ℕ) (bytes : List ℕ) (link : Client) (p : PacketParts) (d : UdpParts) (before behind after : List Live) (l : Live) (put : List Out) (over : List Over) →
      IsFrameOn r device bytes → slice_get s.devices device ≡ Some link → Brings link.up link.mac link.address bytes (datagram p d) →
      s.live ≡ before ++ l ∷ behind → is_for device p d l ≡ true → list_any (is_for device p d) before ≡ false → list_any (is_for device p d) behind ≡ false →
      AllTake s.devices (message n d.src_port d.body s.now) (l ∷ []) put after over →
      Network s n r put (with_live s (before ++ after ++ behind)) over
  -- an echo reply goes to the ping of its identifier, and to no other: no other takes it
  brings_reply : (r : In) (device : ℕ) (bytes : List ℕ) (link : Client) (p : PacketParts) (e : EchoParts) (before behind after : List Live) (l : Live) (put : List Out) (over : List Over) →
      IsFrameOn r device bytes → slice_get s.devices device ≡ Some link → Brings link.up link.mac link.address bytes (echo_reply p e) →
      s.live ≡ before ++ l ∷ behind → is_reply_for device p e l ≡ true → list_any (is_reply_for device p e) before ≡ false → list_any (is_reply_for device p e) behind ≡ false →
      AllTake s.devices (message n e.ident e.body s.now) (l ∷ []) put after over →
      Network s n r put (with_live s (before ++ after ++ behind)) over
  -- a segment goes to the connection of its port, and to no other: no other takes it
  brings_segment : (r : In) (device : ℕ) (bytes : List ℕ) (link : Client) (from : Mac) (p : PacketParts) (g : SegmentParts) (before behind after : List Live) (l : Live) (put : List Out) (over : List Over) →
      IsFrameOn r device bytes → slice_get s.devices device ≡ Some link → Brings link.up link.mac link.address bytes (segment from p g) →
      s.live ≡ before ++ l ∷ behind → is_segment_for device p g l ≡ true → list_any (is_segment_for device p g) before ≡ false → list_any (is_segment_for device p g) behind ≡ false →
      AllTake s.devices (tcp_segment n g s.now) (l ∷ []) put after over →
      Network s n r put (with_live s (before ++ after ++ behind)) over
  -- time comes to every open that lives, in order
  passes_time : (ms : ℕ) (after : List Live) (put : List Out) (over : List Over) →
      AllTake s.devices (time (s.now + ms)) s.live put after over →
      Network s n (tick ms) put (with_live (later_by s ms) after) over
