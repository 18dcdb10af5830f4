-- the servers: what they make of a frame, and of the time
use Rattle.std.specs.Prelude.{◌≡◌, ℕ, ◌+◌, ◌==◌, Bool, true, false, bit_and, nat_le, List, Option, Some, None, if◌then◌else◌}
use Rattle.std.specs.Option.{option_map}
use Rattle.nb_tcpseg.specs.SegmentText.{SegmentParts}
use Rattle.nb_tftpmsg.specs.Packets.{Message, rrq, block, ack, error, oack}
use Rattle.nb_lab.specs.declared.hosts.Peer.{Peer}
use Rattle.nb_lab.specs.declared.image.Image.{Image}
use Rattle.nb_lab.specs.declared.silence.Silence.{Silence}
use Rattle.nb_lab.specs.declared.transfer.FilePart.{FilePart}
use Rattle.nb_lab.specs.declared.transfer.FilePart.TheVariants.{NotFound}
use Rattle.nb_lab.specs.declared.transfer.Acknowledged.{Acknowledged}
use Rattle.nb_lab.specs.declared.transfer.Acknowledged.TheVariants.{Other, Next, Whole}
use Rattle.nb_lab.specs.declared.transfer.Transfer.{Transfer}
use Rattle.nb_lab.specs.declared.connection.StreamPart.{StreamPart}
use Rattle.nb_lab.specs.declared.connection.StreamPart.TheVariants.{Opening}
use Rattle.nb_lab.specs.declared.connection.Connection.{Connection}
use Rattle.nb_lab.specs.declared.answer.Answer.{Answer}
use Rattle.nb_lab.specs.declared.answer.Answer.TheVariants.{Interface, File, Stream}
use Rattle.nb_lab.specs.declared.server.Server.{Server}
use Rattle.nb_lab.specs.Files.{last_file_part, transfer_begun, acknowledged, after_acknowledged}
use Rattle.nb_lab.specs.Requests.{image_in}
use Rattle.nb_lab.specs.Connections.{opened, waiting_part}
use Rattle.nb_lab.specs.Receptions.{IsSegmentTaken}
use Rattle.nb_lab.specs.Bringing.{FrameBrought, question, packet, segment, FrameBrings}

-- nobody has asked the servers of so many images anything
abbrev pub fresh : ℕ → Server
fresh images = record { images = images; transfer = None; connection = None }

-- what the TFTP server sends, and its transfer then
pub record FileStep : Type 0 where
  pub sent : Option FilePart
  pub transfer : Option Transfer

abbrev pub file_step : Option FilePart → Option Transfer → FileStep
file_step sent transfer = record { sent = sent; transfer = transfer }

-- a request for an image begins a transfer in place of the last one
abbrev pub requested : Option Transfer → Peer → Bool → Option Image → FileStep
requested before from options None = file_step (Some NotFound) before
requested before from options (Some image) = file_step (Some (last_file_part (transfer_begun from image options))) (Some (transfer_begun from image options))

abbrev pub by_acknowledged : Transfer → ℕ → Acknowledged → FileStep
by_acknowledged t n (Next sent) = file_step (Some sent) (Some (after_acknowledged t n (Next sent)))
by_acknowledged t n Whole = file_step None None
by_acknowledged t n Other = file_step None (Some t)

-- an acknowledgement counts from the transfer's peer
abbrev pub IsAcknowledged : Option Transfer → Peer → ℕ → FileStep → Type 0
IsAcknowledged None from n step = step ≡ file_step None None
IsAcknowledged (Some t) from n step =
    (t.peer ≡ from → step ≡ by_acknowledged t n (acknowledged t n)) × ((t.peer ≡ from → ⊥) → step ≡ file_step None (Some t))

-- and so does an error, by which the peer gives up
abbrev pub IsGivenUp : Option Transfer → Peer → FileStep → Type 0
IsGivenUp None from step = step ≡ file_step None None
IsGivenUp (Some t) from step = (t.peer ≡ from → step ≡ file_step None None) × ((t.peer ≡ from → ⊥) → step ≡ file_step None (Some t))

-- what a packet to a port comes to: requests go to port 69, all else to that of transfers
abbrev pub IsFileStep : Server → Peer → ℕ → Message → FileStep → Type 0
IsFileStep s from port (rrq path options) step =
    (port ≡ 69 → step ≡ requested s.transfer from options (image_in s.images path)) × ((port ≡ 69 → ⊥) → step ≡ file_step None s.transfer)
IsFileStep s from port (block n bytes) step = step ≡ file_step None s.transfer
IsFileStep s from port (ack n) step =
    (port ≡ 50000 → IsAcknowledged s.transfer from n step) × ((port ≡ 50000 → ⊥) → step ≡ file_step None s.transfer)
IsFileStep s from port (error code text) step =
    (port ≡ 50000 → IsGivenUp s.transfer from step) × ((port ≡ 50000 → ⊥) → step ≡ file_step None s.transfer)
IsFileStep s from port (oack blksize tsize) step = step ≡ file_step None s.transfer

-- SYN without ACK and RST
abbrev pub begins : SegmentParts → Bool
begins s = bit_and s.flags 22 == 2

-- the connection goes on with this peer
pub record ServerGoesOn (c : Connection) (from : Peer) (s : SegmentParts) (images : ℕ) (answer : Option Answer) (after : Option Connection) : Type 0 where
  pub part : Option StreamPart
  pub next : Connection
  pub taken : IsSegmentTaken c s images part next
  pub sent : answer ≡ option_map (Stream from next.expected) part
  pub stands : after ≡ Some next

-- a segment counts from the connection's peer
abbrev pub IsStreamed : Option Connection → Peer → SegmentParts → ℕ → Option Answer → Option Connection → Type 0
IsStreamed None from s images answer after = (answer ≡ None) × (after ≡ None)
IsStreamed (Some c) from s images answer after =
    (c.peer ≡ from → ServerGoesOn c from s images answer after) × ((c.peer ≡ from → ⊥) → (answer ≡ None) × (after ≡ Some c))

-- what a segment comes to: to port 80 a SYN begins a connection in place of the last one
pub record IsStreamStep (before : Option Connection) (from : Peer) (s : SegmentParts) (images : ℕ) (answer : Option Answer) (after : Option Connection) : Type 0 where
  pub other_port : (s.dst_port ≡ 80 → ⊥) → (answer ≡ None) × (after ≡ before)
  pub opens : s.dst_port ≡ 80 → begins s ≡ true
      → (after ≡ Some (opened from s)) × (answer ≡ Some (Stream from (opened from s).expected Opening))
  pub goes_on : s.dst_port ≡ 80 → begins s ≡ false → IsStreamed before from s images answer after

-- what the servers answer to what a frame brings, and how they stand then
abbrev pub Answers : Server → FrameBrought → Option Answer → Server → Type 0
Answers s (question mac ip) answer after = (answer ≡ Some (Interface mac ip)) × (after ≡ s)
Answers s (packet from port text) answer after =
    (step : FileStep) × IsFileStep s from port text step × (answer ≡ option_map (File from) step.sent) × (after ≡ record s { transfer = step.transfer })
Answers s (segment from parts) answer after =
    (c : Option Connection) × IsStreamStep s.connection from parts s.images answer c × (after ≡ record s { connection = c })

-- a frame is taken: what it brings is answered, and one that brings nothing is not
pub record TakesFrame (s : Server) (bytes : List ℕ) (answer : Option Answer) (after : Server) : Type 0 where
  pub brings : (b : FrameBrought) → FrameBrings bytes b → Answers s b answer after
  pub nothing : ((b : FrameBrought) → FrameBrings bytes b → ⊥) → (answer ≡ None) × (after ≡ s)

-- after three TICKs without an acknowledgement what waits for it is sent again
abbrev pub is_time : Silence → Bool
is_time silence = nat_le 3 (silence.ticks + 1)

abbrev pub later : Silence → Silence
later silence = record { ticks = if nat_le 3 (silence.ticks + 1) then 0 else silence.ticks + 1 }

abbrev pub transfer_later : Transfer → Transfer
transfer_later t = record t { silence = later t.silence }

abbrev pub connection_later : Connection → Connection
connection_later c = record c { silence = later c.silence }

abbrev pub server_later : Server → Server
server_later s = record s { transfer = option_map transfer_later s.transfer; connection = option_map connection_later s.connection }

abbrev pub file_again : Transfer → Option Answer
file_again t = if is_time t.silence then Some (File t.peer (last_file_part t)) else None

abbrev pub stream_again : Connection → Option Answer
stream_again c = if is_time c.silence then option_map (Stream c.peer c.expected) (waiting_part c.state) else None
