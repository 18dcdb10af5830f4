-- A law of a connection: its pieces are those of one response, in order, and no byte is left out.
use Rattle.std.specs.Prelude.{◌≡◌, ◌⊎◌, ⊤, ℕ, ◌+◌, ◌<◌, ◌≤◌, length, Option}
use Rattle.nb_tcpseg.specs.SegmentText.{SegmentParts}
use Rattle.nb_lab.specs.declared.piece.Piece.{Piece}
use Rattle.nb_lab.specs.declared.connection.StreamPart.{StreamPart}
use Rattle.nb_lab.specs.declared.connection.State.{State}
use Rattle.nb_lab.specs.declared.connection.State.TheVariants.{Opened, Reading, Sending, Sent, Closed}
use Rattle.nb_lab.specs.declared.connection.Connection.{Connection}
use Rattle.nb_lab.specs.Pages.{response_text}
use Rattle.nb_lab.specs.Streams.{piece_end}
use Rattle.nb_lab.specs.Receptions.{IsSegmentTaken}

-- where a connection may stand that sent this piece: it waits still, or a later piece is sent, which begins within it or right
-- after it; or all bytes and the FIN are acknowledged; or nothing is received any more
abbrev pub GoesOnFrom : Piece → State → Type 0
GoesOnFrom p Opened = ⊥
GoesOnFrom p Reading = ⊥
GoesOnFrom p (Sending q) = (q.page ≡ p.page) × ((q ≡ p) ⊎ (p.from < q.from) × (q.from ≤ piece_end p))
GoesOnFrom p (Sent place) = place ≡ length (response_text p.page) + 1
GoesOnFrom p Closed = ⊤

-- whatever segment of the peer is taken
abbrev pub SendsInOrder : Type 0
SendsInOrder = (c d : Connection) (p : Piece) (s : SegmentParts) (images : ℕ) (part : Option StreamPart) → c.state ≡ Sending p
    → IsSegmentTaken c s images part d → GoesOnFrom p d.state
