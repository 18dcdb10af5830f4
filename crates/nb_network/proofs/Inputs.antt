-- A segment for a connection's port comes to it, whichever address it was sent to.
use Rattle.std.proofs.Common.{◌≡◌, ℕ, true}
use Rattle.nb_tcpseg.specs.SegmentText.{SegmentParts, IsSegment}
use Rattle.nb_tcpseg.proofs.HeaderLemmas.{laid_out}
use Rattle.nb_wire.specs.declared.address.Ip4.{Ip4}
use Rattle.nb_chains.specs.declared.arrival.Arrival.{Arrival}
use Rattle.nb_machine.specs.Kinds.{is_connection}
use Rattle.nb_machine.specs.Lives.{tcp_segment, Live}
use Rattle.nb_network.specs.declared.living.Living.{Living}
use Rattle.nb_open.specs.Exchanges.{IsInput, by_segment, SuitsBy}
use Rattle.nb_network.specs.Many.{bare_open}

pub connection_input : (o : Living) (l : Live) (n : ℕ) (a : Arrival) (now : ℕ) (dst : Ip4) (x : SegmentParts) → is_connection l.kind ≡ true → SuitsBy l.kind l a → IsSegment a.source dst a.body.now x → IsInput (bare_open o) l n a now (tcp_segment n x now)
connection_input o l n a now dst x c suits is = by_segment x c suits (laid_out a.source dst a.body.now x is)
