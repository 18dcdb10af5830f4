-- What a segment leaves held.
use Rattle.std.proofs.Common.{◌≡◌, ◌≤◌, ◌<◌, ℕ, ◌^◌, ◌==◌, not, List, length, Option, Some, None, Bool, false, ◌∙◌, sym, arith}
use Rattle.std.proofs.lemmas.Bool.{le-ltb}
use Rattle.nb_reasm.specs.declared.held.Held.{Held}
use Rattle.nb_reasm.specs.HeldWindows.{window}
use Rattle.nb_streams.specs.Segments.{Incoming}
use Rattle.nb_streams.specs.Streams.{HeldBytes, next}
use Rattle.nb_tcp.specs.declared.variables.Variables.{Variables}
use Rattle.nb_tcp.specs.Numbers.{with_stop, with_next, upto_stop}
use Rattle.nb_tcp.specs.Receiving.{Receives}
use Rattle.nb_tcp.specs.ConnStanding.{waits_in, IsDelivered, HoldsRest}
use Rattle.nb_tcp.proofs.WindowStandsLemmas.{PutsSegment, held_then, put_stands}
use Rattle.nb_tcp.proofs.DeliveryLemmas.{grew_is, next_then, delivered_then}

pub record LeavesHeld (v : Variables) (h : HeldBytes) (s : Incoming) (received : Variables) (new : Option Held) (bytes : List ℕ) (lent : Bool) : Type 0 where
  pub upto : ℕ
  pub received_is : received ≡ with_next (with_stop v s) upto
  pub next_is : (with_next (with_stop v s) upto).next ≡ next (held_then v h s)
  pub held : HoldsRest new (held_then v h s) bytes lent
  pub waits : waits_in new ≡ not (v.next == (with_next (with_stop v s) upto).next)

upto_low : (stop : Option ℕ) (k : ℕ) → upto_stop stop k ≤ k
upto_low None k = omega arith
upto_low (Some stop) k = omega arith

pub next_low : (old : Option Held) (h : HeldBytes) (bytes : List ℕ) (lent : Bool) → HoldsRest old h bytes lent → IsDelivered old → next h < 2 ^ 31
next_low None h bytes lent was here = absurd here
next_low (Some w) h bytes lent was here = omega (arith, was.1.next, upto_low h.stop (window w).next, was.1.most)

pub leaves_held : (v : Variables) (h : HeldBytes) (s : Incoming) (received : Variables) (old new : Option Held) (bytes : List ℕ) (lent : Bool)
    → length s.body < 2 ^ 16 → v.next ≡ next h → v.stop ≡ h.stop → HoldsRest old h bytes lent → IsDelivered old → Receives v s old new received
    → LeavesHeld v h s received new bytes lent
leaves_held v h s received None new bytes lent short same stop was here got = absurd here
leaves_held v h s received (Some w) None bytes lent short same stop was here got = absurd got
leaves_held v h s received (Some w) (Some x) bytes lent short same stop was here got =
    let small : next h < 2 ^ 31 = next_low (Some w) h bytes lent was here in
    let puts : PutsSegment v h s (window w) (window x) = record { short = short; small = omega (arith, small, same); same = same; stop = stop; stands = was.1; here = here; put = got.put } in
    record {
      upto = (window x).next;
      received_is = got.after_is;
      next_is = next_then v h s (window w) (window x) puts;
      held = (was.0, put_stands v h s (window w) (window x) puts, was.2 ∙ sym (delivered_then v h s (window w) (window x) puts));
      waits = grew_is v h s (window w) (window x) puts;
    }

-- nothing waits, where all was delivered
pub none_waits : (old : Option Held) → IsDelivered old → waits_in old ≡ false
none_waits None here = absurd here
none_waits (Some w) here = le-ltb (window w).base (window w).next (omega (arith, here))
