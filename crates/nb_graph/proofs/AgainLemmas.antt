-- A message given again and again: one round, and those that come then.
use Rattle.nb_ledger.specs.Flat.{Heard}
use Rattle.std.proofs.Common.{◌≡◌, ◌+◌, ◌<◌, ◌≤◌, IfSome, arith, length, ℕ, Bool, List, Option, Some, None}
use Rattle.nb_ledger.specs.declared.message.Msg.{Msg}
use Rattle.nb_ledger.specs.declared.port.Port.{Port}
use Rattle.nb_ledger.specs.Ledger.{Ledger}
use Rattle.nb_effects.specs.Trace.{Nature, NodeEntry, Said}
use Rattle.nb_effects.specs.declared.effects.Fx.{Fx}
use Rattle.nb_graph.specs.Again.{Delivered, Gives, GoesFurther, GoesOn, Left, LeftOn}

module _ {N L : Type 0} (stands : N → List (NodeEntry N L) → Type 0) (known : Nature N L) (now : ℕ) (at : Port) (m : Said) (a b d : Ledger) (na nb nd : List N) (before mid next : Heard) where
  pub GoesOn-left : (took : ℕ) (done : Bool) (fx : Fx N L) → ((c : Ledger) (nc : List N) (after : Heard) → Left stands known now at took m b c nb nc mid after → GoesFurther stands known now at m done fx a c na nc before after) → (r : Option Said) → LeftOn stands known now at took m b d nb nd mid next r → GoesOn stands known now at m done fx a d na nd before next r
  GoesOn-left took done fx h None x = h d nd next x
  GoesOn-left took done fx h (Some r) x = λ c nc after k. h c nc after (x c nc after k)

  pub Gives-goes : (done : Bool) (fx : Fx N L) → ((c : Ledger) (nc : List N) (after : Heard) → GoesFurther stands known now at m done fx b c nb nc mid after → Delivered stands known now at m a c na nc before after) → (r : Option Said) → GoesOn stands known now at m done fx b d nb nd mid next r → Gives stands known now at m a d na nd before next r
  Gives-goes done fx h None x = h d nd next x
  Gives-goes done fx h (Some r) x = λ c nc after k. h c nc after (x c nc after k)

  pub Gives-then : (n : Said) → ((c : Ledger) (nc : List N) (after : Heard) → Delivered stands known now at n b c nb nc mid after → Delivered stands known now at m a c na nc before after) → (r : Option Said) → Gives stands known now at n b d nb nd mid next r → Gives stands known now at m a d na nd before next r
  Gives-then n h None x = h d nd next x
  Gives-then n h (Some r) x = λ c nc after k. h c nc after (x c nc after k)

-- what is left gets shorter
pub less-then : (r : Option Msg) (n took m : ℕ) → n ≤ m → IfSome r (λ x. (length x.first.now + length x.second.now + took ≡ n) × (took < n)) → IfSome r (λ x. length x.first.now + length x.second.now ≤ m)
less-then None n took m h k = tt
less-then (Some r) n took m h k = omega (arith, h, k.0)

-- and where something is left, the port that it came by is open
pub open-then : {P : Type 0} (r : Option Msg) (n took : ℕ) → IfSome r (λ x. (length x.first.now + length x.second.now + took ≡ n) × (took < n)) → (took < n → (0 < took) × P) → IfSome r (λ x. P)
open-then None n took k h = tt
open-then (Some r) n took k h = (h k.1).1
