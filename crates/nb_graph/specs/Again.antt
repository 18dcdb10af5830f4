-- A message that goes up, given to a node again and again: what is still to come completes what was begun. Our own.
use Rattle.nb_ledger.specs.Flat.{Heard}
use Rattle.std.specs.Prelude.{ℕ, Bool, List, [], ◌∷◌, ◌++◌, drop, Option, Some, None}
use Rattle.nb_ledger.specs.declared.port.Port.{Port}
use Rattle.nb_ledger.specs.declared.event.Way.TheVariants as way
use Rattle.nb_ledger.specs.Ledger.{Ledger, busy}
use Rattle.nb_effects.specs.declared.effects.Fx.{Fx}
use Rattle.nb_effects.specs.Trace.{Nature, NodeEntry, Said, left, lent, up}
use Rattle.nb_effects.specs.Deeds.{Calls, Holds, rest, runs_of}
use Rattle.nb_effects.specs.Flows.{Delivering, asked_behind, asked_sent, by_no_slot}
use Rattle.nb_effects.specs.Moves.{HasAsked, always, none_due}
use Rattle.nb_graph.specs.Lives.{AllBack, LivelyInFor}

-- all of the message is given
abbrev pub Delivered : {N L : Type 0} → (N → List (NodeEntry N L) → Type 0) → Nature N L → ℕ → Port → Said → Ledger → Ledger → List N → List N → Heard → Heard → Type 0
Delivered {N} {L} stands known now at m a c na nc before after =
    (k : LivelyInFor stands known now at.obj.0 a c na nc (AllBack (busy a) at.obj.0 []) always none_due (Delivering a at m.bytes by_no_slot) (λ st. Holds at way.Up (Some m) ∷ st) (λ st. Holds at way.Up None ∷ st) before after)
    × Calls at.obj.0 (λ done fx. up at.slot m now done fx) k.lives.deeds

-- it is, or its rest is still to be given, from here to any end
abbrev pub Gives : {N L : Type 0} → (N → List (NodeEntry N L) → Type 0) → Nature N L → ℕ → Port → Said → Ledger → Ledger → List N → List N → Heard → Heard → Option Said → Type 0
Gives stands known now at m a b na nb before mid None = Delivered stands known now at m a b na nb before mid
Gives {N} {L} stands known now at m a b na nb before mid (Some r) =
    (c : Ledger) (nc : List N) (after : Heard) → Delivered stands known now at r b c nb nc mid after → Delivered stands known now at m a c na nc before after

-- the same after the node was called
abbrev pub GoesFurther : {N L : Type 0} → (N → List (NodeEntry N L) → Type 0) → Nature N L → ℕ → Port → Said → Bool → Fx N L → Ledger → Ledger → List N → List N → Heard → Heard → Type 0
GoesFurther stands known now at m done fx a c na nc before after =
    LivelyInFor stands known now at.obj.0 a c na nc (AllBack (busy a) at.obj.0 (lent fx)) (HasAsked at.obj.0 (asked_sent known m.bytes done fx)) none_due (Delivering a at (asked_behind m.bytes done fx) (asked_sent known m.bytes done fx)) (λ st. runs_of known at.obj.0 m done fx ++ Holds at way.Up (rest m done fx) ∷ st) (λ st. Holds at way.Up None ∷ st) before after

abbrev pub GoesOn : {N L : Type 0} → (N → List (NodeEntry N L) → Type 0) → Nature N L → ℕ → Port → Said → Bool → Fx N L → Ledger → Ledger → List N → List N → Heard → Heard → Option Said → Type 0
GoesOn stands known now at m done fx a b na nb before mid None = GoesFurther stands known now at m done fx a b na nb before mid
GoesOn {N} {L} stands known now at m done fx a b na nb before mid (Some r) =
    (c : Ledger) (nc : List N) (after : Heard) → Delivered stands known now at r b c nb nc mid after → GoesFurther stands known now at m done fx a c na nc before after

-- what a node left of a message is given to it, or dropped
abbrev pub Left : {N L : Type 0} → (N → List (NodeEntry N L) → Type 0) → Nature N L → ℕ → Port → ℕ → Said → Ledger → Ledger → List N → List N → Heard → Heard → Type 0
Left stands known now at took m a c na nc before after =
    LivelyInFor stands known now at.obj.0 a c na nc (AllBack (busy a) at.obj.0 []) always none_due (Delivering a at (drop took m.bytes) by_no_slot) (λ st. Holds at way.Up (left took m) ∷ st) (λ st. Holds at way.Up None ∷ st) before after

abbrev pub LeftOn : {N L : Type 0} → (N → List (NodeEntry N L) → Type 0) → Nature N L → ℕ → Port → ℕ → Said → Ledger → Ledger → List N → List N → Heard → Heard → Option Said → Type 0
LeftOn stands known now at took m a b na nb before mid None = Left stands known now at took m a b na nb before mid
LeftOn {N} {L} stands known now at took m a b na nb before mid (Some r) =
    (c : Ledger) (nc : List N) (after : Heard) → Delivered stands known now at r b c nb nc mid after → Left stands known now at took m a c na nc before after
