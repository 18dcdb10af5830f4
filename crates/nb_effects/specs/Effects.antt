-- What an entry may ask for.
use Rattle.std.specs.Prelude.{◌≡◌, ℕ, Bool, true, false, ◌<◌, ◌≤◌, List, [], ◌∷◌, ◌⊎◌, All, None, IfSome}
use Rattle.nb_terms.specs.declared.cause.Cause.{Cause}
use Rattle.nb_effects.specs.declared.effects.Emit.{Emit}
use Rattle.nb_effects.specs.declared.effects.Make.{Make}
use Rattle.nb_effects.specs.declared.effects.Few.{Few}
use Rattle.nb_effects.specs.declared.effects.Fx.{Fx}
use Rattle.nb_effects.specs.Trace.{NodeEntry}

-- no effect
abbrev pub IsNothing : {N L : Type 0} → Fx N L → Type 0
IsNothing fx =
    (fx.makes ≡ None) × (fx.downs.first ≡ None) × (fx.downs.second ≡ None) × (fx.ups.first ≡ None) × (fx.ups.second ≡ None) × (fx.closes.items ≡ []) × (fx.took ≡ 0)

-- the second is there only beside the first
abbrev pub IsFew : {L : Type 0} → Few (Emit L) → Type 0
IsFew f = f.first ≡ None → f.second ≡ None

-- without a load its bytes are some of the `len` bytes of the message being delivered
abbrev pub IsPartOf : {L : Type 0} → ℕ → Emit L → Type 0
IsPartOf len e = e.load ≡ None → (e.from ≤ e.to) × (e.to ≤ len)

-- a down leaves by a slot 1 to 3
abbrev pub IsDown : {L : Type 0} → ℕ → Emit L → Type 0
IsDown len e = (1 ≤ e.slot) × (e.slot ≤ 3) × IsPartOf len e

-- an up leaves by slot 0
abbrev pub IsUp : {L : Type 0} → ℕ → Emit L → Type 0
IsUp len e = (e.slot ≡ 0) × IsPartOf len e

-- downs all leave by one of the slots 1 to 3
abbrev pub AreDowns : {L : Type 0} → ℕ → Few (Emit L) → Type 0
AreDowns len f =
    IsFew f × IfSome f.first (IsDown len) × IfSome f.second (IsDown len) × IfSome f.first (λ e. IfSome f.second (λ d. d.slot ≡ e.slot))

-- ups leave by slot 0
abbrev pub AreUps : {L : Type 0} → ℕ → Few (Emit L) → Type 0
AreUps len f = IsFew f × IfSome f.first (IsUp len) × IfSome f.second (IsUp len)

-- closes name slots 0 to 3
abbrev pub AreCloseSlots : List (ℕ × Cause) → Type 0
AreCloseSlots xs = All (λ c. c.0 ≤ 3) xs

-- an object made has a lower rank, is plugged to a slot 1 to 3, and its node stands for the empty trace
abbrev pub IsMake : {N L : Type 0} → (N → ℕ) → (N → List (NodeEntry N L) → Type 0) → ℕ → Make N → Type 0
IsMake rank_of stands rank m = (rank_of m.node < rank) × (1 ≤ m.slot) × (m.slot ≤ 3) × stands m.node []

-- what an entry from below or by time may ask for
pub record MayAsk {N L : Type 0} (rank_of : N → ℕ) (stands : N → List (NodeEntry N L) → Type 0) (rank len : ℕ) (fx : Fx N L) : Type 0 where
  pub make : IfSome fx.makes (IsMake rank_of stands rank)
  pub downs : AreDowns len fx.downs
  pub ups : AreUps len fx.ups
  pub closes : AreCloseSlots fx.closes.items

-- what an entry from above or by a close may ask for: downs and closes
pub record MayAskBelow {N L : Type 0} (len : ℕ) (fx : Fx N L) : Type 0 where
  pub no_make : fx.makes ≡ None
  pub no_up : fx.ups.first ≡ None
  pub no_ups : fx.ups.second ≡ None
  pub downs : AreDowns len fx.downs
  pub closes : AreCloseSlots fx.closes.items

-- a close of this slot is asked for
abbrev pub ClosesSlot : ℕ → List (ℕ × Cause) → Type 0
ClosesSlot slot [] = ⊥
ClosesSlot slot (c ∷ cs) = (c.0 ≡ slot) ⊎ ClosesSlot slot cs

-- an entry from below takes at least one of the message's bytes, if there is one, or closes its port
abbrev pub TakesSome : {N L : Type 0} → ℕ → ℕ → Fx N L → Type 0
TakesSome slot len fx = (0 < len → 0 < fx.took) ⊎ ClosesSlot slot fx.closes.items

-- what an entry from above asks for, where it didn't run out of memory
abbrev pub MayAskDown : {N L : Type 0} → ℕ → Bool → Fx N L → Type 0
MayAskDown len true fx = MayAskBelow len fx
MayAskDown len false fx = Unit {0}

-- what an entry from below asks for, where it didn't run out of memory
abbrev pub MayAskUp : {N L : Type 0} → (N → ℕ) → (N → List (NodeEntry N L) → Type 0) → ℕ → ℕ → ℕ → Bool → Fx N L → Type 0
MayAskUp rank_of stands rank slot len true fx = MayAsk rank_of stands rank len fx × (fx.took ≤ len) × TakesSome slot len fx
MayAskUp rank_of stands rank slot len false fx = Unit {0}

-- and one by time
abbrev pub MayAskTime : {N L : Type 0} → (N → ℕ) → (N → List (NodeEntry N L) → Type 0) → ℕ → Bool → Fx N L → Type 0
MayAskTime rank_of stands rank true fx = MayAsk rank_of stands rank 0 fx
MayAskTime rank_of stands rank false fx = Unit {0}
