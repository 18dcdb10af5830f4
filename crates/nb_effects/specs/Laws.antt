-- What callers read of a call: what happened first, and what is left to be done.
use Rattle.std.specs.Prelude.{◌≡◌, ℕ, ◌+◌, ◌⊎◌, Bool, true, List, [], ◌∷◌, ◌++◌, Option, Some, None}
use Rattle.nb_terms.specs.declared.cause.Cause.{Cause}
use Rattle.nb_ledger.specs.declared.port.Port.{Port}
use Rattle.nb_ledger.specs.declared.event.Way.{Way}
use Rattle.nb_ledger.specs.declared.event.Way.TheVariants as way
use Rattle.nb_ledger.specs.declared.event.GraphEvent.TheVariants.{Made, Plugged, Entered, Closed, Freed}
use Rattle.nb_effects.specs.declared.effects.Fx.{Fx}
use Rattle.nb_effects.specs.declared.effects.Emit.{Emit}
use Rattle.nb_effects.specs.declared.effects.Make.{Make}
use Rattle.nb_ledger.specs.declared.port.ObjId.{ObjId}
use Rattle.nb_effects.specs.Whole.{port_at}
use Rattle.nb_effects.specs.Trace.{Nature, Said, NodeEntry, closed, silence}
use Rattle.nb_effects.specs.Deeds.{Deed, writes, begins, calls, turns, stays, Stage, Holds, MustUnplug, runs_of}
use Rattle.nb_effects.specs.Scene.{Scene, after_noted}
use Rattle.nb_effects.specs.Follows.{UsesStack}

-- what happened is `first`, and then what uses up gs
abbrev pub FirstThen : {N L : Type 0} → Nature N L → ℕ → Scene → List (Deed N L) → List (Stage N L) → List (Deed N L) → Scene → Type 0
FirstThen {N} {L} known now s first gs ds t = (es : List (Deed N L)) × (ds ≡ first ++ es) × UsesStack known now s gs es t

-- what happened is what uses up `tops`, and then what uses up `others`
abbrev pub InTurn : {N L : Type 0} → Nature N L → ℕ → Scene → List (Stage N L) → List (Stage N L) → List (Deed N L) → Scene → Type 0
InTurn {N} {L} known now s tops others ds t = (front : List (Deed N L)) × (back : List (Deed N L)) × (mid : Scene) × (ds ≡ front ++ back) × UsesStack known now s tops front mid × UsesStack known now mid others back t

-- a node is called, and then what it asks for is used up, and then what was left of its message
abbrev pub CallsThen : {N L : Type 0} → Nature N L → ℕ → Scene → (Bool → Fx N L → NodeEntry N L) → Port → Way → Said → (Bool → Fx N L → Option Said) → List (Stage N L) → List (Deed N L) → Scene → Type 0
CallsThen {N} {L} known now s entry p by m left gs ds t =
    (done : Bool) × (fx : Fx N L) × FirstThen known now s (calls p.obj.0 (entry done fx) ∷ []) (runs_of known p.obj.0 m done fx ++ Holds p by (left done fx) ∷ gs) ds t

-- it is entered before that
abbrev pub EntersThen : {N L : Type 0} → Nature N L → ℕ → Scene → List (Deed N L) → (Bool → Fx N L → NodeEntry N L) → Port → Way → Said → (Bool → Fx N L → Option Said) → List (Stage N L) → List (Deed N L) → Scene → Type 0
EntersThen {N} {L} known now s before entry p by m left gs ds t =
    (done : Bool) × (fx : Fx N L) × FirstThen known now s (before ++ writes (Entered p by) ∷ calls p.obj.0 (entry done fx) ∷ []) (runs_of known p.obj.0 m done fx ++ Holds p by (left done fx) ∷ gs) ds t

-- both ends of a link are closed, the other end's node hears of it, and then what it asks for is used up
abbrev pub ClosesBoth : {N L : Type 0} → Nature N L → ℕ → Scene → Port → Port → Cause → List (Stage N L) → List (Deed N L) → Scene → Type 0
ClosesBoth {N} {L} known now s p q c gs ds t =
    (fx : Fx N L) × FirstThen known now (after_noted (Closed q c) (after_noted (Closed p c) s)) (writes (Closed p c) ∷ writes (Closed q c) ∷ writes (Entered q way.Close) ∷ calls q.obj.0 (closed q.slot c now fx) ∷ []) (runs_of known q.obj.0 silence true fx ++ Holds q way.Close None ∷ MustUnplug p q ∷ gs) ds t

-- an object that was to be settled is freed, or stays
abbrev pub Settled : {N L : Type 0} → Nature N L → ℕ → Scene → ObjId → List (Stage N L) → List (Deed N L) → Scene → Type 0
Settled known now s x gs ds t = FirstThen known now (after_noted (Freed x) s) (writes (Freed x) ∷ []) gs ds t ⊎ FirstThen known now s (turns (stays x.0) ∷ []) gs ds t

-- an object is made with the next serial and this node, and its slot 0 is plugged to p
abbrev pub MakesOne : {N L : Type 0} → Nature N L → ℕ → Scene → Port → N → List (Stage N L) → List (Deed N L) → Scene → Type 0
MakesOne {N} {L} known now s p n gs ds t =
    (x : ObjId) × (x.0 ≡ s.made + 1) × FirstThen known now (after_noted (Plugged p (port_at x.0 0)) (after_noted (Made x (known.kind n)) s)) (writes (Made x (known.kind n)) ∷ begins x.0 n ∷ writes (Plugged p (port_at x.0 0)) ∷ []) gs ds t

-- an entry asks for one message up without a load, one down, one close, or one make, and for nothing else
abbrev pub IsOnlyUp : {N L : Type 0} → Fx N L → Emit L → Type 0
IsOnlyUp fx e = (fx.makes ≡ None) × ((fx.downs.first ≡ None) × (fx.downs.second ≡ None)) × ((fx.ups.first ≡ Some e) × (fx.ups.second ≡ None)) × (fx.closes.items ≡ []) × (e.load ≡ None)

abbrev pub IsOnlyDown : {N L : Type 0} → Fx N L → Emit L → Type 0
IsOnlyDown fx e = (fx.makes ≡ None) × ((fx.downs.first ≡ Some e) × (fx.downs.second ≡ None)) × ((fx.ups.first ≡ None) × (fx.ups.second ≡ None)) × (fx.closes.items ≡ []) × (e.load ≡ None)

abbrev pub IsOnlyClose : {N L : Type 0} → Fx N L → ℕ → Cause → Type 0
IsOnlyClose fx slot c = (fx.makes ≡ None) × ((fx.downs.first ≡ None) × (fx.downs.second ≡ None)) × ((fx.ups.first ≡ None) × (fx.ups.second ≡ None)) × (fx.closes.items ≡ (slot, c) ∷ [])

abbrev pub IsOnlyMake : {N L : Type 0} → Fx N L → Make N → Type 0
IsOnlyMake fx m = (fx.makes ≡ Some m) × ((fx.downs.first ≡ None) × (fx.downs.second ≡ None)) × ((fx.ups.first ≡ None) × (fx.ups.second ≡ None)) × (fx.closes.items ≡ [])
