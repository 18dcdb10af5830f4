-- A set of objects that no link leaves, and what a call is that stays within it: our own.
use Rattle.std.specs.Prelude.{◌≡◌, ℕ, Bool, true, List, [], ◌∷◌, None}
use Rattle.std.specs.List.{AllByRecursion}
use Rattle.nb_ledger.specs.declared.port.PortState.{PortState}
use Rattle.nb_ledger.specs.declared.port.PortState.TheVariants.{Open, Linked, Leaving, Closed as Shut}
use Rattle.nb_ledger.specs.declared.event.GraphEvent.{GraphEvent}
use Rattle.nb_ledger.specs.declared.event.GraphEvent.TheVariants.{Made, Held, LetGo, Plugged, Entered, Left, Dropped, Closed, Unplugged, Freed}
use Rattle.nb_graph.specs.Trace.{NodeEntry, up, down, closed, time, regain}
use Rattle.nb_graph.specs.Deeds.{Deed, writes, begins, calls, turns, Stage, Shut as WasShut, MustHear, Holds, Makes, MustMake, MustBegin, MustPlug, Closes, MustShut, Ends, Sends, Gives, Offers, Ticks, Returns, Wants, MustUnplug, Settles, LetsAllGo}

-- a port in this state has no link that leaves the set
abbrev pub LeadsWithin : (ℕ → Bool) → PortState → Type 0
LeadsWithin own Open = Unit {0}
LeadsWithin own (Linked q) = own q.obj.0 ≡ true
LeadsWithin own (Leaving q) = own q.obj.0 ≡ true
LeadsWithin own Shut = Unit {0}

-- no port of the set has
abbrev pub AreLinkedWithin : (ℕ → Bool) → (ℕ → ℕ → PortState) → Type 0
AreLinkedWithin own f = (x k : ℕ) → own x ≡ true → LeadsWithin own (f x k)

-- an event of these objects, by which none is made
abbrev pub IsEventWithin : (ℕ → Bool) → GraphEvent → Type 0
IsEventWithin own (Made x kind) = ⊥
IsEventWithin own (Held x) = own x.0 ≡ true
IsEventWithin own (LetGo x) = own x.0 ≡ true
IsEventWithin own (Plugged p q) = (own p.obj.0 ≡ true) × (own q.obj.0 ≡ true)
IsEventWithin own (Entered p by) = own p.obj.0 ≡ true
IsEventWithin own (Left p) = own p.obj.0 ≡ true
IsEventWithin own (Dropped p) = own p.obj.0 ≡ true
IsEventWithin own (Closed p cause) = own p.obj.0 ≡ true
IsEventWithin own (Unplugged p q) = (own p.obj.0 ≡ true) × (own q.obj.0 ≡ true)
IsEventWithin own (Freed x) = own x.0 ≡ true

-- what is asked for of these objects, and neither a make nor the end of the graph
abbrev pub IsStageWithin : {N L : Type 0} → (ℕ → Bool) → Stage N L → Type 0
IsStageWithin own (WasShut p cause) = own p.obj.0 ≡ true
IsStageWithin own (MustHear p cause) = own p.obj.0 ≡ true
IsStageWithin own (Holds p by msg) = own p.obj.0 ≡ true
IsStageWithin own (Makes p node) = ⊥
IsStageWithin own (MustMake x node) = ⊥
IsStageWithin own (MustBegin x node) = ⊥
IsStageWithin own (MustPlug p q) = (own p.obj.0 ≡ true) × (own q.obj.0 ≡ true)
IsStageWithin own (Closes p cause) = own p.obj.0 ≡ true
IsStageWithin own (MustShut p cause) = own p.obj.0 ≡ true
IsStageWithin own (Ends after cause) = ⊥
IsStageWithin own (Sends p msg) = own p.obj.0 ≡ true
IsStageWithin own (Gives p msg) = own p.obj.0 ≡ true
IsStageWithin own (Offers p msg) = own p.obj.0 ≡ true
IsStageWithin own (Ticks x) = own x ≡ true
IsStageWithin own (Returns x load) = own x ≡ true
IsStageWithin own (Wants event) = IsEventWithin own event
IsStageWithin own (MustUnplug p q) = (own p.obj.0 ≡ true) × (own q.obj.0 ≡ true)
IsStageWithin own (Settles x) = own x ≡ true
IsStageWithin own LetsAllGo = ⊥

abbrev pub AreStagesWithin : {N L : Type 0} → (ℕ → Bool) → List (Stage N L) → Type 0
AreStagesWithin own gs = AllByRecursion (IsStageWithin own) gs

-- nothing is asked for but that a message enters, time comes, or a port is closed
abbrev pub IsPlainStage : {N L : Type 0} → Stage N L → Type 0
IsPlainStage (WasShut p cause) = Unit {0}
IsPlainStage (MustHear p cause) = Unit {0}
IsPlainStage (Holds p by msg) = Unit {0}
IsPlainStage (Makes p node) = ⊥
IsPlainStage (MustMake x node) = ⊥
IsPlainStage (MustBegin x node) = ⊥
IsPlainStage (MustPlug p q) = ⊥
IsPlainStage (Closes p cause) = Unit {0}
IsPlainStage (MustShut p cause) = Unit {0}
IsPlainStage (Ends after cause) = ⊥
IsPlainStage (Sends p msg) = Unit {0}
IsPlainStage (Gives p msg) = Unit {0}
IsPlainStage (Offers p msg) = Unit {0}
IsPlainStage (Ticks x) = Unit {0}
IsPlainStage (Returns x load) = Unit {0}
IsPlainStage (Wants event) = ⊥
IsPlainStage (MustUnplug p q) = Unit {0}
IsPlainStage (Settles x) = Unit {0}
IsPlainStage LetsAllGo = ⊥

abbrev pub ArePlain : {N L : Type 0} → List (Stage N L) → Type 0
ArePlain gs = AllByRecursion IsPlainStage gs

-- an entry asks for no make
abbrev pub AsksNoMake : {N L : Type 0} → NodeEntry N L → Type 0
AsksNoMake (up slot msg now done fx) = done ≡ true → fx.makes ≡ None
AsksNoMake (down msg now done fx) = done ≡ true → fx.makes ≡ None
AsksNoMake (closed slot cause now fx) = fx.makes ≡ None
AsksNoMake (time now done fx) = done ≡ true → fx.makes ≡ None
AsksNoMake (regain load) = Unit {0}

-- no entry of x does
abbrev pub MakesNone : {N L : Type 0} → ℕ → List (Deed N L) → Type 0
MakesNone x [] = Unit {0}
MakesNone x (writes e ∷ ds) = MakesNone x ds
MakesNone x (begins y n ∷ ds) = MakesNone x ds
MakesNone x (calls y e ∷ ds) = (x ≡ y → AsksNoMake e) × MakesNone x ds
MakesNone x (turns u ∷ ds) = MakesNone x ds

-- this event doesn't free x
abbrev pub FreesNot : ℕ → GraphEvent → Type 0
FreesNot x (Made y kind) = Unit {0}
FreesNot x (Held y) = Unit {0}
FreesNot x (LetGo y) = Unit {0}
FreesNot x (Plugged p q) = Unit {0}
FreesNot x (Entered p by) = Unit {0}
FreesNot x (Left p) = Unit {0}
FreesNot x (Dropped p) = Unit {0}
FreesNot x (Closed p cause) = Unit {0}
FreesNot x (Unplugged p q) = Unit {0}
FreesNot x (Freed y) = y.0 ≡ x → ⊥

-- none of these does
abbrev pub FreesNone : ℕ → List GraphEvent → Type 0
FreesNone x [] = Unit {0}
FreesNone x (e ∷ es) = FreesNot x e × FreesNone x es
