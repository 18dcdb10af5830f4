-- The changes of the book, as steps of the run.
use Rattle.std.proofs.Common.{◌≡◌, ℕ, Bool, true, List, refl}
use Rattle.nb_ledger.specs.declared.port.Port.{Port}
use Rattle.nb_ledger.specs.declared.port.PortState.{PortState}
use Rattle.nb_ledger.specs.GraphRun.{GraphState, OnStack, with_port_state, freed, new_ports, but_at, ports_but}
use Rattle.nb_ledger.specs.Ledger.{Ledger, object_lives, holds, busy, rank, run_state}
use Rattle.nb_ledger.specs.Ledger as book
use Rattle.nb_ledger.specs.Changes.{SetsHolds, SetsBusy, SetsPort, Adds, Removes}

-- states that agree everywhere are one
pub state-ext : (s t : GraphState) → s.made ≡ t.made → ((x : ℕ) → s.live x ≡ t.live x) → ((x : ℕ) → s.holds x ≡ t.holds x) → ((x k : ℕ) → s.port x k ≡ t.port x k) → s.stack ≡ t.stack → s ≡ t
state-ext s t m l h p k = λ i. record { made = m i; live = λ x. l x i; holds = λ x. h x i; port = λ x j. p x j i; stack = k i }

-- the state after the holds of x are n
pub state-holds : {old new : Ledger} {x n : ℕ} (st : List OnStack) → SetsHolds old new x n → run_state new st ≡ record (run_state old st) { holds = but_at x n (holds old) }
state-holds st c = state-ext _ _ c.objects.same_made c.objects.same_live c.holds_set c.same_port refl

-- a flag is no part of the state
pub state-busy : {old new : Ledger} {x : ℕ} {b : Bool} (st : List OnStack) → SetsBusy old new x b → run_state new st ≡ run_state old st
state-busy st c = state-ext _ _ c.objects.same_made c.objects.same_live c.same_holds c.same_port refl

-- the state after the port p is v
pub state-port : {old new : Ledger} {p : Port} {v : PortState} (st : List OnStack) → SetsPort old new p v → run_state new st ≡ with_port_state p v (run_state old st)
state-port st c = state-ext _ _ c.objects.same_made c.objects.same_live c.same_holds c.port_set refl

-- the state after an object is made
pub state-made : {old new : Ledger} {x r : ℕ} (st : List OnStack) → Adds old new x r → run_state new st ≡ record (run_state old st) { made = x; live = but_at x true (object_lives old); holds = but_at x 0 (holds old); port = ports_but x new_ports (book.port old) }
state-made st c = state-ext _ _ c.made_set c.live_set c.holds_set c.port_set refl

-- the state after an object is freed
pub state-freed : {old new : Ledger} {x : ℕ} (st : List OnStack) → Removes old new x → run_state new st ≡ freed x (run_state old st)
state-freed st c = state-ext _ _ c.same_made c.live_set c.holds_set c.port_set refl
