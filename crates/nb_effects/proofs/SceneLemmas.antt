-- What is seen of a book after a change of it.
use Rattle.std.proofs.Common.{◌≡◌, ℕ, ◌+◌, ◌-◌, ◌<◌, ◌^◌, inl, inr, length, ap, ◌∙◌, arith}
use Rattle.nb_ledger.specs.declared.port.ObjId.{ObjId}
use Rattle.nb_ledger.specs.declared.port.Port.{Port}
use Rattle.nb_ledger.specs.declared.port.PortState.{PortState}
use Rattle.nb_ledger.specs.declared.event.GraphEvent.TheVariants.{Made, Freed}
use Rattle.nb_ledger.specs.GraphRun.{port_but}
use Rattle.nb_ledger.specs.Ledger.{Ledger, port}
use Rattle.nb_ledger.specs.Changes.{SameObjects, SetsHolds, SetsBusy, SetsPort, Adds, Removes}
use Rattle.nb_effects.specs.Scene.{IsGraphFull, scene_of, with_ports, after_noted}
use Rattle.nb_effects.proofs.GraphLemmas.{same-length}

-- the same objects and ports
pub scene-same : {old new : Ledger} → SameObjects old new → ((x k : ℕ) → port new x k ≡ port old x k) → scene_of new ≡ scene_of old
scene-same s ports = λ i. record { port = λ x k. ports x k i; live = λ x. s.same_live x i; number = same-length s i; room = s.same_room i; made = s.same_made i }

pub scene-holds : {old new : Ledger} {x n : ℕ} → SetsHolds old new x n → scene_of new ≡ scene_of old
scene-holds s = scene-same s.objects s.same_port

pub scene-busy : {old new : Ledger} {x : ℕ} {b : _} → SetsBusy old new x b → scene_of new ≡ scene_of old
scene-busy s = scene-same s.objects s.same_port

-- one port is written
pub scene-port : {old new : Ledger} {p : Port} {v : PortState} → SetsPort old new p v → scene_of new ≡ with_ports (port_but p v (port old)) (scene_of old)
scene-port s = λ i. record { port = λ x k. s.port_set x k i; live = λ x. s.objects.same_live x i; number = same-length s.objects i; room = s.objects.same_room i; made = s.objects.same_made i }

-- and another
pub scene-ports : {old mid new : Ledger} {p q : Port} {v w : PortState} → SetsPort old mid p v → SetsPort mid new q w → scene_of new ≡ with_ports (port_but q w (port_but p v (port old))) (scene_of old)
scene-ports {p = p} {q = q} {w = w} a b = scene-port b ∙ ap (λ s. with_ports (port_but q w s.port) s) (scene-port a)

-- an object is added, or goes
pub scene-adds : {old new : Ledger} {r : ℕ} (y : ObjId) (kind : ℕ) → Adds old new y.0 r → length new.objects ≡ length old.objects + 1 → scene_of new ≡ after_noted (Made y kind) (scene_of old)
scene-adds y kind a one = λ i. record { port = λ x k. a.port_set x k i; live = λ x. a.live_set x i; number = one i; room = a.same_room i; made = a.made_set i }

pub scene-removes : {old new : Ledger} (y : ObjId) → Removes old new y.0 → length new.objects + 1 ≡ length old.objects → scene_of new ≡ after_noted (Freed y) (scene_of old)
scene-removes {old} {new} y r one =
    let less : length new.objects ≡ length old.objects - 1 = omega (arith, one) in
    λ i. record { port = λ x k. r.port_set x k i; live = λ x. r.live_set x i; number = less i; room = r.same_room i; made = r.same_made i }

-- something can be made
pub roomy-below : (l : Ledger) → length l.objects < l.room → l.made + 1 < 2 ^ 64 → IsGraphFull (scene_of l) → ⊥
roomy-below l h k (inl e) = absurd (omega arith)
roomy-below l h k (inr e) = absurd (omega arith)
