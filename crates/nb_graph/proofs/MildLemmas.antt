-- What leaves links as they are, or closes ports without them.
use Rattle.nb_ledger.specs.Flat.{Heard, Given, flat, event}
use Rattle.nb_ledger.specs.Flat.{Notice}
use Rattle.std.proofs.Common.{◌≡◌, ℕ, inl, inr, Bool, List, [], ◌∷◌, ◌++◌, Option, refl, ap, sym, ◌∙◌}
use Rattle.std.proofs.lemmas.Bool.{cases_eq, false≢true}
use Rattle.nb_ledger.specs.declared.port.ObjId.{ObjId}
use Rattle.nb_ledger.specs.declared.port.Port.{Port}
use Rattle.nb_ledger.specs.declared.port.PortState.{PortState}
use Rattle.nb_ledger.specs.declared.port.PortState.TheVariants.{Linked, Closed}
use Rattle.nb_ledger.specs.declared.event.GraphEvent.{GraphEvent}
use Rattle.nb_ledger.specs.Ledger.{Ledger, port, open_count, unused}
use Rattle.nb_ledger.specs.Changes.{SetsBusy, SetsHolds, SetsPort, Removes}
use Rattle.nb_ledger.specs.Settled.{Settles}
use Rattle.nb_effects.specs.Trace.{Nature, NodeEntry}
use Rattle.nb_effects.specs.Deeds.{Deed, writes, Stage}
use Rattle.nb_effects.specs.Follows.{UsesStack}
use Rattle.nb_effects.specs.Scene.{Scene, after_noted}
use Rattle.nb_graph.specs.Lives.{Loses, Seats, StaysTraced, Stays}
use Rattle.nb_effects.specs.Flows.{Still}
use Rattle.nb_effects.specs.Moves.{Calms}
use Rattle.nb_effects.proofs.LinkLemmas.{cases_port, port_but-same, port_but-other}
use Rattle.nb_effects.proofs.WholeLemmas.{ports_other, ports_same, used-port}
use Rattle.nb_graph.proofs.LivesLemmas.{Lives-note, Lives-then}
use Rattle.nb_effects.proofs.AccountLemmas.{Mild-same, Still-both}
use Rattle.nb_effects.specs.Moves.{Mild}

pub Mild-busy : {old new : Ledger} {x : ℕ} {b : Bool} → SetsBusy old new x b → Mild old new
Mild-busy s = Mild-same s.objects.same_made s.same_port

pub Mild-holds : {old new : Ledger} {x n : ℕ} → SetsHolds old new x n → Mild old new
Mild-holds s = Mild-same s.objects.same_made s.same_port

-- an object that isn't used goes
Mild-remove : {old new : Ledger} {x : ℕ} → Removes old new x → ((y k : ℕ) (q : Port) → y ≡ x → port old y k ≡ Linked q → ⊥) → Mild old new
Mild-remove {old} {new} {x} r n = record {
  same_made = r.same_made;
  links = λ y k q h. elim (cases_eq y x) [
    | inl e ↦ absurd (let z = sym (r.port_set y k ∙ ports_same x (λ _. Closed) (port old) y k e) ∙ h in cc)
    | inr m ↦ sym (r.port_set y k ∙ ports_other x (λ _. Closed) (port old) y k m) ∙ h
  ];
  keeps = λ y k q h. elim (cases_eq y x) [
    | inl e ↦ absurd (n y k q e h)
    | inr m ↦ r.port_set y k ∙ ports_other x (λ _. Closed) (port old) y k m ∙ h
  ];
  shuts = λ y k h. elim (cases_eq y x) [
    | inl e ↦ ap open_count (r.port_set y k ∙ ports_same x (λ _. Closed) (port old) y k e)
    | inr m ↦ ap open_count (r.port_set y k ∙ ports_other x (λ _. Closed) (port old) y k m) ∙ h
  ];
}

pub Mild-settle : {old new : Ledger} {before after : Heard} {id : ObjId} → Settles old new before after id → Mild old new
Mild-settle {old} {new} {id = id} s = elim s.how [
  | inl h ↦ Mild-same (ap (λ z. z.made) h.0) (λ x k. ap (λ z. port z x k) h.0)
  | inr h ↦ Mild-remove h.1 (λ y k q e i. false≢true (sym (used-port old y k (Linked q) i refl tt) ∙ ap (λ z. unused old z) e ∙ h.0))
]

-- a port without a link is written
pub Mild-port : {old new : Ledger} {p : Port} {v : PortState} → SetsPort old new p v → ((q : Port) → v ≡ Linked q → ⊥) → ((q : Port) → port old p.obj.0 p.slot ≡ Linked q → ⊥) → open_count v ≡ 0 → Mild old new
Mild-port {old} {new} {p} {v} a n m z = record {
  same_made = a.objects.same_made;
  links = λ x k q h. elim (cases_port x k p) [
    | inl i ↦ absurd (n q (sym (port_but-same p v (port old) x k i.0 i.1) ∙ sym (a.port_set x k) ∙ h))
    | inr o ↦ sym (a.port_set x k ∙ port_but-other p v (port old) x k o) ∙ h
  ];
  keeps = λ x k q h. elim (cases_port x k p) [
    | inl i ↦ absurd (m q (sym (ap (λ y. port old y k) i.0 ∙ ap (λ j. port old p.obj.0 j) i.1) ∙ h))
    | inr o ↦ a.port_set x k ∙ port_but-other p v (port old) x k o ∙ h
  ];
  shuts = λ x k h. elim (cases_port x k p) [
    | inl i ↦ ap open_count (a.port_set x k ∙ port_but-same p v (port old) x k i.0 i.1) ∙ z
    | inr o ↦ ap open_count (a.port_set x k ∙ port_but-other p v (port old) x k o) ∙ h
  ];
}

-- an event that says nothing of links
pub Lives-plain : {N L : Type 0} {known : Nature N L} {old new : Ledger} (stands : N → List (NodeEntry N L) → Type 0) (now : ℕ) (f g : Seats N) (o n : List (Stage N L) → List (Stage N L)) (e : GraphEvent) → Loses f.node g.node → g.scene ≡ after_noted e f.scene → Given f.told g.told (event (flat e) ∷ []) → ((st : List (Stage N L)) (ds : List (Deed N L)) (s : Scene) → UsesStack known now (after_noted e f.scene) (n st) ds s → UsesStack known now f.scene (o st) (writes e ∷ ds) s) → Calms {N = N} {L = L} known old new Still (writes e ∷ []) → StaysTraced stands known now f g Stays o n (Calms known old new Still) (e ∷ [])
Lives-plain {known = known} {old = old} {new = new} stands now f g o n e loses scene given notes m = Lives-note stands now f g o n e loses scene given notes {i = Calms known old new Still} m

-- and what comes then
pub Lives-next : {N L : Type 0} {known : Nature N L} {a b c : Ledger} {stands : N → List (NodeEntry N L) → Type 0} {now : ℕ} {f g h : Seats N} {q : ℕ → List L → List L → Type 0} {o m n : List (Stage N L) → List (Stage N L)} {xs ys : List GraphEvent} → StaysTraced stands known now f g Stays o m (Calms known a b Still) xs → StaysTraced stands known now g h q m n (Calms known b c Still) ys → StaysTraced stands known now f h q o n (Calms known a c Still) (xs ++ ys)
Lives-next k l = Lives-then k l (λ x w v i. (w, refl, i)) (λ ds es x y. Still-both x y)
