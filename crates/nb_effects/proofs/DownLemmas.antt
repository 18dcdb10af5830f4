-- What is pending on links, through a whole entry from above.
use Rattle.nb_effects.specs.Trace.{Nature}
use Rattle.std.proofs.Common.{◌≡◌, ℕ, ◌⊎◌, inl, inr, true, List, [], ◌∷◌, ◌++◌, cond, refl, ap, sym, ◌∙◌, subst, append_assoc, append-nil, arith}
use Rattle.std.proofs.lemmas.Bool.{cases_eq, eq-eqb}
use Rattle.nb_ledger.specs.declared.port.Port.{Port}
use Rattle.nb_ledger.specs.declared.port.PortState.{PortState}
use Rattle.nb_ledger.specs.declared.port.PortState.TheVariants.{Open, Linked, Leaving, Closed}
use Rattle.nb_ledger.specs.declared.event.GraphEvent.TheVariants.{Entered}
use Rattle.nb_ledger.specs.declared.event.Way.TheVariants.{Down}
use Rattle.nb_ledger.specs.GraphRun.{IsOpen}
use Rattle.nb_ledger.specs.Ledger.{Ledger, port, rank, open_count}
use Rattle.nb_effects.specs.Deeds.{Deed, writes}
use Rattle.nb_effects.specs.Whole.{IsLinked, port_at}
use Rattle.nb_effects.specs.Accounts.{Account, JoinedEnds, joined, parted, account, enters, rests, is_same_port}
use Rattle.nb_effects.specs.Flows.{IsClear, IsShut, Still, Giving, Following, Asking, own, counted_taken}
use Rattle.nb_effects.specs.Moves.{Calms}
use Rattle.nb_effects.proofs.LivensLemmas.{port-eq}
use Rattle.nb_effects.proofs.AccountLemmas.{Calms-then}
use Rattle.nb_effects.proofs.CalmLemmas.{linked-apart}
use Rattle.nb_effects.proofs.FlowLemmas.{IsClear-fewer, own-clear}
use Rattle.nb_effects.proofs.PassLemmas.{own-at, own-else, counted-at, counted-else}

-- m is to be taken by the end `at`, by which it entered
abbrev Given : Ledger → Port → List ℕ → Port → Port → Account → List ℕ → List ℕ → Type 0
Given l at m p q b w v = IsShut l p ⊎ (IsClear l p at.obj.0 w × (((q ≡ at) × (b.entered ≡ true) × (w ≡ m ++ v)) ⊎ ((q ≡ at → ⊥) × (w ≡ v))))

pub nil-left : {A : Type 0} (xs ys : List A) → xs ++ ys ≡ [] → xs ≡ []
nil-left [] ys e = refl
nil-left (x ∷ xs) ys e = absurd (cc)

pub nil-right : {A : Type 0} (xs ys : List A) → xs ++ ys ≡ [] → ys ≡ []
nil-right [] ys e = e
nil-right (x ∷ xs) ys e = absurd (cc)

pub is-port-same : (p q : Port) → p ≡ q → is_same_port p q ≡ true
is-port-same p q e = rw (eq-eqb p.obj.0 q.obj.0 (ap (λ z. z.obj.0) e), eq-eqb p.slot q.slot (ap (λ z. z.slot) e)) refl

-- the node that m is given to is called, and its downs go
module _ (l : Ledger) (at : Port) (zero : at.slot ≡ 0) (opened : IsOpen (port l at.obj.0 at.slot)) (links : IsLinked (port l) (rank l)) (sent whole : ℕ → List ℕ) (left m : List ℕ) (none : sent 0 ≡ []) (only : (k : ℕ) → (k ≡ 0 → ⊥) → whole k ≡ []) (all : whole 0 ++ left ≡ m) where
  the_at : (q : Port) → q ≡ at → q ≡ port_at at.obj.0 0
  the_at q e = e ∙ port-eq at (port_at at.obj.0 0) refl zero

  not_at : (q : Port) → (q ≡ at → ⊥) → q ≡ port_at at.obj.0 0 → ⊥
  not_at q n e = n (e ∙ sym (port-eq at (port_at at.obj.0 0) refl zero))

  elsewhere : (q : Port) (b : Account) → (q ≡ at → ⊥) → counted_taken at.obj.0 whole q b ≡ []
  elsewhere q b n = counted-else at.obj.0 whole q b (λ e. only q.slot (λ z. n (port-eq q at e (z ∙ sym zero))))

  not-shut : (q : Port) → q ≡ at → IsShut l q → ⊥
  not-shut q e i = go (port l at.obj.0 at.slot) opened (sym (ap (λ z. open_count (port l z.obj.0 z.slot)) e) ∙ i)
    where
      go : (v : PortState) → IsOpen v → open_count v ≡ 0 → ⊥
      go Open o i = cc
      go (Linked r) o i = cc
      go (Leaving r) o i = o
      go Closed o i = o

  takes : (p q : Port) (y z : Account) (s t w v : List ℕ) → Given l at m p q y w v → JoinedEnds l p q s t w → (u : List ℕ) × Asking l at.obj.0 sent whole p q y w u × Following l (port_at at.obj.0 0) left sent p q z u v
  takes p q y z s t w v i (parted a b c d r e) =
      let free = elsewhere q y (λ g. not-shut q g d) in
      (w ++ own at.obj.0 sent p, (ap (λ x. x ++ (w ++ own at.obj.0 sent p)) (sym free), λ _. free), inl c)
  takes p q y z s t w v (inl i) (joined a b c d e) = absurd (let g = sym (ap open_count c) ∙ i in cc)
  takes p q y z s t w v (inr (clr, inl (g, en, h))) (joined a b c d e) =
      let other : p.obj.0 ≡ at.obj.0 → ⊥ = λ o. linked-apart l p q links c (o ∙ sym (ap (λ x. x.obj.0) g)) in
      let got = counted-at at.obj.0 whole q y (ap (λ x. x.obj.0) g) en ∙ ap whole (ap (λ x. x.slot) g ∙ zero) in
      let sum : w ≡ whole 0 ++ (left ++ v) = h ∙ ap (λ x. x ++ v) (sym all) ∙ append_assoc (whole 0) left v in
      (left ++ v, (ap (λ x. w ++ x) (own-else at.obj.0 sent p other) ∙ append-nil w ∙ sum ∙ ap (λ x. x ++ (left ++ v)) (sym got), λ i. absurd (not-shut q g i)), inr (inr ((λ o. absurd (other o)), clear clr sum, inl (the_at q g, refl))))
    where
      clear : IsClear l p at.obj.0 w → w ≡ whole 0 ++ (left ++ v) → IsClear l p at.obj.0 (left ++ v)
      clear (inl x) k = inl x
      clear (inr (inl x)) k = inr (inl (nil-right (whole 0) (left ++ v) (sym k ∙ x)))
      clear (inr (inr x)) k = inr (inr x)
  takes p q y z s t w v (inr (clr, inr (n, h))) (joined a b c d e) =
      (w ++ own at.obj.0 sent p, (ap (λ x. x ++ (w ++ own at.obj.0 sent p)) (sym free), λ _. free), goes)
    where
      free : counted_taken at.obj.0 whole q y ≡ []
      free = elsewhere q y n

      goes : Following l (port_at at.obj.0 0) left sent p q z (w ++ own at.obj.0 sent p) v
      goes = elim (cases_eq p.obj.0 at.obj.0) [
        | inr o ↦
            let k = ap (λ x. w ++ x) (own-else at.obj.0 sent p o) ∙ append-nil w in
            inr (inr ((λ x. absurd (o x)), subst (IsClear l p at.obj.0) (sym k) clr, inr (not_at q n, k ∙ h)))
        | inl o ↦ elim (cases_eq p.slot 0) [
          | inl x ↦
              let k = ap (λ i. w ++ i) (own-at at.obj.0 sent p o ∙ ap sent x ∙ none) ∙ append-nil w in
              inr (inr ((λ _. x), subst (IsClear l p at.obj.0) (sym k) clr, inr (not_at q n, k ∙ h)))
          | inr x ↦
              let k = own-clear l o (omega arith) clr in
              inr (inl (o, omega arith, ap (λ i. i ++ own at.obj.0 sent p) k ∙ own-at at.obj.0 sent p o, sym h ∙ k))
        ]
      ]

-- a whole entry from above
pub Calms-down : {N L : Type 0} {known : Nature N L} {b0 b1 b2 b3 : Ledger} {ds es gs : List (Deed N L)} (at : Port) (sent whole : ℕ → List ℕ) (left m : List ℕ) → at.slot ≡ 0 → IsOpen (port b1 at.obj.0 at.slot) → IsLinked (port b1) (rank b1) → sent 0 ≡ [] → ((k : ℕ) → (k ≡ 0 → ⊥) → whole k ≡ []) → whole 0 ++ left ≡ m → Calms {N = N} {L = L} known b0 b1 Still (writes (Entered at Down) ∷ []) → Calms known b1 b1 (Asking b1 at.obj.0 sent whole) ds → Calms known b1 b2 (Following b1 (port_at at.obj.0 0) left sent) es → Calms known b2 b3 Still gs → Calms known b0 b3 (Giving b0 at m) (writes (Entered at Down) ∷ (ds ++ (es ++ gs)))
Calms-down {N = N} {L = L} {known = known} {b0 = b0} {b1 = b1} at sent whole left m zero opened links none only all note ask eff last =
    Calms-then note
    (Calms-then {h = Given b1 at m} ask
    (Calms-then {h = Following b1 (port_at at.obj.0 0) left sent} eff last (λ p q x y w v d j. (v, d, λ _. refl)))
    (λ p q x y w v i j. let s = takes b1 at zero opened links sent whole left m none only all p q y y _ _ w v i j in (s.0, s.1, λ _. s.2)))
    (λ p q x y w v i j. (w, refl, λ k. given p q y w v i))
  where
    given : (p q : Port) (y : Account) (w v : List ℕ) → Giving b0 at m p q y w v → Given b1 at m p q (account {N = N} {L = L} known q y (writes (Entered at Down) ∷ [])) w v
    given p q y w v (inl i) = inl (note.shuts p.obj.0 p.slot i)
    given p q y w v (inr (c, inl (e, h))) = inr (IsClear-fewer b0 b1 note.links c, inl (e, ap (λ z. (cond z (enters Down y) (rests y)).entered) (is-port-same q at e), h))
    given p q y w v (inr (c, inr (n, h))) = inr (IsClear-fewer b0 b1 note.links c, inr (n, h))
