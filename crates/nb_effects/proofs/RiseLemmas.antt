-- What is pending on links, through messages that go up and through time.
use Rattle.std.proofs.Common.{◌≡◌, ℕ, ◌⊎◌, inl, inr, Bool, true, false, List, [], ◌++◌, ltb, refl, ap, sym, ◌∙◌, subst, arith}
use Rattle.std.proofs.lemmas.Bool.{cases_eq, eq-eqb, ne_eqb, false≢true}
use Rattle.std.proofs.lemmas.List.{take-append-drop}
use Rattle.nb_ledger.specs.declared.port.ObjId.{ObjId}
use Rattle.nb_ledger.specs.declared.port.Port.{Port}
use Rattle.nb_ledger.specs.declared.port.PortState.{PortState}
use Rattle.nb_ledger.specs.declared.port.PortState.TheVariants.{Open, Linked, Leaving, Closed}
use Rattle.nb_ledger.specs.declared.event.GraphEvent.TheVariants.{Entered}
use Rattle.nb_ledger.specs.declared.event.Way.TheVariants.{Up}
use Rattle.nb_ledger.specs.Ledger.{Ledger, port, rank, busy, open_count}
use Rattle.nb_effects.specs.declared.effects.Fx.{Fx}
use Rattle.nb_effects.specs.Whole.{IsLinked, port_at}
use Rattle.nb_effects.specs.Accounts.{Account, JoinedEnds, joined, parted, after_note}
use Rattle.nb_effects.specs.Flows.{IsClear, IsShut, IsQuietAt, Closing, Failing, Delivering, DoesEffects, Keeping, Leaves, Making, Rising, asked_behind, asked_taken, by_no_slot}
use Rattle.nb_effects.proofs.ForestLemmas.{the-port}
use Rattle.nb_effects.proofs.DownLemmas.{is-port-same, nil-right}

-- where nothing is pending
pub quiet-none : (l : Ledger) (p : Port) → IsQuietAt l p []
quiet-none l p = ((λ z i. refl), λ o. refl)

pub quiet-same : (a b : Ledger) (p : Port) (w : List ℕ) → ((x : ℕ) → busy b x ≡ busy a x) → IsQuietAt a p w → IsQuietAt b p w
quiet-same a b p w s q = ((λ z i. q.0 z (sym (s p.obj.0) ∙ i)), q.1)

pub quiet-clear : (a b : Ledger) (p : Port) (x : ℕ) (w : List ℕ) → IsQuietAt a p w → IsClear b p x w
quiet-clear a b p x w q = elim (cases_eq p.slot 0) [ inl z ↦ inl z | inr z ↦ inr (inl (q.1 (omega arith))) ]

-- a message goes up a link, leaves the graph, or is dropped
pub Leaves-rising : (l : Ledger) (at peer : Port) (m : List ℕ) → IsLinked (port l) (rank l) → at.slot ≡ 0 → port l at.obj.0 at.slot ≡ Linked peer → (p q : Port) (y : Account) (s t w v : List ℕ) → JoinedEnds l p q s t w → Leaves l at m p q y w v → Rising l peer m p q y w v
Leaves-rising l at peer m k z h p q y s t w v (joined a b c d e) (inl (i, r, g)) =
    (((λ u f. absurd (false≢true (sym f ∙ r))), λ o. absurd (let n = ap (λ u. u.slot) i in omega arith)), inl (the-port (port l) at.obj.0 at.slot q peer (subst (λ u. port l u.obj.0 u.slot ≡ Linked q) i c) h, g))
Leaves-rising l at peer m k z h p q y s t w v (parted a b c d r e) (inl (i, f, g)) = absurd (let n = sym c ∙ ap (λ u. open_count (port l u.obj.0 u.slot)) i ∙ ap open_count h in cc)
Leaves-rising l at peer m k z h p q y s t w v (joined a b c d e) (inr (n, quiet, g)) = (quiet, inr ((λ i. n (the-port (port l) peer.obj.0 peer.slot p at (subst (λ u. port l u.obj.0 u.slot ≡ Linked p) i d) (k.back at.obj.0 at.slot peer h))), g))
Leaves-rising l at peer m k z h p q y s t w v (parted a b c d r e) (inr (n, quiet, g)) = (quiet, inr ((λ i. let o = sym d ∙ ap (λ u. open_count (port l u.obj.0 u.slot)) i ∙ ap open_count (k.back at.obj.0 at.slot peer h) in cc), g))

pub Leaves-open : (l : Ledger) (at : Port) (m : List ℕ) → port l at.obj.0 at.slot ≡ Open → (p q : Port) (y : Account) (s t w v : List ℕ) → JoinedEnds l p q s t w → Leaves l at m p q y w v → IsShut l p ⊎ (w ≡ v)
Leaves-open l at m h p q y s t w v j (inr i) = inr i.2
Leaves-open l at m h p q y s t w v (parted a b c d r e) (inl i) = inl c
Leaves-open l at m h p q y s t w v (joined a b c d e) (inl i) = absurd (let z = sym h ∙ subst (λ u. port l u.obj.0 u.slot ≡ Linked q) i.0 c in cc)

pub Leaves-shut : (l : Ledger) (at : Port) (m : List ℕ) → IsShut l at → (p q : Port) (y : Account) (w v : List ℕ) → Leaves l at m p q y w v → IsShut l p ⊎ (w ≡ v)
Leaves-shut l at m h p q y w v (inr i) = inr i.2
Leaves-shut l at m h p q y w v (inl i) = inl (ap (λ u. open_count (port l u.obj.0 u.slot)) i.0 ∙ h)

-- nothing is left of a message, or its port is shut
pub rest-none : (l : Ledger) (at : Port) (m : List ℕ) (p q : Port) (y : Account) (w v : List ℕ) → m ≡ [] → Delivering l at m by_no_slot p q y w v → w ≡ v
rest-none l at m p q y w v e (inl i) = i.1 ∙ sym i.2
rest-none l at m p q y w v e (inr (n, quiet, inl i)) = i.2 ∙ ap (λ u. u ++ v) e
rest-none l at m p q y w v e (inr (n, quiet, inr i)) = i.1

pub rest-shut : (l : Ledger) (at : Port) (m : List ℕ) (p q : Port) (y : Account) (s t w v : List ℕ) → IsShut l at → JoinedEnds l p q s t w → Delivering l at m by_no_slot p q y w v → IsShut l p ⊎ (w ≡ v)
rest-shut l at m p q y s t w v z j (inl i) = inr (i.1 ∙ sym i.2)
rest-shut l at m p q y s t w v z j (inr (n, quiet, inr i)) = inr i.1
rest-shut l at m p q y s t w v z (parted a b c d r e) (inr (n, quiet, inl i)) = inl c
rest-shut l at m p q y s t w v z (joined a b c d e) (inr (n, quiet, inl i)) = absurd (let o = sym z ∙ ap (λ u. open_count (port l u.obj.0 u.slot)) (sym i.0) ∙ ap open_count d in cc)

-- an entry ran out of memory
pub rise-fail : (l : Ledger) (at : Port) (m : List ℕ) (p q : Port) (y : Account) (w v : List ℕ) → Delivering l at m by_no_slot p q y w v → Failing l at.obj.0 p q y w v
rise-fail l at m p q y w v (inl i) = inr (inl (i.1 ∙ sym i.2), inl i.0)
rise-fail l at m p q y w v (inr (n, quiet, inl i)) = inr (inr (inr (ap (λ u. u.obj.0) i.0)), inr (quiet-clear l l p at.obj.0 w quiet))
rise-fail l at m p q y w v (inr (n, quiet, inr i)) = inr (inl i.1, inr (quiet-clear l l p at.obj.0 w quiet))

pub time-fail : (l : Ledger) (x : ℕ) (p q : Port) (y : Account) (w v : List ℕ) → DoesEffects l x by_no_slot p q y w v → Failing l x p q y w v
time-fail l x p q y w v (inl i) = inr (inl (i.1 ∙ sym i.2), inl i.0)
time-fail l x p q y w v (inr (n, quiet, h)) = inr (inl h, inr (quiet-clear l l p x w quiet))

-- what was to be made finds no place
pub making-full : (l : Ledger) (x : ℕ) (p q : Port) (y : Account) (w v : List ℕ) → Making l x p q y w v → Closing l x p q y w v
making-full l x p q y w v (e, inl o) = inr (e, inl o)
making-full l x p q y w v (e, inr quiet) = inr (e, inr (quiet-clear l l p x w quiet))

-- what an entry from below takes
pub taken-only : {N L : Type 0} (slot : ℕ) (bytes : List ℕ) (done : Bool) (fx : Fx N L) (k : ℕ) → (k ≡ slot → ⊥) → asked_taken slot bytes done fx k ≡ []
taken-only slot bytes true fx k n = rw (ne_eqb k slot n) refl
taken-only slot bytes false fx k n = refl

pub taken-all : {N L : Type 0} (slot : ℕ) (bytes : List ℕ) (done : Bool) (fx : Fx N L) → asked_taken slot bytes done fx slot ++ asked_behind bytes done fx ≡ bytes
taken-all slot bytes true fx = rw (eq-eqb slot slot refl) (take-append-drop fx.took bytes)
taken-all slot bytes false fx = refl

-- nothing is pending at an object that time enters
pub keeps-doing : (l b : Ledger) (x : ℕ) → busy l x ≡ false → ((y : ℕ) → (y ≡ x → ⊥) → busy b y ≡ busy l y) → (p q : Port) (y z : Account) (w v : List ℕ) → Keeping l p q y w v → DoesEffects b x by_no_slot p q z w v
keeps-doing l b x idle same p q y z w v (quiet, e) = elim (cases_eq p.obj.0 x) [
  | inl o ↦ let h = quiet-at l p w (ap (busy l) o ∙ idle) quiet in inl (o, h, sym e ∙ h)
  | inr o ↦ inr (o, ((λ i k. quiet.0 i (sym (same p.obj.0 o) ∙ k)), quiet.1), e)
]
  where
    quiet-at : (l : Ledger) (p : Port) (w : List ℕ) → busy l p.obj.0 ≡ false → IsQuietAt l p w → w ≡ []
    quiet-at l p w f k = elim (cases_eq p.slot 0) [ inl i ↦ k.0 i f | inr i ↦ k.1 (omega arith) ]

pub rises-delivering : (l b : Ledger) (at : Port) (m : List ℕ) → busy l at.obj.0 ≡ false → ((y : ℕ) → (y ≡ at.obj.0 → ⊥) → busy b y ≡ busy l y) → (p q : Port) (y : Account) (w v : List ℕ) → Rising l at m p q y w v → Delivering b at m by_no_slot p q (after_note q y (Entered at Up)) w v
rises-delivering l b at m idle same p q y w v (quiet, h) = elim (cases_eq p.obj.0 at.obj.0) [
  | inl o ↦ let e = none (ap (busy l) o ∙ idle) in inl (o, e, rest e h)
  | inr o ↦ inr (o, ((λ i k. quiet.0 i (sym (same p.obj.0 o) ∙ k)), quiet.1), turn h)
]
  where
    none : busy l p.obj.0 ≡ false → w ≡ []
    none f = elim (cases_eq p.slot 0) [ inl i ↦ quiet.0 i f | inr i ↦ quiet.1 (omega arith) ]

    rest : w ≡ [] → ((q ≡ at) × (w ≡ m ++ v)) ⊎ ((q ≡ at → ⊥) × (w ≡ v)) → v ≡ []
    rest e (inl i) = nil-right m v (sym i.1 ∙ e)
    rest e (inr i) = sym i.1 ∙ e

    turn : ((q ≡ at) × (w ≡ m ++ v)) ⊎ ((q ≡ at → ⊥) × (w ≡ v)) → ((q ≡ at) × ((after_note q y (Entered at Up)).entered ≡ true) × (w ≡ m ++ v)) ⊎ (((q ≡ at) × ((after_note q y (Entered at Up)).entered ≡ true) → ⊥) × (w ≡ v))
    turn (inl i) = inl (i.0, rw (is-port-same q at i.0) refl, i.1)
    turn (inr i) = inr ((λ z. i.0 z.0), i.1)

-- a message of no bytes, and one that leaves by slot 0
pub leaves-nothing : (l : Ledger) (x : ℕ) (p q : Port) (y : Account) (w v : List ℕ) → Leaves l (port_at x 0) [] p q y w v → IsShut l p ⊎ (w ≡ v)
leaves-nothing l x p q y w v (inl i) = inr i.2
leaves-nothing l x p q y w v (inr i) = inr i.2

pub leaves-at : (l : Ledger) (id : ObjId) (slot : ℕ) (m : List ℕ) → slot ≡ 0 → (p q : Port) (y : Account) (w v : List ℕ) → Leaves l (port_at id.0 0) m p q y w v → Leaves l (record { obj = id; slot = slot }) m p q y w v
leaves-at l id slot m e p q y w v i = subst (λ z. Leaves l (port_at id.0 z) m p q y w v) (sym e) i

-- a port that isn't open
pub closed-count : (v : PortState) → ltb 0 (open_count v) ≡ false → open_count v ≡ 0
closed-count Open h = absurd (cc)
closed-count (Linked r) h = absurd (cc)
closed-count (Leaving r) h = refl
closed-count Closed h = refl
