-- What a call of a node, and the close of a link, leave of the bytes on links.
use Rattle.nb_effects.proofs.AccountLemmas.{start-joined}
use Rattle.std.proofs.Common.{◌≡◌, ℕ, inl, inr, Bool, true, false, List, [], ◌∷◌, ◌++◌, refl, ap, sym, ◌∙◌, subst, append_assoc, append-nil, eqb, cond}
use Rattle.std.proofs.lemmas.Bool.{eq-eqb}
use Rattle.nb_terms.specs.declared.cause.Cause.{Cause}
use Rattle.nb_ledger.specs.declared.port.Port.{Port}
use Rattle.nb_ledger.specs.declared.port.PortState.TheVariants.{Linked, Leaving}
use Rattle.nb_ledger.specs.declared.event.GraphEvent.TheVariants.{Closed, Entered}
use Rattle.nb_ledger.specs.declared.event.Way.TheVariants.{Close}
use Rattle.nb_ledger.specs.Ledger.{Ledger, port, rank, open_count}
use Rattle.nb_ledger.specs.GraphRun.{port_but}
use Rattle.nb_effects.specs.Trace.{Nature, NodeEntry}
use Rattle.nb_effects.specs.Deeds.{writes, calls}
use Rattle.nb_effects.specs.Whole.{IsLinked}
use Rattle.nb_effects.specs.Calm.{HalfCloses}
use Rattle.nb_effects.specs.Accounts.{Account, JoinedEnds, joined, parted, account_after_call, rests, enters, is_same_port, sent_by_entry, taken_by}
use Rattle.nb_effects.specs.Flows.{Still, Asking, IsShut, own, counted_taken, by_no_slot}
use Rattle.nb_effects.specs.Moves.{Asks, Calms}
use Rattle.nb_effects.proofs.LinkLemmas.{cases_port, port_but-same, port_but-other}
use Rattle.nb_effects.proofs.CalmLemmas.{linked-apart}
use Rattle.nb_effects.proofs.ForestLemmas.{the-port}
use Rattle.nb_effects.proofs.LivensLemmas.{port-eq}

-- one sends, and the other takes
pub Joined-call : {l : Ledger} {p q : Port} {s t w : List ℕ} (bs bt v : List ℕ) → w ++ bs ≡ bt ++ v → (IsShut l q → bt ≡ []) → JoinedEnds l p q s t w → JoinedEnds l p q (s ++ bs) (t ++ bt) v
Joined-call {s = s} {t = t} {w = w} bs bt v e n (joined a b c d h) = joined a b c d (ap (λ z. z ++ bs) h ∙ append_assoc t w bs ∙ ap (λ z. t ++ z) e ∙ sym (append_assoc t bt v))
Joined-call {s = s} {t = t} bs bt v e n (parted a b c d r h) = parted a b c d (r ++ bs) (ap (λ z. z ++ bs) h ∙ append_assoc t r bs ∙ ap (λ z. z ++ (r ++ bs)) (sym (append-nil t) ∙ ap (λ z. t ++ z) (sym (n d))))

module _ {N L : Type 0} (known : Nature N L) (e : NodeEntry N L) where
  call-peer : (c : Bool) (p : Port) (a : Account) → (cond c (account_after_call known p a e) (rests a)).peer ≡ a.peer
  call-peer true p a = refl
  call-peer false p a = refl

  call-entered : (c : Bool) (p : Port) (a : Account) → (cond c (account_after_call known p a e) (rests a)).entered ≡ a.entered
  call-entered true p a = refl
  call-entered false p a = refl

  call-sent : (c : Bool) (p : Port) (a : Account) (sent : ℕ → List ℕ) → ((k : ℕ) → sent_by_entry known k e ≡ sent k) → (cond c (account_after_call known p a e) (rests a)).sent ≡ a.sent ++ cond c (sent p.slot) []
  call-sent true p a sent h = ap (λ z. a.sent ++ z) (h p.slot)
  call-sent false p a sent h = sym (append-nil a.sent)

  call-taken : (c : Bool) (q : Port) (b : Account) (taken : ℕ → List ℕ) → ((k : ℕ) → taken_by k e ≡ taken k) → (cond c (account_after_call known q b e) (rests b)).taken ≡ b.taken ++ cond c (cond b.entered (taken q.slot) []) []
  call-taken true q b taken h = ap (λ z. b.taken ++ cond b.entered z []) (h q.slot)
  call-taken false q b taken h = sym (append-nil b.taken)

-- the node of y is called
pub Calms-call : {N L : Type 0} (known : Nature N L) (l : Ledger) (y : ℕ) (e : NodeEntry N L) (sent taken : ℕ → List ℕ) → ((k : ℕ) → sent_by_entry known k e ≡ sent k) → ((k : ℕ) → taken_by k e ≡ taken k) → Calms known l l (Asking l y sent taken) (calls y e ∷ [])
Calms-call known l y e sent taken hs ht = record {
  same_made = refl;
  links = λ x k q h. h;
  shuts = λ x k h. h;
  peers = λ p a. call-peer known e (eqb p.obj.0 y) p a;
  enters = λ q b h. call-entered known e (eqb q.obj.0 y) q b ∙ h;
  quiet = λ q b o h. call-entered known e (eqb q.obj.0 y) q b ∙ h;
  joins = λ p q a b w v f j. rw (call-sent known e (eqb p.obj.0 y) p a sent hs, call-taken known e (eqb q.obj.0 y) q b taken ht) (Joined-call (own y sent p) (counted_taken y taken q b) v f.0 f.1 j);
  midway = λ p q a b w v f j. (λ _. start-joined j, λ _. rw (call-sent known e (eqb p.obj.0 y) p a sent hs, call-taken known e (eqb q.obj.0 y) q b taken ht) (start-joined (Joined-call (own y sent p) (counted_taken y taken q b) v f.0 f.1 j)));
  apart = λ p q a b n. (λ i. absurd (n i), λ i. absurd (n (sym (call-peer known e (eqb p.obj.0 y) p a) ∙ i)));
}

enter-close : (c : Bool) (a : Account) → cond c (enters Close a) (rests a) ≡ rests a
enter-close true a = refl
enter-close false a = refl

-- both ends of a link are closed
pub Calms-half : {N L : Type 0} (known : Nature N L) (b0 b3 : Ledger) (p q : Port) (cause : Cause) → IsLinked (port b0) (rank b0) → port b0 p.obj.0 p.slot ≡ Linked q → HalfCloses b0 b3 p q → Calms {N = N} {L = L} known b0 b3 Still (writes (Closed p cause) ∷ writes (Closed q cause) ∷ writes (Entered q Close) ∷ [])
Calms-half {N} {L} known b0 b3 p q cause l h half = record {
  same_made = half.same_made;
  links = λ x k r i. elim (cases_port x k q) [
    | inl m ↦ absurd (let z = sym (at_q x k m) ∙ i in cc)
    | inr m ↦ elim (cases_port x k p) [
      | inl n ↦ absurd (let z = sym (at_p x k m n) ∙ i in cc)
      | inr n ↦ sym (elsewhere x k m n) ∙ i
    ]
  ];
  shuts = shuts;
  peers = λ r a. ap (λ z. z.peer) (enter-close (is_same_port r q) (rests (rests a)));
  enters = λ r a i. ap (λ z. z.entered) (enter-close (is_same_port r q) (rests (rests a))) ∙ i;
  quiet = λ r a o i. ap (λ z. z.entered) (enter-close (is_same_port r q) (rests (rests a))) ∙ i;
  joins = λ r t a b w v f j. rw (enter-close (is_same_port r q) (rests (rests a)), enter-close (is_same_port t q) (rests (rests b)), sym f) (closes r t a.sent b.taken w j);
  midway = λ r t a b w v f j. (λ _. start-joined j, (λ _. start-joined j, (λ _. start-joined j, λ _. rw (enter-close (is_same_port r q) (rests (rests a)), enter-close (is_same_port t q) (rests (rests b))) (start-joined j))));
  apart = λ r t a b n. (λ i. absurd (n i), (λ i. absurd (n i), (λ i. absurd (n i), λ i. absurd (n (sym (ap (λ z. z.peer) (enter-close (is_same_port r q) (rests (rests a)))) ∙ i)))));
}
  where
    at_q : (x k : ℕ) → (x ≡ q.obj.0) × (k ≡ q.slot) → port b3 x k ≡ Leaving p
    at_q x k m = half.ports_set x k ∙ port_but-same q (Leaving p) (port_but p (Leaving q) (port b0)) x k m.0 m.1

    at_p : (x k : ℕ) → ((x ≡ q.obj.0) × (k ≡ q.slot) → ⊥) → (x ≡ p.obj.0) × (k ≡ p.slot) → port b3 x k ≡ Leaving q
    at_p x k m n = half.ports_set x k ∙ port_but-other q (Leaving p) (port_but p (Leaving q) (port b0)) x k m ∙ port_but-same p (Leaving q) (port b0) x k n.0 n.1

    elsewhere : (x k : ℕ) → ((x ≡ q.obj.0) × (k ≡ q.slot) → ⊥) → ((x ≡ p.obj.0) × (k ≡ p.slot) → ⊥) → port b3 x k ≡ port b0 x k
    elsewhere x k m n = half.ports_set x k ∙ port_but-other q (Leaving p) (port_but p (Leaving q) (port b0)) x k m ∙ port_but-other p (Leaving q) (port b0) x k n

    shuts : (x k : ℕ) → open_count (port b0 x k) ≡ 0 → open_count (port b3 x k) ≡ 0
    shuts x k i = elim (cases_port x k q) [
      | inl m ↦ ap open_count (at_q x k m)
      | inr m ↦ elim (cases_port x k p) [ inl n ↦ ap open_count (at_p x k m n) | inr n ↦ ap open_count (elsewhere x k m n) ∙ i ]
    ]

    -- an end of the link is shut
    shut : (x k : ℕ) → ((x ≡ q.obj.0) × (k ≡ q.slot)) → open_count (port b3 x k) ≡ 0
    shut x k m = ap open_count (at_q x k m)

    shut_p : open_count (port b3 p.obj.0 p.slot) ≡ 0
    shut_p = elim (cases_port p.obj.0 p.slot q) [ inl m ↦ shut p.obj.0 p.slot m | inr m ↦ ap open_count (at_p p.obj.0 p.slot m (refl, refl)) ]

    shut_q : open_count (port b3 q.obj.0 q.slot) ≡ 0
    shut_q = shut q.obj.0 q.slot (refl, refl)

    back : port b0 q.obj.0 q.slot ≡ Linked p
    back = l.back p.obj.0 p.slot q h

    shut_at : (r s : Port) → r ≡ s → open_count (port b3 s.obj.0 s.slot) ≡ 0 → open_count (port b3 r.obj.0 r.slot) ≡ 0
    shut_at r s e i = ap (λ z. open_count (port b3 z.obj.0 z.slot)) e ∙ i

    linked_at : (r s t : Port) → r ≡ s → port b0 r.obj.0 r.slot ≡ Linked t → port b0 s.obj.0 s.slot ≡ Linked t
    linked_at r s t e i = subst (λ z. port b0 z.obj.0 z.slot ≡ Linked t) e i

    closes : (r t : Port) (x y w : List ℕ) → JoinedEnds b0 r t x y w → JoinedEnds b3 r t x y w
    closes r t x y w (parted a b c d z i) = parted (rw half.same_made a) (rw half.same_made b) (shuts r.obj.0 r.slot c) (shuts t.obj.0 t.slot d) z i
    closes r t x y w (joined a b c d i) = elim (cases_port r.obj.0 r.slot q) [
      | inl m ↦ let e = port-eq r q m.0 m.1 in parted (rw half.same_made a) (rw half.same_made b) (shut_at r q e shut_q) (shut_at t p (the-port (port b0) q.obj.0 q.slot t p (linked_at r q t e c) back) shut_p) w i
      | inr m ↦ elim (cases_port r.obj.0 r.slot p) [
        | inl n ↦ let e = port-eq r p n.0 n.1 in parted (rw half.same_made a) (rw half.same_made b) (shut_at r p e shut_p) (shut_at t q (the-port (port b0) p.obj.0 p.slot t q (linked_at r p t e c) h) shut_q) w i
        | inr n ↦ joined (rw half.same_made a) (rw half.same_made b) (elsewhere r.obj.0 r.slot m n ∙ c)
            (elsewhere t.obj.0 t.slot
            (λ o. n (let e = port-eq t q o.0 o.1 in let z = the-port (port b0) q.obj.0 q.slot r p (linked_at t q r e d) back in (ap (λ u. u.obj.0) z, ap (λ u. u.slot) z)))
            (λ o. m (let e = port-eq t p o.0 o.1 in let z = the-port (port b0) p.obj.0 p.slot r q (linked_at t p r e d) h in (ap (λ u. u.obj.0) z, ap (λ u. u.slot) z)))
            ∙ d) i
      ]
    ]

-- nothing is sent or taken
pub asks-nothing : (l : Ledger) (y : ℕ) (p q : Port) (b : Account) (w v : List ℕ) → w ≡ v → Asking l y by_no_slot by_no_slot p q b w v
asks-nothing l y p q b w v e = (ap (λ z. w ++ z) (none (eqb p.obj.0 y)) ∙ append-nil w ∙ e ∙ ap (λ z. z ++ v) (sym (counts (eqb q.obj.0 y) b.entered)), λ h. counts (eqb q.obj.0 y) b.entered)
  where
    none : (c : Bool) → cond c (by_no_slot 0) [] ≡ []
    none true = refl
    none false = refl

    counts : (c d : Bool) → cond c (cond d (by_no_slot 0) []) [] ≡ []
    counts true true = refl
    counts true false = refl
    counts false d = refl

-- both ends are half closed
pub half-left : {p q : Port} (b0 b3 : Ledger) → HalfCloses b0 b3 p q → port b3 q.obj.0 q.slot ≡ Leaving p
half-left {p} {q} b0 b3 half = half.ports_set q.obj.0 q.slot ∙ port_but-same q (Leaving p) (port_but p (Leaving q) (port b0)) q.obj.0 q.slot refl refl

pub half-gone : {b0 b3 : Ledger} {p q : Port} → IsLinked (port b0) (rank b0) → port b0 p.obj.0 p.slot ≡ Linked q → HalfCloses b0 b3 p q → port b3 p.obj.0 p.slot ≡ Leaving q
half-gone {b0} {b3} {p} {q} l h half = half.ports_set p.obj.0 p.slot ∙ port_but-other q (Leaving p) (port_but p (Leaving q) (port b0)) p.obj.0 p.slot (λ i. linked-apart b0 p q l h i.0) ∙ port_but-same p (Leaving q) (port b0) p.obj.0 p.slot refl refl

pub Asks-call : {N L : Type 0} (known : Nature N L) (y : ℕ) (e : NodeEntry N L) (sent : ℕ → List ℕ) → ((k : ℕ) → sent_by_entry known k e ≡ sent k) → Asks known y sent (calls y e ∷ [])
Asks-call known y e sent h p a i = rw (eq-eqb p.obj.0 y i) (h p.slot)
