-- Bytes on links through the call of a node, and through a whole entry from below or by time.
use Rattle.nb_effects.proofs.AccountLemmas.{Midway-append, start-joined}
use Rattle.nb_effects.specs.Trace.{Nature}
use Rattle.std.proofs.Common.{Some, ◌≡◌, ℕ, ◌≤◌, inl, inr, Bool, true, false, List, [], ◌∷◌, ◌++◌, eqb, cond, refl, ap, sym, ◌∙◌, append_assoc, append-nil}
use Rattle.std.proofs.lemmas.Bool.{cases_eq, cases_Bool, false≢true}
use Rattle.nb_ledger.specs.declared.port.Port.{Port}
use Rattle.nb_ledger.specs.declared.port.PortState.{PortState}
use Rattle.nb_ledger.specs.declared.port.PortState.TheVariants.{Open, Linked, Leaving, Closed}
use Rattle.nb_ledger.specs.declared.event.GraphEvent.{GraphEvent}
use Rattle.nb_ledger.specs.declared.event.GraphEvent.TheVariants.{Entered}
use Rattle.nb_ledger.specs.declared.event.Way.TheVariants.{Time, Up}
use Rattle.nb_graph.proofs.MakeLemmas.{is-port-other}
use Rattle.nb_ledger.specs.GraphRun.{IsOpen}
use Rattle.nb_ledger.specs.Ledger.{Ledger, port, rank, busy, open_count}
use Rattle.nb_effects.specs.Deeds.{Deed, writes}
use Rattle.nb_effects.specs.Whole.{IsLinked}
use Rattle.nb_effects.specs.Accounts.{Account, JoinedEnds, joined, parted, account, after_note, enters, is_same_port, rests}
use Rattle.nb_effects.specs.Flows.{IsShut, Still, Asking, Delivering, DoesEffects, by_no_slot, own, counted_taken}
use Rattle.nb_effects.specs.Moves.{Calms, Livens, Asks, HasAsked, always, none_due}
use Rattle.nb_effects.proofs.LivensLemmas.{cases_peer, port-eq}
use Rattle.nb_effects.proofs.AccountLemmas.{Joined-mild, account-append}
use Rattle.nb_effects.specs.Moves.{Mild}
use Rattle.nb_effects.proofs.CalmLemmas.{linked-apart}
use Rattle.nb_effects.proofs.DownLemmas.{nil-right}
use Rattle.nb_effects.proofs.PassLemmas.{own-at, own-else, counted-at, counted-else}

-- an open port isn't shut
pub open-not-shut : (v : PortState) → IsOpen v → open_count v ≡ 0 → ⊥
open-not-shut Open o i = cc
open-not-shut (Linked r) o i = cc
open-not-shut (Leaving r) o i = o
open-not-shut Closed o i = o

not-shut : (l : Ledger) (at q : Port) → IsOpen (port l at.obj.0 at.slot) → q ≡ at → IsShut l q → ⊥
not-shut l at q o e i = open-not-shut (port l at.obj.0 at.slot) o (sym (ap (λ z. open_count (port l z.obj.0 z.slot)) e) ∙ i)

-- the node that a message from below is given to is called, and what follows
module _ (l : Ledger) (at : Port) (sent taken : ℕ → List ℕ) (got behind m : List ℕ) (one : 1 ≤ at.slot) (opened : IsOpen (port l at.obj.0 at.slot)) (links : IsLinked (port l) (rank l)) (there : taken at.slot ≡ got) (only : (k : ℕ) → (k ≡ at.slot → ⊥) → taken k ≡ []) (all : got ++ behind ≡ m) where
  -- at the other ports by_no_slot is taken
  elsewhere : (q : Port) (b : Account) → ((q ≡ at) × (b.entered ≡ true) → ⊥) → counted_taken at.obj.0 taken q b ≡ []
  elsewhere q b n = elim (cases_Bool b.entered) [
    | inl t ↦ counted-else at.obj.0 taken q b (λ e. only q.slot (λ z. n (port-eq q at e z, t)))
    | inr f ↦ rw f (none (eqb q.obj.0 at.obj.0))
  ]
    where
      none : (c : Bool) → cond c (by_no_slot 0) [] ≡ []
      none true = refl
      none false = refl

  asks : (p q : Port) (y z : Account) (s t w v : List ℕ) → (y.entered ≡ true → z.entered ≡ true) → (1 ≤ q.slot → y.entered ≡ false → z.entered ≡ false) → Delivering l at m by_no_slot p q y w v → JoinedEnds l p q s t w → (u : List ℕ) × Asking l at.obj.0 sent taken p q y w u × Delivering l at behind sent p q z u v
  asks p q y z s t w v up down (inl (o, e, h)) j =
      let free = elsewhere q y (away j) in
      (own at.obj.0 sent p, (ap (λ g. g ++ own at.obj.0 sent p) (e ∙ sym free), λ _. free), inl (o, own-at at.obj.0 sent p o, h))
    where
      away : JoinedEnds l p q s t w → (q ≡ at) × (y.entered ≡ true) → ⊥
      away (joined a b g d k) i = linked-apart l p q links g (o ∙ sym (ap (λ u. u.obj.0) i.0))
      away (parted a b g d r k) i = not-shut l at q opened i.0 d
  asks p q y z s t w v up down (inr (n, quiet, inl (g, en, h))) j =
      let took = counted-at at.obj.0 taken q y (ap (λ u. u.obj.0) g) en ∙ ap taken (ap (λ u. u.slot) g) ∙ there in
      let sum : w ≡ got ++ (behind ++ v) = h ∙ ap (λ u. u ++ v) (sym all) ∙ append_assoc got behind v in (
        behind ++ v,
        (ap (λ u. w ++ u) (own-else at.obj.0 sent p n) ∙ append-nil w ∙ sum ∙ ap (λ u. u ++ (behind ++ v)) (sym took), λ i. absurd (not-shut l at q opened g i)),
        inr (n, ((λ i k. nil-right got (behind ++ v) (sym sum ∙ quiet.0 i k)), λ i. nil-right got (behind ++ v) (sym sum ∙ quiet.1 i)), inl (g, up en, refl)),
      )
  asks p q y z s t w v up down (inr (n, quiet, inr (g, h))) j =
      let free = elsewhere q y g in
      (w, (ap (λ u. w ++ u) (own-else at.obj.0 sent p n) ∙ append-nil w ∙ ap (λ u. u ++ w) (sym free), λ _. free), inr (n, quiet, inr (still, h)))
    where
      still : (q ≡ at) × (z.entered ≡ true) → ⊥
      still i = elim (cases_Bool y.entered) [
        | inl k ↦ g (i.0, k)
        | inr k ↦ false≢true (sym (down (rw (ap (λ u. u.slot) i.0) one) k) ∙ i.1)
      ]

pub Livens-ask : {N L : Type 0} {known : Nature N L} {l c : Ledger} {ds es : List (Deed N L)} (at : Port) (sent taken : ℕ → List ℕ) (got behind m : List ℕ) → 1 ≤ at.slot → IsOpen (port l at.obj.0 at.slot) → IsLinked (port l) (rank l) → taken at.slot ≡ got → ((k : ℕ) → (k ≡ at.slot → ⊥) → taken k ≡ []) → got ++ behind ≡ m → Calms known l l (Asking l at.obj.0 sent taken) ds → Asks known at.obj.0 sent ds → Livens known l c (HasAsked at.obj.0 sent) none_due (Delivering l at behind sent) es → Livens known l c always none_due (Delivering l at m by_no_slot) (ds ++ es)
Livens-ask {known = known} {l = l} {ds = ds} {es = es} at sent taken got behind m one opened links there only all k asked r = record {
  quiet = λ q y o i h. ap (λ z. z.entered) (account-append known q y ds es) ∙ r.quiet q (account known q y ds) o i (k.quiet q y o h);
  joins = λ p q x y w v i j.
      let s = asks l at sent taken got behind m one opened links there only all p q y (account known q y ds) x.sent y.taken w v (k.enters q y) (λ o. k.quiet q y o) i j in
      let last = r.joins p q (account known p x ds) (account known q y ds) s.0 v s.2 (k.joins p q x y w s.0 s.1 j) in
      rw (account-append known p x ds es, account-append known q y ds es) (last.0, λ e. last.1 (k.enters q y e));
  midway = λ p q x y w v i j.
      let s = asks l at sent taken got behind m one opened links there only all p q y (account known q y ds) x.sent y.taken w v (k.enters q y) (λ o. k.quiet q y o) i j in
      Midway-append known p q x y ds es (k.midway p q x y w s.0 s.1 j) (r.midway p q (account known p x ds) (account known q y ds) s.0 v s.2 (k.joins p q x y w s.0 s.1 j));
  newly = λ p q x y t n. Midway-append known p q x y ds es (k.apart p q x y n) (r.newly p q (account known p x ds) (account known q y ds) (λ o. asked p x o) (λ o. n (sym (k.peers p x) ∙ o)));
  news = λ p q x y t n e.
      let i = sym (ap (λ z. z.peer) (account-append known p x ds es)) ∙ e in
      rw (account-append known p x ds es, account-append known q y ds es) (r.news p q (account known p x ds) (account known q y ds) (λ o. asked p x o) (λ o. n (sym (k.peers p x) ∙ o)) i);
}

-- and one by time
pub Livens-time : {N L : Type 0} {known : Nature N L} {l c : Ledger} {ds es : List (Deed N L)} (x : ℕ) (sent : ℕ → List ℕ) → Calms known l l (Asking l x sent by_no_slot) ds → Asks known x sent ds → Livens known l c (HasAsked x sent) none_due (DoesEffects l x sent) es → Livens known l c always none_due (DoesEffects l x by_no_slot) (ds ++ es)
Livens-time {known = known} {l = l} {ds = ds} {es = es} x sent k asked r = record {
  quiet = λ q y o i h. ap (λ z. z.entered) (account-append known q y ds es) ∙ r.quiet q (account known q y ds) o i (k.quiet q y o h);
  joins = λ p q a y w v i j.
      let s = asks p q y (account known q y ds) w v i in
      let last = r.joins p q (account known p a ds) (account known q y ds) s.0 v s.2 (k.joins p q a y w s.0 s.1 j) in
      rw (account-append known p a ds es, account-append known q y ds es) (last.0, λ e. last.1 (k.enters q y e));
  midway = λ p q a y w v i j.
      let s = asks p q y (account known q y ds) w v i in
      Midway-append known p q a y ds es (k.midway p q a y w s.0 s.1 j) (r.midway p q (account known p a ds) (account known q y ds) s.0 v s.2 (k.joins p q a y w s.0 s.1 j));
  newly = λ p q a y t n. Midway-append known p q a y ds es (k.apart p q a y n) (r.newly p q (account known p a ds) (account known q y ds) (λ o. asked p a o) (λ o. n (sym (k.peers p a) ∙ o)));
  news = λ p q a y t n e.
      let i = sym (ap (λ z. z.peer) (account-append known p a ds es)) ∙ e in
      rw (account-append known p a ds es, account-append known q y ds es) (r.news p q (account known p a ds) (account known q y ds) (λ o. asked p a o) (λ o. n (sym (k.peers p a) ∙ o)) i);
}
  where
    asks : (p q : Port) (y z : Account) (w v : List ℕ) → DoesEffects l x by_no_slot p q y w v → (u : List ℕ) × Asking l x sent by_no_slot p q y w u × DoesEffects l x sent p q z u v
    asks p q y z w v i = go (counted-else x by_no_slot q y (λ _. refl)) i
      where
        go : counted_taken x by_no_slot q y ≡ [] → DoesEffects l x by_no_slot p q y w v → (u : List ℕ) × Asking l x sent by_no_slot p q y w u × DoesEffects l x sent p q z u v
        go free (inl (o, e, h)) = (own x sent p, (ap (λ g. g ++ own x sent p) (e ∙ sym free), λ _. free), inl (o, own-at x sent p o, h))
        go free (inr (n, quiet, h)) = (w, (ap (λ u. w ++ u) (own-else x sent p n) ∙ append-nil w ∙ ap (λ u. u ++ w) (sym free), λ _. free), inr (n, quiet, h))

-- a whole entry from below or by time
pub Livens-entry : {N L : Type 0} {known : Nature N L} {b0 b1 b2 b3 : Ledger} {ds es : List (Deed N L)} {inner outer : Port → Port → Account → List ℕ → List ℕ → Type 0} (x : ℕ) (e : GraphEvent) → busy b0 x ≡ false → ((y : ℕ) → (y ≡ x → ⊥) → busy b1 y ≡ busy b0 y) → Mild b0 b1 → ((p : Port) (a : Account) → ((after_note p a e).sent ≡ a.sent) × ((after_note p a e).taken ≡ a.taken) × ((after_note p a e).peer ≡ a.peer) × (a.entered ≡ true → (after_note p a e).entered ≡ true) × ((p.obj.0 ≡ x → ⊥) → (after_note p a e).entered ≡ a.entered)) → ((p q : Port) (y : Account) (w v : List ℕ) → outer p q y w v → inner p q (after_note q y e) w v) → Livens known b1 b2 always none_due inner ds → Calms known b2 b3 Still es → Livens known b0 b3 always none_due outer (writes e ∷ (ds ++ es))
Livens-entry {known = known} {b0 = b0} {b1 = b1} {ds = ds} {es = es} x e idle same mild note turn k last = record {
  quiet = λ q y o r h.
      let n = other q r in
      ap (λ z. z.entered) (account-append known q (after_note q y e) ds es) ∙ last.quiet q _ o (k.quiet q (after_note q y e) o (same q.obj.0 n ∙ r) ((note q y).4 n ∙ h));
  joins = λ p q a y w v i j.
      let np = note p a in
      let nq = note q y in
      let in_ = k.joins p q (after_note p a e) (after_note q y e) w v (turn p q y w v i) (rw (np.0, nq.1) (Joined-mild mild j)) in
      rw (account-append known p (after_note p a e) ds es, account-append known q (after_note q y e) ds es) (last.joins p q _ _ v v refl in_.0, λ h. last.enters q _ (in_.1 (nq.3 h)));
  midway = λ p q a y w v i j.
      let np = note p a in
      let nq = note q y in
      let was : JoinedEnds b1 p q (after_note p a e).sent (after_note q y e).taken w = rw (np.0, nq.1) (Joined-mild mild j) in
      (λ _. start-joined j, Midway-append known p q (after_note p a e) (after_note q y e) ds es (k.midway p q (after_note p a e) (after_note q y e) w v (turn p q y w v i) was) (last.midway p q (account known p (after_note p a e) ds) (account known q (after_note q y e) ds) v v refl (k.joins p q (after_note p a e) (after_note q y e) w v (turn p q y w v i) was).0));
  newly = λ p q a y t n.
      let m : ((after_note p a e).peer ≡ Some q → ⊥) = λ h. n (sym (note p a).2 ∙ h) in (
        λ h. absurd (n h),
        Midway-append known p q (after_note p a e) (after_note q y e) ds es (k.newly p q (after_note p a e) (after_note q y e) tt m) (elim (cases_peer (account known p (after_note p a e) ds).peer q) [
          | inl o ↦ last.midway p q (account known p (after_note p a e) ds) (account known q (after_note q y e) ds) [] [] refl (k.news p q (after_note p a e) (after_note q y e) tt m o).0
          | inr o ↦ last.apart p q (account known p (after_note p a e) ds) (account known q (after_note q y e) ds) o
        ]),
      );
  news = λ p q a y t n i.
      let j = sym (ap (λ z. z.peer) (account-append known p (after_note p a e) ds es)) ∙ i in
      let s = k.news p q (after_note p a e) (after_note q y e) tt (λ h. n (sym (note p a).2 ∙ h)) (sym (last.peers p (account known p (after_note p a e) ds)) ∙ j) in
      rw (account-append known p (after_note p a e) ds es, account-append known q (after_note q y e) ds es) (last.joins p q _ _ [] [] refl s.0, (λ z. idle_at p (s.1 z)), λ o r. last.quiet q _ o (s.2 o (same q.obj.0 (other q r) ∙ r)));
}
  where
    other : (q : Port) → busy b0 q.obj.0 ≡ true → q.obj.0 ≡ x → ⊥
    other q r h = false≢true (sym (ap (busy b0) h ∙ idle) ∙ r)

    idle_at : (p : Port) → busy b1 p.obj.0 ≡ false → busy b0 p.obj.0 ≡ false
    idle_at p r = elim (cases_eq p.obj.0 x) [ inl h ↦ ap (busy b0) h ∙ idle | inr h ↦ sym (same p.obj.0 h) ∙ r ]

-- an entry by time, or by a message, begins
time-enter : (c : Bool) (a : Account) → cond c (enters Time a) (rests a) ≡ rests a
time-enter true a = refl
time-enter false a = refl

pub time-notes : (at p : Port) (a : Account) → ((after_note p a (Entered at Time)).sent ≡ a.sent) × ((after_note p a (Entered at Time)).taken ≡ a.taken) × ((after_note p a (Entered at Time)).peer ≡ a.peer) × (a.entered ≡ true → (after_note p a (Entered at Time)).entered ≡ true) × ((p.obj.0 ≡ at.obj.0 → ⊥) → (after_note p a (Entered at Time)).entered ≡ a.entered)
time-notes at p a = let e = time-enter (is_same_port p at) a in rw e (refl, refl, refl, (λ h. h), λ n. refl)

up-sent : (c : Bool) (a : Account) → ((cond c (enters Up a) (rests a)).sent ≡ a.sent) × ((cond c (enters Up a) (rests a)).taken ≡ a.taken) × ((cond c (enters Up a) (rests a)).peer ≡ a.peer) × (a.entered ≡ true → (cond c (enters Up a) (rests a)).entered ≡ true)
up-sent true a = (refl, refl, refl, λ h. refl)
up-sent false a = (refl, refl, refl, λ h. h)

pub up-notes : (at p : Port) (a : Account) → ((after_note p a (Entered at Up)).sent ≡ a.sent) × ((after_note p a (Entered at Up)).taken ≡ a.taken) × ((after_note p a (Entered at Up)).peer ≡ a.peer) × (a.entered ≡ true → (after_note p a (Entered at Up)).entered ≡ true) × ((p.obj.0 ≡ at.obj.0 → ⊥) → (after_note p a (Entered at Up)).entered ≡ a.entered)
up-notes at p a =
    let s = up-sent (is_same_port p at) a in
    (s.0, s.1, s.2, s.3, λ n. rw (is-port-other p at (λ e. n (ap (λ z. z.obj.0) e))) refl)
