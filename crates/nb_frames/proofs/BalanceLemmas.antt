-- The accounts of ports, one of which at least is of no object that a call is on.
use Rattle.std.proofs.Common.{◌≡◌, ℕ, ◌==◌, Bool, true, false, List, [], ◌∷◌, ◌++◌, refl, sym, ap, ◌∙◌, append_assoc, subst, if◌then◌else◌}
use Rattle.std.specs.List.{AllByRecursion}
use Rattle.std.proofs.lemmas.Bool.{ne_eqb}
use Rattle.std.proofs.lemmas.List.{append-nil}
use Rattle.nb_ledger.specs.declared.port.Port.{Port}
use Rattle.nb_ledger.specs.declared.event.Way.{Way}
use Rattle.nb_ledger.specs.declared.event.Way.TheVariants as way
use Rattle.nb_ledger.specs.declared.event.GraphEvent.{GraphEvent}
use Rattle.nb_ledger.specs.declared.event.GraphEvent.TheVariants.{Made, Held, LetGo, Plugged, Entered, Left, Dropped, Closed, Unplugged, Freed}
use Rattle.nb_graph.specs.Accounts.{Account, Covers, Midway, account, after_note, account_after_call, enters, is_same_port, rests, sent_by_entry}
use Rattle.nb_graph.specs.Trace.{Nature, NodeEntry}
use Rattle.nb_graph.specs.Deeds.{Deed, writes, begins, calls, turns}
use Rattle.nb_frames.specs.Within.{IsEventWithin}
use Rattle.nb_frames.proofs.WithinLemmas.{IsDeedWithin, apart}
use Rattle.nb_frames.proofs.MaskLemmas.{IsPlainEvent}
use Rattle.nb_frames.proofs.AloneLemmas.{IsPlainDeed}

-- an account in which more was sent
pub record Grows (a b : Account) : Type 0 where
  pub same_peer : b.peer ≡ a.peer
  pub more : List ℕ
  pub sent : b.sent ≡ a.sent ++ more

stays_so : (a : Account) → Grows a (rests a)
stays_so a = record { same_peer = refl; more = []; sent = sym (append-nil a.sent) }

grows_pick : (c : Bool) (a b d : Account) → Grows a b → Grows a d → Grows a (if c then b else d)
grows_pick true a b d h k = h
grows_pick false a b d h k = k

enters_so : (by : Way) (a : Account) → Grows a (enters by a)
enters_so way.Up a = record { same_peer = refl; more = []; sent = sym (append-nil a.sent) }
enters_so way.Down a = record { same_peer = refl; more = []; sent = sym (append-nil a.sent) }
enters_so way.Close a = stays_so a
enters_so way.Time a = stays_so a

note_grows : (p : Port) (a : Account) (e : GraphEvent) → IsPlainEvent e → Grows a (after_note p a e)
note_grows p a (Made x kind) i = absurd i
note_grows p a (Held x) i = absurd i
note_grows p a (LetGo x) i = absurd i
note_grows p a (Plugged u l) i = absurd i
note_grows p a (Entered q by) i = grows_pick (is_same_port p q) a (enters by a) (rests a) (enters_so by a) (stays_so a)
note_grows p a (Left q) i = stays_so a
note_grows p a (Dropped q) i = stays_so a
note_grows p a (Closed q c) i = stays_so a
note_grows p a (Unplugged q r) i = stays_so a
note_grows p a (Freed x) i = absurd i

module _ {N L : Type 0} (known : Nature N L) (own : ℕ → Bool) where
  call_grows : (p : Port) (a : Account) (y : ℕ) (e : NodeEntry N L) → Grows a (if p.obj.0 == y then account_after_call known p a e else rests a)
  call_grows p a y e = grows_pick (p.obj.0 == y) a (account_after_call known p a e) (rests a) (record { same_peer = refl; more = sent_by_entry known p.slot e; sent = refl }) (stays_so a)

  grows_then : (a b d : Account) → Grows a b → Grows b d → Grows a d
  grows_then a b d h k = record { same_peer = k.same_peer ∙ h.same_peer; more = h.more ++ k.more; sent = k.sent ∙ (ap (λ z. z ++ k.more) h.sent ∙ append_assoc a.sent h.more k.more) }

  pub account_grows : (p : Port) (a : Account) (ds : List (Deed N L)) → AllByRecursion IsPlainDeed ds → Grows a (account known p a ds)
  account_grows p a [] i = record { same_peer = refl; more = []; sent = sym (append-nil a.sent) }
  account_grows p a (writes e ∷ ds) i = grows_then a _ _ (note_grows p a e i.0) (account_grows p (after_note p a e) ds i.1)
  account_grows p a (begins x n ∷ ds) i = absurd i.0
  account_grows p a (calls y e ∷ ds) i = grows_then a _ _ (call_grows p a y e) (account_grows p _ ds i.1)
  account_grows p a (turns u ∷ ds) i = account_grows p a ds i.1

  -- nothing is noted at a port of another object
  module _ (q : Port) (far : own q.obj.0 ≡ false) where
    not_here : (r : Port) → own r.obj.0 ≡ true → is_same_port q r ≡ false
    not_here r o = rw (ne_eqb q.obj.0 r.obj.0 (apart own r.obj.0 q.obj.0 o far)) refl

    pub note_far : (b : Account) (e : GraphEvent) → IsPlainEvent e → IsEventWithin own e → after_note q b e ≡ rests b
    note_far b (Made x kind) i o = absurd i
    note_far b (Held x) i o = absurd i
    note_far b (LetGo x) i o = absurd i
    note_far b (Plugged u l) i o = absurd i
    note_far b (Entered r by) i o = rw (not_here r o) refl
    note_far b (Left r) i o = refl
    note_far b (Dropped r) i o = refl
    note_far b (Closed r c) i o = refl
    note_far b (Unplugged r s) i o = refl
    note_far b (Freed x) i o = absurd i

    pub call_far : (b : Account) (y : ℕ) (e : NodeEntry N L) → own y ≡ true → (if q.obj.0 == y then account_after_call known q b e else rests b) ≡ rests b
    call_far b y e o = rw (ne_eqb q.obj.0 y (apart own y q.obj.0 o far)) refl

    -- so what it took and sent stays
    pub far_stays : (b : Account) (ds : List (Deed N L)) → AllByRecursion IsPlainDeed ds → AllByRecursion (IsDeedWithin own) ds → ((account known q b ds).taken ≡ b.taken) × ((account known q b ds).sent ≡ b.sent)
    far_stays b [] i o = (refl, refl)
    far_stays b (writes e ∷ ds) i o =
        let z = far_stays (after_note q b e) ds i.1 o.1 in
        let n = note_far b e i.0 o.0 in
        (z.0 ∙ ap (λ (x : Account). x.taken) n, z.1 ∙ ap (λ (x : Account). x.sent) n)
    far_stays b (begins x n ∷ ds) i o = absurd i.0
    far_stays b (calls y e ∷ ds) i o =
        let z = far_stays (if q.obj.0 == y then account_after_call known q b e else rests b) ds i.1 o.1 in
        let n = call_far b y e o.0 in
        (z.0 ∙ ap (λ (x : Account). x.taken) n, z.1 ∙ ap (λ (x : Account). x.sent) n)
    far_stays b (turns u ∷ ds) i o = far_stays b ds i.1 o.1

    covers_on : (a c b d : Account) → Grows a c → d.taken ≡ b.taken → Covers q a b → Covers q c d
    covers_on a c b d g same h = λ e.
        let z = h (sym g.same_peer ∙ e) in
        (z.0 ++ g.more, g.sent ∙ (ap (λ w. w ++ g.more) z.1 ∙ (append_assoc b.taken z.0 g.more ∙ ap (λ w. w ++ (z.0 ++ g.more)) (sym same))))

    -- and what it took stays the first of what is sent to it
    pub far_covered : (p : Port) (a b : Account) (ds : List (Deed N L)) → AllByRecursion IsPlainDeed ds → AllByRecursion (IsDeedWithin own) ds → Covers q a b → Midway known p q a b ds
    far_covered p a b [] i o h = h
    far_covered p a b (writes e ∷ ds) i o h =
        (h, far_covered p (after_note p a e) (after_note q b e) ds i.1 o.1 (covers_on a (after_note p a e) b (after_note q b e) (note_grows p a e i.0) (ap (λ (x : Account). x.taken) (note_far b e i.0 o.0)) h))
    far_covered p a b (begins x n ∷ ds) i o h = absurd i.0
    far_covered p a b (calls y e ∷ ds) i o h =
        let c : Account = if p.obj.0 == y then account_after_call known p a e else rests a in
        let d : Account = if q.obj.0 == y then account_after_call known q b e else rests b in
        (h, far_covered p c d ds i.1 o.1 (covers_on a c b d (call_grows p a y e) (ap (λ (x : Account). x.taken) (call_far b y e o.0)) h))
    far_covered p a b (turns u ∷ ds) i o h = far_covered p a b ds i.1 o.1 h

  -- two ports of other objects have the same account
  pub far_alike : (p r q : Port) → own p.obj.0 ≡ false → own r.obj.0 ≡ false → (a c b : Account) (ds : List (Deed N L)) → a ≡ c → AllByRecursion IsPlainDeed ds → AllByRecursion (IsDeedWithin own) ds → Midway known r q c b ds → Midway known p q a b ds
  far_alike p r q f g a c b [] e i o h = subst (λ (z : Account). Covers q z b) (sym e) h
  far_alike p r q f g a c b (writes n ∷ ds) e i o h =
      (subst (λ (z : Account). Covers q z b) (sym e) h.0, far_alike p r q f g (after_note p a n) (after_note r c n) (after_note q b n) ds (note_far p f a n i.0 o.0 ∙ (ap rests e ∙ sym (note_far r g c n i.0 o.0))) i.1 o.1 h.1)
  far_alike p r q f g a c b (begins x n ∷ ds) e i o h = absurd i.0
  far_alike p r q f g a c b (calls y n ∷ ds) e i o h =
      (subst (λ (z : Account). Covers q z b) (sym e) h.0, far_alike p r q f g _ _ _ ds (call_far p f a y n o.0 ∙ (ap rests e ∙ sym (call_far r g c y n o.0))) i.1 o.1 h.1)
  far_alike p r q f g a c b (turns u ∷ ds) e i o h = far_alike p r q f g a c b ds e i.1 o.1 h
