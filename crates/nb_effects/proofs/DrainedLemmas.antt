-- What an object sent by a port that is closed first was taken: through all that happens in a call.
use Rattle.std.proofs.Common.{◌≡◌, ◌≢◌, ℕ, ◌+◌, ◌≤◌, inl, inr, Bool, false, cond, eqb, List, [], ◌∷◌, ◌++◌, length, Some, refl, ap, sym, ◌∙◌, subst, append-nil, arith}
use Rattle.std.proofs.lemmas.Bool.{cases_eq}
use Rattle.nb_terms.specs.declared.cause.Cause.{Cause}
use Rattle.nb_ledger.specs.declared.port.Port.{Port}
use Rattle.nb_ledger.specs.declared.port.PortState.TheVariants.{Linked}
use Rattle.nb_ledger.specs.declared.event.GraphEvent.TheVariants.{LetGo, Closed}
use Rattle.nb_ledger.specs.Flat.{Heard}
use Rattle.nb_ledger.specs.Ledger.{Ledger, port, rank, open_count}
use Rattle.nb_ledger.proofs.PortLemmas.{live_by}
use Rattle.nb_effects.specs.Whole.{IsLinked, Objects, port_at}
use Rattle.nb_effects.specs.Trace.{Nature, NodeEntry}
use Rattle.nb_effects.specs.Deeds.{events_of, Deed, writes, begins, calls, turns, Turn, Stage, MustHear, Holds, Makes, MustBegin, Closes, MustShut, Ends, Sends, Gives, Ticks, Wants, Settles, LetsAllGo, all_closes, no_place}
use Rattle.nb_effects.specs.Scene.{Scene, scene_of, after_noted}
use Rattle.nb_effects.specs.Follows.{Becomes, UsesStack, closes_none, keeps, passes, leaves, ticks_none, finds_none, has_begun, next, none_left, lets, lets_none}
use Rattle.nb_effects.specs.Accounts.{account, Account, Balanced, JoinedEnds, Midway, joined, parted, after_note, account_after_call, rests}
use Rattle.nb_effects.specs.Drained.{LinkWatch, link_watch_begun, IsDrained, IsFromOutside, AreFromOutside, watch_event, watch}
use Rattle.nb_effects.specs.Went.{Midways, WentOne, all_of}
use Rattle.nb_effects.proofs.Laws.{only_call}
use Rattle.nb_effects.proofs.DueLemmas.{Bears, Due, Fit, Order, order-full, entered, order-closes}
use Rattle.nb_effects.proofs.TiedLemmas.{state-same, linked-same, linked-open, linked-shut}
use Rattle.nb_effects.proofs.FairLemmas.{Seen, popped, still}
use Rattle.nb_effects.proofs.WrittenLemmas.{written}
use Rattle.nb_effects.proofs.CalledLemmas.{called}

-- the two ends of a link were made, belong to different objects, and what one sent was taken by the other
old-ends : {l : Ledger} {p q : Port} {s t w : List ℕ} → JoinedEnds l p q s t w → (p.obj.0 ≤ l.made) × (q.obj.0 ≤ l.made)
old-ends (joined a b c d e) = (a, b)
old-ends (parted a b c d r e) = (a, b)

start-short : (l : Ledger) {p q : Port} {s t : List ℕ} → port l p.obj.0 p.slot ≡ Linked q → JoinedEnds l p q s t [] → length s ≤ length t + 0
start-short l {t = t} h (joined a b c d e) = let n = ap length (e ∙ append-nil t) in omega (arith, n)
start-short l h (parted a b c d r e) = absurd (let z = sym (ap open_count h) ∙ c in cc)

ends-apart : (l : Ledger) (p q : Port) → IsLinked (port l) (rank l) → port l p.obj.0 p.slot ≡ Linked q → port l q.obj.0 q.slot ≡ Linked p → p.obj.0 ≡ q.obj.0 → ⊥
ends-apart l p q links first second same =
    let ranks = ap (rank l) same in
    elim (cases_eq p.slot 0) [
      | inl e ↦ let less = links.falls p.obj.0 q (subst (λ k. port l p.obj.0 k ≡ Linked q) e first) in absurd (omega (arith, less, ranks))
      | inr n ↦
          let low = links.lower p.obj.0 p.slot q (grind (arith, n)) first in
          let less = links.falls q.obj.0 p (subst (λ k. port l q.obj.0 k ≡ Linked p) low second) in
          absurd (omega (arith, less, ranks))
    ]

module _ {N L : Type 0} (known : Nature N L) (p q : Port) where
  module _ (now : ℕ) (apart : p.obj.0 ≡ q.obj.0 → ⊥) (slots : q.slot ≤ 3) where
    -- something turns
    turned : (s : Scene) (w : LinkWatch) (a b : Account) (gs : List (Stage N L)) {g : Stage N L} {u : Turn} {more : List (Stage N L)} → Becomes known now s g (turns u) more → Seen p q w s a b (g ∷ gs) → Seen p q w s a b (more ++ gs)
    turned s w a b gs (closes_none r c o) seen z =
        let f = seen z in
        still known p q s w.running a b (Closes r c) gs [] (λ k x. x) (linked-shut s q p r f.tied.second o) f.runs f (λ k. k)
    turned s w a b gs (keeps x) seen z =
        let f = seen z in
        still known p q s w.running a b (Settles x) gs [] (λ k x. x) (λ x. x) f.runs f (λ k. k)
    turned s w a b gs (passes r t m o) seen z =
        let f = seen z in
        record {
          tied = f.tied;
          peer = f.peer;
          runs = f.runs;
          order = ((λ i. f.order.0 (f.tied.only_second r t o i)), f.order.1);
          missing = f.missing;
          due = elim f.due [
            | inl d ↦ inl (d.0, (linked-same q t (sym f.tied.first ∙ (sym (state-same s p r d.1.0) ∙ o)), d.1.1), d.2)
            | inr d ↦ inr d
          ];
          short = f.short;
        }
    turned s w a b gs (leaves r m o) seen z =
        let f = seen z in
        still known p q s w.running a b (Sends r m) gs [] (λ k x. linked-open s p q r f.tied.first o x.0) (λ x. x) f.runs f (λ k. k)
    turned s w a b gs (ticks_none x o) seen z =
        let f = seen z in
        still known p q s w.running a b (Ticks x) gs [] (λ k x. x) (λ x. x) f.runs f (λ k. k)
    turned s w a b gs (finds_none r n o full) seen z =
        let f = seen z in
        still known p q s w.running a b (Makes r n) gs (all_closes r.obj.0 no_place) (λ k x. x) (λ x. x) f.runs f (λ k. order-full known p q b.entered r.obj.0 gs k)
    turned s w a b gs (next after x c le live none) seen z =
        let f = seen z in
        still known p q s w.running a b (Ends after c) gs (all_closes x c ++ Ends x c ∷ []) (λ k x. x) (λ x. x) f.runs f
        (λ k. order-closes known p q b.entered x ((0, c) ∷ (1, c) ∷ (2, c) ∷ (3, c) ∷ []) (Ends x c ∷ gs) apart
        (λ i le n d. f.order.0 n (popped known p q (Ends x c) gs n (λ k y. y) (λ y. y) d)) (f.order.0, k))
    turned s w a b gs (none_left after c none) seen z =
        let f = seen z in
        still known p q s w.running a b (Ends after c) gs [] (λ k x. x) (λ x. x) f.runs f (λ k. k)
    turned s w a b gs (lets x) seen z =
        let f = seen z in
        still known p q s w.running a b LetsAllGo gs (Wants (LetGo x) ∷ LetsAllGo ∷ []) (λ k x. x) (λ x. x) f.runs f (λ k. (tt, (tt, k)))
    turned s w a b gs lets_none seen z =
        let f = seen z in
        still known p q s w.running a b LetsAllGo gs [] (λ k x. x) (λ x. x) f.runs f (λ k. k)

    begun : (s : Scene) (w : LinkWatch) (a b : Account) (gs : List (Stage N L)) {g : Stage N L} {x : ℕ} {n : N} {more : List (Stage N L)} → Becomes known now s g (begins x n) more → Seen p q w s a b (g ∷ gs) → Seen p q w s a b (more ++ gs)
    begun s w a b gs (has_begun x n) seen z =
        let f = seen z in
        still known p q s w.running a b (MustBegin x n) gs [] (λ k y. y) (λ y. y) f.runs f (λ k. k)

    -- through all that happens
    drained : (s t : Scene) (st : List (Stage N L)) (ds : List (Deed N L)) (w : LinkWatch) (a b : Account) → UsesStack known now s st ds t → Midway known p q a b ds → Seen p q w s a b st → IsDrained known p q a b w ds
    drained s t st [] w a b h mid seen = tt
    drained s t [] (d ∷ ds) w a b h mid seen = absurd h
    drained s t (g ∷ gs) (writes e ∷ ds) w a b (more, row, h) mid seen =
        let r = written known p q now apart slots s w a b gs row mid.0 seen in
        (r.0, drained (after_noted e s) t (more ++ gs) ds (watch_event p q w e) (after_note p a e) (after_note q b e) h mid.1 r.1)
    drained s t (g ∷ gs) (begins x n ∷ ds) w a b (more, row, h) mid seen = drained s t (more ++ gs) ds w a b h mid (begun s w a b gs row seen)
    drained s t (g ∷ gs) (turns u ∷ ds) w a b (more, row, h) mid seen = drained s t (more ++ gs) ds w a b h mid (turned s w a b gs row seen)
    drained s t (g ∷ gs) (calls x e ∷ ds) w a b (more, row, h) mid seen =
        drained s t (more ++ gs) ds w (cond (eqb p.obj.0 x) (account_after_call known p a e) (rests a)) (cond (eqb q.obj.0 x) (account_after_call known q b e) (rests b)) h mid.1 (called known p q now apart slots s w a b gs row seen)

  -- what is asked for from outside brings nothing
  outside-entered : (asks : List (Stage N L)) → AreFromOutside asks → entered p.obj.0 asks ≡ 0
  outside-entered [] h = refl
  outside-entered (g ∷ gs) h = alone g gs h.0 (outside-entered gs h.1)
    where
      alone : (g : Stage N L) (gs : List (Stage N L)) → IsFromOutside g → entered p.obj.0 gs ≡ 0 → entered p.obj.0 (g ∷ gs) ≡ 0
      alone (Holds r by m) gs i e = absurd i
      alone (MustHear r c) gs i e = absurd i
      alone _ gs i e = e

  outside-due : (asks : List (Stage N L)) (n : ℕ) → AreFromOutside asks → Due p q n asks → n ≡ 0
  outside-due [] n h d = d
  outside-due (g ∷ gs) n h d = elim d [
    | inl b ↦ absurd (bears-none g b.0 h.0 b.1)
    | inr r ↦ elim r [
      | inl b ↦ let i = b.1 in let j = outside-entered gs h.1 in absurd (omega (arith, i, j))
      | inr f ↦ outside-due gs n h.1 f
    ]
  ]
    where
      bears-none : (g : Stage N L) (k : ℕ) → IsFromOutside g → Bears p q g k → ⊥
      bears-none (Sends r m) k i b = i
      bears-none (Gives r m) k i b = i
      bears-none (Holds r by (Some m)) k i b = i
      bears-none _ k i b = b

  outside-order : (asks : List (Stage N L)) (e : Bool) → AreFromOutside asks → Order p q e asks
  outside-order [] e h = tt
  outside-order (g ∷ gs) e h = (alone g gs h.0 h.1, outside-order gs e h.1)
    where
      alone : (g : Stage N L) (gs : List (Stage N L)) → IsFromOutside g → AreFromOutside gs → Fit p q e g gs
      alone (Sends r m) gs i k = absurd i
      alone (Gives r m) gs i k = absurd i
      alone (Holds r by m) gs i k = absurd i
      alone (MustShut r c) gs i k = absurd i
      alone (Closes r c) gs i k = λ j _ le n d. outside-due gs n k d
      alone (Ends y c) gs i k = λ n d. outside-due gs n k d
      alone _ gs i k = tt

  outside-none : (asks : List (Stage N L)) → Due p q 0 asks
  outside-none [] = refl
  outside-none (g ∷ gs) = inr (inr (outside-none gs))

  -- the ends of a link of a graph
  pub drains : (now : ℕ) (l : Ledger) (t : Scene) (asks : List (Stage N L)) (ds : List (Deed N L)) (a b : Account) → AreFromOutside asks → IsLinked (port l) (rank l) → Balanced l p q a b → a.peer ≡ Some q → port l p.obj.0 p.slot ≡ Linked q
      → UsesStack known now (scene_of l) asks ds t → Midway known p q (rests a) (rests b) ds → IsDrained known p q (rests a) (rests b) link_watch_begun ds
  drains now l t asks ds a b out links bal peer linked h mid =
      let back : port l q.obj.0 q.slot ≡ Linked p = links.back p.obj.0 p.slot q linked in
      let ends = bal peer in
      let old = old-ends ends in
      let apart : p.obj.0 ≡ q.obj.0 → ⊥ = ends-apart l p q links linked back in
      let four = (live_by l q.obj.0 q.slot (Linked p) tt back).1 in
      let slots : q.slot ≤ 3 = omega (arith, four) in
      drained now apart slots (scene_of l) t asks ds link_watch_begun (rests a) (rests b) h mid (λ _. record {
        tied = record {
          first = linked;
          second = back;
          only_first = λ r v e i. linked-same q (port_at r.obj.0 r.slot) (sym linked ∙ (sym (state-same (scene_of l) p v i) ∙ links.back r.obj.0 r.slot v e));
          only_second = λ r v e i. linked-same p (port_at r.obj.0 r.slot) (sym back ∙ (sym (state-same (scene_of l) q v i) ∙ links.back r.obj.0 r.slot v e));
          old_first = old.0;
          old_second = old.1;
        };
        peer = peer;
        runs = let e = outside-entered asks out in omega (arith, e);
        order = outside-order asks b.entered out;
        missing = 0;
        due = outside-none asks;
        short = start-short l linked ends;
      })

-- in one call
pub went-drained : {N L : Type 0} (stands : N → List (NodeEntry N L) → Type 0) (known : Nature N L) (now : ℕ) (asks : List (Stage N L)) (old new : Objects N) (before after : Heard) (p q : Port) (a b : Account) → AreFromOutside asks → IsLinked (port old.book) (rank old.book) → Balanced old.book p q a b
    → (k : WentOne stands known now asks old new before after) → a.peer ≡ Some q → port old.book p.obj.0 p.slot ≡ Linked q → IsDrained known p q (rests a) (rests b) link_watch_begun (all_of k.deeds)
went-drained stands known now asks old new before after p q a b out links bal k peer linked =
    let one = only_call known (scene_of old.book) (scene_of new.book) (record { now = now; asks = asks }) k.deeds k.each in
    let mid = subst (Midways known p q a b) one.1 (k.midway p q a b bal) in
    let ds = drains known p q now old.book (scene_of new.book) asks one.0 a b out links bal peer linked one.2 mid.0 in
    subst (λ dss. IsDrained known p q (rests a) (rests b) link_watch_begun (all_of dss)) (sym one.1) (subst (IsDrained known p q (rests a) (rests b) link_watch_begun) (sym (append-nil one.0)) ds)

-- where what happens is so many deeds, and then the close of p
at-close : {N L : Type 0} (known : Nature N L) (p q : Port) (a b : Account) (w : LinkWatch) (us vs : List (Deed N L)) (c : Cause) → c ≢ no_place → IsDrained known p q a b w (us ++ writes (Closed p c) ∷ vs) → (watch p q w (events_of us)).ended ≡ false → (watch p q w (events_of us)).running ≤ 1
    → (account known p a us).sent ≡ (account known q b us).taken
at-close known p q a b w [] vs c n d = λ e le. d.0 (refl, n) e le
at-close known p q a b w (writes e ∷ us) vs c n d = at-close known p q (after_note p a e) (after_note q b e) (watch_event p q w e) us vs c n d.1
at-close known p q a b w (begins x y ∷ us) vs c n d = at-close known p q a b w us vs c n d
at-close known p q a b w (turns u ∷ us) vs c n d = at-close known p q a b w us vs c n d
at-close known p q a b w (calls y e ∷ us) vs c n d = at-close known p q (cond (eqb p.obj.0 y) (account_after_call known p a e) (rests a)) (cond (eqb q.obj.0 y) (account_after_call known q b e) (rests b)) w us vs c n d

pub drained-at : {N L : Type 0} (known : Nature N L) (p q : Port) (a b : Account) (w : LinkWatch) (ds us vs : List (Deed N L)) (c : Cause) → c ≢ no_place → IsDrained known p q a b w ds → ds ≡ us ++ writes (Closed p c) ∷ vs → (watch p q w (events_of us)).ended ≡ false → (watch p q w (events_of us)).running ≤ 1
    → (account known p a us).sent ≡ (account known q b us).taken
drained-at known p q a b w ds us vs c n d e = at-close known p q a b w us vs c n (subst (IsDrained known p q a b w) e d)
