-- A link through an event of a call.
use Rattle.std.proofs.Common.{◌≡◌, ℕ, ◌+◌, ◌-◌, ◌≤◌, Bool, true, false, cond, eqb, List, [], ◌∷◌, ◌++◌, length, length-append, Some, None, refl, ap, sym, ◌∙◌, append-nil, arith, ◌||◌, min, max}
use Rattle.std.proofs.lemmas.Bool.{eq-eqb, false≢true, or_parts}
use Rattle.nb_terms.specs.declared.cause.Cause.{Cause}
use Rattle.nb_ledger.specs.declared.port.Port.{Port}
use Rattle.nb_ledger.specs.declared.event.Way.{Way}
use Rattle.nb_ledger.specs.declared.event.Way.TheVariants as way
use Rattle.nb_ledger.specs.declared.event.GraphEvent.{GraphEvent}
use Rattle.nb_ledger.specs.declared.event.GraphEvent.TheVariants.{Held, LetGo, Closed}
use Rattle.nb_effects.specs.Whole.{port_at}
use Rattle.nb_effects.specs.Trace.{Nature, silence}
use Rattle.nb_effects.specs.Deeds.{writes, Stage, Shut, MustHear, Holds, Makes, MustMake, MustBegin, MustPlug, Closes, MustShut, Sends, Gives, Offers, Ticks, Wants, MustUnplug, Settles, rest, settles_by}
use Rattle.nb_effects.specs.Scene.{Scene, after_noted}
use Rattle.nb_effects.specs.Follows.{Becomes, closes_alone, closes_link, peer_closes, peer_enters, unplugs, frees, drops, enters_up, enters_down, offered_up, offered_down, refused, drops_rest, ends, ticks, makes, makes_none, plugs, made_outside, held, let_go}
use Rattle.nb_effects.specs.Accounts.{Account, Covers, after_note, rests, is_same_port}
use Rattle.nb_effects.specs.Drained.{LinkWatch, watch_event}
use Rattle.nb_effects.proofs.DueLemmas.{Is, Order, entered, due-push}
use Rattle.nb_effects.proofs.TiedLemmas.{same-false, not-same, linked-open, linked-shut, tied-closed, tied-unplugged, tied-made, tied-freed, tied-plugged}
use Rattle.nb_effects.proofs.FairLemmas.{Seen, Claim, bump-both, popped, order-noted, noted, enters-fair, on, in-scene}

-- what was taken is the first of what was sent, and not less
pub all-taken : (s t rest : List ℕ) (n : ℕ) → s ≡ t ++ rest → length s ≤ length t + n → n ≡ 0 → s ≡ t
all-taken s t [] n e h z = e ∙ append-nil t
all-taken s t (x ∷ rest) n e h z = absurd (let l : length s ≡ length (t ++ x ∷ rest) = ap length e in let m = length-append t (x ∷ rest) in omega (arith, l, m, h, z))

pub unbump : (c : Bool) (h n : ℕ) → cond c (h + 1) h ≤ n → h ≤ cond c (n - 1) n
unbump true h n e = omega (arith, e)
unbump false h n e = e

differ : (x y : ℕ) → eqb x y ≡ false → x ≡ y → ⊥
differ x y e i = absurd (false≢true (sym e ∙ eq-eqb x y i))

module _ {N L : Type 0} (known : Nature N L) (p q : Port) where
  -- what stands below an entry that ends
  settled-runs : (by : Way) (x : ℕ) (gs : List (Stage N L)) → entered p.obj.0 (settles_by by x ++ gs) ≡ entered p.obj.0 gs
  settled-runs way.Up x gs = refl
  settled-runs way.Down x gs = refl
  settled-runs way.Close x gs = refl
  settled-runs way.Time x gs = refl

  settled-order : (e : Bool) (by : Way) (x : ℕ) (gs : List (Stage N L)) → Order p q e gs → Order p q e (settles_by by x ++ gs)
  settled-order e way.Up x gs o = (tt, o)
  settled-order e way.Down x gs o = (tt, o)
  settled-order e way.Close x gs o = o
  settled-order e way.Time x gs o = (tt, o)

  module _ (now : ℕ) (apart : p.obj.0 ≡ q.obj.0 → ⊥) (slots : q.slot ≤ 3) where
    -- p is closed by itself: all that it sent was taken
    claims : (s : Scene) (w : LinkWatch) (a b : Account) (r : Port) (c : Cause) (gs : List (Stage N L)) → Covers q a b → Seen p q w s a b (Closes r c ∷ gs) → Claim p a b w (Closed r c)
    claims s w a b r c gs covers seen e z le =
        let f = seen z in
        let i : Is p r = (ap (λ y. y.obj.0) e.0, ap (λ y. y.slot) e.0) in
        let runs = f.runs in
        let none = f.order.0 i e.1 (omega (arith, runs, le)) f.missing (popped known p q (Closes r c) gs f.missing (λ k b. b) (λ j. apart (sym i.0 ∙ j.0)) f.due) in
        let cover = covers f.peer in
        all-taken a.sent b.taken cover.0 f.missing cover.1 f.short none

    -- an event is written
    pub written : (s : Scene) (w : LinkWatch) (a b : Account) (gs : List (Stage N L)) {g : Stage N L} {e : GraphEvent} {more : List (Stage N L)} → Becomes known now s g (writes e) more → Covers q a b → Seen p q w s a b (g ∷ gs)
        → Claim p a b w e × Seen p q (watch_event p q w e) (after_noted e s) (after_note p a e) (after_note q b e) (more ++ gs)
    written s w a b gs (closes_alone r c o) covers seen = (
      claims s w a b r c gs covers seen,
      λ z.
          let zs = or_parts w.ended (is_same_port p r || is_same_port q r) z in
          let sep = or_parts (is_same_port p r) (is_same_port q r) zs.1 in
          let f = seen zs.0 in
          in-scene known p q s (after_noted (Closed r c) s) w.running (rests a) (rests b) gs (tied-closed p q s r c sep.0 sep.1 f.tied)
          (on known p q s w.running a b (Closes r c) gs [] (λ k x. x) (not-same q r sep.1) f.runs f (λ o. o)),
    )
    written s w a b gs (closes_link r t c o) covers seen = (
      claims s w a b r c gs covers seen,
      λ z.
          let zs = or_parts w.ended (is_same_port p r || is_same_port q r) z in
          let sep = or_parts (is_same_port p r) (is_same_port q r) zs.1 in
          let f = seen zs.0 in
          in-scene known p q s (after_noted (Closed r c) s) w.running (rests a) (rests b) (MustShut t c ∷ MustUnplug r t ∷ gs) (tied-closed p q s r c sep.0 sep.1 f.tied)
          (on known p q s w.running a b (Closes r c) gs (MustShut t c ∷ MustUnplug r t ∷ []) (λ k x. x) (not-same q r sep.1) f.runs f
          (λ k. ((λ i. not-same q r sep.1 (f.tied.only_first r t o i)), (tt, k)))),
    )
    written s w a b gs (peer_closes r c) covers seen = (
      (λ e z le. absurd ((seen z).order.0 (ap (λ y. y.obj.0) e.0, ap (λ y. y.slot) e.0))),
      λ z.
          let zs = or_parts w.ended (is_same_port p r || is_same_port q r) z in
          let sep = or_parts (is_same_port p r) (is_same_port q r) zs.1 in
          let f = seen zs.0 in
          in-scene known p q s (after_noted (Closed r c) s) w.running (rests a) (rests b) (Shut r c ∷ gs) (tied-closed p q s r c sep.0 sep.1 f.tied)
          (on known p q s w.running a b (MustShut r c) gs (Shut r c ∷ []) (λ k x. x) (λ x. x) f.runs f (λ k. (tt, k))),
    )
    written s w a b gs (peer_enters r c) covers seen = (
      (λ e. absurd e),
      λ z.
          let f = seen (or_parts w.ended false z).0 in
          noted known p q s w.running a b r way.Close (Shut r c) gs (MustHear r c ∷ gs) f
          (bump-both (eqb p.obj.0 r.obj.0) (entered p.obj.0 gs) w.running f.runs)
          (tt, order-noted known p q (is_same_port q r) way.Close b gs f.order.1)
          (due-push known p q (MustHear r c ∷ []) gs f.missing (popped known p q (Shut r c) gs f.missing (λ k x. x) (λ x. x) f.due)),
    )
    written s w a b gs (unplugs r t) covers seen = (
      (λ e. absurd e),
      λ z.
          let zs = or_parts w.ended ((is_same_port p r || is_same_port p t) || (is_same_port q r || is_same_port q t)) z in
          let sep = or_parts (is_same_port p r || is_same_port p t) (is_same_port q r || is_same_port q t) zs.1 in
          let one = or_parts (is_same_port p r) (is_same_port p t) sep.0 in
          let two = or_parts (is_same_port q r) (is_same_port q t) sep.1 in
          let f = seen zs.0 in
          in-scene known p q s _ w.running (rests a) (rests b) _ (tied-unplugged p q s r t (not-same p r one.0) (not-same p t one.1) (not-same q r two.0) (not-same q t two.1) f.tied)
          (on known p q s w.running a b (MustUnplug r t) gs (Settles (min r.obj.0 t.obj.0) ∷ Settles (max r.obj.0 t.obj.0) ∷ []) (λ k x. x) (λ x. x) f.runs f (λ k. (tt, (tt, k)))),
    )
    written s w a b gs (frees y) covers seen = (
      (λ e. absurd e),
      λ z.
          let zs = or_parts w.ended (eqb p.obj.0 y.0 || eqb q.obj.0 y.0) z in
          let sep = or_parts (eqb p.obj.0 y.0) (eqb q.obj.0 y.0) zs.1 in
          let f = seen zs.0 in
          in-scene known p q s _ w.running (rests a) (rests b) gs (tied-freed p q s y (differ p.obj.0 y.0 sep.0) (differ q.obj.0 y.0 sep.1) f.tied)
          (on known p q s w.running a b (Settles y.0) gs [] (λ k x. x) (λ x. x) f.runs f (λ k. k)),
    )
    written s w a b gs (drops r m o) covers seen = (
      (λ e. absurd e),
      λ z.
          let f = seen (or_parts w.ended false z).0 in
          on known p q s w.running a b (Sends r m) gs [] (λ k x. linked-shut s p q r f.tied.first o x.0) (λ x. x) f.runs f (λ k. k),
    )
    written s w a b gs (enters_up r m i o) covers seen = (
      (λ e. absurd e),
      λ z.
          let f = seen (or_parts w.ended false z).0 in
          enters-fair known p q s w.running a b r way.Up (Gives r m) m gs f (λ c. refl) f.runs f.order.0 f.order.1 f.due,
    )
    written s w a b gs (enters_down r m i o) covers seen = (
      (λ e. absurd e),
      λ z.
          let f = seen (or_parts w.ended false z).0 in
          enters-fair known p q s w.running a b r way.Down (Gives r m) m gs f (λ c. refl) f.runs f.order.0 f.order.1 f.due,
    )
    written s w a b gs (offered_up r m i o) covers seen = (
      (λ e. absurd e),
      λ z.
          let f = seen (or_parts w.ended false z).0 in
          enters-fair known p q s w.running a b r way.Up (Offers r m) m gs f (λ c. refl) f.runs (λ j. absurd (linked-open s q p r f.tied.second o j)) f.order.1
          (due-push known p q (Holds r way.Up (Some m) ∷ []) gs f.missing (popped known p q (Offers r m) gs f.missing (λ k x. x) (λ x. x) f.due)),
    )
    written s w a b gs (offered_down r m i o) covers seen = (
      (λ e. absurd e),
      λ z.
          let f = seen (or_parts w.ended false z).0 in
          enters-fair known p q s w.running a b r way.Down (Offers r m) m gs f (λ c. refl) f.runs (λ j. absurd (linked-open s q p r f.tied.second o j)) f.order.1
          (due-push known p q (Holds r way.Down (Some m) ∷ []) gs f.missing (popped known p q (Offers r m) gs f.missing (λ k x. x) (λ x. x) f.due)),
    )
    written s w a b gs (refused r m o) covers seen = (
      (λ e. absurd e),
      λ z.
          let f = seen (or_parts w.ended false z).0 in
          on known p q s w.running a b (Offers r m) gs [] (λ k x. x) (λ x. x) f.runs f (λ k. k),
    )
    written s w a b gs (drops_rest r m o) covers seen = (
      (λ e. absurd e),
      λ z.
          let f = seen (or_parts w.ended false z).0 in
          on known p q s w.running a b (Holds r way.Up (Some m)) gs (Holds r way.Up None ∷ []) (λ k x. linked-shut s q p r f.tied.second o x.0) (λ x. x) f.runs f (λ k. (tt, k)),
    )
    written s w a b gs (ends r by) covers seen = (
      (λ e. absurd e),
      λ z.
          let f = seen (or_parts w.ended false z).0 in
          let below = unbump (eqb p.obj.0 r.obj.0) (entered p.obj.0 gs) w.running f.runs in
          record {
            tied = f.tied;
            peer = f.peer;
            runs = rw (settled-runs by r.obj.0 gs) below;
            order = settled-order b.entered by r.obj.0 gs f.order.1;
            missing = f.missing;
            due = due-push known p q (settles_by by r.obj.0) gs f.missing (popped known p q (Holds r by None) gs f.missing (λ k x. x) (λ x. x) f.due);
            short = f.short;
          },
    )
    written s w a b gs (ticks x o) covers seen = (
      (λ e. absurd e),
      λ z.
          let f = seen (or_parts w.ended false z).0 in
          noted known p q s w.running a b (port_at x 4) way.Time (Ticks x) gs (Holds (port_at x 4) way.Time (Some silence) ∷ gs) f
          (bump-both (eqb p.obj.0 x) (entered p.obj.0 gs) w.running f.runs)
          ((λ i. absurd (omega (arith, i.1, slots))), order-noted known p q (is_same_port q (port_at x 4)) way.Time b gs f.order.1)
          (due-push known p q (Holds (port_at x 4) way.Time (Some silence) ∷ []) gs f.missing (popped known p q (Ticks x) gs f.missing (λ k i. i) (λ i. i) f.due)),
    )
    written s w a b gs (makes r n y o full e) covers seen = (
      (λ e. absurd e),
      λ z.
          let f = seen (or_parts w.ended false z).0 in
          record {
            tied = tied-made p q s y (known.kind n) e f.tied;
            peer = f.peer;
            runs = f.runs;
            order = (tt, (tt, f.order.1));
            missing = f.missing;
            due = due-push known p q (MustBegin y.0 n ∷ MustPlug r (port_at y.0 0) ∷ []) gs f.missing (popped known p q (Makes r n) gs f.missing (λ k x. x) (λ x. x) f.due);
            short = f.short;
          },
    )
    written s w a b gs (makes_none r n o) covers seen = (
      (λ e. absurd e),
      λ z.
          let f = seen (or_parts w.ended false z).0 in
          on known p q s w.running a b (Makes r n) gs [] (λ k x. x) (λ x. x) f.runs f (λ k. k),
    )
    written s w a b gs (plugs u l o v) covers seen = (
      (λ e. absurd e),
      λ z.
          let f = seen (or_parts w.ended false z).0 in
          let one = linked-open s p q u f.tied.first o in
          let two = linked-open s p q l f.tied.first v in
          let three = linked-open s q p u f.tied.second o in
          let four = linked-open s q p l f.tied.second v in
          let k = in-scene known p q s _ w.running (rests a) (rests b) gs (tied-plugged p q s u l o v f.tied) (on known p q s w.running a b (MustPlug u l) gs [] (λ k x. x) (λ x. x) f.runs f (λ k. k)) in
          rw (same-false p u one, same-false p l two, same-false q u three, same-false q l four) k,
    )
    written s w a b gs (made_outside y n full e) covers seen = (
      (λ e. absurd e),
      λ z.
          let f = seen (or_parts w.ended false z).0 in
          record {
            tied = tied-made p q s y (known.kind n) e f.tied;
            peer = f.peer;
            runs = f.runs;
            order = (tt, f.order.1);
            missing = f.missing;
            due = due-push known p q (MustBegin y.0 n ∷ []) gs f.missing (popped known p q (MustMake y n) gs f.missing (λ k x. x) (λ x. x) f.due);
            short = f.short;
          },
    )
    written s w a b gs (held y o) covers seen = (
      (λ e. absurd e),
      λ z.
          let f = seen (or_parts w.ended false z).0 in
          on known p q s w.running a b (Wants (Held y)) gs [] (λ k x. x) (λ x. x) f.runs f (λ k. k),
    )
    written s w a b gs (let_go y o) covers seen = (
      (λ e. absurd e),
      λ z.
          let f = seen (or_parts w.ended false z).0 in
          on known p q s w.running a b (Wants (LetGo y)) gs (Settles y.0 ∷ []) (λ k x. x) (λ x. x) f.runs f (λ k. (tt, k)),
    )
