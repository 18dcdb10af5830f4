-- A connection goes on to stand for its calls when what waits is lent or comes back, and when it is closed.
use Rattle.std.proofs.Common.{◌≡◌, ◌≤◌, ◌<◌, ℕ, ◌+◌, ◌-◌, ◌^◌, ◌||◌, List, [], ◌∷◌, ◌++◌, drop, get_or, Option, Some, None, Bool, true, false, cond, refl, ap, ◌∙◌, sym, subst, arith, ltb, append-nil}
use Rattle.std.specs.Prelude.{unwrap_or}
use Rattle.std.specs.Option.{is_some}
use Rattle.std.proofs.lemmas.Bool.{false≢true, le-ltb, ltb-true, and_parts}
use Rattle.std.proofs.lemmas.List.{length-drop, take-append-drop, take_all, get_or-drop}
use Rattle.std.proofs.lemmas.Option.{slice_get-get_or}
use Rattle.nb_terms.specs.declared.acts.Acts.{Acts}
use Rattle.nb_reasm.specs.declared.held.Held.{Held}
use Rattle.nb_reasm.specs.HeldWindows.{window}
use Rattle.nb_reasm.specs.Windows.{HeldWindow}
use Rattle.nb_streams.specs.Streams.{HeldBytes, byte_at, before_stop, counts, counting, front, next, has_ended}
use Rattle.nb_streams.specs.Flows.{ConnPhase, conn_phase, held_in, held_after}
use Rattle.nb_streams.specs.Sending.{without_try, fin_ack, has_stop, closing_segment}
use Rattle.nb_streams.specs.Trying.{timer_after}
use Rattle.nb_streams.proofs.StreamLaws.{look_counted}
use Rattle.nb_streams.proofs.LeastLaws.{byte_below_next}
use Rattle.nb_tcp.specs.declared.link.Link.{Link}
use Rattle.nb_tcp.specs.declared.conn.Conn.{Conn}
use Rattle.nb_tcp.specs.declared.conn.ConnState.{ConnState}
use Rattle.nb_tcp.specs.declared.conn.ConnState.TheVariants.{SynSent, Established, Ended}
use Rattle.nb_tcp.specs.Numbers.{flow_of, upto_stop, outgoing_at}
use Rattle.nb_tcp.specs.Replies.{only_ready, all_sending, closing_sends, conn_reset, has_finished, has_come_all}
use Rattle.nb_tcp.specs.Receiving.{PassesOver}
use Rattle.nb_tcp.specs.OtherSteps.{closed_acts, closed_conn}
use Rattle.nb_tcp.specs.ConnHistory.{lends_out, comes_back, closes_from_above, ConnEntry, conn_entry, tcp_calls_of, tcp_calls, advanced_to, delivered_by, delivered, waits_after, is_waiting_after, lent_after, is_lent_after, ends_by}
use Rattle.nb_tcp.specs.ConnPromises.{asked_sends, IsAskedSo, AsksAsPromised}
use Rattle.nb_tcp.specs.ConnStanding.{WindowStands, waits_in, HoldsRest, StateStands, TimerStandsFor, ConnStands, GoesUp}
use Rattle.nb_tcp.proofs.FlowStandsLemmas.{reset_out, fin_out}
use Rattle.nb_tcp.proofs.ConnHistoryLemmas.{calls-append, delivered-append, advanced-append, waiting-append, lent-append, ended-append, EachConnEntry-append}
use Rattle.nb_tcp.proofs.GoesOnLemmas.{phase_of}

-- what has to be shown of a call that brings nothing
record StaysSo (l : Link) (start : ℕ) (old new : Conn) (h : List ConnEntry) (e : ConnEntry) : Type 0 where
  nothing : tcp_calls_of e.call ≡ []
  asks : IsAskedSo l start h e e.call
  advance : e.acts.advance ≡ None
  link : new.link ≡ old.link
  over : has_finished new.state ≡ (has_finished old.state || ends_by e)
  at_end : has_come_all new.state ≡ has_come_all old.state
  held : HoldsRest new.held (held_in (phase_of l h)) (delivered h ++ delivered_by e.call) (lent_after (is_lent_after h) e.call)
  waits : waits_in new.held ≡ waits_after (is_waiting_after h) e.call e.acts
  state : StateStands new.state new.given new.unacked.items (phase_of l h)
  retry : has_finished new.state ≡ false → (new.retry ≡ old.retry) × (has_finished old.state ≡ false)

pub same_calls : (h : List ConnEntry) (e : ConnEntry) → tcp_calls_of e.call ≡ [] → tcp_calls (h ++ e ∷ []) ≡ tcp_calls h
same_calls h e none = calls-append h e ∙ ap (λ xs. tcp_calls h ++ xs) none ∙ append-nil (tcp_calls h)

or_off : (a b : Bool) → (a || (b || false)) ≡ (a || b)
or_off true b = refl
or_off false true = refl
or_off false false = refl

stays : (l : Link) (start : ℕ) (old new : Conn) (h : List ConnEntry) (e : ConnEntry) → ConnStands l start old h → StaysSo l start old new h e → ConnStands l start new (h ++ e ∷ [])
stays l start old new h e was g =
    let calls : tcp_calls (h ++ e ∷ []) ≡ tcp_calls h = same_calls h e g.nothing in
    let phase : phase_of l (h ++ e ∷ []) ≡ phase_of l h = ap (λ cs. conn_phase l.isn cs) calls in
    record {
      keeps = record {
        advance = advanced-append h e ∙ ap (λ o. unwrap_or o (advanced_to h)) g.advance ∙ was.keeps.advance ∙ ap (λ p. next (held_in p)) (sym phase);
        each = EachConnEntry-append (AsksAsPromised l start) [] h e was.keeps.each g.asks;
      };
      link = g.link ∙ was.link;
      over = g.over ∙ ap (λ b. b || ends_by e) was.over ∙ sym (ended-append h e);
      at_end = g.at_end ∙ was.at_end ∙ ap (λ p. has_ended (held_in p)) (sym phase);
      held = subst (λ p. HoldsRest new.held (held_in p) (delivered (h ++ e ∷ [])) (is_lent_after (h ++ e ∷ []))) (sym phase)
          (subst (λ bytes. HoldsRest new.held (held_in (phase_of l h)) bytes (is_lent_after (h ++ e ∷ []))) (sym (delivered-append h e))
          (subst (λ b. HoldsRest new.held (held_in (phase_of l h)) (delivered h ++ delivered_by e.call) b) (sym (lent-append h e)) g.held));
      waits = g.waits ∙ sym (waiting-append h e);
      state = subst (λ p. StateStands new.state new.given new.unacked.items p) (sym phase) g.state;
      timer = λ going. subst (λ cs. TimerStandsFor new.retry (timer_after l.isn start cs)) (sym calls)
          (subst (λ r. TimerStandsFor r (timer_after l.isn start (tcp_calls h))) (sym (g.retry going).0) (was.timer (g.retry going).1));
    }

-- a close from above
closing_is : (l : Link) (state : ConnState) (given : ℕ) (unacked : List ℕ) (p : ConnPhase) → has_finished state ≡ false → StateStands state given unacked p → closing_sends l state ≡ closing_segment l.isn p ∷ []
closing_is l SynSent given unacked p running k = ap (λ x. closing_segment l.isn x ∷ []) (sym k.phase)
closing_is l (Established v) given unacked p running k =
    ap (λ o. cond (has_stop o) (outgoing_at 17 65535 [] v.sent v) (conn_reset v) ∷ []) k.stands.stop
    ∙ ap (λ o. cond (has_stop k.held.stop) o (conn_reset v) ∷ []) (sym (fin_out v k.held k.text k.stands.next k.stands.stop))
    ∙ ap (λ o. cond (has_stop k.held.stop) (fin_ack (flow_of v k.held k.text)) o ∷ []) (sym (reset_out v k.held k.text k.stands.next k.stands.stop))
    ∙ ap (λ x. closing_segment l.isn x ∷ []) (sym k.phase)
closing_is l (Ended at_end) given unacked p running k = absurd (false≢true (sym running))

or_true : (a : Bool) → true ≡ (a || true)
or_true true = refl
or_true false = refl

nil_end : (xs : List ℕ) → xs ≡ xs ++ []
nil_end xs = sym (append-nil xs)

pub close_stands : (l : Link) (start : ℕ) (old new : Conn) (h : List ConnEntry) (acts : Acts) → ConnStands l start old h → has_finished old.state ≡ false → acts ≡ closed_acts old → new ≡ closed_conn old
    → ConnStands l start new (h ++ conn_entry closes_from_above acts ∷ [])
close_stands l start old new h acts was running acts_are new_is =
    let acts_so : acts ≡ asked_sends l (without_try (closing_segment l.isn (phase_of l h)) ∷ []) (only_ready (is_waiting_after h)) =
    acts_are
    ∙ ap (λ x. all_sending x (closing_sends x old.state) (only_ready (waits_in old.held))) was.link
    ∙ ap (λ xs. all_sending l xs (only_ready (waits_in old.held))) (closing_is l old.state old.given old.unacked.items (phase_of l h) running was.state)
    ∙ ap (λ b. all_sending l (closing_segment l.isn (phase_of l h) ∷ []) (only_ready b)) was.waits in
    stays l start old new h (conn_entry closes_from_above acts) was record {
      nothing = refl;
      asks = acts_so;
      advance = ap (λ (x : Acts). x.advance) acts_so;
      link = ap (λ (c : Conn). c.link) new_is;
      over = ap (λ (c : Conn). has_finished c.state) new_is ∙ ends_so (has_finished old.state) (is_some acts.over);
      at_end = ap (λ (c : Conn). has_come_all c.state) new_is;
      held = subst (λ x. HoldsRest x (held_in (phase_of l h)) (delivered h ++ []) (is_lent_after h)) (sym (ap (λ (c : Conn). c.held) new_is))
          (subst (λ xs. HoldsRest old.held (held_in (phase_of l h)) xs (is_lent_after h)) (nil_end (delivered h)) was.held);
      waits = ap (λ (c : Conn). waits_in c.held) new_is ∙ was.waits;
      state = subst (λ x. StateStands x new.given new.unacked.items (phase_of l h)) (sym (ap (λ (c : Conn). c.state) new_is)) tt;
      retry = λ going. absurd (false≢true (sym going ∙ ap (λ (c : Conn). has_finished c.state) new_is));
    }
  where
    ends_so : (a b : Bool) → true ≡ (a || (b || true))
    ends_so true b = refl
    ends_so false true = refl
    ends_so false false = refl

-- the bytes of the lent window below the place that was told last
pub goes_up : (w : HeldWindow) (h : HeldBytes) → WindowStands w h → GoesUp w (next h) (drop w.base (front h))
goes_up w h c = record {
  len = length-drop w.base (front h);
  each = λ k l. at k (omega (arith, l, length-drop w.base (front h)));
}
  where
    at : (k : ℕ) → w.base + k < next h → w.at (w.base + k) ≡ Some (get_or (drop w.base (front h)) k 0)
    at k l =
        let byte : byte_at (w.base + k) (counting h) ≡ Some (get_or (front h) (w.base + k) 0) = byte_below_next h (w.base + k) l ∙ slice_get-get_or (front h) (w.base + k) 0 l in
        let both : (byte_at (w.base + k) h.pairs ≡ Some (get_or (front h) (w.base + k) 0)) × (counts h.stop (w.base + k, get_or (front h) (w.base + k) 0) ≡ true) = look_counted h.stop h.pairs (w.base + k) (get_or (front h) (w.base + k) 0) byte in
        let parts = and_parts (ltb (w.base + k) (2 ^ 31 - 1)) (before_stop h.stop (w.base + k)) both.1 in
        c.at (w.base + k) (omega arith) (ltb-true (w.base + k) (2 ^ 31 - 1) parts.0) parts.1 ∙ both.0 ∙ ap Some (sym (get_or-drop w.base (front h) k 0))

pub lent_up : (l : Link) (start : ℕ) (old : Conn) (w : Held) (h : List ConnEntry) → ConnStands l start old h → old.held ≡ Some w → GoesUp (window w) (advanced_to h) (drop (window w).base (front (held_after l.isn (tcp_calls h))))
lent_up l start old w h was here =
    let rest : HoldsRest (Some w) (held_in (phase_of l h)) (delivered h) (is_lent_after h) = subst (λ x. HoldsRest x (held_in (phase_of l h)) (delivered h) (is_lent_after h)) here was.held in
    subst (λ n. GoesUp (window w) n (drop (window w).base (front (held_in (phase_of l h))))) (sym was.keeps.advance) (goes_up (window w) (held_in (phase_of l h)) rest.1)

pub lent_window : (l : Link) (start : ℕ) (old : Conn) (w : Held) (h : List ConnEntry) → ConnStands l start old h → old.held ≡ Some w → WindowStands (window w) (held_after l.isn (tcp_calls h))
lent_window l start old w h was here =
    let rest : HoldsRest (Some w) (held_in (phase_of l h)) (delivered h) (is_lent_after h) = subst (λ x. HoldsRest x (held_in (phase_of l h)) (delivered h) (is_lent_after h)) here was.held in
    rest.1

or_same : (a : Bool) → a ≡ (a || false)
or_same true = refl
or_same false = refl

-- all that has come goes up with what is lent
pub lend_stands : (l : Link) (start : ℕ) (old new : Conn) (w : Held) (h : List ConnEntry) → ConnStands l start old h → old.held ≡ Some w → new ≡ record old { held = None }
    → ConnStands l start new (h ++ conn_entry (lends_out (drop (window w).base (front (held_after l.isn (tcp_calls h))))) (only_ready false) ∷ [])
lend_stands l start old new w h was here new_is =
    let rest : HoldsRest (Some w) (held_in (phase_of l h)) (delivered h) (is_lent_after h) = subst (λ x. HoldsRest x (held_in (phase_of l h)) (delivered h) (is_lent_after h)) here was.held in
    let whole : delivered h ++ drop (window w).base (front (held_in (phase_of l h))) ≡ front (held_in (phase_of l h)) = ap (λ xs. xs ++ drop (window w).base (front (held_in (phase_of l h)))) rest.2 ∙ take-append-drop (window w).base (front (held_in (phase_of l h))) in
    stays l start old new h (conn_entry (lends_out (drop (window w).base (front (held_in (phase_of l h))))) (only_ready false)) was record {
      nothing = refl;
      asks = whole;
      advance = refl;
      link = ap (λ (c : Conn). c.link) new_is;
      over = ap (λ (c : Conn). has_finished c.state) new_is ∙ or_same (has_finished old.state);
      at_end = ap (λ (c : Conn). has_come_all c.state) new_is;
      held = subst (λ x. HoldsRest x (held_in (phase_of l h)) (delivered h ++ drop (window w).base (front (held_in (phase_of l h)))) true) (sym (ap (λ (c : Conn). c.held) new_is)) (refl, whole);
      waits = ap (λ (c : Conn). waits_in c.held) new_is;
      state = subst (λ (c : Conn). StateStands c.state c.given c.unacked.items (phase_of l h)) (sym new_is) was.state;
      retry = λ going. (ap (λ (c : Conn). c.retry) new_is, sym (ap (λ (c : Conn). has_finished c.state) new_is) ∙ going);
    }

upto_most : (stop : Option ℕ) (k : ℕ) → upto_stop stop k ≤ k
upto_most None k = omega arith
upto_most (Some stop) k = omega arith

pub passed_stands : (old new : HeldWindow) (h : HeldBytes) → WindowStands old h → PassesOver old new → WindowStands new h
passed_stands old new h c p = record {
  size = p.size ∙ c.size;
  least = (omega (arith, p.base, p.next), omega (arith, p.base, p.next), none, λ k l m. absurd (never k new.base new.next l m (p.base ∙ sym p.next)));
  most = omega (arith, p.next, c.most);
  next = c.next ∙ ap (λ n. upto_stop h.stop n) (sym p.next);
  at = λ k l low before. p.at k l ∙ c.at k (omega (arith, l, p.base, c.least.0)) low before;
  above = λ k high. above k high;
}
  where
    never : (k a b : ℕ) → a ≤ k → k < b → a ≡ b → ⊥
    never k a b l m e = omega (arith, l, m, e)

    none : new.at new.next ≡ None
    none = p.at new.next (omega (arith, p.base, p.next)) ∙ ap old.at p.next ∙ c.least.2

    above : (k : ℕ) → 2 ^ 31 - 1 ≤ k → new.at k ≡ None
    above k high = p.at k (omega (arith, high, p.base, c.most)) ∙ c.above k high

pub regain_stands : (l : Link) (start : ℕ) (old new : Conn) (w x : Held) (h : List ConnEntry) → ConnStands l start old h → is_lent_after h ≡ true → WindowStands (window w) (held_after l.isn (tcp_calls h)) → PassesOver (window w) (window x)
    → new ≡ record old { held = Some x } → ConnStands l start new (h ++ conn_entry comes_back (only_ready false) ∷ [])
regain_stands l start old new w x h was lent loan passed new_is =
    let told : delivered h ≡ front (held_in (phase_of l h)) = all_told old.held (held_in (phase_of l h)) (delivered h) (is_lent_after h) was.held lent in
    stays l start old new h (conn_entry comes_back (only_ready false)) was record {
      nothing = refl;
      asks = tt;
      advance = refl;
      link = ap (λ (c : Conn). c.link) new_is;
      over = ap (λ (c : Conn). has_finished c.state) new_is ∙ or_same (has_finished old.state);
      at_end = ap (λ (c : Conn). has_come_all c.state) new_is;
      held = subst (λ o. HoldsRest o (held_in (phase_of l h)) (delivered h ++ []) false) (sym (ap (λ (c : Conn). c.held) new_is)) (
        refl,
        passed_stands (window w) (window x) (held_in (phase_of l h)) loan passed,
        append-nil (delivered h) ∙ told ∙ sym (take_all (window x).base (front (held_in (phase_of l h))) (omega (arith, passed.base, loan.next, upto_most (held_in (phase_of l h)).stop (window w).next))),
      );
      waits = ap (λ (c : Conn). waits_in c.held) new_is ∙ le-ltb (window x).base (window x).next (omega (arith, passed.base, passed.next));
      state = subst (λ (c : Conn). StateStands c.state c.given c.unacked.items (phase_of l h)) (sym new_is) was.state;
      retry = λ going. (ap (λ (c : Conn). c.retry) new_is, sym (ap (λ (c : Conn). has_finished c.state) new_is) ∙ going);
    }
  where
    all_told : (o : Option Held) (hb : HeldBytes) (bytes : List ℕ) (lent : Bool) → HoldsRest o hb bytes lent → lent ≡ true → bytes ≡ front hb
    all_told None hb bytes lent k e = k.1
    all_told (Some y) hb bytes lent k e = absurd (false≢true (sym k.0 ∙ e))
