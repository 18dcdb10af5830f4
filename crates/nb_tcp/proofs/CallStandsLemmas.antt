-- What the public calls of a connection promise, from their steps.
use Rattle.std.proofs.Common.{◌≡◌, ◌≤◌, ◌<◌, ℕ, ◌+◌, ◌^◌, List, [], ◌∷◌, ◌++◌, length, take, drop, ltb, Option, Some, None, Bool, true, false, refl, ap, ◌∙◌, sym, subst, arith}
use Rattle.std.specs.Prelude.{Result, Ok, Err, OnOk, OnErr, IfErr, IsOk, IfSome, IsNone}
use Rattle.std.proofs.lemmas.Bool.{false≢true, le-ltb}
use Rattle.std.proofs.lemmas.Option.{none-some}
use Rattle.nb_retry.specs.declared.plan.Plan.TheVariants.{Common}
use Rattle.nb_terms.specs.declared.acts.Acts.{Acts}
use Rattle.nb_reasm.specs.declared.held.Held.{Held}
use Rattle.nb_reasm.specs.HeldWindows.{window}
use Rattle.nb_reasm.specs.Windows.{HeldWindow}
use Rattle.nb_streams.specs.Streams.{HeldBytes, nothing_held, front}
use Rattle.nb_streams.specs.Flows.{asking, text_came, time_came, conn_phase, held_after}
use Rattle.nb_streams.specs.Trying.{timer_after, timer_since}
use Rattle.nb_streams.proofs.StreamLaws.{either}
use Rattle.nb_tcp.specs.declared.link.Link.{Link}
use Rattle.nb_tcp.specs.declared.conn.Conn.{Conn}
use Rattle.nb_tcp.specs.declared.conn.ConnState.{ConnState}
use Rattle.nb_tcp.specs.declared.conn.ConnState.TheVariants.{SynSent, Established, Ended}
use Rattle.nb_tcp.specs.declared.conn.SendError.{SendError}
use Rattle.nb_tcp.specs.declared.conn.SendError.TheVariants as send_error
use Rattle.nb_tcp.specs.Replies.{only_ready, all_sending, closing_sends, has_finished, has_come_all}
use Rattle.nb_tcp.specs.OtherSteps.{ticked_acts, ticked_conn, SameConn, FollowsGiven, closed_acts, closed_conn}
use Rattle.nb_tcp.specs.ConnHistory.{ConnEntry, conn_entry, calls_in, closes_from_above, tcp_calls, delivered, is_waiting_after, is_lent_after, has_ended_after}
use Rattle.nb_tcp.specs.ConnPromises.{text_in}
use Rattle.nb_tcp.specs.ConnStanding.{WindowStands, waits_in, HoldsRest, StateStands, TimerStandsFor, ConnStands, IsConnAsking, IsLent}
use Rattle.nb_tcp.proofs.TakenStandsLemmas.{fresh_timer}
use Rattle.nb_tcp.proofs.TimeStandsLemmas.{tick_goes_on}
use Rattle.nb_tcp.proofs.TextStandsLemmas.{text_goes_on}
use Rattle.nb_tcp.proofs.LendStandsLemmas.{close_stands, lend_stands, lent_up, lent_window}
use Rattle.nb_tcp.proofs.GoesOnLemmas.{phase_of, goes_on}

pub on_ok : {A E P Q : Type 0} (r : Result A E) → (P → Q) → OnOk r P → OnOk r Q
on_ok (Ok x) f p = f p
on_ok (Err e) f p = tt

pub on_err : {A E P Q : Type 0} (r : Result A E) → (P → Q) → OnErr r P → OnErr r Q
on_err (Ok x) f p = tt
on_err (Err e) f p = f p

of_ok : {A E P : Type 0} (r : Result A E) → IsOk r → OnOk r P → P
of_ok (Ok x) is p = p
of_ok (Err e) is p = absurd (false≢true is)

-- the same connection with other memory
same_stands : (l : Link) (start : ℕ) (old new : Conn) (h : List ConnEntry) → ConnStands l start old h → SameConn old new → ConnStands l start new h
same_stands l start old new h was s = record {
  keeps = was.keeps;
  link = s.link ∙ was.link;
  over = ap has_finished s.state ∙ was.over;
  at_end = ap has_come_all s.state ∙ was.at_end;
  held = subst (λ x. HoldsRest x (held_after l.isn (tcp_calls h)) (delivered h) (is_lent_after h)) (sym s.held) was.held;
  waits = ap waits_in s.held ∙ was.waits;
  state = subst (λ x. StateStands x new.given new.unacked.items (phase_of l h)) (sym s.state)
      (subst (λ g. StateStands old.state g new.unacked.items (phase_of l h)) (sym s.given)
      (subst (λ xs. StateStands old.state old.given xs (phase_of l h)) (sym s.unacked) was.state));
  timer = λ going. subst (λ r. TimerStandsFor r (timer_after l.isn start (tcp_calls h))) (sym s.retry) (was.timer (ap has_finished (sym s.state) ∙ going));
}

module _ (l : Link) (start : ℕ) (old new : Conn) (h : List ConnEntry) (acts : Acts) where
  pub time_stands : (now : ℕ) → now < 2 ^ 64 → acts ≡ ticked_acts old now → new ≡ ticked_conn old now → ConnStands l start old h → has_ended_after h ≡ false → ConnStands l start new (h ++ conn_entry (calls_in (time_came now)) acts ∷ [])
  time_stands now fits acts_are new_is was alive = goes_on l start old new h (time_came now) acts was alive (tick_goes_on l start old new h now acts was (was.over ∙ alive) fits acts_are new_is)

  pub time_ignored : (now : ℕ) → acts ≡ ticked_acts old now → new ≡ ticked_conn old now → ConnStands l start old h → has_ended_after h ≡ true → ConnStands l start new h × (acts ≡ only_ready (is_waiting_after h))
  time_ignored now acts_are new_is was over =
      let finished : has_finished old.state ≡ true = was.over ∙ over in
      (subst (λ c. ConnStands l start c h) (sym (new_is ∙ rw finished refl)) was, acts_are ∙ rw finished (ap only_ready was.waits))

  pub close_ignored : acts ≡ closed_acts old → new ≡ closed_conn old → ConnStands l start old h → has_ended_after h ≡ true → ConnStands l start new h × (acts ≡ only_ready (is_waiting_after h))
  close_ignored acts_are new_is was over = by_state old.state refl
    where
      by_state : (st : ConnState) → old.state ≡ st → ConnStands l start new h × (acts ≡ only_ready (is_waiting_after h))
      by_state SynSent e = absurd (false≢true (ap has_finished (sym e) ∙ was.over ∙ over))
      by_state (Established v) e = absurd (false≢true (ap has_finished (sym e) ∙ was.over ∙ over))
      by_state (Ended b) e = (
        subst (λ c. ConnStands l start c h) (sym (new_is ∙ ap (λ st. record old { state = Ended (has_come_all st) }) e ∙ ap (λ st. record old { state = st }) (sym e))) was,
        acts_are ∙ ap (λ st. all_sending old.link (closing_sends old.link st) (only_ready (waits_in old.held))) e ∙ ap only_ready was.waits,
      )

  pub shut_stands : acts ≡ closed_acts old → new ≡ closed_conn old → ConnStands l start old h → has_ended_after h ≡ false → ConnStands l start new (h ++ conn_entry closes_from_above acts ∷ [])
  shut_stands acts_are new_is was alive = close_stands l start old new h acts was (was.over ∙ alive) acts_are new_is

  pub text_stands : (bytes : List ℕ) (now : ℕ) → FollowsGiven (has_finished old.state) old bytes now new acts → ConnStands l start old h → has_ended_after h ≡ false → ConnStands l start new (h ++ conn_entry (calls_in (text_came bytes now)) acts ∷ [])
  text_stands bytes now follows was alive =
      let running : has_finished old.state ≡ false = was.over ∙ alive in
      goes_on l start old new h (text_came bytes now) acts was alive (text_goes_on l start old new h bytes now acts was running (subst (λ b. FollowsGiven b old bytes now new acts) running follows))

  pub text_refused : SameConn old new × (acts ≡ only_ready (waits_in old.held)) → ConnStands l start old h → ConnStands l start new h × (acts ≡ only_ready (is_waiting_after h))
  text_refused same was = (same_stands l start old new h was same.0, same.1 ∙ ap only_ready was.waits)

  pub text_ignored : {A E : Type 0} (r : Result A E) (bytes : List ℕ) (now : ℕ) → (has_finished old.state ≡ true → IsOk r) → OnOk r (FollowsGiven (has_finished old.state) old bytes now new acts) → ConnStands l start old h → has_ended_after h ≡ true
      → IsOk r × ConnStands l start new h × (acts ≡ only_ready (is_waiting_after h))
  text_ignored r bytes now ok follows was over =
      let finished : has_finished old.state ≡ true = was.over ∙ over in
      let same : SameConn old new × (acts ≡ only_ready (waits_in old.held)) = subst (λ b. FollowsGiven b old bytes now new acts) finished (of_ok r (ok finished) follows) in
      (ok finished, same_stands l start old new h was same.0, same.1 ∙ ap only_ready was.waits)

-- how much text was given
pub given_is : (l : Link) (start : ℕ) (c : Conn) (h : List ConnEntry) → ConnStands l start c h → has_finished c.state ≡ false → c.given ≡ length (text_in (phase_of l h))
given_is l start c h was running = by_state c.state running was.state
  where
    by_state : (st : ConnState) → has_finished st ≡ false → StateStands st c.given c.unacked.items (phase_of l h) → c.given ≡ length (text_in (phase_of l h))
    by_state SynSent e k = k.in_all ∙ ap (λ p. length (text_in p)) (sym k.phase)
    by_state (Established v) e k = k.stands.in_all ∙ ap (λ p. length (text_in p)) (sym k.phase)
    by_state (Ended b) e k = absurd (false≢true (sym e))

pub too_long_is : (l : Link) (start : ℕ) (c : Conn) (h : List ConnEntry) (n : ℕ) → ConnStands l start c h → has_ended_after h ≡ false → 2 ^ 31 ≤ length (text_in (phase_of l h)) + n → 2 ^ 31 ≤ c.given + n
too_long_is l start c h n was alive long = omega (arith, long, given_is l start c h was (was.over ∙ alive))

refused_so : {A : Type 0} (r : Result A SendError) (P : Type 0) → IfErr r (λ e. e ≡ send_error.TooLong → P) → r ≡ Err send_error.TooLong → P
refused_so r P long is = (subst (λ x. IfErr x (λ e. e ≡ send_error.TooLong → P)) is long) refl

not_ok : {A : Type 0} (r : Result A SendError) → IsOk r → r ≡ Err send_error.TooLong → ⊥
not_ok r ok is = false≢true (subst (λ x. IsOk x) is ok)

pub long_is : {A : Type 0} (l : Link) (start : ℕ) (c : Conn) (h : List ConnEntry) (n : ℕ) (r : Result A SendError) → IfErr r (λ e. e ≡ send_error.TooLong → 2 ^ 31 ≤ c.given + n) → (has_finished c.state ≡ true → IsOk r) → r ≡ Err send_error.TooLong → ConnStands l start c h
    → 2 ^ 31 ≤ length (text_in (phase_of l h)) + n
long_is l start c h n r long ok is was = either (has_finished c.state)
    (λ t. absurd (not_ok r (ok t) is))
    (λ f. let sum : 2 ^ 31 ≤ c.given + n = refused_so r (2 ^ 31 ≤ c.given + n) long is in omega (arith, sum, given_is l start c h was f))

-- what was lent
pub lends_it : (l : Link) (start : ℕ) (old new : Conn) (w : Held) (h : List ConnEntry) → ConnStands l start old h → old.held ≡ Some w → new ≡ record old { held = None } → IsLent l start h (window w) new
lends_it l start old new w h was here new_is = record { bytes = drop (window w).base (front (held_after l.isn (tcp_calls h))); up = lent_up l start old w h was here; window_is = lent_window l start old w h was here; stands = lend_stands l start old new w h was here new_is }

is_lent_so : (o : Option Held) (hb : HeldBytes) (bytes : List ℕ) (lent : Bool) → HoldsRest o hb bytes lent → lent ≡ true → o ≡ None
is_lent_so None hb bytes lent k e = refl
is_lent_so (Some w) hb bytes lent k e = absurd (false≢true (sym k.0 ∙ e))

so_is_lent : (o : Option Held) (hb : HeldBytes) (bytes : List ℕ) (lent : Bool) → HoldsRest o hb bytes lent → o ≡ None → lent ≡ true
so_is_lent None hb bytes lent k e = k.0
so_is_lent (Some w) hb bytes lent k e = absurd (none-some w (sym e))

pub none_held : (l : Link) (start : ℕ) (c : Conn) (h : List ConnEntry) → ConnStands l start c h → is_lent_after h ≡ true → c.held ≡ None
none_held l start c h was lent = is_lent_so c.held (held_after l.isn (tcp_calls h)) (delivered h) (is_lent_after h) was.held lent

pub held_none : (l : Link) (start : ℕ) (c : Conn) (h : List ConnEntry) → ConnStands l start c h → c.held ≡ None → is_lent_after h ≡ true
held_none l start c h was none = so_is_lent c.held (held_after l.isn (tcp_calls h)) (delivered h) (is_lent_after h) was.held none

-- a connection that was begun just now
fresh_window : (w : HeldWindow) → w.base ≡ 0 → w.next ≡ 0 → w.size ≡ 65535 → ((p : ℕ) → w.at p ≡ None) → WindowStands w nothing_held
fresh_window w base next size none = record {
  size = size;
  least = (omega (arith, base, next), omega (arith, next), none w.next, λ p l m. absurd (never p (omega (arith, m, next))));
  most = omega (arith, next);
  next = sym next;
  at = λ p l low before. none p;
  above = λ p high. none p;
}
  where
    never : (p : ℕ) → p < 0 → ⊥
    never p l = omega (arith, l)

pub start_stands : (l : Link) (w : Held) (now : ℕ) (c : Conn) → IsConnAsking l w now c → (window w).base ≡ 0 → (window w).next ≡ 0 → (window w).size ≡ 65535 → ((p : ℕ) → (window w).at p ≡ None) → ConnStands l now c []
unfolding conn_phase timer_after
start_stands l w now c k base next size none = record {
  keeps = record { advance = refl; each = tt };
  link = k.link;
  over = ap has_finished k.state;
  at_end = ap has_come_all k.state;
  held = subst (λ o. HoldsRest o nothing_held [] false) (sym k.held) (refl, fresh_window (window w) base next size none, nothing_taken (window w).base base);
  waits = ap waits_in k.held ∙ none_waiting (window w).base (window w).next base next;
  state = subst (λ st. StateStands st c.given c.unacked.items (asking [])) (sym k.state) (record { phase = ap asking (sym k.unacked); in_all = k.given ∙ ap length (sym k.unacked); small = omega (arith, k.given) });
  timer = λ going. subst (λ r. TimerStandsFor r (timer_since Common now)) (sym k.retry) (fresh_timer Common now);
}
  where
    nothing_taken : (n : ℕ) → n ≡ 0 → [] ≡ take n (front nothing_held)
    nothing_taken n e = ap (λ k. take k (front nothing_held)) (sym e)

    none_waiting : (a b : ℕ) → a ≡ 0 → b ≡ 0 → ltb a b ≡ false
    none_waiting a b e f = le-ltb a b (omega (arith, e, f))

pub lends_so : (l : Link) (start : ℕ) (old new : Conn) (r : Option Held) (h : List ConnEntry) → ConnStands l start old h → r ≡ old.held → new ≡ record old { held = None } → IfSome r (λ w. IsLent l start h (window w) new)
lends_so l start old new None h was e new_is = tt
lends_so l start old new (Some w) h was e new_is = lends_it l start old new w h was (sym e) new_is

pub lends_none : (l : Link) (start : ℕ) (old new : Conn) (r : Option Held) (h : List ConnEntry) → ConnStands l start old h → r ≡ old.held → new ≡ record old { held = None } → is_lent_after h ≡ true → IsNone r × ConnStands l start new h
lends_none l start old new r h was e new_is lent =
    let none : old.held ≡ None = none_held l start old h was lent in
    (subst (λ x. IsNone x) (sym (e ∙ none)) refl, subst (λ c. ConnStands l start c h) (sym (new_is ∙ ap (λ x. record old { held = x }) (sym none))) was)

pub none_lent : (l : Link) (start : ℕ) (old : Conn) (r : Option Held) (h : List ConnEntry) → ConnStands l start old h → r ≡ old.held → IsNone r → is_lent_after h ≡ true
none_lent l start old None h was e none = held_none l start old h was (sym e)
none_lent l start old (Some w) h was e none = absurd (false≢true (sym none))
