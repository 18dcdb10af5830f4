-- A connection goes on to stand for its calls when a segment is taken.
use Rattle.std.proofs.Common.{◌≡◌, ◌<◌, ℕ, ◌^◌, ◌==◌, not, List, [], length, drop, Bool, true, false, cond, refl, ap, ◌∙◌, sym, subst, arith}
use Rattle.std.specs.Prelude.{unwrap_or}
use Rattle.std.specs.Option.{is_some}
use Rattle.std.proofs.lemmas.Bool.{eqb-true, false≢true}
use Rattle.nb_retry.specs.declared.plan.Plan.{Plan}
use Rattle.nb_retry.specs.declared.plan.Plan.TheVariants.{Common, Probe}
use Rattle.nb_retry.specs.declared.retry.Retry.{Retry}
use Rattle.nb_retry.specs.Timer.{started}
use Rattle.nb_terms.specs.declared.acts.Acts.{Acts}
use Rattle.nb_streams.specs.Segments.{Incoming, Arrival, ahead}
use Rattle.nb_streams.specs.Streams.{HeldBytes, next, has_ended, is_stop, grown}
use Rattle.nb_streams.specs.Flows.{Flow, ConnPhase, flowing, segment_came, after_tcp_call, after_segment, held_in, is_taken, is_sending, advances, with_segment, is_other}
use Rattle.nb_streams.specs.Sending.{calls_for, is_reset, brings_more}
use Rattle.nb_streams.specs.Trying.{TryTimer, timer_since, timer_of, timer_by, timer_after}
use Rattle.nb_streams.proofs.StreamLaws.{either}
use Rattle.nb_streams.proofs.SendLaws.{IsFlow, IsPhase, all_in_order}
use Rattle.nb_tcp.specs.declared.link.Link.{Link}
use Rattle.nb_tcp.specs.declared.conn.Conn.{Conn}
use Rattle.nb_tcp.specs.declared.variables.Variables.{Variables}
use Rattle.nb_tcp.specs.declared.variables.Breach.{Breach}
use Rattle.nb_tcp.specs.declared.variables.Breach.TheVariants as breach
use Rattle.nb_tcp.specs.Numbers.{flow_of, bare_flow, found_stop, with_stop, with_next, with_ack, passes_limit, breached, sends_more, next_sending}
use Rattle.nb_tcp.specs.Replies.{unacked_text, ack_of_variables, conn_reset, went_on, ongoing_retry, taken_acts, breach_state, breach_retry, has_finished, has_come_all}
use Rattle.nb_tcp.specs.SegmentSteps.{TakesSegment}
use Rattle.nb_tcp.specs.ConnHistory.{ConnEntry, tcp_calls, delivered, is_lent_after, has_ended_after}
use Rattle.nb_streams.specs.Endings.{segment_end}
use Rattle.nb_tcp.specs.ConnPromises.{segment_asks}
use Rattle.nb_tcp.specs.ConnStanding.{IsDelivered, HoldsRest, FlowStands, FlowsSo, StateStands, TimerStandsFor, ConnStands}
use Rattle.nb_tcp.proofs.WindowStandsLemmas.{held_then}
use Rattle.nb_tcp.proofs.FlowStandsLemmas.{sending_same, went_stands}
use Rattle.nb_tcp.proofs.TakenLemmas.{then_variables, flow_then, stands_then, past_same, other_same}
use Rattle.nb_tcp.proofs.AnswerLemmas.{sends_by, over_by, acts_by, taken_acts_are, sends_are, over_is, after_is}
use Rattle.nb_tcp.proofs.ReceivedLemmas.{LeavesHeld, leaves_held, next_low}
use Rattle.nb_tcp.proofs.InOrderLemmas.{TakesBut}
use Rattle.nb_tcp.proofs.GoesOnLemmas.{phase_of, GoesOnBut, GoesOn}

-- a timer that was started now
pub fresh_timer : (plan : Plan) (now : ℕ) → TimerStandsFor (started now plan) (timer_since plan now)
fresh_timer plan now = record { calls = []; stands = refl; times = refl; since = refl; plan = refl }

-- the timer after a segment
timer_goes : (sending still : Bool) (now : ℕ) (r : Retry) (w : TryTimer) → TimerStandsFor r w
    → TimerStandsFor (cond sending (started now Common) (cond still (started now Probe) r)) (cond sending (timer_since Common now) (cond still (timer_since Probe now) w))
timer_goes true still now r w was = fresh_timer Common now
timer_goes false true now r w was = fresh_timer Probe now
timer_goes false false now r w was = was

pub ongoing_timer : (advanced : Bool) (a : Variables) (h : HeldBytes) (text : List ℕ) (given now : ℕ) (r : Retry) (w : TryTimer) → given ≡ length text → TimerStandsFor r w
    → TimerStandsFor (ongoing_retry advanced given a now r) (timer_of (is_sending advanced (flow_of a h text)) (flow_of a h text) now w)
ongoing_timer advanced a h text given now r w e was =
    subst (λ b. TimerStandsFor (ongoing_retry advanced given a now r) (cond b (timer_since Common now) (cond (a.acked == a.sent) (timer_since Probe now) w))) (sym (sending_same advanced a h text given e))
    (timer_goes (sends_more advanced given a) (a.acked == a.sent) now r w was)

pub unwrap_grown : (before after : ℕ) → unwrap_or (grown before after) before ≡ after
unwrap_grown before after = either (before == after)
    (λ t. rw t (eqb-true before after t))
    (λ f. rw f refl)

pub went_end : (advanced : Bool) (given : ℕ) (a : Variables) → is_stop (went_on advanced given a).stop (went_on advanced given a).next ≡ is_stop a.stop a.next
went_end advanced given a = either (sends_more advanced given a) (λ t. rw t refl) (λ f. rw f refl)

-- how it goes on by the rule that is broken
abbrev breach_by : Bool → Bool → Breach
breach_by past other = cond past breach.TooLong (cond other breach.OtherStop breach.None)

finishes : (v a : Variables) (given : ℕ) (s : Incoming) (rec : ℕ) (past other : Bool) → has_finished (breach_state v a given s (breach_by past other)) ≡ is_some (over_by past other rec)
finishes v a given s rec true other = refl
finishes v a given s rec false true = refl
finishes v a given s rec false false = refl

comes_all : (v a : Variables) (given : ℕ) (s : Incoming) (past other : Bool) → has_come_all (breach_state v a given s (breach_by past other)) ≡ is_stop a.stop a.next
comes_all v a given s true other = refl
comes_all v a given s false true = refl
comes_all v a given s false false = went_end _ given a

state_stands : (v a : Variables) (h : HeldBytes) (text : List ℕ) (given : ℕ) (rest : List ℕ) (s : Incoming) (p : ConnPhase) (past other : Bool) → FlowStands a h text given rest → p ≡ flowing (flow_of (went_on (advances (bare_flow v) s) given a) h text)
    → StateStands (breach_state v a given s (breach_by past other)) given rest p
state_stands v a h text given rest s p true other c e = tt
state_stands v a h text given rest s p false true c e = tt
state_stands v a h text given rest s p false false c e = record { held = h; text = text; phase = e; stands = went_stands (advances (bare_flow v) s) a h text given rest c }

timer_stands : (v a : Variables) (given : ℕ) (s : Incoming) (now : ℕ) (r : Retry) (w : TryTimer) (past other : Bool) → has_finished (breach_state v a given s (breach_by past other)) ≡ false
    → TimerStandsFor (ongoing_retry (advances (bare_flow v) s) given a now r) w → TimerStandsFor (breach_retry v a given s now (breach_by past other) r) w
timer_stands v a given s now r w true other running c = absurd (false≢true (sym running))
timer_stands v a given s now r w false true running c = absurd (false≢true (sym running))
timer_stands v a given s now r w false false running c = c

-- what is known of a connection that takes a segment
pub record TakenFacts (l : Link) (start : ℕ) (old new : Conn) (h : List ConnEntry) (m : Arrival) (now : ℕ) (acts : Acts) (v : Variables) : Type 0 where
  pub was : ConnStands l start old h
  pub alive : has_ended_after h ≡ false
  pub running : has_finished old.state ≡ false
  pub here : IsDelivered old.held
  pub short : length m.segment.body < 2 ^ 16
  pub takes : TakesSegment old v m.rec m.segment now new acts
  pub flows : FlowsSo v old.given old.unacked.items (phase_of l h)
  pub taken : is_taken (flow_of v flows.held flows.text) m.segment ≡ true
  pub reset : is_reset (flow_of v flows.held flows.text) m.segment ≡ false

-- the same without what is held, which goes on up to a place
pub record TakenBut (l : Link) (start : ℕ) (old new : Conn) (h : List ConnEntry) (m : Arrival) (now : ℕ) (acts : Acts) (v : Variables) (received : Variables) : Type 0 where
  pub was : ConnStands l start old h
  pub running : has_finished old.state ≡ false
  pub short : length m.segment.body < 2 ^ 16
  pub takes : TakesBut old v m.rec m.segment now new acts received
  pub flows : FlowsSo v old.given old.unacked.items (phase_of l h)
  pub taken : is_taken (flow_of v flows.held flows.text) m.segment ≡ true
  pub reset : is_reset (flow_of v flows.held flows.text) m.segment ≡ false
  pub small : v.next < 2 ^ 31
  pub upto : ℕ
  pub received_is : received ≡ with_next (with_stop v m.segment) upto
  pub next_is : (with_next (with_stop v m.segment) upto).next ≡ next (held_then v flows.held m.segment)

-- what it leaves
pub record LeavesBut (l : Link) (start : ℕ) (new : Conn) (h : List ConnEntry) (m : Arrival) (now : ℕ) (acts : Acts) (v : Variables) (held : HeldBytes) (upto : ℕ) : Type 0 where
  pub goes : GoesOnBut l start h (segment_came m now) acts new
  pub then_held : held_in (after_tcp_call l.isn (phase_of l h) (segment_came m now)) ≡ held_then v held m.segment
  pub ready : acts.ready ≡ not (v.next == (with_next (with_stop v m.segment) upto).next)

pub taken_but : (l : Link) (start : ℕ) (old new : Conn) (h : List ConnEntry) (m : Arrival) (now : ℕ) (acts : Acts) (v received : Variables) (k : TakenBut l start old new h m now acts v received) → LeavesBut l start new h m now acts v k.flows.held k.upto
taken_but l start old new h m now acts v received k =
    let s : Incoming = m.segment in
    let hb : HeldBytes = k.flows.held in
    let text : List ℕ = k.flows.text in
    let f : Flow = flow_of v k.flows.held k.flows.text in
    let fs : FlowStands v k.flows.held k.flows.text old.given old.unacked.items = k.flows.stands in
    let phase : phase_of l h ≡ flowing (flow_of v k.flows.held k.flows.text) = k.flows.phase in
    let order : IsFlow (flow_of v k.flows.held k.flows.text) = subst IsPhase phase (all_in_order l.isn (tcp_calls h)) in
    let a : Variables = then_variables v m.segment k.upto in
    let a_is : with_ack received m.segment ≡ then_variables v m.segment k.upto = ap (λ x. with_ack x m.segment) k.received_is in
    let h2 : HeldBytes = held_then v k.flows.held m.segment in
    let rest : new.unacked.items ≡ drop (ahead v.acked (then_variables v m.segment k.upto).acked) old.unacked.items = k.takes.unacked ∙ ap (λ x. drop (ahead v.acked x.acked) old.unacked.items) a_is in
    let stands2 : FlowStands (then_variables v m.segment k.upto) (held_then v k.flows.held m.segment) k.flows.text old.given new.unacked.items = stands_then v k.flows.held k.flows.text m.segment k.upto old.given old.unacked.items new.unacked.items fs order k.taken k.next_is rest in
    let flow2 : with_segment m.segment (flow_of v k.flows.held k.flows.text) ≡ flow_of (then_variables v m.segment k.upto) (held_then v k.flows.held m.segment) k.flows.text = flow_then v k.flows.held k.flows.text m.segment k.upto old.given old.unacked.items fs order k.taken k.small in
    let past = past_same v k.flows.held k.flows.text m.segment fs.next k.short k.small in
    let other = other_same v k.flows.held k.flows.text m.segment fs.next fs.stop k.small k.taken in
    let after : after_segment (flow_of v k.flows.held k.flows.text) m.segment ≡ flow_of (went_on (advances (bare_flow v) m.segment) old.given (then_variables v m.segment k.upto)) (held_then v k.flows.held m.segment) k.flows.text = after_is v k.flows.held k.flows.text m.segment (then_variables v m.segment k.upto) (held_then v k.flows.held m.segment) old.given new.unacked.items k.taken flow2 stands2 in
    let then_phase : after_tcp_call l.isn (phase_of l h) (segment_came m now) ≡ flowing (flow_of (went_on (advances (bare_flow v) m.segment) old.given (then_variables v m.segment k.upto)) (held_then v k.flows.held m.segment) k.flows.text) = ap (λ p. after_tcp_call l.isn p (segment_came m now)) phase ∙ ap flowing after in
    let then_held : held_in (after_tcp_call l.isn (phase_of l h) (segment_came m now)) ≡ held_then v k.flows.held m.segment = ap held_in then_phase in
    let acts_are : acts ≡ acts_by l (sends_by (passes_limit v m.segment) (brings_more m.segment) (sends_more (advances (bare_flow v) m.segment) old.given (then_variables v m.segment k.upto)) (ack_of_variables (then_variables v m.segment k.upto)) (conn_reset (then_variables v m.segment k.upto)) (unacked_text (next_sending old.given (then_variables v m.segment k.upto)) new.unacked.items)) v.next (then_variables v m.segment k.upto).next (over_by (passes_limit v m.segment) (is_other v.stop (found_stop v m.segment)) m.rec) =
    k.takes.acts_are
    ∙ ap (λ x. taken_acts old.link v x old.given new.unacked.items m.rec m.segment) a_is
    ∙ ap (λ x. taken_acts x v (then_variables v m.segment k.upto) old.given new.unacked.items m.rec m.segment) k.was.link
    ∙ taken_acts_are l v (then_variables v m.segment k.upto) old.given new.unacked.items m.rec m.segment in
    let state_is : new.state ≡ breach_state v (then_variables v m.segment k.upto) old.given m.segment (breached v m.segment) = k.takes.state ∙ ap (λ x. breach_state v x old.given m.segment (breached v m.segment)) a_is in
    let retry_is : new.retry ≡ breach_retry v (then_variables v m.segment k.upto) old.given m.segment now (breached v m.segment) old.retry = k.takes.retry ∙ ap (λ x. breach_retry v x old.given m.segment now (breached v m.segment) old.retry) a_is in
    record {
      goes = record {
        asks = acts_are
            ∙ ap (λ xs. acts_by l xs v.next (then_variables v m.segment k.upto).next (over_by (passes_limit v m.segment) (is_other v.stop (found_stop v m.segment)) m.rec))
            (sym (sends_are l.isn v k.flows.held k.flows.text m.segment (then_variables v m.segment k.upto) (held_then v k.flows.held m.segment) old.given new.unacked.items k.taken past flow2 stands2))
            ∙ ap (λ o. acts_by l (calls_for l.isn (flowing (flow_of v k.flows.held k.flows.text)) m.segment) v.next (then_variables v m.segment k.upto).next o) (sym (over_is l.isn v k.flows.held k.flows.text m k.taken k.reset past other))
            ∙ ap (λ n. acts_by l (calls_for l.isn (flowing (flow_of v k.flows.held k.flows.text)) m.segment) n (then_variables v m.segment k.upto).next (segment_end l.isn (flowing (flow_of v k.flows.held k.flows.text)) m)) fs.next
            ∙ ap (λ n. acts_by l (calls_for l.isn (flowing (flow_of v k.flows.held k.flows.text)) m.segment) (next k.flows.held) n (segment_end l.isn (flowing (flow_of v k.flows.held k.flows.text)) m)) (k.next_is ∙ ap (λ x. next (held_in (flowing x))) (sym after))
            ∙ ap (λ p. segment_asks l p m now) (sym phase);
        fires = tt;
        advance = ap (λ (x : Acts). unwrap_or x.advance (next (held_in (phase_of l h)))) acts_are
            ∙ ap (λ p. unwrap_or (grown v.next (then_variables v m.segment k.upto).next) (next (held_in p))) phase
            ∙ ap (λ n. unwrap_or (grown v.next (then_variables v m.segment k.upto).next) n) (sym fs.next)
            ∙ unwrap_grown v.next (then_variables v m.segment k.upto).next
            ∙ k.next_is ∙ ap next (sym then_held);
        link = k.takes.link ∙ k.was.link;
        over = ap has_finished state_is ∙ finishes v (then_variables v m.segment k.upto) old.given m.segment m.rec (passes_limit v m.segment) (is_other v.stop (found_stop v m.segment)) ∙ ap (λ (x : Acts). is_some x.over) (sym acts_are);
        at_end = ap has_come_all state_is ∙ comes_all v (then_variables v m.segment k.upto) old.given m.segment (passes_limit v m.segment) (is_other v.stop (found_stop v m.segment))
            ∙ ap (λ o. is_stop o (then_variables v m.segment k.upto).next) stands2.stop ∙ ap (λ n. is_stop (held_then v k.flows.held m.segment).stop n) stands2.next ∙ ap has_ended (sym then_held);
        state = subst (λ g. StateStands new.state g new.unacked.items (after_tcp_call l.isn (phase_of l h) (segment_came m now))) (sym k.takes.given)
            (subst (λ x. StateStands x old.given new.unacked.items (after_tcp_call l.isn (phase_of l h) (segment_came m now))) (sym state_is)
            (state_stands v (then_variables v m.segment k.upto) (held_then v k.flows.held m.segment) k.flows.text old.given new.unacked.items m.segment (after_tcp_call l.isn (phase_of l h) (segment_came m now)) (passes_limit v m.segment) (is_other v.stop (found_stop v m.segment)) stands2 then_phase));
        timer = λ going.
            subst (λ r. TimerStandsFor r (timer_by l.isn (phase_of l h) (segment_came m now) (timer_after l.isn start (tcp_calls h)))) (sym retry_is)
            (timer_stands v (then_variables v m.segment k.upto) old.given m.segment now old.retry (timer_by l.isn (phase_of l h) (segment_came m now) (timer_after l.isn start (tcp_calls h))) (passes_limit v m.segment) (is_other v.stop (found_stop v m.segment)) (ap has_finished (sym state_is) ∙ going)
            (subst (λ p. TimerStandsFor (ongoing_retry (advances (bare_flow v) m.segment) old.given (then_variables v m.segment k.upto) now old.retry) (timer_by l.isn p (segment_came m now) (timer_after l.isn start (tcp_calls h)))) (sym phase)
            (rw k.taken (subst (λ x. TimerStandsFor (ongoing_retry (advances (bare_flow v) m.segment) old.given (then_variables v m.segment k.upto) now old.retry) (timer_of (is_sending (advances (bare_flow v) m.segment) x) x now (timer_after l.isn start (tcp_calls h)))) (sym flow2)
            (ongoing_timer (advances (bare_flow v) m.segment) (then_variables v m.segment k.upto) (held_then v k.flows.held m.segment) k.flows.text old.given now old.retry (timer_after l.isn start (tcp_calls h)) stands2.in_all (k.was.timer k.running))))));
      };
      then_held = then_held;
      ready = ap (λ (x : Acts). x.ready) acts_are;
    }

pub taken_goes_on : (l : Link) (start : ℕ) (old new : Conn) (h : List ConnEntry) (m : Arrival) (now : ℕ) (acts : Acts) (v : Variables) → TakenFacts l start old new h m now acts v → GoesOn l start h (segment_came m now) acts new
taken_goes_on l start old new h m now acts v k =
    let fs : FlowStands v k.flows.held k.flows.text old.given old.unacked.items = k.flows.stands in
    let held_was : HoldsRest old.held k.flows.held (delivered h) (is_lent_after h) = subst (λ p. HoldsRest old.held (held_in p) (delivered h) (is_lent_after h)) k.flows.phase k.was.held in
    let left : LeavesHeld v k.flows.held m.segment k.takes.received new.held (delivered h) (is_lent_after h) =
    leaves_held v k.flows.held m.segment k.takes.received old.held new.held (delivered h) (is_lent_after h) k.short fs.next fs.stop held_was k.here k.takes.receives in
    let but : LeavesBut l start new h m now acts v k.flows.held left.upto = taken_but l start old new h m now acts v k.takes.received (record {
      was = k.was;
      running = k.running;
      short = k.short;
      takes = record { unacked = k.takes.unacked; acts_are = k.takes.acts_are; state = k.takes.state; retry = k.takes.retry; link = k.takes.link; given = k.takes.given };
      flows = k.flows;
      taken = k.taken;
      reset = k.reset;
      small = omega (arith, fs.next, next_low old.held k.flows.held (delivered h) (is_lent_after h) held_was k.here);
      upto = left.upto;
      received_is = left.received_is;
      next_is = left.next_is;
    }) in
    record {
      asks = but.goes.asks;
      fires = but.goes.fires;
      advance = but.goes.advance;
      link = but.goes.link;
      over = but.goes.over;
      at_end = but.goes.at_end;
      held = subst (λ x. HoldsRest new.held x (delivered h) (is_lent_after h)) (sym but.then_held) left.held;
      waits = left.waits ∙ sym but.ready;
      state = but.goes.state;
      timer = but.goes.timer;
    }
