-- A connection goes on to stand for its calls when an established connection doesn't take the segment.
use Rattle.std.proofs.Common.{◌≡◌, ℕ, ◌==◌, not, List, Some, None, Bool, true, false, cond, refl, ap, ◌∙◌, sym, subst}
use Rattle.std.specs.Prelude.{unwrap_or}
use Rattle.std.specs.Option.{is_some}
use Rattle.std.proofs.lemmas.Bool.{eq-eqb}
use Rattle.nb_terms.specs.declared.acts.Acts.{Acts}
use Rattle.nb_streams.specs.Segments.{Arrival}
use Rattle.nb_streams.specs.Streams.{next, has_ended, is_stop, grown}
use Rattle.nb_streams.specs.Flows.{ConnPhase, flowing, segment_came, after_tcp_call, after_segment, held_in, is_taken}
use Rattle.nb_streams.specs.Sending.{calls_for, is_reset, is_answered_by_ack, only_if, without_try, pure_ack}
use Rattle.nb_streams.specs.Trying.{timer_by, timer_after}
use Rattle.nb_tcp.specs.declared.link.Link.{Link}
use Rattle.nb_tcp.specs.declared.conn.Conn.{Conn}
use Rattle.nb_tcp.specs.declared.conn.ConnState.TheVariants.{Established}
use Rattle.nb_tcp.specs.declared.variables.Variables.{Variables}
use Rattle.nb_tcp.specs.Numbers.{flow_of}
use Rattle.nb_tcp.specs.Replies.{refused_in, ack_of_variables, ended_at, has_finished, has_come_all}
use Rattle.nb_tcp.specs.ConnHistory.{ConnEntry, tcp_calls, delivered, is_lent_after}
use Rattle.nb_streams.specs.Endings.{taken_end, segment_end}
use Rattle.nb_tcp.specs.ConnPromises.{segment_asks}
use Rattle.nb_tcp.specs.ConnStanding.{waits_in, IsDelivered, HoldsRest, FlowStands, FlowsSo, StateStands, TimerStandsFor, ConnStands}
use Rattle.nb_tcp.proofs.FlowStandsLemmas.{ack_out}
use Rattle.nb_tcp.proofs.AnswerLemmas.{acts_by}
use Rattle.nb_tcp.proofs.ReceivedLemmas.{none_waits}
use Rattle.nb_tcp.proofs.GoesOnLemmas.{phase_of, GoesOn}

-- what is known of a connection that doesn't take a segment: it answers it or not, or it is reset
pub record UntakenFacts (l : Link) (start : ℕ) (old new : Conn) (h : List ConnEntry) (m : Arrival) (acts : Acts) (v : Variables) (answered reset : Bool) : Type 0 where
  pub was : ConnStands l start old h
  pub running : has_finished old.state ≡ false
  pub here : IsDelivered old.held
  pub state_was : old.state ≡ Established v
  pub flows : FlowsSo v old.given old.unacked.items (phase_of l h)
  pub taken : is_taken (flow_of v flows.held flows.text) m.segment ≡ false
  pub reset_is : is_reset (flow_of v flows.held flows.text) m.segment ≡ reset
  pub answered_is : is_answered_by_ack (flow_of v flows.held flows.text) m.segment ≡ answered
  pub new_is : new ≡ record old { state = cond reset (ended_at v) (Established v) }
  pub acts_are : acts ≡ acts_by l (only_if answered (without_try (ack_of_variables v))) v.next v.next (cond reset (Some (refused_in m.rec)) None)

ready_off : (n : ℕ) → not (n == n) ≡ false
ready_off n = ap not (eq-eqb n n refl)

advance_none : (n : ℕ) → unwrap_or (grown n n) n ≡ n
advance_none n = rw (eq-eqb n n refl) refl

finish_by : (v : Variables) (reset : Bool) (rec : ℕ) → has_finished (cond reset (ended_at v) (Established v)) ≡ is_some (cond reset (Some (refused_in rec)) None)
finish_by v true rec = refl
finish_by v false rec = refl

all_by : (v : Variables) (reset : Bool) → has_come_all (cond reset (ended_at v) (Established v)) ≡ is_stop v.stop v.next
all_by v true = refl
all_by v false = refl

state_by : (v : Variables) (reset : Bool) (given : ℕ) (unacked : List ℕ) (p : ConnPhase) → FlowsSo v given unacked p → StateStands (cond reset (ended_at v) (Established v)) given unacked p
state_by v true given unacked p flows = tt
state_by v false given unacked p flows = flows

pub untaken_goes_on : (l : Link) (start : ℕ) (old new : Conn) (h : List ConnEntry) (m : Arrival) (now : ℕ) (acts : Acts) (v : Variables) (answered reset : Bool) → UntakenFacts l start old new h m acts v answered reset → GoesOn l start h (segment_came m now) acts new
untaken_goes_on l start old new h m now acts v answered reset k =
    let fs : FlowStands v k.flows.held k.flows.text old.given old.unacked.items = k.flows.stands in
    let phase : phase_of l h ≡ flowing (flow_of v k.flows.held k.flows.text) = k.flows.phase in
    let after : after_segment (flow_of v k.flows.held k.flows.text) m.segment ≡ flow_of v k.flows.held k.flows.text = rw k.taken refl in
    let then_phase : after_tcp_call l.isn (phase_of l h) (segment_came m now) ≡ phase_of l h = ap (λ p. after_tcp_call l.isn p (segment_came m now)) phase ∙ ap flowing after ∙ sym phase in
    let held_p : held_in (phase_of l h) ≡ k.flows.held = ap held_in phase in
    let sends : calls_for l.isn (flowing (flow_of v k.flows.held k.flows.text)) m.segment ≡ only_if answered (without_try (ack_of_variables v)) =
    rw k.taken (ap (λ b. only_if b (without_try (pure_ack (flow_of v k.flows.held k.flows.text)))) k.answered_is ∙ ap (λ o. only_if answered (without_try o)) (ack_out v k.flows.held k.flows.text fs.next fs.stop)) in
    let over : segment_end l.isn (flowing (flow_of v k.flows.held k.flows.text)) m ≡ cond reset (Some (refused_in m.rec)) None =
    ap (λ b. cond b (Some (refused_in m.rec)) (cond (is_taken (flow_of v k.flows.held k.flows.text) m.segment) (taken_end (flow_of v k.flows.held k.flows.text) m) None)) k.reset_is
    ∙ ap (λ b. cond reset (Some (refused_in m.rec)) (cond b (taken_end (flow_of v k.flows.held k.flows.text) m) None)) k.taken in
    record {
      asks = k.acts_are
          ∙ ap (λ xs. acts_by l xs v.next v.next (cond reset (Some (refused_in m.rec)) None)) (sym sends)
          ∙ ap (λ o. acts_by l (calls_for l.isn (flowing (flow_of v k.flows.held k.flows.text)) m.segment) v.next v.next o) (sym over)
          ∙ ap (λ n. acts_by l (calls_for l.isn (flowing (flow_of v k.flows.held k.flows.text)) m.segment) n n (segment_end l.isn (flowing (flow_of v k.flows.held k.flows.text)) m)) fs.next
          ∙ ap (λ f. acts_by l (calls_for l.isn (flowing (flow_of v k.flows.held k.flows.text)) m.segment) (next k.flows.held) (next f.held) (segment_end l.isn (flowing (flow_of v k.flows.held k.flows.text)) m)) (sym after)
          ∙ ap (λ p. segment_asks l p m now) (sym phase);
      fires = tt;
      advance = ap (λ (x : Acts). unwrap_or x.advance (next (held_in (phase_of l h)))) k.acts_are
          ∙ ap (λ n. unwrap_or (grown v.next v.next) n) (ap next held_p ∙ sym fs.next)
          ∙ advance_none v.next ∙ fs.next ∙ ap next (sym held_p) ∙ ap (λ p. next (held_in p)) (sym then_phase);
      link = ap (λ (c : Conn). c.link) k.new_is ∙ k.was.link;
      over = ap (λ (c : Conn). has_finished c.state) k.new_is ∙ finish_by v reset m.rec ∙ ap (λ (x : Acts). is_some x.over) (sym k.acts_are);
      at_end = ap (λ (c : Conn). has_come_all c.state) k.new_is ∙ all_by v reset ∙ ap (λ o. is_stop o v.next) fs.stop ∙ ap (λ n. is_stop k.flows.held.stop n) fs.next ∙ ap has_ended (sym held_p) ∙ ap (λ p. has_ended (held_in p)) (sym then_phase);
      held = subst (λ x. HoldsRest x (held_in (after_tcp_call l.isn (phase_of l h) (segment_came m now))) (delivered h) (is_lent_after h)) (sym (ap (λ (c : Conn). c.held) k.new_is))
          (subst (λ p. HoldsRest old.held (held_in p) (delivered h) (is_lent_after h)) (sym then_phase) k.was.held);
      waits = ap (λ (c : Conn). waits_in c.held) k.new_is ∙ none_waits old.held k.here ∙ sym (ready_off v.next) ∙ ap (λ (x : Acts). x.ready) (sym k.acts_are);
      state = subst (λ (c : Conn). StateStands c.state c.given c.unacked.items (after_tcp_call l.isn (phase_of l h) (segment_came m now))) (sym k.new_is)
          (subst (λ p. StateStands (cond reset (ended_at v) (Established v)) old.given old.unacked.items p) (sym then_phase) (state_by v reset old.given old.unacked.items (phase_of l h) k.flows));
      timer = λ going. subst (λ (c : Conn). TimerStandsFor c.retry (timer_by l.isn (phase_of l h) (segment_came m now) (timer_after l.isn start (tcp_calls h)))) (sym k.new_is)
          (subst (λ p. TimerStandsFor old.retry (timer_by l.isn p (segment_came m now) (timer_after l.isn start (tcp_calls h)))) (sym phase) (rw k.taken (k.was.timer k.running)));
    }
