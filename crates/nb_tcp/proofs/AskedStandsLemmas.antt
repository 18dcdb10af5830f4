-- A connection goes on to stand for its calls when a segment comes before it is established.
use Rattle.std.proofs.Common.{◌≡◌, ℕ, ◌+◌, ◌%◌, ◌^◌, ◌==◌, ◌&&◌, not, List, ◌∷◌, Some, None, Bool, true, false, cond, refl, ap, ◌∙◌, sym, subst, arith}
use Rattle.std.specs.Prelude.{unwrap_or}
use Rattle.std.specs.Option.{is_some}
use Rattle.nb_terms.specs.declared.acts.Acts.{Acts}
use Rattle.nb_streams.specs.Segments.{Incoming, Arrival}
use Rattle.nb_streams.specs.Streams.{nothing_held, next, has_ended}
use Rattle.nb_streams.specs.Flows.{asking, flowing, segment_came, after_tcp_call, held_in, answers_syn, establishes, established, is_sending, going_on}
use Rattle.nb_streams.specs.Sending.{calls_for, only_if, without_try, with_first_try, rst_for, text_segment}
use Rattle.nb_streams.specs.Trying.{timer_by, timer_after}
use Rattle.nb_tcp.specs.declared.link.Link.{Link}
use Rattle.nb_tcp.specs.declared.conn.Conn.{Conn}
use Rattle.nb_tcp.specs.declared.conn.ConnState.TheVariants.{SynSent, Established, Ended}
use Rattle.nb_tcp.specs.declared.syn_answer.SynAnswer.{SynAnswer}
use Rattle.nb_tcp.specs.declared.syn_answer.SynAnswer.TheVariants as syn_answer
use Rattle.nb_tcp.specs.declared.variables.Variables.{Variables}
use Rattle.nb_tcp.specs.Numbers.{flow_of, opened_variables, sends_more, next_sending}
use Rattle.nb_tcp.specs.Replies.{only_ready, also_sending, first_tried, refused_in, unacked_text, ack_of_variables, went_on, ongoing_retry, established_acts, syn_answered, syn_answer_acts, syn_answer_state, syn_answer_retry, has_finished, has_come_all}
use Rattle.nb_tcp.specs.ConnHistory.{ConnEntry, tcp_calls, delivered, is_lent_after}
use Rattle.nb_streams.specs.Endings.{segment_end}
use Rattle.nb_tcp.specs.ConnPromises.{segment_asks}
use Rattle.nb_tcp.specs.ConnStanding.{waits_in, IsDelivered, HoldsRest, FlowStands, AsksSoFar, StateStands, TimerStandsFor, ConnStands}
use Rattle.nb_tcp.proofs.FlowStandsLemmas.{ack_out, going_same, went_stands}
use Rattle.nb_tcp.proofs.AnswerLemmas.{acts_by, text_begins}
use Rattle.nb_tcp.proofs.TakenStandsLemmas.{ongoing_timer, went_end}
use Rattle.nb_tcp.proofs.ReceivedLemmas.{none_waits}
use Rattle.nb_tcp.proofs.GoesOnLemmas.{phase_of, GoesOn}

-- what is known of a connection that a segment comes to
pub record AskedFacts (l : Link) (start : ℕ) (old new : Conn) (h : List ConnEntry) (m : Arrival) (now : ℕ) (acts : Acts) : Type 0 where
  pub was : ConnStands l start old h
  pub state_was : old.state ≡ SynSent
  pub here : IsDelivered old.held
  pub asks : AsksSoFar old.given old.unacked.items (phase_of l h)
  pub new_is : new ≡ record old { state = syn_answer_state l old.given m.segment (syn_answered l.isn m.segment); retry = syn_answer_retry l old.given m.segment now (syn_answered l.isn m.segment) old.retry }
  pub acts_are : acts ≡ syn_answer_acts l old.given old.unacked.items m.rec m.segment (syn_answered l.isn m.segment)

-- how what a segment means tells on the tests of the definitions
abbrev MeansSo : Bool → Bool → Bool → SynAnswer → Type 0
MeansSo opens refuses wrong syn_answer.Establishes = (opens ≡ true) × (refuses ≡ false)
MeansSo opens refuses wrong syn_answer.Refuses = (opens ≡ false) × (refuses ≡ true) × (wrong ≡ false)
MeansSo opens refuses wrong syn_answer.Wrong = (opens ≡ false) × (refuses ≡ false) × (wrong ≡ true)
MeansSo opens refuses wrong syn_answer.Nothing = (opens ≡ false) × (refuses ≡ false) × (wrong ≡ false)

so_means : (ack equal rst syn : Bool) → MeansSo ((ack && equal) && (syn && not rst)) ((ack && equal) && rst) (ack && (not (ack && equal) && not rst))
    (cond (ack && equal) (cond rst syn_answer.Refuses (cond syn syn_answer.Establishes syn_answer.Nothing)) (cond (ack && not rst) syn_answer.Wrong syn_answer.Nothing))
so_means true true true true = (refl, refl, refl)
so_means true true true false = (refl, refl, refl)
so_means true true false true = (refl, refl)
so_means true true false false = (refl, refl, refl)
so_means true false true true = (refl, refl, refl)
so_means true false true false = (refl, refl, refl)
so_means true false false true = (refl, refl, refl)
so_means true false false false = (refl, refl, refl)
so_means false equal true syn = (refl, refl, refl)
so_means false equal false syn = (refl, refl, refl)

-- the connection doesn't change, but that it may be refused
stays_asking : (l : Link) (start : ℕ) (old new : Conn) (h : List ConnEntry) (m : Arrival) (now : ℕ) (acts : Acts) (refused wrong : Bool) → ConnStands l start old h → has_finished old.state ≡ false → IsDelivered old.held → AsksSoFar old.given old.unacked.items (phase_of l h)
    → establishes l.isn m.segment ≡ false → (answers_syn l.isn m.segment && m.segment.rst) ≡ refused → (m.segment.ack && (not (answers_syn l.isn m.segment) && not m.segment.rst)) ≡ wrong
    → new ≡ record old { state = cond refused (Ended false) SynSent } → acts ≡ acts_by l (only_if wrong (without_try (rst_for m.segment))) 0 0 (cond refused (Some (refused_in m.rec)) None)
    → GoesOn l start h (segment_came m now) acts new
stays_asking l start old new h m now acts refused wrong was running here k opens refuses wrongs new_is acts_are =
    let then_phase : after_tcp_call l.isn (phase_of l h) (segment_came m now) ≡ phase_of l h = ap (λ p. after_tcp_call l.isn p (segment_came m now)) k.phase ∙ rw opens (sym k.phase) in
    let held_p : held_in (phase_of l h) ≡ nothing_held = ap held_in k.phase in
    let sends : calls_for l.isn (asking old.unacked.items) m.segment ≡ only_if wrong (without_try (rst_for m.segment)) = rw (opens, wrongs) refl in
    let over : segment_end l.isn (asking old.unacked.items) m ≡ cond refused (Some (refused_in m.rec)) None = ap (λ b. cond b (Some (refused_in m.rec)) None) refuses in
    record {
      asks = acts_are
          ∙ ap (λ xs. acts_by l xs 0 0 (cond refused (Some (refused_in m.rec)) None)) (sym sends)
          ∙ ap (λ o. acts_by l (calls_for l.isn (asking old.unacked.items) m.segment) 0 0 o) (sym over)
          ∙ ap (λ p. acts_by l (calls_for l.isn (asking old.unacked.items) m.segment) 0 (next (held_in p)) (segment_end l.isn (asking old.unacked.items) m)) (sym k.phase ∙ sym then_phase ∙ ap (λ p. after_tcp_call l.isn p (segment_came m now)) k.phase)
          ∙ ap (λ p. segment_asks l p m now) (sym k.phase);
      fires = tt;
      advance = ap (λ (x : Acts). unwrap_or x.advance (next (held_in (phase_of l h)))) acts_are ∙ ap (λ p. next (held_in p)) (sym then_phase);
      link = ap (λ (c : Conn). c.link) new_is ∙ was.link;
      over = ap (λ (c : Conn). has_finished c.state) new_is ∙ finish_by refused ∙ ap (λ (x : Acts). is_some x.over) (sym acts_are);
      at_end = ap (λ (c : Conn). has_come_all c.state) new_is ∙ all_by refused ∙ ap has_ended (sym held_p) ∙ ap (λ p. has_ended (held_in p)) (sym then_phase);
      held = subst (λ x. HoldsRest x (held_in (after_tcp_call l.isn (phase_of l h) (segment_came m now))) (delivered h) (is_lent_after h)) (sym (ap (λ (c : Conn). c.held) new_is))
          (subst (λ p. HoldsRest old.held (held_in p) (delivered h) (is_lent_after h)) (sym then_phase) was.held);
      waits = ap (λ (c : Conn). waits_in c.held) new_is ∙ none_waits old.held here ∙ ap (λ (x : Acts). x.ready) (sym acts_are);
      state = subst (λ (c : Conn). StateStands c.state c.given c.unacked.items (after_tcp_call l.isn (phase_of l h) (segment_came m now))) (sym new_is)
          (subst (λ p. StateStands (cond refused (Ended false) SynSent) old.given old.unacked.items p) (sym then_phase) (state_by refused));
      timer = λ going. subst (λ (c : Conn). TimerStandsFor c.retry (timer_by l.isn (phase_of l h) (segment_came m now) (timer_after l.isn start (tcp_calls h)))) (sym new_is)
          (subst (λ p. TimerStandsFor old.retry (timer_by l.isn p (segment_came m now) (timer_after l.isn start (tcp_calls h)))) (sym k.phase) (rw opens (was.timer running)));
    }
  where
    finish_by : (refused : Bool) → has_finished (cond refused (Ended false) SynSent) ≡ is_some (cond refused (Some (refused_in m.rec)) None)
    finish_by true = refl
    finish_by false = refl

    all_by : (refused : Bool) → has_come_all (cond refused (Ended false) SynSent) ≡ false
    all_by true = refl
    all_by false = refl

    state_by : (refused : Bool) → StateStands (cond refused (Ended false) SynSent) old.given old.unacked.items (phase_of l h)
    state_by true = tt
    state_by false = k

-- the text that waited begins
opening_acts : (l : Link) (given : ℕ) (unacked : List ℕ) (s : Incoming) (sending : Bool)
    → cond sending (first_tried (also_sending l (unacked_text (next_sending given (opened_variables l.isn s)) unacked) (also_sending l (ack_of_variables (opened_variables l.isn s)) (only_ready false)))) (also_sending l (ack_of_variables (opened_variables l.isn s)) (only_ready false))
    ≡ acts_by l (without_try (ack_of_variables (opened_variables l.isn s)) ∷ only_if sending (with_first_try (unacked_text (next_sending given (opened_variables l.isn s)) unacked))) 0 0 None
opening_acts l given unacked s true = refl
opening_acts l given unacked s false = refl

is_established : (l : Link) (start : ℕ) (old new : Conn) (h : List ConnEntry) (m : Arrival) (now : ℕ) (acts : Acts) → ConnStands l start old h → has_finished old.state ≡ false → IsDelivered old.held → AsksSoFar old.given old.unacked.items (phase_of l h)
    → establishes l.isn m.segment ≡ true → (answers_syn l.isn m.segment && m.segment.rst) ≡ false
    → new ≡ record old { state = Established (went_on false old.given (opened_variables l.isn m.segment)); retry = ongoing_retry false old.given (opened_variables l.isn m.segment) now old.retry }
    → acts ≡ established_acts l old.given old.unacked.items m.segment
    → GoesOn l start h (segment_came m now) acts new
is_established l start old new h m now acts was running here k opens refuses new_is acts_are =
    let v : Variables = opened_variables l.isn m.segment in
    let fs : FlowStands (opened_variables l.isn m.segment) nothing_held old.unacked.items old.given old.unacked.items = record { next = refl; stop = refl; in_all = k.in_all; small = k.small; rest = refl; few = omega arith } in
    let goes : established l.isn old.unacked.items m.segment ≡ flow_of (went_on false old.given (opened_variables l.isn m.segment)) nothing_held old.unacked.items = going_same false (opened_variables l.isn m.segment) nothing_held old.unacked.items old.given k.in_all in
    let then_phase : after_tcp_call l.isn (phase_of l h) (segment_came m now) ≡ flowing (flow_of (went_on false old.given (opened_variables l.isn m.segment)) nothing_held old.unacked.items) =
    ap (λ p. after_tcp_call l.isn p (segment_came m now)) k.phase ∙ rw opens (ap flowing goes) in
    let held_p : held_in (phase_of l h) ≡ nothing_held = ap held_in k.phase in
    let held_n : held_in (after_tcp_call l.isn (phase_of l h) (segment_came m now)) ≡ nothing_held = ap held_in then_phase in
    let sends : calls_for l.isn (asking old.unacked.items) m.segment ≡ without_try (ack_of_variables (opened_variables l.isn m.segment)) ∷ only_if (sends_more false old.given (opened_variables l.isn m.segment)) (with_first_try (unacked_text (next_sending old.given (opened_variables l.isn m.segment)) old.unacked.items)) =
    rw opens (ap (λ o. without_try o ∷ only_if (is_sending false (flow_of (opened_variables l.isn m.segment) nothing_held old.unacked.items)) (with_first_try (text_segment (going_on false (flow_of (opened_variables l.isn m.segment) nothing_held old.unacked.items))))) (ack_out (opened_variables l.isn m.segment) nothing_held old.unacked.items refl refl)
    ∙ ap (λ xs. without_try (ack_of_variables (opened_variables l.isn m.segment)) ∷ xs) (text_begins false (opened_variables l.isn m.segment) nothing_held old.unacked.items old.given old.unacked.items fs)) in
    let over : segment_end l.isn (asking old.unacked.items) m ≡ None = ap (λ b. cond b (Some (refused_in m.rec)) None) refuses in
    let all : acts ≡ acts_by l (without_try (ack_of_variables (opened_variables l.isn m.segment)) ∷ only_if (sends_more false old.given (opened_variables l.isn m.segment)) (with_first_try (unacked_text (next_sending old.given (opened_variables l.isn m.segment)) old.unacked.items))) 0 0 None =
    acts_are ∙ opening_acts l old.given old.unacked.items m.segment (sends_more false old.given (opened_variables l.isn m.segment)) in
    record {
      asks = all
          ∙ ap (λ xs. acts_by l xs 0 0 None) (sym sends)
          ∙ ap (λ o. acts_by l (calls_for l.isn (asking old.unacked.items) m.segment) 0 0 o) (sym over)
          ∙ ap (λ x. acts_by l (calls_for l.isn (asking old.unacked.items) m.segment) 0 (next x) (segment_end l.isn (asking old.unacked.items) m)) (sym held_n ∙ ap (λ p. held_in (after_tcp_call l.isn p (segment_came m now))) k.phase)
          ∙ ap (λ p. segment_asks l p m now) (sym k.phase);
      fires = tt;
      advance = ap (λ (x : Acts). unwrap_or x.advance (next (held_in (phase_of l h)))) all ∙ ap next held_p ∙ ap next (sym held_n);
      link = ap (λ (c : Conn). c.link) new_is ∙ was.link;
      over = ap (λ (c : Conn). has_finished c.state) new_is ∙ ap (λ (x : Acts). is_some x.over) (sym all);
      at_end = ap (λ (c : Conn). has_come_all c.state) new_is ∙ went_end false old.given (opened_variables l.isn m.segment) ∙ ap has_ended (sym held_n);
      held = subst (λ x. HoldsRest x (held_in (after_tcp_call l.isn (phase_of l h) (segment_came m now))) (delivered h) (is_lent_after h)) (sym (ap (λ (c : Conn). c.held) new_is))
          (subst (λ x. HoldsRest old.held x (delivered h) (is_lent_after h)) (held_p ∙ sym held_n) was.held);
      waits = ap (λ (c : Conn). waits_in c.held) new_is ∙ none_waits old.held here ∙ ap (λ (x : Acts). x.ready) (sym all);
      state = subst (λ (c : Conn). StateStands c.state c.given c.unacked.items (after_tcp_call l.isn (phase_of l h) (segment_came m now))) (sym new_is)
          (record { held = nothing_held; text = old.unacked.items; phase = then_phase; stands = went_stands false (opened_variables l.isn m.segment) nothing_held old.unacked.items old.given old.unacked.items fs });
      timer = λ going. subst (λ (c : Conn). TimerStandsFor c.retry (timer_by l.isn (phase_of l h) (segment_came m now) (timer_after l.isn start (tcp_calls h)))) (sym new_is)
          (subst (λ p. TimerStandsFor (ongoing_retry false old.given (opened_variables l.isn m.segment) now old.retry) (timer_by l.isn p (segment_came m now) (timer_after l.isn start (tcp_calls h)))) (sym k.phase)
          (rw opens (ongoing_timer false (opened_variables l.isn m.segment) nothing_held old.unacked.items old.given now old.retry (timer_after l.isn start (tcp_calls h)) k.in_all (was.timer running))));
    }

pub asked_goes_on : (l : Link) (start : ℕ) (old new : Conn) (h : List ConnEntry) (m : Arrival) (now : ℕ) (acts : Acts) → AskedFacts l start old new h m now acts → GoesOn l start h (segment_came m now) acts new
asked_goes_on l start old new h m now acts k = by_answer (syn_answered l.isn m.segment) refl (so_means m.segment.ack (m.segment.acknowledges == (l.isn + 1) % 2 ^ 32) m.segment.rst m.segment.syn)
  where
    running : has_finished old.state ≡ false
    running = ap has_finished k.state_was

    by_answer : (a : SynAnswer) → syn_answered l.isn m.segment ≡ a → MeansSo (establishes l.isn m.segment) (answers_syn l.isn m.segment && m.segment.rst) (m.segment.ack && (not (answers_syn l.isn m.segment) && not m.segment.rst)) a → GoesOn l start h (segment_came m now) acts new
    by_answer syn_answer.Establishes e means = is_established l start old new h m now acts k.was running k.here k.asks means.0 means.1
        (k.new_is ∙ ap (λ a. record old { state = syn_answer_state l old.given m.segment a; retry = syn_answer_retry l old.given m.segment now a old.retry }) e)
        (k.acts_are ∙ ap (λ a. syn_answer_acts l old.given old.unacked.items m.rec m.segment a) e)
    by_answer syn_answer.Refuses e means = stays_asking l start old new h m now acts true false k.was running k.here k.asks means.0 means.1 means.2
        (k.new_is ∙ ap (λ a. record old { state = syn_answer_state l old.given m.segment a; retry = syn_answer_retry l old.given m.segment now a old.retry }) e)
        (k.acts_are ∙ ap (λ a. syn_answer_acts l old.given old.unacked.items m.rec m.segment a) e)
    by_answer syn_answer.Wrong e means = stays_asking l start old new h m now acts false true k.was running k.here k.asks means.0 means.1 means.2
        (k.new_is ∙ ap (λ a. record old { state = syn_answer_state l old.given m.segment a; retry = syn_answer_retry l old.given m.segment now a old.retry }) e)
        (k.acts_are ∙ ap (λ a. syn_answer_acts l old.given old.unacked.items m.rec m.segment a) e)
    by_answer syn_answer.Nothing e means = stays_asking l start old new h m now acts false false k.was running k.here k.asks means.0 means.1 means.2
        (k.new_is ∙ ap (λ a. record old { state = syn_answer_state l old.given m.segment a; retry = syn_answer_retry l old.given m.segment now a old.retry }) e)
        (k.acts_are ∙ ap (λ a. syn_answer_acts l old.given old.unacked.items m.rec m.segment a) e)
