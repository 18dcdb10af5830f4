-- A connection goes on to stand for its calls when more text is given.
use Rattle.std.proofs.Common.{◌≡◌, ◌<◌, ℕ, ◌+◌, ◌^◌, List, ◌++◌, length, None, Bool, true, false, cond, refl, ap, ◌∙◌, sym, subst, arith}
use Rattle.std.specs.Prelude.{unwrap_or}
use Rattle.std.specs.Option.{is_some}
use Rattle.std.proofs.lemmas.Bool.{false≢true}
use Rattle.std.proofs.lemmas.List.{length-append, drop-append-le}
use Rattle.nb_retry.specs.declared.plan.Plan.TheVariants.{Common}
use Rattle.nb_retry.specs.declared.retry.Retry.{Retry}
use Rattle.nb_retry.specs.Timer.{started}
use Rattle.nb_terms.specs.declared.acts.Acts.{Acts}
use Rattle.nb_streams.specs.Streams.{HeldBytes, next, has_ended}
use Rattle.nb_streams.specs.Flows.{ConnPhase, asking, flowing, text_came, after_tcp_call, after_text, held_in}
use Rattle.nb_streams.specs.Sending.{only_if, with_first_try, text_calls_for}
use Rattle.nb_streams.specs.Trying.{TryTimer, timer_after, timer_by, timer_since}
use Rattle.nb_streams.proofs.SendLaws.{IsFlow, IsPhase, all_in_order}
use Rattle.nb_tcp.specs.declared.link.Link.{Link}
use Rattle.nb_tcp.specs.declared.conn.Conn.{Conn}
use Rattle.nb_tcp.specs.declared.conn.ConnState.{ConnState}
use Rattle.nb_tcp.specs.declared.conn.ConnState.TheVariants.{SynSent, Established, Ended}
use Rattle.nb_tcp.specs.declared.variables.Variables.{Variables}
use Rattle.nb_tcp.specs.Numbers.{flow_of, sends_more, next_sending}
use Rattle.nb_tcp.specs.Replies.{only_ready, also_sending, first_tried, unacked_text, went_on, given_acts, given_state, given_retry, has_finished, has_come_all}
use Rattle.nb_tcp.specs.OtherSteps.{GivesText}
use Rattle.nb_tcp.specs.ConnHistory.{ConnEntry, tcp_calls, delivered, is_waiting_after, is_lent_after}
use Rattle.nb_tcp.specs.ConnPromises.{asked_sends}
use Rattle.nb_tcp.specs.ConnStanding.{waits_in, HoldsRest, FlowStands, StateStands, TimerStandsFor, ConnStands}
use Rattle.nb_tcp.proofs.FlowStandsLemmas.{going_same, sending_same, went_stands}
use Rattle.nb_tcp.proofs.AnswerLemmas.{text_begins}
use Rattle.nb_tcp.proofs.TakenStandsLemmas.{fresh_timer, went_end}
use Rattle.nb_tcp.proofs.GoesOnLemmas.{phase_of, GoesOn}

-- with more text
more_text : (v : Variables) (h : HeldBytes) (text bytes : List ℕ) (given more : ℕ) (unacked all : List ℕ) → FlowStands v h text given unacked → IsFlow (flow_of v h text)
    → more ≡ given + length bytes → more < 2 ^ 31 → all ≡ unacked ++ bytes → FlowStands v h (text ++ bytes) more all
more_text v h text bytes given more unacked all c is sum small joined = record {
  next = c.next;
  stop = c.stop;
  in_all = omega (arith, sum, c.in_all, length-append text bytes);
  small = small;
  rest = joined ∙ ap (λ xs. xs ++ bytes) c.rest ∙ sym (drop-append-le v.acked text bytes (omega (arith, is.acked, is.sent)));
  few = c.few;
}

-- what the new text asks and makes, before the connection is established and after
record TextFacts (l : Link) (state : ConnState) (p : ConnPhase) (bytes : List ℕ) (more now : ℕ) (all : List ℕ) (waits : Bool) (r : Retry) (w : TryTimer) : Type 0 where
  asks : given_acts l more all state (only_ready waits) ≡ asked_sends l (text_calls_for p bytes) (only_ready waits)
  over : (given_acts l more all state (only_ready waits)).over ≡ None
  advance : (given_acts l more all state (only_ready waits)).advance ≡ None
  finish : has_finished (given_state more state) ≡ false
  at_end : has_come_all (given_state more state) ≡ has_come_all state
  held : held_in (after_tcp_call l.isn p (text_came bytes now)) ≡ held_in p
  stands : StateStands (given_state more state) more all (after_tcp_call l.isn p (text_came bytes now))
  timer : TimerStandsFor (given_retry more now state r) (timer_by l.isn p (text_came bytes now) w)

given_by : (l : Link) (v : Variables) (more : ℕ) (all : List ℕ) (waits sending : Bool)
    → cond sending (first_tried (also_sending l (unacked_text (next_sending more v) all) (only_ready waits))) (only_ready waits) ≡ asked_sends l (only_if sending (with_first_try (unacked_text (next_sending more v) all))) (only_ready waits)
given_by l v more all waits true = refl
given_by l v more all waits false = refl

no_over : (l : Link) (v : Variables) (more : ℕ) (all : List ℕ) (waits sending : Bool) → (cond sending (first_tried (also_sending l (unacked_text (next_sending more v) all) (only_ready waits))) (only_ready waits)).over ≡ None
no_over l v more all waits true = refl
no_over l v more all waits false = refl

no_place : (l : Link) (v : Variables) (more : ℕ) (all : List ℕ) (waits sending : Bool) → (cond sending (first_tried (also_sending l (unacked_text (next_sending more v) all) (only_ready waits))) (only_ready waits)).advance ≡ None
no_place l v more all waits true = refl
no_place l v more all waits false = refl

timer_by_text : (sending : Bool) (now : ℕ) (r : Retry) (w : TryTimer) → TimerStandsFor r w → TimerStandsFor (cond sending (started now Common) r) (cond sending (timer_since Common now) w)
timer_by_text true now r w was = fresh_timer Common now
timer_by_text false now r w was = was

text_facts : (l : Link) (state : ConnState) (p : ConnPhase) (bytes : List ℕ) (given more now : ℕ) (unacked all : List ℕ) (waits : Bool) (r : Retry) (w : TryTimer) → has_finished state ≡ false → StateStands state given unacked p → IsPhase p
    → more ≡ given + length bytes → more < 2 ^ 31 → all ≡ unacked ++ bytes → TimerStandsFor r w → TextFacts l state p bytes more now all waits r w
text_facts l SynSent p bytes given more now unacked all waits r w running k is sum small joined was = record {
  asks = ap (λ x. asked_sends l (text_calls_for x bytes) (only_ready waits)) (sym k.phase);
  over = refl;
  advance = refl;
  finish = refl;
  at_end = refl;
  held = ap (λ x. held_in (after_tcp_call l.isn x (text_came bytes now))) k.phase ∙ ap held_in (sym k.phase);
  stands = record { phase = ap (λ x. after_tcp_call l.isn x (text_came bytes now)) k.phase ∙ ap asking (sym joined); in_all = omega (arith, sum, k.in_all, ap length joined, length-append unacked bytes); small = small };
  timer = subst (λ x. TimerStandsFor r (timer_by l.isn x (text_came bytes now) w)) (sym k.phase) was;
}
text_facts l (Established v) p bytes given more now unacked all waits r w running k is sum small joined was =
    let order : IsFlow (flow_of v k.held k.text) = subst IsPhase k.phase is in
    let c : FlowStands v k.held (k.text ++ bytes) more all = more_text v k.held k.text bytes given more unacked all k.stands order sum small joined in
    let goes : after_text (flow_of v k.held k.text) bytes ≡ flow_of (went_on false more v) k.held (k.text ++ bytes) = going_same false v k.held (k.text ++ bytes) more c.in_all in
    let then_phase : after_tcp_call l.isn p (text_came bytes now) ≡ flowing (flow_of (went_on false more v) k.held (k.text ++ bytes)) = ap (λ x. after_tcp_call l.isn x (text_came bytes now)) k.phase ∙ ap flowing goes in
    record {
      asks = given_by l v more all waits (sends_more false more v)
          ∙ ap (λ xs. asked_sends l xs (only_ready waits)) (sym (text_begins false v k.held (k.text ++ bytes) more all c))
          ∙ ap (λ x. asked_sends l (text_calls_for x bytes) (only_ready waits)) (sym k.phase);
      over = no_over l v more all waits (sends_more false more v);
      advance = no_place l v more all waits (sends_more false more v);
      finish = refl;
      at_end = went_end false more v;
      held = ap held_in then_phase ∙ ap held_in (sym k.phase);
      stands = record { held = k.held; text = k.text ++ bytes; phase = then_phase; stands = went_stands false v k.held (k.text ++ bytes) more all c };
      timer = subst (λ x. TimerStandsFor (given_retry more now (Established v) r) (timer_by l.isn x (text_came bytes now) w)) (sym k.phase)
          (subst (λ b. TimerStandsFor (given_retry more now (Established v) r) (cond b (timer_since Common now) w)) (sym (sending_same false v k.held (k.text ++ bytes) more c.in_all))
          (timer_by_text (sends_more false more v) now r w was));
    }
text_facts l (Ended at_end) p bytes given more now unacked all waits r w running k is sum small joined was = absurd (false≢true (sym running))

pub text_goes_on : (l : Link) (start : ℕ) (old new : Conn) (h : List ConnEntry) (bytes : List ℕ) (now : ℕ) (acts : Acts) → ConnStands l start old h → has_finished old.state ≡ false → GivesText old bytes now new acts → GoesOn l start h (text_came bytes now) acts new
text_goes_on l start old new h bytes now acts was running g =
    let facts : TextFacts l old.state (phase_of l h) bytes new.given now new.unacked.items (is_waiting_after h) old.retry (timer_after l.isn start (tcp_calls h)) =
    text_facts l old.state (phase_of l h) bytes old.given new.given now old.unacked.items new.unacked.items (is_waiting_after h) old.retry (timer_after l.isn start (tcp_calls h)) running was.state (all_in_order l.isn (tcp_calls h)) g.given (omega (arith, g.given, g.few)) g.unacked (was.timer running) in
    let acts_so : acts ≡ given_acts l new.given new.unacked.items old.state (only_ready (is_waiting_after h)) =
    g.acts_are ∙ ap (λ x. given_acts x new.given new.unacked.items old.state (only_ready (waits_in old.held))) was.link ∙ ap (λ b. given_acts l new.given new.unacked.items old.state (only_ready b)) was.waits in
    record {
      asks = acts_so ∙ facts.asks;
      fires = tt;
      advance = ap (λ (x : Acts). unwrap_or x.advance (next (held_in (phase_of l h)))) acts_so ∙ ap (λ o. unwrap_or o (next (held_in (phase_of l h)))) facts.advance ∙ ap next (sym facts.held);
      link = g.link ∙ was.link;
      over = ap has_finished g.state ∙ facts.finish ∙ ap is_some (sym facts.over) ∙ ap (λ (x : Acts). is_some x.over) (sym acts_so);
      at_end = ap has_come_all g.state ∙ facts.at_end ∙ was.at_end ∙ ap has_ended (sym facts.held);
      held = subst (λ x. HoldsRest x (held_in (after_tcp_call l.isn (phase_of l h) (text_came bytes now))) (delivered h) (is_lent_after h)) (sym g.held)
          (subst (λ x. HoldsRest old.held x (delivered h) (is_lent_after h)) (sym facts.held) was.held);
      waits = ap waits_in g.held ∙ was.waits;
      state = subst (λ x. StateStands x new.given new.unacked.items (after_tcp_call l.isn (phase_of l h) (text_came bytes now))) (sym g.state) facts.stands;
      timer = λ going. subst (λ r. TimerStandsFor r (timer_by l.isn (phase_of l h) (text_came bytes now) (timer_after l.isn start (tcp_calls h)))) (sym g.retry) facts.timer;
    }
