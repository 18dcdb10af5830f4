-- A connection goes on to stand for its calls at a time.
use Rattle.std.proofs.Common.{◌≡◌, ◌<◌, ℕ, ◌^◌, List, [], ◌∷◌, ◌++◌, map, Some, None, Bool, false, cond, refl, ap, ◌∙◌, sym, subst, ltb}
use Rattle.std.specs.Prelude.{unwrap_or, filter}
use Rattle.std.specs.Option.{is_some}
use Rattle.std.proofs.lemmas.Bool.{false≢true}
use Rattle.std.proofs.lemmas.List.{map-append}
use Rattle.std.proofs.lemmas.List.Elements.{filter-append}
use Rattle.nb_retry.specs.declared.plan.Plan.{Plan}
use Rattle.nb_retry.specs.declared.retry.Due.{Due}
use Rattle.nb_retry.specs.declared.retry.Due.TheVariants.{Not, Again, Over}
use Rattle.nb_retry.specs.declared.retry.Retry.{Retry}
use Rattle.nb_retry.specs.Plans.{Asked, asked_at, firings, waits}
use Rattle.nb_retry.specs.Calls.{fires, TimerStands}
use Rattle.nb_retry.specs.Timer.{due_at, after as asked_after}
use Rattle.nb_retry.proofs.PlanLemmas.{follows_plan, after-since, Stands-append}
use Rattle.nb_terms.specs.declared.acts.Acts.{Acts}
use Rattle.nb_streams.specs.Streams.{next}
use Rattle.nb_streams.specs.Flows.{ConnPhase, time_came, held_in}
use Rattle.nb_streams.specs.Sending.{tried_again, text_segment, probe}
use Rattle.nb_streams.specs.Trying.{TryTimer, timer_after, fired, due_fired}
use Rattle.nb_streams.proofs.StreamLaws.{either}
use Rattle.nb_tcp.specs.declared.link.Link.{Link}
use Rattle.nb_tcp.specs.declared.conn.Conn.{Conn}
use Rattle.nb_tcp.specs.declared.conn.ConnState.{ConnState}
use Rattle.nb_tcp.specs.declared.conn.ConnState.TheVariants.{SynSent, Established, Ended}
use Rattle.nb_tcp.specs.Numbers.{flow_of}
use Rattle.nb_tcp.specs.Replies.{only_ready, all_sending, sent_again, has_finished, has_come_all}
use Rattle.nb_tcp.specs.OtherSteps.{conn_timer_acts, timer_state, ticked_acts, ticked_conn}
use Rattle.nb_tcp.specs.ConnHistory.{ConnEntry, tcp_calls, delivered, is_waiting_after, is_lent_after, due_said}
use Rattle.nb_tcp.specs.ConnPromises.{due_asks}
use Rattle.nb_tcp.specs.ConnStanding.{waits_in, HoldsRest, StateStands, TimerStandsFor, ConnStands}
use Rattle.nb_tcp.proofs.FlowStandsLemmas.{text_out, probe_out}
use Rattle.nb_tcp.proofs.ConnHistoryLemmas.{timer-append}
use Rattle.nb_tcp.proofs.GoesOnLemmas.{phase_of, GoesOn}

-- what is sent again is one segment
again_is : (l : Link) (state : ConnState) (given : ℕ) (unacked : List ℕ) (p : ConnPhase) → has_finished state ≡ false → StateStands state given unacked p → sent_again l unacked state ≡ tried_again l.isn p ∷ []
again_is l SynSent given unacked p running k = ap (λ x. tried_again l.isn x ∷ []) (sym k.phase)
again_is l (Established v) given unacked p running k =
    either (ltb v.acked v.sent)
    (λ t. rw t (ap (λ o. o ∷ []) (sym (text_out v k.held k.text given unacked k.stands)))
    ∙ ap (λ b. cond b (text_segment (flow_of v k.held k.text)) (probe (flow_of v k.held k.text)) ∷ []) (sym t))
    (λ f. rw f (ap (λ o. o ∷ []) (sym (probe_out v k.held k.text k.stands.next k.stands.stop)))
    ∙ ap (λ b. cond b (text_segment (flow_of v k.held k.text)) (probe (flow_of v k.held k.text)) ∷ []) (sym f))
    ∙ ap (λ x. tried_again l.isn x ∷ []) (sym k.phase)
again_is l (Ended at_end) given unacked p running k = absurd (false≢true (sym running))

-- what the timer's answer asks
due_is : (l : Link) (state : ConnState) (given : ℕ) (unacked : List ℕ) (p : ConnPhase) (w : Bool) (plan : Plan) (d : Due) → has_finished state ≡ false → StateStands state given unacked p
    → conn_timer_acts l unacked state plan (only_ready w) d ≡ due_asks l p w plan d
due_is l state given unacked p w plan Not running k = refl
due_is l state given unacked p w plan (Again n) running k = ap (λ os. record (all_sending l os (only_ready w)) { tried = Some n }) (again_is l state given unacked p running k)
due_is l state given unacked p w plan Over running k = refl

said_is : (l : Link) (p : ConnPhase) (w : Bool) (plan : Plan) (d : Due) → due_said (due_asks l p w plan d) ≡ d
said_is l p w plan Not = refl
said_is l p w plan (Again n) = refl
said_is l p w plan Over = refl

no_advance : (l : Link) (p : ConnPhase) (w : Bool) (plan : Plan) (d : Due) → (due_asks l p w plan d).advance ≡ None
no_advance l p w plan Not = refl
no_advance l p w plan (Again n) = refl
no_advance l p w plan Over = refl

finish_is : (l : Link) (state : ConnState) (p : ConnPhase) (w : Bool) (plan : Plan) (d : Due) → has_finished state ≡ false → has_finished (timer_state state d) ≡ is_some (due_asks l p w plan d).over
finish_is l state p w plan Not running = running
finish_is l state p w plan (Again n) running = running
finish_is l state p w plan Over running = refl

all_is : (state : ConnState) (d : Due) → has_come_all (timer_state state d) ≡ has_come_all state
all_is state Not = refl
all_is state (Again n) = refl
all_is state Over = refl

state_is : (state : ConnState) (given : ℕ) (unacked : List ℕ) (p : ConnPhase) (d : Due) → StateStands state given unacked p → StateStands (timer_state state d) given unacked p
state_is state given unacked p Not k = k
state_is state given unacked p (Again n) k = k
state_is state given unacked p Over k = tt

fired_list : (now : ℕ) (d : Due) → filter (λ (c : Asked). fires c.said) (asked_at now d ∷ []) ≡ due_fired now d
fired_list now Not = refl
fired_list now (Again n) = refl
fired_list now Over = refl

-- the timer after a time, and what fired
record TimerGoesOn (retry : Retry) (w : TryTimer) (now : ℕ) : Type 0 where
  stands : TimerStandsFor (asked_after retry now) (record w { times = w.times ++ now ∷ [] })
  fires : fired (record w { times = w.times ++ now ∷ [] }) ≡ fired w ++ due_fired now (due_at retry now)

plan_same : (retry : Retry) (w : TryTimer) (calls : List Asked) → TimerStands retry calls → map (λ (c : Asked). c.at) calls ≡ w.times → retry.since ≡ w.since → retry.plan ≡ w.plan → filter (λ (c : Asked). fires c.said) calls ≡ fired w
plan_same retry w calls stands times since plan =
    follows_plan retry calls stands
    ∙ ap (λ xs. firings retry.since (waits retry.plan) xs) times
    ∙ ap (λ n. firings n (waits retry.plan) w.times) since
    ∙ ap (λ p. firings w.since (waits p) w.times) plan

timer_goes_on : (retry : Retry) (w : TryTimer) (now : ℕ) → now < 2 ^ 64 → TimerStandsFor retry w → TimerGoesOn retry w now
timer_goes_on retry w now fits k =
    let d : Due = due_at retry now in
    let calls : List Asked = k.calls ++ asked_at now (due_at retry now) ∷ [] in
    let stands : TimerStands (asked_after retry now) (k.calls ++ asked_at now (due_at retry now) ∷ []) = Stands-append retry (asked_after retry now) k.calls now (due_at retry now) fits refl refl k.stands in
    let times : map (λ (c : Asked). c.at) (k.calls ++ asked_at now (due_at retry now) ∷ []) ≡ w.times ++ now ∷ [] = map-append (λ (c : Asked). c.at) k.calls (asked_at now (due_at retry now) ∷ []) ∙ ap (λ xs. xs ++ now ∷ []) k.times in
    let since : (asked_after retry now).since ≡ w.since = (after-since retry now).0 ∙ k.since in
    let plan : (asked_after retry now).plan ≡ w.plan = (after-since retry now).1 ∙ k.plan in
    record {
      stands = record { calls = k.calls ++ asked_at now (due_at retry now) ∷ []; stands = stands; times = times; since = since; plan = plan };
      fires = sym (plan_same (asked_after retry now) (record w { times = w.times ++ now ∷ [] }) (k.calls ++ asked_at now (due_at retry now) ∷ []) stands times since plan)
          ∙ filter-append (λ (c : Asked). fires c.said) k.calls (asked_at now (due_at retry now) ∷ [])
          ∙ ap (λ xs. xs ++ filter (λ (c : Asked). fires c.said) (asked_at now (due_at retry now) ∷ [])) (plan_same retry w k.calls k.stands k.times k.since k.plan)
          ∙ ap (λ xs. fired w ++ xs) (fired_list now (due_at retry now));
    }

pub tick_goes_on : (l : Link) (start : ℕ) (old new : Conn) (h : List ConnEntry) (now : ℕ) (acts : Acts) → ConnStands l start old h → has_finished old.state ≡ false → now < 2 ^ 64
    → acts ≡ ticked_acts old now → new ≡ ticked_conn old now → GoesOn l start h (time_came now) acts new
tick_goes_on l start old new h now acts was running fits acts_are new_is =
    let w : TryTimer = timer_after l.isn start (tcp_calls h) in
    let d : Due = due_at old.retry now in
    let timer : TimerStandsFor old.retry (timer_after l.isn start (tcp_calls h)) = was.timer running in
    let goes : TimerGoesOn old.retry (timer_after l.isn start (tcp_calls h)) now = timer_goes_on old.retry (timer_after l.isn start (tcp_calls h)) now fits timer in
    let new_so : new ≡ record old { retry = asked_after old.retry now; state = timer_state old.state (due_at old.retry now) } = new_is ∙ rw running refl in
    let acts_so : acts ≡ due_asks l (phase_of l h) (is_waiting_after h) (timer_after l.isn start (tcp_calls h)).plan (due_at old.retry now) =
    acts_are ∙ rw running refl
    ∙ ap (λ x. conn_timer_acts x old.unacked.items old.state old.retry.plan (only_ready (waits_in old.held)) (due_at old.retry now)) was.link
    ∙ ap (λ x. conn_timer_acts l old.unacked.items old.state x (only_ready (waits_in old.held)) (due_at old.retry now)) timer.plan
    ∙ ap (λ x. conn_timer_acts l old.unacked.items old.state (timer_after l.isn start (tcp_calls h)).plan (only_ready x) (due_at old.retry now)) was.waits
    ∙ due_is l old.state old.given old.unacked.items (phase_of l h) (is_waiting_after h) (timer_after l.isn start (tcp_calls h)).plan (due_at old.retry now) running was.state in
    let said : due_said acts ≡ due_at old.retry now = ap due_said acts_so ∙ said_is l (phase_of l h) (is_waiting_after h) (timer_after l.isn start (tcp_calls h)).plan (due_at old.retry now) in
    record {
      asks = acts_so ∙ ap (λ x. due_asks l (phase_of l h) (is_waiting_after h) (timer_after l.isn start (tcp_calls h)).plan x) (sym said);
      fires = ap fired (timer-append l.isn start (tcp_calls h) (time_came now)) ∙ goes.fires ∙ ap (λ x. fired (timer_after l.isn start (tcp_calls h)) ++ due_fired now x) (sym said);
      advance = ap (λ (x : Acts). unwrap_or x.advance (next (held_in (phase_of l h)))) acts_so
          ∙ ap (λ o. unwrap_or o (next (held_in (phase_of l h)))) (no_advance l (phase_of l h) (is_waiting_after h) (timer_after l.isn start (tcp_calls h)).plan (due_at old.retry now));
      link = ap (λ (c : Conn). c.link) new_so ∙ was.link;
      over = ap (λ (c : Conn). has_finished c.state) new_so ∙ finish_is l old.state (phase_of l h) (is_waiting_after h) (timer_after l.isn start (tcp_calls h)).plan (due_at old.retry now) running ∙ ap (λ (x : Acts). is_some x.over) (sym acts_so);
      at_end = ap (λ (c : Conn). has_come_all c.state) new_so ∙ all_is old.state (due_at old.retry now) ∙ was.at_end;
      held = subst (λ x. HoldsRest x (held_in (phase_of l h)) (delivered h) (is_lent_after h)) (sym (ap (λ (c : Conn). c.held) new_so)) was.held;
      waits = ap (λ (c : Conn). waits_in c.held) new_so ∙ was.waits;
      state = subst (λ (c : Conn). StateStands c.state c.given c.unacked.items (phase_of l h)) (sym new_so) (state_is old.state old.given old.unacked.items (phase_of l h) (due_at old.retry now) was.state);
      timer = λ going. subst (λ (c : Conn). TimerStandsFor c.retry (record (timer_after l.isn start (tcp_calls h)) { times = (timer_after l.isn start (tcp_calls h)).times ++ now ∷ [] })) (sym new_so) goes.stands;
    }
