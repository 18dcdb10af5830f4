-- HTTP says its request once, puts what the response calls for, and an exchange ends it in Ok exactly where the response is whole.
use Rattle.std.proofs.Common.{◌≡◌, ◌<◌, ℕ, Bool, List, [], ◌∷◌, ◌++◌, length, map, Option, Some, None, true, refl, ap, ◌∙◌, sym, arith, append-nil, append_assoc}
use Rattle.std.specs.List.{AllByRecursion, fold}
use Rattle.std.proofs.lemmas.List.{drop_all}
use Rattle.std.proofs.lemmas.Option.{none-some, same_Some}
use Rattle.nb_terms.specs.declared.cause.Cause.{Cause}
use Rattle.nb_retry.specs.declared.plan.Plan.{Plan}
use Rattle.nb_retry.specs.declared.retry.Due.{Due}
use Rattle.nb_retry.specs.declared.retry.Due.TheVariants.{Not, Again, Over}
use Rattle.nb_streams.specs.Segments.{Arrival}
use Rattle.nb_streams.specs.Streams.{next, grown}
use Rattle.nb_streams.specs.Sending.{calls_for}
use Rattle.nb_streams.specs.Trying.{timer_after}
use Rattle.nb_streams.specs.Flows.{TcpCall, segment_came, time_came, text_came, conn_phase, held_after}
use Rattle.nb_streams.specs.Endings.{end_cause, plan_tries, segment_end, due_end, ConnEnds, by_syn_refusal, by_reset, by_length, by_second_stop, by_no_answer}
use Rattle.nb_talks.specs.Talking.{Came, by_segment, by_time, by_task, Talk, text_to_send, receives, more_of, texts_by, come_of, ended_of, texts_for, text_calls, talks_on, begun_talk, talk_after}
use Rattle.nb_talks.specs.TalkPromises.{Sends, Put, PutsSo, said_sends, texts_sent, unless_ended, closes_by, earlier, segment_put}
use Rattle.nb_streams.proofs.EndLaws.{end_by_segment}
use Rattle.nb_streams.proofs.FlowLaws.{all_append}
use Rattle.nb_responses.specs.Chunks.{Verdict}
use Rattle.nb_readings.specs.Ends.{verdict_end, is_whole}
use Rattle.nb_readings.proofs.EndLemmas.{whole_ends_well, well_ended_is_whole}
use Rattle.nb_webs.specs.Webs.{NoTask, web, response_come, call_of, web_put}

abbrev put_of : Option ℕ → Sends → Option Cause → Put
put_of advance sends over = record { advance = advance; sends = sends; over = over }

-- a text that stays as it is adds nothing
adds_nothing : (text : List ℕ) → more_of text text ≡ []
adds_nothing text = drop_all (length text) text (omega arith)

-- the request is all said as it begins, so that what comes brings no text
no_texts_by : (request : List ℕ) (ended : Bool) (tasks : List (NoTask × ℕ)) (come later : List ℕ) → AllByRecursion (λ x. x ≡ []) (texts_by (web request) ended tasks come later)
no_texts_by request ended tasks come [] = tt
no_texts_by request ended tasks come (b ∷ later) = (adds_nothing request, no_texts_by request ended tasks (come ++ b ∷ []) later)

no_texts : (request : List ℕ) (isn : ℕ) (d : Talk NoTask) (c : Came NoTask) → AllByRecursion (λ x. x ≡ []) (texts_for (web request) isn d c)
no_texts request isn d (by_segment m now) =
    let later = more_of (come_of isn d) (come_of isn (receives isn d (by_segment m now))) in
    all_append (λ (x : List ℕ). x ≡ []) (texts_by (web request) (ended_of isn d) d.tasks (come_of isn d) later) (more_of request request ∷ [])
    (no_texts_by request (ended_of isn d) d.tasks (come_of isn d) later) (adds_nothing request, tt)
no_texts request isn d (by_time now) = tt
no_texts request isn d (by_task task now) = absurd task

given_none : (texts : List (List ℕ)) (now : ℕ) → AllByRecursion (λ x. x ≡ []) texts → text_calls texts now ≡ []
given_none [] now all = refl
given_none (x ∷ xs) now all = ap (λ z. text_to_send z now ++ text_calls xs now) all.0 ∙ given_none xs now all.1

sent_none : (isn : ℕ) (calls : List TcpCall) (texts : List (List ℕ)) (now : ℕ) → AllByRecursion (λ x. x ≡ []) texts → texts_sent isn calls texts now ≡ []
sent_none isn calls [] now all = refl
sent_none isn calls (x ∷ xs) now all =
    ap (λ z. said_sends (conn_phase isn calls) z ++ texts_sent isn (calls ++ text_to_send x now) xs now) all.0 ∙ sent_none isn (calls ++ text_to_send x now) xs now all.1

pub went_on : (request : List ℕ) (isn : ℕ) (d : Talk NoTask) (c : Came NoTask) → (talks_on (web request) isn d c).calls ≡ d.calls ++ call_of c ∷ []
went_on request isn d (by_segment m now) =
    ap (λ t. (d.calls ++ segment_came m now ∷ []) ++ t) (given_none (texts_for (web request) isn d (by_segment m now)) now (no_texts request isn d (by_segment m now))) ∙ append-nil (d.calls ++ segment_came m now ∷ [])
went_on request isn d (by_time now) = append-nil (d.calls ++ time_came now ∷ [])
went_on request isn d (by_task task now) = absurd task

-- what came stands after what was there
pub all_went_on : (request : List ℕ) (isn : ℕ) (came : List (Came NoTask)) (d : Talk NoTask) → (fold (talks_on (web request) isn) d came).calls ≡ d.calls ++ map call_of came
all_went_on request isn [] d = sym (append-nil d.calls)
all_went_on request isn (c ∷ cs) d =
    all_went_on request isn cs (talks_on (web request) isn d c) ∙ ap (λ t. t ++ map call_of cs) (went_on request isn d c) ∙ append_assoc d.calls (call_of c ∷ []) (map call_of cs)

pub says_once : (request : List ℕ) (isn start : ℕ) (came : List (Came NoTask)) → 0 < length request → (talk_after (web request) isn start came).calls ≡ text_came request start ∷ map call_of came
says_once [] isn start came some = absurd (omega (arith, some))
says_once (b ∷ bytes) isn start came some = all_went_on (b ∷ bytes) isn came (begun_talk (web (b ∷ bytes)) isn start)

-- ---- what a segment puts

-- with what is said then left out
put_with : (isn : ℕ) (calls : List TcpCall) (m : Arrival) (now : ℕ) (said_then : Sends) (given : List TcpCall) → Put
put_with isn calls m now said_then given =
    let come = calls ++ segment_came m now ∷ [] in
    let ends = verdict_end m.rec (response_come isn come).verdict in
    let by_connection = segment_end isn (conn_phase isn calls) m in
    record {
      advance = grown (next (held_after isn calls)) (next (held_after isn come));
      sends = calls_for isn (conn_phase isn calls) m.segment ++ unless_ended by_connection said_then
          ++ closes_by ends by_connection isn (conn_phase isn (come ++ given));
      over = earlier ends by_connection;
    }

nothing_sent : (over : Option Cause) → unless_ended over [] ≡ []
nothing_sent None = refl
nothing_sent (Some cause) = refl

put_without : (isn : ℕ) (calls : List TcpCall) (m : Arrival) (now : ℕ) → put_with isn calls m now [] [] ≡ web_put isn calls m now
unfolding put_with
put_without isn calls m now =
    let come = calls ++ segment_came m now ∷ [] in
    let ends = verdict_end m.rec (response_come isn come).verdict in
    let by_connection = segment_end isn (conn_phase isn calls) m in
    let advance = grown (next (held_after isn calls)) (next (held_after isn come)) in
    let all = calls_for isn (conn_phase isn calls) m.segment in
    ap (λ cs. put_of advance ((all ++ unless_ended by_connection []) ++ closes_by ends by_connection isn (conn_phase isn cs)) (earlier ends by_connection)) (append-nil come)
    ∙ ap (λ xs. put_of advance (xs ++ closes_by ends by_connection isn (conn_phase isn come)) (earlier ends by_connection)) (ap (λ z. all ++ z) (nothing_sent by_connection) ∙ append-nil all)

-- whatever has come before, what the promise says of a segment is what it brings alone
pub segment_alone : (request : List ℕ) (isn : ℕ) (d : Talk NoTask) (m : Arrival) (now : ℕ) → segment_put (web request) isn d m now ≡ web_put isn d.calls m now
unfolding put_with
segment_alone request isn d m now =
    let texts = texts_for (web request) isn d (by_segment m now) in
    let none = no_texts request isn d (by_segment m now) in
    let come = d.calls ++ segment_came m now ∷ [] in
    ap (λ z. put_with isn d.calls m now z (text_calls texts now)) (sent_none isn come texts now none)
    ∙ ap (put_with isn d.calls m now []) (given_none texts now none) ∙ put_without isn d.calls m now

pub web_puts : (request : List ℕ) (isn start : ℕ) (came : List (Came NoTask)) (m : Arrival) (now : ℕ) (put : Put) → 0 < length request
    → PutsSo (web request) isn start (talk_after (web request) isn start came) (by_segment m now) put → put ≡ web_put isn (text_came request start ∷ map call_of came) m now
web_puts request isn start came m now put some puts =
    puts ∙ segment_alone request isn (talk_after (web request) isn start came) m now ∙ ap (λ cs. web_put isn cs m now) (says_once request isn start came some)

-- ---- the end

-- a connection ends with no Ok
conn_end_code : (isn start : ℕ) (before : List TcpCall) (c : TcpCall) (cause : Cause) → ConnEnds isn start before c cause → 0 < cause.code
conn_end_code isn start before _ _ (by_syn_refusal text m now e answers rst) = omega arith
conn_end_code isn start before _ _ (by_reset f m now e reset) = omega arith
conn_end_code isn start before _ _ (by_length f m now e taken past) = omega arith
conn_end_code isn start before _ _ (by_second_stop f m now e other) = omega arith
conn_end_code isn start before _ _ (by_no_answer now plan) = omega arith

ok_by : (isn : ℕ) (calls : List TcpCall) (m : Arrival) (now rec : ℕ) (v : Verdict) (ends other : Option Cause) (a b : ℕ) → verdict_end rec v ≡ ends → segment_end isn (conn_phase isn calls) m ≡ other
    → earlier ends other ≡ Some (end_cause 0 a b) → is_whole v ≡ true
ok_by isn calls m now rec v (Some cause) other a b here there is = well_ended_is_whole rec v a b (here ∙ is)
ok_by isn calls m now rec v None None a b here there is = absurd (none-some (end_cause 0 a b) is)
ok_by isn calls m now rec v None (Some cause) a b here there is =
    let some : 0 < cause.code = conn_end_code isn 0 calls (segment_came m now) cause (end_by_segment isn 0 calls (conn_phase isn calls) m now cause refl there) in
    let none : cause.code ≡ 0 = ap (λ (c : Cause). c.code) (same_Some cause (end_cause 0 a b) is) in
    absurd (omega (arith, some, none))

due_never_ok : (plan : Plan) (due : Due) (a b : ℕ) → due_end plan due ≡ Some (end_cause 0 a b) → ⊥
due_never_ok plan Not a b is = none-some (end_cause 0 a b) is
due_never_ok plan (Again n) a b is = none-some (end_cause 0 a b) is
due_never_ok plan Over a b is = let none : 2 ≡ 0 = ap (λ (c : Cause). c.code) (same_Some (end_cause 2 (plan_tries plan) 0) (end_cause 0 a b) is) in omega (arith, none)

pub ok_is_whole : (request : List ℕ) (isn start : ℕ) (d : Talk NoTask) (c : Came NoTask) (put : Put) (a b : ℕ) → PutsSo (web request) isn start d c put → put.over ≡ Some (end_cause 0 a b)
    → is_whole (response_come isn (receives isn d c).calls).verdict ≡ true
ok_is_whole request isn start d (by_segment m now) put a b puts is =
    let v : Verdict = (response_come isn (d.calls ++ segment_came m now ∷ [])).verdict in
    ok_by isn d.calls m now m.rec v (verdict_end m.rec v) (segment_end isn (conn_phase isn d.calls) m) a b refl refl (sym (ap (λ (p : Put). p.over) puts) ∙ is)
ok_is_whole request isn start d (by_time now) put a b puts is =
    absurd (due_never_ok (timer_after isn start d.calls).plan puts.due a b (sym (ap (λ (p : Put). p.over) puts.is) ∙ is))
ok_is_whole request isn start d (by_task task now) put a b puts is = absurd task

pub whole_is_ok : (request : List ℕ) (isn start : ℕ) (d : Talk NoTask) (m : Arrival) (now : ℕ) (put : Put) → PutsSo (web request) isn start d (by_segment m now) put
    → is_whole (response_come isn (receives isn d (by_segment m now)).calls).verdict ≡ true → put.over ≡ Some (end_cause 0 0 0)
whole_is_ok request isn start d m now put puts whole =
    let v : Verdict = (response_come isn (d.calls ++ segment_came m now ∷ [])).verdict in
    ap (λ (p : Put). p.over) puts ∙ ap (λ e. earlier e (segment_end isn (conn_phase isn d.calls) m)) (whole_ends_well m.rec v whole)
