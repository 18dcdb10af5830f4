-- Why an open that fetches by HTTP ends: each cause stands in what came to it, and is Ok exactly where its response is whole.
use Rattle.std.proofs.Common.{◌≡◌, ℕ, ◌==◌, ◌||◌, Bool, true, false, cond, not, List, [], ◌∷◌, ◌++◌, map, Option, Some, None, refl, sym, ◌∙◌, ap, subst, append_assoc, append-nil}
use Rattle.std.specs.List.{flat_map}
use Rattle.std.proofs.lemmas.Bool.{eqb-true}
use Rattle.std.proofs.lemmas.List.{map-append}
use Rattle.std.proofs.lemmas.List.Concat.{flat_map-append}
use Rattle.nb_terms.specs.declared.cause.Cause.{Cause}
use Rattle.nb_defs.specs.Causes.{is_ok_cause}
use Rattle.nb_defs.specs.Records.{Out, step, tried}
use Rattle.nb_stack.specs.Client.{Client}
use Rattle.nb_retry.specs.declared.retry.Due.{Due}
use Rattle.nb_retry.specs.declared.retry.Due.TheVariants.{Not, Again, Over}
use Rattle.nb_streams.specs.Segments.{Arrival}
use Rattle.nb_streams.specs.Flows.{TcpCall, segment_came, time_came, text_came, conn_phase}
use Rattle.nb_streams.specs.Sending.{Outgoing, syn}
use Rattle.nb_streams.specs.Trying.{TryTimer, timer_after, due_tries, due_fired, fired, PlanIsOver, TryMark, comes_in, tries_at, mark_calls, HasTriedAll}
use Rattle.nb_streams.specs.Endings.{end_cause, plan_tries, segment_end, due_end, ConnEnds, by_syn_refusal, by_reset, by_length, by_second_stop, by_no_answer}
use Rattle.nb_talks.specs.Talking.{Came, by_segment, by_time, text_to_send}
use Rattle.nb_talks.specs.TalkPromises.{Sends, Put, earlier}
use Rattle.nb_streams.proofs.StreamLaws.{either}
use Rattle.nb_streams.proofs.EndLaws.{end_by_segment}
use Rattle.nb_responses.specs.Chunks.{Verdict}
use Rattle.nb_readings.specs.Ends.{cause, verdict_end, is_decided, is_whole}
use Rattle.nb_readings.proofs.EndLemmas.{whole_ends_well, well_ended_is_whole}
use Rattle.nb_webs.specs.Webs.{NoTask, call_of, response_come}
use Rattle.nb_tcp.specs.Messages.{outgoing_message}
use Rattle.nb_machine.specs.CommandRecords.{no_route}
use Rattle.nb_machine.specs.Sendings.{has_route}
use Rattle.nb_machine.specs.Transfers.{end_records}
use Rattle.nb_machine.specs.Findings.{first_word}
use Rattle.nb_machine.specs.Lives.{http, Exchange, Live}
use Rattle.nb_machine.specs.Connections.{Connection, connection_of, came_on, loses_way, talk_end}
use Rattle.nb_machine.specs.Webs.{request_at}
use Rattle.nb_laws.specs.Cores.{has_its_answer}
use Rattle.nb_laws.specs.Endings.{fate_to, by_answer, by_response, by_connection, by_no_acknowledgement, HadWay}
use Rattle.nb_laws.specs.Events.{Event}
use Rattle.nb_laws.specs.Lists.{hardware, time, Opening, openings, open_has_ended}
use Rattle.nb_laws.specs.Progress.{IsAdvanced}
use Rattle.nb_laws.specs.Webs.{brought_to, response_so_far, told_try_mark, try_marks_of, connection_marks}
use Rattle.nb_openlaws.specs.Standings.{streamed, exchange_try_marks, streamed_marks}
use Rattle.nb_openlaws.specs.OpenEndings.{by_itself, by_lost_way}
use Rattle.nb_openlaws.specs.OpenReasons.{OpenReasons}
use Rattle.nb_openlaws.proofs.Sendings.{no_reasons}
use Rattle.nb_openlaws.proofs.KindFacts.{opening_as, no_way_as}
use Rattle.nb_openlaws.proofs.Requests.{calls_after, said_once, timer_said}
use Rattle.nb_openlaws.proofs.WebTries.{timer_more, time_tries}
use Rattle.nb_openlaws.proofs.WebStands.{undecided_unwhole, time_response, WebGoes, goes_unwhole}
use Rattle.nb_openlaws.proofs.ExchangeReasons.{EndStands, ended_reasons}
use Rattle.nb_openlaws.proofs.WebSendings.{WebAt}

-- ITS MARKS AND ITS CALLS

no_calls_one : (b : Bool) (count now : ℕ) → flat_map mark_calls (cond b (tries_at count now ∷ []) []) ≡ []
no_calls_one true count now = refl
no_calls_one false count now = refl

no_calls : (k now : ℕ) (o : Out) → flat_map mark_calls (told_try_mark k now o) ≡ []
no_calls k now (tried number count) = no_calls_one (number == k) count now
no_calls k now (step number) = refl
no_calls k now _ = refl

no_calls_all : (k now : ℕ) (outs : List Out) → flat_map mark_calls (flat_map (told_try_mark k now) outs) ≡ []
no_calls_all k now [] = refl
no_calls_all k now (o ∷ outs) =
    flat_map-append mark_calls (told_try_mark k now o) (flat_map (told_try_mark k now) outs)
    ∙ ap (λ z. z ++ flat_map mark_calls (flat_map (told_try_mark k now) outs)) (no_calls k now o) ∙ no_calls_all k now outs

came_calls : (cs : List (Came NoTask)) → flat_map mark_calls (map (λ c. comes_in (call_of c)) cs) ≡ map call_of cs
came_calls [] = refl
came_calls (c ∷ cs) = ap (λ z. call_of c ∷ z) (came_calls cs)

exchange_calls : (k now : ℕ) (cs : List (Came NoTask)) (outs : List Out) → flat_map mark_calls (map (λ c. comes_in (call_of c)) cs ++ flat_map (told_try_mark k now) outs) ≡ map call_of cs
exchange_calls k now cs outs =
    flat_map-append mark_calls (map (λ c. comes_in (call_of c)) cs) (flat_map (told_try_mark k now) outs)
    ∙ ap (λ z. flat_map mark_calls (map (λ c. comes_in (call_of c)) cs) ++ z) (no_calls_all k now outs) ∙ append-nil _ ∙ came_calls cs

marks_calls : (k : ℕ) (xs : List Exchange) → flat_map mark_calls (streamed_marks k xs) ≡ map call_of (streamed xs)
marks_calls k [] = refl
marks_calls k (x ∷ xs) =
    flat_map-append mark_calls (exchange_try_marks k x) (streamed_marks k xs)
    ∙ ap (λ z. z ++ flat_map mark_calls (streamed_marks k xs)) (exchange_calls k _ (came_on x.came) x.put)
    ∙ ap (λ z. map call_of (came_on x.came) ++ z) (marks_calls k xs) ∙ sym (map-append call_of (came_on x.came) (streamed xs))

-- the marks before this came, and its mark
abbrev web_marks : (k start : ℕ) → List ℕ → List Exchange → List TryMark
web_marks k start request xs = comes_in (text_came request start) ∷ tries_at 1 start ∷ streamed_marks k xs

-- their timer is that of its calls
web_timer : (isn start k : ℕ) (request : List ℕ) (xs : List Exchange) (c : Came NoTask) → timer_after isn start (flat_map mark_calls (web_marks k start request xs ++ comes_in (call_of c) ∷ [])) ≡ timer_after isn start (calls_after request start (streamed xs) ++ call_of c ∷ [])
web_timer isn start k request xs c =
    ap (timer_after isn start) (flat_map-append mark_calls (web_marks k start request xs) (comes_in (call_of c) ∷ []) ∙ ap (λ z. (text_came request start ∷ z) ++ call_of c ∷ []) (marks_calls k xs))
    ∙ timer_said isn start request (map call_of (streamed xs) ++ call_of c ∷ []) ∙ ap (timer_after isn start) (sym (append_assoc (text_to_send request start) (map call_of (streamed xs)) (call_of c ∷ [])))

-- WHY IT ENDS

-- the history after what it put beside its end
pub record WebEnd (es : List Event) (l : Live) (link : Client) (isn : ℕ) (c : Came NoTask) : Type 0 where
  pub stands : WebAt es (opening_as (http isn) l) link (connection_of isn l) (calls_after (request_at l.target) l.since (streamed l.exchanges) ++ call_of c ∷ [])
  pub streams : brought_to l.number es ≡ streamed l.exchanges ++ c ∷ []
  pub had_way : HadWay l.number es (opening_as (http isn) l)
  pub word : isn ≡ first_word (hardware es).identity l.number

abbrev pub calls_with : Live → Came NoTask → List TcpCall
calls_with l c = calls_after (request_at l.target) l.since (streamed l.exchanges) ++ call_of c ∷ []

response_is : (es : List Event) (l : Live) (link : Client) (isn : ℕ) (all : List TcpCall) → WebAt es (opening_as (http isn) l) link (connection_of isn l) all → isn ≡ first_word (hardware es).identity l.number →
    response_so_far l.number (opening_as (http isn) l) es ≡ response_come isn all
response_is es l link isn all w word = ap (λ cs. response_come (first_word (hardware es).identity l.number) cs) w.calls_are ∙ ap (λ v. response_come v all) (sym word)

pub answer_is : (es : List Event) (l : Live) (link : Client) (isn : ℕ) (all : List TcpCall) → WebAt es (opening_as (http isn) l) link (connection_of isn l) all → isn ≡ first_word (hardware es).identity l.number →
    has_its_answer l.number (opening_as (http isn) l) es ≡ is_whole (response_come isn all).verdict
answer_is es l link isn all w word = ap (λ r. is_whole r.verdict) (response_is es l link isn all w word)

-- one that isn't Ok, where the response isn't whole
not_well : (rec : ℕ) (v : Verdict) (why : Cause) → verdict_end rec v ≡ Some why → is_whole v ≡ false → is_ok_cause why ≡ false
not_well rec v why e unwhole = either (why.code == 0)
    (λ well. absurd (let yes : is_whole v ≡ true = well_ended_is_whole rec v why.a why.b (e ∙ ap (λ z. Some (cause z why.a why.b)) (eqb-true why.code 0 well)) in let both : true ≡ false = sym yes ∙ unwhole in cc))
    (λ other. other)

pub broken_not_ok : (isn start : ℕ) (before : List TcpCall) (call : TcpCall) (why : Cause) → ConnEnds isn start before call why → is_ok_cause why ≡ false
broken_not_ok isn start before call why (by_syn_refusal text m now e a r) = refl
broken_not_ok isn start before call why (by_reset f m now e r) = refl
broken_not_ok isn start before call why (by_length f m now e t p) = refl
broken_not_ok isn start before call why (by_second_stop f m now e s) = refl
broken_not_ok isn start before call why (by_no_answer now over) = refl

pub segment_stands : (es : List Event) (l : Live) (link : Client) (isn : ℕ) (m : Arrival) (now : ℕ) (why : Cause) → WebEnd es l link isn (by_segment m now) → WebGoes isn l.since l.number (request_at l.target) l.exchanges →
    earlier (verdict_end m.rec (response_come isn (calls_with l (by_segment m now))).verdict) (segment_end isn (conn_phase isn (calls_after (request_at l.target) l.since (streamed l.exchanges))) m) ≡ Some why →
    EndStands l.number es (opening_as (http isn) l) why
segment_stands es l link isn m now why w goes over = by (verdict_end m.rec v) (segment_end isn (conn_phase isn before) m) refl refl over
  where
    k : ℕ
    k = l.number

    o : Opening
    o = opening_as (http isn) l

    before : List TcpCall
    before = calls_after (request_at l.target) l.since (streamed l.exchanges)

    all : List TcpCall
    all = before ++ segment_came m now ∷ []

    v : Verdict
    v = (response_come isn all).verdict

    answer : has_its_answer k o es ≡ is_whole v
    answer = answer_is es l link isn all w.stands w.word

    by : (a b : Option Cause) → verdict_end m.rec v ≡ a → segment_end isn (conn_phase isn before) m ≡ b → earlier a b ≡ Some why → EndStands k es o why
    by (Some one) b e f g = either (is_whole v)
        (λ whole. let is : Some (cause 0 0 0) ≡ Some why = sym (whole_ends_well m.rec v whole) ∙ e ∙ g in
        let same : cause 0 0 0 ≡ why = cc in
        (by_itself (by_answer o w.stands.opening (sym same) (answer ∙ whole)), ap is_ok_cause (sym same) ∙ sym (answer ∙ whole)))
        (λ no. (
          by_itself (by_response o (record { opening = w.stands.opening; kind_is = refl }) (record {
            before = streamed l.exchanges;
            last = m;
            now = now;
            all = w.streams;
            undecided = ap (λ cs. is_decided (response_come (first_word (hardware es).identity k) cs).verdict) (said_once (request_at l.target) (first_word (hardware es).identity k) l.since (streamed l.exchanges))
                ∙ ap (λ z. is_decided (response_come z before).verdict) (sym w.word) ∙ goes.undecided;
            ends = ap (λ r. verdict_end m.rec r.verdict) (response_is es l link isn all w.stands w.word) ∙ e ∙ g;
          })),
          not_well m.rec v why (e ∙ g) no ∙ sym (answer ∙ no),
        ))
    by None (Some one) e f g =
        let ends : ConnEnds isn l.since before (segment_came m now) why = end_by_segment isn l.since before (conn_phase isn before) m now why refl (f ∙ g) in (
          by_itself (by_connection o (record { opening = w.stands.opening; kind_is = refl }) (record {
            before = streamed l.exchanges;
            last = m;
            now = now;
            all = w.streams;
            ends = subst (λ cs. ConnEnds (first_word (hardware es).identity k) l.since cs (segment_came m now) why) (sym (said_once (request_at l.target) (first_word (hardware es).identity k) l.since (streamed l.exchanges)))
                (subst (λ z. ConnEnds z l.since before (segment_came m now) why) w.word ends);
          })),
          broken_not_ok isn l.since before (segment_came m now) why ends ∙ sym (answer ∙ undecided_unwhole m.rec v e),
        )
    by None None e f g = absurd (cc)

-- the plan is over
over_tried : (k isn start : ℕ) (request : List ℕ) (xs : List Exchange) (now : ℕ) →
    fired (timer_after isn start (calls_after request start (streamed xs) ++ time_came now ∷ [])) ≡ fired (timer_after isn start (calls_after request start (streamed xs))) ++ due_fired now Over → WebGoes isn start k request xs →
    HasTriedAll isn start now (web_marks k start request xs ++ comes_in (time_came now) ∷ [])
over_tried k isn start request xs now fires goes =
    let before = calls_after request start (streamed xs) in
    let t = time_tries isn start before (web_marks k start request xs) now Over fires goes.tries in
    let same = sym (web_timer isn start k request xs (by_time now)) in
    record {
      earlier = t.earlier;
      rest = t.rest;
      all = t.all;
      tried = t.tried ∙ ap due_tries same;
      over = subst (λ w. PlanIsOver w now) same (record { earlier = fired (timer_after isn start before); last = fires });
    }

pub time_stands : (es : List Event) (l : Live) (link : Client) (isn now : ℕ) (due : Due) (why : Cause) → WebEnd es l link isn (by_time now) → time es ≡ now → try_marks_of l.number es ≡ (tries_at 1 l.since ∷ streamed_marks l.number l.exchanges) ++ comes_in (time_came now) ∷ [] →
    fired (timer_after isn l.since (calls_after (request_at l.target) l.since (streamed l.exchanges) ++ time_came now ∷ [])) ≡ fired (timer_after isn l.since (calls_after (request_at l.target) l.since (streamed l.exchanges))) ++ due_fired now due →
    WebGoes isn l.since l.number (request_at l.target) l.exchanges → due_end (timer_after isn l.since (calls_after (request_at l.target) l.since (streamed l.exchanges))).plan due ≡ Some why → EndStands l.number es (opening_as (http isn) l) why
time_stands es l link isn now Not why w at told_so fires goes over = absurd (cc)
time_stands es l link isn now (Again n) why w at told_so fires goes over = absurd (cc)
time_stands es l link isn now Over why w at told_so fires goes over =
    let k = l.number in
    let o = opening_as (http isn) l in
    let request = request_at l.target in
    let before = calls_after request l.since (streamed l.exchanges) in
    let marks_are : connection_marks k o es ≡ web_marks k l.since request l.exchanges ++ comes_in (time_came now) ∷ [] = ap (λ z. comes_in (text_came request l.since) ∷ z) told_so in
    let timer_is : timer_after isn l.since (flat_map mark_calls (connection_marks k o es)) ≡ timer_after isn l.since (before ++ time_came now ∷ []) =
    ap (λ ms. timer_after isn l.since (flat_map mark_calls ms)) marks_are ∙ web_timer isn l.since k request l.exchanges (by_time now) in
    let is : end_cause 2 (plan_tries (timer_after isn l.since before).plan) 0 ≡ why = one_cause _ why over in
    let plan : (timer_after isn l.since before).plan ≡ (timer_after (first_word (hardware es).identity k) l.since (flat_map mark_calls (connection_marks k o es))).plan =
    sym (ap (λ (x : TryTimer). x.plan) (timer_more isn l.since before (time_came now))) ∙ ap (λ (x : TryTimer). x.plan) (sym timer_is) ∙ ap (λ z. (timer_after z l.since (flat_map mark_calls (connection_marks k o es))).plan) w.word in
    let tried : HasTriedAll isn l.since (time es) (connection_marks k o es) =
    subst (λ t. HasTriedAll isn l.since t (connection_marks k o es)) (sym at) (subst (λ ms. HasTriedAll isn l.since now ms) (sym marks_are) (over_tried k isn l.since request l.exchanges now fires goes)) in (
      by_itself (by_no_acknowledgement o (record { opening = w.stands.opening; kind_is = refl }) (record {
        tried = subst (λ z. HasTriedAll z l.since (time es) (connection_marks k o es)) w.word tried;
        count = sym is ∙ ap (λ p. end_cause 2 (plan_tries p) 0) plan;
      })),
      ap is_ok_cause (sym is) ∙ sym (answer_is es l link isn (before ++ time_came now ∷ []) w.stands w.word ∙ ap (λ r. is_whole r.verdict) (time_response isn before now) ∙ goes_unwhole isn l.since l.number (request_at l.target) l.exchanges goes),
    )
  where
    one_cause : (a b : Cause) → Some a ≡ Some b → a ≡ b
    one_cause a b e = cc

-- by itself, or because a segment found no route
pub any_lost : (c : Connection) (link : Client) (first : Outgoing) (sends : Sends) → loses_way c link sends ≡ true → has_route link (outgoing_message c.link first) ≡ false
any_lost c link first [] e = absurd (cc)
any_lost c link first (s ∷ sends) e = either (has_route link (outgoing_message c.link first))
    (λ found. any_lost c link first sends (subst (λ b. (not b || loses_way c link sends) ≡ true) found e))
    (λ lost. lost)

lost_stands : (es : List Event) (l : Live) (link : Client) (isn : ℕ) (c : Came NoTask) (sends : Sends) (why : Cause) → WebEnd es l link isn c → loses_way (connection_of isn l) link sends ≡ true → why ≡ no_route l.server →
    is_whole (response_come isn (calls_with l c)).verdict ≡ false → EndStands l.number es (opening_as (http isn) l) why
lost_stands es l link isn c sends why w lost is unwhole =
    let o = opening_as (http isn) l in (
      by_lost_way o w.stands.opening is (ap (λ (z : Client). fate_to z o) w.stands.client_is ∙ no_way_as (http isn) (hardware es) l link w.word (any_lost (connection_of isn l) link (syn isn) sends lost)) w.had_way,
      ap is_ok_cause is ∙ sym (answer_is es l link isn (calls_with l c) w.stands w.word ∙ unwhole),
    )

pub end_stands : (es : List Event) (l : Live) (link : Client) (isn : ℕ) (c : Came NoTask) (p : Put) (why : Cause) → WebEnd es l link isn c → ((one : Cause) → p.over ≡ Some one → EndStands l.number es (opening_as (http isn) l) one) →
    (p.over ≡ None → is_whole (response_come isn (calls_with l c)).verdict ≡ false) → talk_end (connection_of isn l) link p ≡ Some why → EndStands l.number es (opening_as (http isn) l) why
end_stands es l link isn c p why w own unwhole over = by p.over (loses_way (connection_of isn l) link p.sends) refl refl over
  where
    by : (a : Option Cause) (b : Bool) → p.over ≡ a → loses_way (connection_of isn l) link p.sends ≡ b → earlier a (cond b (Some (no_route l.server)) None) ≡ Some why → EndStands l.number es (opening_as (http isn) l) why
    by (Some one) b e f g = own why (e ∙ g)
    by None true e f g = let is : no_route l.server ≡ why = cc in lost_stands es l link isn c p.sends why w f (sym is) (unwhole e)
    by None false e f g = absurd (cc)

pub end_reasons : (es : List Event) (k : ℕ) (o : Opening) (end : Option Cause) → ((why : Cause) → end ≡ Some why → EndStands k es o why) → openings k es ≡ o ∷ [] → open_has_ended k es ≡ false → IsAdvanced es → OpenReasons es (end_records k end)
end_reasons es k o None stands opening lives a = no_reasons es a
end_reasons es k o (Some why) stands opening lives a = ended_reasons es k o why (stands why refl) opening lives a
