-- An open that fetches by HTTP and goes on: its response isn't whole, and its tries are those that are due, by all that has come.
use Rattle.std.proofs.Common.{◌≡◌, ℕ, ◌||◌, Bool, true, false, cond, not, List, [], ◌∷◌, ◌++◌, map, Option, Some, None, refl, sym, ◌∙◌, ap, subst, append_assoc, append-nil}
use Rattle.std.specs.List.{flat_map, AllByRecursion}
use Rattle.std.proofs.lemmas.List.Concat.{flat_map-append}
use Rattle.nb_terms.specs.declared.cause.Cause.{Cause}
use Rattle.nb_terms.specs.declared.acts.SendTo.{SendTo}
use Rattle.nb_defs.specs.Records.{sent}
use Rattle.nb_stack.specs.Client.{Client}
use Rattle.nb_stack.specs.Sends.{put_on, way_of}
use Rattle.nb_streams.specs.Segments.{Arrival}
use Rattle.nb_streams.specs.Flows.{TcpCall, segment_came, time_came, text_came, conn_phase, held_in}
use Rattle.nb_streams.specs.Sending.{calls_for}
use Rattle.nb_streams.specs.Trying.{timer_after, fired, due_tries, due_fired, comes_in, tries_at, mark_tries}
use Rattle.nb_streams.specs.Endings.{segment_end}
use Rattle.nb_talks.specs.Talking.{Came, by_segment, by_time}
use Rattle.nb_talks.specs.TalkPromises.{Sends, Put, closes_by, due_sends, earlier}
use Rattle.nb_readings.specs.Ends.{verdict_end, is_decided, is_whole}
use Rattle.nb_readings.specs.Readings.{response_read}
use Rattle.nb_readings.proofs.ReadingLemmas.{no_block_read}
use Rattle.nb_responses.specs.Chunks.{Verdict, more, open_body, body, moved, status, broken, large, long, many}
use Rattle.nb_responses.specs.Responses.{by_end}
use Rattle.nb_streams.specs.Streams.{front, has_ended}
use Rattle.nb_streams.proofs.OtherSendLaws.{phase_append}
use Rattle.nb_machine.specs.CommandRecords.{no_route}
use Rattle.nb_webs.specs.Webs.{NoTask, call_of, response_come, web_put}
use Rattle.nb_tcp.specs.Messages.{outgoing_message}
use Rattle.nb_machine.specs.Sendings.{has_route, send_records, try_records, advance_records}
use Rattle.nb_machine.specs.Lives.{http, OpenInput, message, tcp_segment, time, task, close, Exchange, Live}
use Rattle.nb_machine.specs.Transfers.{end_records}
use Rattle.nb_machine.specs.Connections.{Connection, connection_of, arrived_segment, came_on, talk_of, segment_records, loses_way, talk_end, put_records, PutsAt, KeepsAt, EachExchange}
use Rattle.nb_machine.specs.Webs.{request_at, web_talking}
use Rattle.nb_machine.specs.Takings.{end_among}
use Rattle.nb_laws.specs.Webs.{told_try_mark}
use Rattle.nb_laws.specs.Agreement.{AreAside}
use Rattle.nb_laws.proofs.Asides.{more as both_aside, aside_send, aside_advance}
use Rattle.nb_laws.proofs.Tellings.{try_marks_by, same_number}
use Rattle.nb_openlaws.specs.Standings.{IsOngoing, moment_in, streamed, exchange_try_marks, streamed_marks}
use Rattle.nb_openlaws.proofs.OpenEntries.{aside_all, own_end, NoEnd, no_end_of}
use Rattle.nb_openlaws.specs.Sessions.{TriesStand}
use Rattle.nb_openlaws.proofs.WebTries.{sends_marks, sent_mark, segment_tries, time_tries}
use Rattle.nb_openlaws.proofs.Requests.{calls_after, calls_more, said_once, puts_once}

-- the open's end isn't put
abbrev pub GoesOn : ℕ → Exchange → Type 0
GoesOn k x = end_among k x.put ≡ None

-- WHAT IS PUT WHERE IT GOES ON

-- segments tell no end
pub aside_segments : (c : Connection) (link : Client) (sends : Sends) → AreAside (segment_records c link sends)
aside_segments c link [] = tt
aside_segments c link (s ∷ sends) =
    both_aside (send_records link c.number s.1 (outgoing_message c.link s.0)) (segment_records c link sends) (aside_send link c.number s.1 (outgoing_message c.link s.0)) (aside_segments c link sends)

-- the records of an exchange put its end, where it has one
pub end_of_put : (c : Connection) (link : Client) (p : Put) → end_among c.number (put_records c link p) ≡ talk_end c link p
end_of_put c link p =
    let place = advance_records c.number p.advance in
    let segments = segment_records c link p.sends in
    aside_all c.number (place ++ segments) (end_records c.number (talk_end c link p)) (both_aside place segments (aside_advance c.number p.advance) (aside_segments c link p.sends))
    ∙ own_end c.number (talk_end c link p)

-- neither ended nor lost its way
pub went_well : (c : Connection) (link : Client) (p : Put) → talk_end c link p ≡ None → NoEnd p.over (loses_way c link p.sends)
went_well c link p e = no_end_of p.over (loses_way c link p.sends) (no_route c.server) e

-- TRIES THAT ARE TOLD

own_mark : (k now : ℕ) (try : Option ℕ) (b : Bool) (bytes : List ℕ) → b ≡ true → try_marks_by k now (cond b (try_records k try ++ (sent bytes ∷ [])) []) ≡ sent_mark now try
own_mark k now None true bytes e = refl
own_mark k now (Some n) true bytes e = ap (λ z. cond z (tries_at n now ∷ []) [] ++ []) (same_number k)
own_mark k now try false bytes e = absurd (cc)

routed_first : (a b : Bool) → (not a || b) ≡ false → (a ≡ true) × (b ≡ false)
routed_first true b e = (refl, e)
routed_first false b e = absurd (cc)

segments_marks : (c : Connection) (link : Client) (now : ℕ) (sends : Sends) → loses_way c link sends ≡ false → try_marks_by c.number now (segment_records c link sends) ≡ sends_marks now sends
segments_marks c link now [] e = refl
segments_marks c link now (s ∷ sends) e =
    let m : SendTo = outgoing_message c.link s.0 in
    let parts = routed_first (has_route link m) (loses_way c link sends) e in
    flat_map-append (told_try_mark c.number now) (send_records link c.number s.1 m) (segment_records c link sends)
    ∙ ap (λ z. z ++ try_marks_by c.number now (segment_records c link sends)) (own_mark c.number now s.1 (has_route link m) (put_on link m (way_of link m)) parts.0)
    ∙ ap (λ z. sent_mark now s.1 ++ z) (segments_marks c link now sends parts.1)

advance_marks : (k now : ℕ) (place : Option ℕ) → try_marks_by k now (advance_records k place) ≡ []
advance_marks k now None = refl
advance_marks k now (Some n) = refl

end_marks : (k now : ℕ) (over : Option Cause) → try_marks_by k now (end_records k over) ≡ []
end_marks k now None = refl
end_marks k now (Some why) = refl

-- where each segment finds its way
pub put_marks : (c : Connection) (link : Client) (now : ℕ) (p : Put) → loses_way c link p.sends ≡ false → try_marks_by c.number now (put_records c link p) ≡ sends_marks now p.sends
put_marks c link now p e =
    let place = advance_records c.number p.advance in
    let segments = segment_records c link p.sends in
    flat_map-append (told_try_mark c.number now) (place ++ segments) (end_records c.number (talk_end c link p))
    ∙ ap (λ z. try_marks_by c.number now (place ++ segments) ++ z) (end_marks c.number now (talk_end c link p)) ∙ append-nil (try_marks_by c.number now (place ++ segments))
    ∙ flat_map-append (told_try_mark c.number now) place segments
    ∙ ap (λ z. z ++ try_marks_by c.number now segments) (advance_marks c.number now p.advance) ∙ segments_marks c link now p.sends e

-- WHAT HOLDS OF AN OPEN THAT GOES ON

-- by all that came to it before: its response isn't decided, and its tries stand
pub record WebGoes (isn start k : ℕ) (request : List ℕ) (xs : List Exchange) : Type 0 where
  pub undecided : is_decided (response_come isn (calls_after request start (streamed xs))).verdict ≡ false
  pub tries : TriesStand isn start (calls_after request start (streamed xs)) (comes_in (text_came request start) ∷ tries_at 1 start ∷ streamed_marks k xs)

pub streamed_more : (xs : List Exchange) (x : Exchange) → streamed (xs ++ x ∷ []) ≡ streamed xs ++ came_on x.came
streamed_more xs x = flat_map-append (λ (y : Exchange). came_on y.came) xs (x ∷ []) ∙ ap (λ z. streamed xs ++ z) (append-nil (came_on x.came))

pub marks_more : (k : ℕ) (xs : List Exchange) (x : Exchange) → streamed_marks k (xs ++ x ∷ []) ≡ streamed_marks k xs ++ exchange_try_marks k x
marks_more k xs x = flat_map-append (exchange_try_marks k) xs (x ∷ []) ∙ ap (λ z. streamed_marks k xs ++ z) (append-nil (exchange_try_marks k x))

-- nothing has come
nothing_front : (isn start : ℕ) (request : List ℕ) → response_come isn (calls_after request start []) ≡ response_read [] false
unfolding conn_phase
nothing_front isn start [] = refl
nothing_front isn start (b ∷ bytes) = refl

nothing_decided : (isn start : ℕ) (request : List ℕ) → is_decided (response_come isn (calls_after request start [])).verdict ≡ false
nothing_decided isn start request = ap (λ r. is_decided r.verdict) (nothing_front isn start request ∙ ap (λ r. by_end false r) (no_block_read [] more refl))

first_tried : (isn start : ℕ) (request : List ℕ) → flat_map mark_tries (tries_at 1 start ∷ []) ≡ due_tries (timer_after isn start (calls_after request start []))
unfolding timer_after
first_tried isn start [] = refl
first_tried isn start (b ∷ bytes) = refl

pub begins_well : (isn start k : ℕ) (request : List ℕ) → WebGoes isn start k request []
begins_well isn start k request = record {
  undecided = nothing_decided isn start request;
  tries = record { earlier = comes_in (text_came request start) ∷ []; rest = tries_at 1 start ∷ []; all = refl; tried = first_tried isn start request };
}

-- a segment that ends nothing
pub no_end : (over other : Option Cause) → earlier over other ≡ None → (over ≡ None) × (other ≡ None)
no_end None other e = (refl, e)
no_end (Some why) other e = absurd (cc)

-- a response that ends nothing isn't decided, and so it isn't whole
undecided : (rec : ℕ) (v : Verdict) → verdict_end rec v ≡ None → is_decided v ≡ false
undecided rec more e = refl
undecided rec open_body e = refl
undecided rec body e = absurd (cc)
undecided rec (moved text) e = absurd (cc)
undecided rec (status code) e = absurd (cc)
undecided rec broken e = absurd (cc)
undecided rec large e = absurd (cc)
undecided rec long e = absurd (cc)
undecided rec many e = absurd (cc)

unwhole : (v : Verdict) → is_decided v ≡ false → is_whole v ≡ false
unwhole body e = absurd (cc)
unwhole (moved text) e = absurd (cc)
unwhole more e = refl
unwhole open_body e = refl
unwhole (status code) e = refl
unwhole broken e = refl
unwhole large e = refl
unwhole long e = refl
unwhole many e = refl

pub undecided_unwhole : (rec : ℕ) (v : Verdict) → verdict_end rec v ≡ None → is_whole v ≡ false
undecided_unwhole rec v e = unwhole v (undecided rec v e)

pub goes_unwhole : (isn start k : ℕ) (request : List ℕ) (xs : List Exchange) → WebGoes isn start k request xs → is_whole (response_come isn (calls_after request start (streamed xs))).verdict ≡ false
goes_unwhole isn start k request xs goes = unwhole (response_come isn (calls_after request start (streamed xs))).verdict goes.undecided

segment_goes : (c : Connection) (link : Client) (k : ℕ) (request : List ℕ) (xs : List Exchange) (m : Arrival) (now : ℕ) (put : Put) → c.number ≡ k → put ≡ web_put c.link.isn (calls_after request c.since (streamed xs)) m now →
    NoEnd put.over (loses_way c link put.sends) → WebGoes c.link.isn c.since k request xs →
    (is_decided (response_come c.link.isn (calls_after request c.since (streamed xs) ++ segment_came m now ∷ [])).verdict ≡ false) ×
    TriesStand c.link.isn c.since (calls_after request c.since (streamed xs) ++ segment_came m now ∷ []) ((comes_in (text_came request c.since) ∷ tries_at 1 c.since ∷ streamed_marks k xs) ++ comes_in (segment_came m now) ∷ sends_marks now put.sends)
segment_goes c link k request xs m now put of is went goes =
    let calls = calls_after request c.since (streamed xs) in
    let isn = c.link.isn in
    let rec = m.rec in
    let v = (response_come isn (calls ++ segment_came m now ∷ [])).verdict in
    let ends = no_end (verdict_end rec v) (segment_end isn (conn_phase isn calls) m) (sym (ap (λ (p : Put). p.over) is) ∙ went.none) in
    let told : sends_marks now put.sends ≡ sends_marks now (calls_for isn (conn_phase isn calls) m.segment) =
    ap (λ (p : Put). sends_marks now p.sends) is ∙ ap (λ z. sends_marks now (calls_for isn (conn_phase isn calls) m.segment ++ closes_by z (segment_end isn (conn_phase isn calls) m) isn (conn_phase isn (calls ++ segment_came m now ∷ [])))) ends.0
    ∙ ap (sends_marks now) (append-nil (calls_for isn (conn_phase isn calls) m.segment)) in (
      undecided rec v ends.0,
      subst (λ z. TriesStand isn c.since (calls ++ segment_came m now ∷ []) ((comes_in (text_came request c.since) ∷ tries_at 1 c.since ∷ streamed_marks k xs) ++ comes_in (segment_came m now) ∷ z)) (sym told)
          (segment_tries isn c.since calls (comes_in (text_came request c.since) ∷ tries_at 1 c.since ∷ streamed_marks k xs) m now ends.1 goes.tries),
    )

-- a time leaves the response as it is
pub time_response : (isn : ℕ) (calls : List TcpCall) (now : ℕ) → response_come isn (calls ++ time_came now ∷ []) ≡ response_come isn calls
time_response isn calls now = ap (λ p. response_read (front (held_in p)) (has_ended (held_in p))) (phase_append isn calls (time_came now))

-- an exchange after which it goes on
exchange_goes : (l : Live) (isn : ℕ) (xs : List Exchange) (x : Exchange) → KeepsAt (web_talking l.target) (connection_of isn l) xs x → GoesOn l.number x →
    WebGoes isn l.since l.number (request_at l.target) xs → WebGoes isn l.since l.number (request_at l.target) (xs ++ x ∷ [])
exchange_goes l isn xs x kept on goes = by x.came refl kept.puts
  where
    c : Connection
    c = connection_of isn l

    request : List ℕ
    request = request_at l.target

    calls : List TcpCall
    calls = calls_after request l.since (streamed xs)

    over : talk_end c x.link kept.put ≡ None
    over = sym (end_of_put c x.link kept.put) ∙ ap (end_among l.number) (sym kept.records) ∙ on

    went : NoEnd kept.put.over (loses_way c x.link kept.put.sends)
    went = went_well c x.link kept.put over

    told : (now : ℕ) → try_marks_by l.number now x.put ≡ sends_marks now kept.put.sends
    told now = ap (try_marks_by l.number now) kept.records ∙ put_marks c x.link now kept.put went.routed

    -- what came, and what was tried then
    then_marks : (input : OpenInput) (k : Came NoTask) → x.came ≡ input → came_on input ≡ k ∷ [] → (comes_in (text_came request l.since) ∷ tries_at 1 l.since ∷ streamed_marks l.number (xs ++ x ∷ []))
        ≡ (comes_in (text_came request l.since) ∷ tries_at 1 l.since ∷ streamed_marks l.number xs) ++ comes_in (call_of k) ∷ sends_marks (moment_in input) kept.put.sends
    then_marks input k is one =
        ap (λ z. comes_in (text_came request l.since) ∷ tries_at 1 l.since ∷ z)
        (marks_more l.number xs x ∙ ap (λ z. streamed_marks l.number xs ++ (map (λ y. comes_in (call_of y)) (came_on z) ++ try_marks_by l.number (moment_in z) x.put)) is
        ∙ ap (λ z. streamed_marks l.number xs ++ (map (λ y. comes_in (call_of y)) z ++ try_marks_by l.number (moment_in input) x.put)) one
        ∙ ap (λ z. streamed_marks l.number xs ++ comes_in (call_of k) ∷ z) (told (moment_in input)))

    then_calls : (input : OpenInput) (k : Came NoTask) → x.came ≡ input → came_on input ≡ k ∷ [] → calls_after request l.since (streamed (xs ++ x ∷ [])) ≡ calls ++ call_of k ∷ []
    then_calls input k is one =
        ap (calls_after request l.since) (streamed_more xs x ∙ ap (λ z. streamed xs ++ came_on z) is ∙ ap (λ z. streamed xs ++ z) one) ∙ calls_more request l.since (streamed xs) k

    stands : (input : OpenInput) (k : Came NoTask) → x.came ≡ input → came_on input ≡ k ∷ [] → is_decided (response_come isn (calls ++ call_of k ∷ [])).verdict ≡ false →
        TriesStand isn l.since (calls ++ call_of k ∷ []) ((comes_in (text_came request l.since) ∷ tries_at 1 l.since ∷ streamed_marks l.number xs) ++ comes_in (call_of k) ∷ sends_marks (moment_in input) kept.put.sends) →
        WebGoes isn l.since l.number request (xs ++ x ∷ [])
    stands input k is one none tries = record {
      undecided = ap (λ cs. is_decided (response_come isn cs).verdict) (then_calls input k is one) ∙ none;
      tries = subst (λ cs. TriesStand isn l.since cs (comes_in (text_came request l.since) ∷ tries_at 1 l.since ∷ streamed_marks l.number (xs ++ x ∷ []))) (sym (then_calls input k is one))
          (subst (TriesStand isn l.since (calls ++ call_of k ∷ [])) (sym (then_marks input k is one)) tries);
    }

    by : (input : OpenInput) → x.came ≡ input → PutsAt (web_talking l.target) c (talk_of (web_talking l.target) c xs) input kept.put → WebGoes isn l.since l.number request (xs ++ x ∷ [])
    by (message rec port bytes now) is puts = absurd puts
    by (task t now) is puts = absurd puts
    by (close why) is puts = absurd (let no : Some why ≡ None = sym (ap (λ (p : Put). p.over) puts) ∙ went.none in cc)
    by (tcp_segment rec g now) is puts =
        let m = arrived_segment rec g in
        let both = segment_goes c x.link l.number request xs m now kept.put refl (puts_once request isn l.since (streamed xs) m now kept.put puts) went goes in
        stands (tcp_segment rec g now) (by_segment m now) is refl both.0 both.1
    by (time now) is puts =
        let same = said_once request isn l.since (streamed xs) in
        let fires : fired (timer_after isn l.since (calls ++ time_came now ∷ [])) ≡ fired (timer_after isn l.since calls) ++ due_fired now puts.due =
        subst (λ cs. fired (timer_after isn l.since (cs ++ time_came now ∷ [])) ≡ fired (timer_after isn l.since cs) ++ due_fired now puts.due) same puts.fires in
        let sends : kept.put.sends ≡ due_sends isn (conn_phase isn calls) puts.due = ap (λ (p : Put). p.sends) puts.is ∙ ap (λ cs. due_sends isn (conn_phase isn cs) puts.due) same in
        stands (time now) (by_time now) is refl (ap (λ r. is_decided r.verdict) (time_response isn calls now) ∙ goes.undecided)
        (subst (λ z. TriesStand isn l.since (calls ++ time_came now ∷ []) ((comes_in (text_came request l.since) ∷ tries_at 1 l.since ∷ streamed_marks l.number xs) ++ comes_in (time_came now) ∷ sends_marks now z)) (sym sends)
        (time_tries isn l.since calls (comes_in (text_came request l.since) ∷ tries_at 1 l.since ∷ streamed_marks l.number xs) now puts.due fires goes.tries))

goes_through : (l : Live) (isn : ℕ) (before xs : List Exchange) → EachExchange (KeepsAt (web_talking l.target) (connection_of isn l)) before xs → AllByRecursion (GoesOn l.number) xs →
    WebGoes isn l.since l.number (request_at l.target) before → WebGoes isn l.since l.number (request_at l.target) (before ++ xs)
goes_through l isn before [] kept on goes = subst (WebGoes isn l.since l.number (request_at l.target)) (sym (append-nil before)) goes
goes_through l isn before (x ∷ xs) kept on goes =
    subst (WebGoes isn l.since l.number (request_at l.target)) (append_assoc before (x ∷ []) xs)
    (goes_through l isn (before ++ x ∷ []) xs kept.1 on.1 (exchange_goes l isn before x kept.0 on.0 goes))

-- so it is of each open that has kept its promises and goes on
pub web_goes : (l : Live) (isn : ℕ) → EachExchange (KeepsAt (web_talking l.target) (connection_of isn l)) [] l.exchanges → AllByRecursion (GoesOn l.number) l.exchanges → WebGoes isn l.since l.number (request_at l.target) l.exchanges
web_goes l isn kept on = goes_through l isn [] l.exchanges kept on (begins_well isn l.since l.number (request_at l.target))

pub ongoing : (k own isn : ℕ) (xs : List Exchange) → AllByRecursion (IsOngoing (http isn) k own) xs → AllByRecursion (GoesOn k) xs
ongoing k own isn [] h = tt
ongoing k own isn (x ∷ xs) h = (h.0.0, ongoing k own isn xs h.1)
