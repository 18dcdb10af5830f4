-- An exchange of an open that fetches by HTTP, and of any: all its records have their reasons.
use Rattle.std.proofs.Common.{◌≡◌, ℕ, ◌==◌, ◌<◌, true, false, List, [], ◌∷◌, ◌++◌, map, Option, Some, None, refl, sym, ◌∙◌, ap, subst, append_assoc, append-nil}
use Rattle.std.specs.Prelude.{unwrap_or}
use Rattle.std.specs.List.{list_any, AllByRecursion}
use Rattle.nb_terms.specs.declared.cause.Cause.{Cause}
use Rattle.nb_defs.specs.Records.{Out}
use Rattle.nb_retry.specs.declared.retry.Due.{Due}
use Rattle.nb_retry.specs.declared.retry.Due.TheVariants.{Not, Again, Over}
use Rattle.nb_streams.specs.Segments.{Arrival}
use Rattle.nb_streams.specs.Streams.{next}
use Rattle.nb_streams.specs.Flows.{TcpCall, time_came, held_after}
use Rattle.nb_streams.specs.Trying.{timer_after, due_fired, fired, comes_in, tries_at}
use Rattle.nb_streams.specs.Endings.{due_end}
use Rattle.nb_talks.specs.Talking.{Came, by_segment, by_time, talk_after}
use Rattle.nb_talks.specs.TalkPromises.{Sends, Put, PutsSo, phase_of, due_sends, earlier}
use Rattle.nb_readings.specs.Ends.{is_whole}
use Rattle.nb_webs.specs.Webs.{NoTask, call_of, response_come}
use Rattle.nb_command.specs.SettingAddresses.{host}
use Rattle.nb_machine.specs.Sendings.{advance_records}
use Rattle.nb_machine.specs.Transfers.{end_records}
use Rattle.nb_machine.specs.Findings.{first_word}
use Rattle.nb_machine.specs.Lives.{OpenKind, tftp, http, iscsi, dns, dhcp, ping, OpenInput, message, tcp_segment, time as time_came_to, task, close, Exchange, Live, continued}
use Rattle.nb_machine.specs.Kinds.{KeepsBy}
use Rattle.nb_machine.specs.Connections.{Connection, connection_of, arrived_segment, came_on, talk_of, segment_records, talk_end, put_records, PutsAt, KeepsAt}
use Rattle.nb_machine.specs.Webs.{request_at, web_at, web_talking}
use Rattle.nb_machine.specs.Takings.{end_among}
use Rattle.nb_laws.specs.Events.{Event}
use Rattle.nb_laws.specs.Frames.{IsDue}
use Rattle.nb_laws.specs.Histories.{client}
use Rattle.nb_laws.specs.Lists.{hardware, time, opens_file, Opening, openings, open_has_ended, last_place}
use Rattle.nb_laws.specs.Progress.{file_place, IsFurther}
use Rattle.nb_laws.specs.Webs.{brought_to, talk_by, try_marks_of}
use Rattle.nb_laws.proofs.Tellings.{told, Kept, kept}
use Rattle.nb_openlaws.specs.Standings.{streamed, streamed_marks, ComesToOwnPort, IsOngoing}
use Rattle.nb_laws.specs.Endings.{HadWay}
use Rattle.nb_openlaws.specs.OpenReasons.{OpenReasons}
use Rattle.nb_openlaws.proofs.Takings.{due_told, way_stays, grown as grown_by}
use Rattle.nb_openlaws.proofs.OpenRecords.{last_exchange}
use Rattle.nb_openlaws.proofs.Sendings.{reasons_then, client_advance, aside_advance, advance_reasons}
use Rattle.nb_openlaws.proofs.KindFacts.{opening_as}
use Rattle.nb_openlaws.proofs.StreamPlaces.{stream_so}
use Rattle.nb_openlaws.proofs.Requests.{calls_after, calls_more, said_once, puts_once}
use Rattle.nb_openlaws.proofs.WebPuts.{grown_unwrap, grown_some, PutsWell, web_well}
use Rattle.nb_openlaws.proofs.WebStands.{aside_segments, end_of_put, undecided_unwhole, time_response, WebGoes, goes_unwhole, web_goes, ongoing}
use Rattle.nb_openlaws.proofs.ExchangeReasons.{ComeAs, EndStands, ExchangeSo, IsTaken, datagrams_so}
use Rattle.nb_openlaws.proofs.SegmentReasons.{client_segments}
use Rattle.nb_openlaws.proofs.WebSendings.{WebAt, web_on, segments_reasons}
use Rattle.nb_openlaws.proofs.SessionExchanges.{drive_so}
use Rattle.nb_openlaws.proofs.WebEnds.{WebEnd, calls_with, answer_is, segment_stands, time_stands, end_stands, end_reasons}

-- THE EXCHANGE

-- an exchange, in a history that has what came then
record WebCome (es : List Event) (l : Live) (x : Exchange) (isn : ℕ) (c : Came NoTask) (p : Put) : Type 0 where
  client_is : client es ≡ x.link
  word : isn ≡ first_word (hardware es).identity l.number
  opening : openings l.number es ≡ opening_as (http isn) l ∷ []
  lives : open_has_ended l.number es ≡ false
  streams : brought_to l.number es ≡ streamed l.exchanges ++ c ∷ []
  tries_stand : try_marks_of l.number es ≡ (tries_at 1 l.since ∷ streamed_marks l.number l.exchanges) ++ comes_in (call_of c) ∷ []
  due : IsDue l.number es
  had_way : HadWay l.number es (opening_as (http isn) l)
  placed : last_place l.number es ≡ next (held_after isn (calls_after (request_at l.target) l.since (streamed l.exchanges)))
  others : (j : ℕ) → (l.number == j) ≡ false → last_place j es ≡ file_place j es
  puts_so : PutsSo (web_at l.target) isn l.since (talk_of (web_talking l.target) (connection_of isn l) l.exchanges) c p
  records : x.put ≡ put_records (connection_of isn l) x.link p
  goes : WebGoes isn l.since l.number (request_at l.target) l.exchanges

web_at_come : (es : List Event) (l : Live) (x : Exchange) (isn : ℕ) (c : Came NoTask) (p : Put) → WebCome es l x isn c p → WebAt es (opening_as (http isn) l) x.link (connection_of isn l) (calls_with l c)
web_at_come es l x isn c p w =
    let k = l.number in
    let o = opening_as (http isn) l in
    let word = first_word (hardware es).identity k in
    record {
      client_is = w.client_is;
      opening = w.opening;
      lives = w.lives;
      kind_is = refl;
      link_is = ap (λ z. record { own_port = l.own; peer = host l.server; peer_port = l.port; isn = z }) (sym w.word);
      calls_are = ap (λ z. (talk_by (hardware es) k o z).calls) w.streams ∙ said_once (request_at l.target) word l.since (streamed l.exchanges ++ c ∷ [])
          ∙ calls_more (request_at l.target) l.since (streamed l.exchanges) c;
    }

comes_so : (es : List Event) (l : Live) (x : Exchange) (isn : ℕ) (c : Came NoTask) (p : Put) → WebCome es l x isn c p → ((es2 : List Event) → WebEnd es2 l x.link isn c → time es2 ≡ time es → (p.sends ≡ [] → p.advance ≡ None → try_marks_of l.number es2 ≡ try_marks_of l.number es) → (one : Cause) → p.over ≡ Some one → EndStands l.number es2 (opening_as (http isn) l) one) →
    (p.over ≡ None → is_whole (response_come isn (calls_with l c)).verdict ≡ false) → ExchangeSo (http isn) es l x
comes_so es l x isn c p w own unwhole = record {
  reasons = subst (λ z. OpenReasons es z) (sym (append_assoc first second third) ∙ sym w.records) (reasons_then es first (second ++ third) place (reasons_then es1 second third sends (end_reasons es2 k o (talk_end conn x.link p) stands at2.opening at2.lives sends.after)));
  answers = λ why over. (stands why (sym (end_of_put conn x.link p) ∙ ap (end_among k) (sym w.records) ∙ over)).1 ∙ answer_is es2 l x.link isn all at2 word2 ∙ sym (answer_is es l x.link isn all at w.word);
}
  where
    k : ℕ
    k = l.number

    o : Opening
    o = opening_as (http isn) l

    conn : Connection
    conn = connection_of isn l

    before : List TcpCall
    before = calls_after (request_at l.target) l.since (streamed l.exchanges)

    all : List TcpCall
    all = before ++ call_of c ∷ []

    at : WebAt es o x.link conn all
    at = web_at_come es l x isn c p w

    well : PutsWell isn before all p
    well = web_well (request_at l.target) isn l.since (streamed l.exchanges) c p w.puts_so

    first : List Out
    first = advance_records k p.advance

    second : List Out
    second = segment_records conn x.link p.sends

    third : List Out
    third = end_records k (talk_end conn x.link p)

    es1 : List Event
    es1 = es ++ told first

    es2 : List Event
    es2 = es1 ++ told second

    now : file_place k es ≡ next (held_after isn all)
    now = stream_so k es o w.opening refl ∙ ap (λ cs. next (held_after (first_word (hardware es).identity k) cs)) at.calls_are ∙ ap (λ z. next (held_after z all)) (sym w.word)

    further : (n : ℕ) → p.advance ≡ Some n → IsFurther k es n
    further n is = record {
      grown = subst (λ z. z < n) (sym w.placed) (grown_some (next (held_after isn before)) (next (held_after isn all)) n well.further (sym well.place ∙ is));
      next_block = λ file. absurd (let no : true ≡ false = sym file ∙ ap (list_any opens_file) w.opening in cc);
    }

    place : OpenReasons es first
    place = advance_reasons es k (next (held_after isn before)) p.advance w.placed
        (ap (λ z. unwrap_or z (next (held_after isn before))) well.place ∙ grown_unwrap (next (held_after isn before)) (next (held_after isn all)) ∙ sym now) further w.others

    left1 : Kept es first
    left1 = kept es first (aside_advance k p.advance)

    left2 : Kept es1 second
    left2 = kept es1 second (aside_segments conn x.link p.sends)

    at1 : WebAt es1 o x.link conn all
    at1 = web_on es first o x.link conn all (aside_advance k p.advance) (client_advance es k p.advance) at

    at2 : WebAt es2 o x.link conn all
    at2 = web_on es1 second o x.link conn all (aside_segments conn x.link p.sends) (client_segments es1 conn x.link p.sends) at1

    sends : OpenReasons es1 second
    sends = segments_reasons es1 o x.link conn all p.sends place.after (due_told k es first w.due) at1 well.may well.tried

    same_hardware : hardware es2 ≡ hardware es
    same_hardware = left2.hardware_is ∙ left1.hardware_is

    word2 : isn ≡ first_word (hardware es2).identity k
    word2 = w.word ∙ ap (λ h. first_word h.identity k) (sym same_hardware)

    end : WebEnd es2 l x.link isn c
    end = record {
      stands = at2;
      streams = left2.came_is k ∙ left1.came_is k ∙ w.streams;
      had_way = way_stays k es1 es2 o (grown_by es1 (told second)) (way_stays k es es1 o (grown_by es (told first)) w.had_way);
      word = word2;
    }

    untold : p.sends ≡ [] → p.advance ≡ None → try_marks_of k es2 ≡ try_marks_of k es
    untold none still =
        ap (λ z. try_marks_of k (es1 ++ told (segment_records conn x.link z))) none ∙ ap (λ z. try_marks_of k z) (append-nil es1)
        ∙ ap (λ z. try_marks_of k (es ++ told (advance_records k z))) still ∙ ap (λ z. try_marks_of k z) (append-nil es)

    stands : (why : Cause) → talk_end conn x.link p ≡ Some why → EndStands k es2 o why
    stands why over = end_stands es2 l x.link isn c p why end (λ one is. own es2 end (left2.time_is ∙ left1.time_is) untold one is) unwhole over

-- a segment comes
segment_so : (es : List Event) (l : Live) (x : Exchange) (isn : ℕ) (m : Arrival) (now : ℕ) (p : Put) → WebCome es l x isn (by_segment m now) p → ExchangeSo (http isn) es l x
segment_so es l x isn m now p w =
    let request = request_at l.target in
    let before = calls_after request l.since (streamed l.exchanges) in
    let is = puts_once request isn l.since (streamed l.exchanges) m now p w.puts_so in
    let over = ap (λ (z : Put). z.over) is in
    comes_so es l x isn (by_segment m now) p w (λ es2 end at untold one so. segment_stands es2 l x.link isn m now one end w.goes (sym over ∙ so)) (λ none. undecided_unwhole m.rec _ (first_none _ _ (sym over ∙ none)))
  where
    first_none : (a b : Option Cause) → earlier a b ≡ None → a ≡ None
    first_none None b e = refl
    first_none (Some one) b e = absurd (cc)

-- a time comes
time_so : (es : List Event) (l : Live) (x : Exchange) (isn now : ℕ) (p : Put) → time es ≡ now → WebCome es l x isn (by_time now) p → ExchangeSo (http isn) es l x
time_so es l x isn now p at w = by w.puts_so.due refl
  where
    request : List ℕ
    request = request_at l.target

    before : List TcpCall
    before = calls_after request l.since (streamed l.exchanges)

    same : (talk_after (web_at l.target) isn l.since (streamed l.exchanges)).calls ≡ before
    same = said_once request isn l.since (streamed l.exchanges)

    fires : fired (timer_after isn l.since (before ++ time_came now ∷ [])) ≡ fired (timer_after isn l.since before) ++ due_fired now w.puts_so.due
    fires = subst (λ cs. fired (timer_after isn l.since (cs ++ time_came now ∷ [])) ≡ fired (timer_after isn l.since cs) ++ due_fired now w.puts_so.due) same w.puts_so.fires

    over : p.over ≡ due_end (timer_after isn l.since before).plan w.puts_so.due
    over = ap (λ (z : Put). z.over) w.puts_so.is ∙ ap (λ cs. due_end (timer_after isn l.since cs).plan w.puts_so.due) same

    unwhole : is_whole (response_come isn (before ++ time_came now ∷ [])).verdict ≡ false
    unwhole = ap (λ r. is_whole r.verdict) (time_response isn before now) ∙ goes_unwhole isn l.since l.number (request_at l.target) l.exchanges w.goes

    ends_by : (due : Due) → w.puts_so.due ≡ due → (es2 : List Event) → WebEnd es2 l x.link isn (by_time now) → time es2 ≡ time es → (p.sends ≡ [] → p.advance ≡ None → try_marks_of l.number es2 ≡ try_marks_of l.number es) → (one : Cause) → p.over ≡ Some one →
        EndStands l.number es2 (opening_as (http isn) l) one
    ends_by Not is es2 end same_time untold one so = absurd (let no : None ≡ Some one = sym (over ∙ ap (due_end (timer_after isn l.since before).plan) is) ∙ so in cc)
    ends_by (Again n) is es2 end same_time untold one so = absurd (let no : None ≡ Some one = sym (over ∙ ap (due_end (timer_after isn l.since before).plan) is) ∙ so in cc)
    ends_by Over is es2 end same_time untold one so =
        time_stands es2 l x.link isn now Over one end (same_time ∙ at)
        (untold (ap (λ (z : Put). z.sends) w.puts_so.is ∙ ap none_sent is) (ap (λ (z : Put). z.advance) w.puts_so.is) ∙ w.tries_stand)
        (fires ∙ ap (λ d. fired (timer_after isn l.since before) ++ due_fired now d) is) w.goes (sym (over ∙ ap (due_end (timer_after isn l.since before).plan) is) ∙ so)
      where
        none_sent : Due → Sends
        none_sent d = due_sends isn (phase_of isn (talk_of (web_talking l.target) (connection_of isn l) l.exchanges)) d

    by : (due : Due) → w.puts_so.due ≡ due → ExchangeSo (http isn) es l x
    by due is = comes_so es l x isn (by_time now) p w (ends_by due is) (λ none. unwhole)

web_so : (es : List Event) (l : Live) (x : Exchange) (isn : ℕ) → IsTaken x.came → ComeAs (http isn) es x.came l x.link → KeepsBy (http isn) l → KeepsBy (http isn) (continued l x) → AllByRecursion (IsOngoing (http isn) l.number l.own) l.exchanges → ExchangeSo (http isn) es l x
web_so es l x isn taken come before keeps going = by x.came taken come kept.puts
  where
    kept : KeepsAt (web_talking l.target) (connection_of isn l) l.exchanges x
    kept = last_exchange (KeepsAt (web_talking l.target) (connection_of isn l)) [] l.exchanges x keeps

    word : isn ≡ first_word (hardware es).identity l.number
    word = come.kind_is

    placed : last_place l.number es ≡ next (held_after isn (calls_after (request_at l.target) l.since (streamed l.exchanges)))
    placed = come.streamed_to refl ∙ ap (λ cs. next (held_after (first_word (hardware es).identity l.number) cs)) (said_once (request_at l.target) (first_word (hardware es).identity l.number) l.since (streamed l.exchanges))
        ∙ ap (λ z. next (held_after z (calls_after (request_at l.target) l.since (streamed l.exchanges)))) (sym word)

    comes : (input : OpenInput) (c : Came NoTask) → came_on input ≡ c ∷ [] → ComeAs (http isn) es input l x.link → IsDue l.number es → PutsSo (web_at l.target) isn l.since (talk_of (web_talking l.target) (connection_of isn l) l.exchanges) c kept.put → WebCome es l x isn c kept.put
    comes input c one at due puts_so = record {
      client_is = at.client_is;
      word = word;
      opening = at.opening;
      lives = at.lives;
      streams = at.streams ∙ ap (λ z. streamed l.exchanges ++ z) one;
      tries_stand = at.tries_stand ∙ ap (λ z. (tries_at 1 l.since ∷ streamed_marks l.number l.exchanges) ++ map (λ y. comes_in (call_of y)) z) one;
      due = due;
      had_way = at.had_way;
      placed = placed;
      others = at.others;
      puts_so = puts_so;
      records = kept.records;
      goes = web_goes l isn before (ongoing l.number l.own isn l.exchanges going);
    }

    by : (input : OpenInput) → IsTaken input → ComeAs (http isn) es input l x.link → PutsAt (web_talking l.target) (connection_of isn l) (talk_of (web_talking l.target) (connection_of isn l) l.exchanges) input kept.put → ExchangeSo (http isn) es l x
    by (message rec port body now) t at puts_so = absurd puts_so
    by (task x now) t at puts_so = absurd t
    by (close why) t at puts_so = absurd t
    by (tcp_segment rec g now) t at puts_so = segment_so es l x isn (arrived_segment rec g) now kept.put (comes (tcp_segment rec g now) (by_segment (arrived_segment rec g) now) refl at at.due puts_so)
    by (time_came_to now) t at puts_so = time_so es l x isn now kept.put at.now (comes (time_came_to now) (by_time now) refl at at.due puts_so)

-- of each kind
pub exchange_so : (kind : OpenKind) (es : List Event) (l : Live) (x : Exchange) → IsTaken x.came → ComeAs kind es x.came l x.link → KeepsBy kind l → KeepsBy kind (continued l x) → AllByRecursion (IsOngoing kind l.number l.own) l.exchanges → ComesToOwnPort kind l.own x.came →
    ExchangeSo kind es l x
exchange_so tftp es l x taken come before keeps going own = datagrams_so tftp es l x refl taken come before keeps going own
exchange_so (http isn) es l x taken come before keeps going own = web_so es l x isn taken come before keeps going
exchange_so (iscsi isn i) es l x taken come before keeps going own = drive_so es l x isn i taken come keeps
exchange_so (dns id) es l x taken come before keeps going own = datagrams_so (dns id) es l x refl taken come before keeps going own
exchange_so (dhcp a) es l x taken come before keeps going own = datagrams_so (dhcp a) es l x refl taken come before keeps going own
exchange_so ping es l x taken come before keeps going own = datagrams_so ping es l x refl taken come before keeps going own
