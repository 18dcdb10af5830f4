-- An open is made: its OPEN, and its first message or its end where it finds no way.
use Rattle.std.proofs.Common.{◌≡◌, ℕ, Bool, true, false, cond, List, [], ◌∷◌, ◌++◌, Some, None, refl, sym, ◌∙◌, ap, subst, append-nil, arith}
use Rattle.std.specs.List.{flat_map}
use Rattle.std.proofs.lemmas.Option.{none-some, same_Some}
use Rattle.std.proofs.Math.Bool.{or-false}
use Rattle.nb_defs.specs.Records.{Out}
use Rattle.nb_stack.specs.Client.{Client}
use Rattle.nb_stack.specs.declared.taken.Fate.TheVariants as fate
use Rattle.nb_dns.specs.Lookups.{query_to, lookup}
use Rattle.nb_dhcp.specs.Acting.{to_servers}
use Rattle.nb_dhcp.specs.Messages.{message_text}
use Rattle.nb_tftp.specs.Asked.{requests}
use Rattle.nb_tftp.specs.History.{received_by}
use Rattle.nb_command.specs.SettingAddresses.{host}
use Rattle.nb_machine.specs.Sendings.{has_route, send_records}
use Rattle.nb_machine.specs.CommandRecords.{no_route}
use Rattle.nb_machine.specs.Lives.{OpenKind, tftp, http, iscsi, dns, dhcp, ping, kind_number, Live, open_record, end_record}
use Rattle.nb_machine.specs.Findings.{first_word}
use Rattle.nb_machine.specs.Connections.{connection_of}
use Rattle.nb_machine.specs.Webs.{request_at}
use Rattle.nb_streams.specs.Flows.{conn_phase, asking}
use Rattle.nb_talks.specs.Talking.{unsaid, begun_talk}
use Rattle.nb_login.specs.declared.info.LoginInfo.{LoginInfo}
use Rattle.nb_sans.specs.Sessions.{session_talker}
use Rattle.nb_streams.specs.Sending.{syn, tried_again, by_asking}
use Rattle.nb_readings.specs.Ends.{is_whole}
use Rattle.nb_webs.specs.Webs.{response_come}
use Rattle.nb_machine.specs.Kinds.{first_records, is_connection}
use Rattle.nb_machine.specs.States.{State}
use Rattle.nb_laws.specs.Drives.{session_by, came_to_session}
use Rattle.nb_laws.proofs.Tellings.{came_session_more}
use Rattle.nb_openlaws.specs.Sessions.{session_of_live}
use Rattle.nb_openlaws.proofs.SessionBegins.{unopened_came}
use Rattle.nb_laws.specs.Events.{Event, puts}
use Rattle.nb_laws.specs.Histories.{client}
use Rattle.nb_laws.specs.Lists.{Hardware, hardware, openings, open_has_ended, calls, datagrams_of}
use Rattle.nb_laws.specs.Webs.{brought_to, talk_by}
use Rattle.nb_laws.specs.Cores.{answers_open, has_its_answer}
use Rattle.nb_laws.specs.Endings.{fate_to, Holds, by_no_route}
use Rattle.nb_laws.specs.Frames.{MayAskFor, by_transfer, by_look_up, by_discover, by_ping, IsDue, by_opening}
use Rattle.nb_laws.specs.Progress.{IsAdvanced}
use Rattle.nb_laws.proofs.Histories.{client_put, hardware_more}
use Rattle.nb_laws.proofs.Tellings.{advanced_open, calls_more, came_more, over_more}
use Rattle.nb_openlaws.specs.Standings.{live_opening, IsKindBy, HasLogin, AgreesState}
use Rattle.nb_openlaws.specs.OpenEndings.{by_itself}
use Rattle.nb_openlaws.specs.OpenReasons.{OpenReasons}
use Rattle.nb_openlaws.proofs.UsedEvents.{live_one}
use Rattle.nb_openlaws.proofs.Sendings.{reasons_then, NewestBy, send_reasons}
use Rattle.nb_openlaws.proofs.Requests.{calls_after, said_once}
use Rattle.nb_openlaws.proofs.WebStands.{begins_well, goes_unwhole}
use Rattle.nb_openlaws.proofs.WebSendings.{segment_reasons}
use Rattle.nb_openlaws.proofs.SessionSendings.{session_reason}
use Rattle.nb_openlaws.proofs.KindFacts.{opening_as, first_of, no_way_as}
use Rattle.nb_openlaws.proofs.OpenStates.{IsNext, SaysSettings, opens_here, hardware_now, opens_login}
use Rattle.nb_openlaws.proofs.Closings.{ended_advanced}

-- ITS FIRST MESSAGE

first_may : (kind : OpenKind) (hw : Hardware) (l : Live) → is_connection kind ≡ false → IsKindBy hw l.number kind (opening_as kind l) → MayAskFor hw l.number (opening_as kind l) [] (first_of kind l)
first_may tftp hw l plain is = by_transfer refl (requests refl refl)
first_may (http isn) hw l plain is = absurd (cc)
first_may (iscsi isn i) hw l plain is = absurd (cc)
first_may (dns id) hw l plain is = by_look_up refl tt (ap (λ n. query_to (lookup (host l.server) l.own n l.target)) is.0)
first_may (dhcp a) hw l plain is = by_discover refl tt (ap (λ z. to_servers (message_text z None)) is.0)
first_may ping hw l plain is = by_ping refl refl refl

first_newest : (kind : OpenKind) (l : Live) → is_connection kind ≡ false → NewestBy (opening_as kind l) [] (first_of kind l)
first_newest tftp l plain = λ file. refl
first_newest (http isn) l plain = absurd (cc)
first_newest (iscsi isn i) l plain = absurd (cc)
first_newest (dns id) l plain = λ file. absurd (omega (arith, file))
first_newest (dhcp a) l plain = λ file. absurd (omega (arith, file))
first_newest ping l plain = λ file. absurd (omega (arith, file))

-- nothing has come
asks_first : (isn start : ℕ) (request : List ℕ) → (text : List ℕ) × (conn_phase isn (calls_after request start []) ≡ asking text)
unfolding conn_phase
asks_first isn start [] = ([], refl)
asks_first isn start (b ∷ bytes) = (b ∷ bytes, refl)

first_unanswered : (kind : OpenKind) (es : List Event) (l : Live) → IsKindBy (hardware es) l.number kind (opening_as kind l) → datagrams_of l.number es ≡ [] → brought_to l.number es ≡ [] → has_its_answer l.number (opening_as kind l) es ≡ false
first_unanswered tftp es l is none unstreamed = ap (answers_open (hardware es) l.number (opening_as tftp l)) none
first_unanswered (http isn) es l is none unstreamed =
    let word = first_word (hardware es).identity l.number in
    ap (λ cs. is_whole (response_come word cs).verdict) (ap (λ z. (talk_by (hardware es) l.number (opening_as (http isn) l) z).calls) unstreamed ∙ said_once (request_at l.target) word l.since [])
    ∙ goes_unwhole word l.since l.number (request_at l.target) [] (begins_well word l.since l.number (request_at l.target))
first_unanswered (iscsi isn i) es l is none unstreamed = refl
first_unanswered (dns id) es l is none unstreamed = ap (answers_open (hardware es) l.number (opening_as (dns id) l)) none
first_unanswered (dhcp a) es l is none unstreamed = ap (answers_open (hardware es) l.number (opening_as (dhcp a) l)) none
first_unanswered ping es l is none unstreamed = ap (answers_open (hardware es) l.number (opening_as ping l)) none

-- AFTER ITS OPEN

-- the next open of this state, over this client
pub record Opens (es : List Event) (s : State) (l : Live) (link : Client) : Type 0 where
  pub next : IsNext s l
  pub settings : SaysSettings es s l.kind
  pub base : AgreesState es s
  pub client_is : client es ≡ link
  pub advanced : IsAdvanced es

none_called : (es : List Event) (s : State) (l : Live) (link : Client) → Opens es s l link → calls l.number es ≡ []
none_called es s l link o = (o.base.untold l.number (omega (arith, o.next.number_is, o.base.opens))).0

kind_then : (es : List Event) (s : State) (l : Live) (link : Client) → Opens es s l link → IsKindBy (hardware (es ++ puts (open_record l) ∷ [])) l.number l.kind (live_opening l)
kind_then es s l link o = subst (λ z. IsKindBy z l.number l.kind (live_opening l)) (hardware_now es s o.base ∙ sym (hardware_more es (puts (open_record l)))) o.next.kind_is

none_streamed : (es : List Event) (s : State) (l : Live) (link : Client) → Opens es s l link → brought_to l.number (es ++ puts (open_record l) ∷ []) ≡ []
none_streamed es s l link o = came_more l.number es (puts (open_record l)) ∙ append-nil (brought_to l.number es) ∙ (o.base.unstreamed l.number (omega (arith, o.next.number_is, o.base.opens))).0

none_asked : (es : List Event) (s : State) (l : Live) (link : Client) → Opens es s l link → came_to_session l.number (es ++ puts (open_record l) ∷ []) ≡ []
none_asked es s l link o =
    came_session_more l.number es (puts (open_record l)) ∙ append-nil (came_to_session l.number es) ∙ unopened_came l.number es (o.base.unopened l.number (omega (arith, o.next.number_is, o.base.opens)))

-- what the history says of it then
record OpenedSo (es : List Event) (l : Live) (link : Client) : Type 0 where
  client_is : client es ≡ link
  opening : openings l.number es ≡ live_opening l ∷ []
  lives : open_has_ended l.number es ≡ false
  received : datagrams_of l.number es ≡ []
  streams : brought_to l.number es ≡ []
  due : IsDue l.number es

opened_so : (es : List Event) (s : State) (l : Live) (link : Client) → Opens es s l link → OpenedSo (es ++ puts (open_record l) ∷ []) l link
opened_so es s l link o =
    let e = puts (open_record l) in
    let k = l.number in
    record {
      client_is = client_put es (open_record l) refl ∙ o.client_is;
      opening = opens_here es s l o.next o.base;
      lives = over_more k es e ∙ or-false (open_has_ended k es) ∙ o.base.unended k (omega (arith, o.next.number_is, o.base.opens));
      received = ap (λ z. flat_map received_by z) (calls_more k es e ∙ append-nil (calls k es) ∙ none_called es s l link o);
      streams = none_streamed es s l link o;
      due = by_opening es (kind_number l.kind) l.server l.port l.own l.target;
    }

open_reasons : (es : List Event) (s : State) (l : Live) (link : Client) → Opens es s l link → OpenReasons es (open_record l ∷ [])
open_reasons es s l link o = record {
  ends = (tt, tt);
  frames = (tt, tt);
  advances = (o.advanced, tt);
  tries = (tt, tt);
  after = advanced_open es l.number (kind_number l.kind) l.server l.port l.own l.target (none_called es s l link o) (o.base.unstreamed l.number (omega (arith, o.next.number_is, o.base.opens))).0 o.advanced;
}

-- it begins: OPEN, and its first message
either_sent : (es : List Event) (b : Bool) (x put : List Out) → cond b (Some x) None ≡ Some put → OpenReasons es x → OpenReasons es put
either_sent es true x put is r = subst (OpenReasons es) (same_Some x put is) r
either_sent es false x put is r = absurd (none-some put is)

-- its first message, by its kind, with what the history says of it
datagrams_begin : (kind : OpenKind) (es : List Event) (l : Live) (link : Client) → is_connection kind ≡ false → client es ≡ link → openings l.number es ≡ opening_as kind l ∷ [] → open_has_ended l.number es ≡ false → datagrams_of l.number es ≡ [] →
    IsDue l.number es → IsKindBy (hardware es) l.number kind (opening_as kind l) → IsAdvanced es → OpenReasons es (send_records link l.number (Some 1) (first_of kind l))
datagrams_begin kind es l link plain same opening lives received due is a =
    send_reasons es link l.number (opening_as kind l) (Some 1) (first_of kind l) [] a (record { client_is = same; opening = opening; lives = lives; received = received; due = due; no_stream = not_streamed kind plain; no_session = no_drive kind plain })
    (first_may kind (hardware es) l plain is) (λ n tries. first_newest kind l plain)
  where
    not_streamed : (z : OpenKind) → is_connection z ≡ false → (opening_as z l).kind ≡ 2 → ⊥
    not_streamed tftp none e = omega (arith, e)
    not_streamed (http isn) none e = absurd (cc)
    not_streamed (iscsi isn i) none e = absurd (cc)
    not_streamed (dns id) none e = omega (arith, e)
    not_streamed (dhcp a) none e = omega (arith, e)
    not_streamed ping none e = omega (arith, e)

    no_drive : (z : OpenKind) → is_connection z ≡ false → (opening_as z l).kind ≡ 3 → ⊥
    no_drive tftp none e = omega (arith, e)
    no_drive (http isn) none e = absurd (cc)
    no_drive (iscsi isn i) none e = absurd (cc)
    no_drive (dns id) none e = omega (arith, e)
    no_drive (dhcp a) none e = omega (arith, e)
    no_drive ping none e = omega (arith, e)

web_begins : (es : List Event) (l : Live) (link : Client) (isn : ℕ) → client es ≡ link → openings l.number es ≡ opening_as (http isn) l ∷ [] → open_has_ended l.number es ≡ false → brought_to l.number es ≡ [] → IsDue l.number es →
    IsKindBy (hardware es) l.number (http isn) (opening_as (http isn) l) → IsAdvanced es → OpenReasons es (send_records link l.number (Some 1) (first_of (http isn) l))
web_begins es l link isn same opening lives streams due is a =
    let request = request_at l.target in
    let at = asks_first isn l.since request in
    segment_reasons es (opening_as (http isn) l) link (connection_of isn l) (calls_after request l.since []) (syn isn) (Some 1) a due (record {
      client_is = same;
      opening = opening;
      lives = lives;
      kind_is = refl;
      link_is = ap (λ z. record { own_port = l.own; peer = host l.server; peer_port = l.port; isn = z }) (sym is);
      calls_are = ap (λ z. (talk_by (hardware es) l.number (opening_as (http isn) l) z).calls) streams ∙ said_once request (first_word (hardware es).identity l.number) l.since [];
    }) (by_asking at.0 at.1 refl) (λ n tries. ap (tried_again isn) (sym at.1))

-- nothing has come to a session, whatever it has said
bare_asks : (isn : ℕ) → conn_phase isn [] ≡ asking []
unfolding conn_phase
bare_asks isn = refl

drive_begins : (es : List Event) (l : Live) (link : Client) (isn : ℕ) (i : LoginInfo) → client es ≡ link → openings l.number es ≡ opening_as (iscsi isn i) l ∷ [] → open_has_ended l.number es ≡ false → came_to_session l.number es ≡ [] →
    IsDue l.number es →
    IsKindBy (hardware es) l.number (iscsi isn i) (opening_as (iscsi isn i) l) → HasLogin l.number es (iscsi isn i) (opening_as (iscsi isn i) l) → IsAdvanced es → OpenReasons es (send_records link l.number (Some 1) (first_of (iscsi isn i) l))
drive_begins es l link isn i same opening lives came due is login a =
    session_reason es (opening_as (iscsi isn i) l) link (connection_of isn l) (session_of_live l i login.0) [] (syn isn) (Some 1) a due (record {
      client_is = same;
      opening = opening;
      lives = lives;
      kind_is = refl;
      session = login.1;
      link_is = ap (λ z. record { own_port = l.own; peer = host l.server; peer_port = l.port; isn = z }) (sym is);
      texts = unsaid (session_talker i) (first_word (hardware es).identity l.number) (record { calls = []; tasks = [] }) ∷ [];
      now = l.since;
      calls_are = ap (λ z. (session_by (hardware es) l.number (session_of_live l i login.0) z).calls) came ∙ sym (append-nil (begun_talk (session_talker i) (first_word (hardware es).identity l.number) l.since).calls);
    }) (by_asking [] (bare_asks isn) refl) (λ n tries. ap (tried_again isn) (sym (bare_asks isn)))

kind_begins : (kind : OpenKind) (es : List Event) (l : Live) (link : Client) → client es ≡ link → openings l.number es ≡ opening_as kind l ∷ [] → open_has_ended l.number es ≡ false → datagrams_of l.number es ≡ [] → brought_to l.number es ≡ [] →
    came_to_session l.number es ≡ [] → IsDue l.number es →
    IsKindBy (hardware es) l.number kind (opening_as kind l) → HasLogin l.number es kind (opening_as kind l) → IsAdvanced es → OpenReasons es (send_records link l.number (Some 1) (first_of kind l))
kind_begins tftp es l link same opening lives received streams came due is login a = datagrams_begin tftp es l link refl same opening lives received due is a
kind_begins (http isn) es l link same opening lives received streams came due is login a = web_begins es l link isn same opening lives streams due is a
kind_begins (iscsi isn i) es l link same opening lives received streams came due is login a = drive_begins es l link isn i same opening lives came due is login a
kind_begins (dns id) es l link same opening lives received streams came due is login a = datagrams_begin (dns id) es l link refl same opening lives received due is a
kind_begins (dhcp b) es l link same opening lives received streams came due is login a = datagrams_begin (dhcp b) es l link refl same opening lives received due is a
kind_begins ping es l link same opening lives received streams came due is login a = datagrams_begin ping es l link refl same opening lives received due is a

pub begins_reasons : (es : List Event) (s : State) (l : Live) (link : Client) (put : List Out) → Opens es s l link → first_records l.kind l link ≡ Some put → OpenReasons es (open_record l ∷ put)
begins_reasons es s l link put o first =
    let es1 = es ++ puts (open_record l) ∷ [] in
    let r = open_reasons es s l link o in
    let m = opened_so es s l link o in
    let sends = kind_begins l.kind es1 l link m.client_is m.opening m.lives m.received m.streams (none_asked es s l link o) m.due (kind_then es s l link o) (opens_login es s l o.next o.settings o.base) r.after in
    reasons_then es (open_record l ∷ []) put r (by es1 l.kind first sends)
  where
    by : (es1 : List Event) (kind : OpenKind) → first_records kind l link ≡ Some put → OpenReasons es1 (send_records link l.number (Some 1) (first_of kind l)) → OpenReasons es1 put
    by es1 tftp is r = either_sent es1 (has_route link (first_of tftp l)) (send_records link l.number (Some 1) (first_of tftp l)) put is r
    by es1 (http isn) is r = either_sent es1 (has_route link (first_of (http isn) l)) (send_records link l.number (Some 1) (first_of (http isn) l)) put is r
    by es1 (iscsi isn i) is r = either_sent es1 (has_route link (first_of (iscsi isn i) l)) (send_records link l.number (Some 1) (first_of (iscsi isn i) l)) put is r
    by es1 (dns id) is r = either_sent es1 (has_route link (first_of (dns id) l)) (send_records link l.number (Some 1) (first_of (dns id) l)) put is r
    by es1 (dhcp a) is r = either_sent es1 (has_route link (first_of (dhcp a) l)) (send_records link l.number (Some 1) (first_of (dhcp a) l)) put is r
    by es1 ping is r = either_sent es1 (has_route link (first_of ping l)) (send_records link l.number (Some 1) (first_of ping l)) put is r

-- IT FINDS NO WAY

either_lost : {A : Type 0} (b : Bool) (x : A) → cond b (Some x) None ≡ None → b ≡ false
either_lost true x is = absurd (none-some x (sym is))
either_lost false x is = refl

lost : (l : Live) (link : Client) → first_records l.kind l link ≡ None → has_route link (first_of l.kind l) ≡ false
lost l link is = by l.kind is
  where
    by : (kind : OpenKind) → first_records kind l link ≡ None → has_route link (first_of kind l) ≡ false
    by tftp is = either_lost (has_route link (first_of tftp l)) (send_records link l.number (Some 1) (first_of tftp l)) is
    by (http isn) is = either_lost (has_route link (first_of (http isn) l)) (send_records link l.number (Some 1) (first_of (http isn) l)) is
    by (iscsi isn i) is = either_lost (has_route link (first_of (iscsi isn i) l)) (send_records link l.number (Some 1) (first_of (iscsi isn i) l)) is
    by (dns id) is = either_lost (has_route link (first_of (dns id) l)) (send_records link l.number (Some 1) (first_of (dns id) l)) is
    by (dhcp a) is = either_lost (has_route link (first_of (dhcp a) l)) (send_records link l.number (Some 1) (first_of (dhcp a) l)) is
    by ping is = either_lost (has_route link (first_of ping l)) (send_records link l.number (Some 1) (first_of ping l)) is

-- OPEN, and its end
pub lost_reasons : (es : List Event) (s : State) (l : Live) (link : Client) → Opens es s l link → first_records l.kind l link ≡ None → OpenReasons es (open_record l ∷ end_record l (no_route l.server) ∷ [])
lost_reasons es s l link o none =
    let k = l.number in
    let cause = no_route l.server in
    let es1 = es ++ puts (open_record l) ∷ [] in
    let r = open_reasons es s l link o in
    let m = opened_so es s l link o in
    let holds : Holds k es1 cause = by_no_route (live_opening l) m.opening refl (subst (λ (c : Client). fate_to c (live_opening l) ≡ fate.NoRoute) (sym m.client_is) (no_way_as l.kind (hardware es1) l link (kind_then es s l link o) (lost l link none)))
    (record { before = es; kind = kind_number l.kind; server = l.server; port = l.port; own = l.own; target = l.target; last = refl }) in
    reasons_then es (open_record l ∷ []) (end_record l cause ∷ []) r (record {
      ends = ((by_itself holds, live_opening l, live_one k es1 (live_opening l) m.opening m.lives, sym (first_unanswered l.kind es1 l (kind_then es s l link o) m.received m.streams)), tt);
      frames = (tt, tt);
      advances = (r.after, tt);
      tries = (tt, tt);
      after = ended_advanced es1 k cause r.after;
    })
