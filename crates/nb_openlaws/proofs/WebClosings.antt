-- An open that fetches by HTTP is closed from above: its segment and its end have their reasons.
use Rattle.std.proofs.Common.{◌≡◌, ℕ, false, List, [], ◌∷◌, ◌++◌, Some, None, refl, sym, ◌∙◌, ap, subst}
use Rattle.std.specs.List.{AllByRecursion}
use Rattle.nb_terms.specs.declared.cause.Cause.{Cause}
use Rattle.nb_defs.specs.Causes.{is_ok_cause}
use Rattle.nb_defs.specs.Records.{Out, ended}
use Rattle.nb_stack.specs.Sends.{put_on, way_of}
use Rattle.nb_streams.specs.Flows.{TcpCall, conn_phase}
use Rattle.nb_streams.specs.Sending.{without_try, closing_segment}
use Rattle.nb_command.specs.SettingAddresses.{host}
use Rattle.nb_machine.specs.Sendings.{has_route}
use Rattle.nb_machine.specs.Findings.{first_word}
use Rattle.nb_machine.specs.Lives.{http, close, Exchange, Live, continued}
use Rattle.nb_machine.specs.Kinds.{KeepsBy}
use Rattle.nb_machine.specs.Connections.{Connection, connection_of, talk_of, segment_records, put_records, PutsAt, KeepsAt}
use Rattle.nb_machine.specs.Webs.{request_at, web_talking}
use Rattle.nb_laws.specs.Events.{Event}
use Rattle.nb_laws.specs.Histories.{client}
use Rattle.nb_laws.specs.Lists.{hardware, Opening, openings, open_has_ended}
use Rattle.nb_laws.specs.Progress.{IsAdvanced}
use Rattle.nb_laws.specs.Webs.{brought_to, talk_by}
use Rattle.nb_laws.proofs.Tellings.{told, kept}
use Rattle.nb_openlaws.specs.Standings.{streamed, IsKindBy, IsOngoing}
use Rattle.nb_laws.specs.Endings.{WhyClosed}
use Rattle.nb_openlaws.specs.OpenEndings.{EndsBecause}
use Rattle.nb_openlaws.specs.OpenReasons.{OpenReasons}
use Rattle.nb_openlaws.proofs.OpenRecords.{IsFrame, frame_by, last_exchange}
use Rattle.nb_openlaws.proofs.Sendings.{reasons_then}
use Rattle.nb_openlaws.proofs.KindFacts.{opening_as}
use Rattle.nb_openlaws.proofs.Requests.{calls_after, said_once}
use Rattle.nb_openlaws.proofs.WebStands.{aside_segments, WebGoes, goes_unwhole, web_goes, ongoing}
use Rattle.nb_openlaws.proofs.ExchangeReasons.{ended_reasons}
use Rattle.nb_openlaws.proofs.SegmentReasons.{client_segments}
use Rattle.nb_openlaws.proofs.WebSendings.{WebAt, web_on, closing_of, closing_frame}
use Rattle.nb_openlaws.proofs.WebEnds.{answer_is}

-- one is closed: its segment, and its end with this cause
pub web_closes : (es : List Event) (l : Live) (x : Exchange) (isn : ℕ) (why : Cause) → x.came ≡ close why → is_ok_cause why ≡ false → client es ≡ x.link → IsKindBy (hardware es) l.number (http isn) (opening_as (http isn) l) →
    openings l.number es ≡ opening_as (http isn) l ∷ [] → open_has_ended l.number es ≡ false → brought_to l.number es ≡ streamed l.exchanges → KeepsBy (http isn) l → KeepsBy (http isn) (continued l x) → AllByRecursion (IsOngoing (http isn) l.number l.own) l.exchanges →
    IsAdvanced es → WhyClosed es → ((ends : List Out) → AllByRecursion IsFrame ends → EndsBecause l.number (es ++ told ends) why) → OpenReasons es x.put
web_closes es l x isn why came bad same is opening lives streams before keeps going a closed ends =
    subst (λ z. OpenReasons es z) (sym put_is)
    (reasons_then es frames (ended k why ∷ []) first (ended_reasons (es ++ told frames) k o why (ends frames alone, bad ∙ sym (answer_is (es ++ told frames) l x.link isn all at2 word2 ∙ goes_unwhole isn l.since k (request_at l.target) l.exchanges goes)) at2.opening at2.lives first.after))
  where
    k : ℕ
    k = l.number

    o : Opening
    o = opening_as (http isn) l

    conn : Connection
    conn = connection_of isn l

    all : List TcpCall
    all = calls_after (request_at l.target) l.since (streamed l.exchanges)

    at : WebAt es o x.link conn all
    at = record {
      client_is = same;
      opening = opening;
      lives = lives;
      kind_is = refl;
      link_is = ap (λ z. record { own_port = l.own; peer = host l.server; peer_port = l.port; isn = z }) (sym is);
      calls_are = ap (λ z. (talk_by (hardware es) k o z).calls) streams ∙ said_once (request_at l.target) (first_word (hardware es).identity k) l.since (streamed l.exchanges);
    }

    goes : WebGoes isn l.since k (request_at l.target) l.exchanges
    goes = web_goes l isn before (ongoing k l.own isn l.exchanges going)

    kept_so : KeepsAt (web_talking l.target) conn l.exchanges x
    kept_so = last_exchange (KeepsAt (web_talking l.target) conn) [] l.exchanges x keeps

    put : kept_so.put ≡ record { advance = None; sends = without_try (closing_segment isn (conn_phase isn all)) ∷ []; over = Some why }
    put = subst (λ z. PutsAt (web_talking l.target) conn (talk_of (web_talking l.target) conn l.exchanges) z kept_so.put) came kept_so.puts
        ∙ ap (λ cs. record { advance = None; sends = without_try (closing_segment isn (conn_phase isn cs)) ∷ []; over = Some why }) (said_once (request_at l.target) isn l.since (streamed l.exchanges))

    frames : List Out
    frames = segment_records conn x.link (without_try (closing_segment isn (conn_phase isn all)) ∷ [])

    put_is : x.put ≡ frames ++ ended k why ∷ []
    put_is = kept_so.records ∙ ap (put_records conn x.link) put

    alone : AllByRecursion IsFrame frames
    alone = frame_by (has_route x.link (closing_of conn all)) (put_on x.link (closing_of conn all) (way_of x.link (closing_of conn all)))

    first : OpenReasons es frames
    first = closing_frame es o x.link conn all a closed at

    at2 : WebAt (es ++ told frames) o x.link conn all
    at2 = web_on es frames o x.link conn all (aside_segments conn x.link (without_try (closing_segment isn (conn_phase isn all)) ∷ [])) (client_segments es conn x.link (without_try (closing_segment isn (conn_phase isn all)) ∷ [])) at

    word2 : isn ≡ first_word (hardware (es ++ told frames)).identity k
    word2 = is ∙ ap (λ h. first_word h.identity k) (sym (kept es frames (aside_segments conn x.link (without_try (closing_segment isn (conn_phase isn all)) ∷ []))).hardware_is)
