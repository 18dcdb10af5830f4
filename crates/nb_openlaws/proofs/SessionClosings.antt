-- A drive's session is closed from above: its segment and its end have their reasons.
use Rattle.std.proofs.Common.{◌≡◌, ℕ, false, List, [], ◌∷◌, ◌++◌, Some, None, refl, sym, ◌∙◌, ap, subst, append-nil}
use Rattle.std.specs.List.{AllByRecursion}
use Rattle.nb_terms.specs.declared.cause.Cause.{Cause}
use Rattle.nb_defs.specs.Causes.{is_ok_cause}
use Rattle.nb_defs.specs.Records.{Out, ended}
use Rattle.nb_stack.specs.Sends.{put_on, way_of}
use Rattle.nb_streams.specs.Flows.{conn_phase}
use Rattle.nb_streams.specs.Sending.{without_try, closing_segment}
use Rattle.nb_talks.specs.Talking.{Talk}
use Rattle.nb_login.specs.declared.info.LoginInfo.{LoginInfo}
use Rattle.nb_sans.specs.Sessions.{ReadTask}
use Rattle.nb_command.specs.SettingAddresses.{host}
use Rattle.nb_machine.specs.Sendings.{has_route}
use Rattle.nb_machine.specs.Lives.{iscsi, close, Exchange, Live, continued}
use Rattle.nb_machine.specs.Kinds.{KeepsBy}
use Rattle.nb_machine.specs.Connections.{Connection, connection_of, segment_records, put_records, PutsAt, KeepsAt}
use Rattle.nb_machine.specs.Drives.{session_talking, session_of}
use Rattle.nb_laws.specs.Drives.{SessionOpening, session_so_far}
use Rattle.nb_laws.specs.Events.{Event}
use Rattle.nb_laws.specs.Histories.{client}
use Rattle.nb_laws.specs.Lists.{hardware, Opening, openings, open_has_ended}
use Rattle.nb_laws.specs.Progress.{IsAdvanced}
use Rattle.nb_laws.proofs.Tellings.{told}
use Rattle.nb_openlaws.specs.Standings.{IsKindBy}
use Rattle.nb_openlaws.specs.Sessions.{session_of_live, SessionAgrees}
use Rattle.nb_openlaws.specs.OpenEndings.{EndsBecause}
use Rattle.nb_openlaws.specs.OpenReasons.{OpenReasons}
use Rattle.nb_openlaws.proofs.OpenRecords.{IsFrame, frame_by, last_exchange, of_segments, are_no_command}
use Rattle.nb_openlaws.proofs.Sendings.{reasons_then}
use Rattle.nb_openlaws.proofs.KindFacts.{opening_as}
use Rattle.nb_openlaws.proofs.WebStands.{aside_segments}
use Rattle.nb_openlaws.proofs.WebSendings.{closing_of}
use Rattle.nb_openlaws.proofs.ExchangeReasons.{ended_reasons}
use Rattle.nb_openlaws.proofs.SegmentReasons.{client_segments}
use Rattle.nb_openlaws.proofs.SessionSendings.{SessionAt, session_on, session_closing, WhyDriveCloses}

-- one is closed: its segment, and its end with this cause
pub drive_closes : (es : List Event) (l : Live) (x : Exchange) (isn : ℕ) (i : LoginInfo) (why : Cause) → x.came ≡ close why → is_ok_cause why ≡ false → client es ≡ x.link → IsKindBy (hardware es) l.number (iscsi isn i) (opening_as (iscsi isn i) l) →
    openings l.number es ≡ opening_as (iscsi isn i) l ∷ [] → open_has_ended l.number es ≡ false → SessionAgrees es l isn i → KeepsBy (iscsi isn i) (continued l x) → IsAdvanced es → WhyDriveCloses l.number es →
    ((ends : List Out) → AllByRecursion IsFrame ends → EndsBecause l.number (es ++ told ends) why) → OpenReasons es x.put
drive_closes es l x isn i why came bad same is opening lives agrees keeps a closed ends =
    subst (λ z. OpenReasons es z) (sym put_is)
    (reasons_then es frames (ended k why ∷ []) first (ended_reasons (es ++ told frames) k o why (ends frames alone, bad) at2.opening at2.lives first.after))
  where
    k : ℕ
    k = l.number

    o : Opening
    o = opening_as (iscsi isn i) l

    s : SessionOpening
    s = session_of_live l i agrees.boots

    conn : Connection
    conn = connection_of isn l

    d : Talk ReadTask
    d = session_of isn i l

    full : (session_so_far k s es).calls ≡ d.calls
    full = ap (λ (z : Talk ReadTask). z.calls) agrees.talk

    at : SessionAt es o x.link conn s d.calls
    at = record {
      client_is = same;
      opening = opening;
      lives = lives;
      kind_is = refl;
      session = agrees.is;
      link_is = ap (λ z. record { own_port = l.own; peer = host l.server; peer_port = l.port; isn = z }) (sym is);
      texts = [];
      now = 0;
      calls_are = full ∙ sym (append-nil d.calls);
    }

    kept_so : KeepsAt (session_talking i) conn l.exchanges x
    kept_so = last_exchange (KeepsAt (session_talking i) conn) [] l.exchanges x keeps

    put : kept_so.put ≡ record { advance = None; sends = without_try (closing_segment isn (conn_phase isn d.calls)) ∷ []; over = Some why }
    put = subst (λ z. PutsAt (session_talking i) conn d z kept_so.put) came kept_so.puts

    frames : List Out
    frames = segment_records conn x.link (without_try (closing_segment isn (conn_phase isn d.calls)) ∷ [])

    put_is : x.put ≡ frames ++ ended k why ∷ []
    put_is = kept_so.records ∙ ap (put_records conn x.link) put

    alone : AllByRecursion IsFrame frames
    alone = frame_by (has_route x.link (closing_of conn d.calls)) (put_on x.link (closing_of conn d.calls) (way_of x.link (closing_of conn d.calls)))

    first : OpenReasons es frames
    first = session_closing es o x.link conn s d.calls a closed at full

    at2 : SessionAt (es ++ told frames) o x.link conn s d.calls
    at2 = session_on es frames o x.link conn s d.calls (aside_segments conn x.link (without_try (closing_segment isn (conn_phase isn d.calls)) ∷ []))
        (are_no_command k frames (of_segments conn x.link (without_try (closing_segment isn (conn_phase isn d.calls)) ∷ []))) (client_segments es conn x.link (without_try (closing_segment isn (conn_phase isn d.calls)) ∷ [])) at
