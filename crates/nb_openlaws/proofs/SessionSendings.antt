-- What a drive's session sends: each segment, and what closes it, has its reasons.
use Rattle.std.proofs.Common.{◌≡◌, ℕ, List, [], ◌∷◌, ◌++◌, Option, None, refl, sym, ◌∙◌, ap, subst, append-nil, arith, false}
use Rattle.std.specs.List.{AllByRecursion}
use Rattle.nb_terms.specs.declared.acts.SendTo.{SendTo}
use Rattle.nb_defs.specs.Records.{Out, sent}
use Rattle.nb_stack.specs.Client.{Client}
use Rattle.nb_stack.specs.Sends.{put_on, way_of}
use Rattle.nb_streams.specs.Flows.{TcpCall, conn_phase}
use Rattle.nb_streams.specs.Sending.{Outgoing, MaySend, without_try, closing_segment, tried_again}
use Rattle.nb_talks.specs.Talking.{Talk, text_calls}
use Rattle.nb_sans.specs.Sessions.{ReadTask}
use Rattle.nb_talks.specs.TalkPromises.{Sends}
use Rattle.nb_streams.proofs.OtherSendLaws.{closing_may}
use Rattle.nb_tcp.specs.declared.link.Link.{Link}
use Rattle.nb_tcp.specs.Messages.{outgoing_message}
use Rattle.nb_tcp.specs.MayBeSent.{MayBeSent}
use Rattle.nb_machine.specs.Sendings.{has_route, send_records}
use Rattle.nb_machine.specs.Connections.{Connection, segment_records}
use Rattle.nb_laws.specs.Agreement.{AreAside}
use Rattle.nb_laws.specs.Drives.{SessionOpening, sessions, session_so_far, AreItsCalls, ClosesSession}
use Rattle.nb_laws.specs.Events.{Event}
use Rattle.nb_laws.specs.Frames.{IsSent, as_said, IsMessageTried, IsDue, by_unhooking}
use Rattle.nb_laws.specs.Histories.{client}
use Rattle.nb_laws.specs.Lists.{hardware, Opening, openings, open_has_ended}
use Rattle.nb_laws.specs.Progress.{IsAdvanced}
use Rattle.nb_laws.specs.Webs.{connection_link}
use Rattle.nb_laws.proofs.DriveEvents.{told_nothing}
use Rattle.nb_laws.proofs.DriveTalks.{IsNoCommand}
use Rattle.nb_laws.proofs.Tellings.{told, kept, still_advanced}
use Rattle.nb_laws.specs.Endings.{WhyClosed}
use Rattle.nb_laws.specs.Hookings.{LetsGo}
use Rattle.nb_openlaws.specs.OpenEndings.{by_drive_close, by_reason, IsPutOrCloses}
use Rattle.nb_openlaws.specs.OpenReasons.{OpenReasons}
use Rattle.nb_openlaws.proofs.OpenRecords.{aside_sessions}
use Rattle.nb_openlaws.proofs.UsedEvents.{live_one}
use Rattle.nb_openlaws.proofs.Sendings.{either_reasons}
use Rattle.nb_openlaws.proofs.WebPuts.{TriedSo}
use Rattle.nb_openlaws.proofs.SessionMarks.{talk_put}
use Rattle.nb_openlaws.proofs.SegmentReasons.{one_with_reasons, all_with_reasons}

-- what the history says of it, after these calls of its connection, and what was said then
pub record SessionAt (es : List Event) (o : Opening) (link : Client) (c : Connection) (s : SessionOpening) (all : List TcpCall) : Type 0 where
  pub client_is : client es ≡ link
  pub opening : openings c.number es ≡ o ∷ []
  pub lives : open_has_ended c.number es ≡ false
  pub kind_is : o.kind ≡ 3
  pub session : sessions c.number es ≡ s ∷ []
  pub link_is : connection_link (hardware es) c.number s.opening ≡ c.link
  pub texts : List (List ℕ)
  pub now : ℕ
  pub calls_are : (session_so_far c.number s es).calls ≡ all ++ text_calls texts now

-- it stays so while records are written that tell no open
pub session_on : (es : List Event) (quiet : List Out) (o : Opening) (link : Client) (c : Connection) (s : SessionOpening) (all : List TcpCall) → AreAside quiet → AllByRecursion IsNoCommand quiet → client (es ++ told quiet) ≡ client es →
    SessionAt es o link c s all → SessionAt (es ++ told quiet) o link c s all
session_on es quiet o link c s all aside plain same w =
    let k = c.number in
    let left = kept es quiet aside in
    record {
      client_is = same ∙ w.client_is;
      opening = left.openings_is k ∙ w.opening;
      lives = left.over_is k ∙ w.lives;
      kind_is = w.kind_is;
      session = aside_sessions k es quiet aside ∙ w.session;
      link_is = ap (λ h. connection_link h k s.opening) left.hardware_is ∙ w.link_is;
      texts = w.texts;
      now = w.now;
      calls_are = ap (λ (d : Talk ReadTask). d.calls) (talk_put k s es quiet left.hardware_is (told_nothing es quiet plain)) ∙ w.calls_are;
    }

its_calls : (es : List Event) (o : Opening) (link : Client) (c : Connection) (s : SessionOpening) (all : List TcpCall) → SessionAt es o link c s all → AreItsCalls c.number es s all
its_calls es o link c s all w = record { is = w.session; texts = w.texts; now = w.now; all = w.calls_are }

-- a segment of an open that lives, which may be what is tried
session_sent : (es : List Event) (o : Opening) (link : Client) (c : Connection) (x : SessionOpening) (all : List TcpCall) (s : Outgoing) → SessionAt es o link c x all → MaySend c.link.isn all s →
    (sends : IsSent c.number es (put_on link (outgoing_message c.link s) (way_of link (outgoing_message c.link s)))) × (s ≡ tried_again c.link.isn (conn_phase c.link.isn all) → IsMessageTried c.number es sends.opening sends.send)
session_sent es o link c x all s w may =
    let k = c.number in
    let send : SendTo = outgoing_message c.link s in (
      record {
        opening = o;
        lives = live_one k es o w.opening w.lives;
        send = send;
        asked = as_said w.kind_is (record { session = x; calls = all; its = its_calls es o link c x all w; may = subst (λ z. MayBeSent z all send) (sym w.link_is) (record { outgoing = s; is = refl; may = may }) });
        spelled = ap (λ (z : Client). put_on z send (way_of z send)) (sym w.client_is);
      },
      λ again. record {
        of_transfer = λ file. absurd (omega (arith, w.kind_is, file));
        of_connection = λ web. absurd (omega (arith, w.kind_is, web));
        of_session = λ drive. record {
          session = x;
          calls = all;
          its = its_calls es o link c x all w;
          tried = ap (outgoing_message c.link) again ∙ sym (ap (λ (z : Link). outgoing_message z (tried_again z.isn (conn_phase z.isn all))) w.link_is);
        };
      },
    )

-- one, with its TRY
pub session_reason : (es : List Event) (o : Opening) (link : Client) (c : Connection) (x : SessionOpening) (all : List TcpCall) (s : Outgoing) (try : Option ℕ) → IsAdvanced es → IsDue c.number es → SessionAt es o link c x all → MaySend c.link.isn all s →
    TriedSo c.link.isn (conn_phase c.link.isn all) (s, try) → OpenReasons es (send_records link c.number try (outgoing_message c.link s))
session_reason es o link c x all s try a d w may again =
    one_with_reasons link c (λ es all. SessionAt es o link c x all) (λ es quiet all aside plain same w. session_on es quiet o link c x all aside plain same w) (λ es all s w may. session_sent es o link c x all s w may) es all s try a d w may again

-- all that it sends after these calls
pub session_reasons : (es : List Event) (o : Opening) (link : Client) (c : Connection) (x : SessionOpening) (all : List TcpCall) (sends : Sends) → IsAdvanced es → IsDue c.number es → SessionAt es o link c x all → AllByRecursion (λ s. MaySend c.link.isn all s.0) sends →
    AllByRecursion (TriedSo c.link.isn (conn_phase c.link.isn all)) sends → OpenReasons es (segment_records c link sends)
session_reasons es o link c x all sends a d w may again =
    all_with_reasons link c (λ es all. SessionAt es o link c x all) (λ es quiet all aside plain same w. session_on es quiet o link c x all aside plain same w) (λ es all s w may. session_sent es o link c x all s w may) es all sends a d w may again

-- WHAT CLOSES IT

-- a drive is closed as all that lives is, or let go by a command
pub data WhyDriveCloses (k : ℕ) (es : List Event) : Type 0 where
  closes_with_all : WhyClosed es → WhyDriveCloses k es
  closes_alone : LetsGo k es → WhyDriveCloses k es

pub session_closing : (es : List Event) (o : Opening) (link : Client) (c : Connection) (x : SessionOpening) (all : List TcpCall) → IsAdvanced es → WhyDriveCloses c.number es → SessionAt es o link c x all → (session_so_far c.number x es).calls ≡ all →
    OpenReasons es (segment_records c link (without_try (closing_segment c.link.isn (conn_phase c.link.isn all)) ∷ []))
unfolding session_sent
session_closing es o link c x all a why w full =
    let send : SendTo = outgoing_message c.link (closing_segment c.link.isn (conn_phase c.link.isn all)) in
    let one = session_sent es o link c x all (closing_segment c.link.isn (conn_phase c.link.isn all)) w (closing_may c.link.isn all (conn_phase c.link.isn all) refl) in
    let closes : ClosesSession c.number es send = record {
      session = x;
      is = w.session;
      closes = sym (ap (λ (z : Link). outgoing_message z (closing_segment z.isn (conn_phase z.isn (session_so_far c.number x es).calls))) w.link_is
          ∙ ap (λ cs. outgoing_message c.link (closing_segment c.link.isn (conn_phase c.link.isn cs))) full);
    } in
    subst (OpenReasons es) (sym (append-nil (send_records link c.number None send)))
    (either_reasons es (has_route link send) (sent (put_on link send (way_of link send)) ∷ []) (record {
      ends = (tt, tt);
      frames = (framed one.0 w.kind_is closes why, tt);
      advances = (a, tt);
      tries = (tt, tt);
      after = still_advanced es (sent (put_on link send (way_of link send)) ∷ []) (tt, tt) a;
    }) a)
  where
    framed : {bytes : List ℕ} (sends : IsSent c.number es bytes) → sends.opening.kind ≡ 3 → ClosesSession c.number es sends.send → WhyDriveCloses c.number es → IsPutOrCloses es bytes
    framed sends kind closes (closes_with_all closed) = by_drive_close c.number sends kind closes closed
    framed sends kind closes (closes_alone let_go) = by_reason (by_unhooking c.number sends kind closes let_go)
