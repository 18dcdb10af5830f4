-- What an open that fetches by HTTP sends: each segment, and what closes it, has its reasons.
use Rattle.std.proofs.Common.{◌≡◌, ℕ, false, List, [], ◌∷◌, ◌++◌, Option, None, refl, sym, ◌∙◌, ap, subst, append-nil, arith}
use Rattle.std.specs.List.{AllByRecursion}
use Rattle.nb_terms.specs.declared.acts.SendTo.{SendTo}
use Rattle.nb_defs.specs.Records.{Out, sent}
use Rattle.nb_stack.specs.Client.{Client}
use Rattle.nb_stack.specs.Sends.{put_on, way_of}
use Rattle.nb_streams.specs.Flows.{TcpCall, conn_phase}
use Rattle.nb_streams.specs.Sending.{Outgoing, MaySend, without_try, closing_segment, tried_again}
use Rattle.nb_talks.specs.TalkPromises.{Sends}
use Rattle.nb_streams.proofs.OtherSendLaws.{closing_may}
use Rattle.nb_tcp.specs.declared.link.Link.{Link}
use Rattle.nb_tcp.specs.Messages.{outgoing_message}
use Rattle.nb_tcp.specs.MayBeSent.{MayBeSent}
use Rattle.nb_machine.specs.Sendings.{has_route, send_records}
use Rattle.nb_machine.specs.Connections.{Connection, segment_records}
use Rattle.nb_laws.specs.Agreement.{AreAside}
use Rattle.nb_laws.specs.Events.{Event}
use Rattle.nb_laws.specs.Frames.{IsSent, as_come, IsMessageTried, IsDue}
use Rattle.nb_laws.specs.Histories.{client}
use Rattle.nb_laws.specs.Lists.{hardware, Opening, openings, open_has_ended}
use Rattle.nb_laws.specs.Progress.{IsAdvanced}
use Rattle.nb_laws.specs.Webs.{connection_link, brought_to, talk_by, closing_message}
use Rattle.nb_laws.proofs.Tellings.{told, kept, still_advanced}
use Rattle.nb_laws.specs.Endings.{WhyClosed}
use Rattle.nb_openlaws.specs.OpenEndings.{by_close}
use Rattle.nb_openlaws.specs.OpenReasons.{OpenReasons}
use Rattle.nb_openlaws.proofs.UsedEvents.{live_one}
use Rattle.nb_openlaws.proofs.Sendings.{either_reasons}
use Rattle.nb_openlaws.proofs.WebPuts.{TriedSo}
use Rattle.nb_openlaws.proofs.SegmentReasons.{one_with_reasons, all_with_reasons}

-- what the history says of it, after these calls of its connection
pub record WebAt (es : List Event) (o : Opening) (link : Client) (c : Connection) (all : List TcpCall) : Type 0 where
  pub client_is : client es ≡ link
  pub opening : openings c.number es ≡ o ∷ []
  pub lives : open_has_ended c.number es ≡ false
  pub kind_is : o.kind ≡ 2
  pub link_is : connection_link (hardware es) c.number o ≡ c.link
  pub calls_are : (talk_by (hardware es) c.number o (brought_to c.number es)).calls ≡ all

-- it stays so while records are written that tell no open
pub web_on : (es : List Event) (quiet : List Out) (o : Opening) (link : Client) (c : Connection) (all : List TcpCall) → AreAside quiet → client (es ++ told quiet) ≡ client es → WebAt es o link c all → WebAt (es ++ told quiet) o link c all
web_on es quiet o link c all aside same w =
    let k = c.number in
    let left = kept es quiet aside in
    record {
      client_is = same ∙ w.client_is;
      opening = left.openings_is k ∙ w.opening;
      lives = left.over_is k ∙ w.lives;
      kind_is = w.kind_is;
      link_is = ap (λ h. connection_link h k o) left.hardware_is ∙ w.link_is;
      calls_are = ap (λ h. (talk_by h k o (brought_to k (es ++ told quiet))).calls) left.hardware_is ∙ ap (λ z. (talk_by (hardware es) k o z).calls) (left.came_is k) ∙ w.calls_are;
    }

-- a segment of an open that lives, which may be what is tried
segment_sent : (es : List Event) (o : Opening) (link : Client) (c : Connection) (all : List TcpCall) (s : Outgoing) → WebAt es o link c all → MaySend c.link.isn all s →
    (sends : IsSent c.number es (put_on link (outgoing_message c.link s) (way_of link (outgoing_message c.link s)))) × (s ≡ tried_again c.link.isn (conn_phase c.link.isn all) → IsMessageTried c.number es sends.opening sends.send)
segment_sent es o link c all s w may =
    let k = c.number in
    let send : SendTo = outgoing_message c.link s in (
      record {
        opening = o;
        lives = live_one k es o w.opening w.lives;
        send = send;
        asked = as_come w.kind_is (subst (λ z. MayBeSent z (talk_by (hardware es) k o (brought_to k es)).calls send) (sym w.link_is) (subst (λ z. MayBeSent c.link z send) (sym w.calls_are) (record { outgoing = s; is = refl; may = may })));
        spelled = ap (λ (x : Client). put_on x send (way_of x send)) (sym w.client_is);
      },
      λ again. record {
        of_transfer = λ file. absurd (omega (arith, w.kind_is, file));
        of_connection = λ is. ap (outgoing_message c.link) again
            ∙ sym (ap (λ (z : Link). outgoing_message z (tried_again z.isn (conn_phase z.isn (talk_by (hardware es) k o (brought_to k es)).calls))) w.link_is
            ∙ ap (λ cs. outgoing_message c.link (tried_again c.link.isn (conn_phase c.link.isn cs))) w.calls_are);
        of_session = λ drive. absurd (omega (arith, w.kind_is, drive));
      },
    )

-- with its TRY
pub segment_reasons : (es : List Event) (o : Opening) (link : Client) (c : Connection) (all : List TcpCall) (s : Outgoing) (try : Option ℕ) → IsAdvanced es → IsDue c.number es → WebAt es o link c all → MaySend c.link.isn all s →
    TriedSo c.link.isn (conn_phase c.link.isn all) (s, try) → OpenReasons es (send_records link c.number try (outgoing_message c.link s))
segment_reasons es o link c all s try a d w may again =
    one_with_reasons link c (λ es all. WebAt es o link c all) (λ es quiet all aside plain same w. web_on es quiet o link c all aside same w) (λ es all s w may. segment_sent es o link c all s w may) es all s try a d w may again

-- all of them
pub segments_reasons : (es : List Event) (o : Opening) (link : Client) (c : Connection) (all : List TcpCall) (sends : Sends) → IsAdvanced es → IsDue c.number es → WebAt es o link c all → AllByRecursion (λ s. MaySend c.link.isn all s.0) sends →
    AllByRecursion (TriedSo c.link.isn (conn_phase c.link.isn all)) sends → OpenReasons es (segment_records c link sends)
segments_reasons es o link c all sends a d w may again =
    all_with_reasons link c (λ es all. WebAt es o link c all) (λ es quiet all aside plain same w. web_on es quiet o link c all aside same w) (λ es all s w may. segment_sent es o link c all s w may) es all sends a d w may again

-- WHAT CLOSES IT

-- what closes the connection, after all that has come
abbrev pub closing_of : Connection → List TcpCall → SendTo
closing_of c all = outgoing_message c.link (closing_segment c.link.isn (conn_phase c.link.isn all))

closing_sent : (es : List Event) (o : Opening) (link : Client) (c : Connection) (all : List TcpCall) → WebAt es o link c all →
    (sends : IsSent c.number es (put_on link (closing_of c all) (way_of link (closing_of c all)))) × (sends.opening.kind ≡ 2) × (sends.send ≡ closing_message (hardware es) c.number sends.opening (brought_to c.number es))
closing_sent es o link c all w =
    let k = c.number in
    let s = closing_segment c.link.isn (conn_phase c.link.isn all) in
    let send : SendTo = outgoing_message c.link s in (
      record {
        opening = o;
        lives = live_one k es o w.opening w.lives;
        send = send;
        asked = as_come w.kind_is (subst (λ z. MayBeSent z (talk_by (hardware es) k o (brought_to k es)).calls send) (sym w.link_is) (subst (λ z. MayBeSent c.link z send) (sym w.calls_are) (record { outgoing = s; is = refl; may = closing_may c.link.isn all (conn_phase c.link.isn all) refl })));
        spelled = ap (λ (x : Client). put_on x send (way_of x send)) (sym w.client_is);
      },
      w.kind_is,
      sym (ap (λ (z : Link). outgoing_message z (closing_segment z.isn (conn_phase z.isn (talk_by (hardware es) k o (brought_to k es)).calls))) w.link_is
          ∙ ap (λ cs. outgoing_message c.link (closing_segment c.link.isn (conn_phase c.link.isn cs))) w.calls_are),
    )

pub closing_frame : (es : List Event) (o : Opening) (link : Client) (c : Connection) (all : List TcpCall) → IsAdvanced es → WhyClosed es → WebAt es o link c all →
    OpenReasons es (segment_records c link (without_try (closing_segment c.link.isn (conn_phase c.link.isn all)) ∷ []))
closing_frame es o link c all a why w =
    let send : SendTo = outgoing_message c.link (closing_segment c.link.isn (conn_phase c.link.isn all)) in
    let one = closing_sent es o link c all w in
    subst (OpenReasons es) (sym (append-nil (send_records link c.number None send)))
    (either_reasons es (has_route link send) (sent (put_on link send (way_of link send)) ∷ []) (record {
      ends = (tt, tt);
      frames = (by_close c.number one.0 one.1 one.2 why, tt);
      advances = (a, tt);
      tries = (tt, tt);
      after = still_advanced es (sent (put_on link send (way_of link send)) ∷ []) (tt, tt) a;
    }) a)
