-- A segment comes to a drive, and puts what its promise says.
use Rattle.std.proofs.Common.{◌≡◌, ◌≤◌, ℕ, List, [], ◌∷◌, ◌++◌, length, Option, Some, None, refl, sym, ◌∙◌, ap, subst, arith}
use Rattle.std.specs.List.{AllByRecursion, flat_map, list_any}
use Rattle.nb_terms.specs.declared.cause.Cause.{Cause}
use Rattle.nb_ledger.specs.declared.event.GraphEvent.TheVariants.{Entered}
use Rattle.nb_ledger.specs.declared.event.Way.TheVariants as way
use Rattle.nb_ledger.specs.Flat.{Heard}
use Rattle.nb_graph.specs.Trace.{Said}
use Rattle.nb_graph.specs.Whole.{Objects, port_at}
use Rattle.nb_nodes.specs.declared.obj.Obj.{Obj}
use Rattle.nb_chains.specs.declared.arrival.Arrival.{Arrival}
use Rattle.nb_conns.specs.ConnAsks.{link_of}
use Rattle.nb_conns.specs.ConnEffects.{place_says}
use Rattle.nb_conns.specs.Dialogues.{arriving}
use Rattle.nb_login.specs.declared.info.LoginInfo.{LoginInfo}
use Rattle.nb_sans.specs.Sessions.{ReadTask, session_talker}
use Rattle.nb_stack.specs.Client.{Client}
use Rattle.nb_streams.specs.Endings.{segment_end}
use Rattle.nb_streams.specs.Flows.{TcpCall, conn_phase}
use Rattle.nb_streams.specs.Segments.{Arrival as Incoming}
use Rattle.nb_streams.specs.Sending.{calls_for}
use Rattle.nb_talks.specs.Talking.{Talk, by_segment, come_of, receives, talks_on, text_to_send, texts_for}
use Rattle.nb_talks.specs.TalkPromises.{Put, closes_by, phase_of, said_sends, segment_put, talker_end}
use Rattle.nb_tcp.specs.declared.link.Link.{Link}
use Rattle.nb_tcpseg.specs.SegmentText.{IsLaidOut, SegmentParts}
use Rattle.nb_wire.specs.declared.address.Ip4.{Ip4}
use Rattle.nb_machine.specs.Connections.{Connection, connection_of}
use Rattle.nb_machine.specs.Drives.{session_of}
use Rattle.nb_machine.specs.Lives.{Live, exchange, iscsi, tcp_segment}
use Rattle.nb_teller.specs.declared.speaker.Speaker.{Speaker}
use Rattle.nb_drivechains.specs.declared.drive_chain.DriveChain.{DriveChain}
use Rattle.nb_drivechains.specs.DriveChains.{three_of}
use Rattle.nb_drivechains.proofs.BesideDrives.{drive_kinds}
use Rattle.nb_drivenodes.specs.DriveAsks.{DriveAskParts}
use Rattle.nb_drivetalks.specs.Comings.{DriveSegmentComes, say_unless, segment_comes_so, segment_lacks_memory, session_segment_says, texts_say}
use Rattle.nb_drivetalks.specs.SessionStands.{StandsForSession}
use Rattle.nb_drivetalks.specs.Tellings.{told_above, told_below}
use Rattle.nb_webchains.specs.WebCalls.{DoesWeb, receives_web}
use Rattle.nb_webtalks.specs.Comings.{sends_say}
use Rattle.nb_webtalks.specs.Tellings.{messages_of}
use Rattle.nb_open.specs.declared.objects.OpenObjects.TheVariants as objects
use Rattle.nb_open.specs.declared.open.Open.{Open}
use Rattle.nb_open.specs.Exchanges.{SuitsBy}
use Rattle.nb_open.specs.Open.{IsDriveUnderWay, IsOpenOf, IsTalkingDrive, carrier_for, session_ask}
use Rattle.nb_open.proofs.Callings.{each_append}
use Rattle.nb_open.proofs.Delivering.{DeliversNone}
use Rattle.nb_open.proofs.Doings.{Did, fails}
use Rattle.nb_open.proofs.DriveAsides.{session_more}
use Rattle.nb_open.proofs.DriveExchanges.{drive_did}
use Rattle.nb_open.proofs.DriveLaws.{drive_segments}
use Rattle.nb_open.proofs.DrivePuts.{AreHandedUp, below_lacks, below_records, no_address_up}
use Rattle.nb_open.proofs.DriveReading.{are_handed_up, segment_answers, segment_answers_last}
use Rattle.nb_open.proofs.DriveRecords.{drive_lacks, drive_puts}
use Rattle.nb_open.proofs.WebPuts.{said_lacks, said_records}
use Rattle.nb_open.proofs.WebReceiving.{place_delivers_none, sends_deliver_none}

-- what goes down delivers nothing
texts_deliver_none : (l : Link) (rec : ℕ) (calls : List TcpCall) (xs : List (List ℕ)) (now : ℕ) → AllByRecursion DeliversNone (texts_say l rec calls xs now)
texts_deliver_none l rec calls [] now = tt
texts_deliver_none l rec calls (x ∷ xs) now =
    each_append DeliversNone (sends_say l rec (said_sends (conn_phase l.isn calls) x)) (texts_say l rec (calls ++ text_to_send x now) xs now) (sends_deliver_none l rec (said_sends (conn_phase l.isn calls) x))
    (texts_deliver_none l rec (calls ++ text_to_send x now) xs now)

unless_delivers_none : (by_connection : Option Cause) (says : List Said) → AllByRecursion DeliversNone says → AllByRecursion DeliversNone (say_unless by_connection says)
unless_delivers_none None says h = h
unless_delivers_none (Some cause) says h = tt

segment_delivers_none : (a : DriveAskParts) (d : Talk ReadTask) (m : Incoming) (now : ℕ) → AllByRecursion DeliversNone (session_segment_says a d m now)
segment_delivers_none a d m now =
    let t = session_talker a.info in
    let isn = a.conn.isn in
    let heard = receives isn d (by_segment m now) in
    let ends = segment_end isn (phase_of isn d) m in
    let l = link_of a.conn in
    let place = place_says m.rec (segment_put t isn d m now).advance in
    let called = calls_for isn (phase_of isn d) m.segment in
    let texts = texts_say l m.rec heard.calls (texts_for t isn d (by_segment m now)) now in
    let closing = closes_by (talker_end t isn m.rec heard) ends isn (phase_of isn (talks_on t isn d (by_segment m now))) in
    each_append DeliversNone place (sends_say l m.rec called ++ (say_unless ends texts ++ sends_say l 0 closing)) (place_delivers_none m.rec (segment_put t isn d m now).advance)
    (each_append DeliversNone (sends_say l m.rec called) (say_unless ends texts ++ sends_say l 0 closing) (sends_deliver_none l m.rec called)
    (each_append DeliversNone (say_unless ends texts) (sends_say l 0 closing) (unless_delivers_none ends texts (texts_deliver_none l m.rec heard.calls (texts_for t isn d (by_segment m now)) now)) (sends_deliver_none l 0 closing)))

module _ (who : Speaker) (port : ℕ) (own : Ip4) (c : DriveChain) (l : Live) (old new : Objects Obj) (link : Client) (m n : Heard) (rec : ℕ) (a : Arrival) (now isn : ℕ) (i : LoginInfo) (g : SegmentParts) (of : l.kind ≡ iscsi isn i) (suits : SuitsBy l.kind l a) (laid : IsLaidOut a.body.now g)
    (short : length a.body.now ≤ 65535) (is : IsOpenOf old (record { speaker = who; objects = objects.Drive port own c }) l) (k : DoesWeb (three_of c) now (receives_web (three_of c) rec a) (Some (Entered (port_at c.conn.0 1) way.Up)) old new m n) where
  abbrev o : Open
  o = record { speaker = who; objects = objects.Drive port own c }

  abbrev ask : DriveAskParts
  ask = session_ask isn own i l

  abbrev conn : Connection
  conn = connection_of isn l

  abbrev talk : Talk ReadTask
  talk = session_of isn i l

  abbrev arr : Incoming
  arr = arriving rec g

  abbrev put : Put
  put = segment_put (session_talker i) isn talk arr now

  talks : IsTalkingDrive isn i own c old l
  talks = subst (λ z. IsDriveUnderWay z own c old l) of is.under_way

  from : SuitsBy (iscsi isn i) l a
  from = subst (λ z. SuitsBy z l a) of suits

  -- what comes of it to the three
  comes : DriveSegmentComes ask l.since talk c new arr now k.ns
  comes =
      drive_segments ask l.since talk c old new rec now a g (Some (Entered (port_at c.conn.0 1) way.Up)) m n k
      (record { was = is.chained; is = k.still; hosted = talks.hosted; noded = k.noded; opened = talks.opened; kinds = drive_kinds c old new k.keeps talks.kinds }) talks.stands from.1 from.0 laid (omega (arith, short))

  segment_did : DriveSegmentComes ask l.since talk c new arr now k.ns → Did o l (tcp_segment rec g now) link new k.ns
  segment_did (segment_lacks_memory memory) = fails memory
  segment_did (segment_comes_so says above adds close stands) =
      let number : who.number ≡ conn.number = sym is.called.number in
      let carrier = is.called.carrier ∙ ap carrier_for of in
      let server = ap (λ (z : ℕ). record { 0 = z }) (sym is.called.server) in
      let own_port = sym is.called.own in
      let none : AllByRecursion DeliversNone (messages_of (told_below c.unit.0 k.ns)) = subst (AllByRecursion DeliversNone) (sym says) (segment_delivers_none ask talk arr now) in
      let up : AreHandedUp (told_above c.unit.0 k.ns) = subst AreHandedUp (sym above) (are_handed_up rec i (come_of isn talk) (come_of isn (receives isn talk (by_segment arr now))) talk.tasks) in
      drive_did who port own c l old new link isn i (tcp_segment rec g now) put k.ns (record {
        kind = of;
        lives = is;
        talks = talks;
        puts = refl;
        records = below_records link who c.unit.0 k.ns up ∙ ap (flat_map (said_records link who)) says ∙ drive_puts link who conn number carrier server own_port ask refl talk arr now;
        lacks = below_lacks link who c.unit.0 k.ns up ∙ ap (list_any (said_lacks link who)) says ∙ drive_lacks link who conn number carrier server own_port ask refl talk arr now;
        closes = close;
        comes = k.comes talks.opened;
        kinds = drive_kinds c old new k.keeps talks.kinds;
        noded = k.noded;
        still = k.still;
        stands = λ outs over. subst (λ z. StandsForSession ask l.since z c new) (sym (session_more isn i l (exchange (tcp_segment rec g now) link outs) (by_segment arr now) refl)) (stands (close ∙ over));
        unfound = no_address_up c.unit.0 k.ns up none;
        up = up;
        answers = λ over any outs. segment_answers c l (exchange (tcp_segment rec g now) any outs) k.ns isn i of arr now refl above none adds over;
        answers_last = λ x over any outs. segment_answers_last c l (exchange (tcp_segment rec g now) any outs) k.ns isn i of arr now refl above none adds;
      })

  pub drive_received : Did o l (tcp_segment rec g now) link new k.ns
  drive_received = segment_did comes
