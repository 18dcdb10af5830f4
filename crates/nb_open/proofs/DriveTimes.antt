-- A time comes to a drive: what is due at it is sent, or the tries are over.
use Rattle.std.proofs.Common.{◌≡◌, ℕ, Some, refl, sym, ◌∙◌, ap, subst}
use Rattle.std.specs.List.{AllByRecursion, flat_map, list_any}
use Rattle.nb_graph.specs.Whole.{Objects, port_at}
use Rattle.nb_ledger.specs.Flat.{Heard}
use Rattle.nb_login.specs.declared.info.LoginInfo.{LoginInfo}
use Rattle.nb_nodes.specs.declared.obj.Obj.{Obj}
use Rattle.nb_sans.specs.Sessions.{ReadTask}
use Rattle.nb_stack.specs.Client.{Client}
use Rattle.nb_wire.specs.declared.address.Ip4.{Ip4}
use Rattle.nb_ledger.specs.declared.event.GraphEvent.TheVariants.{Entered}
use Rattle.nb_ledger.specs.declared.event.Way.TheVariants as way
use Rattle.nb_retry.specs.declared.plan.Plan.{Plan}
use Rattle.nb_streams.specs.Trying.{timer_after}
use Rattle.nb_talks.specs.Talking.{Talk, by_time}
use Rattle.nb_talks.specs.TalkPromises.{Put, due_sends, phase_of, time_put}
use Rattle.nb_tcp.specs.ConnPromises.{last_try}
use Rattle.nb_machine.specs.Connections.{Connection, connection_of}
use Rattle.nb_machine.specs.Drives.{session_of}
use Rattle.nb_machine.specs.Lives.{Live, OpenKind, tftp, http, iscsi, dns, dhcp, ping, exchange, time}
use Rattle.nb_teller.specs.declared.speaker.Speaker.{Speaker}
use Rattle.nb_drivechains.specs.declared.drive_chain.DriveChain.{DriveChain}
use Rattle.nb_drivechains.specs.DriveChains.{three_of}
use Rattle.nb_drivechains.proofs.BesideDrives.{drive_kinds}
use Rattle.nb_drivetalks.specs.Comings.{DriveTimeComes, time_comes_so, time_lacks_memory}
use Rattle.nb_drivetalks.specs.SessionStands.{StandsForSession}
use Rattle.nb_drivetalks.specs.Tellings.{told_above, told_below}
use Rattle.nb_webchains.specs.WebCalls.{DoesWeb, ticks_web}
use Rattle.nb_webtalks.specs.Tellings.{messages_of}
use Rattle.nb_open.specs.declared.objects.OpenObjects.TheVariants as objects
use Rattle.nb_open.specs.declared.open.Open.{Open}
use Rattle.nb_open.specs.Open.{IsDriveUnderWay, IsOpenOf, IsTalkingDrive, carrier_for, session_ask}
use Rattle.nb_open.proofs.Delivering.{DeliversNone}
use Rattle.nb_open.proofs.Doings.{Did, fails}
use Rattle.nb_open.proofs.DriveAsides.{aside_after, aside_at_end, session_more}
use Rattle.nb_open.proofs.DriveExchanges.{drive_did}
use Rattle.nb_open.proofs.DriveLaws.{drive_times}
use Rattle.nb_open.proofs.DrivePuts.{AreHandedUp, below_lacks, below_records, no_address_up}
use Rattle.nb_open.proofs.WebExchanges.{segments_deliver_none}
use Rattle.nb_open.proofs.WebPuts.{said_lacks, said_records}
use Rattle.nb_open.proofs.WebRecords.{few_due, few_lack, few_records}

module _ (who : Speaker) (port : ℕ) (own : Ip4) (c : DriveChain) (l : Live) (old new : Objects Obj) (link : Client) (m n : Heard) (now : ℕ) where
  abbrev o : Open
  o = record { speaker = who; objects = objects.Drive port own c }

  module _ (is : IsOpenOf old o l) (k : DoesWeb (three_of c) now (ticks_web (three_of c)) (Some (Entered (port_at c.conn.0 4) way.Time)) old new m n) where
    module _ (isn : ℕ) (i : LoginInfo) (e : l.kind ≡ iscsi isn i) (t : IsTalkingDrive isn i own c old l) where
      abbrev conn : Connection
      conn = connection_of isn l

      abbrev talk : Talk ReadTask
      talk = session_of isn i l

      abbrev plan : Plan
      plan = (timer_after isn l.since talk.calls).plan

      ticked : DriveTimeComes (session_ask isn own i l) l.since talk c new now k.ns → Did o l (time now) link new k.ns
      ticked (time_lacks_memory memory) = fails memory
      ticked (time_comes_so due fires says above ends stands) =
          let sends = due_sends isn (phase_of isn talk) due in
          let put : Put = time_put isn (phase_of isn talk) plan due in
          let few = few_due isn (phase_of isn talk) due in
          let number : who.number ≡ conn.number = sym is.called.number in
          let carrier = is.called.carrier ∙ ap carrier_for e in
          let server = ap (λ (z : ℕ). record { 0 = z }) (sym is.called.server) in
          let own_port = sym is.called.own in
          let none : AllByRecursion DeliversNone (messages_of (told_below c.unit.0 k.ns)) = subst (AllByRecursion DeliversNone) (sym says) (segments_deliver_none 0 (last_try sends) _) in
          let up : AreHandedUp (told_above c.unit.0 k.ns) = subst AreHandedUp (sym above) tt in
          drive_did who port own c l old new link isn i (time now) put k.ns (record {
            kind = e;
            lives = is;
            talks = t;
            puts = record { due = due; fires = fires; is = refl };
            records = below_records link who c.unit.0 k.ns up ∙ ap (flat_map (said_records link who)) says ∙ few_records link who conn number carrier server own_port 0 sends few;
            lacks = below_lacks link who c.unit.0 k.ns up ∙ ap (list_any (said_lacks link who)) says ∙ few_lack link who conn number carrier server own_port 0 sends few;
            closes = ends;
            comes = k.comes t.opened;
            kinds = drive_kinds c old new k.keeps t.kinds;
            noded = k.noded;
            still = k.still;
            stands = λ outs over. subst (λ z. StandsForSession (session_ask isn own i l) l.since z c new) (sym (session_more isn i l (exchange (time now) link outs) (by_time now) refl)) (stands (ends ∙ over));
            unfound = no_address_up c.unit.0 k.ns up none;
            up = up;
            answers = λ over any outs. aside_after c l (exchange (time now) any outs) k.ns isn i e above none now refl;
            answers_last = λ x over any outs. aside_at_end c l (exchange (time now) any outs) k.ns isn i e above none now refl;
          })

      ticked_so : Did o l (time now) link new k.ns
      ticked_so = ticked (drive_times (session_ask isn own i l) l.since talk c old new now (Some (Entered (port_at c.conn.0 4) way.Time)) m n k
          (record { was = is.chained; is = k.still; hosted = t.hosted; noded = k.noded; opened = t.opened; kinds = drive_kinds c old new k.keeps t.kinds }) t.stands)

    drive_ticked : (kind : OpenKind) → l.kind ≡ kind → IsDriveUnderWay kind own c old l → Did o l (time now) link new k.ns
    drive_ticked tftp e t = absurd t
    drive_ticked (http isn) e t = absurd t
    drive_ticked (iscsi isn i) e t = ticked_so isn i e t
    drive_ticked (dns id) e t = absurd t
    drive_ticked (dhcp a) e t = absurd t
    drive_ticked ping e t = absurd t

    -- a time does so
    pub drive_passed : Did o l (time now) link new k.ns
    drive_passed = drive_ticked l.kind refl is.under_way
