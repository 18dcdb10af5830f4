-- The user asks for blocks of a drive: its command is put, where the drive takes it.
use Rattle.std.proofs.Common.{◌≡◌, ℕ, None, refl, sym, ◌∙◌, ap, subst}
use Rattle.std.specs.List.{AllByRecursion, flat_map, list_any}
use Rattle.nb_graph.specs.Whole.{Objects}
use Rattle.nb_ledger.specs.Flat.{Heard}
use Rattle.nb_login.specs.declared.info.LoginInfo.{LoginInfo}
use Rattle.nb_nodes.specs.declared.obj.Obj.{Obj}
use Rattle.nb_sans.specs.Sessions.{ReadTask, session_talker}
use Rattle.nb_sans.proofs.SessionGrowth.{session_adds}
use Rattle.nb_stack.specs.Client.{Client}
use Rattle.nb_talks.specs.Talking.{Talk, by_task, receives, unsaid}
use Rattle.nb_talks.proofs.TalkLaws.{all_is_said}
use Rattle.nb_talks.specs.TalkPromises.{Put, Sends, phase_of, said_sends, task_put}
use Rattle.nb_tcp.specs.ConnPromises.{last_try}
use Rattle.nb_wire.specs.declared.address.Ip4.{Ip4}
use Rattle.nb_machine.specs.Connections.{Connection, connection_of}
use Rattle.nb_machine.specs.Drives.{input_to_session, session_of}
use Rattle.nb_machine.specs.Lives.{Live, exchange, iscsi, task}
use Rattle.nb_teller.specs.declared.speaker.Speaker.{Speaker}
use Rattle.nb_drivechains.specs.declared.drive_chain.DriveChain.{DriveChain}
use Rattle.nb_drivechains.specs.DriveCalls.{reads_drive}
use Rattle.nb_drivechains.specs.DriveChains.{three_of}
use Rattle.nb_drivechains.proofs.BesideDrives.{drive_kinds}
use Rattle.nb_drivetalks.specs.Comings.{DriveTaskComes, task_comes_so, task_lacks_memory}
use Rattle.nb_drivetalks.specs.SessionStands.{StandsForSession}
use Rattle.nb_drivetalks.specs.Tellings.{told_above, told_below}
use Rattle.nb_webchains.specs.WebCalls.{DoesWeb}
use Rattle.nb_webtalks.specs.Tellings.{messages_of}
use Rattle.nb_open.specs.declared.objects.OpenObjects.TheVariants as objects
use Rattle.nb_open.specs.declared.open.Open.{Open}
use Rattle.nb_open.specs.Open.{IsDriveUnderWay, IsOpenOf, IsTalkingDrive, carrier_for, session_ask}
use Rattle.nb_open.proofs.Delivering.{DeliversNone}
use Rattle.nb_open.proofs.Doings.{Did, fails}
use Rattle.nb_open.proofs.DriveAsides.{session_more}
use Rattle.nb_open.proofs.DriveAsked.{asks_after}
use Rattle.nb_open.proofs.DriveExchanges.{drive_did}
use Rattle.nb_open.proofs.DriveLaws.{drive_tasks}
use Rattle.nb_open.proofs.DrivePuts.{AreHandedUp, below_lacks, below_records, no_address_up}
use Rattle.nb_open.proofs.DriveRecords.{few_said}
use Rattle.nb_open.proofs.Receiving.{drive_is}
use Rattle.nb_open.proofs.WebExchanges.{segments_deliver_none}
use Rattle.nb_open.proofs.WebPuts.{said_lacks, said_records}
use Rattle.nb_open.proofs.WebRecords.{few_lack, few_records}

module _ (who : Speaker) (port : ℕ) (own : Ip4) (c : DriveChain) (l : Live) (old new : Objects Obj) (link : Client) (m n : Heard) (rec block count now : ℕ) (is : IsOpenOf old (record { speaker = who; objects = objects.Drive port own c }) l)
    (k : DoesWeb (three_of c) now (reads_drive c rec block count) None old new m n) where
  abbrev o : Open
  o = record { speaker = who; objects = objects.Drive port own c }

  abbrev blocks : ReadTask
  blocks = record { lba = block; blocks = count }

  module _ (isn : ℕ) (i : LoginInfo) (e : l.kind ≡ iscsi isn i) (t : IsTalkingDrive isn i own c old l) where
    abbrev conn : Connection
    conn = connection_of isn l

    abbrev talk : Talk ReadTask
    talk = session_of isn i l

    abbrev heard : Talk ReadTask
    heard = receives isn talk (by_task blocks now)

    asked : DriveTaskComes (session_ask isn own i l) l.since talk c new blocks rec now k.ns → Did o l (task blocks now) link new k.ns
    asked (task_lacks_memory memory) = fails memory
    asked (task_comes_so says above none stands) =
        let sends : Sends = said_sends (phase_of isn heard) (unsaid (session_talker i) isn heard) in
        let put : Put = task_put (session_talker i) isn talk blocks now in
        let few = few_said (phase_of isn heard) (unsaid (session_talker i) isn heard) in
        let number : who.number ≡ conn.number = sym is.called.number in
        let carrier = is.called.carrier ∙ ap carrier_for e in
        let server = ap (λ (z : ℕ). record { 0 = z }) (sym is.called.server) in
        let own_port = sym is.called.own in
        let silent : AllByRecursion DeliversNone (messages_of (told_below c.unit.0 k.ns)) = subst (AllByRecursion DeliversNone) (sym says) (segments_deliver_none rec (last_try sends) _) in
        let up : AreHandedUp (told_above c.unit.0 k.ns) = subst AreHandedUp (sym above) tt in
        drive_did who port own c l old new link isn i (task blocks now) put k.ns (record {
          kind = e;
          lives = is;
          talks = t;
          puts = refl;
          records = below_records link who c.unit.0 k.ns up ∙ ap (flat_map (said_records link who)) says ∙ few_records link who conn number carrier server own_port rec sends few;
          lacks = below_lacks link who c.unit.0 k.ns up ∙ ap (list_any (said_lacks link who)) says ∙ few_lack link who conn number carrier server own_port rec sends few;
          closes = none;
          comes = k.comes t.opened;
          kinds = drive_kinds c old new k.keeps t.kinds;
          noded = k.noded;
          still = k.still;
          stands = λ outs over. subst (λ z. StandsForSession (session_ask isn own i l) l.since z c new) (sym (session_more isn i l (exchange (task blocks now) link outs) (by_task blocks now) refl)) stands;
          unfound = no_address_up c.unit.0 k.ns up silent;
          up = up;
          answers = λ over any outs. asks_after c l isn i e own old t is.chained blocks now (exchange (task blocks now) any outs) refl;
          answers_last = λ x over any outs. asks_after c l isn i e own old t is.chained blocks now (exchange (task blocks now) any outs) refl;
        })

    asked_so : Did o l (task blocks now) link new k.ns
    asked_so = asked (drive_tasks (session_ask isn own i l) l.since talk c old new rec now block count m n k
        (record { was = is.chained; is = k.still; hosted = t.hosted; noded = k.noded; opened = t.opened; kinds = drive_kinds c old new k.keeps t.kinds }) t.stands
        (all_is_said (session_talker i) (session_adds i) isn l.since (flat_map (λ x. input_to_session x.came) l.exchanges)))

  -- a task does so
  pub drive_asked : Did o l (task blocks now) link new k.ns
  drive_asked =
      let e = drive_is l.kind own c old l is.under_way in
      asked_so e.0 e.1 e.2 (subst (λ z. IsDriveUnderWay z own c old l) e.2 is.under_way)
