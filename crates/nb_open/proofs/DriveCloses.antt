-- The user closes a drive: what its connection says then is what its promise does, and nothing where there is no route.
use Rattle.std.proofs.Common.{◌≡◌, ℕ, false, cond, List, [], ◌∷◌, ◌++◌, None, refl, sym, ◌∙◌, ap, subst}
use Rattle.std.specs.List.{AllByRecursion, flat_map}
use Rattle.std.proofs.lemmas.List.{append-nil}
use Rattle.nb_terms.specs.declared.acts.SendTo.{SendTo}
use Rattle.nb_terms.specs.declared.cause.Cause.{Cause}
use Rattle.nb_defs.specs.Records.{Out, ended, sent}
use Rattle.nb_conns.specs.ConnAsks.{link_of}
use Rattle.nb_conns.specs.ConnEffects.{segments_say}
use Rattle.nb_graph.specs.Whole.{Objects}
use Rattle.nb_ledger.specs.Flat.{Heard}
use Rattle.nb_login.specs.declared.info.LoginInfo.{LoginInfo}
use Rattle.nb_nodes.specs.declared.obj.Obj.{Obj}
use Rattle.nb_sans.specs.Sessions.{ReadTask}
use Rattle.nb_stack.specs.Client.{Client}
use Rattle.nb_stack.specs.Sends.{put_on, way_of}
use Rattle.nb_streams.specs.Sending.{closing_segment}
use Rattle.nb_talks.specs.Talking.{Talk}
use Rattle.nb_talks.specs.TalkPromises.{close_put, phase_of}
use Rattle.nb_tcp.specs.Messages.{outgoing_message}
use Rattle.nb_traced.specs.Plain.{without_graph}
use Rattle.nb_wire.specs.declared.address.Ip4.{Ip4}
use Rattle.nb_machine.specs.Connections.{KeepsAt, connection_of}
use Rattle.nb_machine.specs.Drives.{session_of, session_talking}
use Rattle.nb_machine.specs.Kinds.{Keeps, KeepsBy}
use Rattle.nb_machine.specs.Lives.{Live, OpenKind, close, dhcp, dns, exchange, http, iscsi, ping, tftp}
use Rattle.nb_machine.specs.Sendings.{has_route, send_records}
use Rattle.nb_chains.specs.Chains.{AreChained}
use Rattle.nb_drivechains.specs.declared.drive_chain.DriveChain.{DriveChain}
use Rattle.nb_drivechains.specs.DriveChains.{AreOfDrive, drive_ids, three_of}
use Rattle.nb_drivechains.proofs.BesideDrives.{drive_kinds}
use Rattle.nb_drivetalks.specs.SessionStands.{StandsForSession}
use Rattle.nb_drivetalks.specs.Tellings.{told_above, told_below}
use Rattle.nb_webchains.specs.WebCalls.{ClosesWeb}
use Rattle.nb_webchains.specs.WebChains.{IsOpenWeb}
use Rattle.nb_webtalks.specs.TalkStands.{AreHosted}
use Rattle.nb_webtalks.specs.Tellings.{messages_of}
use Rattle.nb_teller.specs.declared.speaker.Carrier.TheVariants.{Tcp}
use Rattle.nb_teller.specs.declared.speaker.Speaker.{Speaker}
use Rattle.nb_teller.specs.Tellings.{told_records}
use Rattle.nb_open.specs.declared.objects.OpenObjects.TheVariants as objects
use Rattle.nb_open.specs.Ends.{closed_open}
use Rattle.nb_open.specs.Open.{IsDriveUnderWay, IsOpenOf, IsSpeakerOf, IsTalkingDrive, ask_of, carrier_for, session_ask}
use Rattle.nb_open.proofs.Delivering.{DeliversNone}
use Rattle.nb_open.proofs.DriveLaws.{drive_closes}
use Rattle.nb_open.proofs.DrivePuts.{AreHandedUp, answer_among, answer_up, below_records, blocks_among, blocks_up, no_address_up, no_bytes_up}
use Rattle.nb_open.proofs.Quiet.{AddsNothing}
use Rattle.nb_open.proofs.WebCloses.{each_last}
use Rattle.nb_open.proofs.WebPuts.{one_segment, said_records, speaks_on}

-- ONE CLOSE

module _ (who : Speaker) (link : Client) (isn : ℕ) (i : LoginInfo) (own : Ip4) (c : DriveChain) (l : Live) (start : ℕ) (d : Talk ReadTask) (g h : Objects Obj) (m n : Heard) (cause : Cause) (k : ClosesWeb (three_of c) g h cause m n) where
  abbrev closing : SendTo
  closing = outgoing_message (link_of (ask_of isn own l)) (closing_segment isn (phase_of isn d))

  module _ (carrier : who.carrier ≡ Tcp) (server : l.server ≡ who.server.0) (from : l.own ≡ who.own_port) (chained : AreChained g (drive_ids c)) (hosted : AreHosted (three_of c) g) (opened : IsOpenWeb (three_of c) g) (kinds : AreOfDrive c g) (stands : StandsForSession (session_ask isn own i l) start d c g) where
    says : (messages_of (told_below c.unit.0 k.ns) ≡ segments_say 0 None (closing ∷ [])) × (told_above c.unit.0 k.ns ≡ [])
    says = drive_closes (session_ask isn own i l) start d c g h cause k.ns k.own (record { was = chained; is = k.still; hosted = hosted; noded = k.noded; opened = opened; kinds = drive_kinds c g h k.keeps kinds }) stands

    none_up : AreHandedUp (told_above c.unit.0 k.ns)
    none_up = subst AreHandedUp (sym says.1) tt

    pub drive_closing_puts : without_graph (told_records link who k.ns) ≡ send_records link who.number None closing
    drive_closing_puts =
        below_records link who c.unit.0 k.ns none_up ∙ (ap (flat_map (said_records link who)) says.0
        ∙ one_segment link who closing (speaks_on who (link_of (ask_of isn own l)) (closing_segment isn (phase_of isn d)) carrier (ap (λ z. record { 0 = z }) (sym server)) (sym from)) 0 None)

    -- nothing is put where there is no route
    pub drive_hushed : has_route link closing ≡ false → AddsNothing link who k.ns
    drive_hushed lost =
        let none : AllByRecursion DeliversNone (messages_of (told_below c.unit.0 k.ns)) = subst (AllByRecursion DeliversNone) (sym says.0) ((refl, refl, refl), tt) in
        record {
          others = drive_closing_puts ∙ ap (λ b. cond b (sent (put_on link closing (way_of link closing)) ∷ []) []) lost;
          bytes = no_bytes_up c.unit.0 k.ns says.1 none;
          address = no_address_up c.unit.0 k.ns none_up none;
          blocks = blocks_up c.unit.0 k.ns none ∙ ap blocks_among says.1;
          answer = answer_up c.unit.0 k.ns none ∙ ap answer_among says.1;
        }

-- ITS PROMISE

module _ (who : Speaker) (port : ℕ) (own : Ip4) (c : DriveChain) (l : Live) (old new : Objects Obj) (link : Client) (m n : Heard) (cause : Cause) (chained : AreChained old (drive_ids c)) (called : IsSpeakerOf (record { speaker = who; objects = objects.Drive port own c }) l) (k : ClosesWeb (three_of c) old new cause m n) where
  abbrev put : List Out
  put = without_graph (told_records link who k.ns)

  closed_talk : (isn : ℕ) (i : LoginInfo) → who.carrier ≡ Tcp → IsTalkingDrive isn i own c old l → KeepsBy (iscsi isn i) (closed_open l cause link put)
  closed_talk isn i carrier t =
      let talk = session_of isn i l in
      let sent = send_records link l.number None (closing who link isn i own c l l.since talk old new m n cause k) in
      let puts : put ≡ sent = drive_closing_puts who link isn i own c l l.since talk old new m n cause k carrier called.server called.own chained t.hosted t.opened t.kinds t.stands
      ∙ ap (λ z. send_records link z None (closing who link isn i own c l l.since talk old new m n cause k)) (sym called.number) in
      each_last (KeepsAt (session_talking i) (connection_of isn l)) [] l.exchanges (exchange (close cause) link (put ++ (ended l.number cause ∷ []))) t.keeps
      (record { put = close_put isn talk cause; puts = refl; records = ap (λ z. z ++ (ended l.number cause ∷ [])) (puts ∙ sym (append-nil sent)) })

  closed_by : (kind : OpenKind) → who.carrier ≡ carrier_for kind → IsDriveUnderWay kind own c old l → KeepsBy kind (closed_open l cause link put)
  closed_by tftp carrier t = absurd t
  closed_by (http isn) carrier t = absurd t
  closed_by (iscsi isn i) carrier t = closed_talk isn i carrier t
  closed_by (dns id) carrier t = absurd t
  closed_by (dhcp a) carrier t = absurd t
  closed_by ping carrier t = absurd t

-- the user closes them: what the connection says then is what its promise does
pub drive_closed_keeps : (who : Speaker) (port : ℕ) (own : Ip4) (c : DriveChain) (l : Live) (old new : Objects Obj) (link : Client) (m n : Heard) (cause : Cause) → IsOpenOf old (record { speaker = who; objects = objects.Drive port own c }) l
    → (k : ClosesWeb (three_of c) old new cause m n) → Keeps (closed_open l cause link (without_graph (told_records link who k.ns)))
drive_closed_keeps who port own c l old new link m n cause is k = closed_by who port own c l old new link m n cause is.chained is.called k l.kind is.called.carrier is.under_way
