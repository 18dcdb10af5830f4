-- The user asks of the three of a drive, of which nothing was asked: what the call says of the open, and its close where it found no route.
use Rattle.std.proofs.Common.{◌≡◌, ℕ, true, false, List, [], ◌∷◌, Some, None, sym, ◌∙◌, ap, subst}
use Rattle.std.specs.List.{flat_map, list_any}
use Rattle.nb_terms.specs.declared.acts.SendTo.{SendTo}
use Rattle.nb_terms.specs.declared.cause.Cause.{Cause}
use Rattle.nb_defs.specs.Records.{ended}
use Rattle.nb_ledger.specs.Flat.{Heard, Notice}
use Rattle.nb_graph.specs.Noded.{AreNoded}
use Rattle.nb_graph.specs.Whole.{Objects}
use Rattle.nb_nodes.specs.declared.obj.Obj.{Obj}
use Rattle.nb_nodes.specs.Objects.{rank_of_obj}
use Rattle.nb_chains.specs.Chains.{AreChained}
use Rattle.nb_opens.specs.Notices.{first_close}
use Rattle.nb_stack.specs.Client.{Client}
use Rattle.nb_streams.specs.Sending.{syn}
use Rattle.nb_tcp.specs.Messages.{outgoing_message}
use Rattle.nb_conns.specs.ConnAsks.{link_of}
use Rattle.nb_conns.specs.ConnEffects.{segments_say}
use Rattle.nb_login.specs.declared.info.LoginInfo.{LoginInfo}
use Rattle.nb_sans.specs.Sessions.{session_talker}
use Rattle.nb_talks.specs.Talking.{begun_talk}
use Rattle.nb_traced.specs.Plain.{without_graph}
use Rattle.nb_wire.specs.declared.address.Ip4.{Ip4}
use Rattle.nb_machine.specs.Connections.{KeepsAt, connection_of, put_records, syn_message}
use Rattle.nb_machine.specs.Drives.{session_of}
use Rattle.nb_machine.specs.Kinds.{Keeps, first_records}
use Rattle.nb_machine.specs.Lives.{Live}
use Rattle.nb_machine.specs.Sendings.{has_route}
use Rattle.nb_drivechains.specs.declared.drive_chain.DriveChain.{DriveChain}
use Rattle.nb_drivechains.specs.DriveChains.{AreOfDrive, IsReadyDrive, drive_ids, three_of}
use Rattle.nb_drivechains.proofs.BesideDrives.{drive_kinds, drive_open}
use Rattle.nb_drivenodes.specs.DriveAsks.{ask_parts_of, info_of}
use Rattle.nb_drivetalks.specs.Comings.{DriveBeginComes, begin_comes_so, begin_is_refused, begin_lacks_memory}
use Rattle.nb_drivetalks.specs.SessionStands.{StandsForSession}
use Rattle.nb_drivetalks.specs.Tellings.{told_above, told_below}
use Rattle.nb_webchains.specs.WebCalls.{ClosesWeb}
use Rattle.nb_webchains.specs.WebChains.{IsOpenWeb}
use Rattle.nb_webtalks.specs.TalkStands.{AreHosted}
use Rattle.nb_webtalks.specs.Tellings.{messages_of}
use Rattle.nb_webtalks.proofs.Starting.{are_hosted}
use Rattle.nb_teller.specs.Speakers.{datagram_of}
use Rattle.nb_teller.specs.Tellings.{told_records}
use Rattle.nb_open.specs.declared.objects.OpenObjects.TheVariants as objects
use Rattle.nb_open.specs.declared.open.Open.{Open}
use Rattle.nb_open.specs.declared.opening.Opening.{Opening}
use Rattle.nb_open.specs.declared.opening.DriveOpening.{DriveOpening}
use Rattle.nb_open.specs.declared.opening.Opening.TheVariants.{File, Web, Drive, Name, Lease, Echo}
use Rattle.nb_open.specs.Ends.{closed_open}
use Rattle.nb_open.specs.Making.{AsksDrive}
use Rattle.nb_open.specs.Open.{IsOpenOf, IsSpeakerOf, IsTalkingDrive, session_ask}
use Rattle.nb_open.specs.Opening.{CanOpen, NamesItsTarget, address_by, is_drive_opening, kind_by, live_by}
use Rattle.nb_open.proofs.AskingFirst.{Sets, SetsOrFails, runs_short, sets}
use Rattle.nb_open.proofs.DriveCloses.{drive_closed_keeps}
use Rattle.nb_open.proofs.DriveLaws.{drive_begins}
use Rattle.nb_open.proofs.DrivePuts.{AreHandedUp, below_lacks, below_records}
use Rattle.nb_open.proofs.FirstMessages.{asks_at_first, first_acts_are, first_of}
use Rattle.nb_open.proofs.WebBegins.{closing_puts, no_first, only_last, stays_open}
use Rattle.nb_open.proofs.WebPuts.{one_lacks, one_segment, said_lacks, said_records, speaks_on}

-- WHERE ITS SYN IS ASKED FOR

module _ (a : DriveOpening) (number now : ℕ) (link : Client) (o : Open) (port : ℕ) (own : Ip4) (c : DriveChain) (mid : Objects Obj) (rec : ℕ) (ns : List Notice) (from : own ≡ a.ask.conn.own) (called : IsSpeakerOf o (live_by (Drive a) number now)) where
  abbrev l : Live
  l = live_by (Drive a) number now

  abbrev isn : ℕ
  isn = a.ask.conn.isn

  abbrev info : LoginInfo
  info = info_of a.ask

  abbrev first : SendTo
  first = outgoing_message (link_of a.ask.conn) (syn isn)

  -- the open speaks for its connection
  speaks : datagram_of o.speaker first.to_port first.body.items ≡ first
  speaks = speaks_on o.speaker (link_of a.ask.conn) (syn isn) called.carrier (ap (λ z. record { 0 = z }) (sym called.server)) (sym called.own)

  talks : IsOpenWeb (three_of c) mid → AreOfDrive c mid → AreHosted (three_of c) mid → StandsForSession (ask_parts_of a.ask) now (begun_talk (session_talker info) isn now) c mid → IsTalkingDrive isn info own c mid l
  talks is_open kinds hosted stands = record {
    opened = is_open;
    kinds = kinds;
    hosted = hosted;
    stands = subst (λ z. StandsForSession (session_ask isn z info l) now (begun_talk (session_talker info) isn now) c mid) (sym from) stands;
    keeps = tt;
  }

  pub drive_sets : first_close ns ≡ None → messages_of (told_below c.unit.0 ns) ≡ segments_say rec (Some 1) (first ∷ []) → told_above c.unit.0 ns ≡ [] → IsTalkingDrive isn info own c mid l → Sets (Drive a) number now link o (objects.Drive port own c) mid ns
  drive_sets none says above talking =
      let up : AreHandedUp (told_above c.unit.0 ns) = subst AreHandedUp (sym above) tt in
      let h = asks_at_first o link first ns none
      (below_records link o.speaker c.unit.0 ns up ∙ (ap (flat_map (said_records link o.speaker)) says ∙ (one_segment link o.speaker first speaks rec (Some 1) ∙ sym (first_acts_are link o.speaker.number first))))
      (below_lacks link o.speaker c.unit.0 ns up ∙ (ap (list_any (said_lacks link o.speaker)) says ∙ one_lacks link o.speaker first speaks rec (Some 1))) in
      record {
        none = none;
        under_way = talking;
        up = up;
        found = λ no. ap (λ k. first_of link k first) called.number ∙ h.found no;
        lost = λ yes. (ap (λ k. first_of link k first) called.number ∙ (h.lost yes).0, (h.lost yes).1);
      }

module _ (number now : ℕ) (link : Client) (o : Open) (port : ℕ) (own : Ip4) (c : DriveChain) (old mid : Objects Obj) (rec : ℕ) (m n : Heard) (ready : IsReadyDrive c old) (before : AreNoded rank_of_obj old) (chained : AreChained mid (drive_ids c)) (after : AreNoded rank_of_obj mid) where
  asked_by : (a : DriveOpening) (k : AsksDrive (Drive a) c old mid now rec m n) → NamesItsTarget a → own ≡ a.ask.conn.own → IsSpeakerOf o (live_by (Drive a) number now) → SetsOrFails (Drive a) number now link o (objects.Drive port own c) mid k.does.ns
  asked_by a k can from called = by (drive_begins (ask_parts_of a.ask) c old mid rec now k.bytes m n k.does
      (record { was = ready.ready.chained; is = chained; hosted = are_hosted (three_of c) old ready.ready.chained before; noded = after; opened = drive_open c old ready; kinds = drive_kinds c old mid k.does.keeps ready.kinds }) ready k.asks k.short)
    where
      by : DriveBeginComes (ask_parts_of a.ask) c mid rec now k.does.ns → SetsOrFails (Drive a) number now link o (objects.Drive port own c) mid k.does.ns
      by (begin_lacks_memory memory) = runs_short memory
      by (begin_is_refused name zero says above close) = absurd (let no : Some name ≡ None = sym zero ∙ can.sendable in cc)
      by (begin_comes_so sendable says above none stands) =
          let is_open = stays_open (three_of c) mid k.does.ns none (k.does.comes (drive_open c old ready)) in
          sets (drive_sets a number now link o port own c mid rec k.does.ns from called none says above
          (talks a number now link o port own c mid rec k.does.ns from called is_open (drive_kinds c old mid k.does.keeps ready.kinds) (are_hosted (three_of c) mid chained after) stands))

  -- its first message leaves, or finds no route
  pub drive_begins_so : (a : Opening) (k : AsksDrive a c old mid now rec m n) → is_drive_opening a ≡ true → CanOpen a → own ≡ address_by a → IsSpeakerOf o (live_by a number now) → SetsOrFails a number now link o (objects.Drive port own c) mid k.does.ns
  drive_begins_so (File a) k is can from called = absurd (cc)
  drive_begins_so (Web a) k is can from called = absurd (cc)
  drive_begins_so (Drive a) k is can from called = asked_by a k can from called
  drive_begins_so (Name a) k is can from called = absurd (cc)
  drive_begins_so (Lease a) k is can from called = absurd (cc)
  drive_begins_so (Echo a) k is can from called = absurd (cc)

-- WHERE IT FOUND NO ROUTE

pub drive_closes_silent : (a : Opening) (number now : ℕ) (link : Client) (o : Open) (port : ℕ) (own : Ip4) (c : DriveChain) (mid new : Objects Obj) (cause : Cause) (m n : Heard) → is_drive_opening a ≡ true → IsOpenOf mid (record { speaker = o.speaker; objects = objects.Drive port own c }) (live_by a number now) →
    (closes : ClosesWeb (three_of c) mid new cause m n) → first_records (kind_by a) (live_by a number now) link ≡ None → without_graph (told_records link o.speaker closes.ns) ≡ []
drive_closes_silent (File a) number now link o port own c mid new cause m n is lives closes lost = absurd (cc)
drive_closes_silent (Web a) number now link o port own c mid new cause m n is lives closes lost = absurd (cc)
drive_closes_silent (Drive a) number now link o port own c mid new cause m n is lives closes lost =
    let l = live_by (Drive a) number now in
    let put = without_graph (told_records link o.speaker closes.ns) in
    let keeps : Keeps (closed_open l cause link put) = drive_closed_keeps o.speaker port own c l mid new link m n cause lives closes in
    let conn = connection_of a.ask.conn.isn l in
    let first : KeepsAt _ conn [] _ = keeps.0 in
    let no : has_route link (syn_message conn) ≡ false = no_first (has_route link (syn_message conn)) _ lost in
    only_last put (ended number cause) (first.records ∙ (ap (put_records conn link) first.puts ∙ closing_puts conn link a.ask.conn.isn (session_of a.ask.conn.isn (info_of a.ask) l) cause no))
drive_closes_silent (Name a) number now link o port own c mid new cause m n is lives closes lost = absurd (cc)
drive_closes_silent (Lease a) number now link o port own c mid new cause m n is lives closes lost = absurd (cc)
drive_closes_silent (Echo a) number now link o port own c mid new cause m n is lives closes lost = absurd (cc)
