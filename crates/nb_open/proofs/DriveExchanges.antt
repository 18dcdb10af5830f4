-- What comes to a drive, by the messages of the call and what its promise puts.
use Rattle.std.proofs.Common.{◌≡◌, ℕ, not, Bool, true, false, cond, List, [], ◌∷◌, ◌++◌, Option, Some, None, refl, sym, ◌∙◌, ap, subst, append-nil, unwrap_or}
use Rattle.std.specs.List.{list_any}
use Rattle.nb_terms.specs.declared.acts.SendTo.{SendTo}
use Rattle.nb_terms.specs.declared.cause.Cause.{Cause}
use Rattle.nb_defs.specs.Records.{Out}
use Rattle.nb_graph.specs.Noded.{AreNoded}
use Rattle.nb_graph.specs.Whole.{Objects}
use Rattle.nb_ledger.specs.Flat.{Heard, Notice}
use Rattle.nb_login.specs.declared.info.LoginInfo.{LoginInfo}
use Rattle.nb_nodes.specs.declared.obj.Obj.{Obj}
use Rattle.nb_nodes.specs.Objects.{rank_of_obj}
use Rattle.nb_opens.specs.Notices.{first_close}
use Rattle.nb_sans.specs.Sessions.{ReadTask}
use Rattle.nb_stack.specs.Client.{Client}
use Rattle.nb_streams.specs.Sending.{closing_segment}
use Rattle.nb_talks.specs.Talking.{Talk}
use Rattle.nb_talks.specs.TalkPromises.{Put, Sends, phase_of}
use Rattle.nb_tcp.specs.Messages.{outgoing_message}
use Rattle.nb_wire.specs.declared.address.Ip4.{Ip4}
use Rattle.nb_machine.specs.CommandRecords.{no_route}
use Rattle.nb_machine.specs.Connections.{Connection, KeepsAt, PutsAt, connection_of, loses_way, put_records, segment_records, talk_end}
use Rattle.nb_machine.specs.Drives.{session_of, session_talking}
use Rattle.nb_machine.specs.Kinds.{Keeps, KeepsBy, fetched_by, granted_of, moved_by, resolved_of}
use Rattle.nb_machine.specs.Lives.{Live, OpenInput, exchange, iscsi}
use Rattle.nb_machine.specs.Sendings.{advance_records, has_route}
use Rattle.nb_machine.specs.Transfers.{earlier_end, end_records}
use Rattle.nb_chains.specs.Chains.{AreChained}
use Rattle.nb_teller.specs.declared.speaker.Speaker.{Speaker}
use Rattle.nb_teller.specs.Deliveries.{delivered_address, delivered_answer, delivered_blocks}
use Rattle.nb_teller.specs.Tellings.{any_lacks_route}
use Rattle.nb_drivechains.specs.declared.drive_chain.DriveChain.{DriveChain}
use Rattle.nb_drivechains.specs.DriveChains.{AreOfDrive, drive_ids, three_of}
use Rattle.nb_drivetalks.specs.SessionStands.{StandsForSession}
use Rattle.nb_webchains.specs.WebCalls.{ClosesWeb, ComesOfWeb, goes_on, has_closed}
use Rattle.nb_webchains.specs.WebChains.{IsOpenWeb, IsShutWeb}
use Rattle.nb_webtalks.proofs.Starting.{are_hosted}
use Rattle.nb_open.specs.declared.objects.OpenObjects.TheVariants as objects
use Rattle.nb_open.specs.declared.open.Open.{Open}
use Rattle.nb_open.specs.DriveAnswers.{AnswersFor, AnswersLast}
use Rattle.nb_open.specs.Exchanges.{with_exchange}
use Rattle.nb_open.specs.Open.{IsDriveUnderWay, IsOpenOf, IsSpeakerOf, IsTalkingDrive, carrier_for, session_ask}
use Rattle.nb_open.proofs.Doings.{Did, Goes, Overs, goes, last_by, overs, put_by}
use Rattle.nb_open.proofs.DriveCloses.{drive_hushed}
use Rattle.nb_open.proofs.DrivePuts.{AreHandedUp}
use Rattle.nb_drivetalks.specs.Tellings.{told_above}
use Rattle.nb_open.proofs.Quiet.{AddsNothing}
use Rattle.nb_open.proofs.WebCloses.{each_last}

any_same : (b : Bool) (sends : Sends) → list_any (λ s. not b) sends ≡ true → b ≡ false
any_same true [] h = absurd (cc)
any_same true (s ∷ sends) h = any_same true sends h
any_same false sends h = refl

module _ (who : Speaker) (port : ℕ) (own : Ip4) (c : DriveChain) (l : Live) (old new : Objects Obj) (link : Client) (isn : ℕ) (i : LoginInfo) (came : OpenInput) (put : Put) (ns : List Notice) where
  abbrev o : Open
  o = record { speaker = who; objects = objects.Drive port own c }

  abbrev conn : Connection
  conn = connection_of isn l

  abbrev talk : Talk ReadTask
  talk = session_of isn i l

  -- What is known of it: it puts so, and the three go on or have ended.
  pub record DriveCalled : Type 0 where
    pub kind : l.kind ≡ iscsi isn i
    pub lives : IsOpenOf old o l
    pub talks : IsTalkingDrive isn i own c old l
    pub puts : PutsAt (session_talking i) conn talk came put
    pub records : put_by o link ns ≡ advance_records l.number put.advance ++ segment_records conn link put.sends
    pub lacks : any_lacks_route link who ns ≡ loses_way conn link put.sends
    pub closes : first_close ns ≡ put.over
    pub comes : ComesOfWeb (three_of c) new ns
    pub kinds : AreOfDrive c new
    pub noded : AreNoded rank_of_obj new
    pub still : AreChained new (drive_ids c)
    pub stands : (outs : List Out) → put.over ≡ None → StandsForSession (session_ask isn own i l) l.since (session_of isn i (with_exchange l came link outs)) c new
    pub unfound : delivered_address ns ≡ None
    pub up : AreHandedUp (told_above c.unit.0 ns)
    pub answers : put.over ≡ None → (any : Client) (outs : List Out) → AnswersFor (objects.Drive port own c) came l (with_exchange l came any outs) (delivered_answer ns) (delivered_blocks ns)
    pub answers_last : (x : Cause) → put.over ≡ Some x → (any : Client) (outs : List Out) → AnswersLast (objects.Drive port own c) came l (with_exchange l came any outs) (delivered_answer ns) (delivered_blocks ns)

  module _ (k : DriveCalled) where
    -- the promise is kept by what it puts with its end
    kept : (outs : List Out) → outs ≡ put_records conn link put → Keeps (with_exchange l came link outs)
    kept outs is =
        subst (λ z. KeepsBy z (with_exchange l came link outs)) (sym k.kind)
        (each_last (KeepsAt (session_talking i) conn) [] l.exchanges (exchange came link outs) k.talks.keeps (record { put = put; puts = k.puts; records = is }))

    -- with this end
    ends_by : (end : Option Cause) → talk_end conn link put ≡ end → put_by o link ns ++ end_records l.number end ≡ put_records conn link put
    ends_by end is = ap (λ z. z ++ end_records l.number end) k.records ∙ ap (λ z. (advance_records l.number put.advance ++ segment_records conn link put.sends) ++ end_records l.number z) (sym is)

    end_is : (over : Option Cause) (lost : Bool) → put.over ≡ over → loses_way conn link put.sends ≡ lost → talk_end conn link put ≡ earlier_end over (cond lost (Some (no_route l.server)) None)
    end_is over lost e g = ap (λ z. earlier_end z (cond (loses_way conn link put.sends) (Some (no_route l.server)) None)) e ∙ ap (λ z. earlier_end over (cond z (Some (no_route l.server)) None)) g

    called_still : (outs : List Out) → IsSpeakerOf o (with_exchange l came link outs)
    called_still outs = let called = k.lives.called in record { number = called.number; server = called.server; own = called.own; device = called.device; kind = called.kind; carrier = called.carrier; asks = called.asks }

    still_open : first_close ns ≡ None → ComesOfWeb (three_of c) new ns → IsOpenWeb (three_of c) new
    still_open none (goes_on still is_open) = is_open
    still_open none (has_closed cause closes shut) = absurd (let z : None ≡ Some cause = sym none ∙ closes in cc)

    all_shut : (x : Cause) → first_close ns ≡ Some x → ComesOfWeb (three_of c) new ns → IsShutWeb (three_of c) new
    all_shut x some (goes_on still is_open) = absurd (let z : None ≡ Some x = sym still ∙ some in cc)
    all_shut x some (has_closed cause closes shut) = shut

    -- where the user closes it then, that finds no route either
    hush : put.over ≡ None → IsOpenWeb (three_of c) new → any_lacks_route link who ns ≡ true → (after : Objects Obj) (m n : Heard) (cause : Cause) (closes : ClosesWeb (three_of c) new after cause m n) → AddsNothing link who closes.ns
    hush over is_open lacks after m n cause closes =
        let d = session_of isn i (with_exchange l came link []) in
        let segment : SendTo = outgoing_message conn.link (closing_segment isn (phase_of isn d)) in
        drive_hushed who link isn i own c l l.since d new after m n cause closes (k.lives.called.carrier ∙ ap carrier_for k.kind) k.lives.called.server k.lives.called.own k.still (are_hosted (three_of c) new k.still k.noded) is_open k.kinds
        (k.stands [] over) (any_same (has_route link segment) put.sends (sym k.lacks ∙ lacks))

    -- it goes on
    drive_goes : put.over ≡ None → Goes o l came link new ns
    drive_goes over =
        let none = k.closes ∙ over in
        let is_open = still_open none k.comes in
        let outs = put_by o link ns in
        record {
          none = none;
          unshut = is_open;
          lives = λ no chained.
              let records = sym (append-nil outs) ∙ ends_by None (end_is None false over (sym k.lacks ∙ no)) in
              record {
                chained = chained;
                called = called_still outs;
                under_way = subst (λ z. IsDriveUnderWay z own c new (with_exchange l came link outs)) (sym k.kind) (record {
                  opened = is_open;
                  kinds = k.kinds;
                  hosted = are_hosted (three_of c) new k.still k.noded;
                  stands = k.stands outs over;
                  keeps = each_last (KeepsAt (session_talking i) conn) [] l.exchanges (exchange came link outs) k.talks.keeps (record { put = put; puts = k.puts; records = records });
                });
              };
          stuck = λ lacks. kept (last_by o l link ns (no_route l.server)) (ends_by (Some (no_route l.server)) (end_is None true over (sym k.lacks ∙ lacks)));
          silent = refl;
          answers = k.answers over;
          up = k.up;
          kinds = record {
            kinds = k.kinds;
            chained = k.still;
            hosted = are_hosted (three_of c) new k.still k.noded;
            ask = session_ask isn own i l;
            start = l.since;
            talk = session_of isn i (with_exchange l came link []);
            stands = k.stands [] over;
          };
          hushed = hush over is_open;
        }

    -- it has ended
    drive_over : (x : Cause) → put.over ≡ Some x → Overs o l came link new ns x
    drive_over x over =
        let last = last_by o l link ns x in
        record {
          closes = k.closes ∙ over;
          shut = all_shut x (k.closes ∙ over) k.comes;
          kept = kept last (ends_by (Some x) (end_is (Some x) (loses_way conn link put.sends) over refl));
          brings = λ well. record {
            body = λ b hands none. ap (λ z. fetched_by z (with_exchange l came link last)) k.kind ∙ sym (ap (λ z. unwrap_or z []) hands.0);
            moved = λ b hands. ap (λ z. moved_by z (with_exchange l came link last)) k.kind ∙ sym hands.1;
          };
          bytes = ap (λ z. granted_of z (with_exchange l came link last).exchanges) k.kind;
          address = ap (λ z. resolved_of z (with_exchange l came link last)) k.kind ∙ sym k.unfound;
          message = λ bytes some. absurd (let no : Some bytes ≡ None = sym some in cc);
          answers = k.answers_last x over;
          up = k.up;
        }

    by_end : (over : Option Cause) → put.over ≡ over → Did o l came link new ns
    by_end None e = goes (drive_goes e)
    by_end (Some x) e = overs x (drive_over x e)

  pub drive_did : DriveCalled → Did o l came link new ns
  drive_did k = by_end k put.over refl
