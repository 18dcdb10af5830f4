-- What comes up to the unit: that the session is open, a PDU of it, or that no further one comes.
use Rattle.std.proofs.Common.{◌≡◌, ◌<◌, ◌^◌, ℕ, ◌||◌, Bool, true, false, not, List, [], ◌∷◌, ◌++◌, length, Option, Some, None, refl, sym, ap, ◌∙◌, subst, arith}
use Rattle.std.specs.Option.{is_some, option_map}
use Rattle.std.proofs.lemmas.Bool.{false≢true}
use Rattle.std.proofs.lemmas.Option.{same_Some}
use Rattle.nb_terms.specs.declared.cause.Cause.{Cause}
use Rattle.nb_ledger.specs.declared.event.Way.TheVariants as way
use Rattle.nb_effects.specs.declared.effects.Fx.{Fx}
use Rattle.nb_graph.specs.Whole.{port_at}
use Rattle.nb_graph.specs.Trace.{Said, up}
use Rattle.nb_graph.specs.Deeds.{Deed, Stage, Holds, Sends, rest, runs_of}
use Rattle.nb_iscsipdu.specs.PduTexts.{PduParts, pdu_text}
use Rattle.nb_login.specs.declared.session.Session.{Session}
use Rattle.nb_login.specs.LoginHistory.{LoginEntry}
use Rattle.nb_conns.specs.declared.stream_tag.StreamTag.TheVariants as stream
use Rattle.nb_conns.specs.StreamTags.{stream_tag_number}
use Rattle.nb_conns.specs.ConnEffects.{TookAll}
use Rattle.nb_conns.specs.Dialogues.{Dialogue}
use Rattle.nb_disk.specs.Histories.{DiskCall, SessionNumbers, came, reading, stream_ended}
use Rattle.nb_disk.specs.DiskAnswers.{broken, disk_answer, opened_of}
use Rattle.nb_drivenodes.specs.declared.drive_tag.DriveTag.TheVariants as drive
use Rattle.nb_drivenodes.specs.declared.session_note.SessionNote.{SessionNote}
use Rattle.nb_drivenodes.specs.DriveAsks.{DriveAskParts}
use Rattle.nb_drivenodes.specs.DriveTags.{drive_tag_number}
use Rattle.nb_drivenodes.specs.SessionNotes.{note_bytes, note_in, note_of}
use Rattle.nb_drivenodes.specs.SessionTalks.{SessionTalk, in_session, session_lives}
use Rattle.nb_drivenodes.specs.UnitAnswers.{unit_answered_by, first_command, unit_opened}
use Rattle.nb_drivenodes.specs.UnitTalks.{UnitTalk, UnitTalks, answered_says, blocks_says, pdu_in, unit_ends, unit_lacks, unit_over, unit_rests, unit_starts, unit_takes, unit_waits, unit_works, worked_on}
use Rattle.nb_nodes.specs.declared.load.Load.{Load}
use Rattle.nb_nodes.specs.declared.obj.Obj.{Obj}
use Rattle.nb_nodes.specs.Carriers.{text_carrier}
use Rattle.nb_nodes.specs.Objects.{obj_nature}
use Rattle.nb_webtalks.proofs.Lowers.{IsBegun, OwesTo}
use Rattle.nb_drivetalks.proofs.Returning.{as_stages, unit_fails}
use Rattle.nb_drivetalks.proofs.Steps.{send_to_unit, unit_given}
use Rattle.nb_drivetalks.proofs.Talks.{ran_out}
use Rattle.nb_drivetalks.proofs.Units.{UnitWent, none_left, text_calls_of, unit_entry, unit_failed, unit_left, unit_silent}
use Rattle.nb_drivetalks.proofs.Walking.{DriveCall, Walk, view}

-- the messages that come up
abbrev pub opened_said : ℕ → Session → Said
opened_said rec s = record { tag = drive_tag_number drive.Opened; rec = rec; a = s.exp_stat_sn; b = s.chap; bytes = note_bytes (note_of s) }

abbrev pub pdu_said : ℕ → PduParts → Said
pdu_said rec p = record { tag = drive_tag_number drive.Pdu; rec = rec; a = 0; b = 0; bytes = p.head ++ p.seg }

abbrev pub end_said : ℕ → Said
end_said rec = record { tag = stream_tag_number stream.End; rec = rec; a = 0; b = 0; bytes = [] }

-- what a unit puts, hands up and ends with, by a call of its core
abbrev pub put_at : SessionNumbers → List DiskCall → DiskCall → Option (List ℕ)
put_at o calls call = option_map pdu_text (disk_answer o (reading o calls) call).put

abbrev pub given_at : ℕ → ℕ → SessionNumbers → List DiskCall → DiskCall → List Said
given_at rec chap o calls call = blocks_says rec (disk_answer o (reading o calls) call).give ++ answered_says rec chap (unit_answered_by o calls call)

abbrev pub over_at : SessionNumbers → List DiskCall → DiskCall → Option Cause
over_at o calls call = (disk_answer o (reading o calls) call).over

module _ {c : DriveCall} {n : ℕ} (gs : List (Stage Obj Load)) {r : SessionTalk} {d : Dialogue} {ms us : List Said} {ds : List (Deed Obj Load)} (others : List Load) (m : Said) (fx : Fx Obj Load) (short : length m.bytes < 2 ^ 32)
    (all : TookAll m fx) where
  -- all of it was taken, so nothing is left
  taken : {u : UnitTalk} → Walk c n (view true true true true) (runs_of obj_nature c.unit m true fx ++ Holds (port_at c.unit 1) way.Up (rest m true fx) ∷ gs) u r d ms us None ds
      → Walk c n (view true true true true) (runs_of obj_nature c.unit m true fx ++ Holds (port_at c.unit 1) way.Up None ∷ gs) u r d ms us None ds
  taken k = as_stages (runs_of obj_nature c.unit m true fx ++ Holds (port_at c.unit 1) way.Up None ∷ gs) (ap (λ o. runs_of obj_nature c.unit m true fx ++ Holds (port_at c.unit 1) way.Up o ∷ gs) (none_left m fx.took short all)) k

-- THE SESSION IS OPEN

module _ {c : DriveCall} {n : ℕ} (gs : List (Stage Obj Load)) {d : Dialogue} {ms us : List Said} {ds : List (Deed Obj Load)} (others : List Load) (rec : ℕ) (s : Session) {q : DriveAskParts} {come : List ℕ} {h : List LoginEntry}
    (noted : note_in (note_bytes (note_of s)) ≡ Some (note_of s)) (short : length (note_bytes (note_of s)) < 2 ^ 32) (begun : IsBegun d) (owes : OwesTo others d) where
  opened_by : (done : Bool) (fx : Fx Obj Load) (u : UnitTalk) → UnitTalks text_carrier unit_waits (up 1 (opened_said rec s) c.now done fx) u
      → Walk c n (view true true true true) (runs_of obj_nature c.unit (opened_said rec s) done fx ++ Holds (port_at c.unit 1) way.Up (rest (opened_said rec s) done fx) ∷ gs) u (in_session q come h) d ms us None ds
      → UnitWent c n gs (unit_works (opened_of s) s.chap []) (in_session q come h) d ms us ds others rec (text_calls_of (Some (first_command (opened_of s))) c.now) [] None
  opened_by false fx u did k = unit_failed (ran_out (unit_fails (Holds (port_at c.unit 1) way.Up None ∷ gs) (opened_said rec s) fx k))
  opened_by true fx _ (unit_starts nn _ _ _ _ tagged is all effects) k =
      let same : nn ≡ note_of s = same_Some nn (note_of s) (sym is ∙ noted) in
      subst (λ (z : SessionNote). UnitWent c n gs (unit_works (unit_opened z s.exp_stat_sn) s.chap []) (in_session q come h) d ms us ds others rec (text_calls_of (Some (first_command (unit_opened z s.exp_stat_sn))) c.now) [] None) same
      (unit_left (unit_entry others (opened_said rec s) fx [] (Some (first_command (unit_opened nn s.exp_stat_sn))) None effects begun owes (taken gs others (opened_said rec s) fx short all k)))
  opened_by true fx _ (unit_ends _ _ cut hands) k = absurd (let z = cut in cc)
  opened_by true fx _ (unit_rests _ _ quiet idle) k = absurd (false≢true (sym (ap (λ z. not (is_some z)) noted) ∙ quiet))

  pub opened_up : Walk c n (view true true true true) (Sends (port_at c.session 0) (opened_said rec s) ∷ gs) unit_waits (in_session q come h) d ms us None ds
      → UnitWent c n gs (unit_works (opened_of s) s.chap []) (in_session q come h) d ms us ds others rec (text_calls_of (Some (first_command (opened_of s))) c.now) [] None
  opened_up k = let y = unit_given (send_to_unit k) in opened_by y.0 y.1 y.2 y.3 y.4

-- A PDU COMES

module _ {c : DriveCall} {n : ℕ} (gs : List (Stage Obj Load)) {d : Dialogue} {ms us : List Said} {ds : List (Deed Obj Load)} (others : List Load) (rec : ℕ) (p : PduParts) (o : SessionNumbers) (chap : ℕ)
    (calls : List DiskCall) {q : DriveAskParts} {come : List ℕ} {h : List LoginEntry}
    (back : pdu_in (p.head ++ p.seg) ≡ Some p) (short : length (p.head ++ p.seg) < 2 ^ 32) (begun : IsBegun d) (owes : OwesTo others d) where
  pdu_by : (done : Bool) (fx : Fx Obj Load) (u : UnitTalk) → UnitTalks text_carrier (unit_works o chap calls) (up 1 (pdu_said rec p) c.now done fx) u
      → Walk c n (view true true true true) (runs_of obj_nature c.unit (pdu_said rec p) done fx ++ Holds (port_at c.unit 1) way.Up (rest (pdu_said rec p) done fx) ∷ gs) u (in_session q come h) d ms us None ds
      → UnitWent c n gs (worked_on o chap (calls ++ came rec p ∷ []) (over_at o calls (came rec p))) (in_session q come h) d ms us ds others rec (text_calls_of (put_at o calls (came rec p)) c.now) (given_at rec chap o calls (came rec p)) (over_at o calls (came rec p))
  pdu_by false fx u did k = unit_failed (ran_out (unit_fails (Holds (port_at c.unit 1) way.Up None ∷ gs) (pdu_said rec p) fx k))
  pdu_by true fx _ (unit_takes _ _ _ z _ _ _ _ tagged is all effects) k =
      subst (λ (y : PduParts). UnitWent c n gs (worked_on o chap (calls ++ came rec y ∷ []) (over_at o calls (came rec y))) (in_session q come h) d ms us ds others rec (text_calls_of (put_at o calls (came rec y)) c.now) (given_at rec chap o calls (came rec y)) (over_at o calls (came rec y))) (same_Some z p (sym is ∙ back))
      (unit_left (unit_entry others (pdu_said rec p) fx (given_at rec chap o calls (came rec z)) (put_at o calls (came rec z)) (over_at o calls (came rec z)) effects begun owes (taken gs others (pdu_said rec p) fx short all k)))
  pdu_by true fx _ (unit_lacks _ _ _ _ _ _ _ tagged all effects) k = absurd (let z = tagged in cc)
  pdu_by true fx _ (unit_ends _ _ cut hands) k = absurd (let z = cut in cc)
  pdu_by true fx _ (unit_rests _ _ quiet idle) k = absurd (false≢true (sym (ap (λ z. not (is_some z || false)) back) ∙ quiet))

  pub pdu_up : Walk c n (view true true true true) (Sends (port_at c.session 0) (pdu_said rec p) ∷ gs) (unit_works o chap calls) (in_session q come h) d ms us None ds
      → UnitWent c n gs (worked_on o chap (calls ++ came rec p ∷ []) (over_at o calls (came rec p))) (in_session q come h) d ms us ds others rec (text_calls_of (put_at o calls (came rec p)) c.now) (given_at rec chap o calls (came rec p)) (over_at o calls (came rec p))
  pdu_up k = let y = unit_given (send_to_unit k) in pdu_by y.0 y.1 y.2 y.3 y.4

-- NO FURTHER ONE COMES

module _ {c : DriveCall} {n : ℕ} (gs : List (Stage Obj Load)) {r : SessionTalk} {d : Dialogue} {ms us : List Said} {ds : List (Deed Obj Load)} (others : List Load) (rec : ℕ) (o : SessionNumbers) (chap : ℕ) (calls : List DiskCall)
    (lives : session_lives r ≡ true) (begun : IsBegun d) (owes : OwesTo others d) where
  end_by : (done : Bool) (fx : Fx Obj Load) (u : UnitTalk) → UnitTalks text_carrier (unit_works o chap calls) (up 1 (end_said rec) c.now done fx) u
      → Walk c n (view true true true true) (runs_of obj_nature c.unit (end_said rec) done fx ++ Holds (port_at c.unit 1) way.Up (rest (end_said rec) done fx) ∷ gs) u r d ms us None ds
      → UnitWent c n gs (unit_over o chap (calls ++ stream_ended rec ∷ []) (Some (broken rec))) r d ms us ds others rec [] [] (Some (broken rec))
  end_by false fx u did k = unit_failed (ran_out (unit_fails (Holds (port_at c.unit 1) way.Up None ∷ gs) (end_said rec) fx k))
  end_by true fx _ (unit_takes _ _ _ z _ _ _ _ tagged is all effects) k = absurd (let y = tagged in cc)
  end_by true fx _ (unit_lacks _ _ _ _ _ _ _ tagged all effects) k =
      unit_left (unit_silent others (end_said rec) fx [] [] (Some (broken rec)) lives effects begun owes refl (taken gs others (end_said rec) fx (omega arith) all k))
  end_by true fx _ (unit_ends _ _ cut hands) k = absurd (let z = cut in cc)
  end_by true fx _ (unit_rests _ _ quiet idle) k = absurd (let z = quiet in cc)

  pub end_up : Walk c n (view true true true true) (Sends (port_at c.session 0) (end_said rec) ∷ gs) (unit_works o chap calls) r d ms us None ds
      → UnitWent c n gs (unit_over o chap (calls ++ stream_ended rec ∷ []) (Some (broken rec))) r d ms us ds others rec [] [] (Some (broken rec))
  end_up k = let y = unit_given (send_to_unit k) in end_by y.0 y.1 y.2 y.3 y.4
