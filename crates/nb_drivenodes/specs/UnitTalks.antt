-- What a logical unit has done over its trace (RFC 7143), in terms of its core's promise: our own.
use Rattle.std.specs.Prelude.{◌≡◌, ℕ, ◌==◌, ◌&&◌, ◌||◌, Bool, true, false, not, List, [], ◌∷◌, ◌++◌, length, take, drop, nat_le, nat_lt, Option, Some, None, if◌then◌else◌}
use Rattle.std.specs.Option.{option_map, is_some}
use Rattle.nb_terms.specs.declared.cause.Cause.{Cause}
use Rattle.nb_effects.specs.declared.effects.Emit.{Emit}
use Rattle.nb_effects.specs.declared.effects.Few.{Few}
use Rattle.nb_effects.specs.declared.effects.Fx.{Fx}
use Rattle.nb_graph.specs.Trace.{Said, NodeEntry, up, down, closed, time, regain}
use Rattle.nb_conns.specs.declared.stream_tag.StreamTag.TheVariants as stream
use Rattle.nb_conns.specs.StreamTags.{stream_tag_number}
use Rattle.nb_conns.specs.ConnEffects.{TookAll, closes_for, received_says}
use Rattle.nb_conns.specs.Dialogues.{AsksIdly, HandsOnClose}
use Rattle.nb_iscsipdu.specs.PduTexts.{PduParts, pdu_text}
use Rattle.nb_disk.specs.Histories.{SessionNumbers, DiskCall, came, asked, stream_ended, reading, at_work}
use Rattle.nb_disk.specs.DiskAnswers.{disk_answer, session_has_ended, data_range}
use Rattle.nb_disk.specs.DiskStands.{DiskStands, is_out}
use Rattle.nb_disk.specs.Steps.{KeptNumbers}
use Rattle.nb_drivenodes.specs.declared.drive_tag.DriveTag.TheVariants as drive
use Rattle.nb_drivenodes.specs.declared.logical_unit.LogicalUnit.{LogicalUnit}
use Rattle.nb_drivenodes.specs.declared.session_note.SessionNote.{SessionNote}
use Rattle.nb_drivenodes.specs.declared.unit_answer.UnitAnswer.{UnitAnswer}
use Rattle.nb_drivenodes.specs.declared.unit_stage.UnitStage.{UnitStage}
use Rattle.nb_drivenodes.specs.declared.unit_stage.UnitStage.TheVariants.{Unasked, Waiting, Working, Ended}
use Rattle.nb_drivenodes.specs.DriveTags.{drive_tag_number}
use Rattle.nb_drivenodes.specs.SessionNotes.{note_in}
use Rattle.nb_drivenodes.specs.DriveEffects.{TextCarrier, DriveEffects, sends_says, text_emit}
use Rattle.nb_drivenodes.specs.UnitAnswers.{unit_opened, first_command, unit_answered_by}

-- How far a unit is: nothing was asked for; the session was; its commands are at work, with these numbers, by a login
-- with this kind of CHAP, and after these calls of its core; they have ended so; or it ended otherwise.
pub data UnitTalk : Type 0 where
  unit_unasked : UnitTalk
  unit_waits : UnitTalk
  unit_works : (o : SessionNumbers) (chap : ℕ) (calls : List DiskCall) → UnitTalk
  unit_over : (o : SessionNumbers) (chap : ℕ) (calls : List DiskCall) (over : Option Cause) → UnitTalk
  unit_cut : UnitTalk

abbrev pub unit_lives : UnitTalk → Bool
unit_lives unit_unasked = true
unit_lives unit_waits = true
unit_lives (unit_works o chap calls) = true
unit_lives (unit_over o chap calls over) = false
unit_lives unit_cut = false

-- a message by slot 1 with this tag
abbrev pub tagged_below : ℕ → ℕ → Said → Bool
tagged_below tag slot m = (slot == 1) && (m.tag == tag)

-- a PDU's bytes: its head, and its data
abbrev pub pdu_in : List ℕ → Option PduParts
pdu_in bytes = if nat_le 48 (length bytes) then Some (record { head = take 48 bytes; seg = drop 48 bytes }) else None

-- a message from below that counts: the session is open; or of an open one a PDU, or that no further one comes
abbrev pub unit_comes : UnitTalk → ℕ → Said → Bool
unit_comes unit_unasked slot m = false
unit_comes unit_waits slot m = tagged_below (drive_tag_number drive.Opened) slot m && is_some (note_in m.bytes)
unit_comes (unit_works o chap calls) slot m = (tagged_below (drive_tag_number drive.Pdu) slot m && is_some (pdu_in m.bytes)) || tagged_below (stream_tag_number stream.End) slot m
unit_comes (unit_over o chap calls over) slot m = false
unit_comes unit_cut slot m = false

-- blocks are asked for only where they are within the unit, at most 64 at once, while no command is at work
abbrev pub takes_blocks : SessionNumbers → List DiskCall → ℕ → ℕ → Bool
takes_blocks o calls lba n = (nat_lt 0 n && nat_le n 64) && (not (is_out (reading o calls) lba n) && not (is_some (at_work (reading o calls))))

-- a message from above that counts: it asks for the session, or for blocks
abbrev pub unit_asks : UnitTalk → Said → Bool
unit_asks unit_unasked m = m.tag == stream_tag_number stream.Begin
unit_asks unit_waits m = false
unit_asks (unit_works o chap calls) m = (m.tag == drive_tag_number drive.Read) && takes_blocks o calls m.a m.b
unit_asks (unit_over o chap calls over) m = false
unit_asks unit_cut m = false

-- an entry that calls nothing of the core
abbrev pub is_quiet_unit : {N L : Type 0} → UnitTalk → NodeEntry N L → Bool
is_quiet_unit d (up slot m now done fx) = done && not (unit_comes d slot m)
is_quiet_unit d (down m now done fx) = done && not (unit_asks d m)
is_quiet_unit d (closed slot cause now fx) = not (unit_lives d && nat_lt slot 2)
is_quiet_unit d (time now done fx) = done
is_quiet_unit d (regain load) = true

-- it ran out of memory, or a port was closed
abbrev pub is_cut_unit : {N L : Type 0} → UnitTalk → NodeEntry N L → Bool
is_cut_unit d (up slot m now done fx) = not done
is_cut_unit d (down m now done fx) = not done
is_cut_unit d (closed slot cause now fx) = unit_lives d && nat_lt slot 2
is_cut_unit d (time now done fx) = false
is_cut_unit d (regain load) = false

-- what goes up: bytes of the blocks, where there are any, and then that the command at work was answered
abbrev pub blocks_says : ℕ → List ℕ → List Said
blocks_says rec given = if is_some (data_range (length given)) then received_says rec given ∷ [] else []

abbrev pub answered_says : ℕ → ℕ → Option ℕ → List Said
answered_says rec chap None = []
answered_says rec chap (Some capacity) = record { tag = drive_tag_number drive.Answered; rec = rec; a = capacity; b = chap; bytes = [] } ∷ []

-- the session is asked for by the same message
abbrev pub asks_session : Said → List Said
asks_session m = record { tag = stream_tag_number stream.Begin; rec = m.rec; a = m.a; b = m.b; bytes = m.bytes } ∷ []

-- after a call, which may have ended it
abbrev pub worked_on : SessionNumbers → ℕ → List DiskCall → Option Cause → UnitTalk
worked_on o chap calls over = if is_some over then unit_over o chap calls over else unit_works o chap calls

-- One entry of a unit. Each call of the core stands in an entry, and an entry makes no other.
pub data UnitTalks {N L : Type 0} (k : TextCarrier L) : UnitTalk → NodeEntry N L → UnitTalk → Type 0 where
  -- the session is asked for
  unit_begins : (m : Said) (now : ℕ) (fx : Fx N L) → m.tag ≡ stream_tag_number stream.Begin → DriveEffects k m (asks_session m) [] [] fx
      → UnitTalks k unit_unasked (down m now true fx) unit_waits
  -- it is open: the first command is sent
  unit_starts : (n : SessionNote) (slot : ℕ) (m : Said) (now : ℕ) (fx : Fx N L) → tagged_below (drive_tag_number drive.Opened) slot m ≡ true → note_in m.bytes ≡ Some n → TookAll m fx
      → DriveEffects k m (sends_says m.rec (Some (first_command (unit_opened n m.a)))) [] [] fx
      → UnitTalks k unit_waits (up slot m now true fx) (unit_works (unit_opened n m.a) m.b [])
  -- A PDU of the session: what is sent, which bytes of blocks go up, and how it ends, are what all that came calls for.
  unit_takes : (o : SessionNumbers) (chap : ℕ) (calls : List DiskCall) (p : PduParts) (slot : ℕ) (m : Said) (now : ℕ) (fx : Fx N L) → tagged_below (drive_tag_number drive.Pdu) slot m ≡ true → pdu_in m.bytes ≡ Some p → TookAll m fx
      → (let call = came m.rec p in let answer = disk_answer o (reading o calls) call in
      DriveEffects k m (sends_says m.rec (option_map pdu_text answer.put)) (blocks_says m.rec answer.give ++ answered_says m.rec chap (unit_answered_by o calls call)) (closes_for answer.over) fx)
      → UnitTalks k (unit_works o chap calls) (up slot m now true fx) (worked_on o chap (calls ++ came m.rec p ∷ []) (disk_answer o (reading o calls) (came m.rec p)).over)
  -- no further one comes
  unit_lacks : (o : SessionNumbers) (chap : ℕ) (calls : List DiskCall) (slot : ℕ) (m : Said) (now : ℕ) (fx : Fx N L) → tagged_below (stream_tag_number stream.End) slot m ≡ true → TookAll m fx
      → DriveEffects k m [] [] (closes_for (disk_answer o (reading o calls) (stream_ended m.rec)).over) fx
      → UnitTalks k (unit_works o chap calls) (up slot m now true fx) (worked_on o chap (calls ++ stream_ended m.rec ∷ []) (disk_answer o (reading o calls) (stream_ended m.rec)).over)
  -- blocks are asked for
  unit_reads : (o : SessionNumbers) (chap : ℕ) (calls : List DiskCall) (m : Said) (now : ℕ) (fx : Fx N L) → m.tag ≡ drive_tag_number drive.Read → takes_blocks o calls m.a m.b ≡ true
      → DriveEffects k m (sends_says m.rec (option_map pdu_text (disk_answer o (reading o calls) (asked m.a m.b)).put)) [] [] fx
      → UnitTalks k (unit_works o chap calls) (down m now true fx) (unit_works o chap (calls ++ asked m.a m.b ∷ []))
  unit_ends : (d : UnitTalk) (e : NodeEntry N L) → is_cut_unit d e ≡ true → HandsOnClose e → UnitTalks k d e unit_cut
  unit_rests : (d : UnitTalk) (e : NodeEntry N L) → is_quiet_unit d e ≡ true → AsksIdly e → UnitTalks k d e d

-- the entries lead from one to the other
abbrev pub UnitTalksTo : {N L : Type 0} → TextCarrier L → UnitTalk → List (NodeEntry N L) → UnitTalk → Type 0
UnitTalksTo k d [] f = d ≡ f
UnitTalksTo k d (e ∷ t) f = (g : UnitTalk) × UnitTalks k d e g × UnitTalksTo k g t f

-- what the object is meanwhile: its core stands for the calls
pub data IsUnitAt : UnitStage → UnitTalk → Type 0 where
  before_asking : IsUnitAt Unasked unit_unasked
  while_waiting : IsUnitAt Waiting unit_waits
  while_working : (k : KeptNumbers) (o : SessionNumbers) (chap : ℕ) (calls : List DiskCall) → DiskStands o calls k → session_has_ended o calls ≡ false → IsUnitAt (Working k chap) (unit_works o chap calls)
  once_over : (k : KeptNumbers) (o : SessionNumbers) (chap : ℕ) (calls : List DiskCall) (over : Option Cause) → DiskStands o calls k → IsUnitAt Ended (unit_over o chap calls over)
  once_unit_cut : IsUnitAt Ended unit_cut

-- A unit stands for a trace whose entries lead from the beginning to where it is.
pub record UnitStands {N L : Type 0} (k : TextCarrier L) (p : LogicalUnit) (t : List (NodeEntry N L)) : Type 0 where
  pub talk : UnitTalk
  pub run : UnitTalksTo k unit_unasked t talk
  pub at : IsUnitAt p.stage talk

-- wherever the unit was before an entry, it is afterwards where the entry leads
abbrev pub UnitOn : {N L : Type 0} → TextCarrier L → UnitStage → UnitStage → NodeEntry N L → Type 0
UnitOn k old new e = (d : UnitTalk) → IsUnitAt old d → (f : UnitTalk) × UnitTalks k d e f × IsUnitAt new f

-- nothing was asked for yet
abbrev pub IsUnaskedUnit : LogicalUnit → Type 0
IsUnaskedUnit p = p.stage ≡ Unasked

-- THE STEPS

abbrev pub stage_is_ended_unit : UnitStage → Bool
stage_is_ended_unit Unasked = false
stage_is_ended_unit Waiting = false
stage_is_ended_unit (Working k chap) = false
stage_is_ended_unit Ended = true

abbrev pub stage_is_working : UnitStage → Bool
stage_is_working Unasked = false
stage_is_working Waiting = false
stage_is_working (Working k chap) = true
stage_is_working Ended = false

-- the messages that are asked for
abbrev pub session_asked_emit : {L : Type 0} → ℕ → ℕ → ℕ → Emit L
session_asked_emit a b len = record { slot = 1; tag = stream_tag_number stream.Begin; a = a; b = b; from = 0; to = len; load = None }

abbrev pub blocks_emit : {L : Type 0} → ℕ → Emit L
blocks_emit len = record { slot = 0; tag = stream_tag_number stream.Received; a = 0; b = 0; from = 48; to = len; load = None }

abbrev pub answered_emit : {L : Type 0} → ℕ → ℕ → Emit L
answered_emit capacity chap = record { slot = 0; tag = drive_tag_number drive.Answered; a = capacity; b = chap; from = 0; to = 0; load = None }

-- the downs and ups that an answer asks for, of a message of so many bytes
abbrev pub UnitDowns : {L : Type 0} → TextCarrier L → Option (List ℕ) → Few (Emit L) → Type 0
UnitDowns k None f = (f.first ≡ None) × (f.second ≡ None)
UnitDowns k (Some text) f = (f.first ≡ Some (text_emit k text)) × (f.second ≡ None)

abbrev pub UnitUps : {L : Type 0} → ℕ → ℕ → Bool → Option ℕ → Few (Emit L) → Type 0
UnitUps len chap false None f = (f.first ≡ None) × (f.second ≡ None)
UnitUps len chap true None f = (f.first ≡ Some (blocks_emit len)) × (f.second ≡ None)
UnitUps len chap false (Some capacity) f = (f.first ≡ Some (answered_emit capacity chap)) × (f.second ≡ None)
UnitUps len chap true (Some capacity) f = (f.first ≡ Some (blocks_emit len)) × (f.second ≡ Some (answered_emit capacity chap))

-- an entry asks for what an answer says
pub record AsksUnit {N L : Type 0} (k : TextCarrier L) (len chap : ℕ) (a : UnitAnswer) (fx : Fx N L) : Type 0 where
  pub no_make : fx.makes ≡ None
  pub downs : UnitDowns k a.text fx.downs
  pub ups : UnitUps len chap a.gives a.answered fx.ups
  pub closes : fx.closes.items ≡ closes_for a.over
