-- What an entry of a drive's objects asks for: our own.
use Rattle.std.specs.Prelude.{◌≡◌, ℕ, List, [], ◌∷◌, ◌++◌, take, map, Option, Some, None}
use Rattle.std.specs.List.{AllByRecursion}
use Rattle.nb_terms.specs.declared.cause.Cause.{Cause}
use Rattle.nb_effects.specs.declared.effects.Emit.{Emit}
use Rattle.nb_effects.specs.declared.effects.Few.{Few}
use Rattle.nb_effects.specs.declared.effects.Fx.{Fx}
use Rattle.nb_graph.specs.Trace.{Said, carries, Nature}
use Rattle.nb_conns.specs.declared.stream_tag.StreamTag.TheVariants as stream
use Rattle.nb_conns.specs.StreamTags.{stream_tag_number}
use Rattle.nb_conns.specs.ConnEffects.{emits_of, GoesAbove, GoesBelow}
use Rattle.nb_login.specs.declared.session.Session.{Session}
use Rattle.nb_iscsipdu.specs.PduTexts.{PduParts}
use Rattle.nb_drivenodes.specs.declared.drive_tag.DriveTag.TheVariants as drive
use Rattle.nb_drivenodes.specs.DriveTags.{drive_tag_number}
use Rattle.nb_drivenodes.specs.SessionNotes.{note_bytes, note_of}

-- how a text is one of a graph's loads, with its bytes
pub record TextCarrier (L : Type 0) : Type 0 where
  pub as_load : List ℕ → L
  pub load_bytes : L → List ℕ
  pub same_text : (text : List ℕ) → load_bytes (as_load text) ≡ text

-- the bytes of a load, as nb_graph knows them
abbrev pub text_nature : {L : Type 0} → TextCarrier L → Nature L L
text_nature k = record { kind = λ _. 0; mark = λ _. 0; bytes = k.load_bytes }

-- what one says, where the entry has the message m
abbrev pub drive_says : {L : Type 0} → TextCarrier L → Said → Emit L → Said
drive_says k m e = record { tag = e.tag; rec = m.rec; a = e.a; b = e.b; bytes = carries (text_nature k) m.bytes e.from e.to e.load }

abbrev pub drive_say : {L : Type 0} → TextCarrier L → Said → Few (Emit L) → List Said
drive_say k m f = map (drive_says k m) (emits_of f)

-- THE MESSAGES

-- bytes are sent, if there are some to send
abbrev pub sends_says : ℕ → Option (List ℕ) → List Said
sends_says rec None = []
sends_says rec (Some text) = record { tag = stream_tag_number stream.Send; rec = rec; a = 0; b = 0; bytes = text } ∷ []

-- the connection is asked for, and given the first request
abbrev pub conn_says : Said → List ℕ → List Said
conn_says m text = record { tag = stream_tag_number stream.Begin; rec = m.rec; a = 0; b = 0; bytes = take 16 m.bytes } ∷ sends_says m.rec (Some text)

-- a session is open: where no request is put, and there is one
abbrev pub opens_says : ℕ → Option (List ℕ) → Option Session → List Said
opens_says rec (Some text) session = []
opens_says rec None None = []
opens_says rec None (Some s) = record { tag = drive_tag_number drive.Opened; rec = rec; a = s.exp_stat_sn; b = s.chap; bytes = note_bytes (note_of s) } ∷ []

-- a PDU: its head, and its data without padding
abbrev pub pdu_says : ℕ → PduParts → List Said
pdu_says rec p = record { tag = drive_tag_number drive.Pdu; rec = rec; a = 0; b = 0; bytes = p.head ++ p.seg } ∷ []

-- no PDU comes any more
abbrev pub stream_end_says : ℕ → List Said
stream_end_says rec = record { tag = stream_tag_number stream.End; rec = rec; a = 0; b = 0; bytes = [] } ∷ []

-- An entry with the message m asks for this: downs leave by slot 1 and ups by slot 0, and these ports are closed.
pub record DriveEffects {N L : Type 0} (k : TextCarrier L) (m : Said) (asked given : List Said) (shut : List (ℕ × Cause)) (fx : Fx N L) : Type 0 where
  pub no_make : fx.makes ≡ None
  pub downs : drive_say k m fx.downs ≡ asked
  pub below : AllByRecursion GoesBelow (emits_of fx.downs)
  pub ups : drive_say k m fx.ups ≡ given
  pub above : AllByRecursion GoesAbove (emits_of fx.ups)
  pub closes : fx.closes.items ≡ shut

-- THE MESSAGES THAT ARE ASKED FOR

abbrev pub conn_asked_emit : {L : Type 0} → Emit L
conn_asked_emit = record { slot = 1; tag = stream_tag_number stream.Begin; a = 0; b = 0; from = 0; to = 16; load = None }

abbrev pub text_emit : {L : Type 0} → TextCarrier L → List ℕ → Emit L
text_emit k text = record { slot = 1; tag = stream_tag_number stream.Send; a = 0; b = 0; from = 0; to = 0; load = Some (k.as_load text) }

abbrev pub passed_emit : {L : Type 0} → ℕ → Emit L
passed_emit len = record { slot = 1; tag = stream_tag_number stream.Send; a = 0; b = 0; from = 0; to = len; load = None }

abbrev pub opened_emit : {L : Type 0} → TextCarrier L → List ℕ → ℕ → ℕ → Emit L
opened_emit k note exp_stat_sn chap = record { slot = 0; tag = drive_tag_number drive.Opened; a = exp_stat_sn; b = chap; from = 0; to = 0; load = Some (k.as_load note) }

abbrev pub pdu_emit : {L : Type 0} → TextCarrier L → List ℕ → Emit L
pdu_emit k text = record { slot = 0; tag = drive_tag_number drive.Pdu; a = 0; b = 0; from = 0; to = 0; load = Some (k.as_load text) }

abbrev pub stream_end_emit : {L : Type 0} → Emit L
stream_end_emit = record { slot = 0; tag = stream_tag_number stream.End; a = 0; b = 0; from = 0; to = 0; load = None }

-- one message alone
pub record OnlyFirst {L : Type 0} (e : Emit L) (f : Few (Emit L)) : Type 0 where
  pub first : f.first ≡ Some e
  pub second : f.second ≡ None

-- the downs ask for the connection and give it the text
pub record AsksConn {L : Type 0} (k : TextCarrier L) (text : List ℕ) (f : Few (Emit L)) : Type 0 where
  pub first : f.first ≡ Some conn_asked_emit
  pub second : f.second ≡ Some (text_emit k text)
