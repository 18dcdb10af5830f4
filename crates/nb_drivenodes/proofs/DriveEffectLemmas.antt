-- What the messages of a drive's objects say.
use Rattle.std.proofs.Common.{◌≡◌, ℕ, ◌-◌, List, [], ◌∷◌, ◌++◌, length, take, map, arith, Option, Some, None, refl, ap, sym, ◌∙◌, subst}
use Rattle.std.proofs.Math.Seq.{take-length}
use Rattle.std.specs.List.{AllByRecursion}
use Rattle.nb_terms.specs.declared.cause.Cause.{Cause}
use Rattle.nb_effects.specs.declared.effects.Emit.{Emit}
use Rattle.nb_effects.specs.declared.effects.Few.{Few}
use Rattle.nb_effects.specs.declared.effects.Fx.{Fx}
use Rattle.nb_graph.specs.Trace.{Said, in_list}
use Rattle.nb_conns.specs.ConnEffects.{emits_of, GoesAbove, GoesBelow}
use Rattle.nb_iscsipdu.specs.PduTexts.{PduParts}
use Rattle.nb_login.specs.declared.session.Session.{Session}
use Rattle.nb_drivenodes.specs.SessionNotes.{note_bytes, note_of}
use Rattle.nb_drivenodes.specs.DriveEffects.{TextCarrier, DriveEffects, OnlyFirst, AsksConn, drive_says, drive_say, sends_says, conn_says, opens_says, pdu_says, stream_end_says, conn_asked_emit, text_emit, passed_emit, opened_emit, pdu_emit, stream_end_emit}
use Rattle.nb_drivenodes.specs.SessionTalks.{IsNoEmit}

-- two messages, by what they are
pub drive-said-by : {L : Type 0} (k : TextCarrier L) (m : Said) (f : Few (Emit L)) (o p : Option (Emit L)) → f.first ≡ o → f.second ≡ p → drive_say k m f ≡ map (drive_says k m) (in_list o ++ in_list p)
drive-said-by {L} k m f o p a b = ap (λ (z : Option (Emit L)). map (drive_says k m) (in_list z ++ in_list f.second)) a ∙ ap (λ (z : Option (Emit L)). map (drive_says k m) (in_list o ++ in_list z)) b

pub drive-goes-by : {L : Type 0} (P : Emit L → Type 0) (f : Few (Emit L)) (o p : Option (Emit L)) → f.first ≡ o → f.second ≡ p → AllByRecursion P (in_list o ++ in_list p) → AllByRecursion P (emits_of f)
drive-goes-by {L} P f o p a b all =
    subst (λ (z : Option (Emit L)). AllByRecursion P (in_list z ++ in_list f.second)) (sym a)
    (subst (λ (z : Option (Emit L)). AllByRecursion P (in_list o ++ in_list z)) (sym b) all)

pub none-said : {L : Type 0} (k : TextCarrier L) (m : Said) (f : Few (Emit L)) → IsNoEmit f → drive_say k m f ≡ []
none-said k m f e = drive-said-by k m f None None e.0 e.1

pub none-goes : {L : Type 0} (P : Emit L → Type 0) (f : Few (Emit L)) → IsNoEmit f → AllByRecursion P (emits_of f)
none-goes P f e = drive-goes-by P f None None e.0 e.1 tt

one-said : {L : Type 0} (k : TextCarrier L) (m : Said) (e : Emit L) (f : Few (Emit L)) → OnlyFirst e f → drive_say k m f ≡ drive_says k m e ∷ []
one-said k m e f o = drive-said-by k m f (Some e) None o.first o.second

one-goes : {L : Type 0} (P : Emit L → Type 0) (e : Emit L) (f : Few (Emit L)) → OnlyFirst e f → P e → AllByRecursion P (emits_of f)
one-goes P e f o p = drive-goes-by P f (Some e) None o.first o.second (p, tt)

text-said : {L : Type 0} (k : TextCarrier L) (m : Said) (text : List ℕ) → drive_says k m (text_emit k text) ∷ [] ≡ sends_says m.rec (Some text)
text-said k m text = ap (λ z. sends_says m.rec (Some z)) (k.same_text text)

-- nothing is sent and nothing goes up
pub closes-alone : {N L : Type 0} (k : TextCarrier L) (m : Said) (shut : List (ℕ × Cause)) (fx : Fx N L) → fx.makes ≡ None → IsNoEmit fx.downs → IsNoEmit fx.ups → fx.closes.items ≡ shut → DriveEffects k m [] [] shut fx
closes-alone k m shut fx mk d u c = record {
  no_make = mk;
  downs = none-said k m fx.downs d;
  below = none-goes GoesBelow fx.downs d;
  ups = none-said k m fx.ups u;
  above = none-goes GoesAbove fx.ups u;
  closes = c;
}

-- a text is sent
pub sends-alone : {N L : Type 0} (k : TextCarrier L) (m : Said) (text : List ℕ) (fx : Fx N L) → fx.makes ≡ None → OnlyFirst (text_emit k text) fx.downs → IsNoEmit fx.ups → fx.closes.items ≡ []
    → DriveEffects k m (sends_says m.rec (Some text)) [] [] fx
sends-alone k m text fx mk d u c = record {
  no_make = mk;
  downs = one-said k m (text_emit k text) fx.downs d ∙ text-said k m text;
  below = one-goes GoesBelow (text_emit k text) fx.downs d refl;
  ups = none-said k m fx.ups u;
  above = none-goes GoesAbove fx.ups u;
  closes = c;
}

-- the message's own bytes are sent
pub passes-alone : {N L : Type 0} (k : TextCarrier L) (m : Said) (len : ℕ) (fx : Fx N L) → len ≡ length m.bytes → fx.makes ≡ None → OnlyFirst (passed_emit len) fx.downs → IsNoEmit fx.ups → fx.closes.items ≡ []
    → DriveEffects k m (sends_says m.rec (Some m.bytes)) [] [] fx
passes-alone k m len fx all mk d u c = record {
  no_make = mk;
  downs = one-said k m (passed_emit len) fx.downs d ∙ ap (λ z. sends_says m.rec (Some z)) (ap (λ z. take z m.bytes) (let same : len - 0 ≡ length m.bytes = omega (arith, all) in same) ∙ take-length m.bytes);
  below = one-goes GoesBelow (passed_emit len) fx.downs d refl;
  ups = none-said k m fx.ups u;
  above = none-goes GoesAbove fx.ups u;
  closes = c;
}

-- the connection is asked for, and given a text
pub asks-conn : {N L : Type 0} (k : TextCarrier L) (m : Said) (text : List ℕ) (fx : Fx N L) → fx.makes ≡ None → AsksConn k text fx.downs → IsNoEmit fx.ups → fx.closes.items ≡ []
    → DriveEffects k m (conn_says m text) [] [] fx
asks-conn k m text fx mk d u c = record {
  no_make = mk;
  downs = drive-said-by k m fx.downs (Some conn_asked_emit) (Some (text_emit k text)) d.first d.second ∙ ap (λ (z : List Said). drive_says k m conn_asked_emit ∷ z) (text-said k m text);
  below = drive-goes-by GoesBelow fx.downs (Some conn_asked_emit) (Some (text_emit k text)) d.first d.second (refl, (refl, tt));
  ups = none-said k m fx.ups u;
  above = none-goes GoesAbove fx.ups u;
  closes = c;
}

-- one message goes up
gives-alone : {N L : Type 0} (k : TextCarrier L) (m : Said) (e : Emit L) (says : List Said) (fx : Fx N L) → fx.makes ≡ None → IsNoEmit fx.downs → OnlyFirst e fx.ups → e.slot ≡ 0 → drive_says k m e ∷ [] ≡ says → fx.closes.items ≡ []
    → DriveEffects k m [] says [] fx
gives-alone k m e says fx mk d u above is c = record {
  no_make = mk;
  downs = none-said k m fx.downs d;
  below = none-goes GoesBelow fx.downs d;
  ups = one-said k m e fx.ups u ∙ is;
  above = one-goes GoesAbove e fx.ups u above;
  closes = c;
}

pub opens-alone : {N L : Type 0} (k : TextCarrier L) (m : Said) (s : Session) (fx : Fx N L) → fx.makes ≡ None → IsNoEmit fx.downs → OnlyFirst (opened_emit k (note_bytes (note_of s)) s.exp_stat_sn s.chap) fx.ups → fx.closes.items ≡ []
    → DriveEffects k m [] (opens_says m.rec None (Some s)) [] fx
opens-alone k m s fx mk d u c =
    gives-alone k m (opened_emit k (note_bytes (note_of s)) s.exp_stat_sn s.chap) (opens_says m.rec None (Some s)) fx mk d u refl
    (ap (λ (z : List ℕ). record (drive_says k m (opened_emit k (note_bytes (note_of s)) s.exp_stat_sn s.chap)) { bytes = z } ∷ []) (k.same_text (note_bytes (note_of s)))) c

pub pdu-alone : {N L : Type 0} (k : TextCarrier L) (m : Said) (p : PduParts) (fx : Fx N L) → fx.makes ≡ None → IsNoEmit fx.downs → OnlyFirst (pdu_emit k (p.head ++ p.seg)) fx.ups → fx.closes.items ≡ []
    → DriveEffects k m [] (pdu_says m.rec p) [] fx
pdu-alone k m p fx mk d u c =
    gives-alone k m (pdu_emit k (p.head ++ p.seg)) (pdu_says m.rec p) fx mk d u refl
    (ap (λ (z : List ℕ). record (drive_says k m (pdu_emit k (p.head ++ p.seg))) { bytes = z } ∷ []) (k.same_text (p.head ++ p.seg))) c

pub end-alone : {N L : Type 0} (k : TextCarrier L) (m : Said) (fx : Fx N L) → fx.makes ≡ None → IsNoEmit fx.downs → OnlyFirst (stream_end_emit {L = L}) fx.ups → fx.closes.items ≡ [] → DriveEffects k m [] (stream_end_says m.rec) [] fx
end-alone {N} {L} k m fx mk d u c = gives-alone k m (stream_end_emit {L = L}) (stream_end_says m.rec) fx mk d u refl refl c
