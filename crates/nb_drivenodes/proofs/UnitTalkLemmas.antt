-- Where the messages from below and above lead a logical unit.
use Rattle.std.proofs.Common.{◌≡◌, ℕ, ◌==◌, ◌&&◌, ◌-◌, ◌<◌, ◌≤◌, Bool, true, false, not, List, [], ◌∷◌, ◌++◌, length, take, drop, nat_le, nat_lt, Option, Some, None, refl, ap, sym, ◌∙◌, subst, arith, if◌then◌else◌}
use Rattle.std.proofs.Math.Seq.{take-length}
use Rattle.std.proofs.lemmas.List.{length-drop}
use Rattle.std.proofs.lemmas.Bool.{lt-ltb, le-leb, lt-leb}
use Rattle.nb_conns.specs.Dialogues.{AsksIdly}
use Rattle.nb_iscsipdu.specs.declared.command.Command.{Command}
use Rattle.std.specs.Option.{option_map, is_some}
use Rattle.nb_terms.specs.declared.cause.Cause.{Cause}
use Rattle.nb_effects.specs.declared.effects.Emit.{Emit}
use Rattle.nb_effects.specs.declared.effects.Few.{Few}
use Rattle.nb_effects.specs.declared.effects.Fx.{Fx}
use Rattle.nb_graph.specs.Trace.{Said, NodeEntry, up, down}
use Rattle.nb_conns.specs.ConnEffects.{GoesAbove, GoesBelow, TookAll, closes_for, received_says, emits_of}
use Rattle.std.specs.List.{AllByRecursion}
use Rattle.nb_iscsipdu.specs.PduTexts.{PduParts, pdu_text}
use Rattle.nb_disk.specs.Histories.{SessionNumbers, DiskCall, came, asked, stream_ended, reading, at_work}
use Rattle.nb_disk.specs.DiskAnswers.{disk_answer, session_has_ended, data_range}
use Rattle.nb_disk.specs.DiskStands.{DiskStands, is_out}
use Rattle.nb_disk.specs.Steps.{KeptNumbers}
use Rattle.nb_drivenodes.specs.declared.session_note.SessionNote.{SessionNote}
use Rattle.nb_drivenodes.specs.declared.unit_answer.UnitAnswer.{UnitAnswer}
use Rattle.nb_drivenodes.specs.declared.unit_stage.UnitStage.{UnitStage}
use Rattle.nb_drivenodes.specs.declared.unit_stage.UnitStage.TheVariants.{Unasked, Waiting, Working, Ended}
use Rattle.nb_drivenodes.specs.SessionNotes.{note_in}
use Rattle.nb_drivenodes.specs.DriveEffects.{TextCarrier, DriveEffects, OnlyFirst, drive_say, drive_says, sends_says, text_emit}
use Rattle.nb_drivenodes.specs.SessionTalks.{IsNoEmit}
use Rattle.nb_drivenodes.specs.UnitAnswers.{unit_opened, first_command, unit_answered_by, AnswersUnit}
use Rattle.nb_drivenodes.specs.UnitTalks.{unit_waits, unit_works, unit_over, tagged_below, pdu_in, takes_blocks, blocks_says, answered_says, asks_session, worked_on, unit_begins, unit_starts, unit_takes, unit_lacks, unit_reads, IsUnitAt, before_asking, while_waiting, while_working, once_over, once_unit_cut, UnitOn, session_asked_emit, blocks_emit, answered_emit, UnitDowns, UnitUps, AsksUnit}
use Rattle.nb_drivenodes.proofs.DriveEffectLemmas.{drive-said-by, drive-goes-by, none-said, none-goes, sends-alone}
use Rattle.nb_drivenodes.proofs.UnitLemmas.{unit-rests, quiet-down-unit, and-off}
use Rattle.nb_drivenodes.proofs.UnitAnswerLemmas.{ended-after, given-all}

-- what goes down and up by an answer
downs-said : {L : Type 0} (k : TextCarrier L) (m : Said) (text : Option (List ℕ)) (f : Few (Emit L)) → UnitDowns k text f → drive_say k m f ≡ sends_says m.rec text
downs-said k m None f h = none-said k m f h
downs-said k m (Some text) f h = drive-said-by k m f (Some (text_emit k text)) None h.0 h.1 ∙ ap (λ z. sends_says m.rec (Some z)) (k.same_text text)

downs-go : {L : Type 0} (k : TextCarrier L) (text : Option (List ℕ)) (f : Few (Emit L)) → UnitDowns k text f → AllByRecursion GoesBelow (emits_of f)
downs-go k None f h = none-goes GoesBelow f h
downs-go k (Some text) f h = drive-goes-by GoesBelow f (Some (text_emit k text)) None h.0 h.1 (refl, tt)

blocks-said : {L : Type 0} (k : TextCarrier L) (m : Said) (len : ℕ) → len ≡ length m.bytes → drive_says k m (blocks_emit len) ≡ received_says m.rec (drop 48 m.bytes)
blocks-said k m len all =
    let same : len - 48 ≡ length (drop 48 m.bytes) = omega (arith, all, length-drop 48 m.bytes) in
    ap (λ z. received_says m.rec z) (ap (λ z. take z (drop 48 m.bytes)) same ∙ take-length (drop 48 m.bytes))

abbrev given_so : ℕ → Bool → List ℕ → List Said
given_so rec gives bytes = if gives then received_says rec bytes ∷ [] else []

ups-said : {L : Type 0} (k : TextCarrier L) (m : Said) (len chap : ℕ) (gives : Bool) (answered : Option ℕ) (f : Few (Emit L)) → len ≡ length m.bytes → UnitUps len chap gives answered f
    → drive_say k m f ≡ given_so m.rec gives (drop 48 m.bytes) ++ answered_says m.rec chap answered
ups-said k m len chap false None f all h = none-said k m f h
ups-said k m len chap true None f all h = drive-said-by k m f (Some (blocks_emit len)) None h.0 h.1 ∙ ap (λ z. z ∷ []) (blocks-said k m len all)
ups-said k m len chap false (Some capacity) f all h = drive-said-by k m f (Some (answered_emit capacity chap)) None h.0 h.1
ups-said k m len chap true (Some capacity) f all h = drive-said-by k m f (Some (blocks_emit len)) (Some (answered_emit capacity chap)) h.0 h.1 ∙ ap (λ z. z ∷ answered_says m.rec chap (Some capacity)) (blocks-said k m len all)

ups-go : {L : Type 0} (len chap : ℕ) (gives : Bool) (answered : Option ℕ) (f : Few (Emit L)) → UnitUps len chap gives answered f → AllByRecursion GoesAbove (emits_of f)
ups-go len chap false None f h = none-goes GoesAbove f h
ups-go len chap true None f h = drive-goes-by GoesAbove f (Some (blocks_emit len)) None h.0 h.1 (refl, tt)
ups-go len chap false (Some capacity) f h = drive-goes-by GoesAbove f (Some (answered_emit capacity chap)) None h.0 h.1 (refl, tt)
ups-go len chap true (Some capacity) f h = drive-goes-by GoesAbove f (Some (blocks_emit len)) (Some (answered_emit capacity chap)) h.0 h.1 (refl, (refl, tt))

-- bytes that go up are those of the blocks
blocks-same : (rec : ℕ) (give bytes : List ℕ) → (is_some (data_range (length give)) ≡ true → give ≡ bytes) → given_so rec (is_some (data_range (length give))) bytes ≡ blocks_says rec give
blocks-same rec give bytes same = by (is_some (data_range (length give))) refl
  where
    by : (b : Bool) → is_some (data_range (length give)) ≡ b → given_so rec (is_some (data_range (length give))) bytes ≡ blocks_says rec give
    by true e = ap (λ z. given_so rec (is_some (data_range (length give))) z) (sym (same e))
    by false e = ap (λ b. given_so rec b bytes) e ∙ sym (ap (λ b. given_so rec b give) e)

-- a PDU of the session
pub pdu-asks : {N L : Type 0} (k : TextCarrier L) (m : Said) (o : SessionNumbers) (calls : List DiskCall) (p : PduParts) (len chap : ℕ) (new : KeptNumbers) (a : UnitAnswer) (fx : Fx N L) → pdu_in m.bytes ≡ Some p → drop 48 m.bytes ≡ p.seg → len ≡ length m.bytes
    → AnswersUnit o calls (came m.rec p) new a → AsksUnit k len chap a fx
    → DriveEffects k m (sends_says m.rec (option_map pdu_text (disk_answer o (reading o calls) (came m.rec p)).put)) (blocks_says m.rec (disk_answer o (reading o calls) (came m.rec p)).give ++ answered_says m.rec chap (unit_answered_by o calls (came m.rec p)))
    (closes_for (disk_answer o (reading o calls) (came m.rec p)).over) fx
pdu-asks k m o calls p len chap new a fx is seg all answers asks = record {
  no_make = asks.no_make;
  downs = downs-said k m a.text fx.downs asks.downs ∙ ap (sends_says m.rec) answers.text;
  below = downs-go k a.text fx.downs asks.downs;
  ups = ups-said k m len chap a.gives a.answered fx.ups all asks.ups
      ∙ ap (λ z. given_so m.rec z (drop 48 m.bytes) ++ answered_says m.rec chap a.answered) answers.gives
      ∙ ap (λ z. z ++ answered_says m.rec chap a.answered) (blocks-same m.rec (disk_answer o (reading o calls) (came m.rec p)).give (drop 48 m.bytes) (λ some. given-all o (reading o calls) m.rec p some ∙ sym seg))
      ∙ ap (λ z. blocks_says m.rec (disk_answer o (reading o calls) (came m.rec p)).give ++ answered_says m.rec chap z) answers.answered;
  above = ups-go len chap a.gives a.answered fx.ups asks.ups;
  closes = asks.closes ∙ ap closes_for answers.over;
}

-- where a call leaves it
worked-at : (o : SessionNumbers) (chap : ℕ) (calls : List DiskCall) (call : DiskCall) (new : KeptNumbers) (over : Option Cause) (w : UnitStage) → DiskStands o (calls ++ call ∷ []) new → session_has_ended o (calls ++ call ∷ []) ≡ is_some over
    → w ≡ (if is_some over then Ended else Working new chap) → IsUnitAt w (worked_on o chap (calls ++ call ∷ []) over)
worked-at o chap calls call new None w stands ended stage = subst (λ (z : UnitStage). IsUnitAt z (unit_works o chap (calls ++ call ∷ []))) (sym stage) (while_working new o chap (calls ++ call ∷ []) stands ended)
worked-at o chap calls call new (Some c) w stands ended stage = subst (λ (z : UnitStage). IsUnitAt z (unit_over o chap (calls ++ call ∷ []) (Some c))) (sym stage) (once_over new o chap (calls ++ call ∷ []) (Some c) stands)

pub takes-on : {N L : Type 0} (k : TextCarrier L) (m : Said) (slot now : ℕ) (fx : Fx N L) (old w : UnitStage) (kept new : KeptNumbers) (chap len : ℕ) (p : PduParts) (a : UnitAnswer) → old ≡ Working kept chap → tagged_below 12 slot m ≡ true → pdu_in m.bytes ≡ Some p
    → drop 48 m.bytes ≡ p.seg → len ≡ length m.bytes → TookAll m fx → ((o : SessionNumbers) (calls : List DiskCall) → DiskStands o calls kept → session_has_ended o calls ≡ false → AnswersUnit o calls (came m.rec p) new a) → AsksUnit k len chap a fx
    → w ≡ (if is_some a.over then Ended else Working new chap) → UnitOn k old w (up slot m now true fx)
takes-on k m slot now fx old w kept new chap len p a o tag is seg all took answers asks stage _ before_asking = absurd (let z = o in cc)
takes-on k m slot now fx old w kept new chap len p a o tag is seg all took answers asks stage _ while_waiting = absurd (let z = o in cc)
takes-on k m slot now fx old w kept new chap len p a o tag is seg all took answers asks stage _ (while_working kk b c calls stands on) =
    let same : kk ≡ kept = (let z = o in cc) in
    let kind : c ≡ chap = (let z = o in cc) in
    let so = answers b calls (subst (λ (z : KeptNumbers). DiskStands b calls z) same stands) on in
    let over = (disk_answer b (reading b calls) (came m.rec p)).over in (
      worked_on b c (calls ++ came m.rec p ∷ []) over,
      unit_takes b c calls p slot m now fx tag is took (subst (λ z. DriveEffects k m (sends_says m.rec (option_map pdu_text (disk_answer b (reading b calls) (came m.rec p)).put)) (blocks_says m.rec (disk_answer b (reading b calls) (came m.rec p)).give ++ answered_says m.rec z (unit_answered_by b calls (came m.rec p))) (closes_for over) fx) (sym kind) (pdu-asks k m b calls p len chap new a fx is seg all so asks)),
      worked-at b c calls (came m.rec p) new over w so.stands (ended-after b calls (came m.rec p) on) (stage ∙ ap (λ (z : Option Cause). if is_some z then Ended else Working new chap) so.over ∙ ap (λ z. if is_some over then Ended else Working new z) (sym kind)),
    )
takes-on k m slot now fx old w kept new chap len p a o tag is seg all took answers asks stage _ (once_over kk b c calls over stands) = absurd (let z = o in cc)
takes-on k m slot now fx old w kept new chap len p a o tag is seg all took answers asks stage _ once_unit_cut = absurd (let z = o in cc)

-- no further PDU comes
pub lacks-on : {N L : Type 0} (k : TextCarrier L) (m : Said) (slot now : ℕ) (fx : Fx N L) (old w : UnitStage) (kept new : KeptNumbers) (chap : ℕ) (a : UnitAnswer) → old ≡ Working kept chap → tagged_below 8 slot m ≡ true → TookAll m fx
    → ((o : SessionNumbers) (calls : List DiskCall) → DiskStands o calls kept → session_has_ended o calls ≡ false → AnswersUnit o calls (stream_ended m.rec) new a) → DriveEffects k m [] [] (closes_for a.over) fx
    → w ≡ (if is_some a.over then Ended else Working new chap) → UnitOn k old w (up slot m now true fx)
lacks-on k m slot now fx old w kept new chap a o tag took answers asks stage _ before_asking = absurd (let z = o in cc)
lacks-on k m slot now fx old w kept new chap a o tag took answers asks stage _ while_waiting = absurd (let z = o in cc)
lacks-on k m slot now fx old w kept new chap a o tag took answers asks stage _ (while_working kk b c calls stands on) =
    let same : kk ≡ kept = (let z = o in cc) in
    let kind : c ≡ chap = (let z = o in cc) in
    let so = answers b calls (subst (λ (z : KeptNumbers). DiskStands b calls z) same stands) on in
    let over = (disk_answer b (reading b calls) (stream_ended m.rec)).over in (
      worked_on b c (calls ++ stream_ended m.rec ∷ []) over,
      unit_lacks b c calls slot m now fx tag took (subst (λ (z : Option Cause). DriveEffects k m [] [] (closes_for z) fx) so.over asks),
      worked-at b c calls (stream_ended m.rec) new over w so.stands (ended-after b calls (stream_ended m.rec) on) (stage ∙ ap (λ (z : Option Cause). if is_some z then Ended else Working new chap) so.over ∙ ap (λ z. if is_some over then Ended else Working new z) (sym kind)),
    )
lacks-on k m slot now fx old w kept new chap a o tag took answers asks stage _ (once_over kk b c calls over stands) = absurd (let z = o in cc)
lacks-on k m slot now fx old w kept new chap a o tag took answers asks stage _ once_unit_cut = absurd (let z = o in cc)

-- the session is open
pub starts-on : {N L : Type 0} (k : TextCarrier L) (m : Said) (slot now : ℕ) (fx : Fx N L) (old : UnitStage) (new : KeptNumbers) (n : SessionNote) → old ≡ Waiting → tagged_below 11 slot m ≡ true → note_in m.bytes ≡ Some n → TookAll m fx
    → DiskStands (unit_opened n m.a) [] new → DriveEffects k m (sends_says m.rec (Some (first_command (unit_opened n m.a)))) [] [] fx → UnitOn k old (Working new m.b) (up slot m now true fx)
starts-on k m slot now fx old new n o tag is took stands effects _ before_asking = absurd (let z = o in cc)
starts-on k m slot now fx old new n o tag is took stands effects _ while_waiting = (unit_works (unit_opened n m.a) m.b [], unit_starts n slot m now fx tag is took effects, while_working new (unit_opened n m.a) m.b [] stands refl)
starts-on k m slot now fx old new n o tag is took stands effects _ (while_working kk b c calls st on) = absurd (let z = o in cc)
starts-on k m slot now fx old new n o tag is took stands effects _ (once_over kk b c calls over st) = absurd (let z = o in cc)
starts-on k m slot now fx old new n o tag is took stands effects _ once_unit_cut = absurd (let z = o in cc)

-- the session is asked for
pub unit-begins-on : {N L : Type 0} (k : TextCarrier L) (m : Said) (now : ℕ) (fx : Fx N L) (old : UnitStage) (len : ℕ) → old ≡ Unasked → m.tag ≡ 1 → len ≡ length m.bytes → fx.makes ≡ None → OnlyFirst (session_asked_emit m.a m.b len) fx.downs → IsNoEmit fx.ups → fx.closes.items ≡ []
    → UnitOn k old Waiting (down m now true fx)
unit-begins-on k m now fx old len o tag all mk d u c _ before_asking = (unit_waits, unit_begins m now fx tag effects, while_waiting)
  where
    effects : DriveEffects k m (asks_session m) [] [] fx
    effects = record {
      no_make = mk;
      downs = drive-said-by k m fx.downs (Some (session_asked_emit m.a m.b len)) None d.first d.second
          ∙ ap (λ z. record { tag = 1; rec = m.rec; a = m.a; b = m.b; bytes = z } ∷ []) (ap (λ z. take z m.bytes) (let same : len - 0 ≡ length m.bytes = omega (arith, all) in same) ∙ take-length m.bytes);
      below = drive-goes-by GoesBelow fx.downs (Some (session_asked_emit m.a m.b len)) None d.first d.second (refl, tt);
      ups = none-said k m fx.ups u;
      above = none-goes GoesAbove fx.ups u;
      closes = c;
    }
unit-begins-on k m now fx old len o tag all mk d u c _ while_waiting = absurd (let z = o in cc)
unit-begins-on k m now fx old len o tag all mk d u c _ (while_working kk b x calls st on) = absurd (let z = o in cc)
unit-begins-on k m now fx old len o tag all mk d u c _ (once_over kk b x calls over st) = absurd (let z = o in cc)
unit-begins-on k m now fx old len o tag all mk d u c _ once_unit_cut = absurd (let z = o in cc)

-- blocks are asked for
pub reads-on : {N L : Type 0} (k : TextCarrier L) (m : Said) (now : ℕ) (fx : Fx N L) (old : UnitStage) (kept new : KeptNumbers) (chap : ℕ) (text : List ℕ) → old ≡ Working kept chap → m.tag ≡ 13
    → ((o : SessionNumbers) (calls : List DiskCall) → DiskStands o calls kept → session_has_ended o calls ≡ false → takes_blocks o calls m.a m.b ≡ true)
    → ((o : SessionNumbers) (calls : List DiskCall) → DiskStands o calls kept → DiskStands o (calls ++ asked m.a m.b ∷ []) new × (Some text ≡ option_map pdu_text (disk_answer o (reading o calls) (asked m.a m.b)).put))
    → fx.makes ≡ None → OnlyFirst (text_emit k text) fx.downs → IsNoEmit fx.ups → fx.closes.items ≡ [] → UnitOn k old (Working new chap) (down m now true fx)
reads-on k m now fx old kept new chap text o tag takes stands mk d u c _ before_asking = absurd (let z = o in cc)
reads-on k m now fx old kept new chap text o tag takes stands mk d u c _ while_waiting = absurd (let z = o in cc)
reads-on k m now fx old kept new chap text o tag takes stands mk d u c _ (while_working kk b x calls st on) =
    let same : kk ≡ kept = (let z = o in cc) in
    let kind : x ≡ chap = (let z = o in cc) in
    let here = subst (λ (z : KeptNumbers). DiskStands b calls z) same st in
    let so = stands b calls here in (
      unit_works b x (calls ++ asked m.a m.b ∷ []),
      unit_reads b x calls m now fx tag (takes b calls here on) (subst (λ (z : Option (List ℕ)). DriveEffects k m (sends_says m.rec z) [] [] fx) so.1 (sends-alone k m text fx mk d u c)),
      subst (λ z. IsUnitAt (Working new z) (unit_works b x (calls ++ asked m.a m.b ∷ []))) kind (while_working new b x (calls ++ asked m.a m.b ∷ []) so.0 (ended-after b calls (asked m.a m.b) on)),
    )
reads-on k m now fx old kept new chap text o tag takes stands mk d u c _ (once_over kk b x calls over st) = absurd (let z = o in cc)
reads-on k m now fx old kept new chap text o tag takes stands mk d u c _ once_unit_cut = absurd (let z = o in cc)

-- WHETHER BLOCKS MAY BE ASKED FOR

pub takes-true : (o : SessionNumbers) (calls : List DiskCall) (lba n : ℕ) → 1 ≤ n → n ≤ 64 → is_out (reading o calls) lba n ≡ false → at_work (reading o calls) ≡ None → takes_blocks o calls lba n ≡ true
takes-true o calls lba n some few within free =
    ap (λ z. (z && nat_le n 64) && (not (is_out (reading o calls) lba n) && not (is_some (at_work (reading o calls))))) (lt-ltb 0 n (omega (arith, some)))
    ∙ ap (λ z. (true && z) && (not (is_out (reading o calls) lba n) && not (is_some (at_work (reading o calls))))) (le-leb n 64 few)
    ∙ ap (λ z. not z && not (is_some (at_work (reading o calls)))) within
    ∙ ap (λ (z : Option Command). not (is_some z)) free

pub takes-out : (o : SessionNumbers) (calls : List DiskCall) (lba n : ℕ) → is_out (reading o calls) lba n ≡ true → takes_blocks o calls lba n ≡ false
takes-out o calls lba n out = ap (λ z. (nat_lt 0 n && nat_le n 64) && (not z && not (is_some (at_work (reading o calls))))) out ∙ and-off (nat_lt 0 n && nat_le n 64)

pub takes-busy : (o : SessionNumbers) (calls : List DiskCall) (lba n : ℕ) → is_some (at_work (reading o calls)) ≡ true → takes_blocks o calls lba n ≡ false
takes-busy o calls lba n busy =
    ap (λ z. (nat_lt 0 n && nat_le n 64) && (not (is_out (reading o calls) lba n) && not z)) busy
    ∙ ap (λ z. (nat_lt 0 n && nat_le n 64) && z) (and-off (not (is_out (reading o calls) lba n))) ∙ and-off (nat_lt 0 n && nat_le n 64)

pub takes-none : (o : SessionNumbers) (calls : List DiskCall) (lba n : ℕ) → n ≡ 0 → takes_blocks o calls lba n ≡ false
takes-none o calls lba n none = ap (λ z. (nat_lt 0 z && nat_le n 64) && (not (is_out (reading o calls) lba n) && not (is_some (at_work (reading o calls))))) none

pub takes-many : (o : SessionNumbers) (calls : List DiskCall) (lba n : ℕ) → 64 < n → takes_blocks o calls lba n ≡ false
takes-many o calls lba n many =
    ap (λ z. (nat_lt 0 n && z) && (not (is_out (reading o calls) lba n) && not (is_some (at_work (reading o calls))))) (lt-leb n 64 many)
    ∙ ap (λ z. z && (not (is_out (reading o calls) lba n) && not (is_some (at_work (reading o calls))))) (and-off (nat_lt 0 n))

-- a read that isn't put
pub quiet-read-on : {N L : Type 0} (k : TextCarrier L) (m : Said) (now : ℕ) (fx : Fx N L) (old : UnitStage) (kept new : KeptNumbers) (chap : ℕ) → old ≡ Working kept chap → new ≡ kept → m.tag ≡ 13
    → ((o : SessionNumbers) (calls : List DiskCall) → DiskStands o calls kept → session_has_ended o calls ≡ false → takes_blocks o calls m.a m.b ≡ false) → AsksIdly {N = N} {L = L} (down m now true fx) → UnitOn k old (Working new chap) (down m now true fx)
quiet-read-on {N} {L} k m now fx old kept new chap o same tag off idle =
    let entry : NodeEntry N L = down m now true fx in
    subst (λ (z : UnitStage). UnitOn k old z entry) (o ∙ ap (λ (z : KeptNumbers). Working z chap) (sym same))
    (unit-rests k old entry (λ d at. quiet-down-unit old m now fx d (λ e. absurd (let z = e in let y = o in cc))
    (λ kk c b calls w st on. ap (λ z. (m.tag == 13) && z) (off b calls (subst (λ (z : KeptNumbers). DiskStands b calls z) (let z = w in let y = o in cc) st) on) ∙ and-off (m.tag == 13)) at) idle)

-- a message's bytes are a PDU's
pub pdu-is : (all bytes head seg : List ℕ) → all ≡ bytes → head ≡ take 48 bytes → seg ≡ drop 48 bytes → 48 ≤ length bytes → pdu_in all ≡ Some (record { head = head; seg = seg })
pdu-is all bytes head seg same is rest long =
    ap pdu_in same
    ∙ ap (λ (b : Bool). if b then Some (let p : PduParts = record { head = take 48 bytes; seg = drop 48 bytes } in p) else None) (le-leb 48 (length bytes) long)
    ∙ ap (λ (z : List ℕ). Some (let p : PduParts = record { head = z; seg = drop 48 bytes } in p)) (sym is)
    ∙ ap (λ (z : List ℕ). Some (let p : PduParts = record { head = head; seg = z } in p)) (sym rest)

pub pdu-is-none : (all bytes : List ℕ) → all ≡ bytes → length bytes < 48 → pdu_in all ≡ None
pdu-is-none all bytes same short = ap pdu_in same ∙ ap (λ (b : Bool). if b then Some (let p : PduParts = record { head = take 48 bytes; seg = drop 48 bytes } in p) else None) (lt-leb 48 (length bytes) short)
