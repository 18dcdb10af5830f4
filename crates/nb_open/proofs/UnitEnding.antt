-- What a unit hands up where the last call of its drive ends it, and where it stands after calls that don't.
use Rattle.std.proofs.Common.{◌≡◌, ◌⊎◌, inl, inr, ℕ, ◌==◌, ◌&&◌, Bool, true, false, not, cond, nat_lt, nat_le, List, [], ◌∷◌, ◌++◌, fold, Option, Some, None, refl, sym, ap, ◌∙◌, subst, append_assoc, append-nil}
use Rattle.std.specs.Option.{is_some, option_or}
use Rattle.std.specs.List.{AllByRecursion}
use Rattle.std.proofs.lemmas.Bool.{false≢true}
use Rattle.std.proofs.lemmas.List.Sums.{fold-append}
use Rattle.nb_terms.specs.declared.cause.Cause.{Cause}
use Rattle.nb_graph.specs.Trace.{Said}
use Rattle.nb_disk.specs.Histories.{DiskCall, DiskReading, SessionNumbers, after_call, asked, at_work, came, capacity_read, nothing_read, reading, stream_ended}
use Rattle.nb_disk.specs.DiskAnswers.{disk_answer}
use Rattle.nb_disk.specs.DiskStands.{is_out}
use Rattle.nb_drivechains.specs.declared.drive_answer.DriveAnswer.{DriveAnswer}
use Rattle.nb_drivechains.specs.DriveCalls.{drive_answer_in}
use Rattle.nb_drivenodes.specs.UnitAnswers.{unit_answered_by, answered_so}
use Rattle.nb_drivenodes.specs.UnitTalks.{answered_says, blocks_says}
use Rattle.nb_drivetalks.specs.Comings.{IsPart, unit_says, units_say}
use Rattle.nb_drivetalks.proofs.Handing.{units_more}
use Rattle.nb_nodes.specs.declared.tag.Tag.TheVariants.{Bytes}
use Rattle.nb_nodes.specs.Tags.{tag_number}
use Rattle.nb_sans.specs.Sessions.{is_call, over_from, taken_from, takes_read}
use Rattle.nb_open.specs.DriveAnswers.{IsNotRead}
use Rattle.nb_open.proofs.DiskAnswering.{GoesTo, Phase, asked_call, last_of, one_call}
use Rattle.nb_open.proofs.DiskEnding.{EndsAs, ended_call, ends_badly, ends_unread, idle_ended}
use Rattle.nb_open.proofs.DrivePuts.{answer_among, blocks_among}
use Rattle.nb_open.proofs.UnitAnswering.{Handed, all_handed, blocks_given, none_given, or_none, reading_more, told_by}

-- WHERE A DRIVE STANDS

both_true : (a b : Bool) → (a && b) ≡ true → b ≡ true
both_true true b e = e
both_true false b e = absurd (false≢true e)

not_true : (b : Bool) → not b ≡ true → b ≡ false
not_true true e = absurd (false≢true e)
not_true false e = refl

-- a read that is taken finds no command at work
pub idle_takes : (r : DiskReading) (lba n : ℕ) → takes_read r lba n ≡ true → at_work r ≡ None
idle_takes r lba n e =
    by (at_work r) (not_true (is_some (at_work r)) (both_true (not (is_out r lba n)) (not (is_some (at_work r))) (both_true (nat_lt 0 n && nat_le n 64) (not (is_out r lba n) && not (is_some (at_work r))) e)))
  where
    by : {A : Type 0} (w : Option A) → is_some w ≡ false → w ≡ None
    by None e = refl
    by (Some c) e = absurd (false≢true (sym e))

taken_phase : (o : SessionNumbers) (r : DiskReading) (call : DiskCall) → is_call r call ≡ true → Phase r → (disk_answer o r call).over ≡ None → Phase (after_call o r call)
taken_phase o r (came rec p) takes phase over = (one_call o r (came rec p) tt phase over).phase
taken_phase o r (asked lba blocks) takes phase over = asked_call o r lba blocks (idle_takes r lba blocks takes) phase
taken_phase o r (stream_ended rec) takes phase over = (one_call o r (stream_ended rec) tt phase over).phase

-- a drive that goes on after the calls that it took
pub phase_taken : (o : SessionNumbers) (r : DiskReading) (comes : List DiskCall) → Phase r → over_from o r (taken_from o r comes) ≡ None → Phase (fold (after_call o) r (taken_from o r comes))
phase_taken o r [] phase over = phase
phase_taken o r (call ∷ comes) phase over = by (phase_taken o (after_call o r call) comes) (phase_taken o r comes phase) (is_call r call) refl over
  where
    later : List DiskCall
    later = taken_from o (after_call o r call) comes

    on : (Phase (after_call o r call) → over_from o (after_call o r call) later ≡ None → Phase (fold (after_call o) (after_call o r call) later)) → Phase (after_call o r call)
        → (v : Bool) → over_from o (after_call o r call) (cond v [] later) ≡ None → Phase (fold (after_call o) (after_call o r call) (cond v [] later))
    on goes then true over = then
    on goes then false over = goes then over

    by : (Phase (after_call o r call) → over_from o (after_call o r call) later ≡ None → Phase (fold (after_call o) (after_call o r call) later))
        → (over_from o r (taken_from o r comes) ≡ None → Phase (fold (after_call o) r (taken_from o r comes)))
        → (b : Bool) → is_call r call ≡ b → over_from o r (cond b (call ∷ cond (is_some (disk_answer o r call).over) [] later) (taken_from o r comes)) ≡ None
        → Phase (fold (after_call o) r (cond b (call ∷ cond (is_some (disk_answer o r call).over) [] later) (taken_from o r comes)))
    by goes past true takes over =
        let two = or_none (disk_answer o r call).over (over_from o (after_call o r call) (cond (is_some (disk_answer o r call).over) [] later)) over in
        on goes (taken_phase o r call takes phase two.0) (is_some (disk_answer o r call).over) two.1
    by goes past false takes over = past over

-- THE LAST CALL

-- nothing comes after one that ends it
abbrev pub EndsLast : SessionNumbers → DiskReading → List DiskCall → Type 0
EndsLast o r [] = Unit {0}
EndsLast o r (call ∷ calls) = (is_some (disk_answer o r call).over ≡ true → calls ≡ []) × EndsLast o (after_call o r call) calls

pub taken_last : (o : SessionNumbers) (r : DiskReading) (comes : List DiskCall) → EndsLast o r (taken_from o r comes)
taken_last o r [] = tt
taken_last o r (call ∷ comes) = by (taken_last o (after_call o r call) comes) (taken_last o r comes) (is_call r call)
  where
    later : List DiskCall
    later = taken_from o (after_call o r call) comes

    on : EndsLast o (after_call o r call) later → (v : Bool) → is_some (disk_answer o r call).over ≡ v → (is_some (disk_answer o r call).over ≡ true → cond v [] later ≡ []) × EndsLast o (after_call o r call) (cond v [] later)
    on goes true is = ((λ yes. refl), tt)
    on goes false is = ((λ yes. absurd (false≢true (sym is ∙ yes))), goes)

    by : EndsLast o (after_call o r call) later → EndsLast o r (taken_from o r comes) → (b : Bool) → EndsLast o r (cond b (call ∷ cond (is_some (disk_answer o r call).over) [] later) (taken_from o r comes))
    by goes past true = on goes (is_some (disk_answer o r call).over) refl
    by goes past false = past

pub last_after : (o : SessionNumbers) (r : DiskReading) (xs ys : List DiskCall) → EndsLast o r (xs ++ ys) → EndsLast o (fold (after_call o) r xs) ys
last_after o r [] ys h = h
last_after o r (x ∷ xs) ys h = last_after o (after_call o r x) xs ys h.1

-- it ends it after others that don't
pub record EndsAt (o : SessionNumbers) (r : DiskReading) (calls : List DiskCall) (x : Cause) : Type 0 where
  pub first : List DiskCall
  pub last : DiskCall
  pub are : calls ≡ first ++ last ∷ []
  pub goes : over_from o r first ≡ None
  pub over : (disk_answer o (fold (after_call o) r first) last).over ≡ Some x

pub ends_at : (o : SessionNumbers) (r : DiskReading) (calls : List DiskCall) (x : Cause) → EndsLast o r calls → over_from o r calls ≡ Some x → EndsAt o r calls x
ends_at o r [] x last over = absurd (let z = over in cc)
ends_at o r (call ∷ calls) x last over = by (ends_at o (after_call o r call) calls x last.1) (disk_answer o r call).over refl over
  where
    by : (over_from o (after_call o r call) calls ≡ Some x → EndsAt o (after_call o r call) calls x) → (v : Option Cause) → (disk_answer o r call).over ≡ v
        → option_or v (over_from o (after_call o r call) calls) ≡ Some x → EndsAt o r (call ∷ calls) x
    by more None is over =
        let e = more over in
        record { first = call ∷ e.first; last = e.last; are = ap (λ z. call ∷ z) e.are; goes = ap (λ z. option_or z (over_from o (after_call o r call) e.first)) is ∙ e.goes; over = e.over }
    by more (Some y) is over =
        let none : calls ≡ [] = last.0 (ap is_some is) in
        record { first = []; last = call; are = ap (λ z. call ∷ z) none; goes = refl; over = is ∙ over }

-- WHAT IS SAID

answers_both : (ms more : List Said) → answer_among (ms ++ more) ≡ option_or (answer_among ms) (answer_among more)
answers_both [] more = refl
answers_both (m ∷ ms) more = by (drive_answer_in m.tag m.a m.b) (answers_both ms more)
  where
    by : (z : Option DriveAnswer) → answer_among (ms ++ more) ≡ option_or (answer_among ms) (answer_among more) → option_or z (answer_among (ms ++ more)) ≡ option_or (option_or z (answer_among ms)) (answer_among more)
    by None e = e
    by (Some y) e = refl

blocks_both : (ms more : List Said) → blocks_among (ms ++ more) ≡ blocks_among ms ++ blocks_among more
blocks_both [] more = refl
blocks_both (m ∷ ms) more = by (m.tag == tag_number Bytes) (blocks_both ms more)
  where
    by : (b : Bool) → blocks_among (ms ++ more) ≡ blocks_among ms ++ blocks_among more → cond b (m.bytes ++ blocks_among (ms ++ more)) (blocks_among (ms ++ more)) ≡ cond b (m.bytes ++ blocks_among ms) (blocks_among ms) ++ blocks_among more
    by true e = ap (λ z. m.bytes ++ z) e ∙ sym (append_assoc m.bytes (blocks_among ms) (blocks_among more))
    by false e = e

option_none : {A : Type 0} (z : Option A) → option_or z None ≡ z
option_none None = refl
option_none (Some y) = refl

-- what a drive that has ended has answered
abbrev pub GoesLast : DiskReading → DiskReading → Option ℕ → List ℕ → Type 0
GoesLast r q None bytes = ((capacity_read q ≡ capacity_read r) × (last_of q ≡ last_of r)) ⊎ ((capacity : ℕ) × (capacity_read r ≡ Some capacity) × (capacity_read q ≡ Some capacity) × IsNotRead (last_of q) × (last_of r ≡ None))
GoesLast r q (Some capacity) bytes = GoesTo r q (Some capacity) bytes

-- what is handed up by calls of which the last ends it is what these come to
pub record HandedLast (rec chap : ℕ) (o : SessionNumbers) (before calls : List DiskCall) : Type 0 where
  pub answer : Option ℕ
  pub bytes : List ℕ
  pub says_answer : answer_among (units_say rec chap o before calls) ≡ told_by chap answer
  pub says_blocks : blocks_among (units_say rec chap o before calls) ≡ bytes
  pub goes : GoesLast (reading o before) (reading o (before ++ calls)) answer bytes

module _ (rec chap : ℕ) (o : SessionNumbers) (before first : List DiskCall) (last : DiskCall) (is : IsPart last) (x : Cause) (h : Handed rec chap o before first) (over : (disk_answer o (reading o (before ++ first)) last).over ≡ Some x) where
  abbrev r : DiskReading
  r = reading o (before ++ first)

  abbrev given : List ℕ
  given = (disk_answer o r last).give

  all_are : reading o (before ++ (first ++ last ∷ [])) ≡ after_call o r last
  all_are = ap (reading o) (sym (append_assoc before first (last ∷ []))) ∙ reading_more o (before ++ first) last

  -- it answers nothing
  no_answer_by : unit_answered_by o (before ++ first) last ≡ None
  no_answer_by = ap (λ (z : Option Cause). answered_so (is_some z) (is_some (at_work r)) (is_some (at_work (reading o ((before ++ first) ++ last ∷ [])))) (capacity_read (reading o ((before ++ first) ++ last ∷ [])))) over

  says_last : unit_says rec chap o (before ++ first) last ≡ blocks_says rec given ++ []
  says_last = ap (λ z. blocks_says rec given ++ answered_says rec chap z) no_answer_by

  answers_last : answer_among (units_say rec chap o before (first ++ last ∷ [])) ≡ told_by chap h.answer
  answers_last =
      ap answer_among (units_more rec chap o before first last) ∙ answers_both (units_say rec chap o before first) (unit_says rec chap o (before ++ first) last)
      ∙ ap (λ z. option_or (answer_among (units_say rec chap o before first)) (answer_among z)) says_last
      ∙ ap (option_or (answer_among (units_say rec chap o before first))) (none_given rec given []) ∙ option_none (answer_among (units_say rec chap o before first)) ∙ h.says_answer

  blocks_last : blocks_among (units_say rec chap o before (first ++ last ∷ [])) ≡ h.bytes ++ (given ++ [])
  blocks_last =
      ap blocks_among (units_more rec chap o before first last) ∙ blocks_both (units_say rec chap o before first) (unit_says rec chap o (before ++ first) last)
      ∙ ap (λ z. blocks_among (units_say rec chap o before first) ++ blocks_among z) says_last
      ∙ ap (λ z. blocks_among (units_say rec chap o before first) ++ z) (blocks_given rec given []) ∙ ap (λ z. z ++ (given ++ [])) h.says_blocks

  ends_none : GoesTo (reading o before) r None h.bytes → EndsAs r (after_call o r last) → GoesLast (reading o before) (after_call o r last) None (h.bytes ++ (given ++ []))
  ends_none goes (ends_unread size answer) = inl (size ∙ goes.0, answer ∙ goes.1)
  ends_none goes (ends_badly capacity was size bad none) = inr (capacity, sym goes.0 ∙ was, size, bad, sym goes.1 ∙ none)

  ends_some : (capacity : ℕ) → GoesTo (reading o before) r (Some capacity) h.bytes → GoesLast (reading o before) (after_call o r last) (Some capacity) (h.bytes ++ (given ++ []))
  ends_some capacity goes =
      let idle = idle_ended o r last is goes.3 x over in
      let none : h.bytes ++ (given ++ []) ≡ h.bytes = ap (λ z. h.bytes ++ (z ++ [])) idle.0 ∙ append-nil h.bytes in
      subst (λ (z : DiskReading). GoesTo (reading o before) z (Some capacity) (h.bytes ++ (given ++ []))) (sym idle.1) (subst (GoesTo (reading o before) r (Some capacity)) (sym none) goes)

  ends_so : (answer : Option ℕ) → GoesTo (reading o before) r answer h.bytes → GoesLast (reading o before) (after_call o r last) answer (h.bytes ++ (given ++ []))
  ends_so None goes = ends_none goes (ended_call o r last is h.phase x over)
  ends_so (Some capacity) goes = ends_some capacity goes

  handed_last : HandedLast rec chap o before (first ++ last ∷ [])
  handed_last = record {
    answer = h.answer;
    bytes = h.bytes ++ (given ++ []);
    says_answer = answers_last;
    says_blocks = blocks_last;
    goes = subst (λ (z : DiskReading). GoesLast (reading o before) z h.answer (h.bytes ++ (given ++ []))) (sym all_are) (ends_so h.answer h.goes);
  }

-- all but the last come from the stream too
each_first : (P : DiskCall → Type 0) (xs : List DiskCall) (y : DiskCall) → AllByRecursion P (xs ++ y ∷ []) → AllByRecursion P xs × P y
each_first P [] y h = (tt, h.0)
each_first P (x ∷ xs) y h = let z = each_first P xs y h.1 in ((h.0, z.0), z.1)

pub all_handed_last : (rec chap : ℕ) (o : SessionNumbers) (before calls : List DiskCall) (x : Cause) → Phase (reading o before) → AllByRecursion IsPart calls → EndsLast o (reading o before) calls
    → over_from o (reading o before) calls ≡ Some x → HandedLast rec chap o before calls
all_handed_last rec chap o before calls x phase each ends over =
    let e = ends_at o (reading o before) calls x ends over in
    let parts = each_first IsPart e.first e.last (subst (AllByRecursion IsPart) e.are each) in
    let same : reading o (before ++ e.first) ≡ fold (after_call o) (reading o before) e.first = fold-append (after_call o) nothing_read before e.first in
    subst (HandedLast rec chap o before) (sym e.are)
    (handed_last rec chap o before e.first e.last parts.1 x (all_handed rec chap o before e.first phase parts.0 e.goes) (ap (λ (z : DiskReading). (disk_answer o z e.last).over) same ∙ e.over))
