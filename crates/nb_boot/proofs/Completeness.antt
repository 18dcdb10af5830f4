-- With no fault and memory enough, a run ends as its course does.
use Rattle.std.proofs.Common.{◌≡◌, ℕ, ◌<◌, ◌⊎◌, Bool, true, false, inl, inr, List, [], ◌∷◌, ◌++◌, length, Option, Some, None, refl, sym, ◌∙◌, ap, subst, arith, append-nil, append_assoc, length-append}
use Rattle.std.specs.Prelude.{IsSome, IfSome, if◌then◌else◌}
use Rattle.nb_defs.specs.Causes.{is_ok_cause}
use Rattle.nb_defs.specs.Records.{Start, In, start, frame, tick, off, IsIn, in_text, in_texts, IsPartial, IsBroken}
use Rattle.nb_defs.proofs.RecordLaws.{in_text_apart, partial_not_whole, length-in_text}
use Rattle.nb_machine.specs.Courses.{Standing, ready, running, waiting, reaching, yielded, handing, left, handed_off, stopped, Progress}
use Rattle.nb_traced.specs.Plain.{without_graph}
use Rattle.nb_record.specs.Outside.{Outside, Gave, IsAtEnd}
use Rattle.nb_boot.specs.Shown.{IsOther, IsFirst, BeginsWith, NoneMayCome, EndsWhere, was_left, was_handed, was_stopped, ran_out, was_bad, was_full, Shown, ShowsCourse}
use Rattle.nb_boot.specs.Complete.{Completes, AreNoStarts}
use Rattle.nb_runner.specs.declared.status.Status.{Status}
use Rattle.nb_runner.specs.declared.status.Status.TheVariants as status
use Rattle.nb_boot.proofs.Spelled.{Rest, spelled_rest, others_in, others_rest}
use Rattle.nb_boot.proofs.CourseInputs.{course_in, course_counts, UsedBy, used_by}

-- what was read, and what is left, is what was left before
pub gave_told : (old now : Option (List ℕ)) (input read : List ℕ) → old ≡ Some input → IsSome now → Gave old now read → (after : List ℕ) × (now ≡ Some after) × (input ≡ read ++ after)
gave_told None None input read e some g = let no : false ≡ true = some in cc
gave_told None (Some y) input read e some g = absurd g
gave_told (Some x) None input read e some g = let no : false ≡ true = some in cc
gave_told (Some x) (Some y) input read e some g = let same : x ≡ input = cc in (y, refl, sym same ∙ g)

at_end_none : (now : Option (List ℕ)) (after : List ℕ) → now ≡ Some after → IfSome now (λ rest. rest ≡ []) → after ≡ []
at_end_none None after e h = let no : None ≡ Some after = e in cc
at_end_none (Some y) after e h = let same : y ≡ after = cc in sym same ∙ h

-- the input ended after these bytes
pub ended_there : (rest after bytes : List ℕ) (o : Outside) → bytes ≡ rest ++ after → o.left ≡ Some after → IsAtEnd o → rest ≡ bytes
ended_there rest after bytes o e told end = sym (append-nil rest) ∙ ap (λ t. rest ++ t) (sym (at_end_none o.left after told end)) ∙ sym e

-- what begins with a record begins with the first of those that are spelled there
pub same_entry : (Kind : In → Type 0) (r : In) (tail rest after : List ℕ) → IsIn r → in_text r ++ tail ≡ rest ++ after → BeginsWith rest Kind → Kind r
same_entry Kind r tail rest after valid e w =
    let both : in_text w.entry ++ (w.more ++ after) ≡ in_text r ++ tail =
    sym (append_assoc (in_text w.entry) w.more after) ∙ ap (λ t. t ++ after) (sym w.spelled) ∙ sym e in
    let same = in_text_apart w.entry r (w.more ++ after) tail w.valid valid both in
    subst (λ x. Kind x) same.record_is w.kind

-- before any record used, a rest that begins with a START is not bad
pub no_bad_first : (s : Start) (tail rest after : List ℕ) (o : Outside) → IsIn (start s) → in_text (start s) ++ tail ≡ rest ++ after → o.left ≡ Some after →
    IsBroken rest ⊎ (BeginsWith rest IsOther ⊎ (IsPartial rest × IsAtEnd o)) → ⊥
no_bad_first s tail rest after o valid e told (inl b) = b (start s) after tail valid (sym e)
no_bad_first s tail rest after o valid e told (inr (inl w)) = same_entry IsOther (start s) tail rest after valid e w
no_bad_first s tail rest after o valid e told (inr (inr (p, end))) =
    partial_not_whole (start s) rest tail valid (ended_there rest after (in_text (start s) ++ tail) o e told end) p

pub first_no_other : (r : In) → IsFirst r → IsOther r → ⊥
first_no_other (start s) f o = o
first_no_other (frame bytes) f o = f
first_no_other (tick ms) f o = f
first_no_other off f o = f

pub empty_front : (rest after : List ℕ) → [] ≡ rest ++ after → rest ≡ []
empty_front [] after e = refl
empty_front (x ∷ xs) after e = absurd (omega (arith, ap length e))

-- bytes that begin with a record are some
pub some_bytes : (q : In) (tail : List ℕ) → in_text q ++ tail ≡ [] → ⊥
some_bytes q tail e = omega (arith, ap length e, length-append (in_text q) tail, length-in_text q)

-- where a command waits, a rest that begins with another record than START isn't bad
pub no_bad_waiting : (q : In) (tail rest after : List ℕ) (o : Outside) → IsIn q → IsOther q → in_text q ++ tail ≡ rest ++ after → o.left ≡ Some after →
    IsBroken rest ⊎ (BeginsWith rest IsFirst ⊎ (IsPartial rest × (0 < length rest) × IsAtEnd o)) → ⊥
no_bad_waiting q tail rest after o valid other e told (inl b) = b q after tail valid (sym e)
no_bad_waiting q tail rest after o valid other e told (inr (inl w)) = first_no_other q (same_entry IsFirst q tail rest after valid e w) other
no_bad_waiting q tail rest after o valid other e told (inr (inr (p, some, end))) = partial_not_whole q rest tail valid (ended_there rest after (in_text q ++ tail) o e told end) p

-- nor one of nothing
pub no_bad_end : (rest : List ℕ) (o : Outside) → rest ≡ [] → IsBroken rest ⊎ (BeginsWith rest IsFirst ⊎ (IsPartial rest × (0 < length rest) × IsAtEnd o)) → ⊥
no_bad_end rest o e (inl b) = b off (in_text off) [] tt (ap (λ t. t ++ in_text off) e ∙ sym (append-nil (in_text off)))
no_bad_end rest o e (inr (inl w)) = omega (arith, ap length e, ap length w.spelled, length-append (in_text w.entry) w.more, length-in_text w.entry)
no_bad_end rest o e (inr (inr (p, some, end))) = omega (arith, ap length e, some)

-- after records used, a rest that begins with another than START, or where nothing follows, is not bad
no_bad_later : (more : List In) (rest after : List ℕ) (o : Outside) → AreNoStarts more → in_texts more ≡ rest ++ after → o.left ≡ Some after →
    IsBroken rest ⊎ (BeginsWith rest IsFirst ⊎ (IsPartial rest × (0 < length rest) × IsAtEnd o)) → ⊥
no_bad_later [] rest after o a e told (inl b) =
    b off (in_text off) [] tt (ap (λ t. t ++ in_text off) (empty_front rest after e) ∙ sym (append-nil (in_text off)))
no_bad_later [] rest after o a e told (inr (inl w)) =
    omega (arith, ap length (empty_front rest after e), ap length w.spelled, length-append (in_text w.entry) w.more, length-in_text w.entry)
no_bad_later [] rest after o a e told (inr (inr (p, some, end))) = omega (arith, ap length (empty_front rest after e), some)
no_bad_later (q ∷ qs) rest after o a e told (inl b) = b q after (in_texts qs) a.0 (sym e)
no_bad_later (q ∷ qs) rest after o a e told (inr (inl w)) = first_no_other q (same_entry IsFirst q (in_texts qs) rest after a.0 e w) a.1
no_bad_later (q ∷ qs) rest after o a e told (inr (inr (p, some, end))) =
    partial_not_whole q rest (in_texts qs) a.0 (ended_there rest after (in_text q ++ in_texts qs) o e told end) p

-- an input that is spelled so has no bad rest
no_bad : (p : Standing) (s : Start) (others ins : List In) (rest after : List ℕ) (o : Outside) → IsIn (start s) → AreNoStarts others →
    Rest ins (start s ∷ others) (rest ++ after) → UsedBy p ins → o.left ≡ Some after → NoneMayCome p rest o → ⊥
no_bad ready s others ins rest after o valid a t u told b =
    let all : start s ∷ others ≡ t.more = t.are ∙ ap (λ xs. xs ++ t.more) u in
    no_bad_first s (in_texts others) rest after o valid (ap (λ xs. in_texts xs) all ∙ t.spelled) told b
no_bad (waiting w x) s others ins rest after o valid a t u told b =
    no_bad_later t.more rest after o (others_rest ins t.more others (start s) t.are u a) t.spelled told b
no_bad (yielded w x outer) s others ins rest after o valid a t u told b =
    no_bad_later t.more rest after o (others_rest ins t.more others (start s) t.are u a) t.spelled told b
no_bad (reaching w x outer next) s others ins rest after o valid a t u told b = b
no_bad (running w x outer) s others ins rest after o valid a t u told b = b
no_bad (handing w x) s others ins rest after o valid a t u told b = b
no_bad (left w outer cause) s others ins rest after o valid a t u told b = b
no_bad (handed_off w) s others ins rest after o valid a t u told b = b
no_bad (stopped w) s others ins rest after o valid a t u told b = b

-- the status of a script that was left is 3 or 4
left_low : (ok : Bool) → (if ok then 3 else 4) < 5
left_low true = omega arith
left_low false = omega arith

ends_bad : (p : Progress) (rest : List ℕ) (o : Outside) → EndsWhere p rest o 6 → NoneMayCome p.standing rest o
ends_bad p rest o (was_left s cause h e) = absurd (omega (arith, e, left_low (is_ok_cause cause)))
ends_bad p rest o (was_handed s h e) = absurd (omega (arith, e))
ends_bad p rest o (was_stopped s h e) = absurd (omega (arith, e))
ends_bad p rest o (ran_out h none end e) = absurd (omega (arith, e))
ends_bad p rest o (was_bad few bad e) = bad
ends_bad p rest o (was_full full h some e) = absurd (omega (arith, e))

ends_full : (p : Progress) (rest : List ℕ) (o : Outside) → EndsWhere p rest o 11 → (p.used ≡ 4294967295) × (0 < length rest)
ends_full p rest o (was_left s cause h e) = absurd (omega (arith, e, left_low (is_ok_cause cause)))
ends_full p rest o (was_handed s h e) = absurd (omega (arith, e))
ends_full p rest o (was_stopped s h e) = absurd (omega (arith, e))
ends_full p rest o (ran_out h none end e) = absurd (omega (arith, e))
ends_full p rest o (was_bad few bad e) = absurd (omega (arith, e))
ends_full p rest o (was_full full h some e) = (full, some)

-- what a run used of an input that is spelled so
pub record Told (before after : Outside) (r : Shown before after) (s : Start) (others : List In) : Type 0 where
  pub behind : List ℕ
  pub now : after.left ≡ Some behind
  pub rest : Rest r.ins (start s ∷ others) (r.rest ++ behind)

told : (before after : Outside) (r : Shown before after) (s : Start) (others : List In) → IsIn (start s) → AreNoStarts others →
    before.left ≡ Some (in_texts (start s ∷ others)) → IsSome after.left → Told before after r s others
told before after r s others valid a e some =
    let t = gave_told before.left after.left (in_texts (start s ∷ others)) r.read e some r.passes.gave in
    let all : in_texts (start s ∷ others) ≡ in_texts r.ins ++ (r.rest ++ t.0) =
    t.2 ∙ ap (λ x. x ++ t.0) r.spelled ∙ append_assoc (in_texts r.ins) r.rest t.0 in
    record {
      behind = t.0;
      now = t.1;
      rest = spelled_rest r.ins (start s ∷ others) (r.rest ++ t.0) (course_in r.ins (without_graph r.outs) r.progress r.course) (valid, others_in others a) all;
    }

-- records that spell more bytes are some
some_more : (more : List In) (rest after : List ℕ) → in_texts more ≡ rest ++ after → 0 < length rest → 0 < length more
some_more [] rest after e h = absurd (omega (arith, ap length (empty_front rest after e), h))
some_more (r ∷ rs) rest after e h = omega arith

pub completes : (s : Status) (before after : Outside) → ShowsCourse s before after → Completes s before after
completes status.HandedOff before after (r, o) = λ s others valid a e some none memory. tt
completes status.Ended before after (r, o) = λ s others valid a e some none memory. tt
completes status.ScriptFailed before after (r, o) = λ s others valid a e some none memory. tt
completes status.Unfinished before after (r, o) = λ s others valid a e some none memory. tt
completes status.BadRecord before after (r, o) = λ s others valid a e some none memory.
    let t = told before after r s others valid a e some in
    let used = used_by r.ins (without_graph r.outs) r.progress r.course in
    no_bad r.progress.standing s others r.ins r.rest t.behind after valid a t.rest used t.now (ends_bad r.progress r.rest after o.ends)
completes status.TooManyRecords before after (r, o) = λ s others valid a e some none memory.
    let t = told before after r s others valid a e some in
    let full = ends_full r.progress r.rest after o.ends in
    omega (
      arith,
      full.0,
      course_counts r.ins (without_graph r.outs) r.progress r.course,
      some_more t.rest.more r.rest t.behind t.rest.spelled full.1,
      ap length t.rest.are,
      length-append r.ins t.rest.more,
    )
completes status.ReadFault before after (r, o) = λ s others valid a e some none memory. none.read o.rose
completes status.WriteFault before after (r, o) = λ s others valid a e some none memory. none.write o.0
completes status.NoMemory before after (r, o) = λ s others valid a e some none memory. memory refl
completes status.AttachFault before after (r, o) = λ s others valid a e some none memory. none.attach o.3
completes status.BadWords before after (r, o) = absurd o
