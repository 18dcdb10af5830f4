-- The records of an input alone say the status, and what is written.
use Rattle.std.proofs.Common.{◌≡◌, ℕ, ◌<◌, ◌≤◌, ◌⊎◌, List, [], ◌∷◌, ◌++◌, length, Some, refl, sym, ◌∙◌, ap, subst, arith, append_assoc, append-nil, length-append}
use Rattle.std.specs.Prelude.{IsSome}
use Rattle.nb_defs.specs.Records.{In, IsIn, in_text, in_texts, Out, done, IsPartial, IsBroken}
use Rattle.nb_traced.specs.Plain.{without_graph}
use Rattle.nb_traced.proofs.Plain.{plain_append}
use Rattle.nb_record.specs.Outside.{Outside, IsAtEnd}
use Rattle.nb_runner.specs.declared.status.Status.{Status}
use Rattle.nb_runner.specs.declared.status.Status.TheVariants as status
use Rattle.nb_machine.specs.Courses.{Standing, ready, running, waiting, reaching, yielded, handing, left, handed_off, stopped, Progress, Course}
use Rattle.nb_machine.specs.Closings.{Shuts}
use Rattle.nb_onecourse.specs.Rests.{HasComeToRest, SameCourse}
use Rattle.nb_onecourse.proofs.OneCourse.{one_course}
use Rattle.nb_boot.specs.Shown.{IsFirst, BeginsWith, CommandWaits, NoneMayCome, EndsWhere, was_left, was_handed, was_stopped, ran_out, was_bad, was_full, Shown, RunHasEnded, ShowsCourse}
use Rattle.nb_boot.specs.Determined.{CourseSays, WroteAll, IsDetermined}
use Rattle.nb_boot.proofs.Completeness.{empty_front, ended_there, gave_told, no_bad_first, some_bytes, no_bad_waiting, no_bad_end}
use Rattle.nb_boot.proofs.Spelled.{AreIn, are-here}
use Rattle.nb_boot.proofs.Comparing.{Compared, equal, longer, shorter, compare}
use Rattle.nb_boot.proofs.CourseInputs.{HasStarted, course_in, course_counts, course_started, course_unused, course_starts, WaitedFor, waited_for}

says_rests : (p : Standing) (more : List ℕ) (number : ℕ) → CourseSays p more number → HasComeToRest p
says_rests ready more number h = absurd h
says_rests (running s inner outer) more number h = absurd h
says_rests (waiting s w) more number h = tt
says_rests (reaching s inner outer next) more number h = absurd h
says_rests (yielded s inner outer) more number h = tt
says_rests (handing s rest) more number h = absurd h
says_rests (left s [] cause) more number h = tt
says_rests (left s (inner ∷ outer) cause) more number h = absurd (let no : inner ∷ outer ≡ [] = h.0 in cc)
says_rests (handed_off s) more number h = tt
says_rests (stopped s) more number h = tt

waits_rests : (p : Standing) → CommandWaits p → HasComeToRest p
waits_rests ready h = absurd h
waits_rests (running s inner outer) h = absurd h
waits_rests (waiting s w) h = tt
waits_rests (reaching s inner outer next) h = absurd h
waits_rests (yielded s inner outer) h = tt
waits_rests (handing s rest) h = absurd h
waits_rests (left s outer cause) h = absurd h
waits_rests (handed_off s) h = absurd h
waits_rests (stopped s) h = absurd h

-- where the next record is waited for, the status is 5 and nothing follows
says_waits : (p : Standing) (more : List ℕ) (number : ℕ) → CommandWaits p → CourseSays p more number → (more ≡ []) × (number ≡ 5)
says_waits ready more number a h = absurd a
says_waits (running s inner outer) more number a h = absurd a
says_waits (waiting s w) more number a h = h
says_waits (reaching s inner outer next) more number a h = absurd a
says_waits (yielded s inner outer) more number a h = h
says_waits (handing s rest) more number a h = absurd a
says_waits (left s outer cause) more number a h = absurd a
says_waits (handed_off s) more number a h = absurd a
says_waits (stopped s) more number a h = absurd a

-- where no record may come, and one was used, the next is waited for
bad_waits : (p : Standing) (rest : List ℕ) (o : Outside) → HasStarted p → NoneMayCome p rest o → CommandWaits p × (IsBroken rest ⊎ (BeginsWith rest IsFirst ⊎ (IsPartial rest × (0 < length rest) × IsAtEnd o)))
bad_waits ready rest o h b = absurd h
bad_waits (running s inner outer) rest o h b = absurd b
bad_waits (waiting s w) rest o h b = (tt, b)
bad_waits (reaching s inner outer next) rest o h b = absurd b
bad_waits (yielded s inner outer) rest o h b = (tt, b)
bad_waits (handing s more) rest o h b = absurd b
bad_waits (left s outer cause) rest o h b = absurd b
bad_waits (handed_off s) rest o h b = absurd b
bad_waits (stopped s) rest o h b = absurd b

-- the same status, and the same course
record SameEnd (outs outs' : List Out) (p p' : Progress) (number number' : ℕ) : Type 0 where
  numbers : number' ≡ number
  course : SameCourse outs outs' p p'

-- an input, cut at the records of two courses: what the first says of the status, and how the second ends
module _ (x : In) (xs : List In) (more rest after : List ℕ) (o : Outside) (outs outs' : List Out) (p p' : Progress) (number number' : ℕ) (course : Course (x ∷ xs) outs p) (says : CourseSays p.standing more number) (told : o.left ≡ Some after) where
  -- where both come to rest on the same records
  same : (outs1 : List Out) (q : Progress) → Course (x ∷ xs) outs1 q → HasComeToRest q.standing → SameCourse outs outs1 p q
  same outs1 q c rests = one_course (x ∷ xs) outs outs1 p q course c (says_rests p.standing more number says) rests

  says_there : (q : Progress) (at : Standing) → p ≡ q → q.standing ≡ at → CourseSays at more number
  says_there q at e h = subst (λ z. CourseSays z more number) (ap (λ (z : Progress). z.standing) e ∙ h) says

  says_waiting : (q : Progress) → p ≡ q → CommandWaits q.standing → (more ≡ []) × (number ≡ 5)
  says_waiting q e a = says_waits p.standing more number (subst (λ (z : Progress). CommandWaits z.standing) (sym e) a) says

  ends_same : Course (x ∷ xs) outs' p' → more ≡ rest ++ after → EndsWhere p' rest o number' → SameEnd outs outs' p p' number number'
  ends_same c e (was_left s cause h k) =
      let is = same outs' p' c (subst HasComeToRest (sym h) tt) in record { numbers = k ∙ sym (says_there p' (left s [] cause) is.place h).1; course = is }
  ends_same c e (was_handed s h k) = let is = same outs' p' c (subst HasComeToRest (sym h) tt) in record { numbers = k ∙ sym (says_there p' (handed_off s) is.place h); course = is }
  ends_same c e (was_stopped s h k) = let is = same outs' p' c (subst HasComeToRest (sym h) tt) in record { numbers = k ∙ sym (says_there p' (stopped s) is.place h); course = is }
  ends_same c e (ran_out a none end k) = let is = same outs' p' c (waits_rests p'.standing a) in record { numbers = k ∙ sym (says_waiting p' is.place a).1; course = is }
  ends_same c e (was_bad few bad k) =
      let b = bad_waits p'.standing rest o (course_started (x ∷ xs) outs' p' c x xs refl) bad in
      let is = same outs' p' c (waits_rests p'.standing b.0) in
      absurd (no_bad_end rest o (empty_front rest after (sym (says_waiting p' is.place b.0).0 ∙ e)) b.1)
  ends_same c e (was_full full a some k) =
      let is = same outs' p' c (waits_rests p'.standing a) in absurd (omega (arith, some, ap length (empty_front rest after (sym (says_waiting p' is.place a).0 ∙ e))))

  -- the second used more: the next record was waited for after the first's, so nothing follows them
  ends_more : (q : In) (tail : List ℕ) → WaitedFor (x ∷ xs) q → more ≡ in_text q ++ tail → ⊥
  ends_more q tail w e = let is = same w.outs w.progress w.course (waits_rests w.progress.standing w.waits) in some_bytes q tail (sym e ∙ (says_waiting w.progress is.place w.waits).0)

-- a course that has ended used no fewer records than one that goes on
ends_fewer : (y : In) (ys : List In) (q : In) (tail rest after : List ℕ) (o : Outside) (outs' : List Out) (p' : Progress) (number' : ℕ) → IsIn q → length (y ∷ ys) < 4294967295 → o.left ≡ Some after → in_text q ++ tail ≡ rest ++ after →
    WaitedFor (y ∷ ys) q → Course (y ∷ ys) outs' p' → EndsWhere p' rest o number' → ⊥
ends_fewer y ys q tail rest after o outs' p' number' valid few told e w c ends = go ends
  where
    -- where it has ended, the next record isn't waited for
    apart : (at : Standing) → p'.standing ≡ at → HasComeToRest at → (CommandWaits at → ⊥) → ⊥
    apart at h r n =
        let is = one_course (y ∷ ys) w.outs outs' w.progress p' w.course c (waits_rests w.progress.standing w.waits) (subst HasComeToRest (sym h) r) in
        n (subst CommandWaits (ap (λ (z : Progress). z.standing) is.place ∙ h) w.waits)

    go : EndsWhere p' rest o number' → ⊥
    go (was_left s cause h k) = apart (left s [] cause) h tt (λ z. z)
    go (was_handed s h k) = apart (handed_off s) h tt (λ z. z)
    go (was_stopped s h k) = apart (stopped s) h tt (λ z. z)
    go (ran_out a none end k) = some_bytes q tail (sym (ended_there rest after (in_text q ++ tail) o e told end) ∙ none)
    go (was_bad less bad k) = no_bad_waiting q tail rest after o valid w.other e told (bad_waits p'.standing rest o (course_started (y ∷ ys) outs' p' c y ys refl) bad).1
    go (was_full full a some k) = omega (arith, full, few, course_counts (y ∷ ys) outs' p' c)

-- before any record a run ends only where no record may come
ends_ready : (rest : List ℕ) (o : Outside) (number : ℕ) (p : Progress) → p.standing ≡ ready → EndsWhere p rest o number → NoneMayCome ready rest o
ends_ready rest o number p f (was_left s c h e) = absurd (let no : left s [] c ≡ ready = sym h ∙ f in cc)
ends_ready rest o number p f (was_handed s h e) = absurd (let no : handed_off s ≡ ready = sym h ∙ f in cc)
ends_ready rest o number p f (was_stopped s h e) = absurd (let no : stopped s ≡ ready = sym h ∙ f in cc)
ends_ready rest o number p f (ran_out a none end e) = absurd (subst CommandWaits f a)
ends_ready rest o number p f (was_bad few bad e) = subst (λ z. NoneMayCome z rest o) f bad
ends_ready rest o number p f (was_full full a some e) = absurd (subst CommandWaits f a)

-- whatever a course used of such an input, it ends so
ends_so : (ins ins' : List In) (more rest after : List ℕ) (o : Outside) (outs outs' : List Out) (p p' : Progress) (number number' : ℕ) → length ins ≤ 4294967295 → Course ins outs p → CourseSays p.standing more number → o.left ≡ Some after →
    Course ins' outs' p' → in_texts ins ++ more ≡ in_texts ins' ++ (rest ++ after) → EndsWhere p' rest o number' → SameEnd outs outs' p p' number number'
ends_so [] ins' more rest after o outs outs' p p' number number' few course says told c e ends = absurd (subst (λ z. CourseSays z more number) (course_unused [] outs p course refl) says)
ends_so (x ∷ xs) [] more rest after o outs outs' p p' number number' few course says told c e ends =
    let s = course_starts (x ∷ xs) outs p course x xs refl in
    absurd (no_bad_first s.0 (in_texts xs ++ more) rest after o (subst (λ z. IsIn z) s.1 (course_in (x ∷ xs) outs p course).0)
    (ap (λ z. in_text z ++ (in_texts xs ++ more)) (sym s.1) ∙ sym (append_assoc (in_text x) (in_texts xs) more) ∙ e) told (ends_ready rest o number' p' (course_unused [] outs' p' c refl) ends))
ends_so (x ∷ xs) (y ∷ ys) more rest after o outs outs' p p' number number' few course says told c e ends =
    go (compare (x ∷ xs) (y ∷ ys) more (rest ++ after) (course_in (x ∷ xs) outs p course) (course_in (y ∷ ys) outs' p' c) e)
  where
    go : Compared (x ∷ xs) (y ∷ ys) more (rest ++ after) → SameEnd outs outs' p p' number number'
    go (equal h k) = ends_same x xs more rest after o outs outs' p p' number number' course says told (subst (λ z. Course z outs' p') (sym h) c) k ends
    go (longer q qs h k) =
        absurd (ends_fewer y ys q (in_texts qs ++ more) rest after o outs' p' number' (are-here (y ∷ ys) q qs (subst AreIn h (course_in (x ∷ xs) outs p course)))
        (omega (arith, ap length h, length-append (y ∷ ys) (q ∷ qs), few)) told k (waited_for (x ∷ xs) outs p course y ys q qs h) c ends)
    go (shorter q qs h k) = absurd (ends_more x xs more rest after o outs outs' p p' number number' course says told q (in_texts qs ++ (rest ++ after)) (waited_for (y ∷ ys) outs' p' c x xs q qs h) k)

-- what was written then
wrote : (before after : Outside) (r : Shown before after) (number number' : ℕ) (ended : RunHasEnded before after r number') (outs : List Out) (p : Progress) → SameEnd outs (without_graph r.outs) p r.progress number number' → WroteAll before after outs p.standing number
wrote before after r number number' ended outs p end = record {
  read = r.read;
  written = r.written;
  passes = r.passes;
  all = r.outs ++ r.closing;
  texts = sym (r.texts ∙ ap (λ z. r.written ++ z) ended.all ∙ append-nil r.written);
  put = ended.put;
  shuts = subst (λ (z : Progress). Shuts z.standing ended.put) (sym end.course.place) ended.shuts;
  records = plain_append r.outs r.closing ∙ ap (λ z. without_graph r.outs ++ z) ended.closing ∙ ap (λ z. z ++ (ended.put ++ done number' ∷ [])) (sym end.course.records)
      ∙ ap (λ z. outs ++ (ended.put ++ done z ∷ [])) end.numbers;
}

over : (before after : Outside) (r : Shown before after) (number' : ℕ) → RunHasEnded before after r number' → (ins : List In) (more : List ℕ) (outs : List Out) (p : Progress) (number : ℕ) → length ins ≤ 4294967295 →
    before.left ≡ Some (in_texts ins ++ more) → Course ins outs p → CourseSays p.standing more number → IsSome after.left → (number' ≡ number) × WroteAll before after outs p.standing number
over before after r number' ended ins more outs p number few e course says some =
    let t = gave_told before.left after.left (in_texts ins ++ more) r.read e some r.passes.gave in
    let end = ends_so ins r.ins more r.rest t.0 after outs (without_graph r.outs) p r.progress number number' few course says t.1 r.course
    (t.2 ∙ ap (λ z. z ++ t.0) r.spelled ∙ append_assoc (in_texts r.ins) r.rest t.0) ended.ends in
    (end.numbers, wrote before after r number number' ended outs p end)

pub determined : (s : Status) (before after : Outside) → ShowsCourse s before after → IsDetermined s before after
determined status.HandedOff before after (r, o) = λ ins more outs p number few e course says some none memory. over before after r 0 o.0 ins more outs p number few e course says some
determined status.Ended before after (r, o) = λ ins more outs p number few e course says some none memory. over before after r 3 o ins more outs p number few e course says some
determined status.ScriptFailed before after (r, o) = λ ins more outs p number few e course says some none memory. over before after r 4 o ins more outs p number few e course says some
determined status.Unfinished before after (r, o) = λ ins more outs p number few e course says some none memory. over before after r 5 o ins more outs p number few e course says some
determined status.BadRecord before after (r, o) = λ ins more outs p number few e course says some none memory. over before after r 6 o ins more outs p number few e course says some
determined status.TooManyRecords before after (r, o) = λ ins more outs p number few e course says some none memory. over before after r 11 o ins more outs p number few e course says some
determined status.ReadFault before after (r, o) = λ ins more outs p number few e course says some none memory. absurd (none.read o.rose)
determined status.WriteFault before after (r, o) = λ ins more outs p number few e course says some none memory. absurd (none.write o.0)
determined status.NoMemory before after (r, o) = λ ins more outs p number few e course says some none memory. absurd (memory refl)
determined status.AttachFault before after (r, o) = λ ins more outs p number few e course says some none memory. absurd (none.attach o.3)
determined status.BadWords before after (r, o) = absurd o
