-- In every course each script's depth is how many there are from it outwards, and there are at most eight.
use Rattle.std.proofs.Common.{◌≡◌, ℕ, Bool, true, false, cond, List, [], ◌∷◌, Option, Some, None, refl, sym, ◌∙◌, subst, arith}
use Rattle.std.specs.Prelude.{slice_get}
use Rattle.nb_terms.specs.declared.cause.Cause.{Cause}
use Rattle.nb_defs.specs.Causes.{is_ok_cause}
use Rattle.nb_defs.specs.Records.{In, Out}
use Rattle.nb_defs.specs.ScriptLines.{Line, Item, items, script_reading}
use Rattle.nb_defs.specs.ScriptLines as defs
use Rattle.nb_image.specs.Images.{ImageList}
use Rattle.nb_drivecmd.specs.declared.drive.Drive.{Drive}
use Rattle.nb_imagecmd.specs.declared.outcome.ScriptImage.{ScriptImage}
use Rattle.nb_machine.specs.Conclusions.{Conclusion, keeps, tells, fails, boots, runs_script}
use Rattle.nb_machine.specs.Running.{Running, anew, entered, counting_on, Coming, passing, leaving, beginning, coming, rest_comes, line_comes, list_comes, words_come, behind_command, lets_run, AreNested}
use Rattle.nb_machine.specs.FirstText.{text_refusal}
use Rattle.nb_machine.specs.States.{State, with_images}
use Rattle.nb_machine.specs.Takings.{Over}
use Rattle.nb_machine.specs.Scripts.{concludes_now, Upshot, concludes, settles, goes_onward, concluded_by, hooks_drive, reads_drive, boots_drive_by}
use Rattle.nb_machine.specs.Courses.{Standing, Progress, ScriptLeads, ConclusionLeads, LeadsTo, text_standing, StepBegins, runs, refuses, waits_on, is_answered, switches_off, resumes, goes_off, Proceeds, passes, is_left, hands_back, yields, does, closes_device, concludes_there, leaves, jumps, finds_no_label, falls_asleep, opens_one, finds_no_route, opens_onward, finds_no_way, opens_no_more, hands, has_handed, Course, begins, uses, goes_on, goes_to_hook, hooks_none, unhooks, boots_hooked, ReadsBlock, block_standing}
use Rattle.nb_onecourse.specs.Depths.{StandsNested}
use Rattle.nb_onecourse.proofs.EntryDepths.{Fits, UpshotFits, doing_fits, upshot_fits}

counted_nested : (gone : Running) (outer : List Running) → AreNested outer → AreNested (counting_on gone outer)
counted_nested gone [] n = n
counted_nested gone (s ∷ outer) n = n

outer_nested : (s : Running) (outer : List Running) → AreNested (s ∷ outer) → AreNested outer
outer_nested s outer n = (n.0.1, omega (arith, n.1))

text_nested : (s : State) (new : Running) (outer : List Running) (refused : Option Cause) → AreNested (new ∷ outer) → StandsNested (text_standing s new outer refused)
text_nested s new outer None n = n
text_nested s new outer (Some cause) n = counted_nested new outer (outer_nested new outer n)

script_nested : (s : State) (inner : Running) (outer : List Running) (list : ImageList) (image : ScriptImage) (replaces : Bool) (put : List Out) (p : Standing) →
    AreNested (inner ∷ outer) → Fits inner.depth (runs_script list image replaces) → ScriptLeads s inner outer image replaces put p → StandsNested p
script_nested s inner outer list image false put p n f h =
    subst StandsNested (sym h.1) (text_nested s _ (inner ∷ outer) (text_refusal (script_reading image.text)) ((omega (arith, n.0.0), n.0), omega (arith, n.0.0, f)))
script_nested s inner outer list image true put p n f h = subst StandsNested (sym h.1) (text_nested s _ outer (text_refusal (script_reading image.text)) n)

conclusion_nested : (s : State) (inner : Running) (outer : List Running) (c : Conclusion) (put : List Out) (p : Standing) → AreNested (inner ∷ outer) → Fits inner.depth c → ConclusionLeads s inner outer c put p → StandsNested p
conclusion_nested s inner outer (keeps list) put p n f h = subst StandsNested (sym h.1) n
conclusion_nested s inner outer (tells list lines) put p n f h = subst StandsNested (sym h.1) n
conclusion_nested s inner outer (fails cause) put p n f h = subst StandsNested (sym h.1) n
conclusion_nested s inner outer (boots list kernel) put p n f h = subst StandsNested (sym h.2) tt
conclusion_nested s inner outer (runs_script list image replaces) put p n f h = script_nested (with_images s list) inner outer list image replaces put p n f h

-- where a drive was asked for its first block
block_nested : (s : State) (inner : Running) (outer : List Running) (number : ℕ) (d : Option Drive) (over : List Over) → AreNested (inner ∷ outer) → StandsNested (block_standing s inner outer number d over)
block_nested s inner outer number d [] n = n
block_nested s inner outer number d (o ∷ over) n = n

reads_nested : (s : State) (inner : Running) (outer : List Running) (number : ℕ) (d : Option Drive) (put : List Out) (p : Standing) → AreNested (inner ∷ outer) → ReadsBlock s inner outer number d put p → StandsNested p
reads_nested s inner outer number d put p n h = subst StandsNested (sym h.stands_so) (block_nested h.next inner outer number d h.over n)

lead_nested : (s : State) (inner : Running) (outer : List Running) (x : Upshot) (put : List Out) (p : Standing) → AreNested (inner ∷ outer) → UpshotFits inner.depth x → LeadsTo s inner outer x put p → StandsNested p
lead_nested s inner outer (concludes c) put p n f h = conclusion_nested s inner outer c put p n f h
lead_nested s inner outer (settles x) put p n f h = subst StandsNested (sym h.1) n
lead_nested s inner outer (hooks_drive d) put p n f h = subst StandsNested (sym h.1) n
lead_nested s inner outer (reads_drive d) put p n f h = reads_nested s inner outer d.open_number (Some d) put p n h
lead_nested s inner outer (boots_drive_by d bytes) put p n f h = subst StandsNested (sym h.2) tt
lead_nested s inner outer (goes_onward next) put p n f h = subst StandsNested (sym h.1) n

begins_nested : (m : Progress) (r : In) (a : List Out) (m' : Progress) → StandsNested m.standing → StepBegins m r a m' → StandsNested m'.standing
begins_nested m r a m' u (runs n s code valid plain) = ((refl, tt), omega arith)
begins_nested m r a m' u (refuses n s cause valid plain) = (tt, omega arith)
begins_nested m r a m' u (waits_on n s s' w _ put over valid acts none) = u
begins_nested m r a m' u (is_answered n s s' w _ put more over x p valid acts some leads) =
    lead_nested s' (anew w.script) w.outer (concluded_by s' w.script.depth w.job x) more p u (upshot_fits s' w.script.depth w.job x) leads
begins_nested m r a m' u (switches_off n s w put over all) = tt
begins_nested m r a m' u (resumes n s s' inner outer _ put over valid acts) = u
begins_nested m r a m' u (goes_off n s inner outer put over all) = tt

-- a line or a command that is passed leaves the depth
abbrev DepthIs : ℕ → Coming → Type 0
DepthIs depth (passing t) = t.depth ≡ depth
DepthIs depth (leaving cause) = Unit {0}
DepthIs depth (beginning name args) = Unit {0}

list_depth : (s : Running) (o : Option (List Item)) → DepthIs s.depth (list_comes s o)
list_depth s None = tt
list_depth s (Some commands) = refl

line_depth : (s : Running) (o : Option Line) → DepthIs s.depth (line_comes s o)
line_depth s None = tt
line_depth s (Some (defs.label name)) = refl
line_depth s (Some defs.empty) = refl
line_depth s (Some (defs.list text)) = list_depth s (items text)

words_depth : (s : Running) (ws : List (List ℕ)) → DepthIs s.depth (words_come s ws)
words_depth s [] = refl
words_depth s (name ∷ args) = tt

rest_depth : (s : Running) (rest : List Item) → DepthIs s.depth (rest_comes s rest)
rest_depth s [] = by (is_ok_cause s.last)
  where
    by : (b : Bool) → DepthIs s.depth (cond b (line_comes s (slice_get s.code s.passed)) (leaving s.last))
    by true = line_depth s (slice_get s.code s.passed)
    by false = tt
rest_depth s (i ∷ behind) = by (lets_run i.join s.last)
  where
    by : (b : Bool) → DepthIs s.depth (cond b (words_come s i.words) (passing (behind_command s)))
    by true = words_depth s i.words
    by false = refl

passing_depth : (s t : Running) → coming s ≡ passing t → t.depth ≡ s.depth
unfolding coming
passing_depth s t e = subst (DepthIs s.depth) e (rest_depth s s.rest)

proceeds_nested : (m : Progress) (a : List Out) (m' : Progress) → StandsNested m.standing → Proceeds m a m' → StandsNested m'.standing
proceeds_nested m a m' u (passes n s inner next outer h) = ((passing_depth inner next h ∙ u.0.0, u.0.1), u.1)
proceeds_nested m a m' u (is_left n s inner outer cause h) = counted_nested inner outer (outer_nested inner outer u)
proceeds_nested m a m' u (hands_back n s inner outer cause) = u
proceeds_nested m a m' u (yields n s inner outer c cs h full) = u
proceeds_nested m a m' u (does n s s' inner outer c cs o h early e k) = u
proceeds_nested m a m' u (closes_device n s s' inner outer c cs put over h early e all) = u
proceeds_nested m a m' u (goes_to_hook n s s' inner outer c cs hooking put next h early e dropped asks) = u
proceeds_nested m a m' u (hooks_none n s s' inner outer c cs hooking put cause h early e dropped asks) = u
proceeds_nested m a m' u (unhooks n s s' inner outer c cs number put cause h early e dropped) = u
proceeds_nested m a m' u (boots_hooked n s inner outer c cs number d put p h early e hooked reads) = reads_nested s (entered inner) outer d.open_number None put p u reads
proceeds_nested m a m' u (concludes_there n s inner outer c cs x put p h early e leads) = conclusion_nested s (entered inner) outer x put p u (doing_fits s inner (c ∷ cs) (concludes_now x) e) leads
proceeds_nested m a m' u (leaves n s s' inner outer c cs o h early e k) = counted_nested (entered inner) outer (outer_nested inner outer u)
proceeds_nested m a m' u (jumps n s inner outer c cs name line h early e k) = u
proceeds_nested m a m' u (finds_no_label n s inner outer c cs name h early e k) = u
proceeds_nested m a m' u (falls_asleep n s inner outer c cs time h early e) = u
proceeds_nested m a m' u (opens_one n s s' inner outer c cs l job link put h early e got way) = u
proceeds_nested m a m' u (finds_no_route n s s' inner outer c cs l job link h early e got way) = u
proceeds_nested m a m' u (opens_onward n s inner outer next link put few got way) = u
proceeds_nested m a m' u (finds_no_way n s inner outer next link few got way) = u
proceeds_nested m a m' u (opens_no_more n s inner outer next full) = u
proceeds_nested m a m' u (hands n s r rest) = tt
proceeds_nested m a m' u (has_handed n s) = tt

pub course_nested : (ins : List In) (outs : List Out) (m : Progress) → Course ins outs m → StandsNested m.standing
course_nested ins outs m begins = tt
course_nested ins outs m (uses ins' outs' m0 r added m' p b) = begins_nested m0 r added m (course_nested ins' outs' m0 p) b
course_nested ins outs m (goes_on ins' outs' m0 added m' p v) = proceeds_nested m0 added m (course_nested ins' outs' m0 p) v
