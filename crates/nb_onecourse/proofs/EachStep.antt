-- A record begins one step.
use Rattle.std.proofs.Common.{◌≡◌, ℕ, ◌+◌, Bool, true, false, List, [], ◌∷◌, ◌++◌, Option, Some, None, refl, sym, ◌∙◌, ap, subst}
use Rattle.nb_terms.specs.declared.cause.Cause.{Cause}
use Rattle.nb_defs.specs.Records.{Start, In, start, off, Out, step, enter, leave}
use Rattle.nb_defs.specs.ScriptLines.{Line, Reading, script}
use Rattle.nb_machine.specs.Conclusions.{Conclusion, keeps, tells, fails, boots, runs_script}
use Rattle.nb_imagecmd.specs.declared.outcome.ScriptImage.{ScriptImage}
use Rattle.nb_machine.specs.FirstText.{first_reading, text_refusal}
use Rattle.nb_machine.specs.Running.{Running, first_script, anew}
use Rattle.nb_machine.specs.CommandRecords.{stopped_cause}
use Rattle.nb_machine.specs.Lives.{close}
use Rattle.nb_machine.specs.States.{State, state_at_start, with_images, with_live}
use Rattle.nb_machine.specs.Takings.{Over, AllTake}
use Rattle.nb_machine.specs.Network.{Network}
use Rattle.nb_machine.specs.Scripts.{Waiting, waiting_anew, Answer, answer_in, Upshot, concludes, settles, goes_onward, upshot_records, concluded_by, hooks_drive, reads_drive, boots_drive_by}
use Rattle.nb_machine.specs.Courses.{Standing, ready, running, waiting, reaching, yielded, handing, left, handed_off, stopped, Progress, stands, ScriptLeads, ConclusionLeads, LeadsTo, StepBegins, runs, refuses, waits_on, is_answered, switches_off, resumes, goes_off}
use Rattle.nb_onecourse.specs.Answers.{AreUnended, StandsUnended}
use Rattle.nb_onecourse.proofs.EachTakes.{all_take_one}
use Rattle.nb_onecourse.proofs.EachRecord.{network_one, network_not_off, network_unended}
use Rattle.nb_onecourse.proofs.Nexts.{still, what_next}
use Rattle.nb_onecourse.proofs.Numbered.{IsNumbered, StandsNumbered, network_numbered}
use Rattle.nb_onecourse.proofs.OneBlock.{reads_one}
use Rattle.nb_onecourse.proofs.OneNext.{SameMove}

-- a first step
data AtFirst (n : ℕ) (r : In) (a : List Out) (m : Progress) : Type 0 where
  did_run : (s : Start) (code : List Line) → r ≡ start s → first_reading s.script ≡ script code → a ≡ step (n + 1) ∷ enter 1 ∷ [] → m ≡ stands (n + 1) (running (state_at_start s) (first_script code) []) → AtFirst n r a m
  did_refuse : (s : Start) (cause : Cause) → r ≡ start s → text_refusal (first_reading s.script) ≡ Some cause → a ≡ step (n + 1) ∷ enter 1 ∷ leave 1 cause ∷ [] → m ≡ stands (n + 1) (left (state_at_start s) [] cause) → AtFirst n r a m

-- what comes of an answer, or of none
data Answered (n : ℕ) (s : State) (w : Waiting) (put : List Out) (a : List Out) (m : Progress) : Option Answer → Type 0 where
  with_none : a ≡ step (n + 1) ∷ put → m ≡ stands (n + 1) (waiting s (waiting_anew w)) → Answered n s w put a m None
  with_it : (x : Answer) (more : List Out) (p : Standing) → LeadsTo s (anew w.script) w.outer (concluded_by s w.script.depth w.job x) more p →
      a ≡ step (n + 1) ∷ put ++ upshot_records (concluded_by s w.script.depth w.job x) ++ more → m ≡ stands (n + 1) p → Answered n s w put a m (Some x)

-- one where a command waits
data AtWaiting (n : ℕ) (s : State) (w : Waiting) (r : In) (a : List Out) (m : Progress) : Type 0 where
  by_network : (s' : State) (put : List Out) (over : List Over) → Network s (n + 1) r put s' over → Answered n s' w put a m (answer_in s' r over w.awaited) → AtWaiting n s w r a m
  by_off : (put : List Out) (over : List Over) → r ≡ off → AllTake s.devices (close stopped_cause) s.live put [] over → a ≡ step (n + 1) ∷ put → m ≡ stands (n + 1) (stopped (with_live s [])) → AtWaiting n s w r a m

-- one with scripts that had all their commands
data AtYielded (n : ℕ) (s : State) (inner : Running) (outer : List Running) (r : In) (a : List Out) (m : Progress) : Type 0 where
  by_any : (s' : State) (put : List Out) (over : List Over) → Network s (n + 1) r put s' over → a ≡ step (n + 1) ∷ put → m ≡ stands (n + 1) (running s' (anew inner) outer) → AtYielded n s inner outer r a m
  by_its_off : (put : List Out) (over : List Over) → r ≡ off → AllTake s.devices (close stopped_cause) s.live put [] over → a ≡ step (n + 1) ∷ put → m ≡ stands (n + 1) (stopped (with_live s [])) → AtYielded n s inner outer r a m

abbrev BeginsAt : Standing → ℕ → In → List Out → Progress → Type 0
BeginsAt ready n r a m = AtFirst n r a m
BeginsAt (running s inner outer) n r a m = ⊥
BeginsAt (waiting s w) n r a m = AtWaiting n s w r a m
BeginsAt (reaching s inner outer next) n r a m = ⊥
BeginsAt (yielded s inner outer) n r a m = AtYielded n s inner outer r a m
BeginsAt (handing s rest) n r a m = ⊥
BeginsAt (left s outer cause) n r a m = ⊥
BeginsAt (handed_off s) n r a m = ⊥
BeginsAt (stopped s) n r a m = ⊥

begins_at : (m : Progress) (r : In) (a : List Out) (m' : Progress) → StepBegins m r a m' → BeginsAt m.standing m.used r a m'
begins_at m r a m' (runs n s code valid plain) = did_run s code refl plain refl refl
begins_at m r a m' (refuses n s cause valid plain) = did_refuse s cause refl plain refl refl
begins_at m r a m' (waits_on n s s' w _ put over valid acts none) = by_network s' put over acts (subst (Answered n s' w put a m') (sym none) (with_none refl refl))
begins_at m r a m' (is_answered n s s' w _ put more over x p valid acts some leads) = by_network s' put over acts (subst (Answered n s' w put a m') (sym some) (with_it x more p leads refl refl))
begins_at m r a m' (switches_off n s w put over all) = by_off put over refl all refl refl
begins_at m r a m' (resumes n s s' inner outer _ put over valid acts) = by_any s' put over acts refl refl
begins_at m r a m' (goes_off n s inner outer put over all) = by_its_off put over refl all refl refl

-- where a step may begin, nothing was to be done before
pub begins_still : (m : Progress) (r : In) (a : List Out) (m' : Progress) → StepBegins m r a m' → what_next m.standing ≡ still
begins_still m r a m' (runs n s code valid plain) = refl
begins_still m r a m' (refuses n s cause valid plain) = refl
begins_still m r a m' (waits_on n s s' w _ put over valid acts none) = refl
begins_still m r a m' (is_answered n s s' w _ put more over x p valid acts some leads) = refl
begins_still m r a m' (switches_off n s w put over all) = refl
begins_still m r a m' (resumes n s s' inner outer _ put over valid acts) = refl
begins_still m r a m' (goes_off n s inner outer put over all) = refl

same_start : (r : In) (s t : Start) → r ≡ start s → r ≡ start t → t ≡ s
same_start r s t e f = let both : start t ≡ start s = sym f ∙ e in cc

same_code : (x : Reading) (a b : List Line) → x ≡ script a → x ≡ script b → a ≡ b
same_code x a b e f = let both : script a ≡ script b = sym e ∙ f in cc

same_refusal : (x : Reading) (a b : Cause) → text_refusal x ≡ Some a → text_refusal x ≡ Some b → a ≡ b
same_refusal x a b e f = let both : Some a ≡ Some b = sym e ∙ f in cc

no_refusal : (x : Reading) (code : List Line) (cause : Cause) → x ≡ script code → text_refusal x ≡ Some cause → ⊥
no_refusal x code cause e f = let no : None ≡ Some cause = ap text_refusal (sym e) ∙ f in cc

first_one : (n : ℕ) (r : In) (a b : List Out) (m m' : Progress) → AtFirst n r a m → AtFirst n r b m' → SameMove a b m m'
first_one n r a b m m' (did_run s code e plain ea em) (did_run t code' f plain' eb en) =
    let starts = same_start r s t e f in
    let codes = same_code (first_reading s.script) code code' plain (subst (λ (z : Start). first_reading z.script ≡ script code') starts plain') in
    record {
      records = ea ∙ sym eb;
      places = em ∙ ap (λ z. stands (n + 1) (running (state_at_start z) (first_script code) [])) (sym starts) ∙ ap (λ z. stands (n + 1) (running (state_at_start t) (first_script z) [])) codes ∙ sym en;
    }
first_one n r a b m m' (did_run s code e plain ea em) (did_refuse t cause f plain' eb en) =
    absurd (no_refusal (first_reading s.script) code cause plain (subst (λ (z : Start). text_refusal (first_reading z.script) ≡ Some cause) (same_start r s t e f) plain'))
first_one n r a b m m' (did_refuse s cause e plain ea em) (did_run t code f plain' eb en) =
    absurd (no_refusal (first_reading t.script) code cause plain' (subst (λ (z : Start). text_refusal (first_reading z.script) ≡ Some cause) (sym (same_start r s t e f)) plain))
first_one n r a b m m' (did_refuse s cause e plain ea em) (did_refuse t cause' f plain' eb en) =
    let starts = same_start r s t e f in
    let causes = same_refusal (first_reading s.script) cause cause' plain (subst (λ (z : Start). text_refusal (first_reading z.script) ≡ Some cause') starts plain') in
    record {
      records = ea ∙ ap (λ z. step (n + 1) ∷ enter 1 ∷ leave 1 z ∷ []) causes ∙ sym eb;
      places = em ∙ ap (λ z. stands (n + 1) (left (state_at_start z) [] cause)) (sym starts) ∙ ap (λ z. stands (n + 1) (left (state_at_start t) [] z)) causes ∙ sym en;
    }

-- what comes of a command is one
record SameLead (put put' : List Out) (p p' : Standing) : Type 0 where
  records : put ≡ put'
  standing : p ≡ p'

script_one : (s : State) (inner : Running) (outer : List Running) (image : ScriptImage) (replaces : Bool) (put put' : List Out) (p p' : Standing) → ScriptLeads s inner outer image replaces put p → ScriptLeads s inner outer image replaces put' p' → SameLead put put' p p'
script_one s inner outer image false put put' p p' h g = record { records = h.0 ∙ sym g.0; standing = h.1 ∙ sym g.1 }
script_one s inner outer image true put put' p p' h g = record { records = h.0 ∙ sym g.0; standing = h.1 ∙ sym g.1 }

conclusion_one : (s : State) (inner : Running) (outer : List Running) (c : Conclusion) (put put' : List Out) (p p' : Standing) → AreUnended s.live → ConclusionLeads s inner outer c put p → ConclusionLeads s inner outer c put' p' → SameLead put put' p p'
conclusion_one s inner outer (keeps list) put put' p p' u h g = record { records = h.0 ∙ sym g.0; standing = h.1 ∙ sym g.1 }
conclusion_one s inner outer (tells list lines) put put' p p' u h g = record { records = h.0 ∙ sym g.0; standing = h.1 ∙ sym g.1 }
conclusion_one s inner outer (runs_script list image replaces) put put' p p' u h g = script_one (with_images s list) inner outer image replaces put put' p p' h g
conclusion_one s inner outer (fails cause) put put' p p' u h g = record { records = h.0 ∙ sym g.0; standing = h.1 ∙ sym g.1 }
conclusion_one s inner outer (boots list kernel) put put' p p' u (over, all, h) (over', all', g) =
    record { records = (all_take_one s.devices (close stopped_cause) s.live put put' [] [] over over' u all all').records; standing = h ∙ sym g }

lead_one : (s : State) (inner : Running) (outer : List Running) (x : Upshot) (put put' : List Out) (p p' : Standing) → AreUnended s.live → IsNumbered s → LeadsTo s inner outer x put p → LeadsTo s inner outer x put' p' → SameLead put put' p p'
lead_one s inner outer (concludes c) put put' p p' u r h g = conclusion_one s inner outer c put put' p p' u h g
lead_one s inner outer (settles x) put put' p p' u r h g = record { records = h.0 ∙ sym g.0; standing = h.1 ∙ sym g.1 }
lead_one s inner outer (hooks_drive d) put put' p p' u r h g = record { records = h.0 ∙ sym g.0; standing = h.1 ∙ sym g.1 }
lead_one s inner outer (reads_drive d) put put' p p' u r h g =
    let k = reads_one s inner outer d.open_number (Some d) put put' p p' u r h g in record { records = k.records; standing = k.standing }
lead_one s inner outer (boots_drive_by d bytes) put put' p p' u r (over, all, h) (over', all', g) =
    record { records = (all_take_one s.devices (close stopped_cause) s.live put put' [] [] over over' u all all').records; standing = h ∙ sym g }
lead_one s inner outer (goes_onward next) put put' p p' u r h g = record { records = h.0 ∙ sym g.0; standing = h.1 ∙ sym g.1 }

answered_one : (n : ℕ) (s : State) (w : Waiting) (put a b : List Out) (m m' : Progress) (x : Option Answer) → AreUnended s.live → IsNumbered s → Answered n s w put a m x → Answered n s w put b m' x → SameMove a b m m'
answered_one n s w put a b m m' x u r (with_none ea em) (with_none eb en) = record { records = ea ∙ sym eb; places = em ∙ sym en }
answered_one n s w put a b m m' x u r (with_it y more p leads ea em) (with_it y' more' p' leads' eb en) =
    let k = lead_one s (anew w.script) w.outer (concluded_by s w.script.depth w.job y) more more' p p' u r leads leads' in
    record { records = ea ∙ ap (λ z. step (n + 1) ∷ put ++ upshot_records (concluded_by s w.script.depth w.job y) ++ z) k.records ∙ sym eb; places = em ∙ ap (stands (n + 1)) k.standing ∙ sym en }

waiting_one : (n : ℕ) (s : State) (w : Waiting) (r : In) (a b : List Out) (m m' : Progress) → AreUnended s.live → IsNumbered s → AtWaiting n s w r a m → AtWaiting n s w r b m' → SameMove a b m m'
waiting_one n s w r a b m m' u f (by_network s1 put over acts x) (by_off put' over' is all eb en) = absurd (network_not_off s (n + 1) r put s1 over acts is)
waiting_one n s w r a b m m' u f (by_off put over is all ea em) (by_network s1 put' over' acts x) = absurd (network_not_off s (n + 1) r put' s1 over' acts is)
waiting_one n s w r a b m m' u f (by_off put over is all ea em) (by_off put' over' is' all' eb en) =
    record { records = ea ∙ ap (λ z. step (n + 1) ∷ z) (all_take_one s.devices (close stopped_cause) s.live put put' [] [] over over' u all all').records ∙ sym eb; places = em ∙ sym en }
waiting_one n s w r a b m m' u f (by_network s1 put over acts x) (by_network s2 put' over' acts' x') =
    let k = network_one s (n + 1) r put put' s1 s2 over over' u acts acts' in
    let y = subst (λ z. Answered n s1 w put b m' (answer_in s1 r z w.awaited)) (sym k.ended) (subst (λ z. Answered n z w put b m' (answer_in z r over' w.awaited)) (sym k.state) (subst (λ z. Answered n s2 w z b m' (answer_in s2 r over' w.awaited)) (sym k.records) x')) in
    answered_one n s1 w put a b m m' (answer_in s1 r over w.awaited) (network_unended s (n + 1) r put s1 over u acts) (network_numbered s (n + 1) r put s1 over f acts) x y

yielded_one : (n : ℕ) (s : State) (inner : Running) (outer : List Running) (r : In) (a b : List Out) (m m' : Progress) → AreUnended s.live → AtYielded n s inner outer r a m → AtYielded n s inner outer r b m' → SameMove a b m m'
yielded_one n s inner outer r a b m m' u (by_any s1 put over acts ea em) (by_its_off put' over' is all eb en) = absurd (network_not_off s (n + 1) r put s1 over acts is)
yielded_one n s inner outer r a b m m' u (by_its_off put over is all ea em) (by_any s1 put' over' acts eb en) = absurd (network_not_off s (n + 1) r put' s1 over' acts is)
yielded_one n s inner outer r a b m m' u (by_its_off put over is all ea em) (by_its_off put' over' is' all' eb en) =
    record { records = ea ∙ ap (λ z. step (n + 1) ∷ z) (all_take_one s.devices (close stopped_cause) s.live put put' [] [] over over' u all all').records ∙ sym eb; places = em ∙ sym en }
yielded_one n s inner outer r a b m m' u (by_any s1 put over acts ea em) (by_any s2 put' over' acts' eb en) =
    let k = network_one s (n + 1) r put put' s1 s2 over over' u acts acts' in
    record { records = ea ∙ ap (λ z. step (n + 1) ∷ z) k.records ∙ sym eb; places = em ∙ ap (λ z. stands (n + 1) (running z (anew inner) outer)) k.state ∙ sym en }

at_one : (p : Standing) (n : ℕ) (r : In) (a b : List Out) (m m' : Progress) → StandsUnended p → StandsNumbered p → BeginsAt p n r a m → BeginsAt p n r b m' → SameMove a b m m'
at_one ready n r a b m m' u f h g = first_one n r a b m m' h g
at_one (running s inner outer) n r a b m m' u f h g = absurd h
at_one (waiting s w) n r a b m m' u f h g = waiting_one n s w r a b m m' u f h g
at_one (reaching s inner outer next) n r a b m m' u f h g = absurd h
at_one (yielded s inner outer) n r a b m m' u f h g = yielded_one n s inner outer r a b m m' u h g
at_one (handing s rest) n r a b m m' u f h g = absurd h
at_one (left s outer cause) n r a b m m' u f h g = absurd h
at_one (handed_off s) n r a b m m' u f h g = absurd h
at_one (stopped s) n r a b m m' u f h g = absurd h

pub begins_one : (m : Progress) (r : In) (a b : List Out) (m1 m2 : Progress) → StandsUnended m.standing → StandsNumbered m.standing → StepBegins m r a m1 → StepBegins m r b m2 → SameMove a b m1 m2
begins_one m r a b m1 m2 u f x y = at_one m.standing m.used r a b m1 m2 u f (begins_at m r a m1 x) (begins_at m r b m2 y)
