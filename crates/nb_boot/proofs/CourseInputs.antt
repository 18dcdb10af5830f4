-- The records that a course has used.
use Rattle.std.proofs.Common.{◌≡◌, ℕ, ◌+◌, ◌<◌, Bool, true, false, List, [], ◌∷◌, ◌++◌, length, Option, Some, None, refl, sym, ◌∙◌, ap, subst, arith, append_assoc, length-append}
use Rattle.nb_terms.specs.declared.cause.Cause.{Cause}
use Rattle.nb_defs.specs.Records.{Start, In, start, IsIn, Out}
use Rattle.nb_defs.specs.ScriptLines.{script_reading}
use Rattle.nb_imagecmd.specs.declared.outcome.ScriptImage.{ScriptImage}
use Rattle.nb_machine.specs.Conclusions.{Conclusion, keeps, tells, fails, boots, runs_script}
use Rattle.nb_machine.specs.FirstText.{text_refusal, lines_of}
use Rattle.nb_machine.specs.Running.{Running, anew, entered, script_within, script_in_place}
use Rattle.nb_machine.specs.States.{State, with_images}
use Rattle.nb_machine.specs.Scripts.{Upshot, concludes, settles, hooks_drive, reads_drive, boots_drive_by, goes_onward, concluded_by}
use Rattle.nb_drivecmd.specs.declared.drive.Drive.{Drive}
use Rattle.nb_machine.specs.Takings.{Over}
use Rattle.nb_machine.specs.Network.{on_net0, Network, passes_by, brings, brings_reply, brings_segment, passes_time}
use Rattle.nb_machine.specs.Courses.{Standing, ready, running, waiting, reaching, yielded, handing, left, handed_off, stopped, Progress, text_standing, ScriptLeads, ConclusionLeads, block_standing, ReadsBlock, LeadsTo, StepBegins, runs, refuses, waits_on, is_answered, switches_off, resumes, goes_off, Proceeds, passes, is_left, hands_back, yields, does, closes_device, goes_to_hook, hooks_none, unhooks, boots_hooked, concludes_there, leaves, jumps, finds_no_label, falls_asleep, opens_one, finds_no_route, opens_onward, finds_no_way, opens_no_more, hands, has_handed, Course, begins, uses, goes_on}
use Rattle.nb_onecourse.proofs.Nexts.{what_next}
use Rattle.nb_onecourse.proofs.OneNext.{still_proceeds}
use Rattle.nb_onecourse.proofs.Ends.{snoc_same, snoc_some}
use Rattle.nb_boot.specs.Shown.{CommandWaits, IsOther}
use Rattle.nb_boot.proofs.Comparing.{ending}
use Rattle.nb_boot.proofs.Spelled.{AreIn, are_in_then}

-- a START was used
abbrev pub HasStarted : Standing → Type 0
HasStarted ready = ⊥
HasStarted (running s inner outer) = Unit {0}
HasStarted (waiting s w) = Unit {0}
HasStarted (reaching s inner outer next) = Unit {0}
HasStarted (yielded s inner outer) = Unit {0}
HasStarted (handing s rest) = Unit {0}
HasStarted (left s outer cause) = Unit {0}
HasStarted (handed_off s) = Unit {0}
HasStarted (stopped s) = Unit {0}

text_starts : (s : State) (new : Running) (outer : List Running) (refusal : Option Cause) → HasStarted (text_standing s new outer refusal)
text_starts s new outer None = tt
text_starts s new outer (Some cause) = tt

script_starts : (s : State) (inner : Running) (outer : List Running) (image : ScriptImage) (replaces : Bool) (put : List Out) (p : Standing) → ScriptLeads s inner outer image replaces put p → HasStarted p
script_starts s inner outer image false put p h =
    subst HasStarted (sym h.1) (text_starts s (script_within inner image.uri (lines_of (script_reading image.text))) (inner ∷ outer) (text_refusal (script_reading image.text)))
script_starts s inner outer image true put p h =
    subst HasStarted (sym h.1) (text_starts s (script_in_place inner image.uri (lines_of (script_reading image.text))) outer (text_refusal (script_reading image.text)))

concluded_starts : (s : State) (inner : Running) (outer : List Running) (c : Conclusion) (put : List Out) (p : Standing) → ConclusionLeads s inner outer c put p → HasStarted p
concluded_starts s inner outer (keeps list) put p h = subst HasStarted (sym h.1) tt
concluded_starts s inner outer (tells list lines) put p h = subst HasStarted (sym h.1) tt
concluded_starts s inner outer (fails cause) put p h = subst HasStarted (sym h.1) tt
concluded_starts s inner outer (boots list kernel) put p h = subst HasStarted (sym h.2) tt
concluded_starts s inner outer (runs_script list image replaces) put p h = script_starts (with_images s list) inner outer image replaces put p h

block_starts : (s : State) (inner : Running) (outer : List Running) (number : ℕ) (d : Option Drive) (over : List Over) → HasStarted (block_standing s inner outer number d over)
block_starts s inner outer number d [] = tt
block_starts s inner outer number d (o ∷ over) = tt

read_starts : (s : State) (inner : Running) (outer : List Running) (number : ℕ) (d : Option Drive) (put : List Out) (p : Standing) → ReadsBlock s inner outer number d put p → HasStarted p
read_starts s inner outer number d put p h = subst HasStarted (sym h.stands_so) (block_starts h.next inner outer number d h.over)

leads_started : (s : State) (inner : Running) (outer : List Running) (x : Upshot) (put : List Out) (p : Standing) → LeadsTo s inner outer x put p → HasStarted p
leads_started s inner outer (concludes c) put p h = concluded_starts s inner outer c put p h
leads_started s inner outer (settles x) put p h = subst HasStarted (sym h.1) tt
leads_started s inner outer (hooks_drive d) put p h = subst HasStarted (sym h.1) tt
leads_started s inner outer (reads_drive d) put p h = read_starts s inner outer d.open_number (Some d) put p h
leads_started s inner outer (boots_drive_by d bytes) put p h = subst HasStarted (sym h.2) tt
leads_started s inner outer (goes_onward next) put p h = subst HasStarted (sym h.1) tt

-- a record that begins a step has a spelling, and is counted
record Counted (m : Progress) (r : In) (m' : Progress) : Type 0 where
  valid : IsIn r
  used : m'.used ≡ m.used + 1
  started : HasStarted m'.standing

begins_counted : (m : Progress) (r : In) (a : List Out) (m' : Progress) → StepBegins m r a m' → Counted m r m'
begins_counted m r a m' (runs n s code valid plain) = record { valid = valid; used = refl; started = tt }
begins_counted m r a m' (refuses n s cause valid plain) = record { valid = valid; used = refl; started = tt }
begins_counted m r a m' (waits_on n s s' w _ put over valid acts none) = record { valid = valid; used = refl; started = tt }
begins_counted m r a m' (is_answered n s s' w _ put more over x p valid acts some leads) =
    record { valid = valid; used = refl; started = leads_started s' (anew w.script) w.outer (concluded_by s' w.script.depth w.job x) more p leads }
begins_counted m r a m' (switches_off n s w put over all) = record { valid = tt; used = refl; started = tt }
begins_counted m r a m' (resumes n s s' inner outer _ put over valid acts) = record { valid = valid; used = refl; started = tt }
begins_counted m r a m' (goes_off n s inner outer put over all) = record { valid = tt; used = refl; started = tt }

-- a move uses none
proceeds_counted : (m : Progress) (a : List Out) (m' : Progress) → Proceeds m a m' → (m'.used ≡ m.used) × HasStarted m'.standing
proceeds_counted m a m' (passes n s inner next outer h) = (refl, tt)
proceeds_counted m a m' (is_left n s inner outer cause h) = (refl, tt)
proceeds_counted m a m' (hands_back n s inner outer cause) = (refl, tt)
proceeds_counted m a m' (yields n s inner outer c cs h full) = (refl, tt)
proceeds_counted m a m' (does n s s' inner outer c cs o h early e k) = (refl, tt)
proceeds_counted m a m' (closes_device n s s' inner outer c cs put over h early e all) = (refl, tt)
proceeds_counted m a m' (goes_to_hook n s s' inner outer c cs hooking put next h early e drops asks) = (refl, tt)
proceeds_counted m a m' (hooks_none n s s' inner outer c cs hooking put cause h early e drops none) = (refl, tt)
proceeds_counted m a m' (unhooks n s s' inner outer c cs number put cause h early e drops) = (refl, tt)
proceeds_counted m a m' (boots_hooked n s inner outer c cs number d put p h early e there reads) = (refl, read_starts s (entered inner) outer d.open_number None put p reads)
proceeds_counted m a m' (concludes_there n s inner outer c cs x put p h early e leads) = (refl, concluded_starts s (entered inner) outer x put p leads)
proceeds_counted m a m' (leaves n s s' inner outer c cs o h early e k) = (refl, tt)
proceeds_counted m a m' (jumps n s inner outer c cs name line h early e k) = (refl, tt)
proceeds_counted m a m' (finds_no_label n s inner outer c cs name h early e k) = (refl, tt)
proceeds_counted m a m' (falls_asleep n s inner outer c cs time h early e) = (refl, tt)
proceeds_counted m a m' (opens_one n s s' inner outer c cs l job link put h early e got way) = (refl, tt)
proceeds_counted m a m' (finds_no_route n s s' inner outer c cs l job link h early e got way) = (refl, tt)
proceeds_counted m a m' (opens_onward n s inner outer next link put few got way) = (refl, tt)
proceeds_counted m a m' (finds_no_way n s inner outer next link few got way) = (refl, tt)
proceeds_counted m a m' (opens_no_more n s inner outer next full) = (refl, tt)
proceeds_counted m a m' (hands n s r rest) = (refl, tt)
proceeds_counted m a m' (has_handed n s) = (refl, tt)

pub begins_used : (m : Progress) (r : In) (a : List Out) (m' : Progress) → StepBegins m r a m' → m'.used ≡ m.used + 1
begins_used m r a m' b = (begins_counted m r a m' b).used

pub proceeds_used : (m : Progress) (a : List Out) (m' : Progress) → Proceeds m a m' → m'.used ≡ m.used
proceeds_used m a m' v = (proceeds_counted m a m' v).0

-- the records used have spellings
pub course_in : (ins : List In) (outs : List Out) (m : Progress) → Course ins outs m → AreIn ins
course_in ins outs m begins = tt
course_in ins outs m (uses ins' outs' m0 r added m' p b) = are_in_then ins' r (course_in ins' outs' m0 p) (begins_counted m0 r added m b).valid
course_in ins outs m (goes_on ins' outs' m0 added m' p v) = course_in ins' outs' m0 p

-- the count of them
pub course_counts : (ins : List In) (outs : List Out) (m : Progress) → Course ins outs m → m.used ≡ length ins
course_counts ins outs m begins = refl
course_counts ins outs m (uses ins' outs' m0 r added m' p b) = omega (arith, (begins_counted m0 r added m b).used, course_counts ins' outs' m0 p, length-append ins' (r ∷ []))
course_counts ins outs m (goes_on ins' outs' m0 added m' p v) = (proceeds_counted m0 added m v).0 ∙ course_counts ins' outs' m0 p

-- where records were used, a START was
pub course_started : (ins : List In) (outs : List Out) (m : Progress) → Course ins outs m → (x : In) (xs : List In) → ins ≡ x ∷ xs → HasStarted m.standing
course_started ins outs m begins x xs e = absurd (omega (arith, ap length e))
course_started ins outs m (uses ins' outs' m0 r added m' p b) x xs e = (begins_counted m0 r added m b).started
course_started ins outs m (goes_on ins' outs' m0 added m' p v) x xs e = (proceeds_counted m0 added m v).1

-- before any record nothing has happened
pub course_unused : (ins : List In) (outs : List Out) (m : Progress) → Course ins outs m → ins ≡ [] → m.standing ≡ ready
course_unused ins outs m begins e = refl
course_unused ins outs m (uses ins' outs' m0 r added m' p b) e = absurd (snoc_some ins' r (sym e))
course_unused ins outs m (goes_on ins' outs' m0 added m' p v) e = absurd (ready_moves m0 added m v (course_unused ins' outs' m0 p e))
  where
    ready_moves : (m : Progress) (a : List Out) (m' : Progress) → Proceeds m a m' → m.standing ≡ ready → ⊥
    ready_moves m a m' v e = still_proceeds m a m' (ap what_next e) v

-- how many records were used, by where a run stands: none, or some
abbrev pub UsedBy : Standing → List In → Type 0
UsedBy ready ins = ins ≡ []
UsedBy (running s inner outer) ins = 0 < length ins
UsedBy (waiting s w) ins = 0 < length ins
UsedBy (reaching s inner outer next) ins = 0 < length ins
UsedBy (yielded s inner outer) ins = 0 < length ins
UsedBy (handing s rest) ins = 0 < length ins
UsedBy (left s outer cause) ins = 0 < length ins
UsedBy (handed_off s) ins = 0 < length ins
UsedBy (stopped s) ins = 0 < length ins

some_used : (p : Standing) (x : In) (xs : List In) → HasStarted p → UsedBy p (x ∷ xs)
some_used ready x xs h = absurd h
some_used (running s inner outer) x xs h = omega arith
some_used (waiting s w) x xs h = omega arith
some_used (reaching s inner outer next) x xs h = omega arith
some_used (yielded s inner outer) x xs h = omega arith
some_used (handing s rest) x xs h = omega arith
some_used (left s outer cause) x xs h = omega arith
some_used (handed_off s) x xs h = omega arith
some_used (stopped s) x xs h = omega arith

pub used_by : (ins : List In) (outs : List Out) (p : Progress) → Course ins outs p → UsedBy p.standing ins
used_by [] outs p c = subst (λ z. UsedBy z []) (sym (course_unused [] outs p c refl)) refl
used_by (x ∷ xs) outs p c = some_used p.standing x xs (course_started (x ∷ xs) outs p c x xs refl)

-- a START and an OFF do nothing by the network
acts_other : (s : State) (n : ℕ) (r : In) (put : List Out) (after : State) (over : List Over) → Network s n r put after over → IsOther r
acts_other s n r put after over (passes_by _ _ _ link m (on_net0 bytes) got is none) = tt
acts_other s n r put after over (brings _ _ _ link p d before behind rest l _ _ (on_net0 bytes) got is lives takes none others all) = tt
acts_other s n r put after over (brings_reply _ _ _ link p e before behind rest l _ _ (on_net0 bytes) got is lives takes none others all) = tt
acts_other s n r put after over (brings_segment _ _ _ link from p g before behind rest l _ _ (on_net0 bytes) got is lives takes none others all) = tt
acts_other s n r put after over (passes_time ms rest _ _ all) = tt

-- a record other than the first comes where the next is waited for, and is no START
begins_waits : (m : Progress) (r : In) (a : List Out) (m' : Progress) → StepBegins m r a m' → HasStarted m.standing → CommandWaits m.standing × IsOther r
begins_waits m r a m' (runs n s code valid plain) h = absurd h
begins_waits m r a m' (refuses n s cause valid plain) h = absurd h
begins_waits m r a m' (waits_on n s s' w _ put over valid acts none) h = (tt, acts_other _ _ _ _ _ _ acts)
begins_waits m r a m' (is_answered n s s' w _ put more over x p valid acts some leads) h = (tt, acts_other _ _ _ _ _ _ acts)
begins_waits m r a m' (switches_off n s w put over all) h = (tt, tt)
begins_waits m r a m' (resumes n s s' inner outer _ put over valid acts) h = (tt, acts_other _ _ _ _ _ _ acts)
begins_waits m r a m' (goes_off n s inner outer put over all) h = (tt, tt)

-- the first record is a START
begins_first : (m : Progress) (r : In) (a : List Out) (m' : Progress) → StepBegins m r a m' → m.standing ≡ ready → (s : Start) × (r ≡ start s)
begins_first m r a m' (runs n s code valid plain) e = (s, refl)
begins_first m r a m' (refuses n s cause valid plain) e = (s, refl)
begins_first m r a m' (waits_on n s s' w _ put over valid acts none) e = absurd (cc)
begins_first m r a m' (is_answered n s s' w _ put more over x p valid acts some leads) e = absurd (cc)
begins_first m r a m' (switches_off n s w put over all) e = absurd (cc)
begins_first m r a m' (resumes n s s' inner outer _ put over valid acts) e = absurd (cc)
begins_first m r a m' (goes_off n s inner outer put over all) e = absurd (cc)

pub course_starts : (all : List In) (outs : List Out) (m : Progress) → Course all outs m → (q : In) (qs : List In) → all ≡ q ∷ qs → (s : Start) × (q ≡ start s)
course_starts all outs m begins q qs e = absurd (omega (arith, ap length e))
course_starts all outs m (uses [] outs' m0 r added m' p b) q qs e =
    let k = begins_first m0 r added m b (course_unused [] outs' m0 p refl) in
    let same : r ≡ q = cc in
    (k.0, sym same ∙ k.1)
course_starts all outs m (uses (x ∷ ins') outs' m0 r added m' p b) q qs e = let same : x ≡ q = cc in let k = course_starts (x ∷ ins') outs' m0 p x ins' refl in (k.0, sym same ∙ k.1)
course_starts all outs m (goes_on ins' outs' m0 added m' p v) q qs e = course_starts ins' outs' m0 p q qs e

-- a course on some records, where the next one is waited for, which is no START
pub record WaitedFor (ins : List In) (q : In) : Type 0 where
  pub outs : List Out
  pub progress : Progress
  pub course : Course ins outs progress
  pub waits : CommandWaits progress.standing
  pub other : IsOther q

waited_here : (x : In) (xs : List In) (q : In) (outs : List Out) (m m' : Progress) (added : List Out) → Course (x ∷ xs) outs m → StepBegins m q added m' → WaitedFor (x ∷ xs) q
waited_here x xs q outs m m' added p b =
    let w = begins_waits m q added m' b (course_started (x ∷ xs) outs m p x xs refl) in
    record { outs = outs; progress = m; course = p; waits = w.0; other = w.1 }

pub waited_for : (all : List In) (outs : List Out) (m : Progress) → Course all outs m → (x : In) (xs : List In) (q : In) (qs : List In) → all ≡ (x ∷ xs) ++ q ∷ qs → WaitedFor (x ∷ xs) q
waited_for all outs m begins x xs q qs e = absurd (omega (arith, ap length e))
waited_for all outs m (uses ins' outs' m0 r added m' p b) x xs q [] e =
    let k = snoc_same ins' (x ∷ xs) r q e in
    waited_here x xs q outs' m0 m added (subst (λ z. Course z outs' m0) k.0 p) (subst (λ z. StepBegins m0 z added m) k.1 b)
waited_for all outs m (uses ins' outs' m0 r added m' p b) x xs q (t ∷ qs) e =
    let l = ending t qs in
    let k = snoc_same ins' ((x ∷ xs) ++ q ∷ l.0) r l.1 (e ∙ ap (λ z. (x ∷ xs) ++ q ∷ z) l.2 ∙ sym (append_assoc (x ∷ xs) (q ∷ l.0) (l.1 ∷ []))) in
    waited_for ins' outs' m0 p x xs q l.0 k.0
waited_for all outs m (goes_on ins' outs' m0 added m' p v) x xs q qs e = waited_for ins' outs' m0 p x xs q qs e
