-- In every course the numbers of the opens that live rise, and are below how many were made.
use Rattle.std.proofs.Common.{◌≡◌, ℕ, ◌+◌, ◌<◌, ◌≤◌, ◌==◌, ◌||◌, Bool, true, false, List, [], ◌∷◌, ◌++◌, Option, Some, None, refl, sym, subst, cond, arith, eq-eqb, ne_eqb}
use Rattle.std.specs.Prelude.{filter, not}
use Rattle.std.specs.List.{list_any}
use Rattle.nb_terms.specs.declared.cause.Cause.{Cause}
use Rattle.nb_defs.specs.Records.{In, Out}
use Rattle.nb_defs.specs.ScriptLines.{script_reading}
use Rattle.nb_settings.specs.Tables.{TableLists}
use Rattle.nb_imagecmd.specs.declared.outcome.ScriptImage.{ScriptImage}
use Rattle.nb_stack.specs.Client.{Client}
use Rattle.nb_machine.specs.Conclusions.{Conclusion, keeps, tells, fails, boots, runs_script}
use Rattle.nb_machine.specs.FirstText.{text_refusal}
use Rattle.nb_machine.specs.Effects.{Effect, says, asks, goes, sleeps, shuts_device, inquires, on_images, on_drives, hooks_disk, unhooks_drive, boots_drive, concludes_at_once, effect_in, table_after, up_after}
use Rattle.nb_machine.specs.Errands.{Onward, fetches_now, echoes_now, looks_up_now, hooks_now}
use Rattle.nb_machine.specs.Queries.{Query, for_lease, for_echo, for_host, for_address}
use Rattle.nb_machine.specs.Running.{Running, anew, entered}
use Rattle.nb_machine.specs.Lives.{OpenInput, Live}
use Rattle.nb_machine.specs.States.{State, with_settings, with_images}
use Rattle.nb_machine.specs.Takings.{Over, AllTake, all_have, lives_on, is_over}
use Rattle.nb_machine.specs.Network.{Network, passes_by, brings, brings_reply, brings_segment, passes_time}
use Rattle.nb_machine.specs.Scripts.{Doing, ends, opens, goes_to, waits_until, shuts, concludes_now, hooks_one, lets_go, boots_one, surroundings, doing, doing_by, live_for, live_onward, Upshot, concludes, settles, hooks_drive, reads_drive, boots_drive_by, goes_onward, concluded_by, has_number}
use Rattle.nb_machine.specs.Courses.{Standing, ready, running, waiting, reaching, yielded, handing, left, handed_off, stopped, Progress, ScriptLeads, text_standing, ConclusionLeads, LeadsTo, StepBegins, runs, refuses, waits_on, is_answered, switches_off, resumes, goes_off, Proceeds, passes, is_left, hands_back, yields, does, closes_device, goes_to_hook, hooks_none, unhooks, boots_hooked, AsksBlock, ReadsBlock, block_standing, concludes_there, leaves, jumps, finds_no_label, falls_asleep, opens_one, finds_no_route, opens_onward, finds_no_way, opens_no_more, hands, has_handed, Course, begins, uses, goes_on, is_drives_own, DropsDrive}
use Rattle.nb_drivecmd.specs.declared.drive.Drive.{Drive}
use Rattle.nb_drivecmd.specs.HookedDrives.{is_drive}
use Rattle.nb_onecourse.proofs.EachRecord.{SamePlace, one_place}

-- their numbers rise from this one on, and are below that
abbrev pub AreRising : ℕ → ℕ → List Live → Type 0
AreRising least most [] = Unit {0}
AreRising least most (l ∷ ls) = (least ≤ l.number) × (l.number < most) × AreRising (l.number + 1) most ls

abbrev pub IsNumbered : State → Type 0
IsNumbered s = AreRising 0 s.opens s.live

abbrev pub StandsNumbered : Standing → Type 0
StandsNumbered ready = Unit {0}
StandsNumbered (running s inner outer) = IsNumbered s
StandsNumbered (waiting s w) = IsNumbered s
StandsNumbered (reaching s inner outer next) = IsNumbered s
StandsNumbered (yielded s inner outer) = IsNumbered s
StandsNumbered (handing s rest) = IsNumbered s
StandsNumbered (left s outer cause) = IsNumbered s
StandsNumbered (handed_off s) = IsNumbered s
StandsNumbered (stopped s) = IsNumbered s

-- RISING NUMBERS

rising_from : (least least' most : ℕ) (ls : List Live) → least' ≤ least → AreRising least most ls → AreRising least' most ls
rising_from least least' most [] few r = tt
rising_from least least' most (l ∷ ls) few r = (omega (arith, few, r.0), r.1, r.2)

rising_below : (least most most' : ℕ) (ls : List Live) → most ≤ most' → AreRising least most ls → AreRising least most' ls
rising_below least most most' [] more r = tt
rising_below least most most' (l ∷ ls) more r = (r.0, omega (arith, more, r.1), rising_below (l.number + 1) most most' ls more r.2)

-- one more at the end
rising_snoc : (least most : ℕ) (ls : List Live) (l : Live) → least ≤ most → l.number ≡ most → AreRising least most ls → AreRising least (most + 1) (ls ++ l ∷ [])
rising_snoc least most [] l few is r = (omega (arith, few, is), omega (arith, is), tt)
rising_snoc least most (x ∷ xs) l few is r = (r.0, omega (arith, r.1), rising_snoc (x.number + 1) most xs l (omega (arith, r.1)) is r.2)

-- some of them
rising_cond : (least most : ℕ) (l : Live) (ls : List Live) (b : Bool) → least ≤ l.number → l.number < most → AreRising (l.number + 1) most ls → AreRising least most (cond b (l ∷ ls) ls)
rising_cond least most l ls true few more r = (few, more, r)
rising_cond least most l ls false few more r = rising_from (l.number + 1) least most ls (omega (arith, few)) r

rising_some : (f : Live → Bool) (least most : ℕ) (ls : List Live) → AreRising least most ls → AreRising least most (filter f ls)
rising_some f least most [] r = tt
rising_some f least most (l ∷ ls) r = rising_cond least most l (filter f ls) (f l) r.0 r.1 (rising_some f (l.number + 1) most ls r.2)

-- those that live on after something came to them
rising_taken : (devices : List Client) (came : OpenInput) (ls : List Live) (put : List Out) (after : List Live) (over : List Over) (least most : ℕ) → AllTake devices came ls put after over → AreRising least most ls →
    AreRising least most after
rising_taken devices came ls put after over least most all_have r = tt
rising_taken devices came ls put after over least most (lives_on l ls0 rs link p more o got kept none rest) r = (r.0, r.1, rising_taken devices came ls0 more rs o (l.number + 1) most rest r.2)
rising_taken devices came ls put after over least most (is_over l ls0 rs link p more o cause got kept some rest) r =
    rising_from (l.number + 1) least most rs (omega (arith, r.0)) (rising_taken devices came ls0 more rs o (l.number + 1) most rest r.2)

-- where one of them lives on or not
rising_after : (l : Live) (devices : List Client) (came : OpenInput) (rest : List Live) (put : List Out) (after : List Live) (over : List Over) (least most : ℕ) → AllTake devices came (l ∷ []) put after over →
    AreRising least most (l ∷ rest) → AreRising least most (after ++ rest)
rising_after l devices came rest put after over least most (lives_on _ _ _ link p more o got kept none all_have) r = r
rising_after l devices came rest put after over least most (is_over _ _ _ link p more o cause got kept some all_have) r = rising_from (l.number + 1) least most rest (omega (arith, r.0)) r.2

rising_within : (before behind after : List Live) (l : Live) (devices : List Client) (came : OpenInput) (put : List Out) (over : List Over) (least most : ℕ) → AllTake devices came (l ∷ []) put after over →
    AreRising least most (before ++ l ∷ behind) → AreRising least most (before ++ after ++ behind)
rising_within [] behind after l devices came put over least most all r = rising_after l devices came behind put after over least most all r
rising_within (x ∷ before) behind after l devices came put over least most all r = (r.0, r.1, rising_within before behind after l devices came put over (x.number + 1) most all r.2)

-- ONE OF A NUMBER

least_of : (xs ys : List Live) (l : Live) (least most : ℕ) → AreRising least most (xs ++ l ∷ ys) → least ≤ l.number
least_of [] ys l least most r = r.0
least_of (x ∷ xs) ys l least most r = let above = least_of xs ys l (x.number + 1) most r.2 in omega (arith, r.0, above)

none_of_both : (a b : Bool) → a ≡ false → b ≡ false → (a || b) ≡ false
none_of_both true b e f = absurd (cc)
none_of_both false b e f = f

-- none before an open has its number
none_before : (number : ℕ) (xs ys : List Live) (l : Live) (least most : ℕ) → l.number ≡ number → AreRising least most (xs ++ l ∷ ys) → list_any (has_number number) xs ≡ false
none_before number [] ys l least most is r = refl
none_before number (x ∷ xs) ys l least most is r =
    let above = least_of xs ys l (x.number + 1) most r.2 in
    none_of_both (x.number == number) (list_any (has_number number) xs) (ne_eqb x.number number (λ e. omega (arith, e, is, above))) (none_before number xs ys l (x.number + 1) most is r.2)

-- an open of a number stands at one place
pub same_place : (number : ℕ) (s : State) (xs xs' ys ys' : List Live) (l l' : Live) → IsNumbered s → s.live ≡ xs ++ l ∷ ys → s.live ≡ xs' ++ l' ∷ ys' → l.number ≡ number → l'.number ≡ number → SamePlace xs xs' l l' ys ys'
same_place number s xs xs' ys ys' l l' r e e' is is' =
    one_place (has_number number) xs xs' ys ys' l l' (subst (λ z. z ≡ xs' ++ l' ∷ ys') e e') (eq-eqb l.number number is) (eq-eqb l'.number number is')
    (none_before number xs ys l 0 s.opens is (subst (AreRising 0 s.opens) e r)) (none_before number xs' ys' l' 0 s.opens is' (subst (AreRising 0 s.opens) e' r))

-- A RECORD

replaced_numbered : (s : State) (before behind after : List Live) (l : Live) (came : OpenInput) (put : List Out) (over : List Over) → IsNumbered s → s.live ≡ before ++ l ∷ behind → AllTake s.devices came (l ∷ []) put after over →
    AreRising 0 s.opens (before ++ after ++ behind)
replaced_numbered s before behind after l came put over r lives all = rising_within before behind after l s.devices came put over 0 s.opens all (subst (AreRising 0 s.opens) lives r)

pub network_numbered : (s : State) (n : ℕ) (r : In) (put : List Out) (after : State) (over : List Over) → IsNumbered s → Network s n r put after over → IsNumbered after
network_numbered s n r put after over u (passes_by _ _ _ link m on got is none) = u
network_numbered s n r put after over u (brings _ _ _ link p d before behind rest l _ _ on got is lives takes none others all) = replaced_numbered s before behind rest l _ put over u lives all
network_numbered s n r put after over u (brings_reply _ _ _ link p e before behind rest l _ _ on got is lives takes none others all) = replaced_numbered s before behind rest l _ put over u lives all
network_numbered s n r put after over u (brings_segment _ _ _ link from p g before behind rest l _ _ on got is lives takes none others all) = replaced_numbered s before behind rest l _ put over u lives all
network_numbered s n r put after over u (passes_time ms rest _ _ all) = rising_taken s.devices _ s.live put rest over 0 s.opens all u

-- WHAT A COMMAND COMES TO

-- an open that is made has the next number
abbrev Numbers : Doing → Type 0
Numbers (ends o s) = IsNumbered s
Numbers (opens s l job) = IsNumbered s × (l.number ≡ s.opens)
Numbers (goes_to name) = Unit {0}
Numbers (waits_until time) = Unit {0}
Numbers (shuts s) = IsNumbered s
Numbers (concludes_now x) = Unit {0}
Numbers (hooks_one hooking) = Unit {0}
Numbers (lets_go number cause) = Unit {0}
Numbers (boots_one number) = Unit {0}

asked_number : (s : State) (q : Query) → (live_for s q).number ≡ s.opens
asked_number s for_lease = refl
asked_number s (for_echo server) = refl
asked_number s (for_host errand name by) = refl
asked_number s (for_address setting name by) = refl

onward_number : (s : State) (next : Onward) → (live_onward s next).number ≡ s.opens
onward_number s (fetches_now wanted) = refl
onward_number s (echoes_now server) = refl
onward_number s (hooks_now hooking server) = refl
onward_number s (looks_up_now errand name by) = refl

numbers_by : (s : State) (table : TableLists) (up : Bool) (e : Effect) → IsNumbered s → Numbers (doing_by s table up e)
numbers_by s table up (says o) u = u
numbers_by s table up (asks wanted) u = (u, refl)
numbers_by s table up (goes name) u = tt
numbers_by s table up (sleeps seconds) u = tt
numbers_by s table up shuts_device u = u
numbers_by s table up (on_images command) u = tt
numbers_by s table up (on_drives c) u = tt
numbers_by s table up (hooks_disk hooking) u = tt
numbers_by s table up (unhooks_drive number cause) u = tt
numbers_by s table up (boots_drive number) u = tt
numbers_by s table up (concludes_at_once c) u = tt
numbers_by s table up (inquires q) u = (u, asked_number (with_settings s table up) q)

doing_numbers : (s : State) (inner : Running) (ws : List (List ℕ)) (d : Doing) → doing s inner ws ≡ d → IsNumbered s → Numbers d
doing_numbers s inner ws d e u = subst Numbers e (numbers_by s (table_after s.table ws) (up_after s.table s.up ws) (effect_in (surroundings s inner) ws) u)

-- WHERE IT LEADS

text_numbered : (s : State) (new : Running) (outer : List Running) (refused : Option Cause) → IsNumbered s → StandsNumbered (text_standing s new outer refused)
text_numbered s new outer None u = u
text_numbered s new outer (Some cause) u = u

script_numbered : (s : State) (inner : Running) (outer : List Running) (image : ScriptImage) (replaces : Bool) (put : List Out) (p : Standing) → IsNumbered s → ScriptLeads s inner outer image replaces put p → StandsNumbered p
script_numbered s inner outer image false put p u h = subst StandsNumbered (sym h.1) (text_numbered s _ (inner ∷ outer) (text_refusal (script_reading image.text)) u)
script_numbered s inner outer image true put p u h = subst StandsNumbered (sym h.1) (text_numbered s _ outer (text_refusal (script_reading image.text)) u)

concluded_numbered : (s : State) (inner : Running) (outer : List Running) (c : Conclusion) (put : List Out) (p : Standing) → IsNumbered s → ConclusionLeads s inner outer c put p → StandsNumbered p
concluded_numbered s inner outer (keeps list) put p u h = subst StandsNumbered (sym h.1) u
concluded_numbered s inner outer (tells list lines) put p u h = subst StandsNumbered (sym h.1) u
concluded_numbered s inner outer (runs_script list image replaces) put p u h = script_numbered (with_images s list) inner outer image replaces put p u h
concluded_numbered s inner outer (fails cause) put p u h = subst StandsNumbered (sym h.1) u
concluded_numbered s inner outer (boots list kernel) put p u h = subst StandsNumbered (sym h.2) tt

-- where a drive was asked for its first block
block_numbered : (s : State) (inner : Running) (outer : List Running) (number : ℕ) (d : Option Drive) (over : List Over) → IsNumbered s → StandsNumbered (block_standing s inner outer number d over)
block_numbered s inner outer number d [] u = u
block_numbered s inner outer number d (o ∷ over) u = u

asked_numbered : (s : State) (number : ℕ) (put : List Out) (s' : State) (over : List Over) → IsNumbered s → AsksBlock s number put s' over → IsNumbered s'
asked_numbered s number put s' over u h = subst IsNumbered (sym h.leaves) (replaced_numbered s h.before h.behind h.after h.l _ put over u h.parted h.takes)

reads_numbered : (s : State) (inner : Running) (outer : List Running) (number : ℕ) (d : Option Drive) (put : List Out) (p : Standing) → IsNumbered s → ReadsBlock s inner outer number d put p → StandsNumbered p
reads_numbered s inner outer number d put p u h =
    subst StandsNumbered (sym h.stands_so) (block_numbered h.next inner outer number d h.over (asked_numbered s number h.asked h.next h.over u h.asks))

leads_numbered : (s : State) (inner : Running) (outer : List Running) (x : Upshot) (put : List Out) (p : Standing) → IsNumbered s → LeadsTo s inner outer x put p → StandsNumbered p
leads_numbered s inner outer (concludes c) put p u h = concluded_numbered s inner outer c put p u h
leads_numbered s inner outer (settles x) put p u h = subst StandsNumbered (sym h.1) u
leads_numbered s inner outer (hooks_drive d) put p u h = subst StandsNumbered (sym h.1) u
leads_numbered s inner outer (reads_drive d) put p u h = reads_numbered s inner outer d.open_number (Some d) put p u h
leads_numbered s inner outer (boots_drive_by d bytes) put p u h = subst StandsNumbered (sym h.2) tt
leads_numbered s inner outer (goes_onward next) put p u h = subst StandsNumbered (sym h.1) u

dropped_numbered : (s : State) (number : ℕ) (put : List Out) (s' : State) → IsNumbered s → DropsDrive s number put s' → IsNumbered s'
dropped_numbered s number put s' u d = subst IsNumbered (sym d.leaves) (rising_some (λ l. not (is_drives_own (filter (is_drive number) s.drives) l)) 0 s.opens s.live u)

opened_numbered : (s : State) (l : Live) → IsNumbered s → l.number ≡ s.opens → AreRising 0 (s.opens + 1) (s.live ++ l ∷ [])
opened_numbered s l u is = rising_snoc 0 s.opens s.live l (omega arith) is u

made_numbered : (s : State) → IsNumbered s → AreRising 0 (s.opens + 1) s.live
made_numbered s u = rising_below 0 s.opens (s.opens + 1) s.live (omega arith) u

pub begins_numbered : (m : Progress) (r : In) (a : List Out) (m' : Progress) → StandsNumbered m.standing → StepBegins m r a m' → StandsNumbered m'.standing
begins_numbered m r a m' u (runs n s code valid plain) = tt
begins_numbered m r a m' u (refuses n s cause valid plain) = tt
begins_numbered m r a m' u (waits_on n s s' w _ put over valid acts none) = network_numbered s (n + 1) r put s' over u acts
begins_numbered m r a m' u (is_answered n s s' w _ put more over x p valid acts some leads) =
    leads_numbered s' (anew w.script) w.outer (concluded_by s' w.script.depth w.job x) more p (network_numbered s (n + 1) r put s' over u acts) leads
begins_numbered m r a m' u (switches_off n s w put over all) = tt
begins_numbered m r a m' u (resumes n s s' inner outer _ put over valid acts) = network_numbered s (n + 1) r put s' over u acts
begins_numbered m r a m' u (goes_off n s inner outer put over all) = tt

pub proceeds_numbered : (m : Progress) (a : List Out) (m' : Progress) → StandsNumbered m.standing → Proceeds m a m' → StandsNumbered m'.standing
proceeds_numbered m a m' u (passes n s inner next outer h) = u
proceeds_numbered m a m' u (is_left n s inner outer cause h) = u
proceeds_numbered m a m' u (yields n s inner outer c cs h full) = u
proceeds_numbered m a m' u (does n s s' inner outer c cs o h early e k) = doing_numbers s inner (c ∷ cs) (ends o s') e u
proceeds_numbered m a m' u (closes_device n s s' inner outer c cs put over h early e all) = tt
proceeds_numbered m a m' u (goes_to_hook n s s' inner outer c cs hooking put next h early e dropped next_asked) = dropped_numbered s hooking.number put s' u dropped
proceeds_numbered m a m' u (hooks_none n s s' inner outer c cs hooking put cause h early e dropped next_asked) = dropped_numbered s hooking.number put s' u dropped
proceeds_numbered m a m' u (unhooks n s s' inner outer c cs number put cause h early e dropped) = dropped_numbered s number put s' u dropped
proceeds_numbered m a m' u (boots_hooked n s inner outer c cs number d put p h early e hooked reads) = reads_numbered s (entered inner) outer d.open_number None put p u reads
proceeds_numbered m a m' u (hands_back n s inner outer cause) = u
proceeds_numbered m a m' u (concludes_there n s inner outer c cs x put p h early e leads) = concluded_numbered s (entered inner) outer x put p u leads
proceeds_numbered m a m' u (leaves n s s' inner outer c cs o h early e k) = doing_numbers s inner (c ∷ cs) (ends o s') e u
proceeds_numbered m a m' u (jumps n s inner outer c cs name line h early e k) = u
proceeds_numbered m a m' u (finds_no_label n s inner outer c cs name h early e k) = u
proceeds_numbered m a m' u (falls_asleep n s inner outer c cs time h early e) = u
proceeds_numbered m a m' u (opens_one n s s' inner outer c cs l job link put h early e got way) =
    let k = doing_numbers s inner (c ∷ cs) (opens s' l job) e u in opened_numbered s' l k.0 k.1
proceeds_numbered m a m' u (finds_no_route n s s' inner outer c cs l job link h early e got way) = made_numbered s' (doing_numbers s inner (c ∷ cs) (opens s' l job) e u).0
proceeds_numbered m a m' u (opens_onward n s inner outer next link put few got way) = opened_numbered s (live_onward s next) u (onward_number s next)
proceeds_numbered m a m' u (finds_no_way n s inner outer next link few got way) = made_numbered s u
proceeds_numbered m a m' u (opens_no_more n s inner outer next full) = u
proceeds_numbered m a m' u (hands n s r rest) = u
proceeds_numbered m a m' u (has_handed n s) = u

pub course_numbered : (ins : List In) (outs : List Out) (m : Progress) → Course ins outs m → StandsNumbered m.standing
course_numbered ins outs m begins = tt
course_numbered ins outs m (uses ins' outs' m0 r added m' p b) = begins_numbered m0 r added m (course_numbered ins' outs' m0 p) b
course_numbered ins outs m (goes_on ins' outs' m0 added m' p v) = proceeds_numbered m0 added m (course_numbered ins' outs' m0 p) v
