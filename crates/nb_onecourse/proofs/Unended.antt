-- In every course no open that lives has put its end.
use Rattle.std.proofs.Common.{◌≡◌, ℕ, ◌+◌, Bool, true, false, List, [], ◌∷◌, Option, Some, None, refl, sym, subst, cond}
use Rattle.std.specs.List.{AllByRecursion}
use Rattle.std.specs.Prelude.{filter, not}
use Rattle.nb_defs.specs.Records.{In, Out}
use Rattle.nb_settings.specs.Tables.{TableLists}
use Rattle.nb_machine.specs.Conclusions.{Conclusion, keeps, tells, fails, boots, runs_script}
use Rattle.nb_machine.specs.FirstText.{text_refusal}
use Rattle.nb_imagecmd.specs.declared.outcome.ScriptImage.{ScriptImage}
use Rattle.nb_terms.specs.declared.cause.Cause.{Cause}
use Rattle.nb_defs.specs.ScriptLines.{script_reading}
use Rattle.nb_machine.specs.Effects.{Effect, says, asks, goes, sleeps, shuts_device, inquires, on_images, on_drives, hooks_disk, unhooks_drive, boots_drive, concludes_at_once, effect_in, table_after, up_after}
use Rattle.nb_machine.specs.Errands.{Onward, fetches_now, echoes_now, looks_up_now, hooks_now}
use Rattle.nb_machine.specs.Queries.{Query, for_lease, for_echo, for_host, for_address}
use Rattle.nb_machine.specs.Running.{Running, anew, entered}
use Rattle.nb_machine.specs.Drives.{first_block_read}
use Rattle.nb_machine.specs.Lives.{task, Live}
use Rattle.nb_machine.specs.States.{State, with_settings, with_images}
use Rattle.nb_machine.specs.Takings.{Over}
use Rattle.nb_machine.specs.Scripts.{Doing, ends, opens, goes_to, waits_until, shuts, concludes_now, surroundings, doing, doing_by, live_for, live_onward, Upshot, concludes, settles, goes_onward, concluded_by, hooks_one, lets_go, boots_one, hooks_drive, reads_drive, boots_drive_by}
use Rattle.nb_machine.specs.Courses.{Standing, Progress, ScriptLeads, text_standing, ConclusionLeads, LeadsTo, StepBegins, runs, refuses, waits_on, is_answered, switches_off, resumes, goes_off, Proceeds, passes, is_left, hands_back, yields, does, closes_device, concludes_there, leaves, jumps, finds_no_label, falls_asleep, opens_one, finds_no_route, opens_onward, finds_no_way, opens_no_more, hands, has_handed, Course, begins, uses, goes_on, is_drives_own, DropsDrive, goes_to_hook, hooks_none, unhooks, boots_hooked, AsksBlock, ReadsBlock, block_standing}
use Rattle.nb_onecourse.specs.Answers.{PutsNoEnd, IsUnended, AreUnended, StandsUnended}
use Rattle.nb_onecourse.proofs.Ends.{all_snoc}
use Rattle.nb_onecourse.proofs.EachRecord.{network_unended, other_unended, replaced}
use Rattle.nb_onecourse.proofs.EachTakes.{all_take_unended}
use Rattle.nb_drivecmd.specs.declared.drive.Drive.{Drive}
use Rattle.nb_drivecmd.specs.HookedDrives.{is_drive}

-- what a command comes to leaves the opens that live, and one that it opens has exchanged nothing
abbrev Leaves : List Live → Doing → Type 0
Leaves live (ends o s) = s.live ≡ live
Leaves live (opens s l job) = (s.live ≡ live) × (l.exchanges ≡ [])
Leaves live (goes_to name) = Unit {0}
Leaves live (waits_until time) = Unit {0}
Leaves live (shuts s) = s.live ≡ live
Leaves live (concludes_now x) = Unit {0}
Leaves live (hooks_one hooking) = Unit {0}
Leaves live (lets_go number cause) = Unit {0}
Leaves live (boots_one number) = Unit {0}

asked_fresh : (s : State) (q : Query) → (live_for s q).exchanges ≡ []
asked_fresh s for_lease = refl
asked_fresh s (for_echo server) = refl
asked_fresh s (for_host errand name by) = refl
asked_fresh s (for_address setting name by) = refl

onward_fresh : (s : State) (next : Onward) → (live_onward s next).exchanges ≡ []
onward_fresh s (fetches_now wanted) = refl
onward_fresh s (echoes_now server) = refl
onward_fresh s (hooks_now hooking server) = refl
onward_fresh s (looks_up_now errand name by) = refl

leaves_by : (s : State) (table : TableLists) (up : Bool) (e : Effect) → Leaves s.live (doing_by s table up e)
leaves_by s table up (says o) = refl
leaves_by s table up (asks wanted) = (refl, refl)
leaves_by s table up (goes name) = tt
leaves_by s table up (sleeps seconds) = tt
leaves_by s table up shuts_device = refl
leaves_by s table up (on_images command) = tt
leaves_by s table up (on_drives c) = tt
leaves_by s table up (hooks_disk hooking) = tt
leaves_by s table up (unhooks_drive number cause) = tt
leaves_by s table up (boots_drive number) = tt
leaves_by s table up (concludes_at_once c) = tt
leaves_by s table up (inquires q) = (refl, asked_fresh (with_settings s table up) q)

pub doing_leaves : (s : State) (inner : Running) (ws : List (List ℕ)) (d : Doing) → doing s inner ws ≡ d → Leaves s.live d
doing_leaves s inner ws d e = subst (Leaves s.live) e (leaves_by s (table_after s.table ws) (up_after s.table s.up ws) (effect_in (surroundings s inner) ws))

-- an open that has exchanged nothing has ended nothing
fresh : (l : Live) → l.exchanges ≡ [] → IsUnended l
fresh l e = subst (AllByRecursion (PutsNoEnd l.number)) (sym e) tt

-- where a script runs
text_unended : (s : State) (new : Running) (outer : List Running) (refused : Option Cause) → AreUnended s.live → StandsUnended (text_standing s new outer refused)
text_unended s new outer None u = u
text_unended s new outer (Some cause) u = u

script_unended : (s : State) (inner : Running) (outer : List Running) (image : ScriptImage) (replaces : Bool) (put : List Out) (p : Standing) → AreUnended s.live → ScriptLeads s inner outer image replaces put p → StandsUnended p
script_unended s inner outer image false put p u h = subst StandsUnended (sym h.1) (text_unended s _ (inner ∷ outer) (text_refusal (script_reading image.text)) u)
script_unended s inner outer image true put p u h = subst StandsUnended (sym h.1) (text_unended s _ outer (text_refusal (script_reading image.text)) u)

-- where a conclusion leads, and what comes of a command
concluded_unended : (s : State) (inner : Running) (outer : List Running) (c : Conclusion) (put : List Out) (p : Standing) → AreUnended s.live → ConclusionLeads s inner outer c put p → StandsUnended p
concluded_unended s inner outer (keeps list) put p u h = subst StandsUnended (sym h.1) u
concluded_unended s inner outer (tells list lines) put p u h = subst StandsUnended (sym h.1) u
concluded_unended s inner outer (runs_script list image replaces) put p u h = script_unended (with_images s list) inner outer image replaces put p u h
concluded_unended s inner outer (fails cause) put p u h = subst StandsUnended (sym h.1) u
concluded_unended s inner outer (boots list kernel) put p u h = subst StandsUnended (sym h.2) tt

-- where a drive was asked for its first block
asked_unended : (s : State) (number : ℕ) (put : List Out) (s' : State) (over : List Over) → AreUnended s.live → AsksBlock s number put s' over → AreUnended s'.live
asked_unended s number put s' over u h =
    let each = subst AreUnended h.parted u in
    subst (λ (z : State). AreUnended z.live) (sym h.leaves)
    (replaced h.before h.behind h.after h.l each (all_take_unended s.devices (task first_block_read s.now) (h.l ∷ []) put h.after over (other_unended h.before h.behind h.l each, tt) h.takes))

block_unended : (s : State) (inner : Running) (outer : List Running) (number : ℕ) (d : Option Drive) (over : List Over) → AreUnended s.live → StandsUnended (block_standing s inner outer number d over)
block_unended s inner outer number d [] u = u
block_unended s inner outer number d (o ∷ over) u = u

reads_unended : (s : State) (inner : Running) (outer : List Running) (number : ℕ) (d : Option Drive) (put : List Out) (p : Standing) → AreUnended s.live → ReadsBlock s inner outer number d put p → StandsUnended p
reads_unended s inner outer number d put p u h =
    subst StandsUnended (sym h.stands_so) (block_unended h.next inner outer number d h.over (asked_unended s number h.asked h.next h.over u h.asks))

leads_unended : (s : State) (inner : Running) (outer : List Running) (x : Upshot) (put : List Out) (p : Standing) → AreUnended s.live → LeadsTo s inner outer x put p → StandsUnended p
leads_unended s inner outer (concludes c) put p u h = concluded_unended s inner outer c put p u h
leads_unended s inner outer (settles x) put p u h = subst StandsUnended (sym h.1) u
leads_unended s inner outer (hooks_drive d) put p u h = subst StandsUnended (sym h.1) u
leads_unended s inner outer (reads_drive d) put p u h = reads_unended s inner outer d.open_number (Some d) put p u h
leads_unended s inner outer (boots_drive_by d bytes) put p u h = subst StandsUnended (sym h.2) tt
leads_unended s inner outer (goes_onward next) put p u h = subst StandsUnended (sym h.1) u

-- where a drive was closed, the others live on
one_unended : (l : Live) (ls : List Live) (b : Bool) → IsUnended l → AreUnended ls → AreUnended (cond b (l ∷ ls) ls)
one_unended l ls true here u = (here, u)
one_unended l ls false here u = u

pub some_unended : (f : Live → Bool) (ls : List Live) → AreUnended ls → AreUnended (filter f ls)
some_unended f [] u = tt
some_unended f (l ∷ ls) u = one_unended l (filter f ls) (f l) u.0 (some_unended f ls u.1)

dropped_unended : (s : State) (number : ℕ) (put : List Out) (s' : State) → AreUnended s.live → DropsDrive s number put s' → AreUnended s'.live
dropped_unended s number put s' u d = subst (λ (z : State). AreUnended z.live) (sym d.leaves) (some_unended (λ l. not (is_drives_own (filter (is_drive number) s.drives) l)) s.live u)

pub begins_unended : (m : Progress) (r : In) (a : List Out) (m' : Progress) → StandsUnended m.standing → StepBegins m r a m' → StandsUnended m'.standing
begins_unended m r a m' u (runs n s code valid plain) = tt
begins_unended m r a m' u (refuses n s cause valid plain) = tt
begins_unended m r a m' u (waits_on n s s' w _ put over valid acts none) = network_unended s (n + 1) r put s' over u acts
begins_unended m r a m' u (is_answered n s s' w _ put more over x p valid acts some leads) =
    leads_unended s' (anew w.script) w.outer (concluded_by s' w.script.depth w.job x) more p (network_unended s (n + 1) r put s' over u acts) leads
begins_unended m r a m' u (switches_off n s w put over all) = tt
begins_unended m r a m' u (resumes n s s' inner outer _ put over valid acts) = network_unended s (n + 1) r put s' over u acts
begins_unended m r a m' u (goes_off n s inner outer put over all) = tt

pub proceeds_unended : (m : Progress) (a : List Out) (m' : Progress) → StandsUnended m.standing → Proceeds m a m' → StandsUnended m'.standing
proceeds_unended m a m' u (passes n s inner next outer h) = u
proceeds_unended m a m' u (is_left n s inner outer cause h) = u
proceeds_unended m a m' u (yields n s inner outer c cs h full) = u
proceeds_unended m a m' u (does n s s' inner outer c cs o h early e k) = subst AreUnended (sym (doing_leaves s inner (c ∷ cs) (ends o s') e)) u
proceeds_unended m a m' u (closes_device n s s' inner outer c cs put over h early e all) = tt
proceeds_unended m a m' u (goes_to_hook n s s' inner outer c cs hooking put next h early e dropped next_asked) = dropped_unended s hooking.number put s' u dropped
proceeds_unended m a m' u (hooks_none n s s' inner outer c cs hooking put cause h early e dropped next_asked) = dropped_unended s hooking.number put s' u dropped
proceeds_unended m a m' u (unhooks n s s' inner outer c cs number put cause h early e dropped) = dropped_unended s number put s' u dropped
proceeds_unended m a m' u (boots_hooked n s inner outer c cs number d put p h early e hooked reads) = reads_unended s (entered inner) outer d.open_number None put p u reads
proceeds_unended m a m' u (hands_back n s inner outer cause) = u
proceeds_unended m a m' u (concludes_there n s inner outer c cs x put p h early e leads) = concluded_unended s (entered inner) outer x put p u leads
proceeds_unended m a m' u (leaves n s s' inner outer c cs o h early e k) = subst AreUnended (sym (doing_leaves s inner (c ∷ cs) (ends o s') e)) u
proceeds_unended m a m' u (jumps n s inner outer c cs name line h early e k) = u
proceeds_unended m a m' u (finds_no_label n s inner outer c cs name h early e k) = u
proceeds_unended m a m' u (falls_asleep n s inner outer c cs time h early e) = u
proceeds_unended m a m' u (opens_one n s s' inner outer c cs l job link put h early e got way) =
    let k = doing_leaves s inner (c ∷ cs) (opens s' l job) e in all_snoc IsUnended s'.live l (subst AreUnended (sym k.0) u) (fresh l k.1)
proceeds_unended m a m' u (finds_no_route n s s' inner outer c cs l job link h early e got way) = subst AreUnended (sym (doing_leaves s inner (c ∷ cs) (opens s' l job) e).0) u
proceeds_unended m a m' u (opens_onward n s inner outer next link put few got way) = all_snoc IsUnended s.live (live_onward s next) u (fresh (live_onward s next) (onward_fresh s next))
proceeds_unended m a m' u (finds_no_way n s inner outer next link few got way) = u
proceeds_unended m a m' u (opens_no_more n s inner outer next full) = u
proceeds_unended m a m' u (hands n s r rest) = u
proceeds_unended m a m' u (has_handed n s) = u

pub course_unended : (ins : List In) (outs : List Out) (m : Progress) → Course ins outs m → StandsUnended m.standing
course_unended ins outs m begins = tt
course_unended ins outs m (uses ins' outs' m0 r added m' p b) = begins_unended m0 r added m (course_unended ins' outs' m0 p) b
course_unended ins outs m (goes_on ins' outs' m0 added m' p v) = proceeds_unended m0 added m (course_unended ins' outs' m0 p) v
