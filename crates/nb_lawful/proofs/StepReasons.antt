-- Why a record may be used: each step has its place among them, and comes where the scripts wait.
use Rattle.std.proofs.Common.{◌≡◌, ℕ, ◌+◌, List, [], ◌∷◌, ◌++◌, length, refl, sym, ◌∙◌, ap, subst, arith, true}
use Rattle.std.proofs.lemmas.List.{length-append}
use Rattle.nb_defs.specs.Records.{In, Out, step}
use Rattle.nb_machine.specs.Lives.{Live}
use Rattle.nb_machine.specs.States.{State}
use Rattle.nb_machine.specs.Scripts.{Waiting}
use Rattle.nb_machine.specs.Courses as course
use Rattle.nb_machine.specs.Courses.{Progress, StepBegins, Proceeds, Course}
use Rattle.nb_laws.specs.Events.{Event, starts, hears, waits, stops, puts, inputs, written_by}
use Rattle.nb_laws.specs.Progress.{NoneIsAnswered, IsStep, IsResumed, by_live, by_count, by_sleep, StepsSo, by_reading}
use Rattle.nb_laws.proofs.SoFar.{nothing_so_far}
use Rattle.nb_laws.proofs.Settling.{over_rests}
use Rattle.nb_laws.specs.CommandsSoFar.{CommandsSoFar, so_far}
use Rattle.nb_laws.specs.Hookings.{NoneIsHooked, boots_hooked}
use Rattle.nb_openlaws.specs.Standings.{AgreesLive, AreLive, live_opening, AgreesState, AgreesStanding}
use Rattle.nb_openlaws.proofs.UsedEvents.{IsUsed, IsFurther, live_one}
use Rattle.nb_openlaws.proofs.Networks.{network_agrees}
use Rattle.nb_openlaws.proofs.Courses.{step_event}
use Rattle.nb_lawful.specs.ScriptAgreement.{IsAwaited, AwaitsSo, awaits_time, awaits_file, awaits_query, ScriptsAgree, awaits_host, awaits_drive, awaits_disk, awaits_block, awaits_hooked}
use Rattle.nb_lawful.proofs.Resting.{waiting_rests, sleeping_comes}
use Rattle.nb_lawful.proofs.Plain.{amid_all}

-- THE COUNT

pub step_counts : (m : Progress) (r : In) (added : List Out) (m2 : Progress) → StepBegins m r added m2 → m2.used ≡ m.used + 1
step_counts m r added m2 (course.runs n s code valid reads) = refl
step_counts m r added m2 (course.refuses n s cause valid refuses) = refl
step_counts m r added m2 (course.waits_on n s s2 w r0 put over valid net none) = refl
step_counts m r added m2 (course.is_answered n s s2 w r0 put more over x p valid net some leads) = refl
step_counts m r added m2 (course.switches_off n s w put over all) = refl
step_counts m r added m2 (course.resumes n s s2 inner outer r0 put over valid net) = refl
step_counts m r added m2 (course.goes_off n s inner outer put over all) = refl

pub move_counts : (m : Progress) (added : List Out) (m2 : Progress) → Proceeds m added m2 → m2.used ≡ m.used
move_counts m added m2 (course.passes n s inner next outer comes) = refl
move_counts m added m2 (course.is_left n s inner outer cause comes) = refl
move_counts m added m2 (course.hands_back n s inner outer cause) = refl
move_counts m added m2 (course.concludes_there n s inner outer c cs x put p comes few is leads) = refl
move_counts m added m2 (course.yields n s inner outer c cs comes full) = refl
move_counts m added m2 (course.does n s s2 inner outer c cs x comes few is stays) = refl
move_counts m added m2 (course.closes_device n s s2 inner outer c cs put over comes few is all) = refl
move_counts m added m2 (course.goes_to_hook n s s2 inner outer c cs hooking put next comes few is drops asks) = refl
move_counts m added m2 (course.hooks_none n s s2 inner outer c cs hooking put cause comes few is drops asks) = refl
move_counts m added m2 (course.unhooks n s s2 inner outer c cs number put cause comes few is drops) = refl
move_counts m added m2 (course.boots_hooked n s inner outer c cs number d put p comes few is got reads) = refl
move_counts m added m2 (course.leaves n s s2 inner outer c cs x comes few is away) = refl
move_counts m added m2 (course.jumps n s inner outer c cs name line comes few is there) = refl
move_counts m added m2 (course.finds_no_label n s inner outer c cs name comes few is none) = refl
move_counts m added m2 (course.falls_asleep n s inner outer c cs t comes few is) = refl
move_counts m added m2 (course.opens_one n s s2 inner outer c cs l job link put comes few is got first) = refl
move_counts m added m2 (course.finds_no_route n s s2 inner outer c cs l job link comes few is got none) = refl
move_counts m added m2 (course.opens_onward n s inner outer next link put few got first) = refl
move_counts m added m2 (course.finds_no_way n s inner outer next link few got none) = refl
move_counts m added m2 (course.opens_no_more n s inner outer next full) = refl
move_counts m added m2 (course.hands n s r rest) = refl
move_counts m added m2 (course.has_handed n s) = refl

pub course_counts : (ins : List In) (outs : List Out) (p : Progress) → Course ins outs p → p.used ≡ length ins
course_counts ins outs p course.begins = refl
course_counts ins outs p (course.uses ins0 outs0 m0 r added m1 c begins) = omega (arith, step_counts m0 r added m1 begins, course_counts ins0 outs0 m0 c, length-append ins0 (r ∷ []))
course_counts ins outs p (course.goes_on ins0 outs0 m0 added m1 c moves) = move_counts m0 added m1 moves ∙ course_counts ins0 outs0 m0 c

-- WHY A RECORD MAY BE USED

pub last_lives : (es : List Event) (earlier : List Live) (l : Live) → AreLive es (earlier ++ l ∷ []) → AgreesLive es l
last_lives es [] l h = h.0
last_lives es (x ∷ earlier) l h = last_lives es earlier l h.1

-- the command's open lives
awaited_lives : (es : List Event) (s : State) (w : Waiting) (l : Live) → AgreesState es s → (so_far es).is_open ≡ true → IsAwaited es s w l → IsResumed es
awaited_lives es s w l a still at =
    let k = last_lives es at.earlier l (subst (AreLive es) at.last a.each) in
    by_live l.number (live_opening l) (live_one l.number es (live_opening l) k.opening k.lives) still at.its

pub waiting_resumes : (es : List Event) (outs : List Out) (s : State) (w : Waiting) → AgreesState es s → ScriptsAgree es outs (course.waiting s w) → IsResumed es
waiting_resumes es outs s w a h = by h.4
  where
    by : AwaitsSo es s w → IsResumed es
    by (awaits_time until at job none t) = by_sleep t.seconds h.1.is_open (sleeping_comes es s until t)
    by (awaits_file l wanted at number job f) = awaited_lives es s w l a h.1.is_open at
    by (awaits_query l query at number job q) = awaited_lives es s w l a h.1.is_open at
    by (awaits_host l hooking at number job q gone) = awaited_lives es s w l a h.1.is_open at
    by (awaits_drive l hooking at number job keeps q early gone) = awaited_lives es s w l a h.1.is_open at
    by (awaits_disk l hooking keep at number job boots_it q was unasked early gone) = awaited_lives es s w l a h.1.is_open at
    by (awaits_block l hooking keep at number job boots_it q known unread gone) = awaited_lives es s w l a h.1.is_open at
    by (awaits_hooked l d b number job unread) =
        let k = amid_all (AgreesLive es) b.lives.earlier b.lives.later l (subst (AreLive es) b.lives.parted a.each) in
        by_reading l.number (live_opening l) (live_one l.number es (live_opening l) k.opening k.lives) h.1.is_open (boots_hooked d b.none b.names b.own)

-- an event of this number that is used after START's
further_step : (es : List Event) (e : Event) (n : ℕ) → IsUsed e → IsFurther e → written_by e ≡ step n → IsStep es n → IsResumed es → StepsSo es e
further_step es (starts k s) n used further is follows resumes = absurd further
further_step es (hears k bytes m) n used further is follows resumes = let same : k ≡ n = cc in (subst (IsStep es) (sym same) follows, resumes)
further_step es (waits k ms) n used further is follows resumes = let same : k ≡ n = cc in (subst (IsStep es) (sym same) follows, resumes)
further_step es (stops k) n used further is follows resumes = let same : k ≡ n = cc in (subst (IsStep es) (sym same) follows, resumes)
further_step es (puts o) n used further is follows resumes = absurd used

-- each record that is used has its place
pub step_stands : (es : List Event) (outs : List Out) (m : Progress) (r : In) (added : List Out) (m2 : Progress) (begins : StepBegins m r added m2) (a : AgreesStanding es m.standing) → m.used ≡ length (inputs es) → NoneIsAnswered es → NoneIsHooked es → ScriptsAgree es outs m.standing →
    StepsSo es (step_event es m r added m2 begins a)
step_stands es outs m r added m2 (course.runs n s code valid reads) a counted none unhooked h =
    (record { counted = ap (λ z. z + 1) counted; unfinished = none; unhooked = unhooked; rested = over_rests es (ap (λ (x : CommandsSoFar). x.is_open) (nothing_so_far es h.0)) }, h.0)
step_stands es outs m r added m2 (course.refuses n s cause valid refuses) a counted none unhooked h =
    (record { counted = ap (λ z. z + 1) counted; unfinished = none; unhooked = unhooked; rested = over_rests es (ap (λ (x : CommandsSoFar). x.is_open) (nothing_so_far es h.0)) }, h.0)
step_stands es outs m r added m2 (course.waits_on n s s2 w r0 put over valid net unanswered) a counted none unhooked h =
    let u = network_agrees es s (n + 1) r put s2 over net a in
    further_step es u.event (n + 1) u.used u.further u.is_step (record { counted = ap (λ z. z + 1) counted; unfinished = none; unhooked = unhooked; rested = waiting_rests es s w a.opens h.1.now h.4 }) (waiting_resumes es outs s w a h)
step_stands es outs m r added m2 (course.is_answered n s s2 w r0 put more over x p valid net some leads) a counted none unhooked h =
    let u = network_agrees es s (n + 1) r put s2 over net a in
    further_step es u.event (n + 1) u.used u.further u.is_step (record { counted = ap (λ z. z + 1) counted; unfinished = none; unhooked = unhooked; rested = waiting_rests es s w a.opens h.1.now h.4 }) (waiting_resumes es outs s w a h)
step_stands es outs m r added m2 (course.switches_off n s w put over all) a counted none unhooked h =
    (record { counted = ap (λ z. z + 1) counted; unfinished = none; unhooked = unhooked; rested = waiting_rests es s w a.opens h.1.now h.4 }, waiting_resumes es outs s w a h)
step_stands es outs m r added m2 (course.resumes n s s2 inner outer r0 put over valid net) a counted none unhooked h =
    let u = network_agrees es s (n + 1) r put s2 over net a in
    further_step es u.event (n + 1) u.used u.further u.is_step (record { counted = ap (λ z. z + 1) counted; unfinished = none; unhooked = unhooked; rested = over_rests es h.1.is_open }) (by_count (h.0.begun ∙ h.4) h.1.is_open)
step_stands es outs m r added m2 (course.goes_off n s inner outer put over all) a counted none unhooked h =
    (record { counted = ap (λ z. z + 1) counted; unfinished = none; unhooked = unhooked; rested = over_rests es h.1.is_open }, by_count (h.0.begun ∙ h.4) h.1.is_open)
