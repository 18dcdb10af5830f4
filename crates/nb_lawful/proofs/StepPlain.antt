-- After each step no open that lives was asked for anything, but the one of which a command awaits that.
use Rattle.std.proofs.Common.{◌≡◌, ℕ, ◌+◌, true, false, List, [], ◌∷◌, ◌++◌, Some, None, refl, sym, ◌∙◌, ap, subst, ne_eqb}
use Rattle.std.specs.List.{AllByRecursion}
use Rattle.nb_defs.specs.Records.{In, Out}
use Rattle.nb_machine.specs.Courses as course
use Rattle.nb_machine.specs.Courses.{Progress, StepBegins}
use Rattle.nb_machine.specs.Lives.{Live}
use Rattle.nb_machine.specs.Running.{anew}
use Rattle.nb_machine.specs.Scripts.{Answer, hooks, boots as reads_job, Upshot, Waiting, hooked_drive, upshot_hooked, upshot_read, upshot_records, concluded_by}
use Rattle.nb_machine.specs.States.{State}
use Rattle.nb_laws.specs.Events.{Event}
use Rattle.nb_laws.specs.Lists.{open_has_ended}
use Rattle.nb_laws.proofs.Tellings.{told}
use Rattle.nb_openlaws.proofs.Courses.{step_event, step_more}
use Rattle.nb_openlaws.proofs.Networks.{network_agrees}
use Rattle.nb_openlaws.specs.Standings.{AreLive, AgreesState, AgreesStanding}
use Rattle.nb_lawful.specs.ScriptAgreement.{IsAnother, ScriptsAgree}
use Rattle.nb_lawful.proofs.Coming.{Comes, comes_so, its_time, its_end, its_drive, its_disk, its_boot_end, its_block, its_hooked, its_lost, IsGone}
use Rattle.nb_lawful.proofs.Plain.{ArePlain, ArePlainBut, booted_open, PlainAt, are_plain, are_but, all_in, none_out, none_left_out, network_plain, PlainFor, plain_for, upshot_plain}
use Rattle.nb_lawful.proofs.Scripted.{AnswersAt, network_steps}

-- none that lives has ended
gone_others : (es : List Event) (k : ℕ) (ls : List Live) → AreLive es ls → open_has_ended k es ≡ true → AllByRecursion (IsAnother k) ls
gone_others es k [] h over = tt
gone_others es k (l ∷ ls) h over = (ne_eqb l.number k (λ same. let no : false ≡ true = sym h.0.lives ∙ ap (λ j. open_has_ended j es) same ∙ over in cc no), gone_others es k ls h.1 over)

-- so the command's may lead on, where its open is gone
gone_plain : (es2 more : List Event) (w : Waiting) (ls : List Live) → AreLive es2 ls → IsGone es2 w → ArePlainBut (booted_open w.awaited) more ls → ArePlain more ls
gone_plain es2 more w ls live (k, out, over) h = none_left_out k more ls (gone_others es2 k ls live over) (subst (λ b. ArePlainBut b more ls) out h)

comes_plain : (es2 more : List Event) (outs : List Out) (s s' : State) (w : Waiting) (n : ℕ) (put : List Out) (x : Answer) → Comes es2 outs s s' w n put x → AgreesState es2 s' → ArePlainBut (booted_open w.awaited) more s'.live →
    PlainFor (concluded_by s' w.script.depth w.job x) more s'
comes_plain es2 more outs s s' w n put x c a h = by c
  where
    d : ℕ
    d = w.script.depth

    u : Upshot
    u = concluded_by s' d w.job x

    plain : booted_open w.awaited ≡ None → PlainFor u more s'
    plain out = plain_for u more s' a.apart (none_out (booted_open w.awaited) more s'.live out h)

    left : IsGone es2 w → PlainFor u more s'
    left gone = plain_for u more s' a.apart (gone_plain es2 more w s'.live a.each gone h)

    by : Comes es2 outs s s' w n put x → PlainFor u more s'
    by (its_time until at job slept out) = plain out
    by (its_end moved l cause at ended purpose out) = plain out
    by (its_drive moved l hooking at job keeps answered out) = plain out
    by (its_disk l hooking keep at job boots_it sized out there) =
        subst (λ z. PlainFor z more s') (sym (ap (λ z. concluded_by s' d z x) job ∙ ap (concluded_by s' d (hooks hooking)) at ∙ ap (λ z. upshot_hooked z (hooked_drive hooking l)) boots_it)) (subst (λ b. ArePlainBut b more s'.live) out h, a.apart)
    by (its_boot_end moved l cause hooking keep at booting boots_it ended names unread gone) = left gone
    by (its_block moved l hooking keep bytes at job boots_it hooked read has settled base) =
        subst (λ z. PlainFor z more s') (sym (ap (λ z. concluded_by s' d z x) job ∙ ap (concluded_by s' d (reads_job (Some (hooked_drive hooking l)))) at ∙ ap (upshot_read s' (Some (hooked_drive hooking l))) read)) tt
    by (its_hooked l one bytes at job booted read has settled base) =
        subst (λ z. PlainFor z more s') (sym (ap (λ z. concluded_by s' d z x) job ∙ ap (concluded_by s' d (reads_job None)) at ∙ ap (upshot_read s' None) read)) tt
    by (its_lost l one cause at job booted ended unread gone) = left gone

pub step_plain : (es : List Event) (outs : List Out) (m : Progress) (r : In) (added : List Out) (m2 : Progress) (begins : StepBegins m r added m2) (a : AgreesStanding es m.standing) → AnswersAt es m.standing →
    ScriptsAgree es outs m.standing → PlainAt es m.standing →
    PlainAt ((es ++ step_event es m r added m2 begins a ∷ []) ++ told (step_more m r added m2 begins)) m2.standing
step_plain es outs m r added m2 (course.runs n s code valid reads) a answers g h = tt
step_plain es outs m r added m2 (course.refuses n s cause valid refuses) a answers g h = tt
step_plain es outs m r added m2 (course.waits_on n s s2 w r0 put over valid net none) a answers g h =
    let e = (network_agrees es s (n + 1) r put s2 over net a).event in
    are_but (booted_open w.awaited) (es ++ e ∷ []) (told put) s2.live (are_but (booted_open w.awaited) es (e ∷ []) s2.live (network_plain (booted_open w.awaited) es s s2 (n + 1) r put over net h))
step_plain es outs m r added m2 (course.is_answered n s s2 w r0 put more over x p valid net some leads) a answers g h =
    let u = network_agrees es s (n + 1) r put s2 over net a in
    let e = u.event in
    let es2 = (es ++ e ∷ []) ++ told put in
    let all = put ++ upshot_records (concluded_by s2 w.script.depth w.job x) ++ more in
    let t = answers.1 (n + 1) r put s2 over net a in
    let c = comes_so es es2 outs s s2 w r (n + 1) e put over x (network_steps es outs s s2 w (n + 1) r put over net a g) u.agrees u.ended u.agrees.each t.tells t.told_over t.now (answers.0 (n + 1) r put s2 over net a) some g.4 in
    upshot_plain ((es ++ e ∷ []) ++ told all) s2 (anew w.script) w.outer (concluded_by s2 w.script.depth w.job x) more p leads
    (comes_plain es2 ((es ++ e ∷ []) ++ told all) outs s s2 w (n + 1) put x c u.agrees (are_but (booted_open w.awaited) (es ++ e ∷ []) (told all) s2.live (are_but (booted_open w.awaited) es (e ∷ []) s2.live (network_plain (booted_open w.awaited) es s s2 (n + 1) r put over net h))))
step_plain es outs m r added m2 (course.switches_off n s w put over all) a answers g h = tt
step_plain es outs m r added m2 (course.resumes n s s2 inner outer r0 put over valid net) a answers g h =
    let e = (network_agrees es s (n + 1) r put s2 over net a).event in
    are_plain (es ++ e ∷ []) (told put) s2.live (are_plain es (e ∷ []) s2.live (none_out None es s2.live refl (network_plain None es s s2 (n + 1) r put over net (all_in None es s.live h))))
step_plain es outs m r added m2 (course.goes_off n s inner outer put over all) a answers g h = tt
