-- A step: how its record is read, and the device after it.
use Rattle.std.proofs.Common.{◌≡◌, ℕ, ◌+◌, true, false, List, [], ◌∷◌, ◌++◌, refl, sym, ◌∙◌, ap, subst, append_assoc, Some}
use Rattle.nb_defs.specs.Records.{Start, In, Out, enter, leave}
use Rattle.nb_terms.specs.declared.cause.Cause.{Cause}
use Rattle.nb_machine.specs.Starting.{net_of}
use Rattle.nb_machine.specs.Running.{Running, anew}
use Rattle.nb_machine.specs.States.{State, with_settings, with_drive}
use Rattle.nb_machine.specs.Scripts.{Upshot, concludes, settles, goes_onward, upshot_records, concluded_by, hooks_drive, reads_drive, boots_drive_by}
use Rattle.nb_machine.specs.Courses as course
use Rattle.nb_machine.specs.Courses.{Standing, Progress, LeadsTo, StepBegins}
use Rattle.nb_laws.specs.Events.{Event, starts, puts, followed}
use Rattle.nb_laws.specs.Histories.{IsRead, client}
use Rattle.nb_laws.specs.CommandsSoFar.{so_far}
use Rattle.nb_laws.proofs.Tellings.{told}
use Rattle.nb_openlaws.specs.Standings.{AgreesDevice, AgreesStanding}
use Rattle.nb_openlaws.proofs.Networks.{network_agrees}
use Rattle.nb_openlaws.proofs.NetworkDevices.{device_follows}
use Rattle.nb_openlaws.proofs.Courses.{step_event, step_more}
use Rattle.nb_lawful.specs.ScriptAgreement.{SettingsAre, ScriptsAgree}
use Rattle.nb_lawful.proofs.Begun.{told_two}
use Rattle.nb_lawful.proofs.Scripted.{network_steps}
use Rattle.nb_lawful.proofs.Devices.{DeviceAgrees, device_moves, device_stays, concludes_device, reads_device}

-- START gives the device
first_device : (s : Start) (n : ℕ) → net_of s ∷ [] ≡ client (starts n s ∷ puts (enter 1) ∷ []) ∷ []
unfolding client followed
first_device s n = refl

refused_device : (s : Start) (n : ℕ) (cause : Cause) → net_of s ∷ [] ≡ client (starts n s ∷ puts (enter 1) ∷ puts (leave 1 cause) ∷ []) ∷ []
unfolding client followed
refused_device s n cause = refl

-- what follows of an answer
leads_device : (es : List Event) (more : List Out) (s : State) (inner : Running) (outer : List Running) (u : Upshot) (put : List Out) (p : Standing) (outs : List Out) → LeadsTo s inner outer u put p → AgreesDevice es s → SettingsAre (so_far es) s true →
    ScriptsAgree (es ++ told more) outs p → DeviceAgrees (es ++ told more) p
leads_device es more s inner outer (concludes c) put p outs leads d settings later = concludes_device es more s inner outer c put p outs leads d settings later
leads_device es more s inner outer (settles x) put p outs (none, is) d settings later =
    subst (DeviceAgrees (es ++ told more)) (sym is) (device_moves es more s (with_settings s x.table s.up) false refl d (subst (ScriptsAgree (es ++ told more) outs) is later).1)
leads_device es more s inner outer (hooks_drive x) put p outs (none, is) d settings later =
    subst (DeviceAgrees (es ++ told more)) (sym is) (device_stays es more s (with_drive s x) refl refl refl d settings (subst (ScriptsAgree (es ++ told more) outs) is later).1)
leads_device es more s inner outer (reads_drive x) put p outs leads d settings later = reads_device es more outs s inner outer x.open_number (Some x) put p leads d settings later
leads_device es more s inner outer (boots_drive_by x bytes) put p outs (over, all, is) d settings later = subst (DeviceAgrees (es ++ told more)) (sym is) tt
leads_device es more s inner outer (goes_onward next) put p outs (none, is) d settings later =
    subst (DeviceAgrees (es ++ told more)) (sym is) (device_stays es more s s refl refl refl d settings (subst (ScriptsAgree (es ++ told more) outs) is later).1)

-- how the record is read, and the device then
pub record DeviceSteps (es : List Event) (e : Event) (more : List Out) (p : Standing) : Type 0 where
  pub read : IsRead es e
  pub device : DeviceAgrees ((es ++ e ∷ []) ++ told more) p

pub step_device : (es : List Event) (outs outs2 : List Out) (m : Progress) (r : In) (added : List Out) (m2 : Progress) (begins : StepBegins m r added m2) (a : AgreesStanding es m.standing) → DeviceAgrees es m.standing → ScriptsAgree es outs m.standing →
    ScriptsAgree ((es ++ step_event es m r added m2 begins a ∷ []) ++ told (step_more m r added m2 begins)) outs2 m2.standing → DeviceSteps es (step_event es m r added m2 begins a) (step_more m r added m2 begins) m2.standing
step_device es outs outs2 m r added m2 (course.runs n s code valid reads) a d h later =
    record { read = tt; device = subst (λ (z : List Event). net_of s ∷ [] ≡ client ((z ++ starts (n + 1) s ∷ []) ++ told (enter 1 ∷ [])) ∷ []) (sym h.0) (first_device s (n + 1)) }
step_device es outs outs2 m r added m2 (course.refuses n s cause valid refuses) a d h later =
    record {
      read = tt;
      device = subst (λ (z : List Event). net_of s ∷ [] ≡ client ((z ++ starts (n + 1) s ∷ []) ++ told (enter 1 ∷ leave 1 cause ∷ [])) ∷ []) (sym h.0) (refused_device s (n + 1) cause);
    }
step_device es outs outs2 m r added m2 (course.waits_on n s s2 w r0 put over valid net none) a d h later =
    let f = device_follows es s (n + 1) r put s2 over net a d in record { read = f.read; device = f.device }
step_device es outs outs2 m r added m2 (course.is_answered n s s2 w r0 put more over x p valid net some leads) a d h later =
    let f = device_follows es s (n + 1) r put s2 over net a d in
    let k = network_steps es outs s s2 w (n + 1) r put over net a h in
    let es1 = es ++ (network_agrees es s (n + 1) r put s2 over net a).event ∷ [] in
    let c = upshot_records (concluded_by s2 w.script.depth w.job x) in
    let at : (es1 ++ told put) ++ told (c ++ more) ≡ es1 ++ told (put ++ c ++ more) = sym (told_two es1 put (c ++ more)) ∙ ap (λ z. es1 ++ told z) (sym (append_assoc put c more)) in
    record {
      read = f.read;
      device = subst (λ z. DeviceAgrees z p) at (leads_device (es1 ++ told put) (c ++ more) s2 (anew w.script) w.outer (concluded_by s2 w.script.depth w.job x) more p outs2 leads f.device k.came.settings (subst (λ z. ScriptsAgree z outs2 p) (sym at) later));
    }
step_device es outs outs2 m r added m2 (course.switches_off n s w put over all) a d h later = record { read = tt; device = tt }
step_device es outs outs2 m r added m2 (course.resumes n s s2 inner outer r0 put over valid net) a d h later =
    let f = device_follows es s (n + 1) r put s2 over net a d in record { read = f.read; device = f.device }
step_device es outs outs2 m r added m2 (course.goes_off n s inner outer put over all) a d h later = record { read = tt; device = tt }
