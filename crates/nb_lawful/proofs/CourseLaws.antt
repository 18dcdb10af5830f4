-- The laws of courses: one history, what it keeps, and what it says of where the course stands.
use Rattle.std.proofs.Common.{◌≡◌, ◌⊎◌, ℕ, List, [], subst}
use Rattle.nb_defs.specs.Records.{In, Out}
use Rattle.nb_machine.specs.States.{State}
use Rattle.nb_machine.specs.Scripts.{Waiting}
use Rattle.nb_machine.specs.Courses.{waiting, handed_off, Progress, stands, Course}
use Rattle.nb_laws.specs.Events.{Event}
use Rattle.nb_laws.specs.HandOff.{HandsOff, HandsDiskOff}
use Rattle.nb_laws.specs.Histories.{IsHistory}
use Rattle.nb_laws.specs.Lawful.{IsLawful}
use Rattle.nb_laws.proofs.Histories.{one_history}
use Rattle.nb_openlaws.specs.Standings.{AgreesStanding}
use Rattle.nb_lawful.specs.Lawful.{KeepsLaws}
use Rattle.nb_lawful.specs.ScriptAgreement.{ScriptsAgree}
use Rattle.nb_lawful.specs.StateByLists.{IsStateBy}
use Rattle.nb_lawful.proofs.Runs.{lawful_course, lawful_history, handed_off_all, waiting_state}
use Rattle.nb_lawful.proofs.StepOpens.{opens_give}
use Rattle.nb_lawful.proofs.Todays.{handed_so, todays_laws}
use Rattle.nb_lawful.specs.CourseEvents.{HasEvents}

pub has_one : (ins : List In) (outs : List Out) (p : Progress) → Course ins outs p → (es : List Event) × IsHistory ins outs es × ((other : List Event) → IsHistory ins outs other → other ≡ es)
has_one ins outs p c = let t = lawful_course opens_give ins outs p c in (t.0, t.1, λ other h. one_history ins outs other t.0 h t.1)

pub keeps_laws : (ins : List In) (outs : List Out) (p : Progress) (es : List Event) → Course ins outs p → IsHistory ins outs es → KeepsLaws es
keeps_laws ins outs p es c h = lawful_history opens_give ins outs p es c h

pub stands_so : (ins : List In) (outs : List Out) (p : Progress) (es : List Event) → Course ins outs p → IsHistory ins outs es → AgreesStanding es p.standing × ScriptsAgree es outs p.standing
stands_so ins outs p es c h =
    let t = lawful_course opens_give ins outs p c in
    subst (λ z. AgreesStanding z p.standing × ScriptsAgree z outs p.standing) (one_history ins outs t.0 es t.1 h) (t.3, t.4)

pub hands_off : (ins : List In) (outs : List Out) (n : ℕ) (s : State) (es : List Event) → Course ins outs (stands n (handed_off s)) → IsHistory ins outs es → HandsOff es outs [] ⊎ HandsDiskOff es outs []
hands_off ins outs n s es c h = handed_so es outs [] (handed_off_all opens_give ins outs n s es c h)

pub waits_so : (ins : List In) (outs : List Out) (n : ℕ) (s : State) (w : Waiting) (es : List Event) → Course ins outs (stands n (waiting s w)) → IsHistory ins outs es → IsStateBy es s
waits_so ins outs n s w es c h = waiting_state opens_give ins outs n s w es c h

pub keeps_todays : (ins : List In) (outs : List Out) (p : Progress) (es : List Event) → Course ins outs p → IsHistory ins outs es → IsLawful es
keeps_todays ins outs p es c h = todays_laws es (keeps_laws ins outs p es c h)

-- the records are those of a list of events
pub has_events : (ins : List In) (outs : List Out) (p : Progress) → Course ins outs p → HasEvents ins outs p.standing
has_events ins outs p c = let t = lawful_course opens_give ins outs p c in record { events = t.0; used = t.1.used; written = t.1.written; agrees = t.3; unfinished = t.2.unfinished }
