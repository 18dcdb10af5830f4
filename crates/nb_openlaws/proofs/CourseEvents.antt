-- Where a course stands, what an open that lives asks for hasn't come.
use Rattle.std.proofs.Common.{◌≡◌, List, [], ◌∷◌, sym, subst}
use Rattle.nb_machine.specs.Courses as course
use Rattle.nb_machine.specs.Courses.{Standing}
use Rattle.nb_laws.specs.Events.{Event}
use Rattle.nb_laws.specs.Lists.{live, open_has_ended, openings, gathered}
use Rattle.nb_laws.specs.Progress.{NoneIsAnswered}
use Rattle.nb_openlaws.specs.Standings.{AgreesStanding}
use Rattle.nb_openlaws.proofs.KeptOpens.{KeptAt, none_answered}

nothing_unanswered : NoneIsAnswered []
unfolding live openings open_has_ended gathered
nothing_unanswered = λ k o is. absurd (let no : [] ≡ o ∷ [] = is in cc no)

pub standing_unanswered : (es : List Event) (p : Standing) → AgreesStanding es p → KeptAt p → NoneIsAnswered es
standing_unanswered es course.ready a k = subst NoneIsAnswered (sym a) nothing_unanswered
standing_unanswered es (course.running s inner outer) a k = none_answered es s a k
standing_unanswered es (course.waiting s w) a k = none_answered es s a k
standing_unanswered es (course.reaching s inner outer next) a k = none_answered es s a k
standing_unanswered es (course.yielded s inner outer) a k = none_answered es s a k
standing_unanswered es (course.handing s rest) a k = none_answered es s a.0 k
standing_unanswered es (course.left s outer cause) a k = none_answered es s a k
standing_unanswered es (course.handed_off s) a k = none_answered es s a k
standing_unanswered es (course.stopped s) a k = none_answered es s a k
