-- How deep scripts are within one another where a course stands.
use Rattle.std.specs.Prelude.{◌∷◌}
use Rattle.nb_machine.specs.Running.{AreNested}
use Rattle.nb_machine.specs.Courses.{Standing, ready, running, waiting, reaching, yielded, handing, left, handed_off, stopped}

-- the scripts are at their depths, at most eight
abbrev pub StandsNested : Standing → Type 0
StandsNested ready = Unit {0}
StandsNested (running s inner outer) = AreNested (inner ∷ outer)
StandsNested (waiting s w) = AreNested (w.script ∷ w.outer)
StandsNested (reaching s inner outer next) = AreNested (inner ∷ outer)
StandsNested (yielded s inner outer) = AreNested (inner ∷ outer)
StandsNested (handing s rest) = Unit {0}
StandsNested (left s outer cause) = AreNested outer
StandsNested (handed_off s) = Unit {0}
StandsNested (stopped s) = Unit {0}
