-- Where a course has come to rest.
use Rattle.std.specs.Prelude.{◌≡◌, List, [], ◌∷◌}
use Rattle.nb_defs.specs.Records.{Out}
use Rattle.nb_machine.specs.Courses.{Standing, ready, running, waiting, reaching, yielded, handing, left, handed_off, stopped, Progress}

-- a step is over: nothing moves until another record comes, if one may; a script that was left within another moves that
abbrev pub HasComeToRest : Standing → Type 0
HasComeToRest ready = ⊥
HasComeToRest (running s inner outer) = ⊥
HasComeToRest (waiting s w) = Unit {0}
HasComeToRest (reaching s inner outer next) = ⊥
HasComeToRest (yielded s inner outer) = Unit {0}
HasComeToRest (handing s rest) = ⊥
HasComeToRest (left s [] cause) = Unit {0}
HasComeToRest (left s (inner ∷ outer) cause) = ⊥
HasComeToRest (handed_off s) = Unit {0}
HasComeToRest (stopped s) = Unit {0}

-- the same records, and the same place
pub record SameCourse (outs outs' : List Out) (p p' : Progress) : Type 0 where
  pub records : outs ≡ outs'
  pub place : p ≡ p'
