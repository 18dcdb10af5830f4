-- The records of a course as events, which say where its opens stand.
use Rattle.std.specs.Prelude.{◌≡◌, List}
use Rattle.nb_defs.specs.Records.{In, Out}
use Rattle.nb_machine.specs.Courses.{Standing}
use Rattle.nb_laws.specs.Events.{Event, inputs, outputs}
use Rattle.nb_laws.specs.Progress.{NoneIsAnswered}
use Rattle.nb_openlaws.specs.Standings.{AgreesStanding}

-- the records used and written are those of a list of events; it agrees with where the course stands, and what an open that lives asks
-- for hasn't come
pub record HasEvents (ins : List In) (outs : List Out) (p : Standing) : Type 0 where
  pub events : List Event
  pub used : ins ≡ inputs events
  pub written : outs ≡ outputs events
  pub agrees : AgreesStanding events p
  pub unfinished : NoneIsAnswered events
