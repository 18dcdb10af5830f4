-- What a run that is ended from outside has still to close: every open that lives, by rising number.
use Rattle.std.specs.Prelude.{◌≡◌, List, []}
use Rattle.nb_defs.specs.Records.{Out}
use Rattle.nb_machine.specs.CommandRecords.{stopped_cause}
use Rattle.nb_machine.specs.Lives.{close}
use Rattle.nb_machine.specs.States.{State}
use Rattle.nb_machine.specs.Takings.{Over, AllTake}
use Rattle.nb_machine.specs.Courses.{Standing, ready, running, waiting, reaching, yielded, handing, left, handed_off, stopped}

-- all that lives is closed, and puts these records
abbrev pub AllClose : State → List Out → Type 0
AllClose s put = (over : List Over) × AllTake s.devices (close stopped_cause) s.live put [] over

-- where the run stands so, these records close it; before START nothing lives
abbrev pub Shuts : Standing → List Out → Type 0
Shuts ready put = put ≡ []
Shuts (running s inner outer) put = AllClose s put
Shuts (waiting s w) put = AllClose s put
Shuts (reaching s inner outer next) put = AllClose s put
Shuts (yielded s inner outer) put = AllClose s put
Shuts (handing s rest) put = AllClose s put
Shuts (left s outer cause) put = AllClose s put
Shuts (handed_off s) put = AllClose s put
Shuts (stopped s) put = AllClose s put
