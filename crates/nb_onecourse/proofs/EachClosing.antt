-- What closes a course is one list of records.
use Rattle.std.proofs.Common.{◌≡◌, List, [], sym, ◌∙◌}
use Rattle.nb_defs.specs.Records.{In, Out}
use Rattle.nb_machine.specs.CommandRecords.{stopped_cause}
use Rattle.nb_machine.specs.Lives.{close}
use Rattle.nb_machine.specs.States.{State}
use Rattle.nb_machine.specs.Closings.{AllClose, Shuts}
use Rattle.nb_machine.specs.Courses.{Standing, ready, running, waiting, reaching, yielded, handing, left, handed_off, stopped, Progress, Course}
use Rattle.nb_onecourse.specs.Answers.{AreUnended, StandsUnended}
use Rattle.nb_onecourse.proofs.EachTakes.{all_take_one}
use Rattle.nb_onecourse.proofs.Unended.{course_unended}

close_one : (s : State) (put put' : List Out) → AreUnended s.live → AllClose s put → AllClose s put' → put ≡ put'
close_one s put put' u (over, all) (over', all') = (all_take_one s.devices (close stopped_cause) s.live put put' [] [] over over' u all all').records

shuts_one : (p : Standing) (put put' : List Out) → StandsUnended p → Shuts p put → Shuts p put' → put ≡ put'
shuts_one ready put put' u h g = h ∙ sym g
shuts_one (running s inner outer) put put' u h g = close_one s put put' u h g
shuts_one (waiting s w) put put' u h g = close_one s put put' u h g
shuts_one (reaching s inner outer next) put put' u h g = close_one s put put' u h g
shuts_one (yielded s inner outer) put put' u h g = close_one s put put' u h g
shuts_one (handing s rest) put put' u h g = close_one s put put' u h g
shuts_one (left s outer cause) put put' u h g = close_one s put put' u h g
shuts_one (handed_off s) put put' u h g = close_one s put put' u h g
shuts_one (stopped s) put put' u h g = close_one s put put' u h g

pub one_closing : (ins : List In) (outs : List Out) (p : Progress) (put put' : List Out) → Course ins outs p → Shuts p.standing put → Shuts p.standing put' → put ≡ put'
one_closing ins outs p put put' c h g = shuts_one p.standing put put' (course_unended ins outs p c) h g
