use Rattle.std.proofs.Common.{[], ◌∷◌, ◌++◌}
use Rattle.nb_defs.specs.Records.{result}
use Rattle.nb_machine.specs.Effects.{shown_as}
use Rattle.nb_machine.specs.CommandRecords.{prints, command_record}
use Rattle.nb_runner.proofs.Puts.{Puts-one, Puts-outs}
use Rattle.nb_runner.proofs.running.RunningScript.put_command.Goals as goal

pub returns : goal.returns
returns c =
    let head = command_record c.args.self.now (shown_as c.args.expanded c.args.words.now) in
    let printed = prints c.args.done.now.prints in
    let tail = result c.args.done.now.cause in
    Puts-outs ((head ∷ []) ++ printed) (tail ∷ [])
    (Puts-outs (head ∷ []) printed c.put_begun.ensures c.put_prints.ensures)
    (Puts-one tail c.put.ensures)
