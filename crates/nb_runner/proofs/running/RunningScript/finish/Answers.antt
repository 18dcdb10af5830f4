use Rattle.std.proofs.Common.{[], ◌∷◌, refl, subst}
use Rattle.nb_defs.specs.Records.{leave, out_texts}
use Rattle.nb_record.specs.Logged.{Puts}
use Rattle.nb_machine.specs.Running.{Running}
use Rattle.nb_runner.specs.CommandWords.{done_of}
use Rattle.nb_machine.specs.Effects.{shown_as}
use Rattle.nb_machine.specs.CommandRecords.{command_records}
use Rattle.nb_runner.proofs.Puts.{Puts-outs}
use Rattle.nb_runner.proofs.running.RunningScript.finish.Goals as goal

pub returns-then-done : goal.returns-then-done
returns-then-done c =
    let s = c.args.self.now in
    let done = c.args.done.now in (
      c.if-done.true,
      refl,
      c.enter.ensures,
      Puts-outs (command_records s (shown_as c.args.expanded c.args.words.now) (done_of done)) (leave s.depth done.cause ∷ []) c.put_command.ensures (subst (λ (x : Running). Puts c.put_command.new.log c.put_leave.new.log (out_texts (leave x.depth done.cause ∷ []))) c.enter.ensures c.put_leave.ensures),
    )
