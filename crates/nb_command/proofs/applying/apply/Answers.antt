use Rattle.std.specs.Option.{option_copied}
use Rattle.nb_command.proofs.OtherCommands.{others_stay}
use Rattle.nb_command.proofs.applying.apply.Goals as goal

pub returns-in-Ok-clause-others : goal.returns-in-Ok-clause-others
returns-in-Ok-clause-others c = others_stay c.args.p.now (option_copied c.args.own) c.args.s.now (c.in-Ok.outcome, c.carry_out.new.s) c.in-Ok.ensures.value
