use Rattle.std.specs.Option.{option_copied}
use Rattle.nb_runner.proofs.DriveLaws.{effects_fit, effects_hooked}
use Rattle.nb_runner.proofs.drives.outcome_by.Goals as goal

pub returns-clause-fits : goal.returns-clause-fits
returns-clause-fits c =
    effects_fit c.args.command.now (option_copied c.args.base) c.args.table.now c.args.drives.now c.carry_out.result c.carry_out.ensures.value

pub returns-clause-hooked : goal.returns-clause-hooked
returns-clause-hooked c =
    effects_hooked c.args.command.now (option_copied c.args.base) c.args.table.now c.args.drives.now c.carry_out.result c.carry_out.ensures.value
