use Rattle.std.proofs.Common.{[], ◌∷◌}
use Rattle.nb_defs.specs.Records.{enter, step}
use Rattle.nb_runner.proofs.Puts.{Puts-outs}
use Rattle.nb_client.proofs.starting.put_entered.Goals as goal

pub returns : goal.returns
returns c = Puts-outs (step c.args.number ∷ []) (enter 1 ∷ []) c.put_step.ensures c.put_enter.ensures
