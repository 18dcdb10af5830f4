use Rattle.std.proofs.Common.{[], ◌∷◌}
use Rattle.nb_defs.specs.Records.{step}
use Rattle.nb_machine.specs.CommandRecords.{reply_records}
use Rattle.nb_runner.proofs.Puts.{Puts-outs}
use Rattle.nb_network.proofs.frame.put_passed.Goals as goal

pub returns : goal.returns
returns c = Puts-outs (step c.args.rec ∷ []) (reply_records c.args.reply.now) c.put_step.ensures c.put_reply.ensures
