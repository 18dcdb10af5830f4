use Rattle.std.proofs.Common.{arith}
use Rattle.nb_runner.proofs.Joins.{words_length}
use Rattle.nb_runner.proofs.running.RunningScript.put_begun.Goals as goal

pub put-requires : goal.put-requires
put-requires c = (omega arith, omega (arith, words_length c.args.words.now))
