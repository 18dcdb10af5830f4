use Rattle.std.proofs.Common.{append-nil}
use Rattle.nb_record.proofs.LogLemmas.{Puts-same}
use Rattle.nb_record.proofs.log.Log.add.Goals as goal

pub returns : goal.returns
returns c = Puts-same _ _ _ _ (append-nil c.args.piece.now) c.add_both.ensures
