use Rattle.nb_record.proofs.LogLemmas.{Puts-same}
use Rattle.nb_record.proofs.log.Log.put_head.Goals as goal

pub returns : goal.returns
returns c = Puts-same _ _ _ _ c.head_bytes.ensures c.add.ensures
