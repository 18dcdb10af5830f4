use Rattle.nb_defs.specs.Records.{out_text}
use Rattle.nb_record.proofs.LogLemmas.{Puts-same}
use Rattle.nb_record.proofs.SpellingLemmas.{record_same}
use Rattle.nb_record.proofs.log.Log.put_end.Goals as goal

pub returns : goal.returns
unfolding out_text
returns c = Puts-same _ _ _ _ (record_same _ _ _ _ _ c.to_be_bytes.ensures c.cause_bytes.ensures) c.put_parts.ensures
