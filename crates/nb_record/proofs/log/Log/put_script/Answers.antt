use Rattle.std.proofs.Common.{◌∷◌, [], refl}
use Rattle.nb_defs.specs.Records.{out_text}
use Rattle.nb_record.proofs.LogLemmas.{Puts-same}
use Rattle.nb_record.proofs.SpellingLemmas.{record_same}
use Rattle.nb_record.proofs.log.Log.put_script.Goals as goal

pub returns : goal.returns
unfolding out_text
returns c = Puts-same _ _ _ _ (record_same _ (c.args.what ∷ c.args.depth ∷ []) _ _ _ refl c.cause_bytes.ensures) c.put_parts.ensures
