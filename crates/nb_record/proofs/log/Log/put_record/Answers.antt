use Rattle.std.proofs.Common.{List, ℕ, ◌++◌, ap}
use Rattle.nb_defs.specs.Records.{record_text}
use Rattle.nb_record.proofs.LogLemmas.{Puts-same}
use Rattle.nb_record.proofs.log.Log.put_record.Goals as goal

pub returns : goal.returns
unfolding record_text
returns c = Puts-same _ _ _ _ (ap (λ (w : List ℕ). w ++ c.args.body.now) c.head_bytes.ensures) c.add_both.ensures
