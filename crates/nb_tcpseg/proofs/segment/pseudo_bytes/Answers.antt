use Rattle.nb_tcpseg.proofs.SentLemmas.{pseudo_written}
use Rattle.nb_tcpseg.proofs.segment.pseudo_bytes.Goals as goal

pub returns : goal.returns
returns c = pseudo_written c.args.src c.args.dst c.args.len _ _ _ c.to_be_bytes.ensures c.to_be_bytes-2.ensures c.to_be_bytes-3.ensures
