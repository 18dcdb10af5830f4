use Rattle.std.proofs.lemmas.Slice.Eq.{strip_prefix_is}
use Rattle.std.proofs.lemmas.Bool.Decides.{Decides-eqb}
use Rattle.nb_ibft.proofs.TextLemmas.{after_is}
use Rattle.nb_ibft.proofs.texts.after.Goals as goal

pub returns : goal.returns
returns c =
    let is = after_is c.args.bytes.now c.args.first.now c.strip_prefix.result (strip_prefix_is Decides-eqb c.args.bytes.now c.args.first.now c.strip_prefix.result c.strip_prefix.ensures.cases) in
    record { sound = is.0; complete = is.1 }
