use Rattle.std.proofs.Common.{List, ℕ, ◌++◌, ap, ◌∙◌}
use Rattle.nb_record.proofs.LogLemmas.{Puts-same}
use Rattle.nb_record.proofs.SpellingLemmas.{tried_then_sent}
use Rattle.nb_record.proofs.log.Log.put_tried.Goals as goal

pub returns : goal.returns
returns c =
    let frame = c.args.frame.now in
    Puts-same _ _ _ _ (ap (λ (w : List ℕ). w ++ frame) c.tried_head.ensures ∙ tried_then_sent c.args.number c.args.n frame) c.add_both.ensures
