use Rattle.std.proofs.Common.{ap, ◌∙◌, arith}
use Rattle.std.specs.List.{slice_index}
use Rattle.nb_lab.specs.Shows.{image_of_open}
use Rattle.nb_lab.proofs.ReadingLemmas.{take_rest, long_body}
use Rattle.nb_lab.proofs.shown.image_by.Goals as goal

pub returns : goal.returns
returns c =
    c.image_of.ensures
    ∙ ap (image_of_open (slice_index c.args.body.now 2)) (take_rest 13 c.args.body.now)
    ∙ long_body c.args.body.now (omega (arith, c.if-body-lt-TARGET.false))
