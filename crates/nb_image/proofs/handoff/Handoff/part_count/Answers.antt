use Rattle.std.proofs.Common.{arith}
use Rattle.nb_image.proofs.PartsLemmas.{parts_length}
use Rattle.nb_image.proofs.handoff.Handoff.part_count.Goals as goal

pub returns-clause-value : goal.returns-clause-value
returns-clause-value c =
    let count = parts_length c.args.self.now.images.now.images c.args.self.now.kernel c.requires in
    omega arith
