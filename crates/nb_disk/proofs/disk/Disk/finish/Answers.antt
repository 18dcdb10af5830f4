use Rattle.std.proofs.Common.{subst}
use Rattle.nb_terms.specs.declared.cause.Cause.{Cause}
use Rattle.nb_disk.specs.Steps.{KeptNumbers, kept_of, step_ends, IsDiskStep}
use Rattle.nb_disk.proofs.StandsLemmas.{finish-answers}
use Rattle.nb_disk.proofs.disk.Disk.finish.Goals as goal

pub returns-clause-stands : goal.returns-clause-stands
returns-clause-stands c =
    let seen = subst (λ (k : KeptNumbers). IsDiskStep (step_ends k c.broken.result) (kept_of c.end.new.self) c.end.result c.end.new.acts) c.self.view_is c.end.ensures in
    let step = subst (λ (x : Cause). IsDiskStep (step_ends c.args.self.now x) (kept_of c.end.new.self) c.end.result c.end.new.acts) c.broken.ensures seen in
    finish-answers c.args.self.now (kept_of c.end.new.self) c.args.rec c.end.result c.end.new.acts step
