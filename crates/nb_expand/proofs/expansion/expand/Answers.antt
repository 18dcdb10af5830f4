use Rattle.std.proofs.Common.{refl}
use Rattle.nb_expand.specs.Expansion.{expanded}
use Rattle.nb_expand.proofs.expansion.expand.Goals as goal

pub loop-token-init : goal.loop-token-init
unfolding expanded
loop-token-init c = rw (c.new-gathered.ensures.inner, c.new-gathered.ensures.around) refl
