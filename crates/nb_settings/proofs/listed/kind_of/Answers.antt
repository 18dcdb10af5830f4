use Rattle.std.proofs.Common.{rules}
use Rattle.nb_settings.specs.Listed.{listed_kind}
use Rattle.nb_settings.proofs.listed.kind_of.Goals as goal

pub returns : goal.returns
unfolding listed_kind
returns c = rw (← c.line_with.ensures) (search rules)
