use Rattle.std.proofs.Common.{refl}
use Rattle.nb_settings.specs.Listed.{key_named}
use Rattle.nb_settings.proofs.listed.key_named.Goals as goal

pub returns-in-Some : goal.returns-in-Some
unfolding key_named
returns-in-Some c = rw (← c.in-Some.ensures) refl

pub returns-in-None : goal.returns-in-None
unfolding key_named
returns-in-None c = rw (← c.in-None.ensures) refl
