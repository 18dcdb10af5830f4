use Rattle.nb_tftp.proofs.PlainLaws.{gives_range, given_range, given_nothing, tick_gives}
use Rattle.nb_tftp.proofs.laws.gives_within_the_body.Goals as goal

pub returns : goal.returns
returns c = record { within = gives_range; range = given_range; none = given_nothing; time = tick_gives }
