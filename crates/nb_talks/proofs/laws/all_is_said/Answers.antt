use Rattle.nb_talks.proofs.TalkLaws.{all_is_said}
use Rattle.nb_talks.proofs.laws.all_is_said.Goals as goal

pub returns : goal.returns
returns c s = λ t adds isn start came. all_is_said t adds isn start came
