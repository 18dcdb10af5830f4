use Rattle.nb_webtalks.proofs.TalkLemmas.{same_three}
use Rattle.nb_webtalks.proofs.laws.three_as_they_were.Goals as goal

pub returns : goal.returns
returns c = same_three
