use Rattle.nb_talks.proofs.TalkLaws.{all_is_said}
use Rattle.nb_sans.specs.Sessions.{session_talker}
use Rattle.nb_sans.proofs.SessionGrowth.{session_adds}
use Rattle.nb_sans.proofs.laws.says_all_of_a_session.Goals as goal

pub returns : goal.returns
returns c = λ i. all_is_said (session_talker i) (session_adds i)
