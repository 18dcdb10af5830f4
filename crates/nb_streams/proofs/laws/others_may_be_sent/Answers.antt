use Rattle.std.proofs.Common.{refl}
use Rattle.nb_streams.specs.Flows.{conn_phase}
use Rattle.nb_streams.proofs.OtherSendLaws.{again_may, closing_may, text_may_be_sent}
use Rattle.nb_streams.proofs.SendLaws.{all_in_order}
use Rattle.nb_streams.proofs.laws.others_may_be_sent.Goals as goal

pub returns-clause-closing : goal.returns-clause-closing
returns-clause-closing c = λ isn calls. closing_may isn calls (conn_phase isn calls) refl

pub returns-clause-text : goal.returns-clause-text
returns-clause-text c = text_may_be_sent

pub returns-clause-again : goal.returns-clause-again
returns-clause-again c = λ isn calls. again_may isn calls (conn_phase isn calls) (all_in_order isn calls) refl
