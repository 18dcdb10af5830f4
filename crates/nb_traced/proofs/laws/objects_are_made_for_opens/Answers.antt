use Rattle.nb_traced.proofs.WhoseEvents.{opens_take_all}
use Rattle.nb_traced.proofs.WhoseMades.{mades_are_theirs}
use Rattle.nb_traced.proofs.laws.objects_are_made_for_opens.Goals as goal

pub returns-clause-makes : goal.returns-clause-makes
returns-clause-makes c = λ outs h came t. mades_are_theirs outs h came t

pub returns-clause-takes : goal.returns-clause-takes
returns-clause-takes c = λ outs h came t. opens_take_all outs h came t
