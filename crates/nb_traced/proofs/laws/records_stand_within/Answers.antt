use Rattle.nb_traced.proofs.Following.{advances_stand, frames_stand, tries_stand}
use Rattle.nb_traced.proofs.Aside.{others_stand_outside}
use Rattle.nb_traced.proofs.laws.records_stand_within.Goals as goal

pub returns-clause-frames : goal.returns-clause-frames
returns-clause-frames c = λ outs h came t. frames_stand outs h came t

pub returns-clause-tries : goal.returns-clause-tries
returns-clause-tries c = λ outs h came t. tries_stand outs h came t

pub returns-clause-advances : goal.returns-clause-advances
returns-clause-advances c = λ outs h came t. advances_stand outs h came t

pub returns-clause-others : goal.returns-clause-others
returns-clause-others c = λ outs h came t. others_stand_outside outs h came t
