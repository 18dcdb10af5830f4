use Rattle.std.proofs.Common.{◌≡◌, [], ◌∷◌, ap}
use Rattle.nb_ibft.specs.Views.{lent_target}
use Rattle.nb_ibft.proofs.TargetLemmas.{one_missed, one_read, two_read}
use Rattle.nb_ibft.proofs.fields.targets_of.Goals as goal

pub returns-in_err-one-clause-complete : goal.returns-in_err-one-clause-complete
returns-in_err-one-clause-complete c = λ targets at after valid few short is stand most e. absurd (one_missed c.args.bytes.now c.args.parts.now c.args.control.now targets at after c.in_err-one.ensures.complete valid short is c.if-first-eq0.false stand most e)

pub returns-then-second-eq0-clause-complete : goal.returns-then-second-eq0-clause-complete
returns-then-second-eq0-clause-complete c = λ targets at after valid few short is stand most e. one_read c.args.bytes.now c.args.parts.now c.args.control.now c.in_ok-one.rest.now (lent_target c.in_ok-one.one) targets at after c.in_ok-one.ensures.complete valid short is c.if-first-eq0.false c.if-second-eq0.true stand most e

pub returns-in_err-two-clause-complete : goal.returns-in_err-two-clause-complete
returns-in_err-two-clause-complete c = λ targets at after valid few short is stand most e. absurd (two_read c.args.bytes.now c.args.parts.now c.args.control.now c.in_ok-one.rest.now (lent_target c.in_ok-one.one) (λ ts. ⊥) targets at after c.in_ok-one.ensures.complete c.in_err-two.ensures.complete valid few short is c.if-first-eq0.false c.if-second-eq0.false stand most e)

pub returns-clause-complete : goal.returns-clause-complete
returns-clause-complete c = λ targets at after valid few short is stand most e. two_read c.args.bytes.now c.args.parts.now c.args.control.now c.in_ok-one.rest.now (lent_target c.in_ok-one.one) (λ ts. lent_target c.in_ok-one.one ∷ lent_target c.in_ok-two.two ∷ [] ≡ ts) targets at after c.in_ok-one.ensures.complete (λ index place u more v s st m p. ap (λ x. lent_target c.in_ok-one.one ∷ x ∷ []) (c.in_ok-two.ensures.complete index place u more v s st m p).0) valid few short is c.if-first-eq0.false c.if-second-eq0.false stand most e
