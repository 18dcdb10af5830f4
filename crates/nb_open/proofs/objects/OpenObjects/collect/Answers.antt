use Rattle.std.proofs.Common.{sym, subst, ◌∙◌}
use Rattle.nb_open.specs.Objects.{HandsBrought}
use Rattle.nb_open.proofs.objects.OpenObjects.collect.Goals as goal

pub returns-in_ok-copied-in-Web-clause-hands : goal.returns-in_ok-copied-in-Web-clause-hands
returns-in_ok-copied-in-Web-clause-hands c =
    subst (λ o. HandsBrought o c.args.graph.now (record { body = c.collect.result; moved = c.in_ok-copied-in-Web.field-0 })) (sym c.in-Web.is)
    (record { body = λ are t stands. c.collect.ensures.body are t stands; moved = λ are t stands lives. c.in_ok-copied-in-Web.ensures ∙ c.moved.ensures are t stands lives })
