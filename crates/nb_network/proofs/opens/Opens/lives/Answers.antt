use Rattle.std.proofs.Common.{◌≡◌, refl, subst, sym, ◌∙◌}
use Rattle.std.specs.List.{AllByRecursion}
use Rattle.nb_network.specs.declared.living.Living.{Living}
use Rattle.nb_network.proofs.Ones.{number_nowhere, number_there, open_there}
use Rattle.nb_network.proofs.opens.Opens.lives.Goals as goal

pub returns-in-Some-clause-value : goal.returns-in-Some-clause-value
returns-in-Some-clause-value c = let f = c.in-Some.ensures.found in sym (number_there c.args.number c.args.self.now.list c.in-Some.field-0 f.0 f.1 (f.2 ∙ c.from.ensures))

pub returns-in-Some-clause-some : goal.returns-in-Some-clause-some
returns-in-Some-clause-some c = λ _. let f = c.in-Some.ensures.found in open_there c.args.number c.args.self.now.list c.in-Some.field-0 f.0 f.1 (f.2 ∙ c.from.ensures)

pub returns-in-None-clause-value : goal.returns-in-None-clause-value
returns-in-None-clause-value c = sym (number_nowhere c.args.number c.args.self.now.list (subst (λ n. AllByRecursion (λ (o : Living). o.speaker.number ≡ n → ⊥) c.args.self.now.list) c.from.ensures (c.in-None.ensures.none refl)))
