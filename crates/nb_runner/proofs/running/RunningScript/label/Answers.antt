use Rattle.nb_runner.proofs.Comings.{label_within, label_small}
use Rattle.nb_runner.proofs.running.RunningScript.label.Goals as goal

pub returns-clause-within : goal.returns-clause-within
returns-clause-within c = rw (c.label.ensures, c.deref.ensures, ← c.self.view_is) (label_within c.args.name.now c.self.inside.place.value.script)

pub returns-clause-small : goal.returns-clause-small
returns-clause-small c = rw (c.label.ensures, c.deref.ensures) (label_small c.args.name.now c.self.inside.place.value.script c.self.invariant.2)
