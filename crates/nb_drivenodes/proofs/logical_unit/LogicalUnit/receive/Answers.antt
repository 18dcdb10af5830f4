use Rattle.std.proofs.Common.{sym, ◌∙◌}
use Rattle.nb_graph.specs.Trace.{said}
use Rattle.nb_drivenodes.proofs.UnitLemmas.{unit-rests, quiet-up-unit, off-tag, off-opened, off-served}
use Rattle.nb_drivenodes.proofs.logical_unit.LogicalUnit.receive.Goals as goal

pub returns-then-msg-from-clause-within : goal.returns-then-msg-from-clause-within
returns-then-msg-from-clause-within g c = c.open.ensures.within _

pub returns-else-msg-from-clause-leads : goal.returns-else-msg-from-clause-leads
returns-else-msg-from-clause-leads g c = λ slot now one took. unit-rests g.L.CarriesText.texts _ _
    (λ d at. quiet-up-unit c.args.self.now.stage slot (said c.args.msg.now) now c.args.fx.now d (λ e. off-opened slot (said c.args.msg.now) (off-tag 11 slot (said c.args.msg.now) (λ t. c.if-msg-from.false (t ∙ sym c.from.ensures)))) (λ kk x e. absurd (let z = e in let y = c.in-Waiting.is in cc)) at)
    (c.requires.blank.0, c.requires.blank.1, took)

pub returns-then-msg-from-3-clause-within : goal.returns-then-msg-from-3-clause-within
returns-then-msg-from-3-clause-within g c = c.finish.ensures.within _

pub returns-else-msg-from-3-clause-leads : goal.returns-else-msg-from-3-clause-leads
returns-else-msg-from-3-clause-leads g c = λ slot now one took. unit-rests g.L.CarriesText.texts _ _
    (λ d at. quiet-up-unit c.args.self.now.stage slot (said c.args.msg.now) now c.args.fx.now d (λ e. absurd (let z = e in let y = c.in-Working.is in cc))
    (λ kk x e. off-served slot (said c.args.msg.now) (off-tag 12 slot (said c.args.msg.now) (λ t. c.if-msg-from-2.false (t ∙ sym c.from-in-Working.ensures))) (off-tag 8 slot (said c.args.msg.now) (λ t. c.if-msg-from-3.false (t ∙ sym c.from-in-Working-2.ensures)))) at)
    (c.requires.blank.0, c.requires.blank.1, took)

pub returns-in-Unasked-clause-leads : goal.returns-in-Unasked-clause-leads
returns-in-Unasked-clause-leads g c = λ slot now one took. unit-rests g.L.CarriesText.texts _ _
    (λ d at. quiet-up-unit c.args.self.now.stage slot (said c.args.msg.now) now c.args.fx.now d (λ e. absurd (let z = e in let y = c.in-Unasked.is in cc)) (λ kk x e. absurd (let z = e in let y = c.in-Unasked.is in cc)) at)
    (c.requires.blank.0, c.requires.blank.1, took)

pub returns-in-Ended-clause-leads : goal.returns-in-Ended-clause-leads
returns-in-Ended-clause-leads g c = λ slot now one took. unit-rests g.L.CarriesText.texts _ _
    (λ d at. quiet-up-unit c.args.self.now.stage slot (said c.args.msg.now) now c.args.fx.now d (λ e. absurd (let z = e in let y = c.in-Ended.is in cc)) (λ kk x e. absurd (let z = e in let y = c.in-Ended.is in cc)) at)
    (c.requires.blank.0, c.requires.blank.1, took)
