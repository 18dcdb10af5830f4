use Rattle.std.proofs.Common.{IfOk, List, ℕ, Option, subst}
use Rattle.nb_iscsipdu.specs.PduTexts.{pdu_parts}
use Rattle.nb_iscsipdu.specs.Answers.{answer_read}
use Rattle.nb_disk.specs.Steps.{KeptNumbers, kept_of, step_pdu, IsDiskStep}
use Rattle.nb_disk.proofs.StandsLemmas.{pdu-answers}
use Rattle.nb_disk.proofs.disk.Disk.pdu.Goals as goal

pub returns-clause-stands : goal.returns-clause-stands
returns-clause-stands c =
    let step = subst (λ (k : KeptNumbers). IfOk c.on_pdu.result (λ (text : Option (List ℕ)). IsDiskStep (step_pdu k c.args.rec (answer_read (pdu_parts c.args.p.now))) (kept_of c.on_pdu.new.self) text c.on_pdu.new.acts)) c.self.view_is c.on_pdu.ensures.ok in
    pdu-answers c.args.self.now (kept_of c.on_pdu.new.self) c.args.rec (pdu_parts c.args.p.now) c.on_pdu.result c.on_pdu.new.acts step
