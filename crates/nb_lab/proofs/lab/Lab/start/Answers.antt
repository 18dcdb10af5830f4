use Rattle.std.proofs.Common.{◌≡◌, ◌<◌, ap, subst, ◌∙◌}
use Rattle.nb_lab.specs.Labs.{LabState}
use Rattle.nb_lab.specs.Scripts.{script_text}
use Rattle.nb_lab.proofs.ScriptLemmas.{length-script_text, started_with, start_is_valid}
use Rattle.nb_lab.proofs.lab.Lab.start.Goals as goal

pub returns-clause-value : goal.returns-clause-value
returns-clause-value c =
    let script : c.as_slice.result.now ≡ script_text c.args.self.now.server.images =
    c.as_slice.ensures.value ∙ c.self.invariant.1 ∙ ap (λ (l : LabState). script_text l.server.images) c.self.view_is in
    started_with c.args.self.now.server.images c.as_slice.result.now script

pub returns-clause-valid : goal.returns-clause-valid
returns-clause-valid c =
    let Few : LabState → Type 0 = λ l. l.server.images < 256 in
    start_is_valid c.args.self.now.server.images (subst Few c.self.view_is c.self.invariant.2)

pub returns-clause-short : goal.returns-clause-short
returns-clause-short c =
    let Few : LabState → Type 0 = λ l. l.server.images < 256 in
    length-script_text c.args.self.now.server.images (subst Few c.self.view_is c.self.invariant.2)
