use Rattle.std.proofs.Common.{◌∙◌, ap}
use Rattle.nb_disk.specs.Steps.{KeptNumbers, has_work}
use Rattle.nb_disk.proofs.StandsLemmas.{busy-at}
use Rattle.nb_disk.proofs.disk.Disk.is_busy.Goals as goal

pub returns-clause-at_work : goal.returns-clause-at_work
returns-clause-at_work c = λ o calls stands going.
    c.has_task.ensures ∙ ap (λ (k : KeptNumbers). has_work k.work) c.self.view_is ∙ busy-at o calls c.args.self.now stands (stands.over ∙ going)
