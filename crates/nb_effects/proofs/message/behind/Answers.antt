use Rattle.std.proofs.Common.{ap}
use Rattle.nb_effects.proofs.CutLemmas.{behind-bytes}
use Rattle.nb_effects.proofs.message.behind.Goals as goal

pub returns-clause-bytes : goal.returns-clause-bytes
returns-clause-bytes c =
    let m = c.args.msg.now in
    ap (λ z. record { tag = m.tag; rec = m.rec; a = m.a; b = m.b; bytes = z }) (behind-bytes m.first.now m.second.now c.args.took c.min.result c.saturating_sub.result c.min.ensures c.saturating_sub.ensures)
