use Rattle.std.proofs.Common.{◌≡◌, ◌∙◌, ℕ, ap, arith, take, length, min}
use Rattle.nb_http.proofs.LeastLemmas.{take_min}
use Rattle.nb_http.proofs.steps.beginning.Goals as goal

pub returns-clause-value : goal.returns-clause-value
returns-clause-value c =
    let same : c.min-len.result ≡ min c.args.most (length c.args.bytes.now) = omega (arith, c.min-len.ensures) in
    ap (λ (n : ℕ). take n c.args.bytes.now) same ∙ take_min c.args.most c.args.bytes.now
