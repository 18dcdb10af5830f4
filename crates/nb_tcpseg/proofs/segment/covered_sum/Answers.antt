use Rattle.std.proofs.Common.{◌≡◌, ℕ, List, ◌++◌, length, ap, ◌∙◌, rules}
use Rattle.nb_wire.specs.Checksum.{checksum}
use Rattle.nb_tcpseg.proofs.SentLemmas.{joined}
use Rattle.nb_tcpseg.proofs.segment.covered_sum.Goals as goal

pub returns-clause-value : goal.returns-clause-value
returns-clause-value c =
    let twelve : length c.args.pseudo.now ≡ 12 = search rules in
    let twenty_four : length c.args.header.now ≡ 24 = search rules in
    c.sum16.ensures ∙ ap (λ (x : List ℕ). checksum (x ++ c.args.body.now)) (joined c.args.pseudo.now c.args.header.now c.args.header_len twelve twenty_four)
