use Rattle.std.proofs.Common.{ℕ, ◌<◌, ◌^◌, sym, subst, arith, rules}
use Rattle.nb_ipv4.specs.EchoText.{IsEchoKind}
use Rattle.nb_ipv4.proofs.SentEchoLaws.{header_has_sum}
use Rattle.nb_ipv4.proofs.echo.header_sum.Goals as goal

pub returns : goal.returns
returns c = λ e kind ident seq.
    let small : c.args.ident < 2 ^ 16 = search rules in
    let small2 : c.args.seq < 2 ^ 16 = search rules in
    let P : ℕ → Type 0 = λ n. IsEchoKind n in
    header_has_sum e _ (subst P (sym kind) c.requires) (omega (arith, ident, small)) (omega (arith, seq, small2)) (omega (arith, kind, ident, seq))
