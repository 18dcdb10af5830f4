use Rattle.std.proofs.Common.{ℕ, ◌∙◌, sym, ap}
use Rattle.std.specs.Int.{w16, to_be_bytes}
use Rattle.nb_ipv4.proofs.SentEchoLaws.{header_written}
use Rattle.nb_ipv4.proofs.echo.header_bytes.Goals as goal

pub returns-clause-value : goal.returns-clause-value
returns-clause-value c = λ e kind ident seq.
    let wide = λ (n : ℕ). to_be_bytes w16 n in
    header_written e c.args.kind c.args.checksum _ _ _ kind (c.to_be_bytes.ensures ∙ ap wide (sym ident)) (c.to_be_bytes-2.ensures ∙ ap wide (sym seq)) c.to_be_bytes-3.ensures
