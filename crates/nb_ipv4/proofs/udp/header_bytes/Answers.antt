use Rattle.std.proofs.Common.{ℕ, ◌∙◌, sym, ap}
use Rattle.std.specs.Int.{w16, to_be_bytes}
use Rattle.nb_ipv4.proofs.SentUdpLaws.{header_written}
use Rattle.nb_ipv4.proofs.udp.header_bytes.Goals as goal

pub returns-clause-value : goal.returns-clause-value
returns-clause-value c = λ d src dst is.
    let wide = λ (n : ℕ). to_be_bytes w16 n in
    header_written d c.args.checksum _ _ _ _ (c.to_be_bytes.ensures ∙ ap wide (sym src)) (c.to_be_bytes-2.ensures ∙ ap wide (sym dst)) (c.to_be_bytes-3.ensures ∙ ap wide (sym is)) c.to_be_bytes-4.ensures
