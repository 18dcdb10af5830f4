use Rattle.std.proofs.Common.{◌++◌, ◌∙◌, ap, arith}
use Rattle.nb_open.proofs.AskReading.{ask_reads_back}
use Rattle.nb_open.proofs.beginning.head_of.Goals as goal

pub returns-clause-readable : goal.returns-clause-readable
returns-clause-readable c =
    ask_reads_back c.args.conn c.args.host.now c.extend_from_slice.new.self.items
    (record { peer = omega arith; peer_port = omega arith; own = omega arith; own_port = omega arith; isn = omega arith })
    (c.in_ok-extend_from_slice.ensures.items ∙ ap (λ z. z ++ c.args.host.now) (c.in_ok-bytes.ensures.items ∙ c.bytes.ensures.value))
