use Rattle.nb_ipv4.specs.PacketText.{header_text}
use Rattle.nb_ipv4.proofs.packet.header_bytes.Goals as goal

pub returns-clause-value : goal.returns-clause-value
unfolding header_text
returns-clause-value c = λ body is. rw (is, c.to_be_bytes.ensures, c.to_be_bytes-2.ensures, c.addresses.ensures)
