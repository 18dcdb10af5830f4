use Rattle.std.proofs.Common.{◌∙◌, arith}
use Rattle.nb_tftpmsg.specs.Views.{message}
use Rattle.nb_tftpmsg.proofs.PacketLemmas.{read_is_packet, reading_complete}
use Rattle.nb_tftpmsg.proofs.packet.Tftp.read.Goals as goal

pub returns-clause-sound : goal.returns-clause-sound
returns-clause-sound c = read_is_packet message c.args.bytes.now c.parsed.result (λ i. omega (arith, c.type_inv.bytes i)) c.parsed.ensures

pub returns-clause-complete : goal.returns-clause-complete
returns-clause-complete c = λ m is. c.parsed.ensures ∙ reading_complete c.args.bytes.now m is
