use Rattle.nb_ether.specs.Frame.{frame_of}
use Rattle.nb_stack.proofs.ReadingLaws.{no_packet}
use Rattle.nb_stack.proofs.reading.packet_in.Goals as goal

pub returns-in-None : goal.returns-in-None
returns-in-None c = no_packet _ (frame_of c.args.frame) c.requires (λ p is. c.in-None.ensures.complete p is)
