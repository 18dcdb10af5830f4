-- A packet of the program, without where it lies in memory
use Rattle.nb_tftpmsg.specs.declared.packet.Tftp.{Tftp}
use Rattle.nb_tftpmsg.specs.declared.packet.Tftp.TheVariants.{Rrq, Block, Ack, Error, Oack}
use Rattle.nb_tftpmsg.specs.Packets.{Message, rrq, block, ack, error, oack}

abbrev pub message : Tftp → Message
message (Rrq path options) = rrq path.now options
message (Block n bytes) = block n bytes.now
message (Ack n) = ack n
message (Error code text) = error code text.now
message (Oack blksize tsize) = oack blksize tsize
