-- A message of the program, without where it lies in memory
use Rattle.nb_dhcpmsg.specs.declared.message.DhcpMsg.{DhcpMsg}
use Rattle.nb_dhcpmsg.specs.Messages.{MessageParts}

abbrev pub parts_of : DhcpMsg → MessageParts
parts_of m = record { op = m.op; xid = m.xid; yiaddr = m.yiaddr.0; siaddr = m.siaddr.0; chaddr = m.chaddr.0; kind = m.kind }
