-- RFC 9293, section 3.1: what is sent, as a message to the peer with checksum 0
use Rattle.nb_terms.specs.declared.acts.SendTo.{SendTo}
use Rattle.nb_tcpseg.specs.SegmentText.{SegmentParts, segment_text}
use Rattle.nb_streams.specs.Sending.{Outgoing}
use Rattle.nb_tcp.specs.declared.link.Link.{Link}

abbrev pub outgoing_parts : Link → Outgoing → SegmentParts
outgoing_parts l o = record { src_port = l.own_port; dst_port = l.peer_port; seq = o.number; ack = o.acknowledges; flags = o.flags; window = o.window; mss = o.mss; body = o.body }

abbrev pub packet : Link → SegmentParts → SendTo
packet l s = record { proto = 6; to = l.peer; to_port = l.peer_port; own_port = l.own_port; body = record { items = segment_text s 0 } }

abbrev pub outgoing_message : Link → Outgoing → SendTo
outgoing_message l o = packet l (outgoing_parts l o)
