-- the frames that the servers send
use Rattle.std.specs.Prelude.{ℕ, List}
use Rattle.nb_wire.specs.declared.address.Mac.{Mac}
use Rattle.nb_ether.specs.ArpText.{arp_text}
use Rattle.nb_ether.specs.Frame.{frame_text}
use Rattle.nb_ipv4.specs.PacketText.{sent_parts, sent_packet}
use Rattle.nb_ipv4.specs.UdpText.{sent_datagram}
use Rattle.nb_tcpseg.specs.SegmentText.{sent_segment}
use Rattle.nb_tftpmsg.specs.Packets.{packet_text}
use Rattle.nb_lab.specs.declared.hosts.Peer.{Peer}
use Rattle.nb_lab.specs.declared.answer.Answer.{Answer}
use Rattle.nb_lab.specs.declared.answer.Answer.TheVariants.{Interface, File, Stream}
use Rattle.nb_lab.specs.Hosts.{server, server_mac}
use Rattle.nb_lab.specs.Files.{file_message}
use Rattle.nb_lab.specs.Streams.{segment_to_peer}

-- RFC 894: a frame of the servers' interface
unfoldable pub server_frame : Mac → ℕ → List ℕ → List ℕ
server_frame dst kind body = frame_text (record { dst = dst; src = server_mac; kind = kind; body = body })

-- a packet of the servers to a peer, in its frame
unfoldable pub packet_to : Peer → ℕ → List ℕ → List ℕ
packet_to peer proto body = server_frame peer.mac 2048 (sent_packet (sent_parts server peer.ip proto body))

-- an ARP reply; a datagram of the port of transfers; a segment
unfoldable pub answer_frame : Answer → List ℕ
answer_frame (Interface mac ip) =
    server_frame mac 2054 (arp_text (record { op = 2; sha = server_mac; spa = server; tha = mac; tpa = ip }))
answer_frame (File peer sent) =
    packet_to peer 17 (sent_datagram server peer.ip (record { src_port = 50000; dst_port = peer.port; body = packet_text (file_message sent) }))
answer_frame (Stream peer expected sent) = packet_to peer 6 (sent_segment server peer.ip (segment_to_peer peer expected sent))
