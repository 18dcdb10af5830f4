-- The frame of a message whose next hop's hardware address is known.
use Rattle.std.proofs.Common.{◌≡◌, ℕ, Some, List, ◌++◌, refl, sym, ap, ◌∙◌, append_assoc}
use Rattle.nb_wire.specs.declared.address.Ip4.{Ip4}
use Rattle.nb_wire.specs.declared.address.Mac.{Mac}
use Rattle.nb_terms.specs.declared.acts.SendTo.{SendTo}
use Rattle.nb_ipv4.specs.PacketText.{sent_parts}
use Rattle.nb_ipv4.specs.UdpText.{sent_datagram}
use Rattle.nb_stack.specs.declared.put.Endpoints.{Endpoints}
use Rattle.nb_stack.specs.declared.route.Way.{Way}
use Rattle.nb_stack.specs.declared.route.Way.TheVariants.{Hop}
use Rattle.nb_stack.specs.Acks.{LeavesIn, GoesBetween}
use Rattle.nb_stack.specs.Client.{Client}
use Rattle.nb_stack.specs.Near.{mac_of}
use Rattle.nb_stack.specs.Sends.{fate_of, fate_by, put_on, put_by, way_of, packet_frame, packet_between, udp_of, with_checksum}
use Rattle.nb_stack.proofs.PutLaws.{message_17, message_6}

-- by a hop that has a hardware address
pub goes_by : (client : Client) (m : SendTo) (from hop : Ip4) (dst : Mac) → Hop from hop ≡ way_of client m → Some dst ≡ mac_of hop client.near → GoesBetween client m (record { dst = dst; src = client.mac; from = from; to = m.to })
goes_by client m from hop dst way mac = record {
  to = refl;
  leaves = record {
    fate = sym (ap fate_by mac ∙ ap (λ (w : Way). fate_of client w) way);
    put = ap (put_by client from hop m) mac ∙ ap (λ (w : Way). put_on client m w) way;
  };
}

-- a datagram between these endpoints
pub datagram_leaves : (client : Client) (m : SendTo) (ends : Endpoints) (frame : List ℕ) → GoesBetween client m ends → m.proto ≡ 17 → frame ≡ packet_between ends 17 (sent_datagram ends.from ends.to (udp_of m)) → LeavesIn client m frame
datagram_leaves client m ends frame goes proto is = record {
  fate = goes.leaves.fate;
  put = is
      ∙ ap (λ (to : Ip4). packet_frame ends.dst ends.src (sent_parts ends.from to 17 (sent_datagram ends.from to (udp_of m)))) goes.to
      ∙ sym (message_17 ends.dst ends.src ends.from m proto)
      ∙ goes.leaves.put;
}

-- a segment between these endpoints
pub segment_leaves : (client : Client) (m : SendTo) (ends : Endpoints) (frame : List ℕ) → GoesBetween client m ends → m.proto ≡ 6 → frame ≡ packet_between ends 6 (with_checksum ends.from ends.to m.body.items) → LeavesIn client m frame
segment_leaves client m ends frame goes proto is = record {
  fate = goes.leaves.fate;
  put = is
      ∙ ap (λ (to : Ip4). packet_frame ends.dst ends.src (sent_parts ends.from to 6 (with_checksum ends.from to m.body.items))) goes.to
      ∙ sym (message_6 ends.dst ends.src ends.from m proto)
      ∙ goes.leaves.put;
}

-- the heads of a packet, of a datagram, and its body
pub datagram_whole : (heads head body frame : List ℕ) → heads ++ (head ++ body) ≡ frame → (heads ++ head) ++ body ≡ frame
datagram_whole heads head body frame is = append_assoc heads head body ∙ is
