-- RFC 894, RFC 791: how long what is handed on is.
use Rattle.std.proofs.Common.{◌≡◌, ℕ, ◌≤◌, length, List, [], ◌∷◌, Some, None, option_map, cond, refl, sym, ◌∙◌, ap, subst, arith, eq-eqb}
use Rattle.std.specs.Prelude.{◌==◌, ◌&&◌}
use Rattle.nb_ipv4.specs.PacketText.{PacketParts}
use Rattle.nb_ipv4.specs.UdpText.{UdpParts}
use Rattle.nb_ipv4.specs.EchoText.{EchoParts}
use Rattle.nb_stack.specs.Bound.{owner_of}
use Rattle.nb_stack.specs.Brings.{Brought, nothing, arp_message, datagram, echo_request, echo_reply, segment, Brings}
use Rattle.nb_stack.specs.Client.{Client}
use Rattle.nb_stack.specs.Takes.{Outcome, dropped, replied, handed, asks, client_after, echo_to, handed_to, outcome_of, reply_of, Takes}
use Rattle.nb_stack.specs.declared.ports.Port.{Port}
use Rattle.nb_stack.proofs.ReadingLaws.{body_short}
use Rattle.nb_stack.proofs.ShortLaws.{IsShort, takes_short}
use Rattle.nb_wire.specs.declared.address.Ip4.{Ip4}
use Rattle.nb_network.proofs.Handed.{drops_none, handed_datagram, handed_reply, handed_segment, not_handed, replies_none}

-- over a client with other ports, of which none is TCP's
short_over : (c : Client) (ports : List Port) (bytes : List ℕ) (b : Brought) → Brings c.up c.mac c.address bytes b → length bytes ≤ 1522 → ((port : ℕ) → owner_of 6 port ports ≡ None) → IsShort (outcome_of (record c { ports = ports }) b)
short_over c ports bytes b brings short none =
    let d : Client = record c { ports = ports } in
    takes_short d (client_after d b) bytes [] (reply_of d b) (outcome_of d b) (record { message = b; brings = brings; is_outcome = refl; is_put = refl; is_after = refl }) short none

-- the one port of its owner
abbrev alone_bound : ℕ → ℕ → ℕ → List Port
alone_bound proto number to = record { proto = proto; number = number; to = to } ∷ []

alone_owned : (proto number to : ℕ) → owner_of proto number (alone_bound proto number to) ≡ Some to
alone_owned proto number to =
    ap (λ b. option_map (λ (p : Port). p.to) (cond (b && (number == number)) (Some (record { proto = proto; number = number; to = to })) None)) (eq-eqb proto proto refl)
    ∙ ap (λ b. option_map (λ (p : Port). p.to) (cond b (Some (record { proto = proto; number = number; to = to })) None)) (eq-eqb number number refl)

pub datagram_short : (c : Client) (bytes : List ℕ) (p : PacketParts) (d : UdpParts) → Brings c.up c.mac c.address bytes (datagram p d) → length bytes ≤ 1522 → length d.body ≤ 1480
datagram_short c bytes p d brings short = subst (λ o. IsShort (handed_to p d o)) (alone_owned 17 d.dst_port 0) (short_over c (alone_bound 17 d.dst_port 0) bytes (datagram p d) brings short (λ port. refl))

pub echo_short : (c : Client) (bytes : List ℕ) (p : PacketParts) (x : EchoParts) → Brings c.up c.mac c.address bytes (echo_reply p x) → length bytes ≤ 1522 → length x.body ≤ 1480
echo_short c bytes p x brings short = subst (λ o. IsShort (echo_to p x o)) (alone_owned 1 x.ident 0) (short_over c (alone_bound 1 x.ident 0) bytes (echo_reply p x) brings short (λ port. refl))

message_short : (c : Client) (bytes : List ℕ) (b : Brought) → Brings c.up c.mac c.address bytes b → length bytes ≤ 1522 → (to : ℕ) (src dst : Ip4) (proto port : ℕ) (body : List ℕ) → outcome_of c b ≡ handed to src dst proto port body → length body ≤ 65535
message_short c bytes nothing brings short to src dst proto port body e = absurd (drops_none to src dst proto port body e)
message_short c bytes (arp_message from arp) brings short to src dst proto port body e =
    absurd (not_handed (asks c.address arp) replied dropped to src dst proto port body (replies_none to src dst proto port body) (drops_none to src dst proto port body) e)
message_short c bytes (datagram p d) brings short to src dst proto port body e =
    let h = handed_datagram p d (owner_of 17 d.dst_port c.ports) to src dst proto port body e in
    let few = datagram_short c bytes p d brings short in
    subst (λ z. length z ≤ 65535) h.body_is (omega (arith, few))
message_short c bytes (echo_request from p x) brings short to src dst proto port body e = absurd (replies_none to src dst proto port body e)
message_short c bytes (echo_reply p x) brings short to src dst proto port body e =
    let h = handed_reply p x (owner_of 1 x.ident c.ports) to src dst proto port body e in
    let few = echo_short c bytes p x brings short in
    subst (λ z. length z ≤ 65535) h.body_is (omega (arith, few))
message_short c bytes (segment from p x) brings short to src dst proto port body e =
    let h = handed_segment p x (owner_of 6 x.dst_port c.ports) to src dst proto port body e in
    let few = body_short bytes brings.0 p brings.1.frame brings.2.0.packet in
    subst (λ z. length z ≤ 65535) h.body_is (omega (arith, few, short))

pub handed_short : (c after : Client) (bytes put put_after : List ℕ) (out : Outcome) (to : ℕ) (src dst : Ip4) (proto port : ℕ) (body : List ℕ) → out ≡ handed to src dst proto port body → Takes c bytes out put put_after after → length bytes ≤ 1522 → length body ≤ 65535
handed_short c after bytes put put_after out to src dst proto port body is takes short = message_short c bytes takes.message takes.brings short to src dst proto port body (sym takes.is_outcome ∙ is)
