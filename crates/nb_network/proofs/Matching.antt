-- For which open of the machine a message is: the one that has its port, where it counts.
use Rattle.std.proofs.Common.{◌≡◌, ℕ, ◌==◌, ◌&&◌, ◌||◌, Bool, true, false, List, [], ◌∷◌, refl, sym, ◌∙◌, ap, arith, eq-eqb}
use Rattle.std.specs.List.{AllByRecursion, list_any}
use Rattle.std.proofs.lemmas.Bool.{eqb-true, false≢true}
use Rattle.nb_graph.specs.Whole.{Objects}
use Rattle.nb_ipv4.specs.PacketText.{PacketParts}
use Rattle.nb_ipv4.specs.UdpText.{UdpParts}
use Rattle.nb_ipv4.specs.EchoText.{EchoParts}
use Rattle.nb_nodes.specs.declared.obj.Obj.{Obj}
use Rattle.nb_chains.specs.declared.arrival.Arrival.{Arrival}
use Rattle.nb_wire.specs.declared.address.Ip4.{Ip4}
use Rattle.nb_tcpseg.specs.SegmentText.{SegmentParts}
use Rattle.nb_machine.specs.Kinds.{is_for, is_ping, is_reply_for, takes_from, is_connection, has_port, is_segment_for}
use Rattle.nb_machine.specs.Lives.{OpenKind, tftp, http, iscsi, dns, dhcp, ping, Live}
use Rattle.nb_machine.specs.States.{net0}
use Rattle.nb_teller.specs.Speakers.{carrier_number}
use Rattle.nb_open.specs.declared.objects.OpenObjects.{OpenObjects}
use Rattle.nb_open.specs.declared.objects.OpenObjects.TheVariants.{Chain, Drive, Web}
use Rattle.nb_network.specs.declared.living.Living.{Living}
use Rattle.nb_open.specs.Exchanges.{SuitsBy}
use Rattle.nb_open.specs.Open.{AreOfKind, carrier_for, kind_for}
use Rattle.nb_network.specs.Many.{AreOpensOf, IsLivingOf}
use Rattle.nb_network.specs.Receiving.{port_by_carrier}
use Rattle.nb_network.specs.Steps.{counts_by, counts_by_kind}
use Rattle.nb_network.proofs.Ports.{IsElsewhere, and_false, and_true, either_test}

middle_false : (a b c : Bool) → b ≡ false → ((a && b) && c) ≡ false
middle_false a b c e = ap (λ z. (a && z) && c) e ∙ ap (λ z. z && c) (and_false a)

not_own : (own port : ℕ) → (own ≡ port → ⊥) → (own == port) ≡ false
not_own own port h = either_test (own == port) (λ e. absurd (h (eqb-true own port e))) (λ e. e)

-- none of these opens of the machine is such, where none of ours is
none_of : (g : Objects Obj) (f : Live → Bool) (P : Living → Type 0) → ((o : Living) (l : Live) → IsLivingOf g o l → P o → f l ≡ false) → (os : List Living) (ls : List Live) → AreOpensOf g os ls → AllByRecursion P os → list_any f ls ≡ false
none_of g f P each [] [] i h = refl
none_of g f P each [] (l ∷ ls) i h = absurd i
none_of g f P each (o ∷ os) [] i h = absurd i
none_of g f P each (o ∷ os) (l ∷ ls) i h = ap (λ b. b || list_any f ls) (each o l i.0 h.0) ∙ none_of g f P each os ls i.1 h.1

-- TCP carries what comes to a connection, and nothing else
pub tcp_of : (k : OpenKind) → is_connection k ≡ true → carrier_number (carrier_for k) ≡ 6
tcp_of tftp c = absurd (false≢true c)
tcp_of (http isn) c = refl
tcp_of (iscsi isn i) c = refl
tcp_of (dns id) c = absurd (false≢true c)
tcp_of (dhcp a) c = absurd (false≢true c)
tcp_of ping c = absurd (false≢true c)

pub by_tcp : (k : OpenKind) → carrier_number (carrier_for k) ≡ 6 → is_connection k ≡ true
by_tcp tftp c = absurd (omega (arith, c))
by_tcp (http isn) c = refl
by_tcp (iscsi isn i) c = refl
by_tcp (dns id) c = absurd (omega (arith, c))
by_tcp (dhcp a) c = absurd (omega (arith, c))
by_tcp ping c = absurd (omega (arith, c))

pub not_by_tcp : (k : OpenKind) → (carrier_number (carrier_for k) ≡ 6 → ⊥) → is_connection k ≡ false
not_by_tcp k n = either_test (is_connection k) (λ c. absurd (n (tcp_of k c))) (λ c. c)

-- A DATAGRAM

not_for_kind : (k : OpenKind) (p : PacketParts) (d : UdpParts) (l : Live) → (carrier_number (carrier_for k) ≡ 17 → l.own ≡ d.dst_port → ⊥) →
    (((l.device == net0) && (l.own == d.dst_port)) && takes_from k l p d) ≡ false
not_for_kind tftp p d l h = middle_false (l.device == net0) (l.own == d.dst_port) (takes_from tftp l p d) (not_own l.own d.dst_port (h refl))
not_for_kind (http isn) p d l h = and_false ((l.device == net0) && (l.own == d.dst_port))
not_for_kind (iscsi isn i) p d l h = and_false ((l.device == net0) && (l.own == d.dst_port))
not_for_kind (dns id) p d l h = middle_false (l.device == net0) (l.own == d.dst_port) (takes_from (dns id) l p d) (not_own l.own d.dst_port (h refl))
not_for_kind (dhcp a) p d l h = middle_false (l.device == net0) (l.own == d.dst_port) (takes_from (dhcp a) l p d) (not_own l.own d.dst_port (h refl))
not_for_kind ping p d l h = and_false ((l.device == net0) && (l.own == d.dst_port))

not_for : (g : Objects Obj) (p : PacketParts) (d : UdpParts) (o : Living) (l : Live) → IsLivingOf g o l → IsElsewhere 17 d.dst_port o → is_for net0 p d l ≡ false
not_for g p d o l i h = not_for_kind l.kind p d l (λ e f. h (ap carrier_number i.called.carrier ∙ e) (sym i.called.own ∙ f))

pub none_for : (g : Objects Obj) (p : PacketParts) (d : UdpParts) (os : List Living) (ls : List Live) → AreOpensOf g os ls → AllByRecursion (IsElsewhere 17 d.dst_port) os → list_any (is_for net0 p d) ls ≡ false
none_for g p d os ls i h = none_of g (is_for net0 p d) (IsElsewhere 17 d.dst_port) (not_for g p d) os ls i h

takes_as_kind : (k : OpenKind) (l : Live) (server : ℕ) (p : PacketParts) (d : UdpParts) → l.server ≡ server → is_connection k ≡ false → carrier_number (carrier_for k) ≡ 17 → takes_from k l p d ≡ counts_by_kind (kind_for k) (p.src.0 == server) d.src_port
takes_as_kind tftp l server p d e n c = ap (λ z. p.src.0 == z) e
takes_as_kind (http isn) l server p d e n c = absurd (false≢true (sym n))
takes_as_kind (iscsi isn i) l server p d e n c = absurd (false≢true (sym n))
takes_as_kind (dns id) l server p d e n c = ap (λ z. (p.src.0 == z) && (d.src_port == 53)) e
takes_as_kind (dhcp a) l server p d e n c = refl
takes_as_kind ping l server p d e n c = absurd (omega (arith, c))

takes_as_counts : (os : OpenObjects) (l : Live) (server : Ip4) (p : PacketParts) (d : UdpParts) → AreOfKind os l → l.server ≡ server.0 → carrier_number (carrier_for l.kind) ≡ 17 → takes_from l.kind l p d ≡ counts_by os server p.src d.src_port
takes_as_counts (Chain kind chain) l server p d i e c = takes_as_kind l.kind l server.0 p d e i.0 c ∙ ap (λ k. counts_by_kind k (p.src.0 == server.0) d.src_port) (sym i.1)
takes_as_counts (Web port own chain) l server p d i e c = absurd (let t = tcp_of l.kind i.0 in omega (arith, c, t))
takes_as_counts (Drive port own chain) l server p d i e c = absurd (let t = tcp_of l.kind i.0 in omega (arith, c, t))

pub for_as_counts : (g : Objects Obj) (p : PacketParts) (d : UdpParts) (o : Living) (l : Live) → IsLivingOf g o l → carrier_number o.speaker.carrier ≡ 17 → o.speaker.own_port ≡ d.dst_port → is_for net0 p d l ≡ counts_by o.objects o.speaker.server p.src d.src_port
for_as_counts g p d o l i c own =
    ap (λ b. (b && (l.own == d.dst_port)) && takes_from l.kind l p d) (eq-eqb l.device net0 i.called.device)
    ∙ ap (λ b. b && takes_from l.kind l p d) (eq-eqb l.own d.dst_port (i.called.own ∙ own))
    ∙ takes_as_counts o.objects l o.speaker.server p d i.called.kind i.called.server (sym (ap carrier_number i.called.carrier) ∙ c)

-- AN ECHO REPLY

not_reply_kind : (k : OpenKind) (p : PacketParts) (e : EchoParts) (l : Live) → (carrier_number (carrier_for k) ≡ 1 → l.own ≡ e.ident → ⊥) →
    (((is_ping k && (l.device == net0)) && (l.own == e.ident)) && (p.src.0 == l.server)) ≡ false
not_reply_kind tftp p e l h = refl
not_reply_kind (http isn) p e l h = refl
not_reply_kind (iscsi isn i) p e l h = refl
not_reply_kind (dns id) p e l h = refl
not_reply_kind (dhcp a) p e l h = refl
not_reply_kind ping p e l h = middle_false (l.device == net0) (l.own == e.ident) (p.src.0 == l.server) (not_own l.own e.ident (h refl))

not_reply : (g : Objects Obj) (p : PacketParts) (e : EchoParts) (o : Living) (l : Live) → IsLivingOf g o l → IsElsewhere 1 e.ident o → is_reply_for net0 p e l ≡ false
not_reply g p e o l i h = not_reply_kind l.kind p e l (λ c f. h (ap carrier_number i.called.carrier ∙ c) (sym i.called.own ∙ f))

pub none_reply : (g : Objects Obj) (p : PacketParts) (e : EchoParts) (os : List Living) (ls : List Live) → AreOpensOf g os ls → AllByRecursion (IsElsewhere 1 e.ident) os → list_any (is_reply_for net0 p e) ls ≡ false
none_reply g p e os ls i h = none_of g (is_reply_for net0 p e) (IsElsewhere 1 e.ident) (not_reply g p e) os ls i h

reply_as_kind : (k : OpenKind) (l : Live) (server source port : ℕ) → l.server ≡ server → carrier_number (carrier_for k) ≡ 1 → ((is_ping k && true) && true) && (source == l.server) ≡ counts_by_kind (kind_for k) (source == server) port
reply_as_kind tftp l server source port e c = absurd (omega (arith, c))
reply_as_kind (http isn) l server source port e c = absurd (omega (arith, c))
reply_as_kind (iscsi isn i) l server source port e c = absurd (omega (arith, c))
reply_as_kind (dns id) l server source port e c = absurd (omega (arith, c))
reply_as_kind (dhcp a) l server source port e c = absurd (omega (arith, c))
reply_as_kind ping l server source port e c = ap (λ z. source == z) e

reply_as_objects : (os : OpenObjects) (l : Live) (server source : Ip4) (port : ℕ) → AreOfKind os l → l.server ≡ server.0 → carrier_number (carrier_for l.kind) ≡ 1 → ((is_ping l.kind && true) && true) && (source.0 == l.server) ≡ counts_by os server source port
reply_as_objects (Chain kind chain) l server source port i e c = reply_as_kind l.kind l server.0 source.0 port e c ∙ ap (λ k. counts_by_kind k (source.0 == server.0) port) (sym i.1)
reply_as_objects (Web asked own chain) l server source port i e c = absurd (let t = tcp_of l.kind i.0 in omega (arith, c, t))
reply_as_objects (Drive asked own chain) l server source port i e c = absurd (let t = tcp_of l.kind i.0 in omega (arith, c, t))

pub reply_as_counts : (g : Objects Obj) (p : PacketParts) (e : EchoParts) (port : ℕ) (o : Living) (l : Live) → IsLivingOf g o l → carrier_number o.speaker.carrier ≡ 1 → o.speaker.own_port ≡ e.ident → is_reply_for net0 p e l ≡ counts_by o.objects o.speaker.server p.src port
reply_as_counts g p e port o l i c own =
    ap (λ b. ((is_ping l.kind && b) && (l.own == e.ident)) && (p.src.0 == l.server)) (eq-eqb l.device net0 i.called.device)
    ∙ ap (λ b. ((is_ping l.kind && true) && b) && (p.src.0 == l.server)) (eq-eqb l.own e.ident (i.called.own ∙ own))
    ∙ reply_as_objects o.objects l o.speaker.server p.src port i.called.kind i.called.server (sym (ap carrier_number i.called.carrier) ∙ c)

-- A SEGMENT

not_at_port : (g : Objects Obj) (port : ℕ) (o : Living) (l : Live) → IsLivingOf g o l → IsElsewhere 6 port o → has_port net0 port l ≡ false
not_at_port g port o l i h =
    either_test (is_connection l.kind)
    (λ c. ap (λ b. (is_connection l.kind && (l.device == net0)) && b) (not_own l.own port (λ e. h (ap carrier_number i.called.carrier ∙ tcp_of l.kind c) (sym i.called.own ∙ e))) ∙ and_false (is_connection l.kind && (l.device == net0)))
    (λ c. ap (λ b. (b && (l.device == net0)) && (l.own == port)) c)

pub none_at_port : (g : Objects Obj) (port : ℕ) (os : List Living) (ls : List Live) → AreOpensOf g os ls → AllByRecursion (IsElsewhere 6 port) os → list_any (has_port net0 port) ls ≡ false
none_at_port g port os ls i h = none_of g (has_port net0 port) (IsElsewhere 6 port) (not_at_port g port) os ls i h

not_segment : (g : Objects Obj) (p : PacketParts) (x : SegmentParts) (o : Living) (l : Live) → IsLivingOf g o l → IsElsewhere 6 x.dst_port o → is_segment_for net0 p x l ≡ false
not_segment g p x o l i h = ap (λ b. (b && (p.src.0 == l.server)) && (x.src_port == l.port)) (not_at_port g x.dst_port o l i h)

pub none_segment : (g : Objects Obj) (p : PacketParts) (x : SegmentParts) (os : List Living) (ls : List Live) → AreOpensOf g os ls → AllByRecursion (IsElsewhere 6 x.dst_port) os → list_any (is_segment_for net0 p x) ls ≡ false
none_segment g p x os ls i h = none_of g (is_segment_for net0 p x) (IsElsewhere 6 x.dst_port) (not_segment g p x) os ls i h

pub at_port_of : (g : Objects Obj) (port : ℕ) (o : Living) (l : Live) → IsLivingOf g o l → carrier_number o.speaker.carrier ≡ 6 → o.speaker.own_port ≡ port → has_port net0 port l ≡ true
at_port_of g port o l i c own =
    ap (λ b. (b && (l.device == net0)) && (l.own == port)) (by_tcp l.kind (sym (ap carrier_number i.called.carrier) ∙ c))
    ∙ ap (λ b. b && (l.own == port)) (eq-eqb l.device net0 i.called.device)
    ∙ eq-eqb l.own port (i.called.own ∙ own)

segment_as_objects : (os : OpenObjects) (l : Live) (server source : Ip4) (port : ℕ) → AreOfKind os l → l.server ≡ server.0 → is_connection l.kind ≡ true → (source.0 == l.server) && (port == l.port) ≡ counts_by os server source port
segment_as_objects (Chain kind chain) l server source port i e c = absurd (false≢true (sym i.0 ∙ c))
segment_as_objects (Web asked own chain) l server source port i e c = ap (λ z. (source.0 == z) && (port == l.port)) e ∙ ap (λ z. (source.0 == server.0) && (port == z)) (sym i.1)
segment_as_objects (Drive asked own chain) l server source port i e c = ap (λ z. (source.0 == z) && (port == l.port)) e ∙ ap (λ z. (source.0 == server.0) && (port == z)) (sym i.1)

pub segment_as_counts : (g : Objects Obj) (p : PacketParts) (x : SegmentParts) (o : Living) (l : Live) → IsLivingOf g o l → carrier_number o.speaker.carrier ≡ 6 → o.speaker.own_port ≡ x.dst_port → is_segment_for net0 p x l ≡ counts_by o.objects o.speaker.server p.src x.src_port
segment_as_counts g p x o l i c own =
    ap (λ b. (b && (p.src.0 == l.server)) && (x.src_port == l.port)) (at_port_of g x.dst_port o l i c own)
    ∙ segment_as_objects o.objects l o.speaker.server p.src x.src_port i.called.kind i.called.server (by_tcp l.kind (sym (ap carrier_number i.called.carrier) ∙ c))

-- IT SUITS

suits_kind : (k : OpenKind) (l : Live) (server : ℕ) (a : Arrival) (port : ℕ) → l.server ≡ server → is_connection k ≡ false → counts_by_kind (kind_for k) (a.source.0 == server) port ≡ true → a.port ≡ port_by_carrier (carrier_for k) l.own port → SuitsBy k l a
suits_kind tftp l server a port e n t f = eqb-true a.source.0 server t ∙ sym e
suits_kind (http isn) l server a port e n t f = absurd (false≢true (sym n))
suits_kind (iscsi isn i) l server a port e n t f = absurd (false≢true (sym n))
suits_kind (dns id) l server a port e n t f =
    let b = and_true (a.source.0 == server) (port == 53) t in (eqb-true a.source.0 server b.0 ∙ sym e, f ∙ eqb-true port 53 b.1)
suits_kind (dhcp x) l server a port e n t f = f ∙ eqb-true port 67 t
suits_kind ping l server a port e n t f = (eqb-true a.source.0 server t ∙ sym e, f)

suits_connection : (k : OpenKind) (l : Live) (server : ℕ) (a : Arrival) (port asked : ℕ) → l.server ≡ server → is_connection k ≡ true → asked ≡ l.port → ((a.source.0 == server) && (port == asked)) ≡ true → a.port ≡ port_by_carrier (carrier_for k) l.own port → SuitsBy k l a
suits_connection tftp l server a port asked e c p t f = absurd (false≢true c)
suits_connection (http isn) l server a port asked e c p t f =
    let b = and_true (a.source.0 == server) (port == asked) t in (eqb-true a.source.0 server b.0 ∙ sym e, f ∙ eqb-true port asked b.1 ∙ p)
suits_connection (iscsi isn i) l server a port asked e c p t f =
    let b = and_true (a.source.0 == server) (port == asked) t in (eqb-true a.source.0 server b.0 ∙ sym e, f ∙ eqb-true port asked b.1 ∙ p)
suits_connection (dns id) l server a port asked e c p t f = absurd (false≢true c)
suits_connection (dhcp x) l server a port asked e c p t f = absurd (false≢true c)
suits_connection ping l server a port asked e c p t f = absurd (false≢true c)

suits_objects : (os : OpenObjects) (l : Live) (server : Ip4) (a : Arrival) (port : ℕ) → AreOfKind os l → l.server ≡ server.0 → counts_by os server a.source port ≡ true → a.port ≡ port_by_carrier (carrier_for l.kind) l.own port → SuitsBy l.kind l a
suits_objects (Chain kind chain) l server a port i e t f = suits_kind l.kind l server.0 a port e i.0 (ap (λ k. counts_by_kind k (a.source.0 == server.0) port) (sym i.1) ∙ t) f
suits_objects (Web asked own chain) l server a port i e t f = suits_connection l.kind l server.0 a port asked e i.0 i.1 t f
suits_objects (Drive asked own chain) l server a port i e t f = suits_connection l.kind l server.0 a port asked e i.0 i.1 t f

pub suits : (g : Objects Obj) (o : Living) (l : Live) (a : Arrival) (port : ℕ) → IsLivingOf g o l → counts_by o.objects o.speaker.server a.source port ≡ true → a.port ≡ port_by_carrier o.speaker.carrier o.speaker.own_port port → SuitsBy l.kind l a
suits g o l a port i t f =
    suits_objects o.objects l o.speaker.server a port i.called.kind i.called.server t
    (f ∙ ap (λ c. port_by_carrier c o.speaker.own_port port) i.called.carrier ∙ ap (λ own. port_by_carrier (carrier_for l.kind) own port) (sym i.called.own))
