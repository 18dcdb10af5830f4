-- What a frame brings the opens that live, by the history as by the machine.
use Rattle.std.proofs.Common.{◌≡◌, ℕ, ◌==◌, ◌&&◌, Bool, true, false, cond, ◌||◌, List, [], ◌∷◌, refl, sym, ◌∙◌, ap, subst, append-nil, eq-eqb}
use Rattle.std.specs.List.{flat_map, list_any, AllByRecursion}
use Rattle.std.proofs.lemmas.Bool.{eqb-true}
use Rattle.nb_ipv4.specs.PacketText.{PacketParts}
use Rattle.nb_ipv4.specs.UdpText.{UdpParts}
use Rattle.nb_ipv4.specs.EchoText.{EchoParts}
use Rattle.nb_tcpseg.specs.SegmentText.{SegmentParts}
use Rattle.nb_wire.specs.declared.address.Mac.{Mac}
use Rattle.nb_talks.specs.Talking.{by_segment}
use Rattle.nb_machine.specs.Connections.{arrived_segment}
use Rattle.nb_laws.specs.Webs.{takes_segment, segment_in, came_at, comes_to_port}
use Rattle.nb_stack.specs.Brings.{Brought, nothing, arp_message, datagram, echo_request, echo_reply, segment}
use Rattle.nb_tftp.proofs.BlockLemmas.{either_way}
use Rattle.nb_tftp.specs.Received.{received}
use Rattle.nb_tftp.specs.History.{came}
use Rattle.nb_machine.specs.Lives.{OpenKind, tftp, http, iscsi, dns, dhcp, ping, kind_number, message, tcp_segment, Live}
use Rattle.nb_machine.specs.Kinds.{takes_from, is_for, is_ping, is_reply_for, is_connection, has_port, is_segment_for}
use Rattle.nb_machine.specs.States.{State, net0}
use Rattle.nb_machine.specs.Network.{is_for_one}
use Rattle.nb_laws.specs.Events.{Event, hears}
use Rattle.nb_laws.specs.Lists.{time, Opening, counts_from, takes_reply, came_in, call_at}
use Rattle.nb_openlaws.specs.Standings.{heard_call, live_opening, ComesToOwnPort, AgreesLive, AreLive, lives_among, AgreesState}
use Rattle.nb_openlaws.proofs.Takings.{or_first, or_second}
use Rattle.nb_openlaws.proofs.UsedEvents.{IsUsed, BringsNone, live_one, no_call}

-- WHAT A FRAME BRINGS

counts_as : (kind : OpenKind) (l : Live) (p : PacketParts) (d : UdpParts) →
    counts_from (record { kind = kind_number kind; server = l.server; port = l.port; own = l.own; target = l.target; since = l.since }) p.src.0 d.src_port ≡ takes_from kind l p d
counts_as tftp l p d = refl
counts_as (http isn) l p d = refl
counts_as (iscsi isn i) l p d = refl
counts_as (dns id) l p d = refl
counts_as (dhcp a) l p d = refl
counts_as ping l p d = refl

pub for_as_told : (l : Live) (p : PacketParts) (d : UdpParts) → l.device ≡ net0 → ((l.own == d.dst_port) && counts_from (live_opening l) p.src.0 d.src_port) ≡ is_for net0 p d l
for_as_told l p d at = ap (λ b. (l.own == d.dst_port) && b) (counts_as l.kind l p d) ∙ sym (ap (λ b. (b && (l.own == d.dst_port)) && takes_from l.kind l p d) (eq-eqb l.device net0 at))

replies_as : (kind : OpenKind) (l : Live) (p : PacketParts) (e : EchoParts) →
    takes_reply (record { kind = kind_number kind; server = l.server; port = l.port; own = l.own; target = l.target; since = l.since }) p.src.0 e.ident ≡ (is_ping kind && ((l.own == e.ident) && (p.src.0 == l.server)))
replies_as tftp l p e = refl
replies_as (http isn) l p e = refl
replies_as (iscsi isn i) l p e = refl
replies_as (dns id) l p e = refl
replies_as (dhcp a) l p e = refl
replies_as ping l p e = refl

pub reply_as_told : (l : Live) (p : PacketParts) (e : EchoParts) → l.device ≡ net0 → takes_reply (live_opening l) p.src.0 e.ident ≡ is_reply_for net0 p e l
reply_as_told l p e at = replies_as l.kind l p e ∙ by (is_ping l.kind) (l.device == net0) (eq-eqb l.device net0 at)
  where
    by : (a b : Bool) → b ≡ true → (a && ((l.own == e.ident) && (p.src.0 == l.server))) ≡ (((a && b) && (l.own == e.ident)) && (p.src.0 == l.server))
    by true true is = refl
    by true false is = absurd (cc)
    by false b is = refl

-- what a frame brings an open that lives
pub heard_by : (es : List Event) (n : ℕ) (bytes : List ℕ) (m : Brought) (l : Live) → AgreesLive es l → call_at l.number es (hears n bytes m) ≡ came_in n (time es) m (live_opening l)
heard_by es n bytes m l h = ap (λ os. flat_map (came_in n (time es) m) os) (live_one l.number es (live_opening l) h.opening h.lives) ∙ append-nil (came_in n (time es) m (live_opening l))

-- and its connection
pub streamed_by : (es : List Event) (n : ℕ) (bytes : List ℕ) (m : Brought) (l : Live) → AgreesLive es l → came_at l.number es (hears n bytes m) ≡ segment_in n (time es) m (live_opening l)
streamed_by es n bytes m l h = ap (λ os. flat_map (segment_in n (time es) m) os) (live_one l.number es (live_opening l) h.opening h.lives) ∙ append-nil (segment_in n (time es) m (live_opening l))

-- a segment is for an open as the machine has it
connects_as : (kind : OpenKind) → ((kind_number kind == 2) || (kind_number kind == 3)) ≡ is_connection kind
connects_as tftp = refl
connects_as (http isn) = refl
connects_as (iscsi isn i) = refl
connects_as (dns id) = refl
connects_as (dhcp a) = refl
connects_as ping = refl

pub segment_as_told : (l : Live) (p : PacketParts) (g : SegmentParts) → l.device ≡ net0 → takes_segment (live_opening l) p.src.0 g.src_port g.dst_port ≡ is_segment_for net0 p g l
segment_as_told l p g at =
    ap (λ b. b && ((l.own == g.dst_port) && ((p.src.0 == l.server) && (g.src_port == l.port)))) (connects_as l.kind) ∙ by (is_connection l.kind) (l.device == net0) (l.own == g.dst_port) (p.src.0 == l.server) (g.src_port == l.port) (eq-eqb l.device net0 at)
  where
    by : (a b c d e : Bool) → b ≡ true → (a && (c && (d && e))) ≡ ((((a && b) && c) && d) && e)
    by true true true d e is = refl
    by true true false d e is = refl
    by true false c d e is = absurd (cc)
    by false b c d e is = refl

pub port_as_told : (l : Live) (from : Mac) (p : PacketParts) (g : SegmentParts) → l.device ≡ net0 → comes_to_port (segment from p g) (live_opening l) ≡ has_port net0 g.dst_port l
port_as_told l from p g at = ap (λ b. b && (l.own == g.dst_port)) (connects_as l.kind) ∙ by (is_connection l.kind) (l.device == net0) (l.own == g.dst_port) (eq-eqb l.device net0 at)
  where
    by : (a b c : Bool) → b ≡ true → (a && c) ≡ ((a && b) && c)
    by true true c is = refl
    by true false c is = absurd (cc)
    by false b c is = refl

pub own_of_segment : (kind : OpenKind) (own rec now : ℕ) (g : SegmentParts) → ComesToOwnPort kind own (tcp_segment rec g now)
own_of_segment tftp own rec now g = tt
own_of_segment (http isn) own rec now g = tt
own_of_segment (iscsi isn i) own rec now g = tt
own_of_segment (dns id) own rec now g = tt
own_of_segment (dhcp a) own rec now g = tt
own_of_segment ping own rec now g = tt

-- a datagram that is for an open is told as it is
pub one_heard : (kind : OpenKind) (l : Live) (p : PacketParts) (d : UdpParts) (n now : ℕ) → takes_from kind l p d ≡ true → (came (received n d.src_port d.body) now ∷ []) ≡ heard_call kind (message n d.src_port d.body now)
one_heard tftp l p d n now takes = refl
one_heard (http isn) l p d n now takes = absurd (cc)
one_heard (iscsi isn i) l p d n now takes = absurd (cc)
one_heard (dns id) l p d n now takes = refl
one_heard (dhcp a) l p d n now takes = refl
one_heard ping l p d n now takes = absurd (cc)

pub own_of_datagram : (kind : OpenKind) (l : Live) (p : PacketParts) (d : UdpParts) (n now : ℕ) → takes_from kind l p d ≡ true → ComesToOwnPort kind l.own (message n d.src_port d.body now)
own_of_datagram tftp l p d n now takes = tt
own_of_datagram (http isn) l p d n now takes = tt
own_of_datagram (iscsi isn i) l p d n now takes = tt
own_of_datagram (dns id) l p d n now takes = tt
own_of_datagram (dhcp a) l p d n now takes = tt
own_of_datagram ping l p d n now takes = absurd (cc)

-- so is an echo reply, which comes from no port
pub one_echoed : (kind : OpenKind) (rec port now : ℕ) (body : List ℕ) → is_ping kind ≡ true → (came (received rec 0 body) now ∷ []) ≡ heard_call kind (message rec port body now)
one_echoed tftp rec port now body is = absurd (cc)
one_echoed (http isn) rec port now body is = absurd (cc)
one_echoed (iscsi isn i) rec port now body is = absurd (cc)
one_echoed (dns id) rec port now body is = absurd (cc)
one_echoed (dhcp a) rec port now body is = absurd (cc)
one_echoed ping rec port now body is = refl

pub own_of_reply : (kind : OpenKind) (own rec port now : ℕ) (body : List ℕ) → own ≡ port → ComesToOwnPort kind own (message rec port body now)
own_of_reply tftp own rec port now body is = tt
own_of_reply (http isn) own rec port now body is = tt
own_of_reply (iscsi isn i) own rec port now body is = tt
own_of_reply (dns id) own rec port now body is = tt
own_of_reply (dhcp a) own rec port now body is = tt
own_of_reply ping own rec port now body is = sym is

pub both_true : (a b : Bool) → (a && b) ≡ true → (a ≡ true) × (b ≡ true)
both_true true true h = (refl, refl)
both_true true false h = absurd (cc)
both_true false b h = absurd (cc)

pub none_datagram : (es : List Event) (n : ℕ) (bytes : List ℕ) (p : PacketParts) (d : UdpParts) (ls : List Live) → AreLive es ls → list_any (is_for net0 p d) ls ≡ false → AllByRecursion (λ l. BringsNone l.number es (hears n bytes (datagram p d))) ls
none_datagram es n bytes p d [] h none = tt
none_datagram es n bytes p d (l ∷ ls) h none = (
  (
    heard_by es n bytes (datagram p d) l h.0
        ∙ ap (λ b. cond b (came (received n d.src_port d.body) (time es) ∷ []) []) (for_as_told l p d h.0.on_net0 ∙ or_first (is_for net0 p d l) (list_any (is_for net0 p d) ls) none),
    streamed_by es n bytes (datagram p d) l h.0,
  ),
  none_datagram es n bytes p d ls h.1 (or_second (is_for net0 p d l) (list_any (is_for net0 p d) ls) none),
)

pub none_reply : (es : List Event) (n : ℕ) (bytes : List ℕ) (p : PacketParts) (e : EchoParts) (ls : List Live) → AreLive es ls → list_any (is_reply_for net0 p e) ls ≡ false → AllByRecursion (λ l. BringsNone l.number es (hears n bytes (echo_reply p e))) ls
none_reply es n bytes p e [] h none = tt
none_reply es n bytes p e (l ∷ ls) h none = (
  (
    heard_by es n bytes (echo_reply p e) l h.0
        ∙ ap (λ b. cond b (came (received n 0 e.body) (time es) ∷ []) []) (reply_as_told l p e h.0.on_net0 ∙ or_first (is_reply_for net0 p e l) (list_any (is_reply_for net0 p e) ls) none),
    streamed_by es n bytes (echo_reply p e) l h.0,
  ),
  none_reply es n bytes p e ls h.1 (or_second (is_reply_for net0 p e l) (list_any (is_reply_for net0 p e) ls) none),
)

pub none_segment : (es : List Event) (n : ℕ) (bytes : List ℕ) (from : Mac) (p : PacketParts) (g : SegmentParts) (ls : List Live) → AreLive es ls → list_any (is_segment_for net0 p g) ls ≡ false → AllByRecursion (λ l. BringsNone l.number es (hears n bytes (segment from p g))) ls
none_segment es n bytes from p g [] h none = tt
none_segment es n bytes from p g (l ∷ ls) h none = (
  (
    heard_by es n bytes (segment from p g) l h.0,
    streamed_by es n bytes (segment from p g) l h.0
        ∙ ap (λ b. cond b (by_segment (arrived_segment n g) (time es) ∷ []) []) (segment_as_told l p g h.0.on_net0 ∙ or_first (is_segment_for net0 p g l) (list_any (is_segment_for net0 p g) ls) none),
  ),
  none_segment es n bytes from p g ls h.1 (or_second (is_segment_for net0 p g l) (list_any (is_segment_for net0 p g) ls) none),
)

none_other : (es : List Event) (n : ℕ) (bytes : List ℕ) (m : Brought) (ls : List Live) → ((o : Opening) → came_in n (time es) m o ≡ []) → ((o : Opening) → segment_in n (time es) m o ≡ []) → AreLive es ls → AllByRecursion (λ l. BringsNone l.number es (hears n bytes m)) ls
none_other es n bytes m [] none unstreamed h = tt
none_other es n bytes m (l ∷ ls) none unstreamed h =
    ((heard_by es n bytes m l h.0 ∙ none (live_opening l), streamed_by es n bytes m l h.0 ∙ unstreamed (live_opening l)), none_other es n bytes m ls none unstreamed h.1)

pub none_for : (es : List Event) (n : ℕ) (bytes : List ℕ) (m : Brought) (ls : List Live) → AreLive es ls → is_for_one net0 m ls ≡ false → AllByRecursion (λ l. BringsNone l.number es (hears n bytes m)) ls
none_for es n bytes nothing ls h none = none_other es n bytes nothing ls (λ o. refl) (λ o. refl) h
none_for es n bytes (arp_message from arp) ls h none = none_other es n bytes (arp_message from arp) ls (λ o. refl) (λ o. refl) h
none_for es n bytes (datagram p d) ls h none = none_datagram es n bytes p d ls h none
none_for es n bytes (echo_request from p e) ls h none = none_other es n bytes (echo_request from p e) ls (λ o. refl) (λ o. refl) h
none_for es n bytes (echo_reply p e) ls h none = none_reply es n bytes p e ls h none
none_for es n bytes (segment from p g) ls h none = none_segment es n bytes from p g ls h none

-- for each number: an open of it lives, or none
pub found : (P : ℕ → Type 0) (j : ℕ) (ls : List Live) → AllByRecursion (λ l. P l.number) ls → lives_among j ls ≡ true → P j
found P j [] h some = absurd (cc)
found P j (l ∷ ls) h some = either_way (l.number == j) (λ here. subst P (eqb-true l.number j here) h.0) (λ other. found P j ls h.1 (or_here (l.number == j) (lives_among j ls) some other))
  where
    or_here : (a b : Bool) → (a || b) ≡ true → a ≡ false → b ≡ true
    or_here true b e f = absurd (cc)
    or_here false b e f = e

pub none_at : (es : List Event) (e : Event) (s : State) → IsUsed e → AgreesState es s → AllByRecursion (λ l. BringsNone l.number es e) s.live → (j : ℕ) → BringsNone j es e
none_at es e s u a none j =
    either_way (lives_among j s.live) (λ some. found (λ z. BringsNone z es e) j s.live none some) (λ away. no_call j es e u (a.others j away))
