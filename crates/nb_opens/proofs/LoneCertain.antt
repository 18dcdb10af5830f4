-- What the cores of a Resolver, a Dhcp and a Ping promise leaves one answer to a call with given effects.
use Rattle.std.proofs.Common.{inl, inr, ◌≡◌, ℕ, ◌++◌, List, [], ◌∷◌, Option, refl, ap, sym, ◌∙◌, subst, append_assoc}
use Rattle.std.proofs.lemmas.List.{append-nil}
use Rattle.nb_terms.specs.declared.acts.Acts.{Acts}
use Rattle.nb_terms.specs.declared.acts.SendTo.{SendTo}
use Rattle.nb_terms.specs.declared.cause.Cause.{Cause}
use Rattle.nb_retry.specs.declared.retry.Due.{Due}
use Rattle.nb_retry.specs.declared.retry.Due.TheVariants.{Not, Again, Over}
use Rattle.nb_graph.specs.Trace.{Said}
use Rattle.nb_dns.specs.Lookups.{Lookup, query_to, asks_lookup_nothing, asks_lookup_try, asks_lookup_end, asks_by, lookup_timed_out}
use Rattle.nb_dns.specs.LookupCalls.{arrived, clocked, DnsDatagram, LookupEntry, lookup_entry, datagrams, said_by, EachLookupEntry}
use Rattle.nb_dns.specs.LookupPromises.{AsksAt, AsksInTurn}
use Rattle.nb_dhcp.specs.declared.asker.Asker.{Asker}
use Rattle.nb_dhcp.specs.declared.offer.Offer.{Offer}
use Rattle.nb_dhcp.specs.Messages.{message_text}
use Rattle.nb_dhcp.specs.Acting.{to_servers, timer_acts, lease_timed_out}
use Rattle.nb_dhcp.specs.History.{replied, elapsed, LeaseEntry, lease_entry, all_handed, taken_offer, timer_said, AtEach}
use Rattle.nb_dhcp.specs.Promises.{ActsSo}
use Rattle.nb_ping.specs.Pings.{Pinged, echo_request, ping_asks, ping_timed_out}
use Rattle.nb_ping.specs.PingCalls.{echoed, waited, PingEntry, ping_entry, ping_said, EachPingEntry}
use Rattle.nb_ping.specs.PingPromises.{PingAsksInTurn}
use Rattle.nb_nodes.specs.Carried.{downs_of, end_closes}
use Rattle.nb_nodes.specs.LookupExchanges.{lookup_service, dns_datagram_in}
use Rattle.nb_nodes.specs.LeaseExchanges.{lease_service, handed_in}
use Rattle.nb_nodes.specs.EchoExchanges.{ping_service, reply_in}
use Rattle.nb_opens.proofs.LoneExchanges.{IsCertain}

-- a call asks for nothing, for one message as a try, or for the end
data IsPlain (send : SendTo) : Acts → Type 0 where
  silent : IsPlain send asks_lookup_nothing
  tries : (n : ℕ) → IsPlain send (asks_lookup_try send n)
  stops : (c : Cause) → IsPlain send (asks_lookup_end c)

abbrev first_number : List Said → ℕ
first_number [] = 0
first_number (m ∷ ms) = m.a

abbrev first_cause : Cause → List (ℕ × Cause) → Cause
first_cause c [] = c
first_cause c (x ∷ xs) = x.1

-- two such calls with the same effects are one
one_plain : (send : SendTo) (rec : ℕ) (x y : Acts) → IsPlain send x → IsPlain send y → downs_of rec x ≡ downs_of rec y → end_closes x.over ≡ end_closes y.over → x ≡ y
one_plain send rec _ _ silent silent d c = refl
one_plain send rec _ _ silent (tries n) d c = absurd (let z = d in cc)
one_plain send rec _ _ silent (stops e) d c = absurd (let z = c in cc)
one_plain send rec _ _ (tries n) silent d c = absurd (let z = d in cc)
one_plain send rec _ _ (tries n) (tries k) d c = ap (asks_lookup_try send) (ap first_number d)
one_plain send rec _ _ (tries n) (stops e) d c = absurd (let z = d in cc)
one_plain send rec _ _ (stops b) silent d c = absurd (let z = c in cc)
one_plain send rec _ _ (stops b) (tries n) d c = absurd (let z = d in cc)
one_plain send rec _ _ (stops b) (stops e) d c = ap asks_lookup_end (ap (first_cause b) c)

-- what is said of each call, of the last and of those before it
last_look : (P : List LookupEntry → LookupEntry → Type 0) (before calls : List LookupEntry) (e : LookupEntry) → EachLookupEntry P before (calls ++ e ∷ []) → EachLookupEntry P before calls × P (before ++ calls) e
last_look P before [] e h = (tt, subst (λ z. P z e) (sym (append-nil before)) h.0)
last_look P before (c ∷ calls) e h =
    let r = last_look P (before ++ c ∷ []) calls e h.1 in
    ((h.0, r.0), subst (λ z. P z e) (append_assoc before (c ∷ []) calls) r.1)

last_lease : (P : List LeaseEntry → LeaseEntry → Type 0) (before calls : List LeaseEntry) (e : LeaseEntry) → AtEach P before (calls ++ e ∷ []) → AtEach P before calls × P (before ++ calls) e
last_lease P before [] e h = (tt, subst (λ z. P z e) (sym (append-nil before)) h.0)
last_lease P before (c ∷ calls) e h =
    let r = last_lease P (before ++ c ∷ []) calls e h.1 in
    ((h.0, r.0), subst (λ z. P z e) (append_assoc before (c ∷ []) calls) r.1)

last_ping : (P : List PingEntry → PingEntry → Type 0) (before calls : List PingEntry) (e : PingEntry) → EachPingEntry P before (calls ++ e ∷ []) → EachPingEntry P before calls × P (before ++ calls) e
last_ping P before [] e h = (tt, subst (λ z. P z e) (sym (append-nil before)) h.0)
last_ping P before (c ∷ calls) e h =
    let r = last_ping P (before ++ c ∷ []) calls e h.1 in
    ((h.0, r.0), subst (λ z. P z e) (append_assoc before (c ∷ []) calls) r.1)

-- a look-up
abbrev pub LookAsks : Lookup → List LookupEntry → Type 0
LookAsks l calls = EachLookupEntry (AsksInTurn l) [] calls

plain_look : (l : Lookup) (d : Due) → IsPlain (query_to l) (asks_by l d)
plain_look l Not = silent
plain_look l (Again n) = tries n
plain_look l Over = stops lookup_timed_out

plain_arrived : (l : Lookup) (before : List DnsDatagram) (m : DnsDatagram) (now : ℕ) (x : Acts) → AsksAt l before (arrived m now) x → IsPlain (query_to l) x
plain_arrived l before m now x (inl takes) = subst (IsPlain (query_to l)) (sym takes.ends) (stops _)
plain_arrived l before m now x (inr ignores) = subst (IsPlain (query_to l)) (sym ignores.1) silent

pub certain_look : IsCertain lookup_service LookAsks
certain_look = record {
  before = λ l calls c h. (last_look (AsksInTurn l) [] calls c h).0;
  message = λ l calls m now x y h k d c.
      one_plain (query_to l) m.rec x y
      (plain_arrived l (datagrams calls) (dns_datagram_in m) now x (last_look (AsksInTurn l) [] calls (lookup_entry (arrived (dns_datagram_in m) now) x) h).1)
      (plain_arrived l (datagrams calls) (dns_datagram_in m) now y (last_look (AsksInTurn l) [] calls (lookup_entry (arrived (dns_datagram_in m) now) y) k).1) d c;
  at_time = λ l calls now x y h k d c.
      one_plain (query_to l) 0 x y
      (subst (IsPlain (query_to l)) (sym (last_look (AsksInTurn l) [] calls (lookup_entry (clocked now) x) h).1.0) (plain_look l (said_by x)))
      (subst (IsPlain (query_to l)) (sym (last_look (AsksInTurn l) [] calls (lookup_entry (clocked now) y) k).1.0) (plain_look l (said_by y))) d c;
}

-- a lease
abbrev pub LeaseAsks : Asker → List LeaseEntry → Type 0
LeaseAsks a calls = AtEach (ActsSo a) [] calls

plain_timer : (a : Asker) (o : Option Offer) (d : Due) → IsPlain (to_servers (message_text a o)) (timer_acts a o d)
plain_timer a o Not = silent
plain_timer a o (Again n) = tries n
plain_timer a o Over = stops lease_timed_out

pub certain_lease : IsCertain lease_service LeaseAsks
certain_lease = record {
  before = λ a calls c h. (last_lease (ActsSo a) [] calls c h).0;
  message = λ a calls m now x y h k d c.
      (last_lease (ActsSo a) [] calls (lease_entry (replied (handed_in m) now) x) h).1 ∙ sym (last_lease (ActsSo a) [] calls (lease_entry (replied (handed_in m) now) y) k).1;
  at_time = λ a calls now x y h k d c.
      let o : Option Offer = taken_offer a (all_handed calls) in
      one_plain (to_servers (message_text a o)) 0 x y
      (subst (IsPlain (to_servers (message_text a o))) (sym (last_lease (ActsSo a) [] calls (lease_entry (elapsed now) x) h).1) (plain_timer a o (timer_said x)))
      (subst (IsPlain (to_servers (message_text a o))) (sym (last_lease (ActsSo a) [] calls (lease_entry (elapsed now) y) k).1) (plain_timer a o (timer_said y))) d c;
}

-- a ping
abbrev pub PingAsks : Pinged → List PingEntry → Type 0
PingAsks p calls = EachPingEntry (PingAsksInTurn p) [] calls

plain_ping : (p : Pinged) (d : Due) → IsPlain (echo_request p) (ping_asks p d)
plain_ping p Not = silent
plain_ping p (Again n) = tries n
plain_ping p Over = stops ping_timed_out

pub certain_ping : IsCertain ping_service PingAsks
certain_ping = record {
  before = λ p calls c h. (last_ping (PingAsksInTurn p) [] calls c h).0;
  message = λ p calls m now x y h k d c.
      (last_ping (PingAsksInTurn p) [] calls (ping_entry (echoed (reply_in m) now) x) h).1 ∙ sym (last_ping (PingAsksInTurn p) [] calls (ping_entry (echoed (reply_in m) now) y) k).1;
  at_time = λ p calls now x y h k d c.
      one_plain (echo_request p) 0 x y
      (subst (IsPlain (echo_request p)) (sym (last_ping (PingAsksInTurn p) [] calls (ping_entry (waited now) x) h).1.0) (plain_ping p (ping_said x)))
      (subst (IsPlain (echo_request p)) (sym (last_ping (PingAsksInTurn p) [] calls (ping_entry (waited now) y) k).1.0) (plain_ping p (ping_said y))) d c;
}
