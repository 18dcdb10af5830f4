-- An open of each kind that has ended none of its exchanges has one answer to what comes next.
use Rattle.std.proofs.Common.{◌≡◌, ℕ, List, [], ◌∷◌, ◌++◌, refl, sym, ◌∙◌}
use Rattle.nb_defs.specs.Records.{Out}
use Rattle.nb_stack.specs.Client.{Client}
use Rattle.nb_dns.specs.Lookups.{Lookup, query_to, asks_by, lookup_timed_out}
use Rattle.nb_dns.specs.LookupCalls.{arrived, clocked, LookupEntry, lookup_entry, datagrams, said_by, EachLookupEntry}
use Rattle.nb_dns.specs.LookupPromises.{AsksInTurn}
use Rattle.nb_dns.proofs.CallsLemmas.{each-last}
use Rattle.nb_dhcp.specs.declared.asker.Asker.{Asker}
use Rattle.nb_dhcp.specs.History.{replied, elapsed, LeaseEntry, lease_entry, all_handed, taken_offer, timer_said, AtEach}
use Rattle.nb_dhcp.specs.Messages.{message_text}
use Rattle.nb_dhcp.specs.Acting.{to_servers, timer_acts, lease_timed_out}
use Rattle.nb_dhcp.specs.Promises.{ActsSo}
use Rattle.nb_dhcp.proofs.LeaseHistoryLemmas.{AtEach-at}
use Rattle.nb_ping.specs.Pings.{Pinged, echo_request, ping_asks, ping_timed_out}
use Rattle.nb_ping.specs.PingCalls.{echoed, waited, PingEntry, ping_entry, ping_said, EachPingEntry}
use Rattle.nb_ping.specs.PingPromises.{PingAsksInTurn}
use Rattle.nb_ping.proofs.PingCallsLemmas.{each-last as each_ping_last}
use Rattle.nb_nodes.specs.LookupExchanges.{lookup_service, dns_datagram_in}
use Rattle.nb_nodes.specs.LeaseExchanges.{lease_service, handed_in}
use Rattle.nb_nodes.specs.EchoExchanges.{ping_service, reply_in}
use Rattle.nb_machine.specs.Lives.{OpenKind, tftp, http, iscsi, dns, dhcp, ping, OpenInput, exchange, Live, continued}
use Rattle.nb_machine.specs.Cores.{look_up_of, ping_of}
use Rattle.nb_machine.specs.Kinds.{KeepsBy}
use Rattle.nb_machine.specs.Webs.{web_talking}
use Rattle.nb_machine.specs.Drives.{session_talking}
use Rattle.nb_onecourse.specs.Answers.{IsUnended, HasOneAnswer}
use Rattle.nb_onecourse.proofs.Dues.{IsTimerAnswer, time_shown}
use Rattle.nb_onecourse.proofs.CoreAnswers.{arrived_one, look_up_one, lease_one, ping_one}
use Rattle.nb_onecourse.proofs.Talks.{talk_one}
use Rattle.nb_onecourse.proofs.Transfers.{transfer_one}
use Rattle.nb_onecourse.proofs.Asked.{AsksOne, core_one}

look_up_timer : (l : Lookup) → IsTimerAnswer (asks_by l) (query_to l) lookup_timed_out
look_up_timer l = record { rests = refl; tries = λ n. refl; ends = refl }

look_up_init : (P : List LookupEntry → LookupEntry → Type 0) (before es : List LookupEntry) (e : LookupEntry) → EachLookupEntry P before (es ++ e ∷ []) → EachLookupEntry P before es
look_up_init P before [] e h = tt
look_up_init P before (x ∷ es) e h = (h.0, look_up_init P (before ++ x ∷ []) es e h.1)

look_ups_ask_one : (l : Lookup) (k start : ℕ) → AsksOne lookup_service l k start (λ cs. EachLookupEntry (AsksInTurn l) [] cs)
look_ups_ask_one l k start = record {
  prior = λ cs m. m.asking;
  before = λ cs c p. look_up_init (AsksInTurn l) [] cs c p;
  by_message = λ cs m now a c p q. arrived_one l (datagrams cs) (dns_datagram_in m) now a c (each-last (AsksInTurn l) [] cs (lookup_entry (arrived (dns_datagram_in m) now) a) p) (each-last (AsksInTurn l) [] cs (lookup_entry (arrived (dns_datagram_in m) now) c) q);
  by_records = λ cs now link a c p q e oa oc ra rc. time_shown (asks_by l) (query_to l) lookup_timed_out (look_up_timer l) link k a c (said_by a) (said_by c) (each-last (AsksInTurn l) [] cs (lookup_entry (clocked now) a) p).0 (each-last (AsksInTurn l) [] cs (lookup_entry (clocked now) c) q).0 e oa oc ra rc;
  at_last = λ cs now a c p q. look_up_one l start cs (clocked now) a c p q;
}

lease_timer : (b : Asker) (before : List LeaseEntry) → IsTimerAnswer (timer_acts b (taken_offer b (all_handed before))) (to_servers (message_text b (taken_offer b (all_handed before)))) lease_timed_out
lease_timer b before = record { rests = refl; tries = λ n. refl; ends = refl }

lease_init : (P : List LeaseEntry → LeaseEntry → Type 0) (before es : List LeaseEntry) (e : LeaseEntry) → AtEach P before (es ++ e ∷ []) → AtEach P before es
lease_init P before [] e h = tt
lease_init P before (x ∷ es) e h = (h.0, lease_init P (before ++ x ∷ []) es e h.1)

leases_ask_one : (b : Asker) (k start : ℕ) → AsksOne lease_service b k start (λ cs. AtEach (ActsSo b) [] cs)
leases_ask_one b k start = record {
  prior = λ cs m. m.sending;
  before = λ cs c p. lease_init (ActsSo b) [] cs c p;
  by_message = λ cs m now a c p q. AtEach-at (ActsSo b) [] cs (lease_entry (replied (handed_in m) now) a) [] p ∙ sym (AtEach-at (ActsSo b) [] cs (lease_entry (replied (handed_in m) now) c) [] q);
  by_records = λ cs now link a c p q e oa oc ra rc. time_shown (timer_acts b (taken_offer b (all_handed cs))) (to_servers (message_text b (taken_offer b (all_handed cs)))) lease_timed_out (lease_timer b cs) link k a c (timer_said a) (timer_said c)
      (AtEach-at (ActsSo b) [] cs (lease_entry (elapsed now) a) [] p) (AtEach-at (ActsSo b) [] cs (lease_entry (elapsed now) c) [] q) e oa oc ra rc;
  at_last = λ cs now a c p q. lease_one b start cs (elapsed now) a c p q;
}

ping_timer : (b : Pinged) → IsTimerAnswer (ping_asks b) (echo_request b) ping_timed_out
ping_timer b = record { rests = refl; tries = λ n. refl; ends = refl }

ping_init : (P : List PingEntry → PingEntry → Type 0) (before es : List PingEntry) (e : PingEntry) → EachPingEntry P before (es ++ e ∷ []) → EachPingEntry P before es
ping_init P before [] e h = tt
ping_init P before (x ∷ es) e h = (h.0, ping_init P (before ++ x ∷ []) es e h.1)

pings_ask_one : (b : Pinged) (k start : ℕ) → AsksOne ping_service b k start (λ cs. EachPingEntry (PingAsksInTurn b) [] cs)
pings_ask_one b k start = record {
  prior = λ cs m. m.asking;
  before = λ cs c p. ping_init (PingAsksInTurn b) [] cs c p;
  by_message = λ cs m now a c p q. each_ping_last (PingAsksInTurn b) [] cs (ping_entry (echoed (reply_in m) now) a) p ∙ sym (each_ping_last (PingAsksInTurn b) [] cs (ping_entry (echoed (reply_in m) now) c) q);
  by_records = λ cs now link a c p q e oa oc ra rc. time_shown (ping_asks b) (echo_request b) ping_timed_out (ping_timer b) link k a c (ping_said a) (ping_said c)
      (each_ping_last (PingAsksInTurn b) [] cs (ping_entry (waited now) a) p).0 (each_ping_last (PingAsksInTurn b) [] cs (ping_entry (waited now) c) q).0 e oa oc ra rc;
  at_last = λ cs now a c p q. ping_one b start cs (waited now) a c p q;
}

by_kind : (kind : OpenKind) (l : Live) (input : OpenInput) (link : Client) (put put' : List Out) → IsUnended l → KeepsBy kind (continued l (exchange input link put)) → KeepsBy kind (continued l (exchange input link put')) → put ≡ put'
by_kind tftp l input link put put' n a c = transfer_one l input link put put' n a c
by_kind (http isn) l input link put put' n a c = talk_one (web_talking l.target) isn l input link put put' a c
by_kind (iscsi isn i) l input link put put' n a c = talk_one (session_talking i) isn l input link put put' a c
by_kind (dns id) l input link put put' n a c = core_one lookup_service (look_up_of id l) l _ (look_ups_ask_one (look_up_of id l) l.number l.since) input link put put' n a c
by_kind (dhcp b) l input link put put' n a c = core_one lease_service b l _ (leases_ask_one b l.number l.since) input link put put' n a c
by_kind ping l input link put put' n a c = core_one ping_service (ping_of l) l _ (pings_ask_one (ping_of l) l.number l.since) input link put put' n a c

-- an open of any kind
pub has_one_answer : (l : Live) (input : OpenInput) (link : Client) → IsUnended l → HasOneAnswer l input link
has_one_answer l input link n = λ put put' a c. by_kind l.kind l input link put put' n a c
