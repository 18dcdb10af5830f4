-- The cores of opens, by their kinds: what they send goes to whom the open asks, and what they find is what is delivered.
use Rattle.std.proofs.Common.{◌≡◌, ◌⊎◌, inl, inr, ℕ, true, List, [], ◌∷◌, ◌++◌, Option, Some, None, refl, sym, ◌∙◌, ap, subst}
use Rattle.std.specs.Option.{is_some}
use Rattle.nb_terms.specs.declared.acts.Acts.{Acts}
use Rattle.nb_terms.specs.declared.acts.SendTo.{SendTo}
use Rattle.nb_wire.specs.declared.address.Ip4.{Ip4}
use Rattle.nb_ledger.specs.declared.event.Way.{Way}
use Rattle.nb_ledger.specs.declared.port.Port.{Port}
use Rattle.nb_graph.specs.Trace.{Said}
use Rattle.nb_dhcpmsg.specs.Fields.{message_in}
use Rattle.nb_dhcpmsg.proofs.ReadingLemmas.{message_is}
use Rattle.nb_dnsmsg.specs.declared.answer.Answer.{Answer}
use Rattle.nb_dns.specs.Lookups.{Lookup, query_to}
use Rattle.nb_dns.specs.LookupCalls.{LookupEntry, LookupCall, datagrams, lookup_entry}
use Rattle.nb_dns.specs.LookupPromises.{LookupMeets}
use Rattle.nb_dns.specs.LookupReplies.{first_reply, address_found}
use Rattle.nb_dns.proofs.ReplyLemmas.{first_is, silent_is, found_is, none_found}
use Rattle.nb_dns.proofs.LookupLaws as names
use Rattle.nb_dhcp.specs.declared.asker.Asker.{Asker}
use Rattle.nb_dhcp.specs.Acting.{to_servers}
use Rattle.nb_dhcp.specs.History.{Handed, LeaseCall, LeaseEntry, acknowledgement_in, all_handed, lease_entry}
use Rattle.nb_dhcp.specs.LeaseEndings.{LeaseSending, sends_nothing, sends_discover, sends_request}
use Rattle.nb_dhcp.specs.Promises.{LeasePromises}
use Rattle.nb_dhcp.proofs.LeaseEndingLaws.{sends_for}
use Rattle.nb_dhcp.proofs.LeaseLaws.{first_lease}
use Rattle.nb_ping.specs.Pings.{echo_request}
use Rattle.nb_ping.specs.PingCalls.{PingCall, PingEntry, ping_entry}
use Rattle.nb_ping.specs.PingPromises.{PingMeets}
use Rattle.nb_ping.proofs.PingLaws as pings
use Rattle.nb_nodes.specs.LookupExchanges.{GivesAddress, IsFoundBy, lookup_service}
use Rattle.nb_nodes.specs.LeaseExchanges.{GivesLease, lease_service}
use Rattle.nb_opens.specs.AloneNotices.{alone_call}
use Rattle.nb_command.specs.SettingAddresses.{host}
use Rattle.nb_machine.specs.Cores.{CoreExchanged, look_up_of, ping_of}
use Rattle.nb_machine.specs.Kinds.{fetched_by, granted_of, moved_by, resolved_of}
use Rattle.nb_machine.specs.Lives.{OpenKind, dns, dhcp, ping, Live}
use Rattle.nb_teller.specs.declared.speaker.Carrier.{Carrier}
use Rattle.nb_teller.specs.declared.speaker.Carrier.TheVariants.{Udp, Icmp}
use Rattle.nb_teller.specs.declared.speaker.Speaker.{Speaker}
use Rattle.nb_teller.specs.Deliveries.{delivered_bytes}
use Rattle.nb_teller.specs.Speakers.{carrier_number, datagram_of}
use Rattle.nb_open.specs.declared.open.Open.{Open}
use Rattle.nb_open.specs.Exchanges.{IsLeaseMessage}
use Rattle.nb_open.specs.Open.{AsksRight, IsSpeakerOf, carrier_for}
use Rattle.nb_open.proofs.CoreCalls.{Finds}
use Rattle.nb_open.proofs.CoreReads.{all_arrived, all_given}
use Rattle.nb_open.proofs.Delivering.{delivers_ack, delivers_address, no_bytes_looked_up, no_bytes_echoed, no_address_leased, no_address_echoed}
use Rattle.nb_open.proofs.Downs.{AreSendsBy, none, one}

-- WHO SPEAKS

-- a message from who speaks, to whom it asks
pub spoken : (who : Speaker) (carrier : Carrier) (server own port : ℕ) (body : List ℕ) → who.carrier ≡ carrier → server ≡ who.server.0 → own ≡ who.own_port →
    datagram_of who port body ≡ record { proto = carrier_number carrier; to = host server; to_port = port; own_port = own; body = record { items = body } }
spoken who carrier server own port body c s o =
    let at : Carrier → ℕ → ℕ → SendTo = λ k to from. record { proto = carrier_number k; to = host to; to_port = port; own_port = from; body = record { items = body } } in
    ap (λ k. at k who.server.0 who.own_port) c ∙ (ap (λ n. at carrier n who.own_port) (sym s) ∙ ap (λ n. at carrier server n) (sym o))

one_by : (who : Speaker) (acts : Acts) (m : SendTo) (port : ℕ) (body : List ℕ) → datagram_of who port body ≡ m → acts.sends.items ≡ m ∷ [] → AreSendsBy who acts.sends.items
one_by who acts m port body same e = subst (AreSendsBy who) (sym e) (subst (λ z. AreSendsBy who (z ∷ [])) same (one port body))

none_by : (who : Speaker) (acts : Acts) → acts.sends.items ≡ [] → AreSendsBy who acts.sends.items
none_by who acts e = subst (AreSendsBy who) (sym e) none

either_by : (who : Speaker) (acts : Acts) (m : SendTo) (port : ℕ) (body : List ℕ) → datagram_of who port body ≡ m → ((acts.sends.items ≡ []) ⊎ (acts.sends.items ≡ m ∷ [])) → AreSendsBy who acts.sends.items
either_by who acts m port body same (inl e) = none_by who acts e
either_by who acts m port body same (inr e) = one_by who acts m port body same e

carries : (o : Open) (l : Live) (k : OpenKind) → IsSpeakerOf o l → l.kind ≡ k → o.speaker.carrier ≡ carrier_for k
carries o l k is e = is.carrier ∙ ap carrier_for e

pub name_speaks : (o : Open) (l : Live) (id : ℕ) → IsSpeakerOf o l → l.kind ≡ dns id → datagram_of o.speaker 53 (query_to (look_up_of id l)).body.items ≡ query_to (look_up_of id l)
name_speaks o l id is e = spoken o.speaker Udp l.server l.own 53 (query_to (look_up_of id l)).body.items (carries o l (dns id) is e) is.server is.own

pub lease_speaks : (o : Open) (l : Live) (a : Asker) (body : List ℕ) → IsSpeakerOf o l → l.kind ≡ dhcp a → datagram_of o.speaker 67 body ≡ to_servers body
lease_speaks o l a body is e =
    let right : AsksRight (dhcp a) l.server l.own = subst (λ k. AsksRight k l.server l.own) e is.asks in
    spoken o.speaker Udp 4294967295 68 67 body (carries o l (dhcp a) is e) (sym right.0 ∙ is.server) (sym right.1 ∙ is.own)

pub echo_speaks : (o : Open) (l : Live) → IsSpeakerOf o l → l.kind ≡ ping → datagram_of o.speaker 0 [] ≡ echo_request (ping_of l)
echo_speaks o l is e = spoken o.speaker Icmp l.server l.own 0 [] (carries o l ping is e) is.server is.own

-- WHAT THEY SEND

pub name_sends : (o : Open) (l : Live) (id start : ℕ) (calls : List LookupEntry) (call : LookupCall) (acts : Acts) → IsSpeakerOf o l → l.kind ≡ dns id →
    LookupMeets (look_up_of id l) start (calls ++ lookup_entry call acts ∷ []) → AreSendsBy o.speaker acts.sends.items
name_sends o l id start calls call acts is e meets =
    either_by o.speaker acts (query_to (look_up_of id l)) 53 _ (name_speaks o l id is e) (names.sends_alone (look_up_of id l) start calls call acts meets)

lease_by : (o : Open) (l : Live) (a : Asker) (ms : List Handed) (acts : Acts) → IsSpeakerOf o l → l.kind ≡ dhcp a → LeaseSending a ms acts → AreSendsBy o.speaker acts.sends.items
lease_by o l a ms acts is e (sends_nothing nothing) = none_by o.speaker acts nothing
lease_by o l a ms acts is e (sends_discover without it) = one_by o.speaker acts _ 67 _ (lease_speaks o l a _ is e) it
lease_by o l a ms acts is e (sends_request offer first it) = one_by o.speaker acts _ 67 _ (lease_speaks o l a _ is e) it

pub lease_sends : (o : Open) (l : Live) (a : Asker) (start : ℕ) (calls : List LeaseEntry) (call : LeaseCall) (acts : Acts) → IsSpeakerOf o l → l.kind ≡ dhcp a →
    LeasePromises a start (calls ++ lease_entry call acts ∷ []) → AreSendsBy o.speaker acts.sends.items
lease_sends o l a start calls call acts is e meets = lease_by o l a _ acts is e (sends_for a start calls (lease_entry call acts) [] meets)

pub echo_sends : (o : Open) (l : Live) (start : ℕ) (calls : List PingEntry) (call : PingCall) (acts : Acts) → IsSpeakerOf o l → l.kind ≡ ping →
    PingMeets (ping_of l) start (calls ++ ping_entry call acts ∷ []) → AreSendsBy o.speaker acts.sends.items
echo_sends o l start calls call acts is e meets =
    either_by o.speaker acts (echo_request (ping_of l)) 0 [] (echo_speaks o l is e) (pings.sends_alone (ping_of l) start calls call acts meets)

-- WHAT THEY FIND

-- the address that is found is that of the first reply
is_address_found : (l : Lookup) (calls : List LookupEntry) (found : Option Ip4) → IsFoundBy l calls found → found ≡ address_found l (datagrams calls)
is_address_found l calls found is = by (first_reply l (datagrams calls)) refl
  where
    by : (o : Option Answer) → first_reply l (datagrams calls) ≡ o → found ≡ address_found l (datagrams calls)
    by None e = let silent = silent_is l (datagrams calls) e in is.in_silence silent ∙ sym (none_found l (datagrams calls) silent)
    by (Some a) e = let first = first_is l (datagrams calls) a e in is.by_reply a first ∙ sym (found_is l (datagrams calls) a first)

none_message : (found : Option (List ℕ)) → found ≡ None → IsLeaseMessage found
none_message found nothing bytes some = absurd (let no : Some bytes ≡ None = sym some ∙ nothing in cc)

module _ (l : Live) (x : ℕ) (p : Port) (by : Way) (rec : ℕ) (acts : Acts) (given : List Said) where
  pub name_finds : (id : ℕ) (calls : List LookupEntry) → l.kind ≡ dns id → CoreExchanged lookup_service l.number l.server calls l.exchanges → GivesAddress rec (look_up_of id l) calls given →
      Finds l (alone_call x p by rec acts given)
  name_finds id calls e exchanged gives =
      let nothing = no_bytes_looked_up x p by rec acts given gives.found gives.goes_up in
      record {
        body = ap (λ k. fetched_by k l) e;
        moved = ap (λ k. moved_by k l) e;
        bytes = ap (λ k. granted_of k l.exchanges) e ∙ sym nothing;
        address = ap (λ k. resolved_of k l) e ∙ (ap (address_found (look_up_of id l)) (all_arrived l.number l.server calls l.exchanges exchanged)
            ∙ (sym (is_address_found (look_up_of id l) calls gives.found gives.is_found) ∙ sym (delivers_address x p by rec acts given gives.found gives.goes_up)));
        message = none_message (delivered_bytes (alone_call x p by rec acts given)) nothing;
      }

  pub lease_finds : (a : Asker) (calls : List LeaseEntry) → l.kind ≡ dhcp a → CoreExchanged lease_service l.number l.server calls l.exchanges → GivesLease rec a calls given →
      Finds l (alone_call x p by rec acts given)
  lease_finds a calls e exchanged gives =
      let delivers = delivers_ack x p by rec acts given (acknowledgement_in a (all_handed calls)) gives in
      record {
        body = ap (λ k. fetched_by k l) e;
        moved = ap (λ k. moved_by k l) e;
        bytes = ap (λ k. granted_of k l.exchanges) e ∙ (ap (acknowledgement_in a) (all_given l.number l.server calls l.exchanges exchanged) ∙ sym delivers);
        address = ap (λ k. resolved_of k l) e ∙ sym (no_address_leased x p by rec acts given (acknowledgement_in a (all_handed calls)) gives);
        message = λ bytes is.
            let ack : acknowledgement_in a (all_handed calls) ≡ Some bytes = sym delivers ∙ is in
            let lease = first_lease a (all_handed calls) bytes ack in
            subst (λ b. is_some (message_in b) ≡ true) lease.its (ap is_some (message_is lease.last.body lease.is_ack.message lease.is_ack.is_message));
      }

  pub echo_finds : (calls : List PingEntry) → l.kind ≡ ping → given ≡ [] → Finds l (alone_call x p by rec acts given)
  echo_finds calls e gives =
      let nothing = no_bytes_echoed x p by rec acts given gives in
      record {
        body = ap (λ k. fetched_by k l) e;
        moved = ap (λ k. moved_by k l) e;
        bytes = ap (λ k. granted_of k l.exchanges) e ∙ sym nothing;
        address = ap (λ k. resolved_of k l) e ∙ sym (no_address_echoed x p by rec acts given gives);
        message = none_message (delivered_bytes (alone_call x p by rec acts given)) nothing;
      }
