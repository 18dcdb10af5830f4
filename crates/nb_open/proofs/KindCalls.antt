-- What a message or a time does to an open, by its kind.
use Rattle.std.proofs.Common.{◌≡◌, ℕ, ◌<◌, ◌≤◌, true, false, List, [], ◌∷◌, ◌++◌, length, refl, sym, ◌∙◌, subst, nat_le, nat_lt, arith}
use Rattle.std.proofs.lemmas.Bool.Decides.{nat_tests}
use Rattle.nb_terms.specs.declared.acts.Acts.{Acts}
use Rattle.nb_defs.specs.Records.{Out}
use Rattle.nb_ledger.specs.declared.event.Way.{Way}
use Rattle.nb_ledger.specs.declared.event.Way.TheVariants as way
use Rattle.nb_ledger.specs.declared.port.Port.{Port}
use Rattle.nb_ledger.specs.Flat.{Notice}
use Rattle.nb_graph.specs.Trace.{Said}
use Rattle.nb_graph.specs.Whole.{Objects, port_at}
use Rattle.nb_dns.specs.LookupCalls.{LookupCall, arrived, clocked, lookup_entry}
use Rattle.nb_dhcp.specs.declared.asker.Asker.{Asker}
use Rattle.nb_dhcp.specs.History.{LeaseCall, elapsed, lease_entry, replied}
use Rattle.nb_ping.specs.PingCalls.{PingCall, echoed, ping_entry, waited}
use Rattle.nb_nodes.specs.declared.obj.Obj.{Obj}
use Rattle.nb_nodes.specs.declared.tag.Tag.TheVariants.{Datagram}
use Rattle.nb_nodes.specs.Tags.{tag_number}
use Rattle.nb_nodes.specs.Exchanges.{Service}
use Rattle.nb_nodes.specs.LookupExchanges.{dns_datagram_in, lookup_service}
use Rattle.nb_nodes.specs.LeaseExchanges.{handed_in, lease_service}
use Rattle.nb_nodes.specs.EchoExchanges.{ping_service, reply_in}
use Rattle.nb_chains.specs.declared.chain.Chain.{Chain}
use Rattle.nb_chains.specs.declared.kind.ChainKind.{ChainKind}
use Rattle.nb_chains.specs.declared.kind.ChainKind.TheVariants as chain
use Rattle.nb_teller.specs.declared.speaker.Speaker.{Speaker}
use Rattle.nb_chains.specs.declared.arrival.Arrival.{Arrival}
use Rattle.nb_opens.specs.Alones.{AsksOrIgnores, fails_before, is_ignored, is_taken}
use Rattle.nb_stack.specs.Client.{Client}
use Rattle.nb_tftp.specs.Blocks.{file}
use Rattle.nb_tftp.specs.History.{came as comes, got, ticked}
use Rattle.nb_tftp.specs.Received.{received as datagram_received}
use Rattle.nb_machine.specs.Cores.{CoreExchanged, core_records, look_up_of, ping_of, takes_message, takes_time}
use Rattle.nb_machine.specs.Kinds.{KeepsBy}
use Rattle.nb_machine.specs.Lives.{OpenInput, OpenKind, tftp, http, iscsi, dns, dhcp, ping, Live, exchange, message, time}
use Rattle.nb_machine.specs.Transfers.{transfer_of}
use Rattle.nb_chains.specs.Calls.{CallsTwo, ReceivesOne, TicksOne, arrival_said}
use Rattle.nb_chains.specs.Chains.{own_graph}
use Rattle.nb_chains.specs.Kinds.{top_mark}
use Rattle.nb_chains.proofs.ShapesDone.{lease_gives, lookup_gives, ping_gives}
use Rattle.nb_open.specs.declared.open.Open.{Open}
use Rattle.nb_open.specs.Exchanges.{SuitsBy, with_exchange}
use Rattle.nb_open.specs.Open.{IsAskingCore, IsOpenOf, IsUnderWay}
use Rattle.nb_open.proofs.CoreCalls.{CoreCall, core_did}
use Rattle.nb_open.proofs.CoreKinds.{echo_finds, echo_sends, lease_finds, lease_sends, name_finds, name_sends}
use Rattle.nb_open.proofs.Doings.{Did, fails, on_chain}
use Rattle.nb_open.proofs.FileCalls.{file_did}

module _ (who : Speaker) (kind : ChainKind) (own : Chain) (l : Live) (old new : Objects Obj) (link : Client) (ns : List Notice) (is : IsOpenOf old (on_chain who kind own) l) where
  abbrev o : Open
  o = on_chain who kind own

  -- an exchange more of a core
  abbrev More : {S B C : Type 0} → Service S B C → List C → (Acts → C) → OpenInput → Type 0
  More {S} {B} {C} s calls call came =
      (put : List Out) (acts : Acts) → put ≡ core_records l.number l.server link acts → CoreExchanged s l.number l.server (calls ++ call acts ∷ []) (l.exchanges ++ exchange came link put ∷ [])

  said_by : ℕ → ℕ → List ℕ → ℕ → Said
  said_by rec port body b = record { tag = tag_number Datagram; rec = rec; a = port; b = b; bytes = body }

  module _ {S B C : Type 0} (s : Service S B C) (calls : List C) (h : CoreExchanged s l.number l.server calls l.exchanges) where
    by_message : (rec port : ℕ) (body : List ℕ) (now source : ℕ) → source ≡ l.server → More s calls (s.received (record { tag = tag_number Datagram; rec = rec; a = port; b = source; bytes = body }) now) (message rec port body now)
    by_message rec port body now source from put acts e =
        subst (λ b. CoreExchanged s l.number l.server (calls ++ s.received (record { tag = tag_number Datagram; rec = rec; a = port; b = b; bytes = body }) now acts ∷ []) (l.exchanges ++ exchange (message rec port body now) link put ∷ [])) (sym from)
        (subst (λ z. CoreExchanged s l.number l.server (calls ++ s.received (record { tag = tag_number Datagram; rec = rec; a = port; b = l.server; bytes = body }) now acts ∷ []) (l.exchanges ++ exchange (message rec port body now) link z ∷ [])) (sym e)
        (takes_message calls l.exchanges link rec port body now acts h))

    by_time : (now : ℕ) → More s calls (s.timed now) (time now)
    by_time now put acts e =
        subst (λ z. CoreExchanged s l.number l.server (calls ++ s.timed now acts ∷ []) (l.exchanges ++ exchange (time now) link z ∷ [])) (sym e) (takes_time calls l.exchanges link now acts h)

  name_core : (id : ℕ) (e : l.kind ≡ dns id) (k : IsAskingCore lookup_service (top_mark chain.Name) (look_up_of id l) own old l) (came : OpenInput) (call : LookupCall) (p : Port) (by : Way) (rec : ℕ) →
      More lookup_service k.calls (λ acts. lookup_entry call acts) came → CoreCall lookup_service (top_mark chain.Name) (look_up_of id l) who kind own l came link new k.calls (λ acts. lookup_entry call acts) p by rec
  name_core id e k came call p by rec more = record {
    alone = k.below;
    called = is.called;
    more = more;
    sends = λ acts meets. name_sends o l id l.since k.calls call acts is.called e meets;
    gives = lookup_gives;
    under_way = λ put h. subst (λ z. IsUnderWay z own new (with_exchange l came link put)) (sym e) h;
    keeps = λ put h. subst (λ z. KeepsBy z (with_exchange l came link put)) (sym e) h;
    finds = λ put acts given exchanged gives. name_finds (with_exchange l came link put) own.top.0 p by rec acts given id (k.calls ++ lookup_entry call acts ∷ []) e exchanged gives;
  }

  lease_core : (a : Asker) (e : l.kind ≡ dhcp a) (k : IsAskingCore lease_service (top_mark chain.Lease) a own old l) (came : OpenInput) (call : LeaseCall) (p : Port) (by : Way) (rec : ℕ) →
      More lease_service k.calls (λ acts. lease_entry call acts) came → CoreCall lease_service (top_mark chain.Lease) a who kind own l came link new k.calls (λ acts. lease_entry call acts) p by rec
  lease_core a e k came call p by rec more = record {
    alone = k.below;
    called = is.called;
    more = more;
    sends = λ acts meets. lease_sends o l a l.since k.calls call acts is.called e meets;
    gives = lease_gives;
    under_way = λ put h. subst (λ z. IsUnderWay z own new (with_exchange l came link put)) (sym e) h;
    keeps = λ put h. subst (λ z. KeepsBy z (with_exchange l came link put)) (sym e) h;
    finds = λ put acts given exchanged gives. lease_finds (with_exchange l came link put) own.top.0 p by rec acts given a (k.calls ++ lease_entry call acts ∷ []) e exchanged gives;
  }

  echo_core : (e : l.kind ≡ ping) (k : IsAskingCore ping_service (top_mark chain.Echo) (ping_of l) own old l) (came : OpenInput) (call : PingCall) (p : Port) (by : Way) (rec : ℕ) →
      More ping_service k.calls (λ acts. ping_entry call acts) came → CoreCall ping_service (top_mark chain.Echo) (ping_of l) who kind own l came link new k.calls (λ acts. ping_entry call acts) p by rec
  echo_core e k came call p by rec more = record {
    alone = k.below;
    called = is.called;
    more = more;
    sends = λ acts meets. echo_sends o l l.since k.calls call acts is.called e meets;
    gives = ping_gives;
    under_way = λ put h. subst (λ z. IsUnderWay z own new (with_exchange l came link put)) (sym e) h;
    keeps = λ put h. subst (λ z. KeepsBy z (with_exchange l came link put)) (sym e) h;
    finds = λ put acts given exchanged gives. echo_finds (with_exchange l came link put) own.top.0 p by rec acts given (k.calls ++ ping_entry call acts ∷ []) e gives;
  }

  -- a message that the core takes
  core_receives : {S B C : Type 0} (s : Service S B C) (mark : ℕ) (b : B) (calls : List C) (m : Said) (now : ℕ) (input : OpenInput) → CoreCall s mark b who kind own l input link new calls (s.received m now) (port_at own.top.0 1) way.Up m.rec →
      s.takes 1 m ≡ true → AsksOrIgnores s mark (own_graph own new) own.top.0 b l.since calls m now ns → Did o l input link new ns
  core_receives s mark b calls m now input k takes (is_taken _ more) = core_did s mark b who kind own l input link new calls (s.received m now) (port_at own.top.0 1) way.Up m.rec k ns more
  core_receives s mark b calls m now input k takes (is_ignored ignores same talks) = absurd (let wrong : true ≡ false = sym takes ∙ ignores in cc)
  core_receives s mark b calls m now input k takes (fails_before memory) = fails memory

  is_port : (n : ℕ) → n < 65536 → nat_lt n 65536 ≡ true
  is_port n h = grind (arith, nat_tests)

  is_short : (n : ℕ) → n ≤ 1480 → nat_le n 1480 ≡ true
  is_short n h = grind (arith, nat_tests)

  module _ (rec : ℕ) (a : Arrival) (now : ℕ) (short : length a.body.now ≤ 1480) (small : a.port < 65536) (two : CallsTwo own old new (λ t. port_at t 1) way.Up rec (comes (datagram_received rec a.port a.body.now) now) ns) (one : ReceivesOne own old new (arrival_said rec a) now ns) where
    received_by_kind : (k : OpenKind) → l.kind ≡ k → IsUnderWay k own old l → SuitsBy k l a → Did o l (message rec a.port a.body.now now) link new ns
    received_by_kind tftp e k suits =
        file_did who kind own l old new link (comes (datagram_received rec a.port a.body.now) now) (port_at k.tftp.0 1) way.Up rec ns e is.called k
        (two k.tftp k.below (transfer_of l) l.since k.entries (file (got k.entries)) k.downloads)
    received_by_kind (http isn) e k suits = absurd k
    received_by_kind (iscsi isn i) e k suits = absurd k
    received_by_kind (dns id) e k suits =
        let input : OpenInput = message rec a.port a.body.now now in
        core_receives lookup_service (top_mark chain.Name) (look_up_of id l) k.calls (arrival_said rec a) now input
        (name_core id e k input (arrived (dns_datagram_in (arrival_said rec a)) now) (port_at own.top.0 1) way.Up rec (by_message lookup_service k.calls k.exchanged rec a.port a.body.now now a.source.0 suits.0))
        (subst (λ z. lookup_service.takes 1 (record { tag = tag_number Datagram; rec = rec; a = z; b = a.source.0; bytes = a.body.now }) ≡ true) (sym suits.1) refl) ((one k.below).lookup (look_up_of id l) l.since k.calls k.talks)
    received_by_kind (dhcp of) e k suits =
        let input : OpenInput = message rec a.port a.body.now now in
        core_receives lease_service (top_mark chain.Lease) of k.calls (arrival_said rec a) now input
        (lease_core of e k input (replied (handed_in (arrival_said rec a)) now) (port_at own.top.0 1) way.Up rec (by_message lease_service k.calls k.exchanged rec a.port a.body.now now l.server refl))
        (subst (λ z. lease_service.takes 1 (record { tag = tag_number Datagram; rec = rec; a = z; b = a.source.0; bytes = a.body.now }) ≡ true) (sym suits) (is_short (length a.body.now) short)) ((one k.below).lease of l.since k.calls k.talks)
    received_by_kind ping e k suits =
        let input : OpenInput = message rec a.port a.body.now now in
        core_receives ping_service (top_mark chain.Echo) (ping_of l) k.calls (arrival_said rec a) now input
        (echo_core e k input (echoed (reply_in (arrival_said rec a)) now) (port_at own.top.0 1) way.Up rec (by_message ping_service k.calls k.exchanged rec a.port a.body.now now a.source.0 suits.0))
        (is_port a.port small) ((one k.below).ping (ping_of l) l.since k.calls k.talks)

    pub received : SuitsBy l.kind l a → Did o l (message rec a.port a.body.now now) link new ns
    received suits = received_by_kind l.kind refl is.under_way suits

  module _ (now : ℕ) (two : CallsTwo own old new (λ t. port_at t 4) way.Time 0 (ticked now) ns) (one : TicksOne own old new now ns) where
    ticked_by_kind : (k : OpenKind) → l.kind ≡ k → IsUnderWay k own old l → Did o l (time now) link new ns
    ticked_by_kind tftp e k =
        file_did who kind own l old new link (ticked now) (port_at k.tftp.0 4) way.Time 0 ns e is.called k (two k.tftp k.below (transfer_of l) l.since k.entries (file (got k.entries)) k.downloads)
    ticked_by_kind (http isn) e k = absurd k
    ticked_by_kind (iscsi isn i) e k = absurd k
    ticked_by_kind (dns id) e k =
        core_did lookup_service (top_mark chain.Name) (look_up_of id l) who kind own l (time now) link new k.calls (lookup_service.timed now) (port_at own.top.0 4) way.Time 0
        (name_core id e k (time now) (clocked now) (port_at own.top.0 4) way.Time 0 (by_time lookup_service k.calls k.exchanged now)) ns ((one k.below).lookup (look_up_of id l) l.since k.calls k.talks)
    ticked_by_kind (dhcp of) e k =
        core_did lease_service (top_mark chain.Lease) of who kind own l (time now) link new k.calls (lease_service.timed now) (port_at own.top.0 4) way.Time 0
        (lease_core of e k (time now) (elapsed now) (port_at own.top.0 4) way.Time 0 (by_time lease_service k.calls k.exchanged now)) ns ((one k.below).lease of l.since k.calls k.talks)
    ticked_by_kind ping e k =
        core_did ping_service (top_mark chain.Echo) (ping_of l) who kind own l (time now) link new k.calls (ping_service.timed now) (port_at own.top.0 4) way.Time 0
        (echo_core e k (time now) (waited now) (port_at own.top.0 4) way.Time 0 (by_time ping_service k.calls k.exchanged now)) ns ((one k.below).ping (ping_of l) l.since k.calls k.talks)

    pub passed : Did o l (time now) link new ns
    passed = ticked_by_kind l.kind refl is.under_way
