-- A frame is taken: what it brings goes to the open that takes it.
use Rattle.std.proofs.Common.{◌≡◌, ℕ, ◌≤◌, true, List, [], ◌∷◌, ◌++◌, length, Option, Some, refl, sym, ◌∙◌, ap, subst, append_assoc, arith}
use Rattle.std.specs.Prelude.{slice_get}
use Rattle.nb_defs.specs.Records.{Out, frame}
use Rattle.nb_ipv4.specs.PacketText.{PacketParts}
use Rattle.nb_ipv4.specs.UdpText.{UdpParts}
use Rattle.nb_ipv4.specs.EchoText.{EchoParts}
use Rattle.nb_tcpseg.specs.SegmentText.{SegmentParts, IsSegment}
use Rattle.nb_ledger.specs.declared.event.Way.TheVariants.{Up}
use Rattle.nb_chains.specs.declared.arrival.Arrival.{Arrival}
use Rattle.nb_traced.specs.Plain.{without_graph}
use Rattle.nb_record.specs.Logged.{Logged}
use Rattle.nb_stack.specs.Bound.{owner_of}
use Rattle.nb_stack.specs.Brings.{Brought, nothing, arp_message, datagram, echo_request, echo_reply, segment, Brings}
use Rattle.nb_stack.specs.Client.{Client}
use Rattle.nb_stack.specs.Takes.{Outcome, dropped, replied, handed, asks, client_after, outcome_of, Takes}
use Rattle.nb_wire.specs.declared.address.Ip4.{Ip4}
use Rattle.nb_machine.specs.Kinds.{is_for, is_reply_for, is_segment_for}
use Rattle.nb_machine.specs.Lives.{OpenInput, message, tcp_segment, Live}
use Rattle.nb_machine.specs.Network.{on_net0, Network, brings, brings_reply, brings_segment}
use Rattle.nb_machine.specs.States.{State, bare, net0, with_live}
use Rattle.nb_machine.specs.Takings.{Over, AllTake}
use Rattle.nb_teller.specs.Speakers.{carrier_number}
use Rattle.nb_network.specs.declared.living.Living.{Living}
use Rattle.nb_open.specs.Exchanges.{IsInput, by_message}
use Rattle.nb_network.specs.declared.over.HasEnded.{HasEnded}
use Rattle.nb_network.specs.Many.{AreApart, AreOpensOf, AreSound, IsLivingOf, IsStateOf, Many, bare_open}
use Rattle.nb_network.specs.Receiving.{GoesTo, ReceivesAt}
use Rattle.nb_network.specs.Steps.{counts_by, left_by}
use Rattle.nb_network.specs.Takes.{ArrivesAt, at_port, at_echo, at_connection, TakesRecord, arrival}
use Rattle.nb_network.proofs.Handed.{IsHanded, drops_none, handed_datagram, handed_reply, handed_segment, not_handed, port_of_echo, port_of_other, replies_none}
use Rattle.nb_network.proofs.Inputs.{connection_input}
use Rattle.nb_network.proofs.Lists.{PartedAt, apart_around, opens_append, opens_part_at}
use Rattle.nb_network.proofs.Matching.{by_tcp, for_as_counts, none_for, none_reply, none_segment, not_by_tcp, reply_as_counts, segment_as_counts, suits}
use Rattle.nb_network.proofs.Keys.{HasAlone, has_alone}
use Rattle.nb_network.proofs.Short.{datagram_short, echo_short}
use Rattle.nb_network.proofs.Sound.{ports_after, sound_over}
use Rattle.nb_network.proofs.Stepping.{AwaitsOn, LeavesAll, OneGives, one_awaits, one_gives, one_leaves}
use Rattle.nb_network.proofs.Traces.{traces_step}

module _ (m : Many) (net : Client) (now w opens n : ℕ) (bytes : List ℕ) (most : length bytes ≤ 1522) (place : ℕ) (a : Arrival) (out : Outcome) (goes : GoesTo m.list out place a) (sound : AreSound w opens net m) where
  abbrev pub o : Living
  o = goes.taker

  abbrev pub before : List Living
  before = goes.at.before

  abbrev pub behind : List Living
  behind = goes.at.behind

  abbrev pub proto_of : ℕ
  proto_of = carrier_number o.speaker.carrier

  -- this is handed on to it
  abbrev pub IsHandedOn : Outcome → Type 0
  IsHandedOn x = x ≡ handed o.speaker.number a.source goes.dst goes.proto goes.port a.body.now

  key_of : (proto number : ℕ) → owner_of proto number net.ports ≡ Some o.speaker.number → HasAlone proto number before o behind
  key_of proto number owned = has_alone w opens net m before o behind proto number sound goes.at.all owned

  counted : (src : Ip4) (port : ℕ) → src ≡ a.source → port ≡ goes.port → counts_by o.objects o.speaker.server src port ≡ true
  counted src port e f = ap (λ z. counts_by o.objects o.speaker.server z port) e ∙ ap (counts_by o.objects o.speaker.server a.source) f ∙ goes.counts

  -- WHAT COMES TO IT

  -- whichever of the machine's it is
  abbrev pub ComesToIt : OpenInput → Type 0
  ComesToIt came = (l : Live) → IsLivingOf m.graph o l → IsInput (bare_open o) l n a now came

  a_message : (proto_of ≡ 6 → ⊥) → length a.body.now ≤ 1480 → ComesToIt (message n a.port a.body.now now)
  a_message other short l i = by_message (not_by_tcp l.kind (λ c. other (ap carrier_number i.called.carrier ∙ c))) (suits m.graph o l a goes.port i goes.counts goes.port_is) short

  a_segment : (dst : Ip4) (x : SegmentParts) → proto_of ≡ 6 → IsSegment a.source dst a.body.now x → ComesToIt (tcp_segment n x now)
  a_segment dst x tcp is l i =
      connection_input o l n a now dst x
      (by_tcp l.kind (sym (ap carrier_number i.called.carrier) ∙ tcp)) (suits m.graph o l a goes.port i goes.counts goes.port_is) is

  no_segment : (p : ℕ) → proto_of ≡ p → (p ≡ 6 → ⊥) → proto_of ≡ 6 → ⊥
  no_segment p e f c = f (sym e ∙ c)

  datagram_comes : (p : PacketParts) (d : UdpParts) → IsHanded (owner_of 17 d.dst_port net.ports) o.speaker.number p.src a.source d.src_port goes.port d.body a.body.now → Brings net.up net.mac net.address bytes (datagram p d) → ComesToIt (message n a.port a.body.now now)
  datagram_comes p d h brought = a_message (no_segment 17 (key_of 17 d.dst_port h.owned).carrier (λ e. omega (arith, e))) (subst (λ z. length z ≤ 1480) h.body_is (datagram_short net bytes p d brought most))

  echo_comes : (p : PacketParts) (x : EchoParts) → IsHanded (owner_of 1 x.ident net.ports) o.speaker.number p.src a.source 0 goes.port x.body a.body.now → Brings net.up net.mac net.address bytes (echo_reply p x) → ComesToIt (message n a.port a.body.now now)
  echo_comes p x h brought = a_message (no_segment 1 (key_of 1 x.ident h.owned).carrier (λ e. omega (arith, e))) (subst (λ z. length z ≤ 1480) h.body_is (echo_short net bytes p x brought most))

  segment_comes : (p : PacketParts) (x : SegmentParts) → IsHanded (owner_of 6 x.dst_port net.ports) o.speaker.number p.src a.source x.src_port goes.port p.body a.body.now → IsSegment p.src p.dst p.body x → ComesToIt (tcp_segment n x now)
  segment_comes p x h is =
      a_segment p.dst x (key_of 6 x.dst_port h.owned).carrier (subst (λ z. IsSegment a.source p.dst z x) h.body_is (subst (λ (z : Ip4). IsSegment z p.dst p.body x) h.source is))

  -- a frame that brings it something
  comes : (b : Brought) → Brings net.up net.mac net.address bytes b → IsHandedOn (outcome_of net b) → (came : OpenInput) × ComesToIt came
  comes nothing brought e = absurd (drops_none o.speaker.number a.source goes.dst goes.proto goes.port a.body.now e)
  comes (arp_message from arp) brought e =
      absurd (not_handed (asks net.address arp) replied dropped o.speaker.number a.source goes.dst goes.proto goes.port a.body.now (replies_none o.speaker.number a.source goes.dst goes.proto goes.port a.body.now)
      (drops_none o.speaker.number a.source goes.dst goes.proto goes.port a.body.now) e)
  comes (datagram p d) brought e =
      let h = handed_datagram p d (owner_of 17 d.dst_port net.ports) o.speaker.number a.source goes.dst goes.proto goes.port a.body.now e in
      (message n a.port a.body.now now, datagram_comes p d h brought)
  comes (echo_request from p x) brought e = absurd (replies_none o.speaker.number a.source goes.dst goes.proto goes.port a.body.now e)
  comes (echo_reply p x) brought e =
      let h = handed_reply p x (owner_of 1 x.ident net.ports) o.speaker.number a.source goes.dst goes.proto goes.port a.body.now e in
      (message n a.port a.body.now now, echo_comes p x h brought)
  comes (segment from p x) brought e =
      let h = handed_segment p x (owner_of 6 x.dst_port net.ports) o.speaker.number a.source goes.dst goes.proto goes.port a.body.now e in
      (tcp_segment n x now, segment_comes p x h brought.2.0.segment)

  -- what is sound stays so
  pub received_sound : (m' : Many) (net' : Client) (awaited : Option ℕ) (answer : Option HasEnded) (old new : Logged) (put put_after : List ℕ) (net1 : Client) → Takes net bytes out put put_after net1 → ReceivesAt m net1 before o behind n a now awaited answer m' net' old new → AreSound w opens net' m'
  received_sound m' net' awaited answer old new put put_after net1 t (end, c) =
      let x = comes t.message t.brings (sym t.is_outcome ∙ goes.handed_on) in
      let after = sound_over w opens net net1 m (ap (λ (z : Client). z.ports) t.is_after ∙ ports_after net t.message) sound in
      (one_leaves (λ l. IsInput (bare_open o) l n a now x.0) x.0 (Some Up) (Some n) m net1 w opens before o behind awaited m' net' old new goes.at.all (c x.0).noded after end answer (c x.0) x.1).sound

  module _ (m' : Many) (net' : Client) (awaited : Option ℕ) (answer : Option HasEnded) (old new : Logged) (s : State) (state : IsStateOf m net now s) where
    parted : PartedAt m.graph before o behind s.live
    parted = opens_part_at m.graph before o behind s.live (subst (λ os. AreOpensOf m.graph os s.live) goes.at.all state.live)

    link_is : slice_get s.devices net0 ≡ Some (bare net)
    link_is = ap (λ ds. slice_get ds net0) state.devices

    -- whatever brings it
    fit_record : (input came : OpenInput) → input ≡ came → ComesToIt came →
        ((put : List Out) (after : List Live) (over : List Over) → AllTake s.devices input (parted.live ∷ []) put after over → Network s n (frame bytes) put (with_live s (parted.front ++ after ++ parted.back)) over) →
        ArrivesAt s n (frame bytes) (arrival parted.live.number Up n ∷ []) →
        ReceivesAt m net before o behind n a now awaited answer m' net' old new → TakesRecord m net now opens n (frame bytes) m' net' now awaited answer old new s
    fit_record input came same fits network arrives (end, all) =
        let c = all came in
        let l = parted.live in
        let g : OneGives m net opens before o behind l came (Some Up) (Some n) awaited end c.heard answer m' old new =
        one_gives (λ l. IsInput (bare_open o) l n a now came) came (Some Up) (Some n) m net opens before o behind awaited m' old new goes.at.all end answer net' c l parted.is (fits l parted.is) in
        let r : LeavesAll m net w opens o m' net' =
        one_leaves (λ l. IsInput (bare_open o) l n a now came) came (Some Up) (Some n) m net w opens before o behind awaited m' net' old new goes.at.all c.noded sound end answer c fits in
        let k : AwaitsOn m awaited answer m' =
        one_awaits (λ l. IsInput (bare_open o) l n a now came) came (Some Up) (Some n) m net w opens before o behind awaited m' net' old new goes.at.all sound end answer c fits in
        let around = apart_around before o behind (subst AreApart goes.at.all sound.apart) in
        record {
          records = g.records;
          came = arrival o.speaker.number Up n ∷ [];
          puts = g.puts;
          does = record {
            after = with_live s (parted.front ++ g.after ++ parted.back);
            overs = g.over;
            network = network (without_graph g.records) g.after g.over (subst (λ z. AllTake s.devices z (l ∷ []) (without_graph g.records) g.after g.over) (sym same)
                (subst (λ z. AllTake z came (l ∷ []) (without_graph g.records) g.after g.over) (sym state.devices) g.takes));
            is_state = record {
              devices = state.devices ∙ ap (λ c. bare c ∷ []) (sym r.same_net);
              time = state.time;
              live = subst (AreOpensOf m'.graph m'.list) (sym (append_assoc parted.front g.after parted.back)) (subst (λ os. AreOpensOf m'.graph os (parted.front ++ (g.after ++ parted.back))) (sym g.list)
                  (opens_append m'.graph before parted.front (left_by end c.heard o ++ behind) (g.after ++ parted.back) (r.others before parted.front around.front parted.fronts)
                  (opens_append m'.graph (left_by end c.heard o) g.after behind parted.back g.lives (r.others behind parted.back around.back parted.backs))));
            };
            answers = g.answers;
            arrives = subst (λ k. ArrivesAt s n (frame bytes) (arrival k Up n ∷ [])) parted.is.called.number arrives;
          };
          traces = λ waits outs h so_far traced fits. traces_step n m opens g.records (arrival o.speaker.number Up n ∷ []) m' opens (g.traces n) waits outs h so_far traced fits;
          first = g.first n;
          waiting = r.waiting;
          same_made = k.same_made;
          tied = k.tied.1;
          newest = λ d. (k.newest d).1;
        }

    received_by : (b : Brought) → Brings net.up net.mac net.address bytes b → IsHandedOn (outcome_of net b) → ReceivesAt m (client_after net b) before o behind n a now awaited answer m' net' old new → TakesRecord m net now opens n (frame bytes) m' net' now awaited answer old new s
    received_by nothing brought e c = absurd (drops_none o.speaker.number a.source goes.dst goes.proto goes.port a.body.now e)
    received_by (arp_message from arp) brought e c =
        absurd (not_handed (asks net.address arp) replied dropped o.speaker.number a.source goes.dst goes.proto goes.port a.body.now (replies_none o.speaker.number a.source goes.dst goes.proto goes.port a.body.now)
        (drops_none o.speaker.number a.source goes.dst goes.proto goes.port a.body.now) e)
    received_by (datagram p d) brought e c =
        let h = handed_datagram p d (owner_of 17 d.dst_port net.ports) o.speaker.number a.source goes.dst goes.proto goes.port a.body.now e in
        let k = key_of 17 d.dst_port h.owned in
        let front = none_for m.graph p d before parted.front parted.fronts k.front in
        let back = none_for m.graph p d behind parted.back parted.backs k.back in
        let here : is_for net0 p d parted.live ≡ true = for_as_counts m.graph p d o parted.live parted.is k.carrier k.port ∙ counted p.src d.src_port h.source h.port_is in
        let port : a.port ≡ d.src_port = goes.port_is ∙ port_of_other o.speaker.carrier o.speaker.own_port goes.port (λ e. let j = k.carrier in omega (arith, e, j)) ∙ sym h.port_is in
        fit_record (message n d.src_port d.body s.now) (message n a.port a.body.now now) (ap (λ z. message n z d.body s.now) (sym port) ∙ ap (λ z. message n a.port z s.now) h.body_is ∙ ap (message n a.port a.body.now) state.time)
        (datagram_comes p d h brought)
        (λ put after over all. brings (frame bytes) net0 bytes (bare net) p d parted.front parted.back after parted.live put over (on_net0 bytes) link_is brought parted.all here front back all)
        (at_port (frame bytes) net0 bytes (bare net) p d parted.front parted.back parted.live (on_net0 bytes) link_is brought parted.all here front back) c
    received_by (echo_request from p x) brought e c = absurd (replies_none o.speaker.number a.source goes.dst goes.proto goes.port a.body.now e)
    received_by (echo_reply p x) brought e c =
        let h = handed_reply p x (owner_of 1 x.ident net.ports) o.speaker.number a.source goes.dst goes.proto goes.port a.body.now e in
        let k = key_of 1 x.ident h.owned in
        let front = none_reply m.graph p x before parted.front parted.fronts k.front in
        let back = none_reply m.graph p x behind parted.back parted.backs k.back in
        let here : is_reply_for net0 p x parted.live ≡ true = reply_as_counts m.graph p x goes.port o parted.live parted.is k.carrier k.port ∙ counted p.src goes.port h.source refl in
        let port : a.port ≡ x.ident = goes.port_is ∙ port_of_echo o.speaker.carrier o.speaker.own_port goes.port k.carrier ∙ k.port in
        fit_record (message n x.ident x.body s.now) (message n a.port a.body.now now) (ap (λ z. message n z x.body s.now) (sym port) ∙ ap (λ z. message n a.port z s.now) h.body_is ∙ ap (message n a.port a.body.now) state.time)
        (echo_comes p x h brought)
        (λ put after over all. brings_reply (frame bytes) net0 bytes (bare net) p x parted.front parted.back after parted.live put over (on_net0 bytes) link_is brought parted.all here front back all)
        (at_echo (frame bytes) net0 bytes (bare net) p x parted.front parted.back parted.live (on_net0 bytes) link_is brought parted.all here front back) c
    received_by (segment from p x) brought e c =
        let h = handed_segment p x (owner_of 6 x.dst_port net.ports) o.speaker.number a.source goes.dst goes.proto goes.port a.body.now e in
        let k = key_of 6 x.dst_port h.owned in
        let front = none_segment m.graph p x before parted.front parted.fronts k.front in
        let back = none_segment m.graph p x behind parted.back parted.backs k.back in
        let here : is_segment_for net0 p x parted.live ≡ true = segment_as_counts m.graph p x o parted.live parted.is k.carrier k.port ∙ counted p.src x.src_port h.source h.port_is in
        fit_record (tcp_segment n x s.now) (tcp_segment n x now) (ap (tcp_segment n x) state.time) (segment_comes p x h brought.2.0.segment)
        (λ put after over all. brings_segment (frame bytes) net0 bytes (bare net) from p x parted.front parted.back after parted.live put over (on_net0 bytes) link_is brought parted.all here front back all)
        (at_connection (frame bytes) net0 bytes (bare net) from p x parted.front parted.back parted.live (on_net0 bytes) link_is brought parted.all here front back) c

    pub received_record : (put put_after : List ℕ) (net1 : Client) → Takes net bytes out put put_after net1 → ReceivesAt m net1 before o behind n a now awaited answer m' net' old new → TakesRecord m net now opens n (frame bytes) m' net' now awaited answer old new s
    received_record put put_after net1 t c =
        received_by t.message t.brings (sym t.is_outcome ∙ goes.handed_on) (subst (λ z. ReceivesAt m z before o behind n a now awaited answer m' net' old new) t.is_after c)
