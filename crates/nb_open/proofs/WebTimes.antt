-- A time comes to an open by HTTP: what is due at it is sent, or the tries are over.
use Rattle.std.proofs.Common.{◌≡◌, ℕ, true, false, List, Some, refl, sym, ◌∙◌, ap, subst}
use Rattle.std.specs.List.{AllByRecursion, flat_map, list_any}
use Rattle.nb_terms.specs.declared.cause.Cause.{Cause}
use Rattle.nb_defs.specs.Causes.{is_ok_cause}
use Rattle.nb_ledger.specs.declared.event.GraphEvent.TheVariants.{Entered}
use Rattle.nb_ledger.specs.declared.event.Way.TheVariants as way
use Rattle.nb_ledger.specs.Flat.{Heard}
use Rattle.nb_graph.specs.Whole.{Objects, port_at}
use Rattle.nb_nodes.specs.declared.obj.Obj.{Obj}
use Rattle.nb_retry.specs.declared.plan.Plan.{Plan}
use Rattle.nb_retry.specs.declared.retry.Due.{Due}
use Rattle.nb_retry.specs.declared.retry.Due.TheVariants.{Again, Not, Over}
use Rattle.nb_stack.specs.Client.{Client}
use Rattle.nb_streams.specs.Endings.{due_end, end_cause, plan_tries}
use Rattle.nb_streams.specs.Flows.{TcpCall, conn_phase}
use Rattle.nb_talks.specs.Talking.{by_time}
use Rattle.nb_talks.specs.TalkPromises.{Put, due_sends, time_put}
use Rattle.nb_streams.specs.Trying.{timer_after}
use Rattle.nb_tcp.specs.ConnPromises.{last_try}
use Rattle.nb_machine.specs.Connections.{Connection, connection_of, talk_of}
use Rattle.nb_machine.specs.Lives.{Live, OpenKind, tftp, http, iscsi, dns, dhcp, ping, exchange, time}
use Rattle.nb_machine.specs.Webs.{web_talking}
use Rattle.nb_teller.specs.declared.speaker.Speaker.{Speaker}
use Rattle.nb_wire.specs.declared.address.Ip4.{Ip4}
use Rattle.nb_webchains.specs.declared.web_chain.WebChain.{WebChain}
use Rattle.nb_webchains.specs.WebCalls.{DoesWeb, ticks_web}
use Rattle.nb_webtalks.specs.Comings.{TimeComes, time_comes_so, time_lacks_memory}
use Rattle.nb_webtalks.specs.Tellings.{messages_of}
use Rattle.nb_webtalks.specs.TalkStands.{StandsForTalk}
use Rattle.nb_webtalks.proofs.Called.{times}
use Rattle.nb_open.specs.declared.objects.OpenObjects.TheVariants as objects
use Rattle.nb_open.specs.declared.open.Open.{Open}
use Rattle.nb_open.specs.Open.{IsOpenOf, IsTalkingWeb, IsWebUnderWay, ask_of, carrier_for}
use Rattle.nb_open.proofs.Doings.{Did, fails}
use Rattle.nb_open.proofs.Delivering.{DeliversNone}
use Rattle.nb_open.proofs.WebExchanges.{calls_more, segments_deliver_none, web_did}
use Rattle.nb_open.proofs.WebPuts.{none_delivered, lacks_messages, put_messages, said_lacks, said_records}
use Rattle.nb_open.proofs.WebRecords.{few_due, few_lack, few_records}

-- no time ends it well
due_fails : (plan : Plan) (due : Due) (x : Cause) → due_end plan due ≡ Some x → is_ok_cause x ≡ true → ⊥
due_fails plan Not x is ok = absurd (cc)
due_fails plan (Again n) x is ok = absurd (cc)
due_fails plan Over x is ok =
    let same : end_cause 2 (plan_tries plan) 0 ≡ x = cc in
    let z : false ≡ true = ap is_ok_cause same ∙ ok in
    cc

module _ (who : Speaker) (port : ℕ) (own : Ip4) (c : WebChain) (l : Live) (old new : Objects Obj) (link : Client) (m n : Heard) (now : ℕ) where
  abbrev o : Open
  o = record { speaker = who; objects = objects.Web port own c }

  module _ (is : IsOpenOf old o l) (k : DoesWeb c now (ticks_web c) (Some (Entered (port_at c.conn.0 4) way.Time)) old new m n) where
    module _ (isn : ℕ) (e : l.kind ≡ http isn) (t : IsTalkingWeb isn own c old l) where
      abbrev conn : Connection
      conn = connection_of isn l

      abbrev calls : List TcpCall
      calls = (talk_of (web_talking l.target) conn l.exchanges).calls

      abbrev plan : Plan
      plan = (timer_after isn l.since calls).plan

      ticked : TimeComes (ask_of isn own l) l.since calls c new now k.ns → Did o l (time now) link new k.ns
      ticked (time_lacks_memory memory) = fails memory
      ticked (time_comes_so due fires says ends stands) =
          let sends = due_sends isn (conn_phase isn calls) due in
          let put : Put = time_put isn (conn_phase isn calls) plan due in
          let few = few_due isn (conn_phase isn calls) due in
          let number : who.number ≡ conn.number = sym is.called.number in
          let carrier = is.called.carrier ∙ ap carrier_for e in
          let server = ap (λ (z : ℕ). record { 0 = z }) (sym is.called.server) in
          let own_port = sym is.called.own in
          let none : AllByRecursion DeliversNone (messages_of k.ns) = subst (AllByRecursion DeliversNone) (sym says) (segments_deliver_none 0 (last_try sends) _) in
          web_did who port own c l old new link isn (time now) put k.ns (record {
            kind = e;
            lives = is;
            talks = t;
            puts = record { due = due; fires = fires; is = refl };
            records = put_messages link who k.ns ∙ ap (flat_map (said_records link who)) says ∙ few_records link who conn number carrier server own_port 0 sends few;
            lacks = lacks_messages link who k.ns ∙ ap (list_any (said_lacks link who)) says ∙ few_lack link who conn number carrier server own_port 0 sends few;
            closes = ends;
            comes = k.comes t.opened;
            kinds = k.kinds t.kinds;
            noded = k.noded;
            still = k.still;
            stands = λ outs over. subst (λ z. StandsForTalk (ask_of isn own l) l.since z c new) (sym (calls_more isn l (exchange (time now) link outs) (by_time now) t.asked refl)) (stands (ends ∙ over));
            silent = (none_delivered k.ns none).0;
            unfound = (none_delivered k.ns none).1;
            brings = λ outs x over ok. absurd (due_fails plan due x over ok);
          })

      ticked_so : Did o l (time now) link new k.ns
      ticked_so = ticked (times (ask_of isn own l) l.since calls c old new now (Some (Entered (port_at c.conn.0 4) way.Time)) m n k (record { was = is.chained; is = k.still; hosted = t.hosted; noded = k.noded; opened = t.opened; kinds = t.kinds }) t.stands)

    web_ticked : (kind : OpenKind) → l.kind ≡ kind → IsWebUnderWay kind own c old l → Did o l (time now) link new k.ns
    web_ticked tftp e t = absurd t
    web_ticked (http isn) e t = ticked_so isn e t
    web_ticked (iscsi isn i) e t = absurd t
    web_ticked (dns id) e t = absurd t
    web_ticked (dhcp a) e t = absurd t
    web_ticked ping e t = absurd t

    -- a time does so
    pub web_passed : Did o l (time now) link new k.ns
    web_passed = web_ticked l.kind refl is.under_way
