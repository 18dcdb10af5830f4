-- A segment comes to an open by HTTP, and puts what its promise says; where it ends well the response was brought.
use Rattle.std.proofs.Common.{◌≡◌, ◌≤◌, ℕ, true, List, [], ◌∷◌, ◌++◌, length, map, Option, Some, None, unwrap_or, refl, sym, ◌∙◌, ap, subst, arith, if◌then◌else◌}
use Rattle.std.specs.List.{AllByRecursion, flat_map, list_any}
use Rattle.std.proofs.lemmas.Bool.{eqb-true}
use Rattle.nb_terms.specs.declared.cause.Cause.{Cause}
use Rattle.nb_defs.specs.Causes.{is_ok_cause}
use Rattle.nb_defs.specs.Records.{Out}
use Rattle.nb_ledger.specs.declared.event.GraphEvent.TheVariants.{Entered}
use Rattle.nb_ledger.specs.declared.event.Way.TheVariants as way
use Rattle.nb_ledger.specs.Flat.{Heard}
use Rattle.nb_graph.specs.Lived.{ObjectStands}
use Rattle.nb_graph.specs.Whole.{Objects, port_at}
use Rattle.nb_frames.proofs.OwnLemmas.{are_there}
use Rattle.nb_frames.proofs.OwnCallLemmas.{node_own}
use Rattle.nb_nodes.specs.declared.obj.Obj.{Obj}
use Rattle.nb_nodes.specs.Fetches.{taken_below}
use Rattle.nb_nodes.specs.Standing.{ObjStands}
use Rattle.nb_chains.specs.declared.arrival.Arrival.{Arrival}
use Rattle.nb_conns.specs.declared.conn_ask.ConnAsk.{ConnAsk}
use Rattle.nb_conns.specs.ConnAsks.{link_of}
use Rattle.nb_conns.specs.ConnEffects.{place_says}
use Rattle.nb_conns.specs.Dialogues.{arriving}
use Rattle.nb_readings.specs.Ends.{cause, text_of}
use Rattle.nb_readings.proofs.EndLemmas.{whole_ends_well}
use Rattle.nb_responses.specs.Chunks.{Response}
use Rattle.nb_stack.specs.Client.{Client}
use Rattle.nb_streams.specs.Endings.{end_cause, segment_end}
use Rattle.nb_streams.specs.Flows.{TcpCall, conn_phase}
use Rattle.nb_streams.specs.Sending.{calls_for}
use Rattle.nb_streams.specs.Segments.{Arrival as Incoming}
use Rattle.nb_talks.specs.Talking.{Came, Talk, by_segment}
use Rattle.nb_talks.specs.TalkPromises.{Put, Sends, closes_by, segment_put}
use Rattle.nb_tcp.specs.ConnPromises.{last_try}
use Rattle.nb_tcp.specs.declared.link.Link.{Link}
use Rattle.nb_tcp.specs.Messages.{outgoing_message}
use Rattle.nb_tcpseg.specs.SegmentText.{IsLaidOut, SegmentParts}
use Rattle.nb_machine.specs.Connections.{Connection, PutsAt, came_on, connection_of, talk_of}
use Rattle.nb_machine.specs.Kinds.{fetched_by, moved_by}
use Rattle.nb_machine.specs.Lives.{Exchange, Live, exchange, http, tcp_segment}
use Rattle.nb_machine.specs.Webs.{request_at, web_at, web_talking}
use Rattle.nb_webs.specs.Webs.{NoTask, response_come, web_put}
use Rattle.nb_webs.proofs.WebLaws.{ok_is_whole, says_once, web_puts}
use Rattle.nb_teller.specs.declared.speaker.Speaker.{Speaker}
use Rattle.nb_wire.specs.declared.address.Ip4.{Ip4}
use Rattle.nb_webchains.specs.declared.web_chain.WebChain.{WebChain}
use Rattle.nb_webchains.specs.WebCalls.{DoesWeb, receives_web}
use Rattle.nb_webchains.specs.WebChains.{web_ids}
use Rattle.nb_webchains.proofs.Three.{fetch_in}
use Rattle.nb_webtalks.specs.Comings.{HasBrought, SegmentComes, response_end, segment_comes_so, segment_lacks_memory, segment_says, sends_say, calls_with_segment}
use Rattle.nb_webtalks.specs.TalkStands.{StandsForTalk}
use Rattle.nb_webtalks.specs.Tellings.{messages_of}
use Rattle.nb_webtalks.proofs.Called.{segments}
use Rattle.nb_webtalks.proofs.Starting.{are_hosted}
use Rattle.nb_open.specs.declared.objects.OpenObjects.TheVariants as objects
use Rattle.nb_open.specs.declared.open.Open.{Open}
use Rattle.nb_open.specs.Exchanges.{SuitsBy, with_exchange}
use Rattle.nb_open.specs.Open.{IsOpenOf, IsTalkingWeb, IsWebUnderWay, ask_of, carrier_for}
use Rattle.nb_open.proofs.Doings.{Brings, Did, fails}
use Rattle.nb_open.proofs.Callings.{each_append}
use Rattle.nb_open.proofs.Delivering.{DeliversNone}
use Rattle.nb_open.proofs.WebExchanges.{calls_more, segments_deliver_none, web_did}
use Rattle.nb_open.proofs.WebPuts.{none_delivered, lacks_messages, put_messages, said_lacks, said_records}
use Rattle.nb_open.proofs.WebRecords.{segment_lacks, segment_puts}

pub place_delivers_none : (rec : ℕ) (place : Option ℕ) → AllByRecursion DeliversNone (place_says rec place)
place_delivers_none rec None = tt
place_delivers_none rec (Some k) = ((refl, refl, refl), tt)

pub sends_deliver_none : (l : Link) (rec : ℕ) (sends : Sends) → AllByRecursion DeliversNone (sends_say l rec sends)
sends_deliver_none l rec sends = segments_deliver_none rec (last_try sends) (map (λ s. outgoing_message l s.0) sends)

says_deliver_none : (a : ConnAsk) (calls : List TcpCall) (m : Incoming) (now : ℕ) → AllByRecursion DeliversNone (segment_says a calls m now)
says_deliver_none a calls m now =
    let place = place_says m.rec (web_put a.isn calls m now).advance in
    let called = calls_for a.isn (conn_phase a.isn calls) m.segment in
    let closing = closes_by (response_end a calls m now) (segment_end a.isn (conn_phase a.isn calls) m) a.isn (conn_phase a.isn (calls_with_segment calls m now)) in
    each_append DeliversNone place (sends_say (link_of a) m.rec called ++ sends_say (link_of a) 0 closing) (place_delivers_none m.rec (web_put a.isn calls m now).advance)
    (each_append DeliversNone (sends_say (link_of a) m.rec called) (sends_say (link_of a) 0 closing) (sends_deliver_none (link_of a) m.rec called) (sends_deliver_none (link_of a) 0 closing))

module _ (who : Speaker) (port : ℕ) (own : Ip4) (c : WebChain) (l : Live) (old new : Objects Obj) (link : Client) (m n : Heard) (rec : ℕ) (a : Arrival) (now isn : ℕ) (g : SegmentParts) (of : l.kind ≡ http isn) (suits : SuitsBy l.kind l a)
    (laid : IsLaidOut a.body.now g) (short : length a.body.now ≤ 65535) (is : IsOpenOf old (record { speaker = who; objects = objects.Web port own c }) l)
    (k : DoesWeb c now (receives_web c rec a) (Some (Entered (port_at c.conn.0 1) way.Up)) old new m n) where
  abbrev o : Open
  o = record { speaker = who; objects = objects.Web port own c }

  abbrev ask : ConnAsk
  ask = ask_of isn own l

  abbrev conn : Connection
  conn = connection_of isn l

  abbrev talk : Talk NoTask
  talk = talk_of (web_talking l.target) conn l.exchanges

  abbrev arr : Incoming
  arr = arriving rec g

  abbrev put : Put
  put = web_put isn talk.calls arr now

  abbrev response : Response
  response = response_come isn (calls_with_segment talk.calls arr now)

  talks : IsTalkingWeb isn own c old l
  talks = subst (λ z. IsWebUnderWay z own c old l) of is.under_way

  from : SuitsBy (http isn) l a
  from = subst (λ z. SuitsBy z l a) of suits

  -- what comes of it to the three
  comes : SegmentComes ask l.since talk.calls c new arr now k.ns
  comes =
      segments ask l.since talk.calls c old new rec now a g (Some (Entered (port_at c.conn.0 1) way.Up)) m n k (record { was = is.chained; is = k.still; hosted = talks.hosted; noded = k.noded; opened = talks.opened; kinds = talks.kinds }) talks.stands from.1 from.0 laid (omega (arith, short))

  -- it is what the promise puts
  puts : PutsAt (web_talking l.target) conn talk (tcp_segment rec g now) put
  puts =
      let came : List (Came NoTask) = flat_map (λ (x : Exchange). came_on x.came) l.exchanges in
      ap (λ z. web_put isn z arr now) (says_once (request_at l.target) isn l.since came talks.asked)
      ∙ sym (web_puts (request_at l.target) isn l.since came arr now (segment_put (web_at l.target) isn talk arr now) talks.asked refl)

  calls_then : (outs : List Out) → (talk_of (web_talking l.target) conn (l.exchanges ++ exchange (tcp_segment rec g now) link outs ∷ [])).calls ≡ calls_with_segment talk.calls arr now
  calls_then outs = calls_more isn l (exchange (tcp_segment rec g now) link outs) (by_segment arr now) talks.asked refl

  -- what the Fetch has brought is the response's
  brings : HasBrought c new response (cause 0 0 0) → (outs : List Out) → Brings o (with_exchange l (tcp_segment rec g now) link outs) new
  brings b outs =
      let after = with_exchange l (tcp_segment rec g now) link outs in
      let there = are_there (web_ids c) new k.still.lives (are_hosted c new k.still k.noded) in
      let stands : ObjectStands ObjStands new c.fetch.0 b.trace = λ node e. b.stands node (node_own (web_ids c) new there c.fetch.0 (fetch_in c) ∙ e) in
      let kinds = k.kinds talks.kinds in
      let lives = k.still.lives c.fetch.0 (fetch_in c) in
      let come : response_come isn (talk_of (web_talking l.target) conn after.exchanges).calls ≡ response = ap (response_come isn) (calls_then outs) in
      record {
        body = λ hands h none.
            let unmoved : text_of response.verdict ≡ None = sym b.moves ∙ sym (h.moved kinds b.trace stands lives) ∙ none in
            ap (λ z. fetched_by z after) of ∙ ap (λ (r : Response). r.bytes) come ∙ sym (b.body unmoved)
            ∙ sym (ap (λ z. unwrap_or z []) (h.body kinds b.trace stands ∙ ap (λ z. if z then Some (taken_below b.trace) else None) (b.well unmoved)));
        moved = λ hands h. ap (λ z. moved_by z after) of ∙ ap (λ (r : Response). text_of r.verdict) come ∙ sym b.moves ∙ sym (h.moved kinds b.trace stands lives);
      }

  -- an end with Ok is that of a response that is whole
  ends_well : (x : Cause) → put.over ≡ Some x → is_ok_cause x ≡ true → response_end ask talk.calls arr now ≡ Some (cause 0 0 0)
  ends_well x over ok =
      let code : x.code ≡ 0 = eqb-true x.code 0 ok in
      whole_ends_well rec response.verdict
      (ok_is_whole (request_at l.target) isn l.since talk (by_segment arr now) put x.a x.b puts (over ∙ ap (λ z. Some (end_cause z x.a x.b)) code))

  segment_did : SegmentComes ask l.since talk.calls c new arr now k.ns → Did o l (tcp_segment rec g now) link new k.ns
  segment_did (segment_lacks_memory memory) = fails memory
  segment_did (segment_comes_so says close stands brought_so) =
      let number : who.number ≡ conn.number = sym is.called.number in
      let carrier = is.called.carrier ∙ ap carrier_for of in
      let server = ap (λ (z : ℕ). record { 0 = z }) (sym is.called.server) in
      let own_port = sym is.called.own in
      let none : AllByRecursion DeliversNone (messages_of k.ns) = subst (AllByRecursion DeliversNone) (sym says) (says_deliver_none ask talk.calls arr now) in
      web_did who port own c l old new link isn (tcp_segment rec g now) put k.ns (record {
        kind = of;
        lives = is;
        talks = talks;
        puts = puts;
        records = put_messages link who k.ns ∙ ap (flat_map (said_records link who)) says ∙ segment_puts link who conn number carrier server own_port ask refl talk.calls arr now;
        lacks = lacks_messages link who k.ns ∙ ap (list_any (said_lacks link who)) says ∙ segment_lacks link who conn number carrier server own_port ask refl talk.calls arr now;
        closes = close;
        comes = k.comes talks.opened;
        kinds = k.kinds talks.kinds;
        noded = k.noded;
        still = k.still;
        stands = λ outs over. subst (λ z. StandsForTalk ask l.since z c new) (sym (calls_then outs)) (stands (close ∙ over));
        silent = (none_delivered k.ns none).0;
        unfound = (none_delivered k.ns none).1;
        brings = λ outs x over ok. brings (brought_so (cause 0 0 0) (ends_well x over ok)) outs;
      })

  pub web_received : Did o l (tcp_segment rec g now) link new k.ns
  web_received = segment_did comes
