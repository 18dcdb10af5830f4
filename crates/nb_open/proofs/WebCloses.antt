-- The user closes an open by HTTP: what its connection says then is what its promise does, and nothing where there is no route.
use Rattle.std.proofs.Common.{◌≡◌, ℕ, false, cond, List, [], ◌∷◌, ◌++◌, None, refl, sym, ◌∙◌, ap, subst}
use Rattle.std.specs.List.{AllByRecursion, flat_map}
use Rattle.std.proofs.lemmas.List.{append-nil}
use Rattle.nb_terms.specs.declared.acts.SendTo.{SendTo}
use Rattle.nb_terms.specs.declared.cause.Cause.{Cause}
use Rattle.nb_defs.specs.Records.{Out, ended, sent}
use Rattle.nb_conns.specs.ConnAsks.{link_of}
use Rattle.nb_conns.specs.ConnEffects.{segments_say}
use Rattle.nb_graph.specs.Whole.{Objects}
use Rattle.nb_ledger.specs.Flat.{Heard}
use Rattle.nb_nodes.specs.declared.obj.Obj.{Obj}
use Rattle.nb_stack.specs.Client.{Client}
use Rattle.nb_stack.specs.Sends.{put_on, way_of}
use Rattle.nb_streams.specs.Flows.{TcpCall, conn_phase}
use Rattle.nb_streams.specs.Sending.{closing_segment}
use Rattle.nb_talks.specs.TalkPromises.{close_put}
use Rattle.nb_tcp.specs.Messages.{outgoing_message}
use Rattle.nb_traced.specs.Plain.{without_graph}
use Rattle.nb_wire.specs.declared.address.Ip4.{Ip4}
use Rattle.nb_machine.specs.Connections.{EachExchange, KeepsAt, connection_of, talk_of}
use Rattle.nb_machine.specs.Kinds.{Keeps, KeepsBy}
use Rattle.nb_machine.specs.Lives.{Exchange, Live, OpenKind, close, dhcp, dns, exchange, http, iscsi, ping, tftp}
use Rattle.nb_machine.specs.Sendings.{has_route, send_records}
use Rattle.nb_machine.specs.Webs.{web_talking}
use Rattle.nb_chains.specs.Chains.{AreChained}
use Rattle.nb_webchains.specs.declared.web_chain.WebChain.{WebChain}
use Rattle.nb_webchains.specs.WebCalls.{ClosesWeb}
use Rattle.nb_webchains.specs.WebChains.{AreOfWeb, IsOpenWeb, web_ids}
use Rattle.nb_webtalks.specs.TalkStands.{AreHosted, StandsForTalk}
use Rattle.nb_webtalks.specs.Tellings.{messages_of}
use Rattle.nb_webtalks.proofs.Called.{closes}
use Rattle.nb_teller.specs.declared.speaker.Carrier.TheVariants.{Tcp}
use Rattle.nb_teller.specs.declared.speaker.Speaker.{Speaker}
use Rattle.nb_teller.specs.Tellings.{told_records}
use Rattle.nb_open.specs.declared.objects.OpenObjects.TheVariants as objects
use Rattle.nb_open.specs.Ends.{closed_open}
use Rattle.nb_open.specs.Open.{IsOpenOf, IsSpeakerOf, IsTalkingWeb, IsWebUnderWay, ask_of, carrier_for}
use Rattle.nb_open.proofs.Quiet.{AddsNothing}
use Rattle.nb_open.proofs.Delivering.{DeliversNone}
use Rattle.nb_open.proofs.WebPuts.{none_delivered, one_segment, put_messages, said_records, speaks_on}

-- ONE CLOSE

module _ (who : Speaker) (link : Client) (isn : ℕ) (own : Ip4) (c : WebChain) (l : Live) (start : ℕ) (calls : List TcpCall) (g h : Objects Obj) (m n : Heard) (cause : Cause) (k : ClosesWeb c g h cause m n) where
  abbrev closing : SendTo
  closing = outgoing_message (link_of (ask_of isn own l)) (closing_segment isn (conn_phase isn calls))

  module _ (carrier : who.carrier ≡ Tcp) (server : l.server ≡ who.server.0) (from : l.own ≡ who.own_port) (chained : AreChained g (web_ids c)) (hosted : AreHosted c g) (opened : IsOpenWeb c g) (kinds : AreOfWeb c g) (stands : StandsForTalk (ask_of isn own l) start calls c g) where
    says : messages_of k.ns ≡ segments_say 0 None (closing ∷ [])
    says = closes (ask_of isn own l) start calls c g h cause k.ns k.own (record { was = chained; is = k.still; hosted = hosted; noded = k.noded; opened = opened; kinds = kinds }) (k.kinds kinds) stands

    pub closing_puts : without_graph (told_records link who k.ns) ≡ send_records link who.number None closing
    closing_puts =
        put_messages link who k.ns ∙ (ap (flat_map (said_records link who)) says
        ∙ one_segment link who closing (speaks_on who (link_of (ask_of isn own l)) (closing_segment isn (conn_phase isn calls)) carrier (ap (λ z. record { 0 = z }) (sym server)) (sym from)) 0 None)

    -- nothing is put where there is no route
    pub closing_hushed : has_route link closing ≡ false → AddsNothing link who k.ns
    closing_hushed lost =
        let none = none_delivered k.ns (subst (AllByRecursion DeliversNone) (sym says) ((refl, refl, refl), tt)) in
        record {
          others = closing_puts ∙ ap (λ b. cond b (sent (put_on link closing (way_of link closing)) ∷ []) []) lost;
          bytes = none.0;
          address = none.1;
          blocks = none.2;
          answer = none.3;
        }

-- ITS PROMISE

-- one exchange more
pub each_last : (P : List Exchange → Exchange → Type 0) (before xs : List Exchange) (x : Exchange) → EachExchange P before xs → P (before ++ xs) x → EachExchange P before (xs ++ x ∷ [])
each_last P before [] x h p = (subst (λ z. P z x) (append-nil before) p, tt)
each_last P before (y ∷ xs) x h p = (h.0, each_last P (before ++ y ∷ []) xs x h.1 (subst (λ z. P z x) (one_more before y xs) p))
  where
    one_more : (xs : List Exchange) (y : Exchange) (ys : List Exchange) → xs ++ (y ∷ ys) ≡ (xs ++ (y ∷ [])) ++ ys
    one_more [] y ys = refl
    one_more (x ∷ xs) y ys = ap (λ z. x ∷ z) (one_more xs y ys)

module _ (who : Speaker) (port : ℕ) (own : Ip4) (c : WebChain) (l : Live) (old new : Objects Obj) (link : Client) (m n : Heard) (cause : Cause) (chained : AreChained old (web_ids c)) (called : IsSpeakerOf (record { speaker = who; objects = objects.Web port own c }) l) (k : ClosesWeb c old new cause m n) where
  abbrev put : List Out
  put = without_graph (told_records link who k.ns)

  closed_talk : (isn : ℕ) → who.carrier ≡ Tcp → IsTalkingWeb isn own c old l → KeepsBy (http isn) (closed_open l cause link put)
  closed_talk isn carrier t =
      let talk = talk_of (web_talking l.target) (connection_of isn l) l.exchanges in
      let sent = send_records link l.number None (closing who link isn own c l l.since talk.calls old new m n cause k) in
      let puts : put ≡ sent = closing_puts who link isn own c l l.since talk.calls old new m n cause k carrier called.server called.own chained t.hosted t.opened t.kinds t.stands
      ∙ ap (λ z. send_records link z None (closing who link isn own c l l.since talk.calls old new m n cause k)) (sym called.number) in
      each_last (KeepsAt (web_talking l.target) (connection_of isn l)) [] l.exchanges (exchange (close cause) link (put ++ (ended l.number cause ∷ []))) t.keeps
      (record { put = close_put isn talk cause; puts = refl; records = ap (λ z. z ++ (ended l.number cause ∷ [])) (puts ∙ sym (append-nil sent)) })

  closed_by : (kind : OpenKind) → who.carrier ≡ carrier_for kind → IsWebUnderWay kind own c old l → KeepsBy kind (closed_open l cause link put)
  closed_by tftp carrier t = absurd t
  closed_by (http isn) carrier t = closed_talk isn carrier t
  closed_by (iscsi isn i) carrier t = absurd t
  closed_by (dns id) carrier t = absurd t
  closed_by (dhcp a) carrier t = absurd t
  closed_by ping carrier t = absurd t

-- the user closes them: what the connection says then is what its promise does
pub web_closed_keeps : (who : Speaker) (port : ℕ) (own : Ip4) (c : WebChain) (l : Live) (old new : Objects Obj) (link : Client) (m n : Heard) (cause : Cause) → IsOpenOf old (record { speaker = who; objects = objects.Web port own c }) l → (k : ClosesWeb c old new cause m n) →
    Keeps (closed_open l cause link (without_graph (told_records link who k.ns)))
web_closed_keeps who port own c l old new link m n cause is k = closed_by who port own c l old new link m n cause is.chained is.called k l.kind is.called.carrier is.under_way
