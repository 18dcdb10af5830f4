-- What comes to an open by HTTP, by the messages of the call and what its promise puts.
use Rattle.std.proofs.Common.{◌≡◌, ℕ, ◌<◌, not, Bool, true, false, cond, List, [], ◌∷◌, ◌++◌, length, map, Option, Some, None, refl, sym, ◌∙◌, ap, subst, append-nil}
use Rattle.std.specs.List.{AllByRecursion, flat_map, list_any}
use Rattle.std.proofs.lemmas.List.{map-append}
use Rattle.std.proofs.lemmas.List.Concat.{flat_map-append}
use Rattle.nb_terms.specs.declared.cause.Cause.{Cause}
use Rattle.nb_defs.specs.Causes.{is_ok_cause}
use Rattle.nb_defs.specs.Records.{Out}
use Rattle.nb_ledger.specs.Flat.{Heard, Notice}
use Rattle.nb_terms.specs.declared.acts.SendTo.{SendTo}
use Rattle.nb_conns.specs.ConnEffects.{segments_say}
use Rattle.nb_graph.specs.Noded.{AreNoded}
use Rattle.nb_graph.specs.Whole.{Objects}
use Rattle.nb_nodes.specs.declared.obj.Obj.{Obj}
use Rattle.nb_nodes.specs.Objects.{rank_of_obj}
use Rattle.nb_opens.specs.Notices.{first_close}
use Rattle.nb_stack.specs.Client.{Client}
use Rattle.nb_streams.specs.Flows.{conn_phase, text_came}
use Rattle.nb_streams.specs.Sending.{closing_segment}
use Rattle.nb_talks.specs.Talking.{Came, Talk}
use Rattle.nb_talks.specs.TalkPromises.{Put, Sends}
use Rattle.nb_tcp.specs.Messages.{outgoing_message}
use Rattle.nb_machine.specs.CommandRecords.{no_route}
use Rattle.nb_machine.specs.Connections.{Connection, KeepsAt, PutsAt, came_on, connection_of, loses_way, put_records, segment_records, talk_end, talk_of}
use Rattle.nb_machine.specs.Kinds.{Keeps, KeepsBy, granted_of, resolved_of}
use Rattle.nb_machine.specs.Lives.{Exchange, Live, OpenInput, exchange, http}
use Rattle.nb_machine.specs.Sendings.{advance_records, has_route}
use Rattle.nb_machine.specs.Transfers.{earlier_end, end_records}
use Rattle.nb_machine.specs.Webs.{request_at, web_talking}
use Rattle.nb_chains.specs.Chains.{AreChained}
use Rattle.nb_teller.specs.declared.speaker.Speaker.{Speaker}
use Rattle.nb_teller.specs.Deliveries.{delivered_bytes, delivered_address}
use Rattle.nb_teller.specs.Tellings.{any_lacks_route}
use Rattle.nb_wire.specs.declared.address.Ip4.{Ip4}
use Rattle.nb_webs.specs.Webs.{NoTask, call_of}
use Rattle.nb_webs.proofs.WebLaws.{says_once}
use Rattle.nb_webchains.specs.declared.web_chain.WebChain.{WebChain}
use Rattle.nb_webchains.specs.WebCalls.{ClosesWeb, ComesOfWeb, goes_on, has_closed}
use Rattle.nb_webchains.specs.WebChains.{AreOfWeb, IsOpenWeb, IsShutWeb, web_ids}
use Rattle.nb_webtalks.specs.TalkStands.{StandsForTalk}
use Rattle.nb_webtalks.proofs.Starting.{are_hosted}
use Rattle.nb_open.specs.declared.objects.OpenObjects.TheVariants as objects
use Rattle.nb_open.specs.declared.open.Open.{Open}
use Rattle.nb_open.specs.Exchanges.{with_exchange}
use Rattle.nb_open.specs.Open.{IsOpenOf, IsSpeakerOf, IsTalkingWeb, IsWebUnderWay, ask_of, carrier_for}
use Rattle.nb_open.proofs.Delivering.{DeliversNone}
use Rattle.nb_open.proofs.Doings.{Brings, Did, Goes, Overs, goes, last_by, overs, put_by}
use Rattle.nb_open.proofs.Quiet.{AddsNothing}
use Rattle.nb_open.proofs.WebCloses.{closing_hushed, each_last}

-- WHAT HAS COME

-- with one thing more that came, the connection has had one call more
pub calls_more : (isn : ℕ) (l : Live) (x : Exchange) (c : Came NoTask) → 0 < length (request_at l.target) → came_on x.came ≡ c ∷ [] →
    (talk_of (web_talking l.target) (connection_of isn l) (l.exchanges ++ x ∷ [])).calls ≡ (talk_of (web_talking l.target) (connection_of isn l) l.exchanges).calls ++ call_of c ∷ []
calls_more isn l x c some is =
    let came : List Exchange → List (Came NoTask) = flat_map (λ (y : Exchange). came_on y.came) in
    let all : came (l.exchanges ++ x ∷ []) ≡ came l.exchanges ++ c ∷ [] = flat_map-append (λ (y : Exchange). came_on y.came) l.exchanges (x ∷ []) ∙ ap (λ z. came l.exchanges ++ (z ++ [])) is in
    says_once (request_at l.target) isn l.since (came (l.exchanges ++ x ∷ [])) some
    ∙ ap (λ z. text_came (request_at l.target) l.since ∷ map call_of z) all
    ∙ ap (λ z. text_came (request_at l.target) l.since ∷ z) (map-append call_of (came l.exchanges) (c ∷ []))
    ∙ ap (λ z. z ++ call_of c ∷ []) (sym (says_once (request_at l.target) isn l.since (came l.exchanges) some))

-- WHAT IS DELIVERED

-- segments deliver nothing
pub segments_deliver_none : (rec : ℕ) (try : Option ℕ) (sends : List SendTo) → AllByRecursion DeliversNone (segments_say rec try sends)
segments_deliver_none rec try [] = tt
segments_deliver_none rec None (s ∷ []) = ((refl, refl, refl), tt)
segments_deliver_none rec (Some n) (s ∷ []) = ((refl, refl, refl), tt)
segments_deliver_none rec try (s ∷ (t ∷ sends)) = ((refl, refl, refl), tt)

-- A CALL

any_same : (b : Bool) (sends : Sends) → list_any (λ s. not b) sends ≡ true → b ≡ false
any_same true [] h = absurd (cc)
any_same true (s ∷ sends) h = any_same true sends h
any_same false sends h = refl

module _ (who : Speaker) (port : ℕ) (own : Ip4) (c : WebChain) (l : Live) (old new : Objects Obj) (link : Client) (isn : ℕ) (came : OpenInput) (put : Put) (ns : List Notice) where
  abbrev o : Open
  o = record { speaker = who; objects = objects.Web port own c }

  abbrev conn : Connection
  conn = connection_of isn l

  abbrev talk : Talk NoTask
  talk = talk_of (web_talking l.target) conn l.exchanges

  -- What is known of it: it puts so, and the three go on or have ended.
  pub record WebCalled : Type 0 where
    pub kind : l.kind ≡ http isn
    pub lives : IsOpenOf old o l
    pub talks : IsTalkingWeb isn own c old l
    pub puts : PutsAt (web_talking l.target) conn talk came put
    pub records : put_by o link ns ≡ advance_records l.number put.advance ++ segment_records conn link put.sends
    pub lacks : any_lacks_route link who ns ≡ loses_way conn link put.sends
    pub closes : first_close ns ≡ put.over
    pub comes : ComesOfWeb c new ns
    pub kinds : AreOfWeb c new
    pub noded : AreNoded rank_of_obj new
    pub still : AreChained new (web_ids c)
    pub stands : (outs : List Out) → put.over ≡ None → StandsForTalk (ask_of isn own l) l.since (talk_of (web_talking l.target) conn (l.exchanges ++ exchange came link outs ∷ [])).calls c new
    pub silent : delivered_bytes ns ≡ None
    pub unfound : delivered_address ns ≡ None
    pub brings : (outs : List Out) (x : Cause) → put.over ≡ Some x → is_ok_cause x ≡ true → Brings o (with_exchange l came link outs) new

  module _ (k : WebCalled) where
    -- the promise is kept by what it puts with its end
    kept : (outs : List Out) → outs ≡ put_records conn link put → Keeps (with_exchange l came link outs)
    kept outs is =
        subst (λ z. KeepsBy z (with_exchange l came link outs)) (sym k.kind)
        (each_last (KeepsAt (web_talking l.target) conn) [] l.exchanges (exchange came link outs) k.talks.keeps (record { put = put; puts = k.puts; records = is }))

    -- with this end
    ends_by : (end : Option Cause) → talk_end conn link put ≡ end → put_by o link ns ++ end_records l.number end ≡ put_records conn link put
    ends_by end is = ap (λ z. z ++ end_records l.number end) k.records ∙ ap (λ z. (advance_records l.number put.advance ++ segment_records conn link put.sends) ++ end_records l.number z) (sym is)

    end_is : (over : Option Cause) (lost : Bool) → put.over ≡ over → loses_way conn link put.sends ≡ lost → talk_end conn link put ≡ earlier_end over (cond lost (Some (no_route l.server)) None)
    end_is over lost e g = ap (λ z. earlier_end z (cond (loses_way conn link put.sends) (Some (no_route l.server)) None)) e ∙ ap (λ z. earlier_end over (cond z (Some (no_route l.server)) None)) g

    called_still : (outs : List Out) → IsSpeakerOf o (with_exchange l came link outs)
    called_still outs = let called = k.lives.called in record { number = called.number; server = called.server; own = called.own; device = called.device; kind = called.kind; carrier = called.carrier; asks = called.asks }

    still_open : first_close ns ≡ None → ComesOfWeb c new ns → IsOpenWeb c new
    still_open none (goes_on still is_open) = is_open
    still_open none (has_closed cause closes shut) = absurd (let z : None ≡ Some cause = sym none ∙ closes in cc)

    all_shut : (x : Cause) → first_close ns ≡ Some x → ComesOfWeb c new ns → IsShutWeb c new
    all_shut x some (goes_on still is_open) = absurd (let z : None ≡ Some x = sym still ∙ some in cc)
    all_shut x some (has_closed cause closes shut) = shut

    -- where the user closes it then, that finds no route either
    hush : put.over ≡ None → IsOpenWeb c new → any_lacks_route link who ns ≡ true → (after : Objects Obj) (m n : Heard) (cause : Cause) (closes : ClosesWeb c new after cause m n) → AddsNothing link who closes.ns
    hush over is_open lacks after m n cause closes =
        let calls = (talk_of (web_talking l.target) conn (l.exchanges ++ exchange came link [] ∷ [])).calls in
        let segment : SendTo = outgoing_message conn.link (closing_segment isn (conn_phase isn calls)) in
        closing_hushed who link isn own c l l.since calls new after m n cause closes (k.lives.called.carrier ∙ ap carrier_for k.kind) k.lives.called.server k.lives.called.own k.still (are_hosted c new k.still k.noded) is_open k.kinds
        (k.stands [] over) (any_same (has_route link segment) put.sends (sym k.lacks ∙ lacks))

    -- it goes on
    web_goes : put.over ≡ None → Goes o l came link new ns
    web_goes over =
        let none = k.closes ∙ over in
        let is_open = still_open none k.comes in
        let outs = put_by o link ns in
        record {
          none = none;
          unshut = is_open;
          lives = λ no chained.
              let records = sym (append-nil outs) ∙ ends_by None (end_is None false over (sym k.lacks ∙ no)) in
              record {
                chained = chained;
                called = called_still outs;
                under_way = subst (λ z. IsWebUnderWay z own c new (with_exchange l came link outs)) (sym k.kind) (record {
                  opened = is_open;
                  kinds = k.kinds;
                  hosted = are_hosted c new k.still k.noded;
                  stands = k.stands outs over;
                  keeps = each_last (KeepsAt (web_talking l.target) conn) [] l.exchanges (exchange came link outs) k.talks.keeps (record { put = put; puts = k.puts; records = records });
                  asked = k.talks.asked;
                });
              };
          stuck = λ lacks. kept (last_by o l link ns (no_route l.server)) (ends_by (Some (no_route l.server)) (end_is None true over (sym k.lacks ∙ lacks)));
          silent = k.silent;
          answers = λ any put. tt;
          up = tt;
          kinds = k.kinds;
          hushed = hush over is_open;
        }

    -- it has ended
    web_over : (x : Cause) → put.over ≡ Some x → Overs o l came link new ns x
    web_over x over =
        let last = last_by o l link ns x in
        record {
          closes = k.closes ∙ over;
          shut = all_shut x (k.closes ∙ over) k.comes;
          kept = kept last (ends_by (Some x) (end_is (Some x) (loses_way conn link put.sends) over refl));
          brings = k.brings last x over;
          bytes = ap (λ z. granted_of z (with_exchange l came link last).exchanges) k.kind ∙ sym k.silent;
          address = ap (λ z. resolved_of z (with_exchange l came link last)) k.kind ∙ sym k.unfound;
          message = λ bytes some. absurd (let no : Some bytes ≡ None = sym some ∙ k.silent in cc);
          answers = λ any put. tt;
          up = tt;
        }

    by_end : (over : Option Cause) → put.over ≡ over → Did o l came link new ns
    by_end None e = goes (web_goes e)
    by_end (Some x) e = overs x (web_over x e)

  pub web_did : WebCalled → Did o l came link new ns
  web_did k = by_end k put.over refl
