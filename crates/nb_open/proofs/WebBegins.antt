-- The user asks of the three of an open by HTTP, of which nothing was asked: what the call says of the open, and its close where it found no route.
use Rattle.std.proofs.Common.{◌≡◌, ℕ, ◌<◌, Bool, true, false, cond, List, [], ◌∷◌, ◌++◌, length, Some, None, refl, sym, ◌∙◌, ap, subst, arith}
use Rattle.std.specs.List.{flat_map, list_any}
use Rattle.nb_terms.specs.declared.acts.SendTo.{SendTo}
use Rattle.nb_terms.specs.declared.cause.Cause.{Cause}
use Rattle.nb_defs.specs.Records.{Out, ended, sent}
use Rattle.nb_ledger.specs.Flat.{Heard, Notice}
use Rattle.nb_graph.specs.Noded.{AreNoded}
use Rattle.nb_graph.specs.Whole.{Objects}
use Rattle.nb_nodes.specs.declared.obj.Obj.{Obj}
use Rattle.nb_nodes.specs.Objects.{rank_of_obj}
use Rattle.nb_chains.specs.Chains.{AreChained}
use Rattle.nb_opens.specs.Notices.{first_close}
use Rattle.nb_stack.specs.Client.{Client}
use Rattle.nb_stack.specs.Sends.{put_on, way_of}
use Rattle.nb_streams.specs.Flows.{text_came}
use Rattle.nb_streams.specs.Sending.{closing_segment, syn}
use Rattle.nb_talks.specs.Talking.{Talk, talk_after}
use Rattle.nb_talks.specs.TalkPromises.{close_put, phase_of}
use Rattle.nb_tcp.specs.Messages.{outgoing_message}
use Rattle.nb_conns.specs.ConnAsks.{link_of}
use Rattle.nb_conns.specs.ConnEffects.{segments_say}
use Rattle.nb_responses.specs.Requests.{request_text}
use Rattle.nb_webs.specs.Webs.{web}
use Rattle.nb_traced.specs.Plain.{without_graph}
use Rattle.nb_wire.specs.declared.address.Ip4.{Ip4}
use Rattle.nb_machine.specs.Connections.{Connection, KeepsAt, connection_of, put_records, syn_message, talk_of}
use Rattle.nb_machine.specs.Kinds.{Keeps, first_records}
use Rattle.nb_machine.specs.Lives.{Live}
use Rattle.nb_machine.specs.Sendings.{has_route, try_records}
use Rattle.nb_machine.specs.Webs.{request_at, web_talking}
use Rattle.nb_webchains.specs.declared.web_chain.WebChain.{WebChain}
use Rattle.nb_webchains.specs.WebCalls.{ClosesWeb, ComesOfWeb, goes_on, has_closed}
use Rattle.nb_webchains.proofs.Opened.{ready_open}
use Rattle.nb_webnodes.specs.WebAsks.{ask_parts}
use Rattle.nb_webtalks.specs.Comings.{BeginComes, begin_lacks_memory, begin_comes_so}
use Rattle.nb_webtalks.proofs.Called.{begins}
use Rattle.nb_webtalks.proofs.Starting.{are_hosted}
use Rattle.nb_webchains.specs.WebChains.{AreOfWeb, IsOpenWeb, IsReadyWeb, web_ids}
use Rattle.nb_webtalks.specs.TalkStands.{AreHosted, StandsForTalk}
use Rattle.nb_webtalks.specs.Tellings.{messages_of}
use Rattle.nb_teller.specs.Speakers.{datagram_of}
use Rattle.nb_teller.specs.Tellings.{told_records}
use Rattle.nb_open.specs.declared.objects.OpenObjects.TheVariants as objects
use Rattle.nb_open.specs.declared.open.Open.{Open}
use Rattle.nb_open.specs.declared.opening.Opening.{Opening}
use Rattle.nb_open.specs.declared.opening.WebOpening.{WebOpening}
use Rattle.nb_open.specs.declared.opening.Opening.TheVariants.{File, Web, Drive, Name, Lease, Echo}
use Rattle.nb_open.specs.Ends.{closed_open}
use Rattle.nb_open.specs.Making.{AsksWeb}
use Rattle.nb_open.specs.Open.{IsOpenOf, IsSpeakerOf, IsTalkingWeb, ask_of}
use Rattle.nb_open.specs.Opening.{AsksItsUrl, CanOpen, address_by, is_web, kind_by, live_by}
use Rattle.nb_open.proofs.AskingFirst.{Sets, SetsOrFails, runs_short, sets}
use Rattle.nb_open.proofs.FirstMessages.{asks_at_first, first_acts_are, first_of}
use Rattle.nb_open.proofs.WebCloses.{web_closed_keeps}
use Rattle.nb_open.proofs.WebPuts.{lacks_messages, one_lacks, one_segment, put_messages, said_lacks, said_records, speaks_on}

-- WHERE ITS SYN IS ASKED FOR

-- it is given its request
begun_calls : (l : Live) (isn : ℕ) (name path : List ℕ) (port : ℕ) → request_at l.target ≡ request_text name port path → (talk_of (web_talking l.target) (connection_of isn l) []).calls ≡ text_came (request_text name port path) l.since ∷ []
begun_calls l isn name path port is = ap (λ (request : List ℕ). (talk_after (web request) isn l.since []).calls) is

module _ (a : WebOpening) (number now : ℕ) (link : Client) (o : Open) (port : ℕ) (own : Ip4) (c : WebChain) (mid : Objects Obj) (rec : ℕ) (ns : List Notice) (can : AsksItsUrl a) (from : own ≡ a.ask.conn.own) (called : IsSpeakerOf o (live_by (Web a) number now)) where
  abbrev l : Live
  l = live_by (Web a) number now

  abbrev first : SendTo
  first = outgoing_message (link_of a.ask.conn) (syn a.ask.conn.isn)

  -- the open speaks for its connection
  speaks : datagram_of o.speaker first.to_port first.body.items ≡ first
  speaks = speaks_on o.speaker (link_of a.ask.conn) (syn a.ask.conn.isn) called.carrier (ap (λ z. record { 0 = z }) (sym called.server)) (sym called.own)

  talks : IsOpenWeb c mid → AreOfWeb c mid → AreHosted c mid → StandsForTalk a.ask.conn now (text_came (request_text a.ask.host.now a.ask.conn.peer_port a.ask.path.now) now ∷ []) c mid → IsTalkingWeb a.ask.conn.isn own c mid l
  talks is_open kinds hosted stands = record {
    opened = is_open;
    kinds = kinds;
    hosted = hosted;
    stands = subst (λ z. StandsForTalk (ask_of a.ask.conn.isn z l) now (talk_of (web_talking l.target) (connection_of a.ask.conn.isn l) []).calls c mid) (sym from)
        (subst (λ z. StandsForTalk a.ask.conn now z c mid) (sym (begun_calls l a.ask.conn.isn a.ask.host.now a.ask.path.now a.ask.conn.peer_port (sym can.request))) stands);
    keeps = tt;
    asked = subst (λ (z : List ℕ). 0 < length z) can.request (some_request a.ask.host.now a.ask.path.now a.ask.conn.peer_port);
  }
    where
      some_request : (name path : List ℕ) (at : ℕ) → 0 < length (request_text name at path)
      some_request name path at = omega arith

  pub web_sets : first_close ns ≡ None → messages_of ns ≡ segments_say rec (Some 1) (first ∷ []) → IsTalkingWeb a.ask.conn.isn own c mid l → Sets (Web a) number now link o (objects.Web port own c) mid ns
  web_sets none says talking =
      let h = asks_at_first o link first ns none
      (put_messages link o.speaker ns ∙ (ap (flat_map (said_records link o.speaker)) says ∙ (one_segment link o.speaker first speaks rec (Some 1) ∙ sym (first_acts_are link o.speaker.number first))))
      (lacks_messages link o.speaker ns ∙ (ap (list_any (said_lacks link o.speaker)) says ∙ one_lacks link o.speaker first speaks rec (Some 1))) in
      record {
        none = none;
        under_way = talking;
        up = tt;
        found = λ no. ap (λ k. first_of link k first) called.number ∙ h.found no;
        lost = λ yes. (ap (λ k. first_of link k first) called.number ∙ (h.lost yes).0, (h.lost yes).1);
      }

pub stays_open : (c : WebChain) (g : Objects Obj) (ns : List Notice) → first_close ns ≡ None → ComesOfWeb c g ns → IsOpenWeb c g
stays_open c g ns none (goes_on still is_open) = is_open
stays_open c g ns none (has_closed cause closes shut) = absurd (let z : None ≡ Some cause = sym none ∙ closes in cc)

module _ (number now : ℕ) (link : Client) (o : Open) (port : ℕ) (own : Ip4) (c : WebChain) (old mid : Objects Obj) (rec : ℕ) (m n : Heard) (ready : IsReadyWeb c old) (before : AreNoded rank_of_obj old) (chained : AreChained mid (web_ids c)) (after : AreNoded rank_of_obj mid) where
  asked_by : (a : WebOpening) (k : AsksWeb (Web a) c old mid now rec m n) → AsksItsUrl a → own ≡ a.ask.conn.own → IsSpeakerOf o (live_by (Web a) number now) → SetsOrFails (Web a) number now link o (objects.Web port own c) mid k.does.ns
  asked_by a k can from called = by (begins (ask_parts a.ask) c old mid rec now (length a.ask.host.now) k.bytes m n k.does
      (record { was = ready.ready.chained; is = chained; hosted = are_hosted c old ready.ready.chained before; noded = after; opened = ready_open c old ready; kinds = ready.kinds }) ready k.asks k.short)
    where
      by : BeginComes (ask_parts a.ask) c mid rec now k.does.ns → SetsOrFails (Web a) number now link o (objects.Web port own c) mid k.does.ns
      by (begin_lacks_memory memory) = runs_short memory
      by (begin_comes_so says none stands) =
          let is_open = stays_open c mid k.does.ns none (k.does.comes (ready_open c old ready)) in
          sets (web_sets a number now link o port own c mid rec k.does.ns can from called none says
          (talks a number now link o port own c mid rec k.does.ns can from called is_open (k.does.kinds ready.kinds) (are_hosted c mid chained after) stands))

  -- its first message leaves, or finds no route
  pub web_begins : (a : Opening) (k : AsksWeb a c old mid now rec m n) → is_web a ≡ true → CanOpen a → own ≡ address_by a → IsSpeakerOf o (live_by a number now) → SetsOrFails a number now link o (objects.Web port own c) mid k.does.ns
  web_begins (File a) k is can from called = absurd (cc)
  web_begins (Web a) k is can from called = asked_by a k can from called
  web_begins (Drive a) k is can from called = absurd (cc)
  web_begins (Name a) k is can from called = absurd (cc)
  web_begins (Lease a) k is can from called = absurd (cc)
  web_begins (Echo a) k is can from called = absurd (cc)

-- WHERE IT FOUND NO ROUTE

pub only_last : (xs : List Out) (e : Out) → xs ++ e ∷ [] ≡ e ∷ [] → xs ≡ []
only_last [] e h = refl
only_last (x ∷ []) e h = absurd (cc)
only_last (x ∷ y ∷ xs) e h = absurd (cc)

pub no_first : (b : Bool) (outs : List Out) → cond b (Some outs) None ≡ None → b ≡ false
no_first true outs h = absurd (cc)
no_first false outs h = refl

none_sent : (b : Bool) (outs : List Out) → b ≡ false → cond b outs [] ≡ []
none_sent true outs h = absurd (cc)
none_sent false outs h = refl

-- a close puts nothing then
pub closing_puts : {T : Type 0} (c : Connection) (link : Client) (isn : ℕ) (d : Talk T) (cause : Cause) → has_route link (syn_message c) ≡ false → put_records c link (close_put isn d cause) ≡ ended c.number cause ∷ []
closing_puts c link isn d cause lost =
    let segment : SendTo = outgoing_message c.link (closing_segment isn (phase_of isn d)) in
    ap (λ z. (z ++ []) ++ ended c.number cause ∷ []) (none_sent (has_route link segment) (try_records c.number None ++ (sent (put_on link segment (way_of link segment)) ∷ [])) lost)

pub web_closes_silent : (a : Opening) (number now : ℕ) (link : Client) (o : Open) (port : ℕ) (own : Ip4) (c : WebChain) (mid new : Objects Obj) (cause : Cause) (m n : Heard) → is_web a ≡ true → IsOpenOf mid (record { speaker = o.speaker; objects = objects.Web port own c }) (live_by a number now) →
    (closes : ClosesWeb c mid new cause m n) → first_records (kind_by a) (live_by a number now) link ≡ None → without_graph (told_records link o.speaker closes.ns) ≡ []
web_closes_silent (File a) number now link o port own c mid new cause m n is lives closes lost = absurd (cc)
web_closes_silent (Web a) number now link o port own c mid new cause m n is lives closes lost =
    let l = live_by (Web a) number now in
    let put = without_graph (told_records link o.speaker closes.ns) in
    let keeps : Keeps (closed_open l cause link put) = web_closed_keeps o.speaker port own c l mid new link m n cause lives closes in
    let first : KeepsAt _ (connection_of a.ask.conn.isn l) [] _ = keeps.0 in
    let no : has_route link (syn_message (connection_of a.ask.conn.isn l)) ≡ false = no_first (has_route link (syn_message (connection_of a.ask.conn.isn l))) _ lost in
    only_last put (ended number cause) (first.records ∙ (ap (put_records (connection_of a.ask.conn.isn l) link) first.puts ∙ closing_puts (connection_of a.ask.conn.isn l) link a.ask.conn.isn (talk_of (web_talking l.target) (connection_of a.ask.conn.isn l) []) cause no))
web_closes_silent (Drive a) number now link o port own c mid new cause m n is lives closes lost = absurd (cc)
web_closes_silent (Name a) number now link o port own c mid new cause m n is lives closes lost = absurd (cc)
web_closes_silent (Lease a) number now link o port own c mid new cause m n is lives closes lost = absurd (cc)
web_closes_silent (Echo a) number now link o port own c mid new cause m n is lives closes lost = absurd (cc)
