-- What a connection's open says to the network, as the records of its promise.
use Rattle.std.proofs.Common.{◌≡◌, ◌⊎◌, inl, inr, cond, ℕ, ◌||◌, not, Bool, true, false, List, [], ◌∷◌, ◌++◌, length, take, drop, Option, Some, None, refl, sym, ◌∙◌, ap, append-nil, if◌then◌else◌}
use Rattle.std.specs.List.{flat_map, list_any}
use Rattle.std.proofs.lemmas.List.Concat.{flat_map-append}
use Rattle.std.proofs.lemmas.List.Folds.{list_any-append}
use Rattle.nb_terms.specs.declared.acts.SendTo.{SendTo}
use Rattle.nb_terms.specs.declared.cause.Cause.{Cause}
use Rattle.nb_defs.specs.Records.{sent}
use Rattle.nb_conns.specs.declared.conn_ask.ConnAsk.{ConnAsk}
use Rattle.nb_conns.specs.ConnAsks.{link_of}
use Rattle.nb_conns.specs.ConnEffects.{place_says, tried_number}
use Rattle.nb_retry.specs.declared.retry.Due.{Due}
use Rattle.nb_retry.specs.declared.retry.Due.TheVariants.{Again, Not, Over}
use Rattle.nb_stack.specs.Client.{Client}
use Rattle.nb_stack.specs.declared.address.Addr.{Addr}
use Rattle.nb_stack.specs.Route.{hop_by, is_in_net, packet_route}
use Rattle.nb_stack.specs.Near.{mac_of}
use Rattle.nb_stack.specs.Sends.{message_frame, put_by, put_on, way_of}
use Rattle.nb_streams.specs.Endings.{segment_end}
use Rattle.nb_streams.specs.Flows.{ConnPhase, TcpCall, asking, conn_phase, flowing}
use Rattle.nb_streams.specs.Segments.{Arrival, Incoming}
use Rattle.nb_streams.specs.Sending.{Outgoing, calls_for, only_if}
use Rattle.nb_talks.specs.TalkPromises.{Sends, closes_by, due_sends}
use Rattle.nb_tcp.specs.declared.link.Link.{Link}
use Rattle.nb_tcp.specs.Messages.{outgoing_message}
use Rattle.nb_machine.specs.Connections.{Connection, loses_way, segment_records}
use Rattle.nb_machine.specs.Sendings.{advance_records, has_route, send_records, try_records}
use Rattle.nb_webs.specs.Webs.{web_put}
use Rattle.nb_wire.specs.declared.address.Mac.{Mac}
use Rattle.nb_wire.specs.declared.address.Ip4.{Ip4}
use Rattle.nb_teller.specs.declared.speaker.Carrier.TheVariants.{Tcp}
use Rattle.nb_teller.specs.declared.speaker.Speaker.{Speaker}
use Rattle.nb_teller.specs.Speakers.{carrier_number, datagram_of}
use Rattle.nb_teller.specs.Tellings.{try_by}
use Rattle.nb_webtalks.specs.Comings.{response_end, segment_says, sends_say, calls_with_segment}
use Rattle.nb_open.proofs.WebPuts.{one_lacks, one_segment, said_lacks, said_records}

-- HOW MANY ARE SENT

-- the try of a message's first sending, or of none
abbrev pub IsFirst : Option ℕ → Type 0
IsFirst t = (t ≡ None) ⊎ (t ≡ Some 1)

-- one segment, or two of which the first is no try
pub data AreFew : Sends → Type 0 where
  none_sent : AreFew []
  one_sent : (s : Outgoing × Option ℕ) → AreFew (s ∷ [])
  two_sent : (o : Outgoing) (s : Outgoing × Option ℕ) → IsFirst s.1 → AreFew ((o, None) ∷ (s ∷ []))

pub few_if : (b : Bool) (s : Outgoing × Option ℕ) → AreFew (only_if b s)
few_if true s = one_sent s
few_if false s = none_sent

few_then : (o : Outgoing) (b : Bool) (s : Outgoing × Option ℕ) → IsFirst s.1 → AreFew ((o, None) ∷ only_if b s)
few_then o true s first = two_sent o s first
few_then o false s first = one_sent (o, None)

few_both : (a b : Bool) (o : Outgoing) (s : Outgoing × Option ℕ) → IsFirst s.1 → AreFew (only_if a (o, None) ++ only_if b s)
few_both true b o s first = few_then o b s first
few_both false b o s first = few_if b s

few_either : (b : Bool) (xs ys : Sends) → AreFew xs → AreFew ys → AreFew (if b then xs else ys)
few_either true xs ys f g = f
few_either false xs ys f g = g

pub few_calls : (isn : ℕ) (p : ConnPhase) (s : Incoming) → AreFew (calls_for isn p s)
few_calls isn (asking text) s = few_either _ _ _ (few_then _ _ _ (inr refl)) (few_if _ _)
few_calls isn (flowing f) s = few_either _ _ _ (few_either _ _ _ (two_sent _ _ (inl refl)) (few_both _ _ _ _ (inr refl))) (few_if _ _)

pub few_closes : (ends other : Option Cause) (isn : ℕ) (p : ConnPhase) → AreFew (closes_by ends other isn p)
few_closes None other isn p = none_sent
few_closes (Some x) None isn p = one_sent _
few_closes (Some x) (Some y) isn p = none_sent

pub few_due : (isn : ℕ) (p : ConnPhase) (due : Due) → AreFew (due_sends isn p due)
few_due isn p Not = none_sent
few_due isn p (Again n) = one_sent _
few_due isn p Over = none_sent

-- ONE SEGMENT

-- a segment is put so whatever port is named beside it
module _ (net : Client) (l : Link) (port other : ℕ) (bytes : List ℕ) where
  abbrev to_port : ℕ → SendTo
  to_port p = record { proto = 6; to = l.peer; to_port = p; own_port = l.own_port; body = record { items = bytes } }

  by_mac : (from hop : Ip4) (mac : Option Mac) → put_by net from hop (to_port port) mac ≡ put_by net from hop (to_port other) mac
  unfolding message_frame
  by_mac from hop None = refl
  by_mac from hop (Some mac) = refl

  by_hop : (hop : Option Ip4) (from : Ip4) → put_on net (to_port port) (hop_by hop from) ≡ put_on net (to_port other) (hop_by hop from)
  by_hop None from = refl
  by_hop (Some hop) from = by_mac from hop (mac_of hop net.near)

  by_net : (b : Bool) (address : Addr) → put_on net (to_port port) (cond b (hop_by (Some l.peer) address.ip) (hop_by address.gateway address.ip)) ≡ put_on net (to_port other) (cond b (hop_by (Some l.peer) address.ip) (hop_by address.gateway address.ip))
  by_net true address = by_hop (Some l.peer) address.ip
  by_net false address = by_hop address.gateway address.ip

  by_route : (up : Bool) (address : Option Addr) → put_on net (to_port port) (packet_route up address l.peer) ≡ put_on net (to_port other) (packet_route up address l.peer)
  by_route false address = refl
  by_route true None = refl
  by_route true (Some address) = by_net (is_in_net address l.peer) address

  put_anywhere : put_on net (to_port port) (way_of net (to_port port)) ≡ put_on net (to_port other) (way_of net (to_port other))
  put_anywhere = by_route net.up net.address

take_first : (xs ys : List ℕ) → take (length xs) (xs ++ ys) ≡ xs
take_first [] ys = refl
take_first (x ∷ xs) ys = ap (λ z. x ∷ z) (take_first xs ys)

drop_first : (xs ys : List ℕ) → drop (length xs) (xs ++ ys) ≡ ys
drop_first [] ys = refl
drop_first (x ∷ xs) ys = drop_first xs ys

either_three : (a b d : Bool) → ((a || b) || d) ≡ (a || (b || d))
either_three true b d = refl
either_three false b d = refl

module _ (net : Client) (who : Speaker) (c : Connection) (number : who.number ≡ c.number) (carrier : who.carrier ≡ Tcp) (server : who.server ≡ c.link.peer) (own : who.own_port ≡ c.link.own_port) where
  abbrev message : Outgoing → SendTo
  message o = outgoing_message c.link o

  -- what the open sends is its connection's
  as_sent : (o : Outgoing) (port : ℕ) → datagram_of who port (message o).body.items ≡ record (message o) { to_port = port }
  as_sent o port =
      ap (λ z. record { proto = carrier_number z; to = who.server; to_port = port; own_port = who.own_port; body = (message o).body }) carrier
      ∙ ap (λ z. record { proto = 6; to = z; to_port = port; own_port = who.own_port; body = (message o).body }) server
      ∙ ap (λ z. record { proto = 6; to = c.link.peer; to_port = port; own_port = z; body = (message o).body }) own

  sent_to : (o : Outgoing) (port : ℕ) (t : Option ℕ) → send_records net who.number t (datagram_of who port (message o).body.items) ≡ send_records net c.number t (message o)
  sent_to o port t =
      ap (λ n. send_records net n t (datagram_of who port (message o).body.items)) number ∙ ap (send_records net c.number t) (as_sent o port)
      ∙ ap (λ z. if has_route net (message o) then try_records c.number t ++ (sent z ∷ []) else []) (put_anywhere net c.link port c.link.peer_port (message o).body.items)

  lacks_to : (o : Outgoing) (port : ℕ) → not (has_route net (datagram_of who port (message o).body.items)) ≡ not (has_route net (message o))
  lacks_to o port = ap (λ m. not (has_route net m)) (as_sent o port)

  first_try : (t : Option ℕ) → IsFirst t → try_by (tried_number t) ≡ t
  first_try t (inl none) = ap (λ z. try_by (tried_number z)) none ∙ sym none
  first_try t (inr one) = ap (λ z. try_by (tried_number z)) one ∙ sym one

  -- SEGMENTS

  two_records : (rec : ℕ) (o : Outgoing) (s : Outgoing × Option ℕ) → IsFirst s.1 → flat_map (said_records net who) (sends_say c.link rec ((o, None) ∷ (s ∷ []))) ≡ segment_records c net ((o, None) ∷ (s ∷ []))
  two_records rec o s first =
      let one = (message o).body.items in
      let two = (message s.0).body.items in
      let a = send_records net c.number None (message o) in
      let b = send_records net c.number s.1 (message s.0) in
      append-nil _
      ∙ ap (λ z. send_records net who.number None (datagram_of who 0 z) ++ send_records net who.number (try_by (tried_number s.1)) (datagram_of who 0 (drop (length one) (one ++ two)))) (take_first one two)
      ∙ ap (λ z. send_records net who.number None (datagram_of who 0 one) ++ send_records net who.number (try_by (tried_number s.1)) (datagram_of who 0 z)) (drop_first one two)
      ∙ ap (λ t. send_records net who.number None (datagram_of who 0 one) ++ send_records net who.number t (datagram_of who 0 two)) (first_try s.1 first)
      ∙ ap (λ z. z ++ send_records net who.number s.1 (datagram_of who 0 two)) (sent_to o 0 None)
      ∙ ap (λ z. a ++ z) (sent_to s.0 0 s.1)
      ∙ ap (λ z. a ++ z) (sym (append-nil b))

  pub few_records : (rec : ℕ) (xs : Sends) → AreFew xs → flat_map (said_records net who) (sends_say c.link rec xs) ≡ segment_records c net xs
  few_records rec _ none_sent = refl
  few_records rec _ (one_sent s) =
      one_segment net who (message s.0) (as_sent s.0 c.link.peer_port) rec s.1 ∙ ap (λ n. send_records net n s.1 (message s.0)) number ∙ sym (append-nil (send_records net c.number s.1 (message s.0)))
  few_records rec _ (two_sent o s first) = two_records rec o s first

  two_lack : (rec : ℕ) (o : Outgoing) (s : Outgoing × Option ℕ) → list_any (said_lacks net who) (sends_say c.link rec ((o, None) ∷ (s ∷ []))) ≡ loses_way c net ((o, None) ∷ (s ∷ []))
  two_lack rec o s =
      let one = (message o).body.items in
      let two = (message s.0).body.items in
      ap (λ z. (not (has_route net (datagram_of who 0 z)) || not (has_route net (datagram_of who 0 (drop (length one) (one ++ two))))) || false) (take_first one two)
      ∙ ap (λ z. (not (has_route net (datagram_of who 0 one)) || not (has_route net (datagram_of who 0 z))) || false) (drop_first one two)
      ∙ ap (λ z. (z || not (has_route net (datagram_of who 0 two))) || false) (lacks_to o 0)
      ∙ ap (λ z. (not (has_route net (message o)) || z) || false) (lacks_to s.0 0)
      ∙ either_three (not (has_route net (message o))) (not (has_route net (message s.0))) false

  pub few_lack : (rec : ℕ) (xs : Sends) → AreFew xs → list_any (said_lacks net who) (sends_say c.link rec xs) ≡ loses_way c net xs
  few_lack rec _ none_sent = refl
  few_lack rec _ (one_sent s) = one_lacks net who (message s.0) (as_sent s.0 c.link.peer_port) rec s.1
  few_lack rec _ (two_sent o s first) = two_lack rec o s

  -- A CALL

  pub place_records : (rec : ℕ) (place : Option ℕ) → flat_map (said_records net who) (place_says rec place) ≡ advance_records c.number place
  place_records rec None = refl
  place_records rec (Some k) = ap (λ n. advance_records n (Some k)) number

  pub place_lacks : (rec : ℕ) (place : Option ℕ) → list_any (said_lacks net who) (place_says rec place) ≡ false
  place_lacks rec None = refl
  place_lacks rec (Some k) = refl

  module _ (a : ConnAsk) (is : link_of a ≡ c.link) (calls : List TcpCall) (m : Arrival) (now : ℕ) where
    abbrev by_segment : Sends
    by_segment = calls_for a.isn (conn_phase a.isn calls) m.segment

    abbrev by_end : Sends
    by_end = closes_by (response_end a calls m now) (segment_end a.isn (conn_phase a.isn calls) m) a.isn (conn_phase a.isn (calls_with_segment calls m now))

    few_end : AreFew by_end
    few_end = few_closes (response_end a calls m now) (segment_end a.isn (conn_phase a.isn calls) m) a.isn (conn_phase a.isn (calls_with_segment calls m now))

    few_segment : AreFew by_segment
    few_segment = few_calls a.isn (conn_phase a.isn calls) m.segment

    -- what a segment puts, but its end
    pub segment_puts : flat_map (said_records net who) (segment_says a calls m now) ≡ advance_records c.number (web_put a.isn calls m now).advance ++ segment_records c net (web_put a.isn calls m now).sends
    segment_puts =
        let place = place_says m.rec (web_put a.isn calls m now).advance in
        let one = sends_say (link_of a) m.rec by_segment in
        let two = sends_say (link_of a) 0 by_end in
        let f = flat_map (said_records net who) in
        let t = advance_records c.number (web_put a.isn calls m now).advance in
        flat_map-append (said_records net who) place (one ++ two) ∙ ap (λ z. z ++ f (one ++ two)) (place_records m.rec (web_put a.isn calls m now).advance)
        ∙ ap (λ z. t ++ z) (flat_map-append (said_records net who) one two
        ∙ ap (λ l. f (sends_say l m.rec by_segment) ++ f (sends_say l 0 by_end)) is
        ∙ ap (λ z. z ++ f (sends_say c.link 0 by_end)) (few_records m.rec by_segment few_segment) ∙ ap (λ z. segment_records c net by_segment ++ z) (few_records 0 by_end few_end)
        ∙ sym (flat_map-append (λ (s : Outgoing × Option ℕ). send_records net c.number s.1 (message s.0)) by_segment by_end))

    pub segment_lacks : list_any (said_lacks net who) (segment_says a calls m now) ≡ loses_way c net (web_put a.isn calls m now).sends
    segment_lacks =
        let place = place_says m.rec (web_put a.isn calls m now).advance in
        let one = sends_say (link_of a) m.rec by_segment in
        let two = sends_say (link_of a) 0 by_end in
        let f = list_any (said_lacks net who) in
        list_any-append (said_lacks net who) place (one ++ two) ∙ ap (λ z. z || f (one ++ two)) (place_lacks m.rec (web_put a.isn calls m now).advance)
        ∙ list_any-append (said_lacks net who) one two
        ∙ ap (λ l. f (sends_say l m.rec by_segment) || f (sends_say l 0 by_end)) is
        ∙ ap (λ z. z || f (sends_say c.link 0 by_end)) (few_lack m.rec by_segment few_segment) ∙ ap (λ z. loses_way c net by_segment || z) (few_lack 0 by_end few_end)
        ∙ sym (list_any-append (λ (s : Outgoing × Option ℕ). not (has_route net (message s.0))) by_segment by_end)
