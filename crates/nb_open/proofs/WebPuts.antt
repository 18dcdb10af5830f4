-- What is told of an open by HTTP, as records: by the messages that go to the network.
use Rattle.std.proofs.Common.{◌≡◌, ℕ, ◌||◌, not, Bool, false, cond, List, [], ◌∷◌, ◌++◌, Option, Some, None, refl, ◌∙◌, ap}
use Rattle.std.specs.List.{AllByRecursion, flat_map, list_any}
use Rattle.std.proofs.lemmas.List.{append-nil}
use Rattle.nb_terms.specs.declared.acts.SendTo.{SendTo}
use Rattle.nb_defs.specs.Records.{Out}
use Rattle.nb_conns.specs.ConnEffects.{segments_say}
use Rattle.nb_graph.specs.Trace.{Said}
use Rattle.nb_ledger.specs.Flat.{Notice, event, message}
use Rattle.nb_stack.specs.Client.{Client}
use Rattle.nb_machine.specs.Sendings.{has_route, send_records}
use Rattle.nb_traced.specs.Plain.{without_graph}
use Rattle.nb_traced.proofs.Plain.{plain_append, plain_aside}
use Rattle.nb_teller.specs.declared.speaker.Speaker.{Speaker}
use Rattle.nb_streams.specs.Sending.{Outgoing}
use Rattle.nb_tcp.specs.declared.link.Link.{Link}
use Rattle.nb_tcp.specs.Messages.{outgoing_message}
use Rattle.nb_teller.specs.declared.speaker.Carrier.TheVariants.{Tcp}
use Rattle.nb_teller.specs.Speakers.{carrier_number, datagram_of}
use Rattle.nb_teller.specs.Tellings.{any_lacks_route, message_lacks_route, message_records, told_records}
use Rattle.nb_webtalks.specs.Tellings.{messages_of}
use Rattle.std.specs.Option.{option_or}
use Rattle.nb_drivechains.specs.declared.drive_answer.DriveAnswer.{DriveAnswer}
use Rattle.nb_teller.specs.Deliveries.{delivered_address, delivered_answer, delivered_blocks, delivered_bytes}
use Rattle.nb_open.proofs.Callings.{of_message, puts_aside}
use Rattle.nb_open.proofs.Delivering.{DeliversNone}

-- nothing is delivered
abbrev pub DeliverNothing : List Notice → Type 0
DeliverNothing ns = (delivered_bytes ns ≡ None) × (delivered_address ns ≡ None) × (delivered_blocks ns ≡ []) × (delivered_answer ns ≡ None)

-- where no message is bytes, an address or an answer, nothing is delivered
pub none_delivered : (ns : List Notice) → AllByRecursion DeliversNone (messages_of ns) → DeliverNothing ns
unfolding delivered_bytes delivered_address delivered_blocks delivered_answer
none_delivered [] h = (refl, refl, refl, refl)
none_delivered (event e ∷ ns) h = none_delivered ns h
none_delivered (message from tag rec a b bytes ∷ ns) h =
    let later = none_delivered ns h.1 in (
      ap (λ z. cond z (Some bytes) (delivered_bytes ns)) h.0.0 ∙ later.0,
      ap (λ z. cond z (Some (record { 0 = a })) (delivered_address ns)) h.0.1 ∙ later.1,
      ap (λ z. cond z (bytes ++ delivered_blocks ns) (delivered_blocks ns)) h.0.0 ∙ later.2,
      ap (λ z. option_or (cond z (let answer : DriveAnswer = record { blocks = a; chap = b } in Some answer) None) (delivered_answer ns)) h.0.2 ∙ later.3,
    )

-- who speaks for a connection sends its segments
pub speaks_on : (who : Speaker) (l : Link) (o : Outgoing) → who.carrier ≡ Tcp → who.server ≡ l.peer → who.own_port ≡ l.own_port → datagram_of who l.peer_port (outgoing_message l o).body.items ≡ outgoing_message l o
speaks_on who l o carrier server own =
    ap (λ z. record { proto = carrier_number z; to = who.server; to_port = l.peer_port; own_port = who.own_port; body = (outgoing_message l o).body }) carrier
    ∙ (ap (λ z. record { proto = 6; to = z; to_port = l.peer_port; own_port = who.own_port; body = (outgoing_message l o).body }) server
    ∙ ap (λ z. record { proto = 6; to = l.peer; to_port = l.peer_port; own_port = z; body = (outgoing_message l o).body }) own)

module _ (net : Client) (who : Speaker) where
  -- the records of a message, and whether it finds no route
  abbrev pub said_records : Said → List Out
  said_records m = message_records net who m.tag m.a m.b m.bytes

  abbrev pub said_lacks : Said → Bool
  said_lacks m = message_lacks_route net who m.tag m.b m.bytes

  -- all records but the graph's are those of the messages
  pub put_messages : (ns : List Notice) → without_graph (told_records net who ns) ≡ flat_map said_records (messages_of ns)
  put_messages [] = refl
  put_messages (event e ∷ ns) = put_messages ns
  put_messages (message from tag rec a b bytes ∷ ns) =
      let ms = message_records net who tag a b bytes in
      plain_append ms (told_records net who ns) ∙ (ap (λ z. z ++ without_graph (told_records net who ns)) (plain_aside ms (puts_aside who.number ms (of_message net who tag a b bytes))) ∙ ap (λ z. ms ++ z) (put_messages ns))

  pub lacks_messages : (ns : List Notice) → any_lacks_route net who ns ≡ list_any said_lacks (messages_of ns)
  lacks_messages [] = refl
  lacks_messages (event e ∷ ns) = lacks_messages ns
  lacks_messages (message from tag rec a b bytes ∷ ns) = ap (λ z. message_lacks_route net who tag b bytes || z) (lacks_messages ns)

  -- one segment, as a try or not
  module _ (m : SendTo) (speaks : datagram_of who m.to_port m.body.items ≡ m) (rec : ℕ) where
    sent_as : datagram_of who m.to_port (m.body.items ++ []) ≡ m
    sent_as = ap (datagram_of who m.to_port) (append-nil m.body.items) ∙ speaks

    pub one_segment : (try : Option ℕ) → flat_map said_records (segments_say rec try (m ∷ [])) ≡ send_records net who.number try m
    one_segment None = append-nil (send_records net who.number None (datagram_of who m.to_port (m.body.items ++ []))) ∙ ap (send_records net who.number None) sent_as
    one_segment (Some n) = append-nil (send_records net who.number (Some n) (datagram_of who m.to_port (m.body.items ++ []))) ∙ ap (send_records net who.number (Some n)) sent_as

    pub one_lacks : (try : Option ℕ) → list_any said_lacks (segments_say rec try (m ∷ [])) ≡ (not (has_route net m) || false)
    one_lacks None = ap (λ z. not (has_route net z) || false) sent_as
    one_lacks (Some n) = ap (λ z. not (has_route net z) || false) sent_as
