-- What goes down of what a core asks: its records, and whether a message of it finds no route.
use Rattle.std.proofs.Common.{◌≡◌, ℕ, not, List, [], ◌∷◌, ◌++◌, map, Option, Some, None, refl, ◌∙◌, ap, subst, append-nil}
use Rattle.std.specs.List.{AllByRecursion, list_any}
use Rattle.nb_terms.specs.declared.acts.Acts.{Acts}
use Rattle.nb_terms.specs.declared.acts.SendTo.{SendTo}
use Rattle.nb_defs.specs.Records.{advanced}
use Rattle.nb_ledger.specs.declared.port.Port.{Port}
use Rattle.nb_graph.specs.Trace.{Said}
use Rattle.nb_nodes.specs.Carried.{advance_said, datagram_said, downs_of}
use Rattle.nb_opens.specs.Notices.{sent_from}
use Rattle.nb_stack.specs.Client.{Client}
use Rattle.nb_tftp.specs.Asks.{Begun, datagram}
use Rattle.nb_machine.specs.Sendings.{acts_records, advance_records, has_route, send_records, sends_records}
use Rattle.nb_machine.specs.Transfers.{finds_none}
use Rattle.nb_teller.specs.declared.speaker.Speaker.{Speaker}
use Rattle.nb_teller.specs.Speakers.{datagram_of}
use Rattle.nb_traced.specs.Pieces.{IsOfOpen}
use Rattle.nb_traced.specs.Plain.{without_graph}
use Rattle.nb_traced.proofs.Plain.{plain_aside}
use Rattle.nb_teller.specs.Tellings.{any_lacks_route, message_records, told_records}
use Rattle.nb_teller.proofs.TellingLemmas.{SpeaksFor, AreSendsOf, none as no_send, one as one_send}
use Rattle.nb_open.proofs.Callings.{each_append, of_message, puts_aside}

-- the messages that a core asks for: at most one, from who speaks
pub data AreSendsBy (who : Speaker) : List SendTo → Type 0 where
  none : AreSendsBy who []
  one : (port : ℕ) (body : List ℕ) → AreSendsBy who (datagram_of who port body ∷ [])

same_datagram : (who : Speaker) (b : Begun) (port : ℕ) (body : List ℕ) → SpeaksFor who b → datagram_of who port body ≡ datagram b port body
same_datagram who b port body is = rw (is.carrier, is.server, is.own_port) refl

-- those of a transfer are from who speaks for it
pub sends_by : (who : Speaker) (b : Begun) (sends : List SendTo) → SpeaksFor who b → AreSendsOf b sends → AreSendsBy who sends
sends_by who b sends is no_send = none
sends_by who b sends is (one_send port body) = subst (λ m. AreSendsBy who (m ∷ [])) (same_datagram who b port body is) (one port body)

module _ (net : Client) (who : Speaker) (p : Port) (rec : ℕ) where
  one_told : (try : Option ℕ) (port : ℕ) (body : List ℕ) →
      told_records net who (map (sent_from p) (map (datagram_said rec try) (datagram_of who port body ∷ []))) ≡ send_records net who.number try (datagram_of who port body)
  one_told None port body = append-nil (send_records net who.number None (datagram_of who port body))
  one_told (Some n) port body = append-nil (send_records net who.number (Some n) (datagram_of who port body))

  all_told : (try : Option ℕ) (sends : List SendTo) → AreSendsBy who sends →
      told_records net who (map (sent_from p) (map (datagram_said rec try) sends)) ≡ sends_records net who.number try sends
  unfolding sends_records
  all_told try sends none = refl
  all_told try sends (one port body) = one_told try port body

  downs_told : (acts : Acts) → AreSendsBy who acts.sends.items → told_records net who (map (sent_from p) (downs_of rec acts)) ≡ acts_records net who.number acts
  unfolding acts_records
  downs_told acts sends = by acts.advance
    where
      by : (advance : Option ℕ) → told_records net who (map (sent_from p) (advance_said rec advance ++ map (datagram_said rec acts.tried) acts.sends.items))
          ≡ advance_records who.number advance ++ sends_records net who.number acts.tried acts.sends.items
      by None = all_told acts.tried acts.sends.items sends
      by (Some place) = ap (λ r. advanced who.number place ∷ r) (all_told acts.tried acts.sends.items sends)

  messages_own : (ms : List Said) → AllByRecursion (IsOfOpen who.number) (told_records net who (map (sent_from p) ms))
  messages_own [] = tt
  messages_own (m ∷ ms) =
      each_append (IsOfOpen who.number) (message_records net who m.tag m.a m.b m.bytes) (told_records net who (map (sent_from p) ms)) (of_message net who m.tag m.a m.b m.bytes) (messages_own ms)

  -- what goes down of what a core asks are its records
  pub downs_others : (acts : Acts) → AreSendsBy who acts.sends.items → without_graph (told_records net who (map (sent_from p) (downs_of rec acts))) ≡ acts_records net who.number acts
  downs_others acts sends = plain_aside (told_records net who (map (sent_from p) (downs_of rec acts))) (puts_aside who.number _ (messages_own (downs_of rec acts))) ∙ downs_told acts sends

  one_lacks : (try : Option ℕ) (port : ℕ) (body : List ℕ) →
      any_lacks_route net who (map (sent_from p) (map (datagram_said rec try) (datagram_of who port body ∷ []))) ≡ list_any (λ m. not (has_route net m)) (datagram_of who port body ∷ [])
  one_lacks None port body = refl
  one_lacks (Some n) port body = refl

  all_lack : (try : Option ℕ) (sends : List SendTo) → AreSendsBy who sends → any_lacks_route net who (map (sent_from p) (map (datagram_said rec try) sends)) ≡ list_any (λ m. not (has_route net m)) sends
  all_lack try sends none = refl
  all_lack try sends (one port body) = one_lacks try port body

  -- and one of its messages finds no route where one that goes down lacks it
  pub downs_lack : (acts : Acts) → AreSendsBy who acts.sends.items → any_lacks_route net who (map (sent_from p) (downs_of rec acts)) ≡ finds_none net acts
  downs_lack acts sends = by acts.advance
    where
      by : (advance : Option ℕ) → any_lacks_route net who (map (sent_from p) (advance_said rec advance ++ map (datagram_said rec acts.tried) acts.sends.items)) ≡ list_any (λ m. not (has_route net m)) acts.sends.items
      by None = all_lack acts.tried acts.sends.items sends
      by (Some place) = all_lack acts.tried acts.sends.items sends
