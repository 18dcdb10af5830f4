-- What a transfer tries is the request, or the acknowledgement of its file's last block, and no error.
use Rattle.std.proofs.Common.{◌≡◌, ℕ, ◌==◌, true, List, [], ◌∷◌, Option, Some, None, sym, ◌∙◌, ap, subst}
use Rattle.std.proofs.lemmas.Bool.{false≢true}
use Rattle.std.proofs.lemmas.Option.{none-some}
use Rattle.nb_terms.specs.declared.acts.Acts.{Acts}
use Rattle.nb_terms.specs.declared.acts.SendTo.{SendTo}
use Rattle.nb_retry.specs.declared.retry.Due.{Due}
use Rattle.nb_retry.specs.declared.retry.Due.TheVariants.{Not, Again as TryAgain, Over as PlanOver}
use Rattle.nb_tftpmsg.specs.Packets.{rrq, error, packet_text}
use Rattle.nb_tftp.specs.declared.answer.Answer.{Answer}
use Rattle.nb_tftp.specs.declared.answer.Answer.TheVariants.{Ignored, Stranger, Again, Agreed, Declined, Taken, Ended}
use Rattle.nb_tftp.specs.Asks.{Begun, datagram, ack_of, last_message, acts_of, due_acts}
use Rattle.nb_tftp.specs.Asked.{IsAsked, requests, acknowledges, tells, declines}
use Rattle.nb_tftp.specs.Blocks.{count, count_with}
use Rattle.nb_tftp.specs.Received.{Received, fixed_port, port_with, size_with}
use Rattle.nb_tftp.specs.History.{Call, came, ticked, Entry, entry, got, due_of}
use Rattle.nb_tftp.specs.Sentences.{AsksSo, answer_to}

second_byte : List ℕ → ℕ
second_byte (x ∷ y ∷ rest) = y
second_byte _ = 0

-- it is no error's packet, whatever its code
abbrev NoError : SendTo → Type 0
NoError send = (b : Begun) (port code : ℕ) → send ≡ datagram b port (packet_text (error code [])) → ⊥

abbrev IsRequest : Begun → List ℕ → Type 0
IsRequest b path = b.request ≡ packet_text (rrq path true)

no_error_ack : (b : Begun) (port n : ℕ) → NoError (ack_of b port n)
unfolding second_byte
no_error_ack b port n = λ x p code e. false≢true (ap (λ (s : SendTo). second_byte s.body.items == 5) e)

no_error_request : (b : Begun) (path : List ℕ) → IsRequest b path → NoError (datagram b b.port b.request)
unfolding second_byte
no_error_request b path is = λ x p code e.
    false≢true (sym (ap (λ r. second_byte r == 5) is) ∙ ap (λ (s : SendTo). second_byte s.body.items == 5) e)

no_error_last : (b : Begun) (path : List ℕ) (fixed : Option ℕ) (last : ℕ) → IsRequest b path → NoError (last_message b fixed last)
no_error_last b path None last is = no_error_request b path is
no_error_last b path (Some port) last is = no_error_ack b port last

first_of : SendTo → List SendTo → SendTo
first_of d [] = d
first_of d (x ∷ xs) = x

-- what it sends under a timer is none
abbrev TriesNoError : Acts → Type 0
TriesNoError acts = (n : ℕ) (send : SendTo) → acts.tried ≡ Some n → acts.sends.items ≡ send ∷ [] → NoError send

tries_one : (first send : SendTo) → NoError first → first ∷ [] ≡ send ∷ [] → NoError send
unfolding first_of
tries_one first send plain e = subst NoError (ap (first_of first) e) plain

answer_tries : (b : Begun) (port : ℕ) (a : Answer) → TriesNoError (acts_of b port a)
answer_tries b port Ignored n send is items = absurd (none-some n is)
answer_tries b port Stranger n send is items = absurd (none-some n is)
answer_tries b port (Again k) n send is items = absurd (none-some n is)
answer_tries b port (Agreed size) n send is items = tries_one (ack_of b port 0) send (no_error_ack b port 0) items
answer_tries b port (Declined rec) n send is items = absurd (none-some n is)
answer_tries b port (Taken k len over) n send is items = tries_one (ack_of b port k) send (no_error_ack b port k) items
answer_tries b port (Ended cause) n send is items = absurd (none-some n is)

due_tries : (b : Begun) (path : List ℕ) (fixed : Option ℕ) (last : ℕ) (due : Due) → IsRequest b path → TriesNoError (due_acts b fixed last due)
due_tries b path fixed last Not request n send is items = absurd (none-some n is)
due_tries b path fixed last (TryAgain k) request n send is items = tries_one (last_message b fixed last) send (no_error_last b path fixed last request) items
due_tries b path fixed last PlanOver request n send is items = absurd (none-some n is)

call_tries_none : (b : Begun) (path : List ℕ) (before : List Entry) (call : Call) (acts : Acts) → IsRequest b path → AsksSo b before (entry call acts) → TriesNoError acts
call_tries_none b path before (came m now) acts request so =
    subst TriesNoError (sym so) (answer_tries b m.port (answer_to true (port_with true (got before)) (size_with true (got before)) (count_with true (got before)) m))
call_tries_none b path before (ticked now) acts request so =
    subst TriesNoError (sym so) (due_tries b path (port_with true (got before)) (count_with true (got before)) (due_of acts) request)

newest_of : (b : Begun) (received : List Received) (send : SendTo) → IsAsked b received send → NoError send → send ≡ last_message b (fixed_port received) (count received)
newest_of b received send (requests none e) plain = e ∙ sym (ap (λ f. last_message b f (count received)) none)
newest_of b received send (acknowledges port some e) plain = e ∙ sym (ap (λ f. last_message b f (count received)) some)
newest_of b received send (tells before m port all some other e) plain = absurd (plain b m.port 5 e)
newest_of b received send (declines before m all unfit e) plain = absurd (plain b m.port 8 e)

-- the message that a call tries, of those that the transfer may send then
pub tries_newest : (b : Begun) (path : List ℕ) (before : List Entry) (call : Call) (acts : Acts) (received : List Received) (n : ℕ) (send : SendTo) → IsRequest b path →
    AsksSo b before (entry call acts) → acts.tried ≡ Some n → acts.sends.items ≡ send ∷ [] → IsAsked b received send → send ≡ last_message b (fixed_port received) (count received)
tries_newest b path before call acts received n send request so is items asked =
    newest_of b received send asked (call_tries_none b path before call acts request so n send is items)
