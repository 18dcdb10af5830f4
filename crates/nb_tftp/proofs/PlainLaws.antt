-- What one call of a transfer asks, by its promises: at most one message, and a range of the body that came.
use Rattle.std.proofs.Common.{◌≡◌, ◌≤◌, ℕ, suc, ◌+◌, ◌==◌, List, [], ◌∷◌, ◌++◌, length, ◌-◌, Option, Some, None, Bool, true, false, cond, refl, ap, ◌∙◌, sym, subst, arith, append_assoc, lit≤}
use Rattle.std.specs.Prelude.{slice_range}
use Rattle.std.specs.Option.{option_map, option_map_or, option_and_then}
use Rattle.std.specs.Str.{bytes_eq}
use Rattle.std.proofs.lemmas.Bool.{false≢true}
use Rattle.std.proofs.lemmas.List.{append-nil, length-append}
use Rattle.std.proofs.lemmas.Option.{none-some, same_Some}
use Rattle.nb_retry.specs.declared.retry.Due.{Due}
use Rattle.nb_retry.specs.declared.retry.Due.TheVariants.{Not, Again as TryAgain, Over as PlanOver}
use Rattle.nb_terms.specs.declared.acts.Acts.{Acts}
use Rattle.nb_wire.specs.declared.address.Ip4.{Ip4}
use Rattle.nb_tftpmsg.specs.Texts.{text_at}
use Rattle.nb_tftpmsg.specs.Packets.{Message, rrq, block, ack, error, oack, request_tail}
use Rattle.nb_tftpmsg.specs.Reading.{FoundValues, packet_read, body_reading, request_reading, block_reading, ack_reading, error_reading, oack_reading, options_reading}
use Rattle.nb_tftp.specs.declared.answer.Answer.{Answer}
use Rattle.nb_tftp.specs.declared.answer.Answer.TheVariants.{Ignored, Stranger, Again, Agreed, Declined, Taken, Ended}
use Rattle.nb_tftp.specs.Asks.{Begun, begun_asking, acts_of, due_acts}
use Rattle.nb_tftp.specs.Received.{Received, packet_in, has_block_number, block_bytes_of, port_with, size_with}
use Rattle.nb_tftp.specs.Blocks.{count_with}
use Rattle.nb_tftp.specs.History.{Call, came, ticked, Entry, entry, got, given, due_of, EachEntry}
use Rattle.nb_tftp.specs.Sentences.{MeetsWith, AsksSoWith, asked_in, answer_to}
use Rattle.nb_tftp.specs.Plain.{IsPlain, IsRangeOf}
use Rattle.nb_tftp.proofs.BlockLemmas.{either_way}
use Rattle.nb_tftp.proofs.ReceivedLemmas.{and_left}
use Rattle.nb_tftp.proofs.AnswerLemmas.{Means, means}
use Rattle.nb_tftp.proofs.HistoryLemmas.{given-append}
use Rattle.nb_tftp.specs.Decisions.{from_server}

-- a fact of each entry, at the last one
pub EachEntry-last : (P : List Entry → Entry → Type 0) (before h : List Entry) (e : Entry) → EachEntry P before (h ++ e ∷ []) → P (before ++ h) e
EachEntry-last P before [] e each = subst (λ (x : List Entry). P x e) (sym (append-nil before)) each.0
EachEntry-last P before (x ∷ h) e each = subst (λ (y : List Entry). P y e) (append_assoc before (x ∷ []) h) (EachEntry-last P (before ++ x ∷ []) h e each.1)

-- what the last call asks
pub asks_last : (opts : Bool) (b : Begun) (start : ℕ) (h : List Entry) (e : Entry) → MeetsWith opts b start (h ++ e ∷ []) → AsksSoWith opts b h e
asks_last opts b start h e meets = EachEntry-last (AsksSoWith opts b) [] h e meets.sending

answer_plain : (b : Begun) (port : ℕ) (a : Answer) → IsPlain b (acts_of b port a)
answer_plain b port Ignored = record { few = lit≤ tt; sent = tt; ready = refl }
answer_plain b port Stranger = record { few = lit≤ tt; sent = (record { udp = refl; server = refl; own_port = refl; body = lit≤ tt }, tt); ready = refl }
answer_plain b port (Again n) = record { few = lit≤ tt; sent = (record { udp = refl; server = refl; own_port = refl; body = lit≤ tt }, tt); ready = refl }
answer_plain b port (Agreed size) = record { few = lit≤ tt; sent = (record { udp = refl; server = refl; own_port = refl; body = lit≤ tt }, tt); ready = refl }
answer_plain b port (Declined rec) = record { few = lit≤ tt; sent = (record { udp = refl; server = refl; own_port = refl; body = lit≤ tt }, tt); ready = refl }
answer_plain b port (Taken n len over) = record { few = lit≤ tt; sent = (record { udp = refl; server = refl; own_port = refl; body = lit≤ tt }, tt); ready = refl }
answer_plain b port (Ended cause) = record { few = lit≤ tt; sent = tt; ready = refl }

due_plain : (b : Begun) (fixed : Option ℕ) (last : ℕ) (due : Due) → length b.request ≤ 1480 → IsPlain b (due_acts b fixed last due)
due_plain b fixed last Not fits = record { few = lit≤ tt; sent = tt; ready = refl }
due_plain b None last (TryAgain n) fits = record { few = lit≤ tt; sent = (record { udp = refl; server = refl; own_port = refl; body = fits }, tt); ready = refl }
due_plain b (Some port) last (TryAgain n) fits = record { few = lit≤ tt; sent = (record { udp = refl; server = refl; own_port = refl; body = lit≤ tt }, tt); ready = refl }
due_plain b fixed last PlanOver fits = record { few = lit≤ tt; sent = tt; ready = refl }

call_plain : (opts : Bool) (b : Begun) (before : List Received) (call : Call) (acts : Acts) → length b.request ≤ 1480 → IsPlain b (asked_in opts b before call acts)
call_plain opts b before (came m now) acts fits = answer_plain b m.port (answer_to opts (port_with opts before) (size_with opts before) (count_with opts before) m)
call_plain opts b before (ticked now) acts fits = due_plain b (port_with opts before) (count_with opts before) (due_of acts) fits

-- each call sends at most one message, to the server
pub asks_plainly : (opts : Bool) (b : Begun) (start : ℕ) (h : List Entry) (e : Entry) → length b.request ≤ 1480 → MeetsWith opts b start (h ++ e ∷ []) → IsPlain b e.acts
asks_plainly opts b start h e fits meets =
    subst (λ (acts : Acts). IsPlain b acts) (sym (asks_last opts b start h e meets)) (call_plain opts b (got h) e.call e.acts fits)

-- the request for a path that a transfer takes
pub request_fits : (asked : Bool) (server : Ip4) (port own_port : ℕ) (path : List ℕ) → length path ≤ 1024 → length (begun_asking asked server port own_port path).request ≤ 1480
request_fits false server port own_port path short = let all = length-append path (0 ∷ request_tail false) in omega arith
request_fits true server port own_port path short = let all = length-append path (0 ∷ request_tail true) in omega arith

-- a packet that is a block has two bytes less than this, which stand for its number
abbrev HasRest : Message → ℕ → Type 0
HasRest (block n bytes) k = k ≡ suc (suc (length bytes))
HasRest (rrq path options) k = Unit {0}
HasRest (ack n) k = Unit {0}
HasRest (error code text) k = Unit {0}
HasRest (oack blksize tsize) k = Unit {0}

abbrev IfRead : Option Message → ℕ → Type 0
IfRead None k = Unit {0}
IfRead (Some m) k = HasRest m k

either_read : (t : Bool) (a b : Option Message) (k : ℕ) → IfRead a k → IfRead b k → IfRead (cond t a b) k
either_read true a b k first second = first
either_read false a b k first second = second

request_rest : (found : Option (List ℕ × List ℕ)) (k : ℕ) → IfRead (option_and_then (λ f. cond (bytes_eq f.1 (request_tail false)) (Some (rrq f.0 false)) (cond (bytes_eq f.1 (request_tail true)) (Some (rrq f.0 true)) None)) found) k
request_rest None k = tt
request_rest (Some f) k = either_read (bytes_eq f.1 (request_tail false)) (Some (rrq f.0 false)) (cond (bytes_eq f.1 (request_tail true)) (Some (rrq f.0 true)) None) k tt (either_read (bytes_eq f.1 (request_tail true)) (Some (rrq f.0 true)) None k tt tt)

block_rest : (body : List ℕ) → IfRead (block_reading body) (length body)
block_rest [] = tt
block_rest (high ∷ []) = tt
block_rest (high ∷ low ∷ bytes) = refl

ack_rest : (body : List ℕ) (k : ℕ) → IfRead (ack_reading body) k
ack_rest [] k = tt
ack_rest (high ∷ []) k = tt
ack_rest (high ∷ low ∷ []) k = tt
ack_rest (high ∷ low ∷ more ∷ bytes) k = tt

error_rest : (body : List ℕ) (k : ℕ) → IfRead (error_reading body) k
error_rest [] k = tt
error_rest (high ∷ []) k = tt
error_rest (high ∷ low ∷ rest) k = tt

oack_found : (found : Option FoundValues) (k : ℕ) → IfRead (option_map (λ f. oack f.blksize f.tsize) found) k
oack_found None k = tt
oack_found (Some f) k = tt

body_rest : (code : ℕ) (body : List ℕ) → IfRead (body_reading code body) (length body)
body_rest code body =
    either_read (code == 1) (request_reading body) _ (length body) (request_rest (text_at body) (length body))
    (either_read (code == 3) (block_reading body) _ (length body) (block_rest body)
    (either_read (code == 4) (ack_reading body) _ (length body) (ack_rest body (length body))
    (either_read (code == 5) (error_reading body) _ (length body) (error_rest body (length body))
    (either_read (code == 6) (oack_reading body) None (length body) (oack_found (options_reading body) (length body)) tt))))

rest_of : (body : List ℕ) → IfRead (packet_read body) (length body - 2)
rest_of [] = tt
rest_of (zero_byte ∷ []) = tt
rest_of (zero_byte ∷ code ∷ body) =
    let less : length (zero_byte ∷ code ∷ body) - 2 ≡ length body = omega arith in
    subst (λ (k : ℕ). IfRead (packet_read (zero_byte ∷ code ∷ body)) k) (sym less) (either_read (zero_byte == 0) (body_reading code body) None (length body) (body_rest code body) tt)

block_long : (k n : ℕ) (p : Option Message) → IfRead p (k - 2) → option_map_or (has_block_number n) p false ≡ true → k ≡ 4 + length (option_map_or block_bytes_of p [])
block_long k n None has number = absurd (false≢true number)
block_long k n (Some (block i bytes)) has number = omega arith
block_long k n (Some (rrq path options)) has number = absurd (false≢true number)
block_long k n (Some (ack i)) has number = absurd (false≢true number)
block_long k n (Some (error code text)) has number = absurd (false≢true number)
block_long k n (Some (oack blksize tsize)) has number = absurd (false≢true number)

-- four bytes stand before a block's bytes
pub block_length : (m : Received) (n : ℕ) → option_map_or (has_block_number n) (packet_in m) false ≡ true → length m.body ≡ 4 + length (option_map_or block_bytes_of (packet_in m) [])
block_length m n number = block_long (length m.body) n (packet_in m) (rest_of m.body) number

answer_range : (opts : Bool) (b : Begun) (fixed : Option ℕ) (size last : ℕ) (m : Received) (a : Answer) (from to : ℕ) → Means opts fixed size last m.port (packet_in m) a → (acts_of b m.port a).give ≡ Some (from, to) → IsRangeOf m.body from to
answer_range opts b fixed size last m Ignored from to means is = absurd (none-some (from, to) is)
answer_range opts b fixed size last m Stranger from to means is = absurd (none-some (from, to) is)
answer_range opts b fixed size last m (Again n) from to means is = absurd (none-some (from, to) is)
answer_range opts b fixed size last m (Ended cause) from to means is = absurd (none-some (from, to) is)
answer_range opts b fixed size last m (Agreed granted) from to means is = absurd (none-some (from, to) is)
answer_range opts b fixed size last m (Declined rec) from to means is = absurd (none-some (from, to) is)
answer_range opts b fixed size last m (Taken n len over) from to means is =
    let all = block_length m (suc last) (and_left (option_map_or (has_block_number (suc last)) (packet_in m) false) (from_server fixed m.port) means.2) in
    let many = means.1 in
    either_way (len == 0)
    (λ none. absurd (none-some (from, to) (rw none at is)))
    (λ some.
    let same : (4, 4 + len) ≡ (from, to) = same_Some (4, 4 + len) (from, to) (rw some at is) in
    let low : 4 ≡ from = ap (λ (r : ℕ × ℕ). r.0) same in
    let high : 4 + len ≡ to = ap (λ (r : ℕ × ℕ). r.1) same in
    record { ordered = omega arith; within = omega arith })

-- the range that a datagram gives up lies within its body
pub gives_range : (opts : Bool) (b : Begun) (start : ℕ) (h : List Entry) (m : Received) (now : ℕ) (acts : Acts) (from to : ℕ) → MeetsWith opts b start (h ++ entry (came m now) acts ∷ []) → acts.give ≡ Some (from, to) → IsRangeOf m.body from to
gives_range opts b start h m now acts from to meets is =
    answer_range opts b (port_with opts (got h)) (size_with opts (got h)) (count_with opts (got h)) m (answer_to opts (port_with opts (got h)) (size_with opts (got h)) (count_with opts (got h)) m) from to
    (means opts (port_with opts (got h)) (size_with opts (got h)) (count_with opts (got h)) m.rec m.port (packet_in m))
    (sym (ap (λ (x : Acts). x.give) (asks_last opts b start h (entry (came m now) acts) meets)) ∙ is)

-- and goes up after what was delivered before
pub given_range : (h : List Entry) (m : Received) (now : ℕ) (acts : Acts) (from to : ℕ) → acts.give ≡ Some (from, to) → given (h ++ entry (came m now) acts ∷ []) ≡ given h ++ slice_range m.body from to
given_range h m now acts from to is =
    given-append h (entry (came m now) acts) ∙ ap (λ (g : Option (ℕ × ℕ)). given h ++ option_map_or (λ r. slice_range m.body r.0 r.1) g []) is

given_none : (h : List Entry) (call : Call) (acts : Acts) → acts.give ≡ None → given (h ++ entry call acts ∷ []) ≡ given h
given_none h (came m now) acts is = given-append h (entry (came m now) acts) ∙ ap (λ (g : Option (ℕ × ℕ)). given h ++ option_map_or (λ r. slice_range m.body r.0 r.1) g []) is ∙ append-nil (given h)
given_none h (ticked now) acts is = given-append h (entry (ticked now) acts) ∙ append-nil (given h)

-- where a call gives no range, nothing goes up
pub given_nothing : (h : List Entry) (e : Entry) → e.acts.give ≡ None → given (h ++ e ∷ []) ≡ given h
given_nothing h e is = given_none h e.call e.acts is

due_gives : (b : Begun) (fixed : Option ℕ) (last : ℕ) (due : Due) → (due_acts b fixed last due).give ≡ None
due_gives b fixed last Not = refl
due_gives b fixed last (TryAgain n) = refl
due_gives b fixed last PlanOver = refl

-- a time gives nothing
pub tick_gives : (opts : Bool) (b : Begun) (start : ℕ) (h : List Entry) (now : ℕ) (acts : Acts) → MeetsWith opts b start (h ++ entry (ticked now) acts ∷ []) → acts.give ≡ None
tick_gives opts b start h now acts meets =
    ap (λ (x : Acts). x.give) (asks_last opts b start h (entry (ticked now) acts) meets) ∙ due_gives b (port_with opts (got h)) (count_with opts (got h)) (due_of acts)
