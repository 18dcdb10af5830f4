-- Reading is the grammar, in both directions.
use Rattle.std.proofs.Common.{◌≡◌, ℕ, ◌+◌, ◌^◌, ◌<◌, List, [], ◌∷◌, ◌++◌, Option, Some, None, Bool, true, false, refl, ap, ◌∙◌, sym, subst, arith, eqb, get_or, suc, append_assoc, ◌*◌, ◌/◌, ◌%◌}
use Rattle.std.specs.Int.{to_be_bytes, from_be_bytes, w16}
use Rattle.std.specs.Option.{option_map, IfSome}
use Rattle.std.specs.Str.{bytes_eq}
use Rattle.std.proofs.lemmas.Bool.{eqb-true}
use Rattle.std.proofs.lemmas.Nat.{from_be_bytes-to_be_bytes_2}
use Rattle.std.proofs.lemmas.Option.{none-some, same_Some, option_and_then_some}
use Rattle.std.proofs.lemmas.Slice.Eq.{bytes_eq-Decides}
use Rattle.nb_tftpmsg.specs.Texts.{HasNoZero, EndsText, ended, text_at, text_before}
use Rattle.nb_tftpmsg.specs.Packets.{Message, rrq, block, ack, error, oack, request_tail, IsTftpPacket}
use Rattle.nb_tftpmsg.specs.Reading.{FoundValues, options_reading, request_reading, block_reading, ack_reading, error_reading, oack_reading, body_reading, packet_read}
use Rattle.nb_tftpmsg.proofs.TextLemmas.{either_way, text_at-front, text_at-stands, text_before-front, text_before-stands}
use Rattle.nb_tftpmsg.proofs.OptionLemmas.{option_map_some, options_stand, options_read}

abbrev pub IsBytes : List ℕ → Type 0
IsBytes bytes = (i : ℕ) → get_or bytes i 0 < 256

-- a number's two bytes, read again
pub number_again : (n : ℕ) → n < 2 ^ 16 → from_be_bytes w16 (to_be_bytes w16 n) ≡ n
number_again n fits = from_be_bytes-to_be_bytes_2 n fits

number_stands : (high low : ℕ) → high < 256 → low < 256 → (from_be_bytes w16 (high ∷ low ∷ []) < 2 ^ 16) × (high ∷ low ∷ [] ≡ to_be_bytes w16 (from_be_bytes w16 (high ∷ low ∷ [])))
number_stands high low h l =
    let front : high ≡ (high * 256 + low) / 256 % 256 = omega arith in
    let back : low ≡ (high * 256 + low) % 256 = omega arith in
    (omega arith, ap (λ x. x ∷ low ∷ []) front ∙ ap (λ x. (high * 256 + low) / 256 % 256 ∷ x ∷ []) back)

request_read : (path : List ℕ) (options : Bool) → HasNoZero path → request_reading (path ++ 0 ∷ request_tail options) ≡ Some (rrq path options)
request_read path true clean = rw (text_at-front path (request_tail true) clean) refl
request_read path false clean = rw (text_at-front path (request_tail false) clean) refl

error_read : (code : ℕ) (text rest : List ℕ) → code < 2 ^ 16 → HasNoZero text → EndsText rest → error_reading (to_be_bytes w16 code ++ (text ++ rest)) ≡ Some (error code text)
error_read code text rest fits clean ends = ap (λ t. Some (error (from_be_bytes w16 (to_be_bytes w16 code)) t)) (text_before-front text rest clean ends) ∙ ap (λ n. Some (error n text)) (number_again code fits)

-- what is spelled so is read
pub reading_complete : (bytes : List ℕ) (m : Message) → IsTftpPacket bytes m → packet_read bytes ≡ Some m
reading_complete bytes (rrq path options) is = ap packet_read is.1 ∙ request_read path options is.0
reading_complete bytes (block n data_bytes) is = ap packet_read is.1 ∙ ap (λ number. Some (block number data_bytes)) (number_again n is.0)
reading_complete bytes (ack n) is = ap packet_read is.1 ∙ ap (λ number. Some (ack number)) (number_again n is.0)
reading_complete bytes (error code text) is = ap packet_read is.4 ∙ error_read code text is.2 is.0 is.1 is.3
reading_complete bytes (oack blksize tsize) is = ap packet_read is.2 ∙ ap (λ found. option_map (λ f. oack f.blksize f.tsize) found) (options_read is.0 blksize tsize is.1 is.3)

-- one more byte before and after
pub ended_front : (text rest : List ℕ) → ended text ++ rest ≡ text ++ 0 ∷ rest
ended_front text rest = append_assoc text (0 ∷ []) rest

same_bytes : (xs ys : List ℕ) → bytes_eq xs ys ≡ true → xs ≡ ys
same_bytes xs ys on = (bytes_eq-Decides xs ys).0 on

request_stands : (body : List ℕ) (m : Message) → request_reading body ≡ Some m → IsTftpPacket (0 ∷ 1 ∷ body) m
request_stands body m is = option_and_then_some _ (text_at body) m is (λ found at then_tail.
    let stand = text_at-stands body found.0 found.1 at in
    either_way (bytes_eq found.1 (request_tail false))
    (λ plain.
    let tail = same_bytes found.1 (request_tail false) plain in
    let same : rrq found.0 false ≡ m = same_Some (rrq found.0 false) m (rw plain at then_tail) in
    subst (λ (x : Message). IsTftpPacket (0 ∷ 1 ∷ body) x) same (stand.0, ap (λ b. 0 ∷ 1 ∷ b) (stand.1 ∙ ended_front found.0 found.1 ∙ ap (λ t. found.0 ++ 0 ∷ t) tail)))
    (λ other. either_way (bytes_eq found.1 (request_tail true))
    (λ full.
    let tail = same_bytes found.1 (request_tail true) full in
    let same : rrq found.0 true ≡ m = same_Some (rrq found.0 true) m (rw (other, full) at then_tail) in
    subst (λ (x : Message). IsTftpPacket (0 ∷ 1 ∷ body) x) same (stand.0, ap (λ b. 0 ∷ 1 ∷ b) (stand.1 ∙ ended_front found.0 found.1 ∙ ap (λ t. found.0 ++ 0 ∷ t) tail)))
    (λ none. absurd (none-some m (rw (other, none) at then_tail)))))

block_stands : (body : List ℕ) (m : Message) → IsBytes body → block_reading body ≡ Some m → IsTftpPacket (0 ∷ 3 ∷ body) m
block_stands [] m are is = absurd (none-some m is)
block_stands (high ∷ []) m are is = absurd (none-some m is)
block_stands (high ∷ low ∷ bytes) m are is =
    let number = number_stands high low (are 0) (are 1) in
    subst (λ (x : Message). IsTftpPacket (0 ∷ 3 ∷ high ∷ low ∷ bytes) x) (same_Some (block (from_be_bytes w16 (high ∷ low ∷ [])) bytes) m is)
    (number.0, ap (λ n. 0 ∷ 3 ∷ (n ++ bytes)) number.1)

ack_stands : (body : List ℕ) (m : Message) → IsBytes body → ack_reading body ≡ Some m → IsTftpPacket (0 ∷ 4 ∷ body) m
ack_stands [] m are is = absurd (none-some m is)
ack_stands (high ∷ []) m are is = absurd (none-some m is)
ack_stands (high ∷ low ∷ more ∷ bytes) m are is = absurd (none-some m is)
ack_stands (high ∷ low ∷ []) m are is =
    let number = number_stands high low (are 0) (are 1) in
    subst (λ (x : Message). IsTftpPacket (0 ∷ 4 ∷ high ∷ low ∷ []) x) (same_Some (ack (from_be_bytes w16 (high ∷ low ∷ []))) m is)
    (number.0, ap (λ n. 0 ∷ 4 ∷ n) number.1)

error_stands : (body : List ℕ) (m : Message) → IsBytes body → error_reading body ≡ Some m → IsTftpPacket (0 ∷ 5 ∷ body) m
error_stands [] m are is = absurd (none-some m is)
error_stands (high ∷ []) m are is = absurd (none-some m is)
error_stands (high ∷ low ∷ rest) m are is =
    let stand = text_before-stands rest in
    let number = number_stands high low (are 0) (are 1) in
    subst (λ (x : Message). IsTftpPacket (0 ∷ 5 ∷ high ∷ low ∷ rest) x) (same_Some (error (from_be_bytes w16 (high ∷ low ∷ [])) (text_before rest)) m is)
    (number.0, stand.clean, stand.rest, stand.ends, ap (λ r. 0 ∷ 5 ∷ high ∷ low ∷ r) stand.all ∙ ap (λ n. 0 ∷ 5 ∷ (n ++ (text_before rest ++ stand.rest))) number.1)

oack_stands : (body : List ℕ) (m : Message) → oack_reading body ≡ Some m → IsTftpPacket (0 ∷ 6 ∷ body) m
oack_stands body m is =
    let found = option_map_some (λ (f : FoundValues). oack f.blksize f.tsize) (options_reading body) m is in
    let stand = options_stand body found.0 found.1 in
    subst (λ (x : Message). IsTftpPacket (0 ∷ 6 ∷ body) x) found.2 (stand.0, stand.1, ap (λ b. 0 ∷ 6 ∷ b) stand.2, stand.3)

body_stands : (code : ℕ) (body : List ℕ) (m : Message) → IsBytes body → body_reading code body ≡ Some m → IsTftpPacket (0 ∷ code ∷ body) m
body_stands code body m are is =
    either_way (eqb code 1) (λ on. subst (λ (c : ℕ). IsTftpPacket (0 ∷ c ∷ body) m) (sym (eqb-true code 1 on)) (request_stands body m (rw on at is)))
    (λ not_1. either_way (eqb code 3) (λ on. subst (λ (c : ℕ). IsTftpPacket (0 ∷ c ∷ body) m) (sym (eqb-true code 3 on)) (block_stands body m are (rw (not_1, on) at is)))
    (λ not_3. either_way (eqb code 4) (λ on. subst (λ (c : ℕ). IsTftpPacket (0 ∷ c ∷ body) m) (sym (eqb-true code 4 on)) (ack_stands body m are (rw (not_1, not_3, on) at is)))
    (λ not_4. either_way (eqb code 5) (λ on. subst (λ (c : ℕ). IsTftpPacket (0 ∷ c ∷ body) m) (sym (eqb-true code 5 on)) (error_stands body m are (rw (not_1, not_3, not_4, on) at is)))
    (λ not_5. either_way (eqb code 6) (λ on. subst (λ (c : ℕ). IsTftpPacket (0 ∷ c ∷ body) m) (sym (eqb-true code 6 on)) (oack_stands body m (rw (not_1, not_3, not_4, not_5, on) at is)))
    (λ not_6. absurd (none-some m (rw (not_1, not_3, not_4, not_5, not_6) at is)))))))

-- what is read is spelled so
pub reading_sound : (bytes : List ℕ) (m : Message) → IsBytes bytes → packet_read bytes ≡ Some m → IsTftpPacket bytes m
reading_sound [] m are is = absurd (none-some m is)
reading_sound (first ∷ []) m are is = absurd (none-some m is)
reading_sound (first ∷ code ∷ body) m are is = either_way (eqb first 0)
    (λ on. subst (λ (z : ℕ). IsTftpPacket (z ∷ code ∷ body) m) (sym (eqb-true first 0 on)) (body_stands code body m (λ i. are (suc (suc i))) (rw on at is)))
    (λ off. absurd (none-some m (rw off at is)))

pub read_is_packet : {T : Type 0} (view : T → Message) (bytes : List ℕ) (found : Option T) → IsBytes bytes → option_map view found ≡ packet_read bytes → IfSome found (λ t. IsTftpPacket bytes (view t))
read_is_packet view bytes None are is = tt
read_is_packet view bytes (Some t) are is = reading_sound bytes (view t) are (sym is)
