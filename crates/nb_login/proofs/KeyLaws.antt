-- What is read between the zero bytes of a request's keys: each key, and nothing else.
use Rattle.std.proofs.Common.{◌≡◌, ◌<◌, ℕ, ◌^◌, List, [], ◌∷◌, ◌++◌, ◌||◌, Bool, true, false, Option, Some, None, cond, codes, slice_index, refl, ap, ◌∙◌, append_assoc, arith, eqb}
use Rattle.std.specs.Fmt.{decimal}
use Rattle.std.specs.Int.{to_be_bytes, w32}
use Rattle.std.specs.Str.Parse.{AllDigits}
use Rattle.std.proofs.lemmas.Bool.{or_parts, or_from, eqb-true}
use Rattle.std.proofs.lemmas.Fmt.{decimal_is_IsNumeral}
use Rattle.std.proofs.lemmas.Str.Parse.{digit_from_value}
use Rattle.nb_chap.specs.Responses.{chap_response}
use Rattle.nb_chap.specs.Values.{binary_text}
use Rattle.nb_chap.proofs.PlainLemmas.{AreBytes, bytes-append, high-first, response-bytes, binary-plain}
use Rattle.nb_iscsipdu.specs.KeyTexts.{longer, texts_between}
use Rattle.nb_iscsipdu.proofs.KeyLemmas.{either_way}
use Rattle.nb_login.specs.declared.info.LoginInfo.{LoginInfo}
use Rattle.nb_login.specs.declared.refusal.SentName.{SentName}
use Rattle.nb_login.specs.declared.refusal.SentName.TheVariants.{Initiator, Target, User}
use Rattle.nb_login.specs.declared.step.Challenge.{Challenge}
use Rattle.nb_login.specs.declared.step.NextRequest.{NextRequest}
use Rattle.nb_login.specs.declared.step.NextRequest.TheVariants as ask
use Rattle.nb_login.specs.Infos.{has_secret, asks_back, own_identifier, own_challenge}
use Rattle.nb_login.specs.Asking.{key_text, method_names, names_keys, algorithm_keys, back_keys, response_keys, parameter_keys, request_keys}
use Rattle.nb_login.specs.Refusals.{name_has_zero, zero_name}
use Rattle.nb_login.specs.KeysSent.{key_line, names_lines, back_lines, response_lines, parameter_lines, request_lines}

-- lines, each with the zero byte that ends it
abbrev spelled : List (List ℕ) → List ℕ
spelled [] = []
spelled (line ∷ lines) = line ++ 0 ∷ spelled lines

-- no line holds a zero byte
abbrev ArePlain : List (List ℕ) → Type 0
ArePlain [] = Unit {0}
ArePlain (line ∷ lines) = (name_has_zero line ≡ false) × ArePlain lines

line-cut : (line rest : List ℕ) → name_has_zero line ≡ false → texts_between (line ++ 0 ∷ rest) ≡ line ∷ texts_between rest
line-cut [] rest none = refl
line-cut (byte ∷ line) rest none =
    let both = or_parts (eqb byte 0) (name_has_zero line) none in
    rw both.0 (ap (λ (texts : List (List ℕ)). longer byte texts) (line-cut line rest both.1))

lines-cut : (lines : List (List ℕ)) → ArePlain lines → texts_between (spelled lines) ≡ lines ++ [] ∷ []
lines-cut [] plain = refl
lines-cut (line ∷ lines) plain = line-cut line (spelled lines) plain.0 ∙ ap (λ (texts : List (List ℕ)). line ∷ texts) (lines-cut lines plain.1)

-- a key's text and what follows
key-before : (name value rest : List ℕ) → key_text name value ++ rest ≡ key_line name value ++ 0 ∷ rest
key-before name value rest = simp append_assoc

key-alone : (name value : List ℕ) → key_text name value ≡ key_line name value ++ 0 ∷ []
key-alone name value = simp append_assoc

-- WHICH TEXTS HOLD NO ZERO BYTE

append-plain : (a b : List ℕ) → name_has_zero a ≡ false → name_has_zero b ≡ false → name_has_zero (a ++ b) ≡ false
append-plain [] b first second = second
append-plain (byte ∷ a) b first second =
    let both = or_parts (eqb byte 0) (name_has_zero a) first in
    or_from (eqb byte 0) (name_has_zero (a ++ b)) both.0 (append-plain a b both.1 second)

line-plain : (name value : List ℕ) → name_has_zero name ≡ false → name_has_zero value ≡ false → name_has_zero (key_line name value) ≡ false
line-plain name value first second = append-plain name (61 ∷ value) first second

words-bytes : (a b c d : ℕ) → AreBytes (to_be_bytes w32 a ++ to_be_bytes w32 b ++ to_be_bytes w32 c ++ to_be_bytes w32 d)
words-bytes a b c d =
    let two = bytes-append (to_be_bytes w32 a) (to_be_bytes w32 b) (high-first a) (high-first b) in
    let three = bytes-append (to_be_bytes w32 a ++ to_be_bytes w32 b) (to_be_bytes w32 c) two (high-first c) in
    bytes-append (to_be_bytes w32 a ++ to_be_bytes w32 b ++ to_be_bytes w32 c) (to_be_bytes w32 d) three (high-first d)

challenge-bytes : (i : LoginInfo) → AreBytes (own_challenge i)
challenge-bytes i = words-bytes (slice_index i.words 3) (slice_index i.words 4) (slice_index i.words 5) (slice_index i.words 6)

number-plain : (digits : List ℕ) → AllDigits 10 digits → name_has_zero digits ≡ false
number-plain [] all = refl
number-plain (digit ∷ digits) all =
    let is = digit_from_value digit all.0 in
    or_from (eqb digit 0) (name_has_zero digits) (either_way (eqb digit 0) (λ on. let zero = eqb-true digit 0 on in absurd (omega arith)) (λ off. off)) (number-plain digits all.1)

decimal-plain : (n : ℕ) → n < 256 → name_has_zero (decimal n) ≡ false
decimal-plain n small = number-plain (decimal n) (decimal_is_IsNumeral n (omega arith)).0.1

methods-plain : (b : Bool) → name_has_zero (method_names b) ≡ false
methods-plain true = refl
methods-plain false = refl

-- THE KEYS OF EACH REQUEST

abbrev first_of : Bool → Bool → Bool → Option SentName
first_of a b c = cond a (Some Initiator) (cond b (Some Target) (cond c (Some User) None))

none-of : (a b c : Bool) → first_of a b c ≡ None → (a ≡ false) × (b ≡ false) × (c ≡ false)
none-of true b c none = absurd cc
none-of false true c none = absurd cc
none-of false false true none = absurd cc
none-of false false false none = (refl, refl, refl)

names-plain : (i : LoginInfo) → zero_name i ≡ None → ArePlain (names_lines i)
names-plain i none =
    let all = none-of (name_has_zero i.initiator) (name_has_zero i.target) (name_has_zero i.user) none in (
      line-plain (codes "InitiatorName") i.initiator refl all.0,
      (line-plain (codes "TargetName") i.target refl all.1, (refl, (line-plain (codes "AuthMethod") (method_names (has_secret i)) refl (methods-plain (has_secret i)), tt))),
    )

names-spelled : (i : LoginInfo) → names_keys i ≡ spelled (names_lines i)
unfolding names_keys
names-spelled i =
    let methods = method_names (has_secret i) in
    let first = key_text (codes "InitiatorName") i.initiator in
    let second = key_text (codes "TargetName") i.target in
    let third = key_text (codes "SessionType") (codes "Normal") in
    let fourth = key_text (codes "AuthMethod") methods in
    let fourth_line : List ℕ = key_line (codes "AuthMethod") methods ++ 0 ∷ [] in
    let third_line : List ℕ = key_line (codes "SessionType") (codes "Normal") ++ 0 ∷ fourth_line in
    let second_line : List ℕ = key_line (codes "TargetName") i.target ++ 0 ∷ third_line in
    append_assoc (first ++ second) third fourth
    ∙ append_assoc first second (third ++ fourth)
    ∙ ap (λ (x : List ℕ). first ++ (second ++ (third ++ x))) (key-alone (codes "AuthMethod") methods)
    ∙ ap (λ (x : List ℕ). first ++ (second ++ x)) (key-before (codes "SessionType") (codes "Normal") fourth_line)
    ∙ ap (λ (x : List ℕ). first ++ x) (key-before (codes "TargetName") i.target third_line)
    ∙ key-before (codes "InitiatorName") i.initiator second_line

back-plain : (i : LoginInfo) (b : Bool) → ArePlain (cond b (key_line (codes "CHAP_I") (decimal (own_identifier i)) ∷ key_line (codes "CHAP_C") (binary_text (own_challenge i)) ∷ []) [])
back-plain i true = (
  line-plain (codes "CHAP_I") (decimal (own_identifier i)) refl (decimal-plain (own_identifier i) (omega arith)),
  (line-plain (codes "CHAP_C") (binary_text (own_challenge i)) refl (binary-plain (own_challenge i) (challenge-bytes i)), tt),
)
back-plain i false = tt

back-spelled : (number digits : List ℕ) (b : Bool)
    → cond b (key_text (codes "CHAP_I") number ++ key_text (codes "CHAP_C") digits) [] ≡ spelled (cond b (key_line (codes "CHAP_I") number ∷ key_line (codes "CHAP_C") digits ∷ []) [])
back-spelled number digits true =
    ap (λ (x : List ℕ). key_text (codes "CHAP_I") number ++ x) (key-alone (codes "CHAP_C") digits)
    ∙ key-before (codes "CHAP_I") number (key_line (codes "CHAP_C") digits ++ 0 ∷ [])
back-spelled number digits false = refl

response-plain : (i : LoginInfo) (c : Challenge) → zero_name i ≡ None → ArePlain (response_lines i c)
response-plain i c none =
    let all = none-of (name_has_zero i.initiator) (name_has_zero i.target) (name_has_zero i.user) none in (
      line-plain (codes "CHAP_N") i.user refl all.2,
      (line-plain (codes "CHAP_R") (binary_text (chap_response c.identifier i.secret c.value)) refl (binary-plain _ (response-bytes c.identifier i.secret c.value)), back-plain i (asks_back i)),
    )

response-spelled : (i : LoginInfo) (c : Challenge) → response_keys i c ≡ spelled (response_lines i c)
unfolding response_keys back_keys
response-spelled i c =
    let digits = binary_text (chap_response c.identifier i.secret c.value) in
    ap (λ (x : List ℕ). key_text (codes "CHAP_N") i.user ++ key_text (codes "CHAP_R") digits ++ x) (back-spelled (decimal (own_identifier i)) (binary_text (own_challenge i)) (asks_back i))
    ∙ append_assoc (key_text (codes "CHAP_N") i.user) (key_text (codes "CHAP_R") digits) (spelled (back_lines i))
    ∙ ap (λ (x : List ℕ). key_text (codes "CHAP_N") i.user ++ x) (key-before (codes "CHAP_R") digits (spelled (back_lines i)))
    ∙ key-before (codes "CHAP_N") i.user (key_line (codes "CHAP_R") digits ++ 0 ∷ spelled (back_lines i))

pub keys-read : (i : LoginInfo) (request : NextRequest) → zero_name i ≡ None → texts_between (request_keys i request) ≡ request_lines i request ++ [] ∷ []
unfolding algorithm_keys parameter_keys
keys-read i ask.Names none = ap texts_between (names-spelled i) ∙ lines-cut (names_lines i) (names-plain i none)
keys-read i ask.Algorithm none = refl
keys-read i (ask.Response c) none = ap texts_between (response-spelled i c) ∙ lines-cut (response_lines i c) (response-plain i c none)
keys-read i (ask.Parameters chap) none = refl
keys-read i (ask.Again step number) none = refl
