-- With names of usual lengths, no request loses its keys.
use Rattle.std.proofs.Common.{◌≡◌, ◌≤◌, ℕ, ◌+◌, List, [], ◌∷◌, ◌++◌, length, codes, leb, cond, Bool, true, false, arith, lit≤, length-append}
use Rattle.std.specs.Fmt.{decimal}
use Rattle.std.proofs.lemmas.Bool.{cond-true, le-leb}
use Rattle.std.proofs.lemmas.Fmt.{length-decimal-le}
use Rattle.nb_chap.specs.Responses.{chap_response}
use Rattle.nb_chap.specs.Values.{binary_text}
use Rattle.nb_chap.proofs.LengthLemmas.{length-chap_response, length-binary_text}
use Rattle.nb_login.specs.declared.info.LoginInfo.{LoginInfo}
use Rattle.nb_login.specs.declared.step.Challenge.{Challenge}
use Rattle.nb_login.specs.declared.step.NextRequest.{NextRequest}
use Rattle.nb_login.specs.declared.step.NextRequest.TheVariants as ask
use Rattle.nb_login.specs.Infos.{has_secret, asks_back, own_identifier, own_challenge}
use Rattle.nb_login.specs.Asking.{key_text, method_names, names_keys, algorithm_keys, response_keys, back_keys, parameter_keys, request_keys, carried_keys}
use Rattle.nb_login.specs.Logins.{HasUsualNames}

length-key_text : (name value : List ℕ) → length (key_text name value) ≡ length name + length value + 2
length-key_text name value =
    omega (arith, length-append name (61 ∷ []), length-append (name ++ 61 ∷ []) value, length-append (name ++ 61 ∷ [] ++ value) (0 ∷ []))

length-four : (a b c d : List ℕ) → length (a ++ b ++ c ++ d) ≡ length a + length b + length c + length d
length-four a b c d = omega (arith, length-append a b, length-append (a ++ b) c, length-append (a ++ b ++ c) d)

few_methods : (b : Bool) → length (method_names b) ≤ 9
few_methods true = lit≤ tt
few_methods false = lit≤ tt

names_few : (i : LoginInfo) → HasUsualNames i → length (names_keys i) ≤ 8192
unfolding names_keys
names_few i usual =
    let a = length-key_text (codes "InitiatorName") i.initiator in
    let b = length-key_text (codes "TargetName") i.target in
    let c = length-key_text (codes "SessionType") (codes "Normal") in
    let d = length-key_text (codes "AuthMethod") (method_names (has_secret i)) in
    let m = few_methods (has_secret i) in
    let s = length-four (key_text (codes "InitiatorName") i.initiator) (key_text (codes "TargetName") i.target) (key_text (codes "SessionType") (codes "Normal")) (key_text (codes "AuthMethod") (method_names (has_secret i))) in
    let x = usual.initiator in
    let y = usual.target in
    omega arith

few_back : (b : Bool) (number digits : List ℕ) → length number ≤ 3 → length digits ≡ 34
    → length (cond b (key_text (codes "CHAP_I") number ++ key_text (codes "CHAP_C") digits) []) ≤ 60
few_back true number digits small is =
    let a = length-key_text (codes "CHAP_I") number in
    let b = length-key_text (codes "CHAP_C") digits in
    let s = length-append (key_text (codes "CHAP_I") number) (key_text (codes "CHAP_C") digits) in
    omega arith
few_back false number digits small is = lit≤ tt

back_few : (i : LoginInfo) → length (back_keys i) ≤ 60
unfolding back_keys
back_few i = few_back (asks_back i) (decimal (own_identifier i)) (binary_text (own_challenge i)) (length-decimal-le 3 (own_identifier i) (omega arith) (omega arith) (omega arith)) (length-binary_text (own_challenge i))

response_few : (i : LoginInfo) (c : Challenge) → HasUsualNames i → length (response_keys i c) ≤ 8192
unfolding response_keys
response_few i c usual =
    let digits = binary_text (chap_response c.identifier i.secret c.value) in
    let n = length-key_text (codes "CHAP_N") i.user in
    let r = length-key_text (codes "CHAP_R") digits in
    let d = length-binary_text (chap_response c.identifier i.secret c.value) in
    let e = length-chap_response c.identifier i.secret c.value in
    let s = length-append (key_text (codes "CHAP_N") i.user ++ key_text (codes "CHAP_R") digits) (back_keys i) in
    let t = length-append (key_text (codes "CHAP_N") i.user) (key_text (codes "CHAP_R") digits) in
    let b = back_few i in
    let u = usual.user in
    omega arith

request_few : (i : LoginInfo) (request : NextRequest) → HasUsualNames i → length (request_keys i request) ≤ 8192
unfolding algorithm_keys parameter_keys
request_few i ask.Names usual = names_few i usual
request_few i ask.Algorithm usual = lit≤ tt
request_few i (ask.Response c) usual = response_few i c usual
request_few i (ask.Parameters chap) usual = lit≤ tt
request_few i (ask.Again step number) usual = lit≤ tt

pub all_carried : (i : LoginInfo) (request : NextRequest) → HasUsualNames i → carried_keys (request_keys i request) ≡ request_keys i request
all_carried i request usual =
    cond-true (leb (length (request_keys i request)) 8192) (request_keys i request) [] (le-leb (length (request_keys i request)) 8192 (request_few i request usual))
