-- RFC 7143, sections 6.3, 11.13 and 12.1: what an answer comes to, by the request that is out
use Rattle.std.specs.Prelude.{ℕ, ◌+◌, ◌*◌, ◌%◌, ◌^◌, ◌==◌, ◌&&◌, ◌||◌, not, Bool, false, List, nat_lt, codes, Option, Some, None, option_and_then, if◌then◌else◌}
use Rattle.std.specs.Option.{option_map_or, is_some}
use Rattle.std.specs.Str.{bytes_eq}
use Rattle.nb_terms.specs.declared.reason.Plain.TheVariants as plain
use Rattle.nb_terms.specs.declared.reason.Reason.TheVariants as reason
use Rattle.nb_chap.specs.Values.{byte_in, binary_in}
use Rattle.nb_iscsipdu.specs.declared.stage.Stage.{Stage}
use Rattle.nb_iscsipdu.specs.Stages.{stage_number}
use Rattle.nb_iscsipdu.specs.KeyTexts.{key_value}
use Rattle.nb_iscsipdu.specs.Answers.{AnswerParts, login, scsi, data_in, nop_in, other, LoginResponseParts}
use Rattle.nb_login.specs.declared.info.LoginInfo.{LoginInfo}
use Rattle.nb_login.specs.declared.step.Chap.{Chap}
use Rattle.nb_login.specs.declared.step.Chap.TheVariants.{No, OneWay, BothWays}
use Rattle.nb_login.specs.declared.step.LoginStep.{LoginStep}
use Rattle.nb_login.specs.declared.step.LoginStep.TheVariants as at
use Rattle.nb_login.specs.declared.step.Challenge.{Challenge}
use Rattle.nb_login.specs.declared.step.NextRequest.TheVariants as ask
use Rattle.nb_login.specs.declared.step.Decision.{Decision}
use Rattle.nb_login.specs.declared.step.Decision.TheVariants.{Ask, Open, End}
use Rattle.nb_login.specs.Infos.{has_secret, asks_back, own_response}
use Rattle.nb_login.specs.Asking.{next_stage}

-- the key has this value
unfoldable pub has_value : List ℕ → List ℕ → List ℕ → Bool
has_value name value keys = option_map_or (λ got. bytes_eq got value) (key_value name keys) false

-- the key is there with another value
unfoldable pub has_other_value : List ℕ → List ℕ → List ℕ → Bool
has_other_value name value keys = option_map_or (λ got. not (bytes_eq got value)) (key_value name keys) false

-- a digest is asked for
unfoldable pub has_digest : List ℕ → Bool
has_digest keys =
    has_other_value (codes "HeaderDigest") (codes "None") keys || has_other_value (codes "DataDigest") (codes "None") keys

unfoldable pub chooses_chap : List ℕ → Bool
chooses_chap keys = has_value (codes "AuthMethod") (codes "CHAP") keys

unfoldable pub names_method : List ℕ → Bool
names_method keys = is_some (key_value (codes "AuthMethod") keys)

abbrev pub challenge_of : Option ℕ → Option (List ℕ) → Option Challenge
challenge_of None value = None
challenge_of (Some identifier) None = None
challenge_of (Some identifier) (Some value) = Some (record { identifier = identifier; value = value })

-- the binary value of a key
unfoldable pub binary_of_key : List ℕ → List ℕ → Option (List ℕ)
binary_of_key name keys = option_and_then binary_in (key_value name keys)

-- RFC 7143, section 12.1.3: the target's challenge, for MD5
unfoldable pub challenge_in : List ℕ → Option Challenge
challenge_in keys = if has_value (codes "CHAP_A") (codes "5") keys
    then challenge_of (option_and_then byte_in (key_value (codes "CHAP_I") keys)) (binary_of_key (codes "CHAP_C") keys)
    else None

abbrev pub is_wanted_value : Option (List ℕ) → List ℕ → Bool
is_wanted_value None wanted = false
is_wanted_value (Some value) wanted = bytes_eq value wanted

-- the target answers our challenge, under its name
unfoldable pub answers_back : LoginInfo → List ℕ → Bool
answers_back i keys =
    has_value (codes "CHAP_N") i.reverse_user keys && is_wanted_value (binary_of_key (codes "CHAP_R") keys) (own_response i)

-- the stages are one
abbrev pub is_same_stage : Option Stage → Option Stage → Bool
is_same_stage None given = false
is_same_stage (Some asked) None = false
is_same_stage (Some asked) (Some given) = stage_number asked == stage_number given

-- the target goes on only where that is asked for, and to the stage that is asked for
abbrev pub goes_astray : LoginStep → LoginResponseParts → Bool
goes_astray step r = r.transit && not (is_same_stage (next_stage step) r.next)

abbrev pub broken_login : ℕ → Decision
broken_login rec = End (reason.Broken rec)

-- which kind of CHAP a login has used that used it
abbrev pub chap_kind : LoginInfo → Chap
chap_kind i = if asks_back i then BothWays else OneWay

-- four requests without keys are the most
abbrev pub ask_again : ℕ → ℕ → LoginStep → Decision
ask_again rec repeats step = if nat_lt repeats 4 then Ask (ask.Again step (repeats + 1)) else broken_login rec

-- on to the parameters, where the target goes on
abbrev pub go_on : ℕ → ℕ → LoginStep → Chap → LoginResponseParts → Decision
go_on rec repeats step chap r = if r.transit then Ask (ask.Parameters chap) else ask_again rec repeats step

-- CHAP is begun only by one who can answer
abbrev pub begin_chap : LoginInfo → Decision
begin_chap i = if has_secret i then Ask ask.Algorithm else End (reason.Plain plain.NoSecret)

-- the answer to the names: the target's choice of a method
abbrev pub at_method : LoginInfo → ℕ → ℕ → LoginResponseParts → Decision
at_method i rec repeats r =
    if chooses_chap r.keys then begin_chap i
    else (if asks_back i && (r.transit || names_method r.keys) then broken_login rec
    else go_on rec repeats at.Method No r)

abbrev pub at_challenge : ℕ → Option Challenge → Decision
at_challenge rec None = broken_login rec
at_challenge rec (Some challenge) = Ask (ask.Response challenge)

-- the answer to our response; where we asked the target back, it is this answer that has its response
abbrev pub at_response : LoginInfo → ℕ → ℕ → LoginResponseParts → Decision
at_response i rec repeats r =
    if asks_back i && not (answers_back i r.keys) then broken_login rec else go_on rec repeats at.Response (chap_kind i) r

-- the answer to the parameters
abbrev pub at_parameters : ℕ → ℕ → Chap → LoginResponseParts → Decision
at_parameters rec repeats chap r = if r.transit then Open chap else ask_again rec repeats (at.Parameters chap)

-- the keys of the stage, by what the request waits for
abbrev pub by_keys : LoginInfo → LoginStep → ℕ → ℕ → LoginResponseParts → Decision
by_keys i at.Method rec repeats r = at_method i rec repeats r
by_keys i at.Challenge rec repeats r = at_challenge rec (challenge_in r.keys)
by_keys i at.Response rec repeats r = at_response i rec repeats r
by_keys i at.Identified rec repeats r = go_on rec repeats at.Identified (chap_kind i) r
by_keys i (at.Parameters chap) rec repeats r = at_parameters rec repeats chap r

-- a Login Response: first its status, then where it goes on to, then the digests, and the stage's keys last
unfoldable pub by_response : LoginInfo → LoginStep → ℕ → ℕ → LoginResponseParts → Decision
by_response i step rec repeats r =
    if r.class == 0 then (if goes_astray step r || has_digest r.keys then broken_login rec else by_keys i step rec repeats r)
    else End (reason.Refused rec (r.class * 256 + r.detail))

-- what a PDU comes to: before the session is open, only a Login Response is allowed
abbrev pub decided : LoginInfo → LoginStep → ℕ → ℕ → AnswerParts → Decision
decided i step rec repeats (login r) = by_response i step rec repeats r
decided i step rec repeats (scsi r) = broken_login rec
decided i step rec repeats (data_in d) = broken_login rec
decided i step rec repeats (nop_in n) = broken_login rec
decided i step rec repeats other = broken_login rec

-- the ExpStatSN after an answer
abbrev pub expected_after : LoginResponseParts → ℕ
expected_after r = (r.stat_sn + 1) % 2 ^ 32
