-- RFC 7143, section 6.1: names with which no login begins, since a zero byte ends a key's text
use Rattle.std.specs.Prelude.{◌≡◌, ℕ, ◌==◌, Bool, List, Option, Some, None, Result, Ok, Err, if◌then◌else◌}
use Rattle.std.specs.List.{list_any}
use Rattle.nb_terms.specs.declared.cause.Cause.{Cause}
use Rattle.nb_terms.specs.declared.reason.Plain.TheVariants as plain
use Rattle.nb_terms.specs.declared.reason.Reason.TheVariants as reason
use Rattle.nb_terms.specs.Reasons.{as_cause}
use Rattle.nb_login.specs.declared.info.LoginInfo.{LoginInfo}
use Rattle.nb_login.specs.declared.refusal.SentName.{SentName}
use Rattle.nb_login.specs.declared.refusal.SentName.TheVariants.{Initiator, Target, User}
use Rattle.nb_login.specs.declared.refusal.LoginRefusal.{LoginRefusal}
use Rattle.nb_login.specs.declared.refusal.LoginRefusal.TheVariants.{ZeroByte, NoMemory}

abbrev pub name_has_zero : List ℕ → Bool
name_has_zero name = list_any (λ byte. byte == 0) name

-- the first name that may be sent and that holds a zero byte
abbrev pub zero_name : LoginInfo → Option SentName
zero_name i =
    if name_has_zero i.initiator then Some Initiator
    else (if name_has_zero i.target then Some Target
    else (if name_has_zero i.user then Some User else None))

-- a login isn't begun exactly where a name holds a zero byte, unless memory runs out
abbrev pub BeginsLogin : {A : Type 0} → LoginInfo → Result A LoginRefusal → Type 0
BeginsLogin i (Ok begun) = zero_name i ≡ None
BeginsLogin i (Err (ZeroByte name)) = zero_name i ≡ Some name
BeginsLogin i (Err NoMemory) = zero_name i ≡ None

-- the target's name is part of a URI, the others are settings
abbrev pub refusal_cause : LoginRefusal → Cause
refusal_cause (ZeroByte Initiator) = as_cause (reason.Plain plain.BadValue)
refusal_cause (ZeroByte Target) = as_cause (reason.Plain plain.BadUri)
refusal_cause (ZeroByte User) = as_cause (reason.Plain plain.BadValue)
refusal_cause NoMemory = as_cause (reason.Plain plain.NoMemory)
