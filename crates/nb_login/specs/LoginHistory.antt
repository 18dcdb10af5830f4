-- All the answers of a login since its start, each with what it came to
use Rattle.std.specs.Prelude.{◌≡◌, ℕ, Bool, true, false, List, [], ◌∷◌, ◌++◌, fold, Option, Some, None}
use Rattle.nb_terms.specs.declared.acts.Acts.{Acts}
use Rattle.nb_terms.specs.declared.cause.Cause.{Cause}
use Rattle.nb_terms.specs.declared.reason.Plain.TheVariants as plain
use Rattle.nb_terms.specs.declared.reason.Reason.TheVariants as reason
use Rattle.nb_terms.specs.Reasons.{as_cause}
use Rattle.nb_iscsipdu.specs.PduTexts.{PduParts}
use Rattle.nb_iscsipdu.specs.Answers.{AnswerParts, answer_read, login, scsi, data_in, nop_in, other}
use Rattle.nb_login.specs.declared.info.LoginInfo.{LoginInfo}
use Rattle.nb_login.specs.declared.step.NextRequest.TheVariants as ask
use Rattle.nb_login.specs.declared.step.Decision.{Decision}
use Rattle.nb_login.specs.declared.step.Decision.TheVariants.{Ask, Open, End}
use Rattle.nb_login.specs.Asking.{step_of, login_text}
use Rattle.nb_login.specs.LoginVerdicts.{decided, expected_after}

-- a PDU, and the number of the record that completed it
pub record PduCame : Type 0 where
  pub rec : ℕ
  pub pdu : PduParts

abbrev pub pdu_came : ℕ → PduParts → PduCame
pdu_came rec pdu = record { rec = rec; pdu = pdu }

-- a PDU, and what it came to: a request, the session, or another end
pub record LoginEntry : Type 0 where
  pub came : PduCame
  pub does : Decision

abbrev pub login_entry : PduCame → Decision → LoginEntry
login_entry came does = record { came = came; does = does }

-- what was done last: in the beginning the names were sent
abbrev pub last_done : List LoginEntry → Decision
last_done entries = fold (λ d e. e.does) (Ask ask.Names) entries

-- each request without keys has its number
abbrev pub counted_repeats : ℕ → Decision → ℕ
counted_repeats n (Ask ask.Names) = n
counted_repeats n (Ask ask.Algorithm) = n
counted_repeats n (Ask (ask.Response challenge)) = n
counted_repeats n (Ask (ask.Parameters chap)) = n
counted_repeats n (Ask (ask.Again step number)) = number
counted_repeats n (Open chap) = n
counted_repeats n (End reason) = n

-- how many requests were made without keys
abbrev pub repeats : List LoginEntry → ℕ
repeats entries = fold (λ n e. counted_repeats n e.does) 0 entries

-- the ExpStatSN after a PDU, where it is a Login Response
abbrev pub expected_by : AnswerParts → ℕ
expected_by (login r) = expected_after r
expected_by (scsi r) = 0
expected_by (data_in d) = 0
expected_by (nop_in n) = 0
expected_by other = 0

abbrev pub expected_of : PduCame → ℕ
expected_of m = expected_by (answer_read m.pdu)

-- 0 before the first answer, and then that of the last
abbrev pub expected : List LoginEntry → ℕ
expected entries = fold (λ n e. expected_of e.came) 0 entries

-- the request that a decision puts after an answer
abbrev pub text_put : LoginInfo → ℕ → Decision → Option (List ℕ)
text_put i sn (Ask request) = Some (login_text i request sn)
text_put i sn (Open chap) = None
text_put i sn (End reason) = None

-- the end that it gives
abbrev pub end_given : Decision → Option Cause
end_given (Ask request) = None
end_given (Open chap) = Some (as_cause (reason.Plain plain.Ok))
end_given (End reason) = Some (as_cause reason)

-- what such a call asks of its caller: nothing but the end
abbrev pub login_ending : Option Cause → Acts
login_ending over = record { sends = record { items = [] }; tried = None; advance = None; give = None; ready = false; over = over }

abbrev pub is_end : Decision → Bool
is_end (Ask request) = false
is_end (Open chap) = true
is_end (End reason) = true

-- an end was given
abbrev pub login_ended : List LoginEntry → Bool
login_ended entries = is_end (last_done entries)

-- what a PDU comes to after others that came to this
abbrev pub decided_after : LoginInfo → ℕ → PduCame → Decision → Decision
decided_after i n m (Ask request) = decided i (step_of request) m.rec n (answer_read m.pdu)
decided_after i n m (Open chap) = Open chap
decided_after i n m (End reason) = End reason

abbrev pub decided_at : LoginInfo → List LoginEntry → PduCame → Decision
decided_at i before m = decided_after i (repeats before) m (last_done before)

-- a fact of each entry, with those before it
abbrev pub EachAnswer : (List LoginEntry → LoginEntry → Type 0) → List LoginEntry → List LoginEntry → Type 0
EachAnswer P before [] = Unit {0}
EachAnswer P before (e ∷ es) = P before e × EachAnswer P (before ++ e ∷ []) es

-- No answer is taken after an end, and each comes to what the request says that is out.
pub record IsDecidedSo (i : LoginInfo) (before : List LoginEntry) (e : LoginEntry) : Type 0 where
  pub open_yet : login_ended before ≡ false
  pub so : e.does ≡ decided_at i before e.came

-- the promise of a login that was begun so
pub record LoginMeets (i : LoginInfo) (entries : List LoginEntry) : Type 0 where
  pub answers : EachAnswer (IsDecidedSo i) [] entries
