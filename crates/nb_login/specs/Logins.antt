-- What a login does is a function of what came
use Rattle.std.specs.Prelude.{◌≡◌, ◌≤◌, ℕ, List, [], ◌∷◌, ◌++◌, length, slice_index, fold, Option, if◌then◌else◌}
use Rattle.std.specs.List.{flat_map}
use Rattle.std.specs.Option.{option_map_or}
use Rattle.nb_terms.specs.declared.cause.Cause.{Cause}
use Rattle.nb_chap.specs.Responses.{chap_response}
use Rattle.nb_iscsipdu.specs.Heads.{word_at}
use Rattle.nb_iscsipdu.specs.PduTexts.{PduParts, IsPduText}
use Rattle.nb_login.specs.declared.info.LoginInfo.{LoginInfo}
use Rattle.nb_login.specs.declared.session.Session.{Session}
use Rattle.nb_login.specs.declared.step.NextRequest.{NextRequest}
use Rattle.nb_login.specs.declared.step.NextRequest.TheVariants as ask
use Rattle.nb_login.specs.Asking.{login_text}
use Rattle.nb_login.specs.LoginHistory.{PduCame, LoginEntry, login_entry, last_done, login_ended, decided_at, expected_of, text_put, end_given}
use Rattle.nb_login.specs.LoginStands.{session_opened}

-- a PDU more; after the end none is taken
abbrev pub after_came : LoginInfo → List LoginEntry → PduCame → List LoginEntry
after_came i h m = if login_ended h then h else h ++ login_entry m (decided_at i h m) ∷ []

-- the answers of a login that was given these PDUs
abbrev pub login_history : LoginInfo → List PduCame → List LoginEntry
login_history i ms = fold (after_came i) [] ms

abbrev pub text_of_entry : LoginInfo → LoginEntry → List ℕ
text_of_entry i e = option_map_or (λ (text : List ℕ). text) (text_put i (expected_of e.came) e.does) []

-- all that it says: the first request, and those that follow
abbrev pub login_said : LoginInfo → List PduCame → List ℕ
login_said i ms = login_text i ask.Names 0 ++ flat_map (text_of_entry i) (login_history i ms)

-- the end that it has, and the session that it has opened
abbrev pub login_end : LoginInfo → List PduCame → Option Cause
login_end i ms = end_given (last_done (login_history i ms))

abbrev pub login_session : LoginInfo → List PduCame → Option Session
login_session i ms = session_opened i (login_history i ms)

-- the same with another secret
abbrev pub with_secret : LoginInfo → List ℕ → LoginInfo
with_secret i secret = record i { secret = secret }

abbrev pub with_reverse_secret : LoginInfo → List ℕ → LoginInfo
with_reverse_secret i secret = record i { reverse_secret = secret }

-- where a request has our response to a challenge, that with another secret is the same
abbrev pub HasSameResponse : LoginInfo → List ℕ → NextRequest → Type 0
HasSameResponse i secret ask.Names = Unit {0}
HasSameResponse i secret ask.Algorithm = Unit {0}
HasSameResponse i secret (ask.Response c) = chap_response c.identifier secret c.value ≡ chap_response c.identifier i.secret c.value
HasSameResponse i secret (ask.Parameters chap) = Unit {0}
HasSameResponse i secret (ask.Again step number) = Unit {0}

-- a text is an immediate Login Request (0x43) of the task 1, with CmdSN 1, this ExpStatSN and these keys
pub record IsLoginText (text : List ℕ) (exp_stat_sn : ℕ) (keys : List ℕ) : Type 0 where
  pub pdu : PduParts
  pub spelled : IsPduText text pdu
  pub first : slice_index pdu.head 0 ≡ 0x43
  pub task : word_at 16 pdu.head ≡ 1
  pub cmd_sn : word_at 24 pdu.head ≡ 1
  pub expected : word_at 28 pdu.head ≡ exp_stat_sn
  pub segment : pdu.seg ≡ keys

-- names of usual lengths: a setting has at most 1,024 bytes
pub record HasUsualNames (i : LoginInfo) : Type 0 where
  pub initiator : length i.initiator ≤ 2048
  pub target : length i.target ≤ 2048
  pub user : length i.user ≤ 2048
