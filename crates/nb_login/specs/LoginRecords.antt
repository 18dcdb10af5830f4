-- Which records brought the answers of a login shows in its ends alone
use Rattle.std.specs.Prelude.{◌≡◌, true, List, length, map, Some}
use Rattle.nb_terms.specs.declared.cause.Cause.{Cause}
use Rattle.nb_iscsipdu.specs.PduTexts.{PduParts}
use Rattle.nb_login.specs.declared.info.LoginInfo.{LoginInfo}
use Rattle.nb_login.specs.declared.session.Session.{Session}
use Rattle.nb_login.specs.LoginHistory.{PduCame, LoginEntry, end_given, last_done, login_ended}
use Rattle.nb_login.specs.LoginStands.{session_opened}
use Rattle.nb_login.specs.Logins.{login_history, login_said}

abbrev pub pdus_alone : List PduCame → List PduParts
pdus_alone ms = map (λ (m : PduCame). m.pdu) ms

-- what two logins have in common that were given the same PDUs, whichever records brought them
pub record AreAlikeLogins (i : LoginInfo) (ms ns : List PduCame) : Type 0 where
  pub said : login_said i ms ≡ login_said i ns
  pub count : length (login_history i ms) ≡ length (login_history i ns)
  pub ended : login_ended (login_history i ms) ≡ login_ended (login_history i ns)
  pub session : session_opened i (login_history i ms) ≡ session_opened i (login_history i ns)

abbrev pub RecordsShowInEndsAlone : Type 0
RecordsShowInEndsAlone = (i : LoginInfo) (ms ns : List PduCame) → pdus_alone ms ≡ pdus_alone ns → AreAlikeLogins i ms ns

-- a login that has opened a session, or given an end, has ended
pub record EndsAreEnds : Type 0 where
  pub opened : (i : LoginInfo) (h : List LoginEntry) (s : Session) → session_opened i h ≡ Some s → login_ended h ≡ true
  pub given : (h : List LoginEntry) (cause : Cause) → end_given (last_done h) ≡ Some cause → login_ended h ≡ true
