-- What a login stands for: all the answers since its start
use Rattle.std.specs.Prelude.{◌≡◌, ℕ, Bool, true, false, List, Option, Some, None}
use Rattle.nb_terms.specs.declared.cause.Cause.{Cause}
use Rattle.nb_terms.specs.declared.reason.Plain.TheVariants as plain
use Rattle.nb_terms.specs.declared.reason.Reason.TheVariants as reason
use Rattle.nb_terms.specs.Reasons.{as_cause}
use Rattle.nb_login.specs.declared.info.LoginInfo.{LoginInfo}
use Rattle.nb_login.specs.declared.session.Session.{Session}
use Rattle.nb_login.specs.declared.step.Chap.{Chap}
use Rattle.nb_login.specs.declared.step.Chap.TheVariants.{No, OneWay, BothWays}
use Rattle.nb_login.specs.declared.step.Decision.{Decision}
use Rattle.nb_login.specs.declared.step.Decision.TheVariants.{Ask, Open, End}
use Rattle.nb_login.specs.declared.state.State.{State}
use Rattle.nb_login.specs.declared.state.State.TheVariants.{Negotiating, Opened, Over}
use Rattle.nb_login.specs.declared.state.Negotiation.{Negotiation}
use Rattle.nb_login.specs.declared.state.Next.{Next}
use Rattle.nb_login.specs.declared.state.Next.TheVariants as next
use Rattle.nb_login.specs.Asking.{step_of, login_text}
use Rattle.nb_terms.specs.declared.acts.Acts.{Acts}
use Rattle.nb_iscsipdu.specs.Answers.{answer_read}
use Rattle.nb_login.specs.LoginVerdicts.{decided}
use Rattle.nb_login.specs.LoginHistory.{PduCame, LoginEntry, last_done, repeats, counted_repeats, expected, expected_of, text_put, end_given, login_ending, LoginMeets}

abbrev pub chap_number : Chap → ℕ
chap_number No = 0
chap_number OneWay = 1
chap_number BothWays = 2

-- RFC 7143, section 4.2.2: the login's requests were immediate, so the first command has CmdSN 1
abbrev pub session_after_login : LoginInfo → ℕ → Chap → Session
session_after_login i sn chap = record { info = i; cmd_sn = 1; exp_stat_sn = sn; task = 2; chap = chap_number chap }

-- where a decision leaves a login with so many requests without keys
abbrev pub state_after : LoginInfo → ℕ → ℕ → Decision → State
state_after i n sn (Ask request) = Negotiating (record { info = i; step = step_of request; repeats = n })
state_after i n sn (Open chap) = Opened (session_after_login i sn chap)
state_after i n sn (End reason) = Over

abbrev pub login_state_of : LoginInfo → List LoginEntry → State
login_state_of i entries = state_after i (repeats entries) (expected entries) (last_done entries)

-- A login that was begun so stands for these answers with what they came to: they meet its promise, and it
-- is where they left it.
pub record LoginStands (i : LoginInfo) (s : State) (entries : List LoginEntry) : Type 0 where
  pub meets : LoginMeets i entries
  pub left : s ≡ login_state_of i entries

-- the session that was opened
abbrev pub session_after : LoginInfo → ℕ → Decision → Option Session
session_after i sn (Ask request) = None
session_after i sn (Open chap) = Some (session_after_login i sn chap)
session_after i sn (End reason) = None

abbrev pub session_opened : LoginInfo → List LoginEntry → Option Session
session_opened i entries = session_after i (expected entries) (last_done entries)

-- a login whose session was handed out, or that was refused: it asks for nothing more
abbrev pub IsDone : State → Type 0
IsDone s = s ≡ Over

-- THE STEPS

abbrev pub decided_by : Negotiation → PduCame → Decision
decided_by n m = decided n.info n.step m.rec n.repeats (answer_read m.pdu)

-- a PDU that comes to this, what it leaves, puts and asks
pub record TakesPdu (n : Negotiation) (m : PduCame) (does : Decision) (new : State) (text : Option (List ℕ)) (acts : Acts) : Type 0 where
  pub state : new ≡ state_after n.info (counted_repeats n.repeats does) (expected_of m) does
  pub put : text ≡ text_put n.info (expected_of m) does
  pub ends : acts ≡ login_ending (end_given does)

-- what a decision comes to, made ready
abbrev pub next_of_decision : Negotiation → ℕ → Decision → Next
next_of_decision n sn (Ask request) = next.Asks (login_text n.info request sn) (step_of request) (counted_repeats n.repeats (Ask request))
next_of_decision n sn (Open chap) = next.Opens chap sn
next_of_decision n sn (End reason) = next.Ends reason

abbrev pub state_by : Negotiation → Next → State
state_by n (next.Asks text step repeats) = Negotiating (record { info = n.info; step = step; repeats = repeats })
state_by n (next.Opens chap sn) = Opened (session_after_login n.info sn chap)
state_by n (next.Ends reason) = Over

abbrev pub text_by : Next → Option (List ℕ)
text_by (next.Asks text step repeats) = Some text
text_by (next.Opens chap sn) = None
text_by (next.Ends reason) = None

abbrev pub end_by_next : Next → Option Cause
end_by_next (next.Asks text step repeats) = None
end_by_next (next.Opens chap sn) = Some (as_cause (reason.Plain plain.Ok))
end_by_next (next.Ends reason) = Some (as_cause reason)

-- what follows from it
pub record FollowsFrom (n : Negotiation) (x : Next) (new : State) (text : Option (List ℕ)) (acts : Acts) : Type 0 where
  pub state : new ≡ state_by n x
  pub put : text ≡ text_by x
  pub ends : acts ≡ login_ending (end_by_next x)

abbrev pub is_negotiating : State → Bool
is_negotiating (Negotiating n) = true
is_negotiating (Opened session) = false
is_negotiating Over = false

abbrev pub session_held : State → Option Session
session_held (Negotiating n) = None
session_held (Opened session) = Some session
session_held Over = None

abbrev pub after_handing : State → State
after_handing (Negotiating n) = Negotiating n
after_handing (Opened session) = Over
after_handing Over = Over
