-- A longer stream and further tasks only add to what a session says.
use Rattle.std.proofs.Common.{◌≡◌, ℕ, Bool, true, false, List, [], ◌∷◌, ◌++◌, length, map, fold, Option, Some, None, if◌then◌else◌, refl, ap, ◌∙◌, sym, subst, append-nil, arith}
use Rattle.std.proofs.lemmas.List.{map-append}
use Rattle.std.proofs.lemmas.List.Sums.{fold-append}
use Rattle.nb_terms.specs.declared.cause.Cause.{Cause}
use Rattle.nb_streams.specs.Streams.{IsPrefixOf}
use Rattle.nb_talks.specs.Talking.{OnlyAdds}
use Rattle.nb_iscsipdu.specs.Streams.{cut}
use Rattle.nb_login.specs.declared.info.LoginInfo.{LoginInfo}
use Rattle.nb_login.specs.declared.session.Session.{Session}
use Rattle.nb_login.specs.LoginHistory.{PduCame, pdu_came, LoginEntry, end_given, last_done, login_ended}
use Rattle.nb_login.specs.LoginStands.{session_opened}
use Rattle.nb_login.specs.Logins.{after_came, login_history, login_said}
use Rattle.nb_login.specs.LoginTexts.{AreRequestTexts}
use Rattle.nb_login.proofs.LoginTextLaws.{only_requests}
use Rattle.nb_login.proofs.HistoryLaws.{says_more}
use Rattle.nb_disk.specs.Histories.{nothing_read}
use Rattle.nb_disk.specs.DiskAnswers.{opened_of}
use Rattle.nb_sans.specs.Sessions.{ReadTask, pdus_came, login_so_far, comes_from, drive_comes, drive_calls, opening_command, puts_from, drive_said, said_after_login, session_come, login_over, session_says, session_talker}
use Rattle.nb_sans.proofs.Starts.{Starts, starts_then, starts_more, starts_after}
use Rattle.nb_sans.proofs.StreamGrowth.{pdus_grow, comes_grow, FirstIsLater}
use Rattle.nb_sans.proofs.DriveGrowth.{taken_grow, puts_grow}

-- ---- a login that has ended takes no more

pub ended_stays : (i : LoginInfo) (h : List LoginEntry) (ms : List PduCame) → login_ended h ≡ true → fold (after_came i) h ms ≡ h
ended_stays i h [] e = refl
ended_stays i h (m ∷ ms) e = rw e (ended_stays i h ms e)

came_grow : (rec : ℕ) (come later : List ℕ) → Starts (pdus_came rec come) (pdus_came rec (come ++ later))
came_grow rec come later =
    let more = pdus_grow come later in
    record { rest = map (pdu_came rec) more.rest; is = ap (map (pdu_came rec)) more.is ∙ map-append (pdu_came rec) (cut come).pdus more.rest }

pub answers_stay : (rec : ℕ) (i : LoginInfo) (come later : List ℕ) → login_ended (login_so_far rec i come) ≡ true → login_so_far rec i (come ++ later) ≡ login_so_far rec i come
answers_stay rec i come later e =
    let more = came_grow rec come later in
    ap (login_history i) more.is ∙ fold-append (after_came i) [] (pdus_came rec come) more.rest ∙ ended_stays i (login_so_far rec i come) more.rest e

-- a session that is open, or an end, is only there once the login has ended
opened_by : (b : Bool) (o : Option Session) (s : Session) → (if b then o else None) ≡ Some s → (b ≡ true) × (o ≡ Some s)
opened_by true o s is = (refl, is)
opened_by false o s is = absurd cc

over_by : (b : Bool) (o : Option Cause) (cause : Cause) → (if b then o else None) ≡ Some cause → (b ≡ true) × (o ≡ Some cause)
over_by true o cause is = (refl, is)
over_by false o cause is = absurd cc

pub opened_ended : (rec : ℕ) (i : LoginInfo) (come : List ℕ) (s : Session) → session_come rec i come ≡ Some s → login_ended (login_so_far rec i come) ≡ true
opened_ended rec i come s is = (opened_by (login_ended (login_so_far rec i come)) (session_opened i (login_so_far rec i come)) s is).0

pub over_ended : (rec : ℕ) (i : LoginInfo) (come : List ℕ) (cause : Cause) → login_over rec i come ≡ Some cause → login_ended (login_so_far rec i come) ≡ true
over_ended rec i come cause is = (over_by (login_ended (login_so_far rec i come)) (end_given (last_done (login_so_far rec i come))) cause is).0

pub over_given : (rec : ℕ) (i : LoginInfo) (come : List ℕ) (cause : Cause) → login_over rec i come ≡ Some cause → end_given (last_done (login_so_far rec i come)) ≡ Some cause
over_given rec i come cause is = (over_by (login_ended (login_so_far rec i come)) (end_given (last_done (login_so_far rec i come))) cause is).1

-- and it stays
pub stays_open : (rec : ℕ) (i : LoginInfo) (come later : List ℕ) → login_ended (login_so_far rec i come) ≡ true → session_come rec i (come ++ later) ≡ session_come rec i come
stays_open rec i come later e =
    ap (λ (h : List LoginEntry). if login_ended h then session_opened i h else None) (answers_stay rec i come later e)

pub stays_over : (rec : ℕ) (i : LoginInfo) (come later : List ℕ) → login_ended (login_so_far rec i come) ≡ true → login_over rec i (come ++ later) ≡ login_over rec i come
stays_over rec i come later e =
    ap (λ (h : List LoginEntry). if login_ended h then end_given (last_done h) else None) (answers_stay rec i come later e)

-- ---- what an open session's drive does with more

module _ (rec : ℕ) (i : LoginInfo) (come later : List ℕ) (tasks more : List (ReadTask × ℕ)) (first : FirstIsLater come more) (s : Session) (ended : login_ended (login_so_far rec i come) ≡ true) where
  drive_comes_on : Starts (drive_comes rec i come tasks) (drive_comes rec i (come ++ later) (tasks ++ more))
  drive_comes_on =
      let same : length (login_so_far rec i (come ++ later)) ≡ length (login_so_far rec i come) = ap length (answers_stay rec i come later ended) in
      subst (λ n. Starts (drive_comes rec i come tasks) (comes_from rec (come ++ later) n (tasks ++ more))) (sym same)
      (comes_grow rec come later (length (login_so_far rec i come)) tasks more first)

  pub calls_grow : Starts (drive_calls rec i come tasks s) (drive_calls rec i (come ++ later) (tasks ++ more) s)
  calls_grow = taken_grow (opened_of s) nothing_read (drive_comes rec i come tasks) (drive_comes rec i (come ++ later) (tasks ++ more)) drive_comes_on

-- ---- what it says

pub said_same : (i : LoginInfo) (come later : List ℕ) → login_ended (login_so_far 0 i come) ≡ true → login_said i (pdus_came 0 (come ++ later)) ≡ login_said i (pdus_came 0 come)
said_same i come later e = let same = answers_stay 0 i come later e in rw same refl

login_grows : (i : LoginInfo) (come later : List ℕ) → Starts (login_said i (pdus_came 0 come)) (login_said i (pdus_came 0 (come ++ later)))
login_grows i come later =
    let more = came_grow 0 come later in
    let says = says_more i (pdus_came 0 come) more.rest in
    record { rest = says.0; is = ap (login_said i) more.is ∙ says.1 }

module _ (i : LoginInfo) (come later : List ℕ) (before after : Bool) (tasks more : List (ReadTask × ℕ)) (first : FirstIsLater come more) where
  said_by : (o : Option Session) → session_come 0 i come ≡ o → Starts (login_said i (pdus_came 0 come) ++ said_after_login i come tasks o) (session_says i (come ++ later) after (tasks ++ more))
  said_by None is =
      let grows = login_grows i come later in
      starts_then (login_said i (pdus_came 0 come) ++ []) (login_said i (pdus_came 0 come)) (session_says i (come ++ later) after (tasks ++ more))
      (record { rest = []; is = sym (append-nil (login_said i (pdus_came 0 come) ++ []) ∙ append-nil (login_said i (pdus_came 0 come))) })
      (starts_more (login_said i (pdus_came 0 come)) (login_said i (pdus_came 0 (come ++ later))) (said_after_login i (come ++ later) (tasks ++ more) (session_come 0 i (come ++ later))) grows)
  said_by (Some s) is =
      let ended : login_ended (login_so_far 0 i come) ≡ true = opened_ended 0 i come s is in
      let still : session_come 0 i (come ++ later) ≡ Some s = stays_open 0 i come later ended ∙ is in
      let calls : Starts (drive_calls 0 i come tasks s) (drive_calls 0 i (come ++ later) (tasks ++ more) s) = calls_grow 0 i come later tasks more first s ended in
      let puts = puts_grow (opened_of s) nothing_read (drive_calls 0 i come tasks s) (drive_calls 0 i (come ++ later) (tasks ++ more) s) calls in
      rw (said_same i come later ended, still)
      (starts_after (login_said i (pdus_came 0 come)) (drive_said s (drive_calls 0 i come tasks s)) (drive_said s (drive_calls 0 i (come ++ later) (tasks ++ more) s))
      (starts_after (opening_command s) (puts_from (opened_of s) nothing_read (drive_calls 0 i come tasks s)) (puts_from (opened_of s) nothing_read (drive_calls 0 i (come ++ later) (tasks ++ more) s)) puts))

  pub says_grow : IsPrefixOf (session_says i come before tasks) (session_says i (come ++ later) after (tasks ++ more))
  says_grow = let all = said_by (session_come 0 i come) refl in (all.rest, all.is)

-- ---- the talker

pub session_adds : (i : LoginInfo) → OnlyAdds (session_talker i)
session_adds i = record {
  stream = λ come later before after tasks.
      subst (λ (all : List (ReadTask × ℕ)). IsPrefixOf (session_says i come before tasks) (session_says i (come ++ later) after all)) (append-nil tasks)
      (says_grow i come later before after tasks [] tt);
  task = λ come ended tasks next.
      subst (λ (stream : List ℕ). IsPrefixOf (session_says i come ended tasks) (session_says i stream ended (tasks ++ (next, length come) ∷ []))) (append-nil come)
      (says_grow i come [] ended ended tasks ((next, length come) ∷ []) (omega arith));
}

-- ---- before it is open

pub login_first : (i : LoginInfo) (stream : List ℕ) (ended : Bool) (tasks : List (ReadTask × ℕ)) → session_come 0 i stream ≡ None → session_says i stream ended tasks ≡ login_said i (pdus_came 0 stream)
login_first i stream ended tasks none =
    ap (λ (o : Option Session). login_said i (pdus_came 0 stream) ++ said_after_login i stream tasks o) none ∙ append-nil (login_said i (pdus_came 0 stream))

pub requests_first : (i : LoginInfo) (stream : List ℕ) (ended : Bool) (tasks : List (ReadTask × ℕ)) → session_come 0 i stream ≡ None → AreRequestTexts (session_says i stream ended tasks)
requests_first i stream ended tasks none = subst AreRequestTexts (sym (login_first i stream ended tasks none)) (only_requests i (pdus_came 0 stream))
