-- A session that has ended by its stream stays so: whatever more comes of it, nothing more is said, and the drive has no further call.
use Rattle.std.proofs.Common.{◌≡◌, inl, inr, ◌||◌, ℕ, Bool, true, false, List, [], ◌∷◌, ◌++◌, length, map, Option, Some, None, if◌then◌else◌, refl, ap, ◌∙◌, sym, subst, append-nil}
use Rattle.std.specs.Option.{is_some, option_or}
use Rattle.nb_terms.specs.declared.cause.Cause.{Cause}
use Rattle.nb_iscsipdu.specs.Streams.{Cut, cut, is_refused}
use Rattle.nb_login.specs.declared.info.LoginInfo.{LoginInfo}
use Rattle.nb_login.specs.declared.session.Session.{Session}
use Rattle.nb_login.specs.LoginHistory.{login_ended, pdu_came}
use Rattle.nb_login.specs.LoginStands.{session_opened}
use Rattle.nb_login.specs.Logins.{login_history, login_said}
use Rattle.nb_login.proofs.LoginRecordLaws.{records_show as logins_alike}
use Rattle.nb_disk.specs.Histories.{DiskCall, DiskReading, SessionNumbers, after_call, nothing_read}
use Rattle.nb_disk.specs.DiskAnswers.{disk_answer, ended_from, session_has_ended, opened_of}
use Rattle.nb_sans.specs.Sessions.{ReadTask, comes_from, drive_calls, drive_comes, is_call, login_over, login_so_far, opening_command, over_from, pdus_came, puts_from, said_after_login, session_come, session_end, session_end_by, session_says, taken_from}
use Rattle.nb_sans.proofs.EndGrowth.{end_stays, of_two}
use Rattle.nb_sans.proofs.RecordLaws.{records_show}
use Rattle.nb_sans.proofs.SessionGrowth.{answers_stay, login_first, opened_ended, over_ended, said_same, stays_open}
use Rattle.nb_sans.proofs.StreamGrowth.{comes_grow, cut_stays}
use Rattle.nb_drivetalks.specs.Comings.{calls_by, session_calls}
use Rattle.nb_drivetalks.proofs.SessionParts.{alone_of}

-- what has ended takes no further call
taken_over : (o : SessionNumbers) (r : DiskReading) (calls more : List DiskCall) → ended_from o r (taken_from o r calls) ≡ true → taken_from o r (calls ++ more) ≡ taken_from o r calls
taken_over o r [] more e = absurd (let z = e in cc)
taken_over o r (call ∷ calls) more e = by (λ f. taken_over o (after_call o r call) calls more f) (λ f. taken_over o r calls more f) (is_call r call) refl
  where
    last : (ended_from o (after_call o r call) (taken_from o (after_call o r call) calls) ≡ true → taken_from o (after_call o r call) (calls ++ more) ≡ taken_from o (after_call o r call) calls)
        → (v : Bool) → is_some (disk_answer o r call).over ≡ v → ended_from o r (call ∷ (if v then [] else taken_from o (after_call o r call) calls)) ≡ true
        → call ∷ (if v then [] else taken_from o (after_call o r call) (calls ++ more)) ≡ call ∷ (if v then [] else taken_from o (after_call o r call) calls)
    last goes true f g = refl
    last goes false f g = ap (λ (z : List DiskCall). call ∷ z) (goes (sym (ap (λ b. b || ended_from o (after_call o r call) (taken_from o (after_call o r call) calls)) f) ∙ g))

    by : (ended_from o (after_call o r call) (taken_from o (after_call o r call) calls) ≡ true → taken_from o (after_call o r call) (calls ++ more) ≡ taken_from o (after_call o r call) calls)
        → (ended_from o r (taken_from o r calls) ≡ true → taken_from o r (calls ++ more) ≡ taken_from o r calls)
        → (b : Bool) → is_call r call ≡ b → taken_from o r ((call ∷ calls) ++ more) ≡ taken_from o r (call ∷ calls)
    by goes past true f =
        let have : ended_from o r (call ∷ (if is_some (disk_answer o r call).over then [] else taken_from o (after_call o r call) calls)) ≡ true =
        sym (ap (λ b. ended_from o r (if b then (call ∷ (if is_some (disk_answer o r call).over then [] else taken_from o (after_call o r call) calls)) else taken_from o r calls)) f) ∙ e in
        ap (λ b. if b then (call ∷ (if is_some (disk_answer o r call).over then [] else taken_from o (after_call o r call) (calls ++ more))) else taken_from o r (calls ++ more)) f
        ∙ last goes (is_some (disk_answer o r call).over) refl have
        ∙ sym (ap (λ b. if b then (call ∷ (if is_some (disk_answer o r call).over then [] else taken_from o (after_call o r call) calls)) else taken_from o r calls) f)
    by goes past false f =
        let have : ended_from o r (taken_from o r calls) ≡ true =
        sym (ap (λ b. ended_from o r (if b then (call ∷ (if is_some (disk_answer o r call).over then [] else taken_from o (after_call o r call) calls)) else taken_from o r calls)) f) ∙ e in
        ap (λ b. if b then (call ∷ (if is_some (disk_answer o r call).over then [] else taken_from o (after_call o r call) (calls ++ more))) else taken_from o r (calls ++ more)) f
        ∙ past have
        ∙ sym (ap (λ b. if b then (call ∷ (if is_some (disk_answer o r call).over then [] else taken_from o (after_call o r call) calls)) else taken_from o r calls) f)

over_ends : (o : SessionNumbers) (r : DiskReading) (calls : List DiskCall) (x : Cause) → over_from o r calls ≡ Some x → ended_from o r calls ≡ true
over_ends o r [] x e = absurd (let z = e in cc)
over_ends o r (call ∷ calls) x e = by (λ f. over_ends o (after_call o r call) calls x f) (disk_answer o r call).over e
  where
    by : (over_from o (after_call o r call) calls ≡ Some x → ended_from o (after_call o r call) calls ≡ true) → (over : Option Cause) → option_or over (over_from o (after_call o r call) calls) ≡ Some x
        → (is_some over || ended_from o (after_call o r call) calls) ≡ true
    by more None f = more f
    by more (Some y) f = refl

-- Nothing more is said, and there is no further call, whatever more comes.
pub record IsStill (i : LoginInfo) (come : List ℕ) (tasks : List (ReadTask × ℕ)) : Type 0 where
  pub says : (later : List ℕ) (before after : Bool) → session_says i (come ++ later) after tasks ≡ session_says i come before tasks
  pub opens : (later : List ℕ) → session_come 0 i (come ++ later) ≡ session_come 0 i come
  pub calls : (later : List ℕ) → session_calls i (come ++ later) tasks ≡ session_calls i come tasks

module _ (rec : ℕ) (i : LoginInfo) (come : List ℕ) (tasks : List (ReadTask × ℕ)) (x : Cause) where
  none_then : session_come 0 i come ≡ None → ((later : List ℕ) → login_said i (pdus_came 0 (come ++ later)) ≡ login_said i (pdus_came 0 come)) → ((later : List ℕ) → session_come 0 i (come ++ later) ≡ session_come 0 i come) → IsStill i come tasks
  none_then none said opens = record {
    says = λ later before after. login_first i (come ++ later) after tasks (opens later ∙ none) ∙ said later ∙ sym (login_first i come before tasks none);
    opens = opens;
    calls = λ later. ap (calls_by i (come ++ later) tasks) (opens later ∙ none) ∙ sym (ap (calls_by i come tasks) none);
  }

  -- a login that has ended
  by_login : session_come rec i come ≡ None → login_over rec i come ≡ Some x → IsStill i come tasks
  by_login none over =
      let ended : login_ended (login_so_far 0 i come) ≡ true = sym (logins_end rec) ∙ over_ended rec i come x over in
      none_then (sym (records_show.session rec i come) ∙ none) (λ later. said_same i come later ended) (λ later. stays_open 0 i come later ended)
    where
      logins_end : (r : ℕ) → login_ended (login_so_far r i come) ≡ login_ended (login_so_far 0 i come)
      logins_end r = (logins_alike i (pdus_came r come) (pdus_came 0 come) (alone_of r (cut come).pdus ∙ sym (alone_of 0 (cut come).pdus))).ended

  -- bytes with which no PDU begins
  by_refusal : session_come rec i come ≡ None → is_refused (cut come).rest ≡ true → IsStill i come tasks
  by_refusal none off =
      let same = λ (later : List ℕ). cut_stays come later off in
      none_then (sym (records_show.session rec i come) ∙ none) (λ later. ap (λ (c : Cut). login_said i (map (pdu_came 0) c.pdus)) (same later))
      (λ later. ap (λ (c : Cut). if login_ended (login_history i (map (pdu_came 0) c.pdus)) then session_opened i (login_history i (map (pdu_came 0) c.pdus)) else None) (same later))

  -- a drive that has ended
  module _ (s : Session) (opens : session_come rec i come ≡ Some s) (over : over_from (opened_of s) nothing_read (drive_calls rec i come tasks s) ≡ Some x) where
    first : session_come 0 i come ≡ Some s
    first = sym (records_show.session rec i come) ∙ opens

    ended : login_ended (login_so_far 0 i come) ≡ true
    ended = opened_ended 0 i come s first

    drive_ended : session_has_ended (opened_of s) (drive_calls 0 i come tasks s) ≡ true
    drive_ended =
        sym (records_show.ended (opened_of s) rec (drive_calls 0 i come tasks s)) ∙ sym (ap (session_has_ended (opened_of s)) (records_show.calls rec i come tasks s))
        ∙ over_ends (opened_of s) nothing_read (drive_calls rec i come tasks s) x over

    calls_stay : (later : List ℕ) → drive_calls 0 i (come ++ later) tasks s ≡ drive_calls 0 i come tasks s
    calls_stay later =
        let grows = comes_grow 0 come later (length (login_so_far 0 i come)) tasks [] tt in
        ap (λ n. taken_from (opened_of s) nothing_read (comes_from 0 (come ++ later) n tasks)) (ap length (answers_stay 0 i come later ended))
        ∙ ap (taken_from (opened_of s) nothing_read) (ap (comes_from 0 (come ++ later) (length (login_so_far 0 i come))) (sym (append-nil tasks)) ∙ grows.is)
        ∙ taken_over (opened_of s) nothing_read (drive_comes 0 i come tasks) grows.rest drive_ended

    by_drive : IsStill i come tasks
    by_drive = record {
      says = λ later before after.
          ap (λ (o : Option Session). login_said i (pdus_came 0 (come ++ later)) ++ said_after_login i (come ++ later) tasks o) (stays_open 0 i come later ended ∙ first)
          ∙ ap (λ z. z ++ said_after_login i (come ++ later) tasks (Some s)) (said_same i come later ended)
          ∙ ap (λ (z : List DiskCall). login_said i (pdus_came 0 come) ++ (opening_command s ++ puts_from (opened_of s) nothing_read z)) (calls_stay later)
          ∙ sym (ap (λ (o : Option Session). login_said i (pdus_came 0 come) ++ said_after_login i come tasks o) first);
      opens = λ later. stays_open 0 i come later ended;
      calls = λ later. ap (calls_by i (come ++ later) tasks) (stays_open 0 i come later ended ∙ first) ∙ calls_stay later ∙ sym (ap (calls_by i come tasks) first);
    }

  still_by : (o : Option Session) → session_come rec i come ≡ o → session_end_by rec i come false tasks o ≡ Some x → IsStill i come tasks
  still_by None opens is = elim (of_two rec (is_refused (cut come).rest) (login_over rec i come) x is) [ inl given ↦ by_login opens given | inr short ↦ by_refusal opens short.1 ]
  still_by (Some s) opens is = elim (of_two rec false (over_from (opened_of s) nothing_read (drive_calls rec i come tasks s)) x is) [ inl given ↦ by_drive s opens given | inr short ↦ absurd (let e = short.1 in cc) ]

  pub is_still : session_end rec i come false tasks ≡ Some x → IsStill i come tasks
  is_still is = still_by (session_come rec i come) refl is

  -- the end stays
  pub still_ends : (later : List ℕ) (after : Bool) → session_end rec i come false tasks ≡ Some x → session_end rec i (come ++ later) after tasks ≡ Some x
  still_ends later after is = subst (λ z. session_end rec i (come ++ later) after z ≡ Some x) (append-nil tasks) (end_stays rec i come later after tasks [] tt x is)
