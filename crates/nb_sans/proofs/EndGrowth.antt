-- An end that was decided stays, whatever follows.
use Rattle.std.proofs.Common.{◌≡◌, ℕ, ◌||◌, ◌⊎◌, inl, inr, Bool, true, false, List, ◌++◌, map, Option, Some, None, if◌then◌else◌, refl, ap, ◌∙◌}
use Rattle.std.proofs.lemmas.Bool.{or_right}
use Rattle.std.proofs.lemmas.Option.{same_Some}
use Rattle.nb_terms.specs.declared.cause.Cause.{Cause}
use Rattle.nb_iscsipdu.specs.Streams.{Cut, cut, is_refused}
use Rattle.nb_login.specs.declared.info.LoginInfo.{LoginInfo}
use Rattle.nb_login.specs.declared.session.Session.{Session}
use Rattle.nb_login.specs.LoginHistory.{pdu_came, login_ended}
use Rattle.nb_login.specs.Logins.{login_history}
use Rattle.nb_disk.specs.Histories.{nothing_read}
use Rattle.nb_disk.specs.DiskAnswers.{opened_of, broken}
use Rattle.nb_sans.specs.Sessions.{ReadTask, login_so_far, drive_calls, session_come, login_over, over_from, over_or_short, session_end_by, session_end}
use Rattle.nb_sans.specs.SessionLaws.{AreAskedAfter}
use Rattle.nb_sans.proofs.StreamGrowth.{cut_stays, refused_stays, FirstIsLater, first_is_later}
use Rattle.nb_sans.proofs.DriveGrowth.{over_stays}
use Rattle.nb_sans.proofs.SessionGrowth.{opened_ended, over_ended, stays_open, stays_over, calls_grow}

-- an end is one that was given, or where a PDU is lacking
pub of_two : (rec : ℕ) (short : Bool) (over : Option Cause) (cause : Cause) → over_or_short rec short over ≡ Some cause
    → (over ≡ Some cause) ⊎ ((over ≡ None) × (short ≡ true) × (broken rec ≡ cause))
of_two rec short (Some one) cause is = inl is
of_two rec true None cause is = inr (refl, refl, same_Some (broken rec) cause is)
of_two rec false None cause is = absurd cc

given_is : (rec : ℕ) (short : Bool) (over : Option Cause) (cause : Cause) → over ≡ Some cause → over_or_short rec short over ≡ Some cause
given_is rec short over cause is = ap (over_or_short rec short) is

short_is : (rec : ℕ) (short : Bool) (over : Option Cause) (cause : Cause) → over ≡ None → short ≡ true → broken rec ≡ cause → over_or_short rec short over ≡ Some cause
short_is rec short over cause none is same = ap (over_or_short rec short) none ∙ ap (λ b. if b then Some (broken rec) else None) is ∙ ap (λ (c : Cause). Some c) same

module _ (rec : ℕ) (i : LoginInfo) (come later : List ℕ) (after : Bool) (tasks more : List (ReadTask × ℕ)) (first : FirstIsLater come more) (cause : Cause) where
  in_session : (s : Session) → session_come rec i come ≡ Some s → over_from (opened_of s) nothing_read (drive_calls rec i come tasks s) ≡ Some cause
      → session_end rec i (come ++ later) after (tasks ++ more) ≡ Some cause
  in_session s opens is =
      let ended : login_ended (login_so_far rec i come) ≡ true = opened_ended rec i come s opens in
      let still : session_come rec i (come ++ later) ≡ Some s = stays_open rec i come later ended ∙ opens in
      ap (session_end_by rec i (come ++ later) after (tasks ++ more)) still
      ∙ given_is rec after (over_from (opened_of s) nothing_read (drive_calls rec i (come ++ later) (tasks ++ more) s)) cause
      (over_stays (opened_of s) nothing_read (drive_calls rec i come tasks s) (drive_calls rec i (come ++ later) (tasks ++ more) s) cause (calls_grow rec i come later tasks more first s ended) is)

  in_login : session_come rec i come ≡ None → login_over rec i come ≡ Some cause → session_end rec i (come ++ later) after (tasks ++ more) ≡ Some cause
  in_login none is =
      let ended : login_ended (login_so_far rec i come) ≡ true = over_ended rec i come cause is in
      let still : session_come rec i (come ++ later) ≡ None = stays_open rec i come later ended ∙ none in
      ap (session_end_by rec i (come ++ later) after (tasks ++ more)) still
      ∙ given_is rec (after || is_refused (cut (come ++ later)).rest) (login_over rec i (come ++ later)) cause (stays_over rec i come later ended ∙ is)

  -- nothing more is read of the stream
  in_cut : session_come rec i come ≡ None → login_over rec i come ≡ None → is_refused (cut come).rest ≡ true → broken rec ≡ cause
      → session_end rec i (come ++ later) after (tasks ++ more) ≡ Some cause
  in_cut none lives off is =
      let same : login_so_far rec i (come ++ later) ≡ login_so_far rec i come = ap (λ (c : Cut). login_history i (map (pdu_came rec) c.pdus)) (cut_stays come later off) in
      let still : session_come rec i (come ++ later) ≡ None = rw same none in
      let goes : login_over rec i (come ++ later) ≡ None = rw same lives in
      ap (session_end_by rec i (come ++ later) after (tasks ++ more)) still
      ∙ short_is rec (after || is_refused (cut (come ++ later)).rest) (login_over rec i (come ++ later)) cause goes
      (or_right after (is_refused (cut (come ++ later)).rest) (refused_stays come later off)) is

  stays_by : (o : Option Session) → session_come rec i come ≡ o → session_end_by rec i come false tasks o ≡ Some cause → session_end rec i (come ++ later) after (tasks ++ more) ≡ Some cause
  stays_by None opens is =
      elim (of_two rec (is_refused (cut come).rest) (login_over rec i come) cause is) [
        | inl given ↦ in_login opens given
        | inr short ↦ in_cut opens short.0 short.1 short.2
      ]
  stays_by (Some s) opens is =
      elim (of_two rec false (over_from (opened_of s) nothing_read (drive_calls rec i come tasks s)) cause is) [
        | inl given ↦ in_session s opens given
        | inr short ↦ absurd (let e = short.1 in cc)
      ]

  pub end_stays : session_end rec i come false tasks ≡ Some cause → session_end rec i (come ++ later) after (tasks ++ more) ≡ Some cause
  end_stays is = stays_by (session_come rec i come) refl is

pub ends_stay : (rec : ℕ) (i : LoginInfo) (come later : List ℕ) (after : Bool) (tasks more : List (ReadTask × ℕ)) (cause : Cause) → AreAskedAfter come more
    → session_end rec i come false tasks ≡ Some cause → session_end rec i (come ++ later) after (tasks ++ more) ≡ Some cause
ends_stay rec i come later after tasks more cause asked is = end_stays rec i come later after tasks more (first_is_later come more asked) cause is
