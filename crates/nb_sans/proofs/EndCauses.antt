-- Each end of a session has its cause in what came.
use Rattle.std.proofs.Common.{◌≡◌, ◌||◌, inl, inr, ℕ, zero, suc, Bool, true, false, List, [], ◌∷◌, ◌++◌, length, take, drop, map, max, fold, Option, Some, None, if◌then◌else◌, refl, ap, ◌∙◌, sym, subst, append-nil, leb}
use Rattle.std.specs.List.{AllByRecursion}
use Rattle.std.specs.Option.{option_or, is_some}
use Rattle.std.proofs.lemmas.Bool.{or_left, or_right}
use Rattle.std.proofs.lemmas.List.{take-append-drop}
use Rattle.std.proofs.lemmas.Option.{same_Some}
use Rattle.nb_terms.specs.declared.cause.Cause.{Cause}
use Rattle.nb_streams.proofs.FlowLaws.{all_append}
use Rattle.nb_iscsipdu.specs.PduTexts.{PduParts}
use Rattle.nb_iscsipdu.specs.Answers.{answer_read}
use Rattle.nb_iscsipdu.specs.Streams.{cut, is_refused}
use Rattle.nb_login.specs.declared.info.LoginInfo.{LoginInfo}
use Rattle.nb_login.specs.declared.session.Session.{Session}
use Rattle.nb_login.specs.LoginHistory.{LoginEntry, end_given, last_done, login_ended, LoginMeets}
use Rattle.nb_login.proofs.HistoryLaws.{history_meets}
use Rattle.nb_login.proofs.LoginHistoryLemmas.{last_done-append}
use Rattle.nb_login.proofs.LoginEndingLaws.{cause_stands}
use Rattle.nb_disk.specs.Histories.{DiskCall, came, asked, stream_ended, DiskReading, nothing_read, SessionNumbers, after_call, reading}
use Rattle.nb_disk.specs.DiskAnswers.{opened_of, broken, disk_answer}
use Rattle.nb_disk.proofs.EndingLemmas.{ends-caused}
use Rattle.nb_sans.specs.Sessions.{ReadTask, last_part, stream_parts, pdus_came, login_so_far, session_come, login_over, comes_from, drive_comes, is_call, taken_from, drive_calls, over_from, session_end_by, session_end}
use Rattle.nb_sans.specs.SessionLaws.{SessionEnding, by_login_answer, by_drive_pdu, by_stream_end}
use Rattle.nb_sans.proofs.StreamGrowth.{refused_stays}
use Rattle.nb_sans.proofs.SessionGrowth.{over_ended, over_given}
use Rattle.nb_sans.proofs.EndGrowth.{of_two}

-- ---- the call that ends a drive

record EndsAt (o : SessionNumbers) (r : DiskReading) (calls : List DiskCall) (cause : Cause) : Type 0 where
  before : List DiskCall
  call : DiskCall
  all : calls ≡ before ++ call ∷ []
  over : (disk_answer o (fold (after_call o) r before) call).over ≡ Some cause

one_before : (o : SessionNumbers) (r : DiskReading) (call : DiskCall) (calls : List DiskCall) (cause : Cause) → EndsAt o (after_call o r call) calls cause → EndsAt o r (call ∷ calls) cause
one_before o r call calls cause e = record { before = call ∷ e.before; call = e.call; all = ap (λ (l : List DiskCall). call ∷ l) e.all; over = e.over }

ends_at : (o : SessionNumbers) (r : DiskReading) (comes : List DiskCall) (cause : Cause) → over_from o r (taken_from o r comes) ≡ Some cause → EndsAt o r (taken_from o r comes) cause
ends_at o r [] cause is = absurd cc
ends_at o r (call ∷ comes) cause is = by (ends_at o (after_call o r call) comes cause) (ends_at o r comes cause) (is_call r call) is
  where
    by_over : (over_from o (after_call o r call) (taken_from o (after_call o r call) comes) ≡ Some cause → EndsAt o (after_call o r call) (taken_from o (after_call o r call) comes) cause)
        → (over : Option Cause) → (disk_answer o r call).over ≡ over
        → over_from o r (call ∷ (if is_some over then [] else taken_from o (after_call o r call) comes)) ≡ Some cause
        → EndsAt o r (call ∷ (if is_some over then [] else taken_from o (after_call o r call) comes)) cause
    by_over goes (Some one) e so = record { before = []; call = call; all = refl; over = e ∙ (sym (ap (λ (x : Option Cause). option_or x None) e) ∙ so) }
    by_over goes None e so =
        one_before o r call (taken_from o (after_call o r call) comes) cause
        (goes (sym (ap (λ (x : Option Cause). option_or x (over_from o (after_call o r call) (taken_from o (after_call o r call) comes))) e) ∙ so))

    by : (over_from o (after_call o r call) (taken_from o (after_call o r call) comes) ≡ Some cause → EndsAt o (after_call o r call) (taken_from o (after_call o r call) comes) cause)
        → (over_from o r (taken_from o r comes) ≡ Some cause → EndsAt o r (taken_from o r comes) cause)
        → (b : Bool)
        → over_from o r (if b then (call ∷ (if is_some (disk_answer o r call).over then [] else taken_from o (after_call o r call) comes)) else taken_from o r comes) ≡ Some cause
        → EndsAt o r (if b then (call ∷ (if is_some (disk_answer o r call).over then [] else taken_from o (after_call o r call) comes)) else taken_from o r comes) cause
    by goes past true so = by_over goes (disk_answer o r call).over refl so
    by goes past false so = past so

-- ---- what comes is of the stream

abbrev IsOf : ℕ → List ℕ → DiskCall → Type 0
IsOf rec stream (came r p) = r ≡ rec
IsOf rec stream (asked lba n) = Unit {0}
IsOf rec stream (stream_ended r) = (r ≡ rec) × (is_refused (cut stream).rest ≡ true)

module _ {A : Type 0} (P : A → Type 0) where
  all_drop : (n : ℕ) (xs : List A) → AllByRecursion P xs → AllByRecursion P (drop n xs)
  all_drop zero xs all = all
  all_drop (suc n) [] all = tt
  all_drop (suc n) (x ∷ xs) all = all_drop n xs all.1

  pub all_last : (xs : List A) (x : A) → AllByRecursion P (xs ++ x ∷ []) → P x
  all_last [] x all = all.0
  all_last (y ∷ xs) x all = all_last xs x all.1

module _ (rec : ℕ) (stream : List ℕ) where
  all_came : (ps : List PduParts) → AllByRecursion (IsOf rec stream) (map (came rec) ps)
  all_came [] = tt
  all_came (p ∷ ps) = (refl, all_came ps)

  all_further : (b : Bool) → (b ≡ true → is_refused (cut stream).rest ≡ true) → AllByRecursion (IsOf rec stream) (if b then stream_ended rec ∷ [] else [])
  all_further true is = ((refl, is refl), tt)
  all_further false is = tt

  all_parts : (part rest : List ℕ) → part ++ rest ≡ stream → AllByRecursion (IsOf rec stream) (stream_parts rec part)
  all_parts part rest is =
      all_append (IsOf rec stream) (map (came rec) (cut part).pdus) (last_part rec (cut part).rest) (all_came (cut part).pdus)
      (all_further (is_refused (cut part).rest) (λ e. ap (λ (l : List ℕ). is_refused (cut l).rest) (sym is) ∙ refused_stays part rest e))

  all_comes : (done : ℕ) (tasks : List (ReadTask × ℕ)) → AllByRecursion (IsOf rec stream) (comes_from rec stream done tasks)
  all_comes done [] = all_drop (IsOf rec stream) done (stream_parts rec stream) (all_parts stream [] (append-nil stream))
  all_comes done (t ∷ tasks) = by (all_comes (max done (length (stream_parts rec (take t.1 stream)))) tasks) (leb t.1 (length stream))
    where
      by : AllByRecursion (IsOf rec stream) (comes_from rec stream (max done (length (stream_parts rec (take t.1 stream)))) tasks) → (b : Bool)
          → AllByRecursion (IsOf rec stream) (if b then (drop done (stream_parts rec (take t.1 stream)) ++ asked t.0.lba t.0.blocks ∷ comes_from rec stream (max done (length (stream_parts rec (take t.1 stream)))) tasks) else drop done (stream_parts rec stream))
      by goes true =
          all_append (IsOf rec stream) (drop done (stream_parts rec (take t.1 stream))) (asked t.0.lba t.0.blocks ∷ comes_from rec stream (max done (length (stream_parts rec (take t.1 stream)))) tasks)
          (all_drop (IsOf rec stream) done (stream_parts rec (take t.1 stream)) (all_parts (take t.1 stream) (drop t.1 stream) (take-append-drop t.1 stream))) (tt, goes)
      by goes false = all_drop (IsOf rec stream) done (stream_parts rec stream) (all_parts stream [] (append-nil stream))

pub all_taken : (P : DiskCall → Type 0) (o : SessionNumbers) (r : DiskReading) (comes : List DiskCall) → AllByRecursion P comes → AllByRecursion P (taken_from o r comes)
all_taken P o r [] all = tt
all_taken P o r (call ∷ comes) all = by (all_taken P o (after_call o r call) comes all.1) (all_taken P o r comes all.1) (is_call r call)
  where
    by_over : AllByRecursion P (taken_from o (after_call o r call) comes) → (b : Bool) → AllByRecursion P (if b then [] else taken_from o (after_call o r call) comes)
    by_over goes true = tt
    by_over goes false = goes

    by : AllByRecursion P (taken_from o (after_call o r call) comes) → AllByRecursion P (taken_from o r comes) → (b : Bool)
        → AllByRecursion P (if b then (call ∷ (if is_some (disk_answer o r call).over then [] else taken_from o (after_call o r call) comes)) else taken_from o r comes)
    by goes past true = (all.0, by_over goes (is_some (disk_answer o r call).over))
    by goes past false = past

-- ---- the causes

-- a list has a last element, if it has any
record HasLast (h : List LoginEntry) : Type 0 where
  before : List LoginEntry
  last : LoginEntry
  all : h ≡ before ++ last ∷ []

has_last : (e : LoginEntry) (h : List LoginEntry) → HasLast (e ∷ h)
has_last e [] = record { before = []; last = e; all = refl }
has_last e (f ∷ h) = let more = has_last f h in record { before = e ∷ more.before; last = more.last; all = ap (λ (l : List LoginEntry). e ∷ l) more.all }

-- a login that has ended had an answer
last_answer : (h : List LoginEntry) → login_ended h ≡ true → HasLast h
last_answer [] e = absurd cc
last_answer (m ∷ h) e = has_last m h

module _ (rec : ℕ) (i : LoginInfo) (stream : List ℕ) (ended : Bool) (tasks : List (ReadTask × ℕ)) (cause : Cause) where
  by_call : (s : Session) (before : List DiskCall) (call : DiskCall) → session_come rec i stream ≡ Some s → drive_calls rec i stream tasks s ≡ before ++ call ∷ []
      → IsOf rec stream call → (disk_answer (opened_of s) (reading (opened_of s) before) call).over ≡ Some cause → SessionEnding rec i stream ended tasks cause
  by_call s before (came r p) opens all is over =
      by_drive_pdu s before p opens (all ∙ ap (λ n. before ++ came n p ∷ []) is)
      (ends-caused (opened_of s) (reading (opened_of s) before) rec (answer_read p) cause
      (ap (λ n. (disk_answer (opened_of s) (reading (opened_of s) before) (came n p)).over) (sym is) ∙ over))
  by_call s before (asked lba n) opens all is over = absurd cc
  by_call s before (stream_ended r) opens all is over =
      by_stream_end (or_right ended (is_refused (cut stream).rest) is.1) (sym (same_Some (broken r) cause over) ∙ ap broken is.0)

  of_drive : (s : Session) → session_come rec i stream ≡ Some s → over_from (opened_of s) nothing_read (drive_calls rec i stream tasks s) ≡ Some cause → SessionEnding rec i stream ended tasks cause
  of_drive s opens is =
      let e = ends_at (opened_of s) nothing_read (drive_comes rec i stream tasks) cause is in
      let each : AllByRecursion (IsOf rec stream) (drive_calls rec i stream tasks s) =
      all_taken (IsOf rec stream) (opened_of s) nothing_read (drive_comes rec i stream tasks) (all_comes rec stream (length (login_so_far rec i stream)) tasks) in
      by_call s e.before e.call opens e.all (all_last (IsOf rec stream) e.before e.call (subst (AllByRecursion (IsOf rec stream)) e.all each)) e.over

  of_login : session_come rec i stream ≡ None → login_over rec i stream ≡ Some cause → SessionEnding rec i stream ended tasks cause
  of_login none is =
      let h = login_so_far rec i stream in
      let l = last_answer (login_so_far rec i stream) (over_ended rec i stream cause is) in
      let meets : LoginMeets i (l.before ++ l.last ∷ []) = subst (LoginMeets i) l.all (history_meets i (pdus_came rec stream)) in
      let given : end_given l.last.does ≡ Some cause = sym (ap end_given (ap last_done l.all ∙ last_done-append l.before l.last)) ∙ over_given rec i stream cause is in
      by_login_answer l.before l.last none l.all (cause_stands i l.before l.last [] cause meets given)

  ending_by : (o : Option Session) → session_come rec i stream ≡ o → session_end_by rec i stream ended tasks o ≡ Some cause → SessionEnding rec i stream ended tasks cause
  ending_by None opens is =
      elim (of_two rec (ended || is_refused (cut stream).rest) (login_over rec i stream) cause is) [
        | inl given ↦ of_login opens given
        | inr short ↦ by_stream_end short.1 (sym short.2)
      ]
  ending_by (Some s) opens is =
      elim (of_two rec ended (over_from (opened_of s) nothing_read (drive_calls rec i stream tasks s)) cause is) [
        | inl given ↦ of_drive s opens given
        | inr short ↦ by_stream_end (or_left ended (is_refused (cut stream).rest) short.1) (sym short.2)
      ]

  pub ending : session_end rec i stream ended tasks ≡ Some cause → SessionEnding rec i stream ended tasks cause
  ending is = ending_by (session_come rec i stream) refl is
