-- Which record brought what came shows in ends alone.
use Rattle.std.proofs.Common.{◌≡◌, ◌&&◌, ◌||◌, ◌*◌, ◌+◌, ℕ, Bool, true, false, List, [], ◌∷◌, ◌++◌, length, take, drop, map, max, zero, suc, fold, Option, Some, None, if◌then◌else◌, refl, ap, ◌∙◌, sym, eqb, ltb, leb}
use Rattle.std.specs.Option.{is_some}
use Rattle.std.proofs.lemmas.List.{map-append, length-map}
use Rattle.nb_terms.specs.declared.cause.Cause.{Cause}
use Rattle.nb_iscsipdu.specs.declared.command.Command.{Command}
use Rattle.nb_iscsipdu.specs.declared.command.Command.TheVariants.{TestUnitReady, ReadCapacity, Read}
use Rattle.nb_iscsipdu.specs.declared.answer.TaskStatus.{TaskStatus}
use Rattle.nb_iscsipdu.specs.declared.answer.ScsiResponse.{ScsiResponse}
use Rattle.nb_iscsipdu.specs.PduTexts.{PduParts}
use Rattle.nb_iscsipdu.specs.Answers.{AnswerParts, DataInParts, login, scsi, data_in, nop_in, other, answer_read}
use Rattle.nb_iscsipdu.specs.Streams.{cut, is_refused}
use Rattle.nb_login.specs.declared.info.LoginInfo.{LoginInfo}
use Rattle.nb_login.specs.declared.session.Session.{Session}
use Rattle.nb_login.specs.LoginHistory.{pdu_came, login_ended}
use Rattle.nb_login.specs.LoginStands.{session_opened}
use Rattle.nb_login.specs.LoginRecords.{pdus_alone, AreAlikeLogins}
use Rattle.nb_login.proofs.LoginRecordLaws.{records_show as records_alone}
use Rattle.nb_disk.specs.Histories.{DiskCall, came, asked, stream_ended, DiskReading, nothing_read, SessionNumbers, completes, fits, after_call, at_work, capacity_of}
use Rattle.nb_disk.specs.DiskAnswers.{DiskAnswer, ends, opened_of, command_answered, bytes_answer, data_answer, response_answer, pdu_answer, disk_answer, ended_from}
use Rattle.nb_sans.specs.Sessions.{ReadTask, last_part, stream_parts, pdus_came, login_so_far, session_come, comes_from, drive_comes, is_call, taken_from}
use Rattle.nb_sans.specs.RecordNumbers.{brought_by, OnlyEndsShowRecords}

-- ---- one answer

-- two answers differ at most in the cause of an end
record SameBut (a b : DiskAnswer) : Type 0 where
  put : a.put ≡ b.put
  give : a.give ≡ b.give
  over : is_some a.over ≡ is_some b.over

same : (a : DiskAnswer) → SameBut a a
same a = record { put = refl; give = refl; over = refl }

both_end : (c d : Cause) → SameBut (ends c) (ends d)
both_end c d = record { put = refl; give = refl; over = refl }

by_test : (b : Bool) (x y v w : DiskAnswer) → SameBut x y → SameBut v w → SameBut (if b then x else v) (if b then y else w)
by_test true x y v w one two = one
by_test false x y v w one two = two

module _ (o : SessionNumbers) (r : DiskReading) (one two : ℕ) where
  answered_same : (command : Command) (bytes : List ℕ) (s : TaskStatus) → SameBut (command_answered o r one command bytes s) (command_answered o r two command bytes s)
  answered_same TestUnitReady bytes s =
      by_test (eqb s.status 0) _ _ _ _ (same _) (by_test (eqb s.status 2 && ltb (length r.results) 3) _ _ _ _ (same _) (both_end _ _))
  answered_same ReadCapacity bytes s =
      by_test (eqb s.status 0) _ _ _ _ (by_test (is_some (capacity_of (r.bytes ++ bytes))) _ _ _ _ (same _) (both_end _ _)) (both_end _ _)
  answered_same (Read lba blocks) bytes s =
      by_test (eqb s.status 0) _ _ _ _ (by_test (eqb (length r.bytes + length bytes) (512 * blocks)) _ _ _ _ (same _) (both_end _ _)) (both_end _ _)

  bytes_same : (command : Command) (bytes : List ℕ) (s : Option TaskStatus) → SameBut (bytes_answer o r one command bytes s) (bytes_answer o r two command bytes s)
  bytes_same command bytes None = same _
  bytes_same command bytes (Some s) = answered_same command bytes s

  data_same : (work : Option Command) (d : DataInParts) → SameBut (data_answer o r one work d) (data_answer o r two work d)
  data_same None d = both_end _ _
  data_same (Some command) d = by_test (fits o r (Some command) d) _ _ _ _ (bytes_same command d.bytes d.status) (both_end _ _)

  response_same : (work : Option Command) (a : ScsiResponse) → SameBut (response_answer o r one work a) (response_answer o r two work a)
  response_same None a = both_end _ _
  response_same (Some command) a = by_test (completes o r (Some command) a) _ _ _ _ (answered_same command [] a.status) (both_end _ _)

  pdu_same : (a : AnswerParts) → SameBut (pdu_answer o r one a) (pdu_answer o r two a)
  pdu_same (login a) = both_end _ _
  pdu_same (scsi a) = response_same (at_work r) a
  pdu_same (data_in d) = data_same (at_work r) d
  pdu_same (nop_in n) = same _
  pdu_same other = both_end _ _

call_same : (o : SessionNumbers) (r : DiskReading) (rec : ℕ) (call : DiskCall) → SameBut (disk_answer o r (brought_by rec call)) (disk_answer o r call)
call_same o r rec (came n p) = pdu_same o r rec n (answer_read p)
call_same o r rec (asked lba blocks) = same _
call_same o r rec (stream_ended n) = both_end _ _

after_same : (o : SessionNumbers) (r : DiskReading) (rec : ℕ) (call : DiskCall) → after_call o r (brought_by rec call) ≡ after_call o r call
after_same o r rec (came n p) = refl
after_same o r rec (asked lba blocks) = refl
after_same o r rec (stream_ended n) = refl

is_call_same : (r : DiskReading) (rec : ℕ) (call : DiskCall) → is_call r (brought_by rec call) ≡ is_call r call
is_call_same r rec (came n p) = refl
is_call_same r rec (asked lba blocks) = refl
is_call_same r rec (stream_ended n) = refl

-- ---- all of them

reads_same : (o : SessionNumbers) (rec : ℕ) (calls : List DiskCall) (r : DiskReading) → fold (after_call o) r (map (brought_by rec) calls) ≡ fold (after_call o) r calls
reads_same o rec [] r = refl
reads_same o rec (call ∷ calls) r = ap (λ (x : DiskReading). fold (after_call o) x (map (brought_by rec) calls)) (after_same o r rec call) ∙ reads_same o rec calls (after_call o r call)

ended_same : (o : SessionNumbers) (rec : ℕ) (calls : List DiskCall) (r : DiskReading) → ended_from o r (map (brought_by rec) calls) ≡ ended_from o r calls
ended_same o rec [] r = refl
ended_same o rec (call ∷ calls) r =
    ap (λ b. b || ended_from o (after_call o r (brought_by rec call)) (map (brought_by rec) calls)) (call_same o r rec call).over
    ∙ ap (λ (x : DiskReading). is_some (disk_answer o r call).over || ended_from o x (map (brought_by rec) calls)) (after_same o r rec call)
    ∙ ap (λ b. is_some (disk_answer o r call).over || b) (ended_same o rec calls (after_call o r call))

taken_same : (o : SessionNumbers) (rec : ℕ) (comes : List DiskCall) (r : DiskReading) → taken_from o r (map (brought_by rec) comes) ≡ map (brought_by rec) (taken_from o r comes)
taken_same o rec [] r = refl
taken_same o rec (call ∷ comes) r =
    ap (λ b. if b then (brought_by rec call ∷ (if is_some (disk_answer o r (brought_by rec call)).over then [] else taken_from o (after_call o r (brought_by rec call)) (map (brought_by rec) comes))) else taken_from o r (map (brought_by rec) comes)) (is_call_same r rec call)
    ∙ ap (λ v. if is_call r call then (brought_by rec call ∷ (if v then [] else taken_from o (after_call o r (brought_by rec call)) (map (brought_by rec) comes))) else taken_from o r (map (brought_by rec) comes)) (call_same o r rec call).over
    ∙ ap (λ (x : DiskReading). if is_call r call then (brought_by rec call ∷ (if is_some (disk_answer o r call).over then [] else taken_from o x (map (brought_by rec) comes))) else taken_from o r (map (brought_by rec) comes)) (after_same o r rec call)
    ∙ by (taken_same o rec comes (after_call o r call)) (taken_same o rec comes r) (is_call r call) (is_some (disk_answer o r call).over)
  where
    by : taken_from o (after_call o r call) (map (brought_by rec) comes) ≡ map (brought_by rec) (taken_from o (after_call o r call) comes)
        → taken_from o r (map (brought_by rec) comes) ≡ map (brought_by rec) (taken_from o r comes) → (b v : Bool)
        → (if b then (brought_by rec call ∷ (if v then [] else taken_from o (after_call o r call) (map (brought_by rec) comes))) else taken_from o r (map (brought_by rec) comes))
        ≡ map (brought_by rec) (if b then (call ∷ (if v then [] else taken_from o (after_call o r call) comes)) else taken_from o r comes)
    by goes past true true = refl
    by goes past true false = ap (λ (l : List DiskCall). brought_by rec call ∷ l) goes
    by goes past false v = past

-- ---- what comes

drop_map : (rec n : ℕ) (xs : List DiskCall) → drop n (map (brought_by rec) xs) ≡ map (brought_by rec) (drop n xs)
drop_map rec zero xs = refl
drop_map rec (suc n) [] = refl
drop_map rec (suc n) (x ∷ xs) = drop_map rec n xs

came_same : (rec : ℕ) (ps : List PduParts) → map (came rec) ps ≡ map (brought_by rec) (map (came 0) ps)
came_same rec [] = refl
came_same rec (p ∷ ps) = ap (λ (l : List DiskCall). came rec p ∷ l) (came_same rec ps)

last_same : (rec : ℕ) (b : Bool) → (if b then stream_ended rec ∷ [] else []) ≡ map (brought_by rec) (if b then stream_ended 0 ∷ [] else [])
last_same rec true = refl
last_same rec false = refl

parts_same : (rec : ℕ) (stream : List ℕ) → stream_parts rec stream ≡ map (brought_by rec) (stream_parts 0 stream)
parts_same rec stream =
    ap (λ (l : List DiskCall). l ++ last_part rec (cut stream).rest) (came_same rec (cut stream).pdus)
    ∙ ap (λ (l : List DiskCall). map (brought_by rec) (map (came 0) (cut stream).pdus) ++ l) (last_same rec (is_refused (cut stream).rest))
    ∙ sym (map-append (brought_by rec) (map (came 0) (cut stream).pdus) (last_part 0 (cut stream).rest))

dropped_same : (rec : ℕ) (stream : List ℕ) (done : ℕ) → drop done (stream_parts rec stream) ≡ map (brought_by rec) (drop done (stream_parts 0 stream))
dropped_same rec stream done = ap (drop done) (parts_same rec stream) ∙ drop_map rec done (stream_parts 0 stream)

comes_same : (rec : ℕ) (stream : List ℕ) (done : ℕ) (tasks : List (ReadTask × ℕ)) → comes_from rec stream done tasks ≡ map (brought_by rec) (comes_from 0 stream done tasks)
comes_same rec stream done [] = dropped_same rec stream done
comes_same rec stream done (t ∷ tasks) = by (comes_same rec stream (max done (length (stream_parts 0 (take t.1 stream)))) tasks) (leb t.1 (length stream))
  where
    count : length (stream_parts rec (take t.1 stream)) ≡ length (stream_parts 0 (take t.1 stream))
    count = ap length (parts_same rec (take t.1 stream)) ∙ length-map (stream_parts 0 (take t.1 stream)) (brought_by rec)

    by : comes_from rec stream (max done (length (stream_parts 0 (take t.1 stream)))) tasks ≡ map (brought_by rec) (comes_from 0 stream (max done (length (stream_parts 0 (take t.1 stream)))) tasks) → (b : Bool)
        → (if b then (drop done (stream_parts rec (take t.1 stream)) ++ asked t.0.lba t.0.blocks ∷ comes_from rec stream (max done (length (stream_parts rec (take t.1 stream)))) tasks) else drop done (stream_parts rec stream))
        ≡ map (brought_by rec) (if b then (drop done (stream_parts 0 (take t.1 stream)) ++ asked t.0.lba t.0.blocks ∷ comes_from 0 stream (max done (length (stream_parts 0 (take t.1 stream)))) tasks) else drop done (stream_parts 0 stream))
    by rest true =
        ap (λ n. drop done (stream_parts rec (take t.1 stream)) ++ asked t.0.lba t.0.blocks ∷ comes_from rec stream (max done n) tasks) count
        ∙ ap (λ (l : List DiskCall). l ++ asked t.0.lba t.0.blocks ∷ comes_from rec stream (max done (length (stream_parts 0 (take t.1 stream)))) tasks) (dropped_same rec (take t.1 stream) done)
        ∙ ap (λ (l : List DiskCall). map (brought_by rec) (drop done (stream_parts 0 (take t.1 stream))) ++ asked t.0.lba t.0.blocks ∷ l) rest
        ∙ sym (map-append (brought_by rec) (drop done (stream_parts 0 (take t.1 stream))) (asked t.0.lba t.0.blocks ∷ comes_from 0 stream (max done (length (stream_parts 0 (take t.1 stream)))) tasks))
    by rest false = dropped_same rec stream done

-- ---- the login

alone : (rec : ℕ) (ps : List PduParts) → pdus_alone (map (pdu_came rec) ps) ≡ ps
alone rec [] = refl
alone rec (p ∷ ps) = ap (λ (l : List PduParts). p ∷ l) (alone rec ps)

logins_alike : (rec : ℕ) (i : LoginInfo) (stream : List ℕ) → AreAlikeLogins i (pdus_came rec stream) (pdus_came 0 stream)
logins_alike rec i stream = records_alone i (pdus_came rec stream) (pdus_came 0 stream) (alone rec (cut stream).pdus ∙ sym (alone 0 (cut stream).pdus))

session_same : (rec : ℕ) (i : LoginInfo) (stream : List ℕ) → session_come rec i stream ≡ session_come 0 i stream
session_same rec i stream =
    let a = logins_alike rec i stream in
    ap (λ b. if b then session_opened i (login_so_far rec i stream) else None) a.ended
    ∙ ap (λ (o : Option Session). if login_ended (login_so_far 0 i stream) then o else None) a.session

pub records_show : OnlyEndsShowRecords
records_show = record {
  reads = λ o rec calls. reads_same o rec calls nothing_read;
  put = λ o r rec call. (call_same o r rec call).put;
  give = λ o r rec call. (call_same o r rec call).give;
  over = λ o r rec call. (call_same o r rec call).over;
  ended = λ o rec calls. ended_same o rec calls nothing_read;
  session = session_same;
  calls = λ rec i stream tasks s.
      ap (taken_from (opened_of s) nothing_read) (ap (λ n. comes_from rec stream n tasks) (logins_alike rec i stream).count ∙ comes_same rec stream (length (login_so_far 0 i stream)) tasks)
      ∙ taken_same (opened_of s) rec (drive_comes 0 i stream tasks) nothing_read;
}
