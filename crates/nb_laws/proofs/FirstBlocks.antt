-- Where servers are honest, the first block that a command has read of a disk is the disk's.
use Rattle.std.proofs.Common.{◌≡◌, ℕ, ◌-◌, ◌*◌, zero, suc, Bool, true, false, cond, List, [], ◌∷◌, ◌++◌, length, take, drop, map, max, fold, Option, Some, None, refl, sym, ◌∙◌, ap, subst, append_assoc, append-nil}
use Rattle.std.specs.Prelude.{nat_le, slice_get}
use Rattle.std.specs.List.{AllByRecursion}
use Rattle.std.specs.Option.{option_and_then}
use Rattle.std.proofs.lemmas.Option.{none-some, same_Some}
use Rattle.nb_defs.specs.Causes.{ok}
use Rattle.nb_defs.specs.Records.{Out, result}
use Rattle.nb_disk.specs.DiskAnswers.{opened_of}
use Rattle.nb_disk.specs.Histories.{DiskCall, came, asked, stream_ended, DiskReading, SessionNumbers, nothing_read, with_status, with_bytes, completes, fits, at_work, after_answer, after_call}
use Rattle.nb_iscsipdu.specs.Answers.{AnswerParts, login, scsi, data_in, nop_in, other, answer_read}
use Rattle.nb_iscsipdu.specs.PduTexts.{PduParts}
use Rattle.nb_iscsipdu.specs.Streams.{cut, is_refused}
use Rattle.nb_iscsipdu.specs.declared.answer.TaskStatus.{TaskStatus}
use Rattle.nb_login.specs.declared.info.LoginInfo.{LoginInfo}
use Rattle.nb_login.specs.declared.session.Session.{Session}
use Rattle.nb_sans.specs.Sessions.{ReadTask, last_part, stream_parts, comes_from, drive_comes, login_so_far, read_by, session_come, session_chap, session_capacity, TaskAnswer, blocks_read, read_refused, read_short, tasks_taken, task_answers}
use Rattle.nb_sans.specs.Targets.{IsOfDisk, AreOfDisk}
use Rattle.nb_sans.proofs.EndCauses.{all_taken}
use Rattle.nb_streams.proofs.FlowLaws.{all_append}
use Rattle.nb_streams.specs.Streams.{front}
use Rattle.nb_talks.specs.Talking.{Talk, talk_held}
use Rattle.nb_machine.specs.Drives.{drive_answer, last_answer, last_read, bytes_read}
use Rattle.nb_machine.specs.Findings.{first_word}
use Rattle.nb_laws.specs.Drives.{SessionOpening, came_to_session, session_so_far}
use Rattle.nb_laws.specs.Events.{Event, puts, EachEvent}
use Rattle.nb_laws.specs.HandOff.{Store, AreHonest, HandsDiskOff, IsAnsweredBy, IsFirstBlock, HandsTheirBlock}
use Rattle.nb_laws.specs.Hookings.{HasRead}
use Rattle.nb_laws.specs.Lists.{hardware}
use Rattle.nb_laws.proofs.DriveEvents.{firsts_came}
use Rattle.nb_laws.proofs.DriveTalks.{IsFirstTask, session_firsts}
use Rattle.nb_laws.proofs.DrivesTheirs.{drives_theirs}

-- THE READS THAT WERE TAKEN

-- what is asked for is one block, the first
abbrev IsFirstCall : DiskCall → Type 0
IsFirstCall (came rec p) = Unit {0}
IsFirstCall (asked lba n) = (lba ≡ 0) × (n ≡ 1)
IsFirstCall (stream_ended rec) = Unit {0}

abbrev IsFirstRead : ℕ × ℕ → Type 0
IsFirstRead read = (read.0 ≡ 0) × (read.1 ≡ 1)

drop_firsts : (n : ℕ) (calls : List DiskCall) → AllByRecursion IsFirstCall calls → AllByRecursion IsFirstCall (drop n calls)
drop_firsts zero calls are = are
drop_firsts (suc n) [] are = tt
drop_firsts (suc n) (c ∷ calls) are = drop_firsts n calls are.1

-- no part of a stream asks for anything
pdu_firsts : (rec : ℕ) (ps : List PduParts) → AllByRecursion IsFirstCall (map (came rec) ps)
pdu_firsts rec [] = tt
pdu_firsts rec (p ∷ ps) = (tt, pdu_firsts rec ps)

last_firsts : (rec : ℕ) (b : Bool) → AllByRecursion IsFirstCall (cond b (stream_ended rec ∷ []) [])
last_firsts rec true = (tt, tt)
last_firsts rec false = tt

part_firsts : (rec : ℕ) (stream : List ℕ) → AllByRecursion IsFirstCall (stream_parts rec stream)
part_firsts rec stream =
    all_append IsFirstCall (map (came rec) (cut stream).pdus) (last_part rec (cut stream).rest) (pdu_firsts rec (cut stream).pdus) (last_firsts rec (is_refused (cut stream).rest))

come_firsts : (rec : ℕ) (stream : List ℕ) (done : ℕ) (tasks : List (ReadTask × ℕ)) → AllByRecursion IsFirstTask tasks → AllByRecursion IsFirstCall (comes_from rec stream done tasks)
come_firsts rec stream done [] are = drop_firsts done (stream_parts rec stream) (part_firsts rec stream)
come_firsts rec stream done (t ∷ tasks) are = by (nat_le t.1 (length stream)) (come_firsts rec stream (max done (length (stream_parts rec (take t.1 stream)))) tasks are.1)
  where
    then_come : List DiskCall
    then_come = comes_from rec stream (max done (length (stream_parts rec (take t.1 stream)))) tasks

    by : (b : Bool) → AllByRecursion IsFirstCall then_come → AllByRecursion IsFirstCall (cond b (drop done (stream_parts rec (take t.1 stream)) ++ asked t.0.lba t.0.blocks ∷ then_come) (drop done (stream_parts rec stream)))
    by true rest =
        all_append IsFirstCall (drop done (stream_parts rec (take t.1 stream))) (asked t.0.lba t.0.blocks ∷ then_come)
        (drop_firsts done (stream_parts rec (take t.1 stream)) (part_firsts rec (take t.1 stream)))
        ((ap (λ (x : ReadTask). x.lba) are.0, ap (λ (x : ReadTask). x.blocks) are.0), rest)
    by false rest = drop_firsts done (stream_parts rec stream) (part_firsts rec stream)

-- an answer leaves the reads
bytes_reads : (r : DiskReading) (bytes : List ℕ) (s : Option TaskStatus) → (with_bytes r bytes s).reads ≡ r.reads
bytes_reads r bytes None = refl
bytes_reads r bytes (Some s) = refl

answer_reads : (o : SessionNumbers) (r : DiskReading) (a : AnswerParts) → (after_answer o r a).reads ≡ r.reads
answer_reads o r (login a) = refl
answer_reads o r (scsi a) = by (completes o r (at_work r) a)
  where
    by : (b : Bool) → (cond b (with_status r [] a.status) r).reads ≡ r.reads
    by true = refl
    by false = refl
answer_reads o r (data_in d) = by (fits o r (at_work r) d)
  where
    by : (b : Bool) → (cond b (with_bytes r d.bytes d.status) r).reads ≡ r.reads
    by true = bytes_reads r d.bytes d.status
    by false = refl
answer_reads o r (nop_in n) = refl
answer_reads o r other = refl

call_reads : (o : SessionNumbers) (r : DiskReading) (c : DiskCall) → IsFirstCall c → AllByRecursion IsFirstRead r.reads → AllByRecursion IsFirstRead (after_call o r c).reads
call_reads o r (came rec p) first are = subst (AllByRecursion IsFirstRead) (sym (answer_reads o r (answer_read p))) are
call_reads o r (asked lba n) first are = all_append IsFirstRead r.reads ((lba, n) ∷ []) are (first, tt)
call_reads o r (stream_ended rec) first are = are

all_reads : (o : SessionNumbers) (r : DiskReading) (cs : List DiskCall) → AllByRecursion IsFirstCall cs → AllByRecursion IsFirstRead r.reads → AllByRecursion IsFirstRead (fold (after_call o) r cs).reads
all_reads o r [] firsts are = are
all_reads o r (c ∷ cs) firsts are = all_reads o (after_call o r c) cs firsts.1 (call_reads o r c firsts.0 are)

-- each read that a session takes is that of its first block, where all its tasks are
taken_firsts : (i : LoginInfo) (stream : List ℕ) (tasks : List (ReadTask × ℕ)) → AllByRecursion IsFirstTask tasks → AllByRecursion IsFirstRead (tasks_taken i stream tasks)
taken_firsts i stream tasks are = by (session_come 0 i stream)
  where
    by : (o : Option Session) → AllByRecursion IsFirstRead (read_by i stream tasks o).reads
    by None = tt
    by (Some s) =
        all_reads (opened_of s) nothing_read _
        (all_taken IsFirstCall (opened_of s) nothing_read (drive_comes 0 i stream tasks) (come_firsts 0 stream (length (login_so_far 0 i stream)) tasks are)) tt

-- ITS ANSWER

-- the bytes of one are the first 512
one_first : (bytes : List ℕ) (read : ℕ × ℕ) (a : TaskAnswer) (block : List ℕ) → IsFirstRead read → IsOfDisk bytes read a → a ≡ blocks_read block → block ≡ take 512 bytes
one_first bytes read (blocks_read held) block first is same =
    let its : held ≡ block = cc in
    sym its ∙ is ∙ ap (λ n. take (512 * n) (drop (512 * read.0) bytes)) first.1 ∙ ap (λ n. take 512 (drop (512 * n) bytes)) first.0
one_first bytes read (read_refused status) block first is same = absurd cc
one_first bytes read read_short block first is same = absurd cc

among : (bytes : List ℕ) (reads : List (ℕ × ℕ)) (answers : List TaskAnswer) (i : ℕ) (block : List ℕ) → AllByRecursion IsFirstRead reads → AreOfDisk bytes reads answers → slice_get answers i ≡ Some (blocks_read block) → block ≡ take 512 bytes
among bytes reads [] i block firsts are is = absurd (none-some (blocks_read block) is)
among bytes [] (a ∷ answers) i block firsts are is = absurd are
among bytes (r ∷ reads) (a ∷ answers) zero block firsts are is = one_first bytes r a block firsts.0 are.0 (same_Some a (blocks_read block) is)
among bytes (r ∷ reads) (a ∷ answers) (suc i) block firsts are is = among bytes reads answers i block firsts.1 are.1 is

read_is : (a : TaskAnswer) (block : List ℕ) → bytes_read a ≡ Some block → a ≡ blocks_read block
read_is (blocks_read bytes) block is = ap blocks_read (same_Some bytes block is)
read_is (read_refused status) block is = absurd (none-some block is)
read_is read_short block is = absurd (none-some block is)

last_is : (last : Option TaskAnswer) (block : List ℕ) → option_and_then bytes_read last ≡ Some block → last ≡ Some (blocks_read block)
last_is None block is = absurd (none-some block is)
last_is (Some a) block is = ap (λ x. Some x) (read_is a block is)

answer_is : (server : ℕ) (chap capacity : Option ℕ) (last : Option TaskAnswer) (block : List ℕ) → option_and_then last_read (drive_answer server chap capacity last) ≡ Some block → last ≡ Some (blocks_read block)
answer_is server None capacity last block is = absurd (none-some block is)
answer_is server (Some chap) None last block is = absurd (none-some block is)
answer_is server (Some chap) (Some capacity) last block is = last_is last block is

-- what a drive has read is the first block of its disk
pub read_first : (store : Store) (es : List Event) (k : ℕ) (block : List ℕ) → AreHonest store es → HasRead k es block → IsFirstBlock store es k block
read_first store es k block honest h =
    let s : SessionOpening = h.session in
    let by : IsAnsweredBy store es k h.session = (subst (AllByRecursion (IsAnsweredBy store es k)) h.is (drives_theirs es store honest k)).0 in
    let d : Talk ReadTask = session_so_far k s es in
    let stream : List ℕ = front (talk_held (first_word (hardware es).identity k) d) in
    let taken : List (ℕ × ℕ) = tasks_taken s.login stream d.tasks in
    let answers : List TaskAnswer = task_answers s.login stream d.tasks in
    record {
      session = s;
      is = h.is;
      bytes = by.bytes;
      holds = by.holds;
      first = among by.bytes taken answers (length taken - 1) block (taken_firsts s.login stream d.tasks (session_firsts (hardware es) k s (came_to_session k es) (firsts_came k es))) by.answers
          (answer_is s.opening.server (session_chap s.login stream) (session_capacity s.login stream d.tasks) (last_answer taken answers) block h.read);
    }

-- so is the one that is handed off

each_at : (P : List Event → Event → Type 0) (before xs : List Event) (e : Event) (ys : List Event) → EachEvent P before (xs ++ e ∷ ys) → P (before ++ xs) e
each_at P before [] e ys all = subst (λ b. P b e) (sym (append-nil before)) all.0
each_at P before (x ∷ xs) e ys all = subst (λ b. P b e) (append_assoc before (x ∷ []) xs) (each_at P (before ++ x ∷ []) xs e ys all.1)

pub hands_their_block : (es : List Event) (outs rest : List Out) (h : HandsDiskOff es outs rest) → HandsTheirBlock es outs rest h
hands_their_block es outs rest h = λ store honest.
    let at : AreHonest store h.booted.before = each_at (λ before e. AreHonest store before) [] h.booted.before (puts (result ok)) (map puts h.booted.since)
    (subst (EachEvent (λ before e. AreHonest store before) []) h.booted.ends honest) in
    read_first store h.booted.before h.booted.number h.booted.block at h.booted.read
