-- Where a target serves a disk, what was read of it is the disk's.
use Rattle.std.proofs.Common.{◌≡◌, ◌+◌, ◌&&◌, ℕ, Bool, true, false, List, [], ◌∷◌, ◌++◌, length, take, drop, fold, Option, Some, None, if◌then◌else◌, refl, ap, ◌∙◌, sym, subst, append_assoc, arith, eqb, leb}
use Rattle.std.proofs.lemmas.Bool.{and_parts, eqb-true}
use Rattle.std.proofs.lemmas.List.{take_at, drop_at, length-append}
use Rattle.std.proofs.lemmas.Option.{none-some, same_Some}
use Rattle.nb_iscsipdu.specs.declared.command.Command.{Command}
use Rattle.nb_iscsipdu.specs.declared.answer.TaskStatus.{TaskStatus}
use Rattle.nb_iscsipdu.specs.declared.answer.ScsiResponse.{ScsiResponse}
use Rattle.nb_iscsipdu.specs.Commands.{asked_len}
use Rattle.nb_iscsipdu.specs.Answers.{AnswerParts, DataInParts, login, scsi, data_in, nop_in, other, answer_read}
use Rattle.nb_disk.specs.Histories.{DiskCall, came, asked, stream_ended, TaskResult, DiskReading, nothing_read, with_status, with_bytes, SessionNumbers, tag_at_work, command_at_work, at_work, completes, fits, after_answer, after_call}
use Rattle.nb_sans.specs.Targets.{data_for, StandAt, ServesData, ServesAnswer, ServesCall, ServesCalls}
use Rattle.nb_sans.proofs.GoodResults.{IsGoodFor, GoodResults, add_result, more_asked, work_stays}

-- ---- what was read

pub record IsHonest (disk : List ℕ) (r : DiskReading) : Type 0 where
  pub results : GoodResults disk r.results r.reads
  pub so_far : (command : Command) → at_work r ≡ Some command → StandAt (data_for disk command) 0 r.bytes
  pub none : at_work r ≡ None → r.bytes ≡ []

pub nothing_honest : (disk : List ℕ) → IsHonest disk nothing_read
nothing_honest disk = record { results = tt; so_far = λ command is. record { rest = data_for disk command; is = refl }; none = λ is. refl }

joined : (all xs ys : List ℕ) → StandAt all 0 xs → StandAt all (length xs) ys → StandAt all 0 (xs ++ ys)
joined all xs ys a b = record {
  rest = b.rest;
  is = a.is ∙ ap (λ l. xs ++ l) (sym (drop_at xs a.rest (length xs) refl) ∙ ap (drop (length xs)) (sym a.is) ∙ b.is) ∙ sym (append_assoc xs ys b.rest);
}

nothing_at : (all : List ℕ) (place : ℕ) → StandAt all place []
nothing_at all place = record { rest = drop place all; is = refl }

module _ (disk : List ℕ) (r : DiskReading) (honest : IsHonest disk r) (command : Command) (work : at_work r ≡ Some command) (bytes : List ℕ)
    (stand : StandAt (data_for disk command) (length r.bytes) bytes) where
  both : StandAt (data_for disk command) 0 (r.bytes ++ bytes)
  both = joined (data_for disk command) r.bytes bytes (honest.so_far command work) stand

  -- a status comes
  pub status_honest : (s : TaskStatus) → (s.status ≡ 0 → length r.bytes + length bytes ≡ asked_len command) → IsHonest disk (with_status r bytes s)
  status_honest s all =
      let result : TaskResult = record { bytes = r.bytes ++ bytes; status = s.status } in
      let len : length (r.bytes ++ bytes) ≡ length r.bytes + length bytes = length-append r.bytes bytes in
      let good : IsGoodFor disk command result = record {
        all = λ e. len ∙ all e;
        theirs = λ e. sym (ap (take (asked_len command)) both.is ∙ take_at (r.bytes ++ bytes) both.rest (asked_len command) (len ∙ all e));
      } in
      record {
        results = add_result disk r.results r.reads command result work honest.results good;
        so_far = λ next is. nothing_at (data_for disk next) 0;
        none = λ is. refl;
      }

  -- only data
  pub data_honest : IsHonest disk (with_bytes r bytes None)
  data_honest = record {
    results = honest.results;
    so_far = λ next is. subst (λ (c : Command). StandAt (data_for disk c) 0 (r.bytes ++ bytes)) (same_Some command next (sym work ∙ is)) both;
    none = λ is. absurd (none-some command (sym is ∙ work));
  }

  pub came_honest : (s : Option TaskStatus) → ((t : TaskStatus) → s ≡ Some t → t.status ≡ 0 → length r.bytes + length bytes ≡ asked_len command) → IsHonest disk (with_bytes r bytes s)
  came_honest None all = data_honest
  came_honest (Some s) all = status_honest s (all s refl)

-- ---- each call

-- an answer is taken only of the command at work
completed : (o : SessionNumbers) (r : DiskReading) (work : Option Command) (a : ScsiResponse) → completes o r work a ≡ true
    → (command : Command) × (work ≡ Some command) × (a.task_tag ≡ tag_at_work o r)
completed o r None a is = absurd cc
completed o r (Some command) a is =
    let parts = and_parts (eqb a.task_tag (tag_at_work o r)) (eqb a.response 0) is in
    (command, refl, eqb-true a.task_tag (tag_at_work o r) parts.0)

fitted : (o : SessionNumbers) (r : DiskReading) (work : Option Command) (d : DataInParts) → fits o r work d ≡ true
    → (command : Command) × (work ≡ Some command) × (d.task_tag ≡ tag_at_work o r) × (d.offset ≡ length r.bytes)
fitted o r None d is = absurd cc
fitted o r (Some command) d is =
    let parts = and_parts (eqb d.task_tag (tag_at_work o r)) (eqb d.offset (length r.bytes) && leb (length r.bytes + length d.bytes) (asked_len command)) is in
    let next = and_parts (eqb d.offset (length r.bytes)) (leb (length r.bytes + length d.bytes) (asked_len command)) parts.1 in
    (command, refl, eqb-true d.task_tag (tag_at_work o r) parts.0, eqb-true d.offset (length r.bytes) next.0)

module _ (disk : List ℕ) (o : SessionNumbers) (r : DiskReading) (honest : IsHonest disk r) where
  by_scsi : (a : ScsiResponse) → ServesAnswer disk o r (scsi a) → (b : Bool) → completes o r (at_work r) a ≡ b → IsHonest disk (if b then with_status r [] a.status else r)
  by_scsi a serves true is =
      let c = completed o r (at_work r) a is in
      status_honest disk r honest c.0 c.1 [] (nothing_at (data_for disk c.0) (length r.bytes)) a.status (λ e. let all = serves c.0 c.1 c.2 e in omega (arith, all))
  by_scsi a serves false is = honest

  by_data : (d : DataInParts) → ServesAnswer disk o r (data_in d) → (b : Bool) → fits o r (at_work r) d ≡ b → IsHonest disk (if b then with_bytes r d.bytes d.status else r)
  by_data d serves true is =
      let c = fitted o r (at_work r) d is in
      let theirs : ServesData disk r c.0 d = serves c.0 c.1 c.2 in
      came_honest disk r honest c.0 c.1 d.bytes (subst (λ n. StandAt (data_for disk c.0) n d.bytes) c.3 theirs.stand) d.status theirs.all
  by_data d serves false is = honest

  answer_honest : (a : AnswerParts) → ServesAnswer disk o r a → IsHonest disk (after_answer o r a)
  answer_honest (login a) serves = honest
  answer_honest (scsi a) serves = by_scsi a serves (completes o r (at_work r) a) refl
  answer_honest (data_in d) serves = by_data d serves (fits o r (at_work r) d) refl
  answer_honest (nop_in n) serves = honest
  answer_honest other serves = honest

  -- a read that is asked for begins without bytes
  asked_so_far : (y : ℕ × ℕ) (work : Option Command) → at_work r ≡ work → (next : Command) → command_at_work r.results (r.reads ++ y ∷ []) ≡ Some next → StandAt (data_for disk next) 0 r.bytes
  asked_so_far y None idle next is = subst (λ (l : List ℕ). StandAt (data_for disk next) 0 l) (sym (honest.none idle)) (nothing_at (data_for disk next) 0)
  asked_so_far y (Some command) busy next is =
      subst (λ (c : Command). StandAt (data_for disk c) 0 r.bytes) (same_Some command next (sym (work_stays r.results r.reads y command busy) ∙ is)) (honest.so_far command busy)

  asked_none : (y : ℕ × ℕ) (work : Option Command) → at_work r ≡ work → command_at_work r.results (r.reads ++ y ∷ []) ≡ None → r.bytes ≡ []
  asked_none y None idle is = honest.none idle
  asked_none y (Some command) busy is = absurd (none-some command (sym is ∙ work_stays r.results r.reads y command busy))

  pub call_honest : (call : DiskCall) → ServesCall disk o r call → IsHonest disk (after_call o r call)
  call_honest (came rec p) serves = answer_honest (answer_read p) serves
  call_honest (asked lba blocks) serves = record {
    results = more_asked disk r.results r.reads (lba, blocks) honest.results;
    so_far = asked_so_far (lba, blocks) (at_work r) refl;
    none = asked_none (lba, blocks) (at_work r) refl;
  }
  call_honest (stream_ended rec) serves = honest

pub calls_honest : (disk : List ℕ) (o : SessionNumbers) (r : DiskReading) (calls : List DiskCall) → IsHonest disk r → ServesCalls disk o r calls → IsHonest disk (fold (after_call o) r calls)
calls_honest disk o r [] honest serves = honest
calls_honest disk o r (call ∷ calls) honest serves = calls_honest disk o (after_call o r call) calls (call_honest disk o r honest call serves.0) serves.1

-- what serves, does so as far as it has come
pub serves_less : (disk : List ℕ) (o : SessionNumbers) (r : DiskReading) (calls more : List DiskCall) → ServesCalls disk o r (calls ++ more) → ServesCalls disk o r calls
serves_less disk o r [] more serves = tt
serves_less disk o r (call ∷ calls) more serves = (serves.0, serves_less disk o (after_call o r call) calls more serves.1)
