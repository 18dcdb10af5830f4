-- A short session, by computing.
use Rattle.std.proofs.Common.{◌≡◌, ℕ, ◌/◌, ◌%◌, List, [], ◌∷◌, ◌++◌, replicate, length, take, drop, Some, None, true, false, refl, ap, subst}
use Rattle.nb_iscsipdu.specs.declared.command.Command.{Command}
use Rattle.nb_iscsipdu.specs.declared.command.Command.TheVariants.{TestUnitReady, ReadCapacity, Read}
use Rattle.nb_iscsipdu.specs.PduTexts.{pdu_text}
use Rattle.nb_iscsipdu.specs.Requests.{command_pdu, nop_pdu}
use Rattle.nb_iscsipdu.specs.Heads.{word_at}
use Rattle.nb_iscsipdu.specs.Answers.{answer_read}
use Rattle.nb_login.specs.LoginVerdicts.{by_response, has_digest, has_other_value, chooses_chap, has_value, names_method}
use Rattle.nb_login.specs.declared.info.LoginInfo.{LoginInfo}
use Rattle.std.proofs.lemmas.Option.{same_Some}
use Rattle.nb_iscsipdu.specs.Commands.{asked_len}
use Rattle.nb_iscsipdu.specs.Answers.{DataInParts}
use Rattle.nb_login.specs.declared.session.Session.{Session}
use Rattle.nb_disk.specs.Histories.{DiskReading, nothing_read}
use Rattle.nb_disk.specs.DiskAnswers.{opened_of}
use Rattle.nb_sans.specs.Targets.{ServesData, ServesCalls}
use Rattle.nb_sans.specs.Sessions.{ReadTask, drive_calls, session_come, said_after_login, session_end, session_capacity, session_chap, task_answers, blocks_read, tasks_taken}

info : LoginInfo
info = record { initiator = 97 ∷ []; target = 98 ∷ []; lun = replicate 8 0; user = []; secret = []; reverse_user = []; reverse_secret = []; words = replicate 8 1 }

-- a head: opcode, flags, status, so many bytes of data, the task's tag
head : ℕ → ℕ → ℕ → ℕ → ℕ → List ℕ
head code flags status len tag = code ∷ flags ∷ 0 ∷ status ∷ 0 ∷ 0 ∷ (len / 256) ∷ (len % 256) ∷ (replicate 8 0 ++ (0 ∷ 0 ∷ 0 ∷ tag ∷ []) ++ replicate 28 0)

-- the login opens the session
opening : List ℕ
unfolding head
opening = head 0x23 0x81 0 0 1 ++ head 0x23 0x87 0 0 1

-- the drive is ready, and has 8 blocks
sizing : List ℕ
unfolding head
sizing = head 0x21 0x80 0 0 2 ++ head 0x25 0x81 0 8 3 ++ (0 ∷ 0 ∷ 0 ∷ 7 ∷ 0 ∷ 0 ∷ 2 ∷ 0 ∷ [])

block : List ℕ
unfolding head
block = head 0x25 0x81 0 512 4 ++ replicate 512 7

before : List ℕ
unfolding opening sizing
before = opening ++ sizing

all : List ℕ
unfolding before block
all = before ++ block

read_block : List (ReadTask × ℕ)
read_block = (record { lba = 3; blocks = 1 }, 200) ∷ []

places : length before ≡ 200
unfolding before opening sizing head
places = refl

sized : session_capacity info before [] ≡ Some 8
unfolding before opening sizing block all head info read_block word_at answer_read by_response has_digest has_other_value chooses_chap has_value names_method
sized = refl

without_chap : session_chap info before ≡ Some 0
unfolding before opening sizing block all head info read_block word_at answer_read by_response has_digest has_other_value chooses_chap has_value names_method
without_chap = refl

taken : tasks_taken info all read_block ≡ (3, 1) ∷ []
unfolding before opening sizing block all head info read_block word_at answer_read by_response has_digest has_other_value chooses_chap has_value names_method
taken = refl

answered : task_answers info all read_block ≡ blocks_read (replicate 512 7) ∷ []
unfolding before opening sizing block all head info read_block word_at answer_read by_response has_digest has_other_value chooses_chap has_value names_method
answered = refl

goes_on : session_end 9 info all false read_block ≡ None
unfolding before opening sizing block all head info read_block word_at answer_read by_response has_digest has_other_value chooses_chap has_value names_method
goes_on = refl

-- data that no one asked for end it, and so does the stream's end
unasked : session_end 9 info all false [] ≡ Some (record { code = 3; a = 9; b = 0 })
unfolding before opening sizing block all head info read_block word_at answer_read by_response has_digest has_other_value chooses_chap has_value names_method
unasked = refl

ended : session_end 9 info all true read_block ≡ Some (record { code = 3; a = 9; b = 0 })
unfolding before opening sizing block all head info read_block word_at answer_read by_response has_digest has_other_value chooses_chap has_value names_method
ended = refl

-- a task asked while READ CAPACITY is at work isn't taken, nor is one beyond the disk
early : tasks_taken info all ((record { lba = 3; blocks = 1 }, 150) ∷ []) ≡ []
unfolding before opening sizing block all head info read_block word_at answer_read by_response has_digest has_other_value chooses_chap has_value names_method
early = refl

beyond : tasks_taken info all ((record { lba = 8; blocks = 1 }, 200) ∷ read_block) ≡ (3, 1) ∷ []
unfolding before opening sizing block all head info read_block word_at answer_read by_response has_digest has_other_value chooses_chap has_value names_method
beyond = refl

command_text : ℕ → ℕ → Command → List ℕ
command_text tag cmd_sn command = pdu_text (command_pdu (record { lun = replicate 8 0; task_tag = tag; cmd_sn = cmd_sn; exp_stat_sn = 1; command = command }))

-- after the login's requests, three commands are said
commands : said_after_login info all read_block (session_come 0 info all) ≡ command_text 2 1 TestUnitReady ++ (command_text 3 2 ReadCapacity ++ (command_text 4 3 (Read 3 1) ++ []))
unfolding before opening sizing block all head info read_block word_at answer_read by_response has_digest has_other_value chooses_chap has_value names_method command_text
commands = refl

-- a login that is refused with class 2 and detail 1
refusal : List ℕ
unfolding head
refusal = take 36 (head 0x23 0x81 0 0 1) ++ (2 ∷ 1 ∷ drop 38 (head 0x23 0x81 0 0 1))

refused : session_end 9 info refusal false [] ≡ Some (record { code = 1; a = 9; b = 513 })
unfolding before opening sizing block all head info read_block word_at answer_read by_response has_digest has_other_value chooses_chap has_value names_method refusal
refused = refl

-- a head with additional segments is none at its eighth byte
additional : List ℕ
additional = 0x25 ∷ 0x80 ∷ 0 ∷ 0 ∷ 1 ∷ 0 ∷ 0 ∷ 0 ∷ []

seven_bytes : session_end 9 info (before ++ take 7 additional) false [] ≡ None
unfolding before opening sizing block all head info read_block word_at answer_read by_response has_digest has_other_value chooses_chap has_value names_method additional
seven_bytes = refl

eight_bytes : session_end 9 info (before ++ additional) false [] ≡ Some (record { code = 3; a = 9; b = 0 })
unfolding before opening sizing block all head info read_block word_at answer_read by_response has_digest has_other_value chooses_chap has_value names_method additional
eight_bytes = refl

in_login : session_end 9 info additional false [] ≡ Some (record { code = 3; a = 9; b = 0 })
unfolding before opening sizing block all head info read_block word_at answer_read by_response has_digest has_other_value chooses_chap has_value names_method additional
in_login = refl

-- a login that goes on, and one whose stream ends
waits : session_end 9 info [] false [] ≡ None
unfolding before opening sizing block all head info read_block word_at answer_read by_response has_digest has_other_value chooses_chap has_value names_method
waits = refl

lacks : session_end 9 info (head 0x23 0x81 0 0 1) true [] ≡ Some (record { code = 3; a = 9; b = 0 })
unfolding before opening sizing block all head info read_block word_at answer_read by_response has_digest has_other_value chooses_chap has_value names_method
lacks = refl

-- a task before a NOP-In changes the number of its answer
with_nop : List ℕ
unfolding before head
with_nop = before ++ head 0x20 0x80 0 0 0

nop_text : ℕ → List ℕ
nop_text cmd_sn = pdu_text (nop_pdu (record { lun = replicate 8 0; target_tag = 0; cmd_sn = cmd_sn; exp_stat_sn = 1 }))

without_task : said_after_login info with_nop [] (session_come 0 info with_nop) ≡ command_text 2 1 TestUnitReady ++ (command_text 3 2 ReadCapacity ++ (nop_text 3 ++ []))
unfolding before opening sizing block all head info read_block word_at answer_read by_response has_digest has_other_value chooses_chap has_value names_method command_text with_nop nop_text
without_task = refl

with_task : said_after_login info with_nop read_block (session_come 0 info with_nop) ≡ command_text 2 1 TestUnitReady ++ (command_text 3 2 ReadCapacity ++ (command_text 4 3 (Read 3 1) ++ (nop_text 4 ++ [])))
unfolding before opening sizing block all head info read_block word_at answer_read by_response has_digest has_other_value chooses_chap has_value names_method command_text with_nop nop_text
with_task = refl

-- ---- the target serves a disk of sevens

session : Session
unfolding info
session = record { info = info; cmd_sn = 1; exp_stat_sn = 1; task = 2; chap = 0 }

opened : session_come 0 info all ≡ Some session
unfolding before opening sizing block all head info read_block word_at answer_read by_response has_digest has_other_value chooses_chap has_value names_method session
opened = refl

sevens : List ℕ
sevens = replicate 4096 7

known : (disk : List ℕ) (r : DiskReading) (d : DataInParts) (work command : Command) → Some work ≡ Some command → ServesData disk r work d → ServesData disk r command d
known disk r d work command is serves = subst (λ (c : Command). ServesData disk r c d) (same_Some work command is) serves

serves : ServesCalls sevens (opened_of session) nothing_read (drive_calls 0 info all read_block session)
unfolding before opening sizing block all head info read_block word_at answer_read by_response has_digest has_other_value chooses_chap has_value names_method session sevens
serves = (
  λ command work tag good. ap asked_len (same_Some TestUnitReady command work),
  (
    λ command work tag. known sevens _ _ ReadCapacity command work (record { stand = record { rest = []; is = refl }; all = λ s is good. refl }),
    (
      tt,
      (
        λ command work tag. known sevens _ _ (Read 3 1) command work (record { stand = record { rest = replicate 2048 7; is = refl }; all = λ s is good. refl }),
        tt,
      ),
    ),
  ),
)
