-- What is kept of a drive goes on as what the drive has answered and read.
use Rattle.std.proofs.Common.{◌≡◌, ℕ, Bool, true, false, cond, List, [], ◌++◌, Option, Some, None, option_map, refl, sym, ap, ◌∙◌}
use Rattle.std.specs.Prelude.{option_and_then}
use Rattle.std.specs.Option.{is_some}
use Rattle.nb_drivechains.specs.declared.drive_answer.DriveAnswer.{DriveAnswer as Told}
use Rattle.nb_login.specs.declared.info.LoginInfo.{LoginInfo}
use Rattle.nb_sans.specs.Sessions.{ReadTask}
use Rattle.nb_machine.specs.Drives.{DriveAnswer, last_read}
use Rattle.nb_machine.specs.Kinds.{answered}
use Rattle.nb_machine.specs.Lives.{Live}
use Rattle.nb_open.specs.DriveAnswers.{AnswersAfter, AsksAfter, bytes_so_far, is_reading, read_answer, takes_task, with_none_last, would_take}
use Rattle.nb_network.specs.declared.living.KeptDrive.{KeptDrive}
use Rattle.nb_network.specs.Drives.{asks, brings, kept_drive_of, with_answer, with_blocks, with_news}

-- which kind of CHAP an answer names, and how many blocks
abbrev pub chap_in : Option DriveAnswer → Option ℕ
chap_in answer = option_map (λ (a : DriveAnswer). a.chap) answer

abbrev size_in : Option DriveAnswer → Option ℕ
size_in answer = option_map (λ (a : DriveAnswer). a.capacity) answer

-- what has come of a read, if one is at work
abbrev coming : Bool → List ℕ → Option (List ℕ)
coming reading bytes = cond reading (Some bytes) None

-- what is kept where this was answered
abbrev kept : LoginInfo → Option DriveAnswer → Option (List ℕ) → KeptDrive
kept i answer bytes = record { login = i; chap = chap_in answer; capacity = size_in answer; coming = bytes; read = option_and_then last_read answer }

-- BYTES AND ANSWERS

blocks_kept : (i : LoginInfo) (w : Option DriveAnswer) (reading : Bool) (bytes blocks : List ℕ) → with_blocks blocks (kept i w (coming reading bytes)) ≡ kept i w (coming reading (bytes ++ blocks))
blocks_kept i w true bytes blocks = refl
blocks_kept i w false bytes blocks = refl

abbrev answer_then : ℕ → Told → Option DriveAnswer → List ℕ → Option DriveAnswer
answer_then server a w bytes = Some (record { server = server; chap = a.chap; capacity = a.blocks; last = read_answer w bytes })

answer_kept : (i : LoginInfo) (server : ℕ) (a : Told) (w : Option DriveAnswer) (bytes blocks later : List ℕ)
    → with_answer a blocks (kept i w (coming (is_some w) bytes)) ≡ kept i (answer_then server a w (bytes ++ blocks)) (coming false later)
answer_kept i server a None bytes blocks later = refl
answer_kept i server a (Some before) bytes blocks later = refl

module _ (i : LoginInfo) (l after : Live) where
  pub brought_is : (answer : Option Told) (blocks : List ℕ) → AnswersAfter l after answer blocks → with_news (brings answer blocks) (kept_drive_of l i) ≡ kept_drive_of after i
  brought_is None blocks h =
      blocks_kept i (answered l) (is_reading l) (bytes_so_far l) blocks
      ∙ (ap (λ z. kept i z (coming (is_reading l) (bytes_so_far l ++ blocks))) (sym h.0)
      ∙ (ap (λ z. kept i (answered after) (coming (is_reading l) z)) (sym h.1) ∙ ap (λ z. kept i (answered after) (coming z (bytes_so_far after))) (sym h.2)))
  brought_is (Some a) blocks h =
      ap (λ z. with_answer a blocks (kept i (answered l) (coming z (bytes_so_far l)))) h.3
      ∙ (answer_kept i l.server a (answered l) (bytes_so_far l) blocks (bytes_so_far after)
      ∙ (ap (λ z. kept i z (coming false (bytes_so_far after))) (sym h.0) ∙ ap (λ z. kept i (answered after) (coming z (bytes_so_far after))) (sym h.2)))

-- TASKS

module _ (i : LoginInfo) (t : ReadTask) (reading : Bool) (bytes : List ℕ) where
  asked_kept : (w : Option DriveAnswer) (takes : Bool)
      → cond takes (let d : KeptDrive = record { login = i; chap = chap_in w; capacity = size_in w; coming = Some []; read = None } in d) (kept i w (coming reading bytes))
      ≡ kept i (cond takes (option_map with_none_last w) w) (coming (cond takes true reading) (cond takes [] bytes))
  asked_kept None true = refl
  asked_kept (Some a) true = refl
  asked_kept None false = refl
  asked_kept (Some a) false = refl

is_coming : (reading : Bool) (bytes : List ℕ) → is_some (coming reading bytes) ≡ reading
is_coming true bytes = refl
is_coming false bytes = refl

pub asked_is : (i : LoginInfo) (l after : Live) (t : ReadTask) → AsksAfter t l after → with_news (asks t) (kept_drive_of l i) ≡ kept_drive_of after i
asked_is i l after t h =
    let w = answered l in
    ap (λ z. cond (would_take z t (size_in w)) (let d : KeptDrive = record { login = i; chap = chap_in w; capacity = size_in w; coming = Some []; read = None } in d) (kept_drive_of l i)) (is_coming (is_reading l) (bytes_so_far l))
    ∙ (asked_kept i t (is_reading l) (bytes_so_far l) w (takes_task t l)
    ∙ (ap (λ z. kept i z (coming (cond (takes_task t l) true (is_reading l)) (cond (takes_task t l) [] (bytes_so_far l)))) (sym h.answer)
    ∙ (ap (λ z. kept i (answered after) (coming (cond (takes_task t l) true (is_reading l)) z)) (sym h.bytes) ∙ ap (λ z. kept i (answered after) (coming z (bytes_so_far after))) (sym h.reading))))
