-- Results of a drive's commands that are those of a disk, and the command at work after one more.
use Rattle.std.proofs.Common.{◌≡◌, ℕ, Bool, true, false, List, [], ◌∷◌, ◌++◌, length, take, Some, if◌then◌else◌, ap, ◌∙◌, sym, subst, eqb}
use Rattle.nb_iscsipdu.specs.declared.command.Command.{Command}
use Rattle.nb_iscsipdu.specs.declared.command.Command.TheVariants.{ReadCapacity, Read}
use Rattle.nb_iscsipdu.specs.Commands.{asked_len}
use Rattle.nb_disk.specs.Histories.{TaskResult, read_at_work, after_ready, command_at_work}
use Rattle.nb_sans.specs.Targets.{data_for}

-- ---- results of the commands, in their order

-- a good result is all the data that was asked for
pub record IsGoodFor (disk : List ℕ) (command : Command) (result : TaskResult) : Type 0 where
  pub all : result.status ≡ 0 → length result.bytes ≡ asked_len command
  pub theirs : result.status ≡ 0 → result.bytes ≡ take (asked_len command) (data_for disk command)

abbrev pub GoodReads : List ℕ → List TaskResult → List (ℕ × ℕ) → Type 0
GoodReads disk [] reads = Unit {0}
GoodReads disk (result ∷ results) [] = ⊥
GoodReads disk (result ∷ results) (read ∷ reads) = IsGoodFor disk (Read read.0 read.1) result × GoodReads disk results reads

abbrev pub GoodAfter : List ℕ → List TaskResult → List (ℕ × ℕ) → Type 0
GoodAfter disk [] reads = Unit {0}
GoodAfter disk (result ∷ results) reads = IsGoodFor disk ReadCapacity result × GoodReads disk results reads

abbrev pub GoodResults : List ℕ → List TaskResult → List (ℕ × ℕ) → Type 0
GoodResults disk [] reads = Unit {0}
GoodResults disk (result ∷ results) reads = (eqb result.status 0 ≡ true → GoodAfter disk results reads) × (eqb result.status 0 ≡ false → GoodResults disk results reads)

module _ (disk : List ℕ) where
  -- one result more, of the command at work
  add_read : (rs : List TaskResult) (reads : List (ℕ × ℕ)) (command : Command) (x : TaskResult) → read_at_work rs reads ≡ Some command → GoodReads disk rs reads → IsGoodFor disk command x → GoodReads disk (rs ++ x ∷ []) reads
  add_read [] [] command x is good new = absurd cc
  add_read [] (read ∷ reads) command x is good new = (subst (λ (c : Command). IsGoodFor disk c x) (sym (let e = is in cc)) new, tt)
  add_read (r ∷ rs) [] command x is good new = absurd good
  add_read (r ∷ rs) (read ∷ reads) command x is good new = (good.0, add_read rs reads command x is good.1 new)

  add_after : (rs : List TaskResult) (reads : List (ℕ × ℕ)) (command : Command) (x : TaskResult) → after_ready rs reads ≡ Some command → GoodAfter disk rs reads → IsGoodFor disk command x → GoodAfter disk (rs ++ x ∷ []) reads
  add_after [] reads command x is good new = (subst (λ (c : Command). IsGoodFor disk c x) (sym (let e = is in cc)) new, tt)
  add_after (r ∷ rs) reads command x is good new = (good.0, add_read rs reads command x is good.1 new)

  pub add_result : (rs : List TaskResult) (reads : List (ℕ × ℕ)) (command : Command) (x : TaskResult) → command_at_work rs reads ≡ Some command → GoodResults disk rs reads → IsGoodFor disk command x → GoodResults disk (rs ++ x ∷ []) reads
  add_result [] reads command x is good new = (λ _. tt, λ _. tt)
  add_result (r ∷ rs) reads command x is good new = (
    λ e. add_after rs reads command x (sym (ap (λ b. if b then after_ready rs reads else command_at_work rs reads) e) ∙ is) (good.0 e) new,
    λ e. add_result rs reads command x (sym (ap (λ b. if b then after_ready rs reads else command_at_work rs reads) e) ∙ is) (good.1 e) new,
  )

  -- one read more
  more_reads : (rs : List TaskResult) (reads : List (ℕ × ℕ)) (y : ℕ × ℕ) → GoodReads disk rs reads → GoodReads disk rs (reads ++ y ∷ [])
  more_reads [] reads y good = tt
  more_reads (r ∷ rs) [] y good = absurd good
  more_reads (r ∷ rs) (read ∷ reads) y good = (good.0, more_reads rs reads y good.1)

  more_after : (rs : List TaskResult) (reads : List (ℕ × ℕ)) (y : ℕ × ℕ) → GoodAfter disk rs reads → GoodAfter disk rs (reads ++ y ∷ [])
  more_after [] reads y good = tt
  more_after (r ∷ rs) reads y good = (good.0, more_reads rs reads y good.1)

  pub more_asked : (rs : List TaskResult) (reads : List (ℕ × ℕ)) (y : ℕ × ℕ) → GoodResults disk rs reads → GoodResults disk rs (reads ++ y ∷ [])
  more_asked [] reads y good = tt
  more_asked (r ∷ rs) reads y good = (λ e. more_after rs reads y (good.0 e), λ e. more_asked rs reads y (good.1 e))

-- ---- the command at work stays where a read is asked for

read_stays : (rs : List TaskResult) (reads : List (ℕ × ℕ)) (y : ℕ × ℕ) (command : Command) → read_at_work rs reads ≡ Some command → read_at_work rs (reads ++ y ∷ []) ≡ Some command
read_stays rs [] y command is = absurd cc
read_stays [] (read ∷ reads) y command is = is
read_stays (r ∷ rs) (read ∷ reads) y command is = read_stays rs reads y command is

after_stays : (rs : List TaskResult) (reads : List (ℕ × ℕ)) (y : ℕ × ℕ) (command : Command) → after_ready rs reads ≡ Some command → after_ready rs (reads ++ y ∷ []) ≡ Some command
after_stays [] reads y command is = is
after_stays (r ∷ rs) reads y command is = read_stays rs reads y command is

pub work_stays : (rs : List TaskResult) (reads : List (ℕ × ℕ)) (y : ℕ × ℕ) (command : Command) → command_at_work rs reads ≡ Some command → command_at_work rs (reads ++ y ∷ []) ≡ Some command
work_stays [] reads y command is = is
work_stays (r ∷ rs) reads y command is = by (work_stays rs reads y command) (eqb r.status 0) is
  where
    by : (command_at_work rs reads ≡ Some command → command_at_work rs (reads ++ y ∷ []) ≡ Some command) → (b : Bool) → (if b then after_ready rs reads else command_at_work rs reads) ≡ Some command
        → (if b then after_ready rs (reads ++ y ∷ []) else command_at_work rs (reads ++ y ∷ [])) ≡ Some command
    by rest true so = after_stays rs reads y command so
    by rest false so = rest so
