-- What a disk stands for: all the calls since its start
use Rattle.std.specs.Prelude.{◌≡◌, ◌<◌, ℕ, ◌+◌, ◌-◌, ◌*◌, Bool, true, false, List, [], ◌∷◌, ◌++◌, length, nat_lt, Option, Some, None, Result, Ok, Err, ⊤}
use Rattle.std.specs.List.{AllByRecursion}
use Rattle.std.specs.Option.{option_map, is_some}
use Rattle.nb_terms.specs.declared.acts.Acts.{Acts}
use Rattle.nb_iscsipdu.specs.PduTexts.{pdu_text}
use Rattle.nb_disk.specs.declared.blocks.ReadRefusal.{ReadRefusal}
use Rattle.nb_disk.specs.declared.blocks.ReadRefusal.TheVariants.{OutOfDisk, Busy, NoMemory}
use Rattle.nb_disk.specs.declared.work.Work.{Work}
use Rattle.nb_disk.specs.declared.work.Work.TheVariants.{Testing, Sizing, Idle, Reading, Over}
use Rattle.nb_disk.specs.Histories.{DiskCall, TaskResult, DiskReading, SessionNumbers, counted, reading, at_work, first_capacity, capacity_read}
use Rattle.nb_disk.specs.DiskAnswers.{DiskAnswer, disk_acts, commands_put, expected_stat_sn, session_has_ended}
use Rattle.nb_disk.specs.Steps.{KeptNumbers, work_is_over, work_capacity}

-- a check condition, which is no good status
abbrev pub IsCheck : TaskResult → Type 0
IsCheck r = r.status ≡ 2

-- only TEST UNIT READY was answered so far, by check conditions
pub record IsTesting (r : DiskReading) (checks : ℕ) : Type 0 where
  pub all : AllByRecursion IsCheck r.results
  pub count : length r.results ≡ checks
  pub few : checks < 4
  pub none : r.bytes ≡ []
  pub unasked : r.reads ≡ []

-- it was answered by a good status, and these results came after it
pub record IsAnsweredWell (r : DiskReading) (later : List TaskResult) : Type 0 where
  pub checks : List TaskResult
  pub good : TaskResult
  pub all : AllByRecursion IsCheck checks
  pub is_good : good.status ≡ 0
  pub results : r.results ≡ checks ++ good ∷ later

-- READ CAPACITY is at work
pub record IsSizing (r : DiskReading) (size : List ℕ) : Type 0 where
  pub ready : IsAnsweredWell r []
  pub came : r.bytes ≡ size
  pub unasked : r.reads ≡ []

-- the capacity was read, and these results of reads came after it
pub record IsSized (r : DiskReading) (capacity : ℕ) (done : List TaskResult) : Type 0 where
  pub first : TaskResult
  pub ready : IsAnsweredWell r (first ∷ done)
  pub is : first_capacity (first ∷ done) ≡ Some capacity

pub record IsIdleDisk (r : DiskReading) (capacity : ℕ) : Type 0 where
  pub done : List TaskResult
  pub sized : IsSized r capacity done
  pub all : length done ≡ length r.reads
  pub none : r.bytes ≡ []

pub record IsReadingDisk (r : DiskReading) (capacity wanted got : ℕ) : Type 0 where
  pub done : List TaskResult
  pub before : List (ℕ × ℕ)
  pub last : ℕ × ℕ
  pub sized : IsSized r capacity done
  pub reads : r.reads ≡ before ++ last ∷ []
  pub all : length done ≡ length before
  pub is : wanted ≡ 512 * last.1
  pub came : length r.bytes ≡ got

abbrev pub IsWorking : Work → DiskReading → List ℕ → Type 0
IsWorking (Testing checks) r size = IsTesting r checks × (size ≡ [])
IsWorking Sizing r size = IsSizing r size
IsWorking (Idle capacity) r size = IsIdleDisk r capacity
IsWorking (Reading capacity wanted got) r size = IsReadingDisk r capacity wanted got
IsWorking (Over capacity) r size = ⊤

-- what is kept, by what was read: the next command has the number after those that were put, and the last one had this tag
pub record KeepsNumbers (o : SessionNumbers) (r : DiskReading) (k : KeptNumbers) : Type 0 where
  pub lun : k.lun ≡ o.lun
  pub cmd_sn : k.cmd_sn ≡ counted o.cmd_sn (commands_put r)
  pub exp_stat_sn : k.exp_stat_sn ≡ expected_stat_sn o r
  pub task : k.task ≡ counted o.task (commands_put r - 1)
  pub work : IsWorking k.work r k.sized

-- A disk that was started with these numbers stands for these calls: it has ended exactly where one of them gave an end, it keeps the
-- capacity that was read, and as long as it goes on its numbers and its work are those that they leave.
pub record DiskStands (o : SessionNumbers) (calls : List DiskCall) (k : KeptNumbers) : Type 0 where
  pub over : work_is_over k.work ≡ session_has_ended o calls
  pub capacity : work_capacity k.work ≡ capacity_read (reading o calls)
  pub live : work_is_over k.work ≡ false → KeepsNumbers o (reading o calls) k

-- what a call answers: it puts this text, and asks this of the caller
pub record IsDiskAnswer (a : DiskAnswer) (text : Option (List ℕ)) (acts : Acts) : Type 0 where
  pub puts : text ≡ option_map pdu_text a.put
  pub asks : acts ≡ disk_acts a

-- it goes beyond the capacity that was read
abbrev pub is_out_of : Option ℕ → ℕ → ℕ → Bool
is_out_of None lba n = false
is_out_of (Some capacity) lba n = nat_lt capacity (lba + n)

abbrev pub is_out : DiskReading → ℕ → ℕ → Bool
is_out r lba n = is_out_of (capacity_read r) lba n

-- a read is put only where it is within the disk and no command is at work; each refusal has its cause
abbrev pub RefusesRead : DiskReading → ℕ → ℕ → Result (List ℕ) ReadRefusal → Type 0
RefusesRead r lba n (Ok text) = (is_out r lba n ≡ false) × (at_work r ≡ None)
RefusesRead r lba n (Err OutOfDisk) = is_out r lba n ≡ true
RefusesRead r lba n (Err Busy) = (is_out r lba n ≡ false) × (is_some (at_work r) ≡ true)
RefusesRead r lba n (Err NoMemory) = (is_out r lba n ≡ false) × (at_work r ≡ None)
