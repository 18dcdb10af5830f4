-- Of an honest target each good answer is the disk's blocks, and the capacity is the disk's.
use Rattle.std.proofs.Common.{◌≡◌, ◌<◌, ◌+◌, ◌-◌, ◌*◌, ◌/◌, ◌^◌, ◌&&◌, ℕ, Bool, true, false, List, [], ◌∷◌, ◌++◌, length, drop, min, Option, Some, None, if◌then◌else◌, refl, ap, ◌∙◌, sym, subst, append-nil, arith, eqb, ltb}
use Rattle.std.specs.Int.{w32, to_be_bytes}
use Rattle.std.proofs.lemmas.Bool.{eqb-true, eq-eqb, and_parts, ltb-true, false≢true}
use Rattle.std.proofs.lemmas.Nat.{from_be_bytes-to_be_bytes_4}
use Rattle.std.proofs.lemmas.Option.{same_Some}
use Rattle.nb_streams.specs.Flows.{TcpCall}
use Rattle.nb_streams.proofs.FlowLaws.{front_is_streams}
use Rattle.nb_iscsipdu.specs.Heads.{word_at}
use Rattle.nb_iscsipdu.specs.declared.command.Command.TheVariants.{ReadCapacity, Read}
use Rattle.nb_login.specs.declared.info.LoginInfo.{LoginInfo}
use Rattle.nb_login.specs.declared.session.Session.{Session}
use Rattle.nb_login.specs.LoginHistory.{login_ended}
use Rattle.nb_disk.specs.Histories.{TaskResult, nothing_read, capacity_by, capacity_of, first_capacity, capacity_in}
use Rattle.nb_disk.specs.DiskAnswers.{opened_of}
use Rattle.nb_sans.specs.Sessions.{ReadTask, login_so_far, session_come, drive_calls, read_by, session_reading, session_capacity, blocks_read, read_refused, read_short, task_answer, read_results, answers_of, tasks_taken, task_answers}
use Rattle.nb_sans.specs.Targets.{IsDisk, capacity_data, ServesCalls, ServesDisk, IsOfDisk, AreOfDisk, stream_come}
use Rattle.nb_sans.proofs.Starts.{Starts}
use Rattle.nb_sans.proofs.SessionGrowth.{opened_ended, stays_open, calls_grow}
use Rattle.nb_sans.proofs.GoodResults.{IsGoodFor, GoodReads, GoodAfter, GoodResults}
use Rattle.nb_sans.proofs.HonestReadings.{IsHonest, nothing_honest, calls_honest, serves_less}

-- ---- the answers

module _ (disk : List ℕ) where
  answer_is : (lba n : ℕ) (result : TaskResult) → IsGoodFor disk (Read lba n) result → IsOfDisk disk (lba, n) (task_answer n result)
  answer_is lba n result good = by (eqb result.status 0) refl
    where
      by_len : (b : Bool) → eqb (length result.bytes) (512 * n) ≡ b → result.status ≡ 0 → IsOfDisk disk (lba, n) (if b then blocks_read result.bytes else read_short)
      by_len true e zero = good.theirs zero
      by_len false e zero = false≢true (sym e ∙ eq-eqb (length result.bytes) (512 * n) (good.all zero))

      by : (b : Bool) → eqb result.status 0 ≡ b
          → IsOfDisk disk (lba, n) (if b then (if eqb (length result.bytes) (512 * n) then blocks_read result.bytes else read_short) else read_refused result.status)
      by true e = by_len (eqb (length result.bytes) (512 * n)) refl (eqb-true result.status 0 e)
      by false e = tt

  reads_are : (results : List TaskResult) (reads : List (ℕ × ℕ)) → GoodReads disk results reads → AreOfDisk disk reads (answers_of reads results)
  reads_are [] [] good = tt
  reads_are [] (read ∷ reads) good = tt
  reads_are (result ∷ results) [] good = tt
  reads_are (result ∷ results) (read ∷ reads) good = (answer_is read.0 read.1 result good.0, reads_are results reads good.1)

  after_are : (results : List TaskResult) (reads : List (ℕ × ℕ)) → GoodAfter disk results reads → AreOfDisk disk reads (answers_of reads (drop 1 results))
  after_are [] reads good = reads_are [] reads tt
  after_are (result ∷ results) reads good = reads_are results reads good.1

  results_are : (results : List TaskResult) (reads : List (ℕ × ℕ)) → GoodResults disk results reads → AreOfDisk disk reads (answers_of reads (read_results results))
  results_are [] reads good = reads_are [] reads tt
  results_are (result ∷ results) reads good = by (λ is. results_are results reads (good.1 is)) (eqb result.status 0) refl
    where
      by : (eqb result.status 0 ≡ false → AreOfDisk disk reads (answers_of reads (read_results results))) → (b : Bool) → eqb result.status 0 ≡ b
          → AreOfDisk disk reads (answers_of reads (if b then drop 1 results else read_results results))
      by rest true e = after_are results reads (good.0 e)
      by rest false e = rest e

-- ---- the capacity

word_first : (a b : ℕ) → a < 2 ^ 32 → word_at 0 (to_be_bytes w32 a ++ to_be_bytes w32 b) ≡ a
unfolding word_at
word_first a b small = from_be_bytes-to_be_bytes_4 a small

word_second : (a b : ℕ) → b < 2 ^ 32 → word_at 4 (to_be_bytes w32 a ++ to_be_bytes w32 b) ≡ b
unfolding word_at
word_second a b small = from_be_bytes-to_be_bytes_4 b small

sized_by : (last len blocks : ℕ) → capacity_by last len ≡ Some blocks → (blocks ≡ last + 1) × (last < 0xffffffff)
sized_by last len blocks is = by (eqb len 512 && ltb last 0xffffffff) refl is
  where
    by : (b : Bool) → (eqb len 512 && ltb last 0xffffffff) ≡ b → (if b then Some (last + 1) else None) ≡ Some blocks → (blocks ≡ last + 1) × (last < 0xffffffff)
    by true e so = (sym (same_Some (last + 1) blocks so), ltb-true last 0xffffffff (and_parts (eqb len 512) (ltb last 0xffffffff) e).1)
    by false e so = absurd cc

capacity_is : (disk : List ℕ) → IsDisk disk → (blocks : ℕ) → capacity_of (capacity_data disk) ≡ Some blocks → 512 * blocks ≡ length disk
capacity_is disk d blocks is =
    let n : ℕ = length disk in
    let last : ℕ = min (length disk / 512 - 1) 0xffffffff in
    let sized = sized_by (word_at 0 (capacity_data disk)) (word_at 4 (capacity_data disk)) blocks is in
    let word : word_at 0 (capacity_data disk) ≡ min (length disk / 512 - 1) 0xffffffff = word_first (min (length disk / 512 - 1) 0xffffffff) 512 (omega arith) in
    let below : word_at 0 (capacity_data disk) < 0xffffffff = sized.1 in
    let one : blocks ≡ word_at 0 (capacity_data disk) + 1 = sized.0 in
    let some : 0 < d.blocks = d.some in
    let whole : length disk ≡ 512 * d.blocks = d.whole in
    omega (arith, word, below, one, some, whole)

-- READ CAPACITY's result is all of those bytes
size_data : (disk : List ℕ) (result : TaskResult) → IsGoodFor disk ReadCapacity result → result.status ≡ 0 → result.bytes ≡ capacity_data disk
size_data disk result good zero = good.theirs zero

first_is : (disk : List ℕ) → IsDisk disk → (results : List TaskResult) (reads : List (ℕ × ℕ)) (blocks : ℕ) → GoodAfter disk results reads → first_capacity results ≡ Some blocks → 512 * blocks ≡ length disk
first_is disk d [] reads blocks good is = absurd cc
first_is disk d (result ∷ results) reads blocks good is = by (eqb result.status 0) refl is
  where
    by : (b : Bool) → eqb result.status 0 ≡ b → (if b then capacity_of result.bytes else None) ≡ Some blocks → 512 * blocks ≡ length disk
    by true e so = capacity_is disk d blocks (sym (ap capacity_of (size_data disk result good.0 (eqb-true result.status 0 e))) ∙ so)
    by false e so = absurd cc

capacities_are : (disk : List ℕ) → IsDisk disk → (results : List TaskResult) (reads : List (ℕ × ℕ)) (blocks : ℕ) → GoodResults disk results reads → capacity_in results ≡ Some blocks → 512 * blocks ≡ length disk
capacities_are disk d [] reads blocks good is = absurd cc
capacities_are disk d (result ∷ results) reads blocks good is = by (λ e. capacities_are disk d results reads blocks (good.1 e)) (eqb result.status 0) refl is
  where
    by : (eqb result.status 0 ≡ false → capacity_in results ≡ Some blocks → 512 * blocks ≡ length disk) → (b : Bool) → eqb result.status 0 ≡ b
        → (if b then first_capacity results else capacity_in results) ≡ Some blocks → 512 * blocks ≡ length disk
    by rest true e so = first_is disk d results reads blocks (good.0 e) so
    by rest false e so = rest e so

-- ---- of a session

module _ (disk : List ℕ) (i : LoginInfo) (isn : ℕ) (calls : List TcpCall) (tasks : List (ReadTask × ℕ)) (serves : ServesDisk disk i isn calls tasks) where
  -- what has come is the beginning of a stream that serves the disk, and so is what the drive makes of it
  honest_by : (come rest : List ℕ) → serves.stream ≡ come ++ rest → (o : Option Session) → session_come 0 i come ≡ o → IsHonest disk (read_by i come tasks o)
  honest_by come rest all None opens = nothing_honest disk
  honest_by come rest all (Some s) opens =
      let ended : login_ended (login_so_far 0 i come) ≡ true = opened_ended 0 i come s opens in
      let still : session_come 0 i (come ++ rest) ≡ Some s = stays_open 0 i come rest ended ∙ opens in
      let more : Starts (drive_calls 0 i come tasks s) (drive_calls 0 i (come ++ rest) (tasks ++ []) s) = calls_grow 0 i come rest tasks [] tt s ended in
      let same : drive_calls 0 i serves.stream tasks s ≡ drive_calls 0 i come tasks s ++ more.rest =
      ap (λ (l : List ℕ). drive_calls 0 i l tasks s) all ∙ ap (λ (ts : List (ReadTask × ℕ)). drive_calls 0 i (come ++ rest) ts s) (sym (append-nil tasks)) ∙ more.is in
      let theirs : ServesCalls disk (opened_of s) nothing_read (drive_calls 0 i serves.stream tasks s) = serves.serves s (ap (session_come 0 i) all ∙ still) in
      calls_honest disk (opened_of s) nothing_read (drive_calls 0 i come tasks s) (nothing_honest disk)
      (serves_less disk (opened_of s) nothing_read (drive_calls 0 i come tasks s) more.rest (subst (ServesCalls disk (opened_of s) nothing_read) same theirs))

  honest : IsHonest disk (session_reading i (stream_come isn calls) tasks)
  honest =
      let part = front_is_streams serves.stream isn calls serves.carried in
      honest_by (stream_come isn calls) part.0 part.1 (session_come 0 i (stream_come isn calls)) refl

  pub answers_theirs : AreOfDisk disk (tasks_taken i (stream_come isn calls) tasks) (task_answers i (stream_come isn calls) tasks)
  answers_theirs =
      let r = session_reading i (stream_come isn calls) tasks in
      results_are disk (session_reading i (stream_come isn calls) tasks).results (session_reading i (stream_come isn calls) tasks).reads honest.results

  pub capacity_theirs : (blocks : ℕ) → IsDisk disk → session_capacity i (stream_come isn calls) tasks ≡ Some blocks → 512 * blocks ≡ length disk
  capacity_theirs blocks d is =
      capacities_are disk d (session_reading i (stream_come isn calls) tasks).results (session_reading i (stream_come isn calls) tasks).reads blocks honest.results is

pub capacities_theirs : (disk : List ℕ) (i : LoginInfo) (isn : ℕ) (calls : List TcpCall) (tasks : List (ReadTask × ℕ)) (blocks : ℕ) → IsDisk disk → ServesDisk disk i isn calls tasks
    → session_capacity i (stream_come isn calls) tasks ≡ Some blocks → 512 * blocks ≡ length disk
capacities_theirs disk i isn calls tasks blocks d serves is = capacity_theirs disk i isn calls tasks serves blocks d is
