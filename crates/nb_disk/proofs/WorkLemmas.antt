-- Which command is at work, how many were put, and what the capacity is, by what a disk is at.
use Rattle.std.proofs.Common.{◌≡◌, ◌≤◌, ◌≢◌, ℕ, ◌+◌, true, false, List, [], ◌∷◌, ◌++◌, length, Some, None, refl, sym, ap, ◌∙◌, append_assoc, append-nil, arith, eqb}
use Rattle.std.specs.List.{AllByRecursion}
use Rattle.std.proofs.lemmas.Bool.{ne_eqb, eq-eqb}
use Rattle.nb_iscsipdu.specs.declared.command.Command.{Command}
use Rattle.nb_iscsipdu.specs.declared.command.Command.TheVariants.{TestUnitReady, ReadCapacity, Read}
use Rattle.nb_disk.specs.declared.work.Work.{Work}
use Rattle.nb_disk.specs.declared.work.Work.TheVariants.{Testing, Sizing, Idle, Reading, Over}
use Rattle.nb_disk.specs.Histories.{TaskResult, DiskReading, counted, read_at_work, after_ready, command_at_work, at_work, first_capacity, capacity_in, capacity_read}
use Rattle.nb_disk.specs.DiskAnswers.{commands_put}
use Rattle.nb_disk.specs.Steps.{work_is_over, work_capacity, HasRoom}
use Rattle.nb_disk.specs.DiskStands.{IsCheck, IsTesting, IsAnsweredWell, IsSizing, IsSized, IsIdleDisk, IsReadingDisk, IsWorking}

-- a number that counts on
pub counted-more : (first k : ℕ) → counted (counted first k) 1 ≡ counted first (k + 1)
counted-more first k = omega arith

checks-pass : (rs later : List TaskResult) (reads : List (ℕ × ℕ)) → AllByRecursion IsCheck rs → command_at_work (rs ++ later) reads ≡ command_at_work later reads
checks-pass [] later reads all = refl
checks-pass (r ∷ rs) later reads all =
    let off : eqb r.status 0 ≡ false = ne_eqb r.status 0 (λ e. absurd (omega (arith, e, all.0))) in
    rw off (checks-pass rs later reads all.1)

sizes-pass : (rs later : List TaskResult) → AllByRecursion IsCheck rs → capacity_in (rs ++ later) ≡ capacity_in later
sizes-pass [] later all = refl
sizes-pass (r ∷ rs) later all =
    let off : eqb r.status 0 ≡ false = ne_eqb r.status 0 (λ e. absurd (omega (arith, e, all.0))) in
    rw off (sizes-pass rs later all.1)

pub checks-added : (rs : List TaskResult) (r : TaskResult) → AllByRecursion IsCheck rs → IsCheck r → AllByRecursion IsCheck (rs ++ r ∷ [])
checks-added [] r all is = (is, tt)
checks-added (x ∷ rs) r all is = (all.0, checks-added rs r all.1 is)

pub at-testing : (r : DiskReading) (checks : ℕ) → IsTesting r checks → at_work r ≡ Some TestUnitReady
at-testing r checks is =
    ap (λ (x : List TaskResult). command_at_work x r.reads) (sym (append-nil r.results)) ∙ checks-pass r.results [] r.reads is.all

pub size-testing : (r : DiskReading) (checks : ℕ) → IsTesting r checks → capacity_read r ≡ None
size-testing r checks is =
    ap (λ (x : List TaskResult). capacity_in x) (sym (append-nil r.results)) ∙ sizes-pass r.results [] is.all

-- a refusal after check conditions leaves no capacity
pub size-refused : (rs : List TaskResult) (r : TaskResult) → AllByRecursion IsCheck rs → r.status ≢ 0 → capacity_in (rs ++ r ∷ []) ≡ None
size-refused rs r all other = sizes-pass rs (r ∷ []) all ∙ rw (ne_eqb r.status 0 other) refl

pub ready-at : (r : DiskReading) (later : List TaskResult) → IsAnsweredWell r later → at_work r ≡ after_ready later r.reads
ready-at r later is =
    let on : eqb is.good.status 0 ≡ true = eq-eqb is.good.status 0 is.is_good in
    ap (λ (x : List TaskResult). command_at_work x r.reads) is.results
    ∙ checks-pass is.checks (is.good ∷ later) r.reads is.all
    ∙ rw on refl

pub size-ready : (r : DiskReading) (later : List TaskResult) → IsAnsweredWell r later → capacity_read r ≡ first_capacity later
size-ready r later is =
    let on : eqb is.good.status 0 ≡ true = eq-eqb is.good.status 0 is.is_good in
    ap (λ (x : List TaskResult). capacity_in x) is.results ∙ sizes-pass is.checks (is.good ∷ later) is.all ∙ rw on refl

reads-done : (done : List TaskResult) (reads : List (ℕ × ℕ)) → length done ≡ length reads → read_at_work done reads ≡ None
reads-done [] [] same = refl
reads-done [] (x ∷ reads) same = absurd (omega arith)
reads-done (d ∷ done) [] same = refl
reads-done (d ∷ done) (x ∷ reads) same = reads-done done reads (omega arith)

reads-left : (done : List TaskResult) (before : List (ℕ × ℕ)) (last : ℕ × ℕ) → length done ≡ length before → read_at_work done (before ++ last ∷ []) ≡ Some (Read last.0 last.1)
reads-left [] [] last same = refl
reads-left [] (x ∷ before) last same = absurd (omega arith)
reads-left (d ∷ done) [] last same = absurd (omega arith)
reads-left (d ∷ done) (x ∷ before) last same = reads-left done before last (omega arith)

pub at-sizing : (r : DiskReading) (size : List ℕ) → IsSizing r size → at_work r ≡ Some ReadCapacity
at-sizing r size is = ready-at r [] is.ready

pub at-idle : (r : DiskReading) (capacity : ℕ) → IsIdleDisk r capacity → at_work r ≡ None
at-idle r capacity is = ready-at r (is.sized.first ∷ is.done) is.sized.ready ∙ reads-done is.done r.reads is.all

pub at-reading : (r : DiskReading) (capacity wanted got : ℕ) → (is : IsReadingDisk r capacity wanted got) → at_work r ≡ Some (Read is.last.0 is.last.1)
at-reading r capacity wanted got is =
    ready-at r (is.sized.first ∷ is.done) is.sized.ready
    ∙ ap (λ (x : List (ℕ × ℕ)). read_at_work is.done x) is.reads
    ∙ reads-left is.done is.before is.last is.all

pub size-sized : (r : DiskReading) (capacity : ℕ) (done : List TaskResult) → IsSized r capacity done → capacity_read r ≡ Some capacity
size-sized r capacity done is = size-ready r (is.first ∷ done) is.ready ∙ is.is

-- the capacity that is kept is the one that was read
pub size-at : (work : Work) (r : DiskReading) (size : List ℕ) → work_is_over work ≡ false → IsWorking work r size → work_capacity work ≡ capacity_read r
size-at (Testing checks) r size live is = sym (size-testing r checks is.0)
size-at Sizing r size live is = sym (size-ready r [] is.ready)
size-at (Idle capacity) r size live is = sym (size-sized r capacity is.done is.sized)
size-at (Reading capacity wanted got) r size live is = sym (size-sized r capacity is.done is.sized)
size-at (Over capacity) r size live is = absurd cc

-- how many commands were put
pub put-busy : (r : DiskReading) (command : Command) → at_work r ≡ Some command → commands_put r ≡ length r.results + 1
put-busy r command is = rw is refl

pub put-idle : (r : DiskReading) → at_work r ≡ None → commands_put r ≡ length r.results
put-idle r is = rw is (omega arith)

-- a result more
pub ready-added : (r after : DiskReading) (later : List TaskResult) (result : TaskResult) → IsAnsweredWell r later → after.results ≡ r.results ++ result ∷ [] → IsAnsweredWell after (later ++ result ∷ [])
ready-added r after later result is more = record {
  checks = is.checks;
  good = is.good;
  all = is.all;
  is_good = is.is_good;
  results = more ∙ ap (λ (x : List TaskResult). x ++ result ∷ []) is.results ∙ append_assoc is.checks (is.good ∷ later) (result ∷ []);
}

-- no bytes always have room
pub room-none : (work : Work) (size : List ℕ) → length size ≤ 8 → HasRoom work size []
room-none (Testing checks) size fits = tt
room-none Sizing size fits = omega arith
room-none (Idle capacity) size fits = tt
room-none (Reading capacity wanted got) size fits = omega arith
room-none (Over capacity) size fits = tt
