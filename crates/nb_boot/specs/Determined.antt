-- With no fault and memory enough the input alone says how a run ends and what it writes, however many opens live.
use Rattle.std.specs.Prelude.{◌≡◌, ℕ, ◌≤◌, List, [], ◌∷◌, ◌++◌, length, Some, IsSome}
use Rattle.nb_defs.specs.Records.{In, in_texts, Out, out_texts, done}
use Rattle.nb_record.specs.Outside.{Outside, Passes}
use Rattle.nb_traced.specs.Plain.{without_graph}
use Rattle.nb_machine.specs.CommandRecords.{status_of}
use Rattle.nb_runner.specs.StatusNumber.{status_number}
use Rattle.nb_runner.specs.declared.status.Status.{Status}
use Rattle.nb_runner.specs.declared.status.Status.TheVariants as status
use Rattle.nb_machine.specs.Courses.{Standing, ready, running, waiting, reaching, yielded, handing, left, handed_off, stopped, Progress, Course}
use Rattle.nb_machine.specs.Closings.{Shuts}
use Rattle.nb_boot.specs.Complete.{NoneRose}

-- What a course says of the status where it has come here and these bytes follow: it has ended, or the next record is waited for
-- and nothing follows.
abbrev pub CourseSays : Standing → List ℕ → ℕ → Type 0
CourseSays ready more number = ⊥
CourseSays (running s script outer) more number = ⊥
CourseSays (waiting s w) more number = (more ≡ []) × (number ≡ 5)
CourseSays (reaching s script outer next) more number = ⊥
CourseSays (yielded s script outer) more number = (more ≡ []) × (number ≡ 5)
CourseSays (handing s rest) more number = ⊥
CourseSays (left s outer cause) more number = (outer ≡ []) × (number ≡ status_of cause)
CourseSays (handed_off s) more number = number ≡ 0
CourseSays (stopped s) more number = number ≡ 5

-- What was written, without the records of the object graph, is these records, then what closes all that lives there, and DONE.
pub record WroteAll (before after : Outside) (outs : List Out) (p : Standing) (number : ℕ) : Type 0 where
  pub read : List ℕ
  pub written : List ℕ
  pub passes : Passes before after read written
  pub all : List Out
  pub texts : written ≡ out_texts all
  pub put : List Out
  pub shuts : Shuts p put
  pub records : without_graph all ≡ outs ++ (put ++ done number ∷ [])

-- Where the input begins with records on which a course says the status, the line tells what is left, no count rose and
-- memory sufficed, the status is that one, and what was written is that course: the input alone says both, whatever follows.
abbrev pub IsDetermined : Status → Outside → Outside → Type 0
IsDetermined result before after = (ins : List In) (more : List ℕ) (outs : List Out) (p : Progress) (number : ℕ) → length ins ≤ 4294967295 →
    before.left ≡ Some (in_texts ins ++ more) → Course ins outs p → CourseSays p.standing more number →
    IsSome after.left → NoneRose before after → (result ≡ status.NoMemory → ⊥) → (status_number result ≡ number) × WroteAll before after outs p.standing number
