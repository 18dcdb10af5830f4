-- Nothing is read while output is kept back, or while a whole record is at hand: each read stands between two steps.
use Rattle.std.specs.Prelude.{◌≡◌, ℕ, ◌+◌, ◌≤◌, List, [], ◌∷◌, ◌++◌, length, Some, All, IfSome}
use Rattle.nb_defs.specs.Records.{In, in_texts, IsPartial, Out, step, out_texts}
use Rattle.nb_traced.specs.Plain.{without_graph}
use Rattle.nb_record.specs.declared.notes.ReadNote.{ReadNote}
use Rattle.nb_record.specs.Outside.{Outside, MOST_READ}
use Rattle.nb_machine.specs.Courses.{Standing, ready, running, waiting, reaching, yielded, handing, left, handed_off, stopped, Progress, Course}

-- no step is under way, and the run isn't over: the next record may come
abbrev pub MayGoOn : Standing → Type 0
MayGoOn ready = Unit {0}
MayGoOn (reaching s script outer next) = ⊥
MayGoOn (running s script outer) = ⊥
MayGoOn (waiting s w) = Unit {0}
MayGoOn (yielded s script outer) = Unit {0}
MayGoOn (handing s rest) = ⊥
MayGoOn (left s outer cause) = ⊥
MayGoOn (handed_off s) = ⊥
MayGoOn (stopped s) = ⊥

-- the output of an input record begins
abbrev pub IsStepOut : Out → Type 0
IsStepOut (step number) = Unit {0}
IsStepOut _ = ⊥

-- nothing stands here, or the next STEP
abbrev pub EndsStep : List Out → Type 0
EndsStep [] = Unit {0}
EndsStep (o ∷ outs) = IsStepOut o

-- A read of a run that used and wrote these records. The bytes read before it spell the first of those used, and after them a
-- prefix of a record that isn't whole; on these the course has come to where the next may come; all that was put by then, the
-- graph's records too, was taken; and at most a piece is asked for.
pub record IsInTurn (before : Outside) (ins : List In) (outs : List Out) (read : ReadNote) : Type 0 where
  pub used : List In
  pub unused : List In
  pub ins_are : ins ≡ used ++ unused
  pub put : List Out
  pub later : List Out
  pub outs_are : outs ≡ put ++ later
  pub whole : EndsStep later
  pub progress : Progress
  pub course : Course used (without_graph put) progress
  pub between : MayGoOn progress.standing
  pub held : List ℕ
  pub partial : IsPartial held
  -- the bytes that were left then
  pub ahead : List ℕ
  pub input : before.left ≡ Some ((in_texts used ++ held) ++ ahead)
  pub left_is : read.left ≡ length ahead
  -- the bytes that were taken before the call
  pub gone : List ℕ
  pub output : before.taken ≡ Some gone
  pub taken_is : read.taken ≡ length gone + length (out_texts put)
  pub few : read.most ≤ MOST_READ

-- of these reads those that were known before a call are the first, and this holds of each other
pub record NewReads (P : ReadNote → Type 0) (before : Outside) (reads : List ReadNote) : Type 0 where
  pub known : List ReadNote
  pub were : before.reads ≡ Some known
  pub asked : List ReadNote
  pub are : reads ≡ known ++ asked
  pub each : All P asked

-- this holds of each read of a call, where the reads are known after it
abbrev pub OfEachRead : (ReadNote → Type 0) → (before after : Outside) → Type 0
OfEachRead P before after = IfSome after.reads (NewReads P before)

-- each read of a call that used and wrote these records was in its turn
abbrev pub AreInTurn : (before after : Outside) → List In → List Out → Type 0
AreInTurn before after ins outs = OfEachRead (IsInTurn before ins outs) before after
