-- The outside of the program, and what a call does to it.
use Rattle.std.specs.Prelude.{◌≡◌, ℕ, ◌+◌, ◌-◌, ◌^◌, ◌≤◌, min, List, [], ◌∷◌, ◌++◌, length, Option, Some, None, IfSome}
use Rattle.nb_record.specs.declared.notes.ReadNote.{ReadNote}

-- what is left to read, what was taken and the reads that were asked, each where it is told, and the counts of faults
pub record Outside : Type 0 where
  pub left : Option (List ℕ)
  pub taken : Option (List ℕ)
  pub reads : Option (List ReadNote)
  pub attach_faults : ℕ
  pub read_faults : ℕ
  pub write_faults : ℕ

-- From the first value to the second these bytes were read. What is told afterwards was told before.
abbrev pub Gave : Option (List ℕ) → Option (List ℕ) → List ℕ → Type 0
Gave old None bytes = Unit {0}
Gave None (Some now) bytes = ⊥
Gave (Some old) (Some now) bytes = old ≡ bytes ++ now

-- from the first value to the second these bytes were taken
abbrev pub Took : Option (List ℕ) → Option (List ℕ) → List ℕ → Type 0
Took old None bytes = Unit {0}
Took None (Some now) bytes = ⊥
Took (Some old) (Some now) bytes = now ≡ old ++ bytes

-- A count rose. One that stands at its type's end stays there, and counts as risen.
abbrev pub Rose : ℕ → ℕ → Type 0
Rose before now = min (before + 1) (2 ^ 64 - 1) ≤ now

-- no count fell
pub record KeepsCounts (before after : Outside) : Type 0 where
  pub attach_count : before.attach_faults ≤ after.attach_faults
  pub read_count : before.read_faults ≤ after.read_faults
  pub write_count : before.write_faults ≤ after.write_faults

-- Of the reads told now the last was asked for so many bytes at most, with this outside before it. What was left, what was
-- taken and the other reads were told then.
pub record IsNoted (most : ℕ) (before : Outside) (now : List ReadNote) : Type 0 where
  pub left : List ℕ
  pub left_is : before.left ≡ Some left
  pub taken : List ℕ
  pub taken_is : before.taken ≡ Some taken
  pub reads : List ReadNote
  pub reads_are : before.reads ≡ Some reads
  pub noted : now ≡ reads ++ record { left = length left; taken = length taken; most = most } ∷ []

-- a read of so many bytes at most was asked, whatever came of it
abbrev pub NotesRead : ℕ → Outside → Outside → Type 0
NotesRead most before after = IfSome after.reads (IsNoted most before)

-- how many bytes a read of the feed asks for at most
abbrev pub MOST_READ : ℕ
MOST_READ = 65536

-- one read was asked, of a piece at most
pub record AsksPiece (before after : Outside) : Type 0 where
  pub most : ℕ
  pub few : most ≤ MOST_READ
  pub noted : NotesRead most before after

-- attaching reads and takes nothing
pub record Attaches (before after : Outside) : Type 0 where
  pub left_stays : after.left ≡ before.left
  pub taken_stays : after.taken ≡ before.taken
  pub reads_stay : after.reads ≡ before.reads
  pub counts : KeepsCounts before after

-- these bytes were read, and nothing was taken
pub record Reads (before after : Outside) (bytes : List ℕ) : Type 0 where
  pub gave : Gave before.left after.left bytes
  pub taken_stays : after.taken ≡ before.taken
  pub counts : KeepsCounts before after

-- these bytes were taken, and nothing was read
pub record Writes (before after : Outside) (bytes : List ℕ) : Type 0 where
  pub left_stays : after.left ≡ before.left
  pub took : Took before.taken after.taken bytes
  pub reads_stay : after.reads ≡ before.reads
  pub counts : KeepsCounts before after

-- in any number of calls, these bytes were read and those taken
pub record Passes (before after : Outside) (read written : List ℕ) : Type 0 where
  pub gave : Gave before.left after.left read
  pub took : Took before.taken after.taken written
  pub counts : KeepsCounts before after

-- nothing is left to read, where that is told
abbrev pub IsAtEnd : Outside → Type 0
IsAtEnd o = IfSome o.left (λ rest. rest ≡ [])
