-- The reads that a line over memory notes.
use Rattle.std.specs.Prelude.{◌≡◌, Bool, true, false, List, [], ◌∷◌, ◌++◌, Option, Some, None, IfSome}
use Rattle.nb_record.specs.declared.notes.ReadNote.{ReadNote}
use Rattle.nb_record.specs.declared.notes.ReadNotes.{ReadNotes}

-- these reads, where they are known
abbrev pub reads_if : Bool → List ReadNote → Option (List ReadNote)
reads_if true reads = Some reads
reads_if false reads = None

abbrev pub known_reads : ReadNotes → Option (List ReadNote)
known_reads notes = reads_if notes.are_known notes.reads.items

-- this read was noted after those known before: the last of the reads, where they are still known
pub record IsAdded (note : Option ReadNote) (old : ReadNotes) (now : List ReadNote) : Type 0 where
  pub read : ReadNote
  pub read_is : note ≡ Some read
  pub reads : List ReadNote
  pub were : known_reads old ≡ Some reads
  pub are : now ≡ reads ++ read ∷ []

abbrev pub AddsNote : Option ReadNote → ReadNotes → ReadNotes → Type 0
AddsNote note old new = IfSome (known_reads new) (IsAdded note old)
