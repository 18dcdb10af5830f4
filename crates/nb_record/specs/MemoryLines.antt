-- What the lines over memory tell.
use Rattle.std.specs.Prelude.{◌≡◌, ℕ, ◌+◌, ◌-◌, ◌^◌, min, Some, drop, slice_index, vec_len}
use Rattle.nb_record.specs.Outside.{Outside}
use Rattle.nb_record.specs.Memory.{told}
use Rattle.nb_record.specs.Notes.{known_reads}
use Rattle.nb_record.specs.declared.notes.ReadNote.{ReadNote}
use Rattle.nb_record.specs.declared.mem_line.MemLine.{MemLine}
use Rattle.nb_record.specs.declared.sure_line.SureLine.{SureLine}

-- the input after what was read, the output, the reads as long as each was noted, and the faults
abbrev pub mem_outside : MemLine → Outside
mem_outside m = record {
  left = Some (drop m.at m.input.items);
  taken = Some m.output.items;
  reads = known_reads m.notes;
  attach_faults = slice_index m.faults 0;
  read_faults = slice_index m.faults 1;
  write_faults = slice_index m.faults 2;
}

-- the same, the output only as long as it has all that was taken, and no fault ever
abbrev pub sure_outside : SureLine → Outside
sure_outside s = record {
  left = Some (drop s.at s.input.items);
  taken = told s.has_all s.output.items;
  reads = known_reads s.notes;
  attach_faults = 0;
  read_faults = 0;
  write_faults = 0;
}

-- a read of so many bytes at most, as the line stands
abbrev pub sure_note : SureLine → ℕ → ReadNote
sure_note s most = record { left = vec_len s.input - s.at; taken = vec_len s.output; most = most }

-- one call more was made of a line, and what it was made with stays
pub record IsCalled (old new : MemLine) : Type 0 where
  pub input_stays : new.input.items ≡ old.input.items
  pub cuts_stay : new.cuts.items ≡ old.cuts.items
  pub fail_stays : new.fail.items ≡ old.fail.items
  pub room_stays : new.room ≡ old.room
  pub counted : new.calls ≡ min (old.calls + 1) (2 ^ 64 - 1)

-- what a line was made with stays
pub record IsSame (old new : SureLine) : Type 0 where
  pub input_stays : new.input.items ≡ old.input.items
  pub cuts_stay : new.cuts.items ≡ old.cuts.items
  pub room_stays : new.room ≡ old.room
