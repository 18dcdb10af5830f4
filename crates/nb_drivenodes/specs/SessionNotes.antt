-- What the message that a session is open has: our own.
use Rattle.std.specs.Prelude.{ℕ, ◌==◌, List, ◌++◌, length, take, drop, Option, Some, None, if◌then◌else◌}
use Rattle.std.specs.Int.{w32, to_be_bytes, from_be_bytes}
use Rattle.nb_login.specs.declared.session.Session.{Session}
use Rattle.nb_drivenodes.specs.declared.session_note.SessionNote.{SessionNote}

-- the unit, the number of the next command, and the tag of the next task
abbrev pub note_bytes : SessionNote → List ℕ
note_bytes n = n.lun ++ to_be_bytes w32 n.cmd_sn ++ to_be_bytes w32 n.task

abbrev pub note_at : List ℕ → SessionNote
note_at bytes = record {
  lun = take 8 bytes;
  cmd_sn = from_be_bytes w32 (take 4 (drop 8 bytes));
  task = from_be_bytes w32 (drop 12 bytes);
}

-- what the bytes say, if they are sixteen
abbrev pub note_in : List ℕ → Option SessionNote
note_in bytes = if length bytes == 16 then Some (note_at bytes) else None

abbrev pub note_of : Session → SessionNote
note_of s = record { lun = s.info.lun; cmd_sn = s.cmd_sn; task = s.task }
