-- The bytes that ask for a drive. Our own.
use Rattle.std.specs.Prelude.{ℕ, ◌≤◌, List, ◌++◌, length}
use Rattle.std.specs.Int.{w16, w32, to_be_bytes}
use Rattle.std.specs.List.{AllByRecursion, flat_map}
use Rattle.nb_conns.specs.ConnAsks.{conn_ask_bytes}
use Rattle.nb_drivenodes.specs.declared.drive_ask.DriveAsk.{DriveAsk}
use Rattle.nb_drivenodes.specs.declared.drive_ask.DriveNames.{DriveNames}
use Rattle.nb_drivenodes.specs.DriveAsks.{name_list}

-- the length of each fits into two bytes
abbrev pub HasShortDriveNames : DriveNames → Type 0
HasShortDriveNames n = AllByRecursion (λ (text : List ℕ). length text ≤ 65535) (name_list n)

-- a text after its length
abbrev pub text_bytes : List ℕ → List ℕ
text_bytes text = to_be_bytes w16 (length text) ++ text

abbrev pub word_bytes : List ℕ → List ℕ
word_bytes words = flat_map (to_be_bytes w32) words

abbrev pub drive_ask_bytes : DriveAsk → List ℕ
drive_ask_bytes a = conn_ask_bytes a.conn ++ (a.lun ++ (word_bytes a.words ++ flat_map text_bytes (name_list a.names)))
