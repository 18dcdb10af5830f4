-- A place in a log.
use Rattle.std.specs.Prelude.{◌≡◌, ◌≤◌, ℕ, List, length, take}
use Rattle.nb_record.specs.Logged.{Logged}
use Rattle.nb_record.specs.declared.log.LogPlace.{LogPlace}

-- the place at which a log is
abbrev pub place_in_log : Logged → LogPlace
place_in_log l = record { len = length l.bytes; is_short = l.is_short }

-- the bytes before each place stay
abbrev pub KeepsFront : List ℕ → List ℕ → Type 0
KeepsFront old new = (at : ℕ) → at ≤ length old → take at new ≡ take at old
