-- What a feed holds.
use Rattle.std.specs.Prelude.{◌≡◌, ℕ, List, ◌++◌, length}
use Rattle.nb_record.specs.Outside.{Outside, Reads}

-- the bytes held, and how many bytes of whole records were passed before them
pub record Held : Type 0 where
  pub bytes : List ℕ
  pub passed : ℕ

-- so many bytes were read, and are held after the others
pub record TakesIn (count : ℕ) (old new : Held) (before now : Outside) : Type 0 where
  pub bytes : List ℕ
  pub counted : length bytes ≡ count
  pub held : new ≡ record { bytes = old.bytes ++ bytes; passed = old.passed }
  pub reads : Reads before now bytes
