-- When a drive of blocks takes a read, by its capacity and by whether it waits for an answer: our own
use Rattle.std.specs.Prelude.{◌≡◌, ℕ, Bool, true, false, List, Option, Result, Ok, Err}
use Rattle.nb_disk.specs.declared.blocks.ReadRefusal.{ReadRefusal}
use Rattle.nb_disk.specs.declared.blocks.ReadRefusal.TheVariants.{OutOfDisk, Busy, NoMemory}
use Rattle.nb_disk.specs.DiskStands.{is_out_of}

-- a read is put only where it is within the drive and none is out; each refusal has its cause
abbrev pub TakesRead : Option ℕ → Bool → ℕ → ℕ → Result (List ℕ) ReadRefusal → Type 0
TakesRead size waits lba n (Ok text) = (is_out_of size lba n ≡ false) × (waits ≡ false)
TakesRead size waits lba n (Err OutOfDisk) = is_out_of size lba n ≡ true
TakesRead size waits lba n (Err Busy) = (is_out_of size lba n ≡ false) × (waits ≡ true)
TakesRead size waits lba n (Err NoMemory) = (is_out_of size lba n ≡ false) × (waits ≡ false)

-- a drive of this capacity that waits for an answer, and hasn't ended
pub record WaitsForRead (size : Option ℕ) (new_size : Option ℕ) (waits over : Bool) : Type 0 where
  pub same : new_size ≡ size
  pub out : waits ≡ true
  pub lives : over ≡ false
