-- RFC 1350, section 2, and RFC 2348: a file in blocks of the size agreed, the last one shorter
use Rattle.std.specs.Prelude.{◌≡◌, ◌≤◌, ℕ, ◌+◌, ◌-◌, ◌*◌, ◌/◌, Bool, true, List, length, take, drop, Some}
use Rattle.std.specs.List.{AllByRecursion}
use Rattle.nb_tftp.specs.Received.{Received, block_bytes, port_with, size_with}
use Rattle.nb_tftp.specs.Blocks.{is_block_from}

-- the blocks of a file: one for each full size, and a shorter one, empty where the length is a multiple of it
abbrev pub cuts : ℕ → List ℕ → ℕ
cuts size bytes = length bytes / size + 1

-- the bytes of block n, from 1
abbrev pub file_block : ℕ → List ℕ → ℕ → List ℕ
file_block size bytes n = take size (drop (size * (n - 1)) bytes)

-- the datagram carries block n of the file, and the file has that many
pub record IsCut (size : ℕ) (bytes : List ℕ) (n : ℕ) (m : Received) : Type 0 where
  pub within : n ≤ cuts size bytes
  pub carried : block_bytes m ≡ file_block size bytes n

-- if it is a DATA from this port with a number from 1 on, it carries that block
abbrev pub CarriesCut : ℕ → List ℕ → ℕ → Received → Type 0
CarriesCut size bytes port m = (n : ℕ) → 1 ≤ n → is_block_from port n m ≡ true → IsCut size bytes n m

-- the server is honest: each DATA from the port that is agreed carries its block of this file, in the size agreed
abbrev pub CarriesFileWith : Bool → List ℕ → List Received → Type 0
CarriesFileWith options bytes got =
    (port : ℕ) → port_with options got ≡ Some port → AllByRecursion (CarriesCut (size_with options got) bytes port) got

-- the same where options were asked for
abbrev pub CarriesFile : List ℕ → List Received → Type 0
CarriesFile bytes got = CarriesFileWith true bytes got
