-- RFC 1035, section 4.1.3: an address that stands in a message, without the order of its records
use Rattle.std.specs.Prelude.{◌≡◌, ◌≤◌, ◌+◌, ℕ, List, length, take, drop}
use Rattle.std.specs.Int.{from_be_bytes, w32}
use Rattle.nb_wire.specs.declared.address.Ip4.{Ip4}
use Rattle.nb_dnsmsg.specs.Names.{IsNameAt}
use Rattle.nb_dnsmsg.specs.Records.{number_at}

-- somewhere in the message stand a name, and after it type A, class IN, the length 4 and the address
pub record StandsWithAddress (bytes : List ℕ) (address : Ip4) : Type 0 where
  pub place : ℕ
  pub owner : List ℕ
  pub fields : ℕ
  pub named : IsNameAt bytes place owner fields
  pub kind : number_at fields bytes ≡ 1
  pub class : number_at (fields + 2) bytes ≡ 1
  pub size : number_at (fields + 8) bytes ≡ 4
  pub within : fields + 14 ≤ length bytes
  pub data_is : address.0 ≡ from_be_bytes w32 (take 4 (drop (fields + 10) bytes))
