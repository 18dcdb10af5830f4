-- RFC 1035, sections 3.2, 3.3 and 4.1.3: which bytes of a message are which resource records
use Rattle.std.specs.Prelude.{◌≡◌, ◌≤◌, ◌+◌, ℕ, List, [], ◌∷◌, length, take, drop}
use Rattle.std.specs.Int.{from_be_bytes, w16, w32}
use Rattle.nb_dnsmsg.specs.Names.{IsNameAt}

-- the number of two bytes at a place
abbrev pub number_at : ℕ → List ℕ → ℕ
number_at place message = from_be_bytes w16 (take 2 (drop place message))

-- what a record says: the address of its owner, the name for which its owner is an alias, or else what isn't read
pub data RecordData : Type 0 where
  host_address : (address : ℕ) → RecordData
  alias_name : (name : List ℕ) → RecordData
  other_data : RecordData

pub record ResourceRecord : Type 0 where
  pub owner : List ℕ
  pub rdata : RecordData

abbrev pub resource_record : List ℕ → RecordData → ResourceRecord
resource_record owner rdata = record { owner = owner; rdata = rdata }

-- The data of a type and a class, so many bytes from a place on. Type 1 is A, of four bytes, and type 5 is
-- CNAME, whose name fills the data; class 1 is IN. All other_data data aren't read.
abbrev pub IsDataAt : List ℕ → ℕ → ℕ → ℕ → ℕ → RecordData → Type 0
IsDataAt message kind class place size (host_address address) =
    (kind ≡ 1) × (class ≡ 1) × (size ≡ 4) × (address ≡ from_be_bytes w32 (take 4 (drop place message)))
IsDataAt message kind class place size (alias_name name) = (kind ≡ 5) × (class ≡ 1) × IsNameAt message place name (place + size)
IsDataAt message kind class place size other_data = (kind ≡ 1 → class ≡ 1 → size ≡ 4 → ⊥) × (kind ≡ 5 → class ≡ 1 → ⊥)

-- A record stands at this place, up to that one: its owner's name, type, class, four bytes of time to live,
-- the length of its data, and the data.
pub record IsRecordAt (message : List ℕ) (place : ℕ) (r : ResourceRecord) (end : ℕ) : Type 0 where
  pub fields : ℕ
  pub owner : IsNameAt message place r.owner fields
  pub within : end ≤ length message
  pub ends : end ≡ fields + 10 + number_at (fields + 8) message
  pub rdata : IsDataAt message (number_at fields message) (number_at (fields + 2) message) (fields + 10) (number_at (fields + 8) message) r.rdata

-- records stand one after another from this place on, up to that one
abbrev pub AreRecordsAt : List ℕ → ℕ → List ResourceRecord → ℕ → Type 0
AreRecordsAt message place [] end = end ≡ place
AreRecordsAt message place (r ∷ rs) end = (next : ℕ) × IsRecordAt message place r next × AreRecordsAt message next rs end
