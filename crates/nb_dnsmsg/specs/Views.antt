-- What the steps of a reader of records come to
use Rattle.std.specs.Prelude.{◌≡◌, ◌≤◌, ◌^◌, ◌+◌, ℕ, Bool, true, false, List, ◌++◌, length, take, Option, Some, None}
use Rattle.std.specs.Option.{option_map}
use Rattle.nb_wire.specs.declared.address.Ip4.{Ip4}
use Rattle.nb_dnsmsg.specs.declared.record.Rdata.{Rdata}
use Rattle.nb_dnsmsg.specs.declared.record.Rdata.TheVariants.{Address, Alias, Other}
use Rattle.nb_dnsmsg.specs.declared.record.Record.{Record}
use Rattle.nb_dnsmsg.specs.declared.section.Section.{Section}
use Rattle.nb_dnsmsg.specs.declared.section.Want.{Want}
use Rattle.nb_dnsmsg.specs.declared.section.Want.TheVariants as want
use Rattle.nb_dnsmsg.specs.Names.{IsNameAt}
use Rattle.nb_dnsmsg.specs.Records.{RecordData, host_address, alias_name, other_data, ResourceRecord, resource_record, IsDataAt, IsRecordAt, AreRecordsAt, number_at}
use Rattle.nb_dnsmsg.specs.Messages.{is_same_name, first_read, answer_address, alias_in, ip4, query_fields, address_fields}

-- what the program keeps of what a record says
abbrev pub IsRecordKept : List ℕ → Rdata → RecordData → Type 0
IsRecordKept message (Address a) (host_address address) = a.0 ≡ address
IsRecordKept message (Alias place) (alias_name name) = (end : ℕ) × IsNameAt message place name end
IsRecordKept message Other other_data = Unit {0}
IsRecordKept message (Address a) (alias_name name) = ⊥
IsRecordKept message (Address a) other_data = ⊥
IsRecordKept message (Alias place) (host_address address) = ⊥
IsRecordKept message (Alias place) other_data = ⊥
IsRecordKept message Other (host_address address) = ⊥
IsRecordKept message Other (alias_name name) = ⊥

abbrev pub IsAliasRead : Option Rdata → List ℕ → ℕ → ℕ → Type 0
IsAliasRead None message start end = (name : List ℕ) → IsNameAt message start name end → ⊥
IsAliasRead (Some rdata) message start end = (name : List ℕ) × IsNameAt message start name end × IsRecordKept message rdata (alias_name name)

abbrev pub IsDataRead : Option Rdata → List ℕ → ℕ → ℕ → ℕ → ℕ → Type 0
IsDataRead None message kind class start size = (d : RecordData) → IsDataAt message kind class start size d → ⊥
IsDataRead (Some rdata) message kind class start size = (d : RecordData) × IsDataAt message kind class start size d × IsRecordKept message rdata d

abbrev pub IsRecordRead : Option Record → List ℕ → ℕ → List ℕ → Type 0
IsRecordRead None message place owner = (r : ResourceRecord) (end : ℕ) → IsRecordAt message place r end → ⊥
IsRecordRead (Some read) message place owner =
    (d : RecordData) × IsRecordAt message place (resource_record owner d) read.end × IsRecordKept message read.rdata d

-- these records stand in a section, up to this place
pub record AreInSection (message : List ℕ) (s : Section) (rs : List ResourceRecord) (end : ℕ) : Type 0 where
  pub stand : AreRecordsAt message s.start rs end
  pub count : length rs ≡ s.count

abbrev pub IsSectionRead : Option ℕ → List ℕ → Section → Type 0
IsSectionRead None message s = (rs : List ResourceRecord) (end : ℕ) → AreInSection message s rs end → ⊥
IsSectionRead (Some end) message s = (rs : List ResourceRecord) × AreInSection message s rs end

abbrev pub IsSectionAt : List ℕ → Section → List ResourceRecord → Type 0
IsSectionAt message s rs = (end : ℕ) × AreInSection message s rs end

abbrev pub wants : Want → Rdata → Bool
wants want.Address (Address a) = true
wants want.Alias (Alias place) = true
wants want.Address (Alias place) = false
wants want.Address Other = false
wants want.Alias (Address a) = false
wants want.Alias Other = false

-- the first of an owner that is wanted
abbrev pub first_wanted : Want → List ℕ → List ResourceRecord → Option RecordData
first_wanted want.Address name rs = option_map host_address (first_read answer_address name rs)
first_wanted want.Alias name rs = option_map alias_name (first_read alias_in name rs)

abbrev pub IsFirstFound : Option Rdata → Want → List ℕ → List ℕ → List ResourceRecord → Type 0
IsFirstFound None want message name rs = first_wanted want name rs ≡ None
IsFirstFound (Some rdata) want message name rs = (d : RecordData) × (first_wanted want name rs ≡ Some d) × IsRecordKept message rdata d

-- one alias is followed, where there is one
abbrev pub IsStepped : Bool → List ℕ → List ℕ → List ResourceRecord → Type 0
IsStepped true name next rs = first_read alias_in name rs ≡ Some next
IsStepped false name next rs = (first_read alias_in name rs ≡ None) × (next ≡ name)

abbrev pub AddressIs : Option Ip4 → List ℕ → List ResourceRecord → Type 0
AddressIs address name rs = address ≡ option_map ip4 (first_read answer_address name rs)

abbrev pub kept_address : Option Rdata → Option Ip4
kept_address None = None
kept_address (Some (Address a)) = Some a
kept_address (Some (Alias place)) = None
kept_address (Some Other) = None

abbrev pub kept_alias : Option Rdata → Option ℕ
kept_alias None = None
kept_alias (Some (Address a)) = None
kept_alias (Some (Alias place)) = Some place
kept_alias (Some Other) = None

abbrev pub section : ℕ → ℕ → Section
section start count = record { start = start; count = count }

-- the header of a response to a query of this number, with one question
pub record IsResponse (bytes : List ℕ) (id : ℕ) : Type 0 where
  pub header : 12 ≤ length bytes
  pub same_id : id ≡ number_at 0 bytes
  pub response : 2 ^ 15 ≤ number_at 2 bytes
  pub one : number_at 4 bytes ≡ 1

-- the question that ends so is the one that was asked
pub record IsOurQuestion (bytes : List ℕ) (place : ℕ) (asked name : List ℕ) : Type 0 where
  pub within : place + 4 ≤ length bytes
  pub kind : number_at place bytes ≡ 1
  pub class : number_at (place + 2) bytes ≡ 1
  pub same : is_same_name asked name ≡ true

-- the records of all sections, of which the first is this one
pub record HasSections (bytes : List ℕ) (s : Section) (answers : List ResourceRecord) : Type 0 where
  pub answered : ℕ
  pub first : AreInSection bytes s answers answered
  pub authority : List ResourceRecord
  pub authorized : ℕ
  pub second : AreInSection bytes (section answered (number_at 8 bytes)) authority authorized
  pub additional : List ResourceRecord
  pub end : ℕ
  pub third : AreInSection bytes (section authorized (number_at 10 bytes)) additional end

-- these bytes stand where a query has its name
pub record IsAroundName (bytes name : List ℕ) : Type 0 where
  pub number : length (take 2 bytes) ≡ 2
  pub text : bytes ≡ take 2 bytes ++ (query_fields ++ (name ++ address_fields))

-- the bytes are no query, whatever its number and its name
abbrev pub IsNoQuery : List ℕ → Type 0
IsNoQuery bytes = (number name : List ℕ) → length number ≡ 2 → bytes ≡ number ++ (query_fields ++ (name ++ address_fields)) → ⊥
