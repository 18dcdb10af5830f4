-- Records that are read by functions are those that the grammar says.
use Rattle.std.proofs.Common.{◌≡◌, ℕ, zero, suc, ◌+◌, ◌≤◌, ◌&&◌, List, [], ◌∷◌, length, leb, eqb, Option, Some, None, refl, ap, subst, arith}
use Rattle.std.specs.Option.{option_map, option_and_then}
use Rattle.std.proofs.lemmas.Bool.{leb-true, leb-false, eqb-true, eqb-false, eq-eqb, and_parts, and_from, both_ways}
use Rattle.nb_dnsmsg.specs.Names.{IsNameAt}
use Rattle.nb_dnsmsg.specs.Records.{RecordData, host_address, alias_name, other_data, ResourceRecord, IsDataAt, IsRecordAt, AreRecordsAt, number_at}
use Rattle.nb_dnsmsg.specs.Reading.{dns_name_read, alias_read, data_read, data_end, with_data, record_by, record_read, led_by_record, records_read}
use Rattle.nb_dnsmsg.proofs.RecordLemmas.{name_one, owned, record_one}
use Rattle.nb_dnsmsg.proofs.NameReadingLemmas.{either_way, ReadsName, name_is}

abbrev pub ReadsData : Option RecordData → List ℕ → ℕ → ℕ → ℕ → ℕ → Type 0
ReadsData None message kind class place size = (d : RecordData) → IsDataAt message kind class place size d → ⊥
ReadsData (Some d) message kind class place size = IsDataAt message kind class place size d

no_alias : (message : List ℕ) (kind class place size : ℕ) → kind ≡ 5 → class ≡ 1 → ((name : List ℕ) → IsNameAt message place name (place + size) → ⊥) → (d : RecordData) → IsDataAt message kind class place size d → ⊥
no_alias message kind class place size five one none (host_address n) (k, c, s, is) = absurd (omega (arith, k, five))
no_alias message kind class place size five one none (alias_name name) (k, c, at) = none name at
no_alias message kind class place size five one none other_data (not_host, not_alias) = not_alias five one

alias_is : (message : List ℕ) (kind class place size : ℕ) → kind ≡ 5 → class ≡ 1 → (o : Option (List ℕ × ℕ)) → ReadsName o message place → ReadsData (alias_read (place + size) o) message kind class place size
alias_is message kind class place size five one None none = no_alias message kind class place size five one (λ name at. none name (place + size) at)
alias_is message kind class place size five one (Some read) at = either_way (eqb read.1 (place + size))
    (λ on. rw on (five, one, subst (λ x. IsNameAt message place read.0 x) (eqb-true read.1 (place + size) on) at))
    (λ off. rw off (no_alias message kind class place size five one
    (λ name h. eqb-false read.1 (place + size) off (name_one message place read.0 name read.1 (place + size) at h).1)))

pub data_is : (message : List ℕ) (kind class place size : ℕ) → ReadsData (data_read message kind class place size) message kind class place size
unfolding data_read
data_is message kind class place size = either_way (eqb kind 1 && eqb class 1 && eqb size 4)
    (λ on.
    let (two, s) = and_parts _ _ on in
    let (k, c) = and_parts _ _ two in
    rw on (eqb-true kind 1 k, eqb-true class 1 c, eqb-true size 4 s, refl))
    (λ off. rw off (either_way (eqb kind 5 && eqb class 1)
    (λ on.
    let (k, c) = and_parts _ _ on in
    rw on (alias_is message kind class place size (eqb-true kind 5 k) (eqb-true class 1 c) (dns_name_read message place) (name_is message place)))
    (λ other. rw other (
      (λ k c s. both_ways _ off (and_from _ _ (and_from _ _ (eq-eqb kind 1 k) (eq-eqb class 1 c)) (eq-eqb size 4 s))),
      (λ k c. both_ways _ other (and_from _ _ (eq-eqb kind 5 k) (eq-eqb class 1 c))),
    ))))

abbrev pub ReadsRecord : Option (ResourceRecord × ℕ) → List ℕ → ℕ → Type 0
ReadsRecord None message place = (r : ResourceRecord) (end : ℕ) → IsRecordAt message place r end → ⊥
ReadsRecord (Some read) message place = IsRecordAt message place read.0 read.1

with_data_is : (message : List ℕ) (place : ℕ) (owner : List ℕ) (fields : ℕ) → IsNameAt message place owner fields → data_end message fields ≤ length message → (o : Option RecordData)
    → ReadsData o message (number_at fields message) (number_at (fields + 2) message) (fields + 10) (number_at (fields + 8) message) → ReadsRecord (option_map (with_data owner (data_end message fields)) o) message place
with_data_is message place owner fields named within None none = λ r end h. none r.rdata (owned message place owner fields r end named h).rdata
with_data_is message place owner fields named within (Some d) is = record { fields = fields; owner = named; within = within; ends = refl; rdata = is }

owner_is : (message : List ℕ) (place : ℕ) (o : Option (List ℕ × ℕ)) → ReadsName o message place → ReadsRecord (option_and_then (record_by message) o) message place
owner_is message place None none = λ r end h. none r.owner h.fields h.owner
owner_is message place (Some name) named = either_way (leb (data_end message name.1) (length message))
    (λ on. rw on (with_data_is message place name.0 name.1 named (leb-true (data_end message name.1) (length message) on)
    (data_read message (number_at name.1 message) (number_at (name.1 + 2) message) (name.1 + 10) (number_at (name.1 + 8) message))
    (data_is message (number_at name.1 message) (number_at (name.1 + 2) message) (name.1 + 10) (number_at (name.1 + 8) message))))
    (λ off. rw off (λ r end h.
    let o = owned message place name.0 name.1 r end named h in
    let within = o.within in let ends = o.ends in let long = leb-false (data_end message name.1) (length message) off in
    omega (arith, within, ends, long)))

pub record_is : (message : List ℕ) (place : ℕ) → ReadsRecord (record_read message place) message place
unfolding record_read
record_is message place = owner_is message place (dns_name_read message place) (name_is message place)

abbrev pub ReadsRecords : Option (List ResourceRecord × ℕ) → ℕ → List ℕ → ℕ → Type 0
ReadsRecords None n message place = (rs : List ResourceRecord) (end : ℕ) → length rs ≡ n → AreRecordsAt message place rs end → ⊥
ReadsRecords (Some read) n message place = (length read.0 ≡ n) × AreRecordsAt message place read.0 read.1

rest_records : (n : ℕ) (message : List ℕ) (place : ℕ) (r : ResourceRecord) (next : ℕ) → IsRecordAt message place r next → (o : Option (List ResourceRecord × ℕ)) → ReadsRecords o n message next
    → ReadsRecords (option_map (led_by_record r) o) (suc n) message place
rest_records n message place r next first (Some read) (size, at) = (ap suc size, (next, first, at))
rest_records n message place r next first None none = by
  where
    by : (rs : List ResourceRecord) (end : ℕ) → length rs ≡ suc n → AreRecordsAt message place rs end → ⊥
    by [] end size at = absurd (omega (arith, size))
    by (x ∷ xs) end size (after, is, rest) =
        let one = record_one message place x r after next is first in
        none xs end (omega (arith, size)) (subst (λ q. AreRecordsAt message q xs end) one.1 rest)

first_record : (n : ℕ) (message : List ℕ) (place : ℕ) → ((q : ℕ) → ReadsRecords (records_read n message q) n message q) → (o : Option (ResourceRecord × ℕ)) → ReadsRecord o message place
    → ReadsRecords (option_and_then (λ r. option_map (led_by_record r.0) (records_read n message r.1)) o) (suc n) message place
first_record n message place follows (Some r) first = rest_records n message place r.0 r.1 first (records_read n message r.1) (follows r.1)
first_record n message place follows None none = by
  where
    by : (rs : List ResourceRecord) (end : ℕ) → length rs ≡ suc n → AreRecordsAt message place rs end → ⊥
    by [] end size at = absurd (omega (arith, size))
    by (x ∷ xs) end size (after, is, rest) = none x after is

pub records_are : (n : ℕ) (message : List ℕ) (place : ℕ) → ReadsRecords (records_read n message place) n message place
unfolding records_read
records_are zero message place = (refl, refl)
records_are (suc n) message place = first_record n message place (λ q. records_are n message q) (record_read message place) (record_is message place)
