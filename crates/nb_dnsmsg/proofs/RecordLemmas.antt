-- A record is one record, by its bytes.
use Rattle.std.proofs.Common.{◌≡◌, ℕ, ◌+◌, ◌<◌, ◌≤◌, List, length, refl, sym, ◌∙◌, ap, subst, arith}
use Rattle.nb_dnsmsg.specs.Names.{IsNameAt}
use Rattle.nb_dnsmsg.specs.Records.{RecordData, host_address, alias_name, other_data, ResourceRecord, resource_record, IsDataAt, IsRecordAt, number_at}
use Rattle.nb_dnsmsg.proofs.RestLemmas.{rest_one}

-- at a place stands one name
pub name_one : (message : List ℕ) (place : ℕ) (a b : List ℕ) (end other : ℕ) → IsNameAt message place a end → IsNameAt message place b other → (a ≡ b) × (end ≡ other)
name_one message place a b end other g h = rest_one message place place a b end other g.spelled h.spelled

pub data_one : (message : List ℕ) (kind class place size : ℕ) (a b : RecordData) → IsDataAt message kind class place size a → IsDataAt message kind class place size b → a ≡ b
data_one message kind class place size (host_address n) (host_address m) (k, c, s, is) (k2, c2, s2, is2) = ap (λ x. host_address x) (is ∙ sym is2)
data_one message kind class place size (host_address n) (alias_name name) (k, c, s, is) (k2, c2, is2) = absurd (omega (arith, k, k2))
data_one message kind class place size (host_address n) other_data (k, c, s, is) (not_host, none) = absurd (not_host k c s)
data_one message kind class place size (alias_name name) (host_address n) (k, c, is) (k2, c2, s2, is2) = absurd (omega (arith, k, k2))
data_one message kind class place size (alias_name a) (alias_name b) (k, c, is) (k2, c2, is2) = ap (λ x. alias_name x) (name_one message place a b (place + size) (place + size) is is2).0
data_one message kind class place size (alias_name a) other_data (k, c, is) (not_host, none) = absurd (none k c)
data_one message kind class place size other_data (host_address n) (not_host, none) (k, c, s, is) = absurd (not_host k c s)
data_one message kind class place size other_data (alias_name name) (not_host, none) (k, c, is) = absurd (none k c)
data_one message kind class place size other_data other_data p q = refl

abbrev IsDataOf : List ℕ → ℕ → RecordData → Type 0
IsDataOf message fields d = IsDataAt message (number_at fields message) (number_at (fields + 2) message) (fields + 10) (number_at (fields + 8) message) d

-- the record whose owner's name was read
pub record Owned (message : List ℕ) (owner : List ℕ) (fields : ℕ) (r : ResourceRecord) (end : ℕ) : Type 0 where
  pub owner_is : r.owner ≡ owner
  pub within : end ≤ length message
  pub ends : end ≡ fields + 10 + number_at (fields + 8) message
  pub rdata : IsDataOf message fields r.rdata

pub owned : (message : List ℕ) (place : ℕ) (owner : List ℕ) (fields : ℕ) (r : ResourceRecord) (end : ℕ) → IsNameAt message place owner fields → IsRecordAt message place r end → Owned message owner fields r end
owned message place owner fields r end name h =
    let one = name_one message place r.owner owner h.fields fields h.owner name in
    record {
      owner_is = one.0;
      within = h.within;
      ends = h.ends ∙ ap (λ x. x + 10 + number_at (x + 8) message) one.1;
      rdata = subst (λ x. IsDataOf message x r.rdata) one.1 h.rdata;
    }

pub record_short : (message : List ℕ) (place : ℕ) (owner : List ℕ) (fields : ℕ) (r : ResourceRecord) (end : ℕ) → IsNameAt message place owner fields → length message < fields + 10 → IsRecordAt message place r end → ⊥
record_short message place owner fields r end name short h =
    let o = owned message place owner fields r end name h in
    let within = o.within in let ends = o.ends in omega (arith, within, ends, short)

pub record_cut : (message : List ℕ) (place : ℕ) (owner : List ℕ) (fields size : ℕ) (r : ResourceRecord) (end : ℕ) → IsNameAt message place owner fields → size ≡ number_at (fields + 8) message → length message < fields + 10 + size → IsRecordAt message place r end → ⊥
record_cut message place owner fields size r end name is short h =
    let o = owned message place owner fields r end name h in
    let within = o.within in let ends = o.ends in omega (arith, within, ends, is, short)

pub record_one : (message : List ℕ) (place : ℕ) (a b : ResourceRecord) (end other : ℕ) → IsRecordAt message place a end → IsRecordAt message place b other → (a ≡ b) × (end ≡ other)
record_one message place a b end other g h =
    let o = owned message place b.owner h.fields a end h.owner g in
    let same : a.rdata ≡ b.rdata = data_one message _ _ _ _ a.rdata b.rdata o.rdata h.rdata in (
      ap (λ x. resource_record x a.rdata) o.owner_is ∙ ap (λ x. resource_record b.owner x) same,
      o.ends ∙ sym h.ends,
    )

pub record_without_data : (message : List ℕ) (place : ℕ) (owner : List ℕ) (fields size : ℕ) (r : ResourceRecord) (end : ℕ) → IsNameAt message place owner fields
    → {kind class : ℕ} → kind ≡ number_at fields message → class ≡ number_at (fields + 2) message → size ≡ number_at (fields + 8) message
    → ((d : RecordData) → IsDataAt message kind class (fields + 10) size d → ⊥) → IsRecordAt message place r end → ⊥
record_without_data message place owner fields size r end name {kind = kind} {class = class} k c s none h =
    let o = owned message place owner fields r end name h in
    none r.rdata
    (subst (λ x. IsDataAt message x class (fields + 10) size r.rdata) (sym k)
    (subst (λ x. IsDataAt message (number_at fields message) x (fields + 10) size r.rdata) (sym c)
    (subst (λ x. IsDataAt message (number_at fields message) (number_at (fields + 2) message) (fields + 10) x r.rdata) (sym s) o.rdata)))
