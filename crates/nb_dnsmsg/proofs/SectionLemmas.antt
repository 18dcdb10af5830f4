-- What is found among the records of a section.
use Rattle.std.proofs.Common.{◌≡◌, ℕ, suc, ◌+◌, ◌<◌, ◌≤◌, List, [], ◌∷◌, ◌++◌, length, refl, sym, ◌∙◌, ap, subst, arith}
use Rattle.nb_dnsmsg.specs.Records.{RecordData, ResourceRecord, resource_record, IsRecordAt, AreRecordsAt}
use Rattle.nb_dnsmsg.proofs.RecordLemmas.{record_one}

-- so many records have been passed
pub record PassedRecords (message : List ℕ) (start place n : ℕ) : Type 0 where
  pub came : List ResourceRecord
  pub stand : AreRecordsAt message start came place
  pub count : length came ≡ n
  pub left : (rs : List ResourceRecord) (end : ℕ) → AreRecordsAt message start rs end → n ≤ length rs → (more : List ResourceRecord) × (length rs ≡ n + length more) × AreRecordsAt message place more end

records_more : (message : List ℕ) (start place next : ℕ) (rs : List ResourceRecord) (r : ResourceRecord) → AreRecordsAt message start rs place → IsRecordAt message place r next → AreRecordsAt message start (rs ++ r ∷ []) next
records_more message start place next [] r here h = (next, subst (λ x. IsRecordAt message x r next) here h, refl)
records_more message start place next (x ∷ rs) r (after, first, rest) h = (after, first, records_more message after place next rs r rest h)

count_more : (rs : List ResourceRecord) (r : ResourceRecord) → length (rs ++ r ∷ []) ≡ length rs + 1
count_more [] r = refl
count_more (x ∷ rs) r = let h = count_more rs r in omega (arith, h)

pub none_came : (message : List ℕ) (start : ℕ) → PassedRecords message start start 0
none_came message start = record { came = []; stand = refl; count = refl; left = λ rs end h few. (rs, omega arith, h) }

first_left : (message : List ℕ) (place next : ℕ) (r : ResourceRecord) (more : List ResourceRecord) (end : ℕ) → IsRecordAt message place r next → 0 < length more → AreRecordsAt message place more end
    → (rest : List ResourceRecord) × (more ≡ r ∷ rest) × AreRecordsAt message next rest end
first_left message place next r [] end h some at = absurd (omega (arith, some))
first_left message place next r (x ∷ rest) end h some (after, first, left) =
    let one = record_one message place x r after next first h in
    (rest, ap (λ y. y ∷ rest) one.0, subst (λ y. AreRecordsAt message y rest end) one.1 left)

pub one_came : (message : List ℕ) (start place n : ℕ) (owner : List ℕ) (d : RecordData) (next : ℕ) → PassedRecords message start place n → IsRecordAt message place (resource_record owner d) next → PassedRecords message start next (n + 1)
one_came message start place n owner d next p h =
    let r = resource_record owner d in
    record {
      came = p.came ++ r ∷ [];
      stand = records_more message start place next p.came r p.stand h;
      count = count_more p.came r ∙ ap (λ x. x + 1) p.count;
      left = λ rs end at few.
          let (more, size, rest) = p.left rs end at (omega (arith, few)) in
          let (others, is, behind) = first_left message place next r more end h (omega (arith, few, size)) rest in
          let s : length more ≡ suc (length others) = ap length is in
          (others, omega (arith, size, s), behind);
    }

pub none_left : (message : List ℕ) (start place n : ℕ) (rs : List ResourceRecord) (end : ℕ) → PassedRecords message start place n → ((r : ResourceRecord) (next : ℕ) → IsRecordAt message place r next → ⊥) → AreRecordsAt message start rs end → n < length rs → ⊥
none_left message start place n rs end p none at some =
    let (more, size, rest) = p.left rs end at (omega (arith, some)) in by more size rest
  where
    by : (more : List ResourceRecord) → length rs ≡ n + length more → AreRecordsAt message place more end → ⊥
    by [] size rest = omega (arith, size, some)
    by (r ∷ others) size (next, first, behind) = none r next first

-- the records of a section are one list
pub records_one : (message : List ℕ) (start : ℕ) (rs ps : List ResourceRecord) (end other : ℕ) → length rs ≡ length ps → AreRecordsAt message start rs end → AreRecordsAt message start ps other → (rs ≡ ps) × (end ≡ other)
records_one message start [] [] end other size g h = (refl, g ∙ sym h)
records_one message start [] (p ∷ ps) end other size g h = absurd (omega (arith, size))
records_one message start (r ∷ rs) [] end other size g h = absurd (omega (arith, size))
records_one message start (r ∷ rs) (p ∷ ps) end other size (next, first, rest) (next2, first2, rest2) =
    let one = record_one message start r p next next2 first first2 in
    let more = records_one message next rs ps end other (omega (arith, size)) rest (subst (λ x. AreRecordsAt message x ps other) (sym one.1) rest2) in
    (ap (λ x. x ∷ rs) one.0 ∙ ap (λ x. p ∷ x) more.0, more.1)
