-- Where a record breaks: at the first byte with which none can begin.
use Rattle.std.proofs.Common.{◌≡◌, ℕ, ◌+◌, ◌<◌, ◌≤◌, false, Option, Some, None, List, [], ◌∷◌, ◌++◌, length, get_or, take, refl, sym, subst, arith, inl, inr}
use Rattle.std.specs.Option.{is_some}
use Rattle.std.proofs.lemmas.Bool.{cases_lt}
use Rattle.std.proofs.lemmas.List.{take_more}
use Rattle.nb_record.specs.Reading.{least_length, CanBegin, BeginsAs, whole_len}
use Rattle.nb_record.specs.Held.{BreaksAt, part_of}
use Rattle.nb_record.proofs.BeginLemmas.{broken}
use Rattle.nb_record.proofs.KnownLemmas.{IsBytes, IsBytes-take, length_known, begins_behind}
use Rattle.nb_record.proofs.PartialLemmas.{is_partial}

-- what isn't there
pub none-is : {X : Type 0} → (o : Option X) → is_some o ≡ false → o ≡ None
none-is None e = refl
none-is (Some x) e = absurd cc

-- the bytes up to a break aren't whole: after a whole record nothing breaks
not_whole : (bytes : List ℕ) (place : ℕ) → place < length bytes → (p : CanBegin (take place bytes)) → (CanBegin (take (place + 1) bytes) → ⊥)
    → 4 ≤ length (take place bytes) → length (take place bytes) < whole_len (take place bytes)
not_whole bytes place within p never four =
    elim (cases_lt (length (take place bytes)) (whole_len (take place bytes))) [
      | inl lt ↦ lt
      | inr le ↦
          let long : 4 + least_length p.which ≤ length (take place bytes) = omega (arith, le, length_known (take place bytes) four, p.begins.greatest) in
          let more : BeginsAs p.which (take place bytes ++ (get_or bytes place 0 ∷ [])) = begins_behind p.which (take place bytes) (get_or bytes place 0 ∷ []) long p.begins in
          absurd (never (record { which = p.which; begins = subst (λ (x : List ℕ). BeginsAs p.which x) (sym (take_more bytes place 0 within)) more }))
    ]

-- the first byte with which no record can begin
pub breaks : (bytes : List ℕ) (place : ℕ) → IsBytes bytes → place < length bytes → CanBegin (take place bytes) → (CanBegin (take (place + 1) bytes) → ⊥)
    → BreaksAt bytes (part_of place)
breaks bytes place fits within p never = record {
  place = place;
  within = within;
  before = is_partial p.which (take place bytes) p.begins (IsBytes-take place bytes fits) (not_whole bytes place within p never);
  with_it = broken (take (place + 1) bytes) never;
  part = refl;
}
