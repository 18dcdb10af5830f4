-- The places of busy lines: which is the first from one on, and how they are gathered.
use Rattle.std.proofs.Common.{◌≡◌, ℕ, ◌+◌, ◌<◌, ◌≤◌, Bool, true, false, not, cond, inl, inr, get_or, List, [], ◌∷◌, ◌++◌, length, Some, None, refl, ◌∙◌, arith, nat_lt}
use Rattle.std.specs.Prelude.{All}
use Rattle.std.specs.List.{slice_get}
use Rattle.std.specs.List.Sorted.{IsNonDecreasing, IsPartitionPoint}
use Rattle.std.proofs.lemmas.Bool.{cases_lt}
use Rattle.std.proofs.lemmas.Bool.Decides.{nat_tests}
use Rattle.std.proofs.lemmas.List.Elements.{All-push, All-weaker, Contains-append_left, Contains-push}
use Rattle.std.proofs.lemmas.Option.{slice_get-get_or, get_or_from_slice_get}
use Rattle.nb_defs.specs.ScriptLines.{Line, is_idle_line}
use Rattle.nb_script.specs.Busy.{IsBusyPlace, HasBusyLines, IsFirstFrom}

is_below : (a b : ℕ) → nat_lt a b ≡ true → a < b
is_below a b h = grind (arith, nat_tests)

is_not_below : (a b : ℕ) → nat_lt a b ≡ false → b ≤ a
is_not_below a b h = grind (arith, nat_tests)

-- where all places stand before `from`
pub none_from : (places : List ℕ) (from before : ℕ) → IsPartitionPoint (λ p. nat_lt p from ≡ true) (λ p. nat_lt p from ≡ false) places before → before ≡ length places → IsFirstFrom from places None
none_from places from before point e = λ k d l. is_below (get_or places k d) from (point.0 k d (omega arith) (omega (arith, l, e)))

-- the first that doesn't
pub some_from : (places : List ℕ) (from before place : ℕ) → IsNonDecreasing places → IsPartitionPoint (λ p. nat_lt p from ≡ true) (λ p. nat_lt p from ≡ false) places before → before < length places → get_or places before place ≡ place → IsFirstFrom from places (Some place)
some_from places from before place sorted point l e =
    let here : from ≤ place = is_not_below place from (rw e at (point.1 before place (omega arith) l)) in
    let least : (k d : ℕ) → k < length places → from ≤ get_or places k d → place ≤ get_or places k d =
    λ k d m h. elim (cases_lt k before) [
      | inl less ↦ absurd (omega (arith, h, is_below (get_or places k d) from (point.0 k d (omega arith) less)))
      | inr past ↦
          let same : get_or places before d ≡ place = get_or_from_slice_get places before (get_or places before place) d (slice_get-get_or places before place l) ∙ e in
          rw same at (sorted before k d past m)
    ] in
    ((before, l, e), here, least)

one_further : (code : List Line) (count : ℕ) (places : List ℕ) → All (IsBusyPlace code count) places → All (IsBusyPlace code (count + 1)) places
one_further code count places each =
    All-weaker (IsBusyPlace code count) (IsBusyPlace code (count + 1)) (λ other busy. (omega (arith, busy.0), busy.1)) places each

more_by : (code : List Line) (count : ℕ) (line : Line) (places : List ℕ) (idle : Bool) → is_idle_line line ≡ idle → slice_get code count ≡ Some line → HasBusyLines code count places → HasBusyLines code (count + 1) (cond idle places (places ++ count ∷ []))
more_by code count line places true e at has = record {
  each = one_further code count places has.each;
  all = λ k l busy. elim (cases_lt k count) [
    | inl less ↦ has.all k less busy
    | inr past ↦
        let same : k ≡ count = omega (arith, l, past) in
        let here : not (is_idle_line line) ≡ true = rw (same, at) at busy in
        absurd (grind arith)
  ];
}
more_by code count line places false e at has = record {
  each = All-push (IsBusyPlace code (count + 1)) places count (one_further code count places has.each) (omega arith, rw (at, e) refl);
  all = λ k l busy. elim (cases_lt k count) [
    | inl less ↦ Contains-append_left places (count ∷ []) k (has.all k less busy)
    | inr past ↦ let same : k ≡ count = omega (arith, l, past) in rw same (Contains-push places count)
  ];
}

-- a line more was looked at
pub has_more : (code : List Line) (count : ℕ) (line : Line) (places more : List ℕ) → slice_get code count ≡ Some line → more ≡ cond (is_idle_line line) places (places ++ count ∷ []) → HasBusyLines code count places → HasBusyLines code (count + 1) more
has_more code count line places more at e has = rw e (more_by code count line places (is_idle_line line) refl at has)
