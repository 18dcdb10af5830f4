-- Labels are kept under their names.
use Rattle.std.proofs.Common.{◌≡◌, ℕ, ◌+◌, Bool, true, false, inl, inr, List, length, Option, Some, None, sym, ap, arith}
use Rattle.std.specs.List.{slice_get}
use Rattle.std.specs.Option.{option_or}
use Rattle.std.proofs.lemmas.Bool.{cases_lt}
use Rattle.nb_defs.specs.ScriptLines.{Line, label_place}
use Rattle.nb_script.specs.Labels.{NoneIsLabel, IsFirstBefore, place_if}
use Rattle.nb_script.specs.ShownLine.{is_label_at}
use Rattle.nb_script.proofs.ScriptLemmas.{label_first, label_none}

none_goes_on : (name : List ℕ) (code : List Line) (n : ℕ) → NoneIsLabel name code n → is_label_at name (slice_get code n) ≡ false → NoneIsLabel name code (n + 1)
none_goes_on name code n before here = λ k h. elim (cases_lt k n) [ inl less ↦ before k less | inr past ↦ let same : k ≡ n = omega (arith, h, past) in rw same here ]

-- the first place, after one more line
pub first_goes_on : (name : List ℕ) (code : List Line) (n : ℕ) (b : Bool) (o : Option ℕ) → is_label_at name (slice_get code n) ≡ b → IsFirstBefore name code n o
    → IsFirstBefore name code (n + 1) (option_or o (place_if b n))
first_goes_on name code n true None here before = (omega arith, here, before)
first_goes_on name code n false None here before = none_goes_on name code n before here
first_goes_on name code n b (Some place) here before = (omega (arith, before.0), before.1, before.2)

-- of all lines it is the label's place
pub first_is_place : (name : List ℕ) (code : List Line) (o : Option ℕ) → IsFirstBefore name code (length code) o → o ≡ label_place name code
first_is_place name code None before = sym (label_none name code before)
first_is_place name code (Some place) before = sym (label_first name code place before.2 before.1)

-- one more line was looked at
pub first_after_line : (name : List ℕ) (code : List Line) (n : ℕ) (line : Line) (o new : Option ℕ) → slice_get code n ≡ Some line → new ≡ option_or o (place_if (is_label_at name (Some line)) n) → IsFirstBefore name code n o
    → IsFirstBefore name code (n + 1) new
first_after_line name code n line o new at e before = rw e (first_goes_on name code n (is_label_at name (Some line)) o (ap (is_label_at name) at) before)
