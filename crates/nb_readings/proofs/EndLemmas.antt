-- How a verdict ends what asked for it.
use Rattle.std.proofs.Common.{◌≡◌, ℕ, true, false, Option, Some, None, refl, ap, sym, arith}
use Rattle.std.proofs.lemmas.Bool.{false≢true}
use Rattle.nb_terms.specs.declared.cause.Cause.{Cause}
use Rattle.nb_responses.specs.Chunks.{Verdict, more, open_body, body, moved, status, broken, large, long, many}
use Rattle.nb_readings.specs.Ends.{cause, verdict_end, is_decided, is_whole}

pub undecided_ends_nothing : (rec : ℕ) (v : Verdict) → is_decided v ≡ false → verdict_end rec v ≡ None
undecided_ends_nothing rec more e = refl
undecided_ends_nothing rec open_body e = refl
undecided_ends_nothing rec body e = absurd (false≢true (sym e))
undecided_ends_nothing rec (moved text) e = absurd (false≢true (sym e))
undecided_ends_nothing rec (status code) e = absurd (false≢true (sym e))
undecided_ends_nothing rec broken e = absurd (false≢true (sym e))
undecided_ends_nothing rec large e = absurd (false≢true (sym e))
undecided_ends_nothing rec long e = absurd (false≢true (sym e))
undecided_ends_nothing rec many e = absurd (false≢true (sym e))

pub whole_ends_well : (rec : ℕ) (v : Verdict) → is_whole v ≡ true → verdict_end rec v ≡ Some (cause 0 0 0)
whole_ends_well rec more e = absurd (false≢true e)
whole_ends_well rec open_body e = absurd (false≢true e)
whole_ends_well rec body e = refl
whole_ends_well rec (moved text) e = refl
whole_ends_well rec (status code) e = absurd (false≢true e)
whole_ends_well rec broken e = absurd (false≢true e)
whole_ends_well rec large e = absurd (false≢true e)
whole_ends_well rec long e = absurd (false≢true e)
whole_ends_well rec many e = absurd (false≢true e)

code_in : Option Cause → ℕ
code_in None = 1
code_in (Some c) = c.code

pub well_ended_is_whole : (rec : ℕ) (v : Verdict) (a b : ℕ) → verdict_end rec v ≡ Some (cause 0 a b) → is_whole v ≡ true
unfolding code_in
well_ended_is_whole rec more a b e = cc
well_ended_is_whole rec open_body a b e = cc
well_ended_is_whole rec body a b e = refl
well_ended_is_whole rec (moved text) a b e = refl
well_ended_is_whole rec (status code) a b e = let no : 1 ≡ 0 = ap code_in e in absurd (omega (arith, no))
well_ended_is_whole rec broken a b e = let no : 3 ≡ 0 = ap code_in e in absurd (omega (arith, no))
well_ended_is_whole rec large a b e = let no : 6 ≡ 0 = ap code_in e in absurd (omega (arith, no))
well_ended_is_whole rec long a b e = let no : 5 ≡ 0 = ap code_in e in absurd (omega (arith, no))
well_ended_is_whole rec many a b e = let no : 7 ≡ 0 = ap code_in e in absurd (omega (arith, no))
