use Rattle.std.proofs.Common.{◌≡◌, ◌<◌, ◌-◌, take, [], ◌∷◌, ℕ, List, arith, length, subst, sym, refl}
use Rattle.nb_responses.specs.Lines.{first_block, most_lines, unfinished}
use Rattle.nb_http.proofs.DecidedLemmas.{all_of}
use Rattle.nb_http.proofs.head_step.deciding.Goals as goal

some : (bytes : List ℕ) → (first_block most_lines bytes ≡ unfinished → ⊥) → 0 < length bytes
some [] decided = absurd (decided refl)
some (b ∷ bytes) decided = omega arith

pub loop-high-init : goal.loop-high-init
loop-high-init c = record {
  less = some c.args.bytes.now c.requires.decided;
  within = omega arith;
  unended = refl;
  decided = subst (λ (t : List ℕ). first_block most_lines t ≡ unfinished → ⊥) (sym (all_of c.args.bytes.now)) c.requires.decided;
}

pub returns : goal.returns
returns c =
    let last : c.loop-high.low ≡ c.loop-high.high - 1 = omega (arith, c.loop-high.invariant.less, c.loop-high-test.false) in
    record {
      within = c.loop-high.invariant.within;
      some = omega (arith, c.loop-high.invariant.less);
      decided = c.loop-high.invariant.decided;
      before = subst (λ (n : ℕ). first_block most_lines (take n c.args.bytes.now) ≡ unfinished) last c.loop-high.invariant.unended;
    }
