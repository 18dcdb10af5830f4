-- What a field begins with, by what it is without its padding.
use Rattle.std.proofs.Common.{◌≡◌, ℕ, ◌+◌, ◌<◌, ◌≤◌, List, ◌∷◌, length, take, drop, length-take-le, arith}
use Rattle.nb_dhcpmsg.specs.Options.{tag_value}
use Rattle.nb_dhcpmsg.specs.Lefts.{Precedes}
use Rattle.nb_dhcpmsg.proofs.OptionLemmas.{cut, joined_back}

-- an option begins bytes
pub begins : (tag len : ℕ) (bytes : List ℕ) → 0 < tag → tag < 255 → len ≤ length bytes → length (drop len bytes) + len ≡ length bytes → Precedes (tag_value tag (take len bytes)) (drop len bytes) (tag ∷ len ∷ bytes)
begins tag len bytes pos small fits size = record {
  back = λ os a. joined_back tag len bytes os pos small fits a;
  forth = λ os a. let c = cut tag len bytes os pos small a in (c.later, c.first, c.rest);
  less = let taken : length (take len bytes) ≡ len = length-take-le len bytes fits in omega (arith, size, taken);
}
