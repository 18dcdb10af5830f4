-- Addresses as four decimals.
use Rattle.std.proofs.Common.{◌≡◌, ℕ, ◌≤◌, List, [], ◌∷◌, ◌++◌, length, get_or, codes, refl, arith}
use Rattle.std.specs.Fmt.{decimal}
use Rattle.nb_expand.specs.Addresses.{printed_address}

pub printed_address-four : (bytes : List ℕ) → 4 ≤ length bytes → printed_address bytes ≡ decimal (get_or bytes 0 0) ++ codes "." ++ decimal (get_or bytes 1 0) ++ codes "." ++ decimal (get_or bytes 2 0) ++ codes "." ++ decimal (get_or bytes 3 0)
printed_address-four [] h = absurd (omega arith)
printed_address-four (a ∷ []) h = absurd (omega arith)
printed_address-four (a ∷ b ∷ []) h = absurd (omega arith)
printed_address-four (a ∷ b ∷ c ∷ []) h = absurd (omega arith)
printed_address-four (a ∷ b ∷ c ∷ d ∷ rest) h = refl
