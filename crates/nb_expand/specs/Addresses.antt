-- RFC 791 addresses as text: four decimals with dots between them
use Rattle.std.specs.Prelude.{List, ℕ, [], ◌∷◌, ◌++◌, codes}
use Rattle.std.specs.Fmt.{decimal}

-- the first four bytes; nothing of fewer
abbrev pub printed_address : List ℕ → List ℕ
printed_address (a ∷ b ∷ c ∷ d ∷ rest) =
    decimal a ++ codes "." ++ decimal b ++ codes "." ++ decimal c ++ codes "." ++ decimal d
printed_address (a ∷ b ∷ c ∷ []) = []
printed_address (a ∷ b ∷ []) = []
printed_address (a ∷ []) = []
printed_address [] = []
