-- Own, after ipxe.org's `${..}`: expansion as a recursion on the text. A value is never scanned again
use Rattle.std.specs.Prelude.{ℕ, ◌==◌, ◌&&◌, nat_le, List, [], ◌∷◌, ◌++◌, length, Option, Some, None, Result, Ok, Err, option_and_then, if◌then◌else◌, codes}
use Rattle.nb_expand.specs.declared.token.Token.{Token}
use Rattle.nb_expand.specs.declared.token.Token.TheVariants.{Open, Close, Byte}
use Rattle.nb_expand.specs.declared.error.ExpandError.{ExpandError}
use Rattle.nb_expand.specs.declared.error.ExpandError.TheVariants.{BadName, TooLong}

-- a byte on its own
abbrev pub token_of : ℕ → Token
token_of b = if b == 125 then Close else Byte b

-- a text as `${`, `}` and other bytes
abbrev pub tokens : List ℕ → List Token
tokens [] = []
tokens (b ∷ []) = token_of b ∷ []
tokens (b ∷ c ∷ rest) = if b == 36 && c == 123 then Open ∷ tokens rest else token_of b ∷ tokens (c ∷ rest)

-- open parts put back as they stood: each is `${` and its text
abbrev pub put_back : List ℕ → List (List ℕ) → List ℕ
put_back inner [] = inner
put_back inner (outer ∷ around) = put_back (outer ++ codes "${" ++ inner) around

-- The expansion of what is left of a text, where `inner` is the text gathered so far of the innermost
-- open part, or of the result where no part is open, and `around` are the texts around it, from the
-- inside out. `value` gives what a name stands for. None where a part's text is no name.
abbrev pub expansion_from : (List ℕ → Option (List ℕ)) → List ℕ → List (List ℕ) → List Token → Option (List ℕ)
expansion_from value inner around [] = Some (put_back inner around)
expansion_from value inner around (Open ∷ rest) = expansion_from value [] (inner ∷ around) rest
expansion_from value inner [] (Close ∷ rest) = expansion_from value (inner ++ 125 ∷ []) [] rest
expansion_from value inner (outer ∷ around) (Close ∷ rest) =
    option_and_then (λ text. expansion_from value (outer ++ text) around rest) (value inner)
expansion_from value inner around (Byte b ∷ rest) = expansion_from value (inner ++ b ∷ []) around rest

-- the answer for an expansion: a text that is no name goes before a result of over 4,096 bytes
abbrev pub expansion_answer : Option (List ℕ) → Result (List ℕ) ExpandError
expansion_answer None = Err BadName
expansion_answer (Some text) = if nat_le (length text) 4096 then Ok text else Err TooLong

-- the answer for a text
unfoldable pub expanded : (List ℕ → Option (List ℕ)) → List ℕ → Result (List ℕ) ExpandError
expanded value text = expansion_answer (expansion_from value [] [] (tokens text))
