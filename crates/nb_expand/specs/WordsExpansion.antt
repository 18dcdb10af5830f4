-- Own, after ipxe.org's `${..}`: the words of a command, each expanded
use Rattle.std.specs.Prelude.{ℕ, nat_le, List, [], ◌∷◌, length, sum_by, Option, Result, Ok, Err, if◌then◌else◌}
use Rattle.nb_expand.specs.declared.error.ExpandError.{ExpandError}
use Rattle.nb_expand.specs.declared.error.ExpandError.TheVariants.{TooLong}
use Rattle.nb_expand.specs.Expansion.{expanded}

-- a word before others; a refusal of the word goes before one of the others
abbrev pub word_before : Result (List ℕ) ExpandError → Result (List (List ℕ)) ExpandError → Result (List (List ℕ)) ExpandError
word_before (Err why) others = Err why
word_before (Ok word) (Err why) = Err why
word_before (Ok word) (Ok others) = Ok (word ∷ others)

-- each word expanded; the first word that is refused refuses all
abbrev pub expanded_each : (List ℕ → Option (List ℕ)) → List (List ℕ) → Result (List (List ℕ)) ExpandError
expanded_each value [] = Ok []
expanded_each value (word ∷ words) = word_before (expanded value word) (expanded_each value words)

-- words, unless they have more than 4,096 bytes together
abbrev pub short_words : Result (List (List ℕ)) ExpandError → Result (List (List ℕ)) ExpandError
short_words (Err why) = Err why
short_words (Ok words) = if nat_le (sum_by length words) 4096 then Ok words else Err TooLong

-- all words, unless they have more than 4,096 bytes together; a word's own refusal goes first
unfoldable pub expanded_words : (List ℕ → Option (List ℕ)) → List (List ℕ) → Result (List (List ℕ)) ExpandError
expanded_words value words = short_words (expanded_each value words)
