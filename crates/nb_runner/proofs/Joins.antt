-- How long the spelling of words is.
use Rattle.std.proofs.Common.{◌≡◌, ℕ, ◌+◌, ◌*◌, List, [], ◌∷◌, length, refl, arith, length-append}
use Rattle.std.specs.Prelude.{sum_by}
use Rattle.std.specs.List.{flat_map}
use Rattle.std.specs.Int.{w16, to_be_bytes}
use Rattle.std.proofs.lemmas.List.Sums.{sum_by-cons}
use Rattle.nb_defs.specs.Records.{word_text}

-- the spelling of words is no longer than the words and two bytes for each
pub words_length : (ws : List (List ℕ)) → length (flat_map word_text ws) ≡ sum_by length ws + 2 * length ws
unfolding word_text
words_length [] = refl
words_length (w ∷ ws) =
    rw (length-append (word_text w) (flat_map word_text ws), length-append (to_be_bytes w16 (length w)) w, sum_by-cons length w ws, words_length ws) (omega arith)
