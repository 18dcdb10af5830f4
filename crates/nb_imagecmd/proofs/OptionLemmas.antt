-- Options are read as what they say.
use Rattle.std.proofs.Common.{◌≡◌, ℕ, Bool, true, false, List, [], ◌∷◌, Some, codes, refl, ap, sym, ◌∙◌}
use Rattle.std.specs.Option.{option_and_then}
use Rattle.std.specs.Str.{bytes_eq}
use Rattle.std.proofs.lemmas.Slice.Eq.{bytes_eq-Decides}
use Rattle.nb_defs.specs.Commands.{is_option}
use Rattle.nb_imagecmd.specs.Options.{no_options, with_name, with_autofree, with_replace, options_read}
use Rattle.nb_imagecmd.specs.OptionWords.{GivenOption, named, autofree, replace, options_spelled, options_meant, BeginsWithoutOption}

pub true-false : true ≡ false → ⊥
true-false e = cc

pub by_test : (b : Bool) → (b ≡ true → ⊥) → b ≡ false
by_test true h = absurd (h refl)
by_test false h = refl

-- a word that is no option is none of the options
other_word : (word text : List ℕ) → is_option word ≡ false → is_option text ≡ true → bytes_eq word text ≡ false
other_word word text isnt is =
    by_test (bytes_eq word text) (λ same. true-false (sym is ∙ ap is_option (sym ((bytes_eq-Decides word text).0 same)) ∙ isnt))

rest_read : (rest : List (List ℕ)) → BeginsWithoutOption rest → options_read rest ≡ Some (no_options rest)
unfolding options_read
rest_read [] h = refl
rest_read (word ∷ words) h =
    rw (other_word word (codes "--name") h refl, other_word word (codes "--autofree") h refl, other_word word (codes "--replace") h refl, h) refl

-- options before other words are read as what they say together
pub spelled_options_read : (options : List GivenOption) (rest : List (List ℕ)) → BeginsWithoutOption rest → options_read (options_spelled options rest) ≡ options_meant options rest
unfolding options_read
spelled_options_read [] rest h = rest_read rest h
spelled_options_read (named name ∷ options) rest h = ap (option_and_then (with_name name)) (spelled_options_read options rest h)
spelled_options_read (autofree ∷ options) rest h = ap (option_and_then with_autofree) (spelled_options_read options rest h)
spelled_options_read (replace ∷ options) rest h = ap (option_and_then with_replace) (spelled_options_read options rest h)
