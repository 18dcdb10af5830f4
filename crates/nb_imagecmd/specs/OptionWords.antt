-- own, after ipxe.org's commands: how options are spelled, and what they say together
use Rattle.std.specs.Prelude.{◌≡◌, ℕ, false, List, [], ◌∷◌, ◌++◌, Option, Some, codes, ⊤}
use Rattle.std.specs.Option.{option_and_then}
use Rattle.nb_defs.specs.Commands.{is_option}
use Rattle.nb_imagecmd.specs.Options.{OptionsRead, no_options, with_name, with_autofree, with_replace}

-- an option as it is given
pub data GivenOption : Type 0 where
  named : (name : List ℕ) → GivenOption
  autofree : GivenOption
  replace : GivenOption

abbrev pub given_words : GivenOption → List (List ℕ)
given_words (named name) = codes "--name" ∷ name ∷ []
given_words autofree = codes "--autofree" ∷ []
given_words replace = codes "--replace" ∷ []

-- these options, and then other words
abbrev pub options_spelled : List GivenOption → List (List ℕ) → List (List ℕ)
options_spelled [] rest = rest
options_spelled (option ∷ options) rest = given_words option ++ options_spelled options rest

abbrev pub with_given : GivenOption → OptionsRead → Option OptionsRead
with_given (named name) o = with_name name o
with_given autofree o = with_autofree o
with_given replace o = with_replace o

-- what they say, if none is given twice
abbrev pub options_meant : List GivenOption → List (List ℕ) → Option OptionsRead
options_meant [] rest = Some (no_options rest)
options_meant (option ∷ options) rest = option_and_then (with_given option) (options_meant options rest)

-- the first of these words, if there is one, is no option
abbrev pub BeginsWithoutOption : List (List ℕ) → Type 0
BeginsWithoutOption [] = ⊤
BeginsWithoutOption (word ∷ words) = is_option word ≡ false
