-- own, after ipxe.org's commands: the options of image commands. They stand before the other words and begin
-- with `--`; each is given at most once, in any order.
use Rattle.std.specs.Prelude.{ℕ, Bool, true, false, List, [], ◌∷◌, Option, Some, None, codes, is_some, if◌then◌else◌}
use Rattle.std.specs.Option.{option_and_then, option_copied}
use Rattle.std.specs.Str.{bytes_eq}
use Rattle.nb_defs.specs.Commands.{is_option}
use Rattle.nb_imagecmd.specs.declared.options.Options.{Options}

-- the options with which words begin, and the words after them
pub record OptionsRead : Type 0 where
  pub name : Option (List ℕ)
  pub autofree : Bool
  pub replace : Bool
  pub rest : List (List ℕ)

abbrev pub shown_options : Options → OptionsRead
shown_options o =
    record { name = option_copied o.name; autofree = o.autofree; replace = o.replace; rest = o.rest.now }

abbrev pub no_options : List (List ℕ) → OptionsRead
no_options rest = record { name = None; autofree = false; replace = false; rest = rest }

-- with an option more before these, if it isn't among them
abbrev pub with_name : List ℕ → OptionsRead → Option OptionsRead
with_name name o = if is_some o.name then None else Some (record o { name = Some name })

abbrev pub with_autofree : OptionsRead → Option OptionsRead
with_autofree o = if o.autofree then None else Some (record o { autofree = true })

abbrev pub with_replace : OptionsRead → Option OptionsRead
with_replace o = if o.replace then None else Some (record o { replace = true })

unfoldable mutual
  -- the options with which words begin; none where one is unknown, is given again, or lacks its value
  pub options_read : List (List ℕ) → Option OptionsRead
  options_read [] = Some (no_options [])
  options_read (word ∷ words) =
      if bytes_eq word (codes "--name") then named_options words
      else if bytes_eq word (codes "--autofree") then option_and_then with_autofree (options_read words)
      else if bytes_eq word (codes "--replace") then option_and_then with_replace (options_read words)
      else if is_option word then None
      else Some (no_options (word ∷ words))

  -- the same after `--name`, whose value is the next word, whatever it begins with
  pub named_options : List (List ℕ) → Option OptionsRead
  named_options [] = None
  named_options (name ∷ words) = option_and_then (with_name name) (options_read words)
