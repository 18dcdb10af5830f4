-- own, after ipxe.org's commands: the image command that words say, its name first
--   imgfetch, initrd, module    [--name N] uri [args]
--   imgselect, kernel, imgload  [--name N] uri [args]
--   imgexec, chain, boot        [--name N] [--autofree] [--replace] [uri] [args]
--   imgargs                     name [args]
--   imgfree                     [names]
--   imgstat
use Rattle.std.specs.Prelude.{◌≡◌, ◌⊎◌, ℕ, ◌||◌, List, [], ◌∷◌, Option, Some, None, Result, Ok, Err, MatchResult, if◌then◌else◌}
use Rattle.std.specs.Option.{option_and_then, option_copied}
use Rattle.nb_defs.specs.Commands.{is_option}
use Rattle.nb_imagecmd.specs.declared.command_names.ImageCommandName.{ImageCommandName}
use Rattle.nb_imagecmd.specs.declared.command_names.ImageCommandName.TheVariants.{Imgfetch, Initrd, Module}
use Rattle.nb_imagecmd.specs.declared.command_names.ImageCommandName.TheVariants.{Imgselect, Kernel, Imgload}
use Rattle.nb_imagecmd.specs.declared.command_names.ImageCommandName.TheVariants.{Imgexec, Chain, Boot}
use Rattle.nb_imagecmd.specs.declared.command_names.ImageCommandName.TheVariants.{Imgargs, Imgfree, Imgstat}
use Rattle.nb_imagecmd.specs.declared.commands.ImageCommand.{ImageCommand}
use Rattle.nb_imagecmd.specs.declared.commands.ImageCommand.TheVariants as command
use Rattle.nb_imagecmd.specs.declared.error.PlanError.{PlanError}
use Rattle.nb_imagecmd.specs.declared.error.PlanError.TheVariants.{Unknown, Usage, NoMemory}
use Rattle.nb_imagecmd.specs.declared.reading.Source.{Source}
use Rattle.nb_imagecmd.specs.CommandNames.{image_command_named}
use Rattle.nb_imagecmd.specs.Options.{OptionsRead, options_read}

-- the words of `[--name N] uri [args]`
pub record SourceRead : Type 0 where
  pub name : Option (List ℕ)
  pub uri : List ℕ
  pub args : List (List ℕ)

abbrev pub shown_source : Source → SourceRead
shown_source s = record { name = option_copied s.name; uri = s.uri.now; args = s.args.now }

-- a URI and arguments after these options
abbrev pub source_after : Option (List ℕ) → List (List ℕ) → Option SourceRead
source_after name [] = None
source_after name (uri ∷ args) = Some (record { name = name; uri = uri; args = args })

-- of all options only `--name` may be given
abbrev pub source_with : OptionsRead → Option SourceRead
source_with o = if o.autofree || o.replace then None else source_after o.name o.rest

abbrev pub source_read : List (List ℕ) → Option SourceRead
source_read words = option_and_then source_with (options_read words)

abbrev pub fetch_of : Option SourceRead → Result ImageCommand PlanError
fetch_of None = Err Usage
fetch_of (Some s) = Ok (command.Fetch s.name s.uri s.args)

abbrev pub fetch_read : List (List ℕ) → Result ImageCommand PlanError
fetch_read words = fetch_of (source_read words)

abbrev pub select_of : Option SourceRead → Result ImageCommand PlanError
select_of None = Err Usage
select_of (Some s) = Ok (command.Select s.name s.uri s.args)

abbrev pub select_read : List (List ℕ) → Result ImageCommand PlanError
select_read words = select_of (source_read words)

-- all options may be given, and there may be no word after them
abbrev pub exec_after : OptionsRead → List (List ℕ) → ImageCommand
exec_after o [] = command.Exec o.name o.autofree o.replace None []
exec_after o (uri ∷ args) = command.Exec o.name o.autofree o.replace (Some uri) args

abbrev pub exec_with : OptionsRead → Result ImageCommand PlanError
exec_with o = Ok (exec_after o o.rest)

abbrev pub exec_of : Option OptionsRead → Result ImageCommand PlanError
exec_of None = Err Usage
exec_of (Some o) = exec_with o

abbrev pub exec_read : List (List ℕ) → Result ImageCommand PlanError
exec_read words = exec_of (options_read words)

unfoldable pub imgargs_read : List (List ℕ) → Result ImageCommand PlanError
imgargs_read [] = Err Usage
imgargs_read (name ∷ args) = if is_option name then Err Usage else Ok (command.Imgargs name args)

unfoldable pub imgfree_read : List (List ℕ) → Result ImageCommand PlanError
imgfree_read [] = Ok (command.Imgfree [])
imgfree_read (name ∷ names) = if is_option name then Err Usage else Ok (command.Imgfree (name ∷ names))

unfoldable pub imgstat_read : List (List ℕ) → Result ImageCommand PlanError
imgstat_read [] = Ok command.Imgstat
imgstat_read (word ∷ words) = Err Usage

-- the command of a name with the words after it
abbrev pub named_read : ImageCommandName → List (List ℕ) → Result ImageCommand PlanError
named_read Imgfetch words = fetch_read words
named_read Initrd words = fetch_read words
named_read Module words = fetch_read words
named_read Imgselect words = select_read words
named_read Kernel words = select_read words
named_read Imgload words = select_read words
named_read Imgexec words = exec_read words
named_read Chain words = exec_read words
named_read Boot words = exec_read words
named_read Imgargs words = imgargs_read words
named_read Imgfree words = imgfree_read words
named_read Imgstat words = imgstat_read words

abbrev pub read_where : Option ImageCommandName → List (List ℕ) → Result ImageCommand PlanError
read_where None words = Err Unknown
read_where (Some name) words = named_read name words

-- the command, or why the words are none
unfoldable pub image_command : List (List ℕ) → Result ImageCommand PlanError
image_command [] = Err Unknown
image_command (name ∷ words) = read_where (image_command_named name) words

-- the answer is the one expected, unless memory ran out
abbrev pub ReadsAs : Result ImageCommand PlanError → Result ImageCommand PlanError → Type 0
ReadsAs result expected =
    MatchResult result (λ command. expected ≡ Ok command) (λ why. (why ≡ NoMemory) ⊎ (expected ≡ Err why))
