-- Which file a command fetches, by its words and the settings.
use Rattle.std.specs.Prelude.{◌≡◌, ◌≤◌, ℕ, Bool, true, List, [], ◌∷◌, length, Option, Some, None, unwrap_or, Result, Ok, if◌then◌else◌}
use Rattle.std.specs.List.{join_with_byte}
use Rattle.nb_settings.specs.Tables.{TableLists}
use Rattle.nb_imagecmd.specs.declared.commands.ImageCommand.{ImageCommand}
use Rattle.nb_imagecmd.specs.declared.commands.ImageCommand.TheVariants as command
use Rattle.nb_expand.specs.declared.error.ExpandError.{ExpandError}
use Rattle.nb_uri.specs.declared.target.UriTarget.{UriTarget}
use Rattle.nb_imagecmd.specs.Asking.{is_file, target_host, target_uri}
use Rattle.nb_uri.specs.Addresses.{four_decimals}
use Rattle.nb_uri.specs.ImageNames.{image_name}
use Rattle.nb_uri.specs.Resolutions.{resolution}
use Rattle.nb_command.specs.declared.command_plan.CommandPlan.TheVariants as plan
use Rattle.nb_command.specs.Bases.{base_by}
use Rattle.nb_command.specs.Planning.{planned}
use Rattle.nb_dns.specs.WrittenNames.{is_lookup_name}
use Rattle.nb_wire.specs.declared.address.Ip4.{Ip4}
use Rattle.nb_machine.specs.Queries.{dns_in, with_domain}
use Rattle.nb_machine.specs.Effects.{Surroundings, ShownWords, expansion}
use Rattle.nb_machine.specs.Errands.{Wanted}
use Rattle.nb_laws.specs.Moves.{MovedOpen}
use Rattle.nb_laws.specs.Wanting.{is_open_for}

-- the expanded words of a command, by those that its record shows
abbrev pub expanded_shown : TableLists → ShownWords → Result (List (List ℕ)) ExpandError
expanded_shown table shown = if shown.expanded then Ok shown.words else expansion table shown.words

-- a server of a host: the one whose address its four decimals are, or, of a host that is a name, any address:
-- which one its look-up has found, `FindsHost` says of the OPEN
pub data IsServerOf (table : TableLists) (host : List ℕ) (server : ℕ) : Type 0 where
  by_decimals : four_decimals host ≡ Some server → IsServerOf table host server
  by_look_up : (by : Ip4) → four_decimals host ≡ None → is_lookup_name (with_domain table host) ≡ true → dns_in table ≡ Some by → IsServerOf table host server

-- a command on images asks for a file by this URI, and gives its image this name, if it gives one, and these arguments
pub data AsksBy : ImageCommand → Option (List ℕ) → List ℕ → List (List ℕ) → Type 0 where
  by_fetch : (name : Option (List ℕ)) (uri : List ℕ) (args : List (List ℕ)) → AsksBy (command.Fetch name uri args) name uri args
  by_select : (name : Option (List ℕ)) (uri : List ℕ) (args : List (List ℕ)) → AsksBy (command.Select name uri args) name uri args
  by_exec : (name : Option (List ℕ)) (autofree replaces : Bool) (uri : List ℕ) (args : List (List ℕ)) → AsksBy (command.Exec name autofree replaces (Some uri) args) name uri args

-- By these opens a file was moved from one target to another: each asked a server of its host for the target before, and the place to which
-- its server moved that, joined to the URI before, resolves to the next.
pub data AreMoved : UriTarget → List MovedOpen → UriTarget → Type 0 where
  stays_there : (target : UriTarget) → AreMoved target [] target
  moves_on : (target next last : UriTarget) (m : MovedOpen) (moved : List MovedOpen) → is_open_for target m.opening ≡ true →
      resolution (Some (target_uri target)) m.place ≡ Ok next → is_file next ≡ true → AreMoved next moved last → AreMoved target (m ∷ moved) last

-- A command fetches a file with these words, and what it finds: they are a command on images with a URI, which, joined to the URI of its
-- script, or of the first script to the root of the server `next-server`, is that of a file by TFTP or HTTP; from there these
-- opens' servers have moved it, five at most. It is asked of the server of its host, with its port, for its path or its whole URI. The image has
-- the name that the command gives, or is named by the first URI, and the arguments that the command gives.
pub record FetchesFile (x : Surroundings) (shown : ShownWords) (moves : List MovedOpen) (wanted : Wanted) : Type 0 where
  pub words : List (List ℕ)
  pub expanded : expanded_shown x.table shown ≡ Ok words
  pub images : ImageCommand
  pub planned_so : planned words ≡ Ok (plan.Images images)
  pub given : Option (List ℕ)
  pub uri : List ℕ
  pub args : List (List ℕ)
  pub asks : AsksBy images given uri args
  pub first : UriTarget
  pub resolves : resolution (base_by x.base x.table) uri ≡ Ok first
  pub file : is_file first ≡ true
  pub moved : AreMoved first moves wanted.asking.target
  pub few : length moves ≤ 5
  pub server : IsServerOf x.table (target_host wanted.asking.target) wanted.server
  pub name : wanted.asking.name ≡ unwrap_or given (image_name (target_uri first) (target_host first))
  pub arguments : wanted.asking.args ≡ join_with_byte 32 args
