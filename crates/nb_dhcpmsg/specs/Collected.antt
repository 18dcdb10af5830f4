-- RFC 3396: options that were read in one pass, without where they lie in memory
use Rattle.std.specs.Prelude.{◌≡◌, ℕ, List, [], ◌∷◌, map}
use Rattle.nb_dhcpmsg.specs.declared.option.DhcpOption.{DhcpOption}
use Rattle.nb_dhcpmsg.specs.declared.option.First.{First}
use Rattle.nb_dhcpmsg.specs.declared.option.First.TheVariants as first
use Rattle.nb_dhcpmsg.specs.Options.{TagValue}
use Rattle.nb_dhcpmsg.specs.Fields.{inner_options}
use Rattle.nb_dhcpmsg.specs.Lefts.{parts_of_option}

abbrev pub tag_values : List DhcpOption → List TagValue
tag_values options = map parts_of_option options

-- what the options within a value begin with
abbrev pub IsFirstWithin : First → List ℕ → Type 0
IsFirstWithin first.End bytes = inner_options bytes ≡ []
IsFirstWithin first.Broken bytes = inner_options bytes ≡ []
IsFirstWithin (first.Option o rest) bytes = inner_options bytes ≡ parts_of_option o ∷ inner_options rest.now
