-- What a command asks for, as the code has it, and what it comes to by that.
use Rattle.std.specs.Prelude.{◌≡◌, ℕ, Bool, true, false, List, ◌<◌}
use Rattle.nb_runner.specs.declared.query.Query.{Query as Asked}
use Rattle.nb_runner.specs.declared.query.Query.TheVariants as asked
use Rattle.nb_runner.specs.CommandWords.{errand_of, errand_hooks, FitsErrand, wanted_of, CanFetch, IsHookedWell}
use Rattle.nb_machine.specs.Queries.{Query, for_lease, for_echo, for_address, for_host}
use Rattle.nb_dns.specs.WrittenNames.{is_lookup_name}
use Rattle.nb_defs.specs.Commands.{refused}
use Rattle.nb_runner.specs.declared.intent.Intent.{Intent}
use Rattle.nb_runner.specs.declared.intent.Intent.TheVariants as intent
use Rattle.nb_settings.specs.Tables.{TableLists}
use Rattle.nb_command.specs.Addresses.{address_table}
use Rattle.nb_uri.specs.Addresses.{four_decimals}
use Rattle.std.specs.Option.{option_map_or}
use Rattle.nb_machine.specs.Effects.{Effect, says, asks, changed, inquires, hooks_disk, unhooks_drive, boots_drive}

-- what is asked, without where its words lie in memory
abbrev pub query_of : Asked → Query
query_of asked.Lease = for_lease
query_of (asked.Echo server) = for_echo server.0
query_of (asked.Address setting name by) = for_address setting name by.0
query_of (asked.Host errand name by) = for_host (errand_of errand) name by.0

-- what a command comes to that may ask for something
abbrev pub intent_effect : Intent → Effect
intent_effect (intent.Over cause) = says (refused cause)
intent_effect (intent.Asks query) = inquires (query_of query)
intent_effect (intent.Fetches wanted) = asks (wanted_of wanted)
intent_effect (intent.Hooks hooking) = hooks_disk hooking
intent_effect (intent.LetsGo number cause) = unhooks_drive number cause
intent_effect (intent.Boots number) = boots_drive number

-- the settings with the address of a host that is written as four decimals
abbrev pub looked_up_table : List ℕ → List ℕ → TableLists → TableLists
looked_up_table setting text table = option_map_or (λ address. changed table (address_table setting address table)) (four_decimals text) table

-- a name that is asked for can be looked up
abbrev pub CanAsk : Asked → Type 0
CanAsk asked.Lease = Unit {0}
CanAsk (asked.Echo server) = Unit {0}
CanAsk (asked.Address setting name by) = is_lookup_name name ≡ true
CanAsk (asked.Host errand name by) = (is_lookup_name name ≡ true) × FitsErrand errand

-- a disk is hooked once a name was looked up
abbrev pub query_hooks : Asked → Bool
query_hooks asked.Lease = false
query_hooks (asked.Echo server) = false
query_hooks (asked.Address setting name by) = false
query_hooks (asked.Host errand name by) = errand_hooks errand

-- what is asked for may be, where so many opens were made
abbrev pub IsAskable : ℕ → Intent → Type 0
IsAskable opens (intent.Over cause) = Unit {0}
IsAskable opens (intent.Asks query) = (opens < 16384) × CanAsk query × (query_hooks query ≡ false)
IsAskable opens (intent.Fetches wanted) = CanFetch opens wanted
IsAskable opens (intent.Hooks hooking) = IsHookedWell hooking
IsAskable opens (intent.LetsGo number cause) = Unit {0}
IsAskable opens (intent.Boots number) = ⊥
