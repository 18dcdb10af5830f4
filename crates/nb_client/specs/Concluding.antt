-- What comes of a command whose open has ended: an image, or what was found.
use Rattle.std.specs.Prelude.{◌≡◌, ◌<◌, ℕ, false, List, [], ◌∷◌, Ok, Option, Some, None, option_map, if◌then◌else◌}
use Rattle.std.specs.Option.{option_map_or}
use Rattle.nb_defs.specs.Causes.{is_ok_cause}
use Rattle.nb_defs.specs.Records.{result}
use Rattle.nb_record.specs.Logged.{Logged}
use Rattle.nb_wire.specs.declared.address.Ip4.{Ip4}
use Rattle.nb_image.specs.Images.{ImageList}
use Rattle.nb_imagecmd.specs.declared.arriving.Arrival.{Arrival}
use Rattle.nb_imagecmd.specs.declared.arriving.Arrival.TheVariants as arrival
use Rattle.nb_runner.specs.Handings.{AreShortImages, IsShortTable}
use Rattle.nb_settings.specs.Tables.{TableLists}
use Rattle.nb_command.specs.Settings.{Change}
use Rattle.nb_command.specs.Addresses.{address_table}
use Rattle.nb_machine.specs.BootTables.{boot_table}
use Rattle.nb_machine.specs.Errands.{Errand, Onward, onward}
use Rattle.nb_machine.specs.Findings.{Settlement, lease_change, settled_by}
use Rattle.nb_machine.specs.Lives.{Live}
use Rattle.nb_machine.specs.Queries.{Query, for_lease, for_echo, for_host, for_address}
use Rattle.nb_machine.specs.Running.{Running, with_result}
use Rattle.nb_runner.specs.CommandWords.{FitsOnward, onward_hooks, onward_of}
use Rattle.nb_runner.specs.Intents.{query_hooks, query_of}
use Rattle.nb_runner.specs.World.{world_with}
use Rattle.nb_runner.specs.declared.handing.Booted.{Booted}
use Rattle.nb_runner.specs.declared.handing.Handing.{Handing}
use Rattle.nb_runner.specs.declared.query.Query.{Query as Asking}
use Rattle.nb_chains.specs.declared.chain.Chain.{Chain}
use Rattle.nb_chains.specs.declared.kind.ChainKind.{ChainKind}
use Rattle.nb_network.specs.declared.over.HasEnded.{HasEnded}
use Rattle.nb_network.specs.Many.{AreOpensOf}
use Rattle.nb_client.specs.Beginnings.{DropsWaiting}
use Rattle.nb_client.specs.Snapshots.{state_of_world}
use Rattle.nb_client.specs.declared.pending.Next.{Next}
use Rattle.nb_client.specs.declared.site.Site.{Site}
use Rattle.nb_client.specs.declared.stage.Stage.{Stage}
use Rattle.nb_client.specs.declared.stage.Stage.TheVariants as stage

-- What holds of a file's arrival for a script of this depth, which leaves this list: all texts are short, a script that runs within
-- isn't the ninth, and what boots is selected.
abbrev pub ArrivesWell : ℕ → Arrival → ImageList → Type 0
ArrivesWell depth arrival.Kept left = AreShortImages left.images
ArrivesWell depth (arrival.Run script replace) left = AreShortImages left.images × (replace ≡ false → depth < 8)
ArrivesWell depth arrival.Boot left = AreShortImages left.images × (i : ℕ) × (left.selected ≡ Some i)

-- the hand-off of this and of this boot table, of which nothing was put
abbrev pub handing_of : Booted → Option (List ℕ) → Handing
handing_of booted table = record { booted = booted; table = table; part = 0; piece = 0 }

-- the boot table of these opens and of the drives of this world, which is short
pub record IsBootTable (c : Site) (table : Option (List ℕ)) : Type 0 where
  pub of_state : (live : List Live) → AreOpensOf c.opens.graph c.opens.list live → boot_table (state_of_world c.world live) ≡ table
  pub short : IsShortTable table

-- the place to which the file was moved whose open has ended so, if it was
abbrev pub moved_place : HasEnded → Option (List ℕ)
moved_place e = if is_ok_cause e.cause then e.moved else None

-- what is asked of the server whose address an open has found, if it has
abbrev pub next_found : Errand → HasEnded → Option Onward
next_found errand e = if is_ok_cause e.cause then option_map (λ address. onward errand address.0) e.address else None

abbrev pub onward_found_by : HasEnded → Query → Option Onward
onward_found_by e for_lease = None
onward_found_by e (for_echo server) = None
onward_found_by e (for_host errand name by) = next_found errand e
onward_found_by e (for_address setting name by) = None

-- the query is the look-up of a server's name for this
abbrev pub IsHostOf : Query → Errand → Type 0
IsHostOf (for_host errand name by) other = errand ≡ other
IsHostOf for_lease other = ⊥
IsHostOf (for_echo server) other = ⊥
IsHostOf (for_address setting name by) other = ⊥

-- the server's address was found, or there is none to ask
abbrev pub FindsServer : Option Ip4 → HasEnded → Query → Type 0
FindsServer None e q = onward_found_by e q ≡ None
FindsServer (Some server) e q = (errand : Errand) × IsHostOf q errand × (onward_found_by e q ≡ Some (onward errand server.0))

-- the settings with what an open has found
abbrev pub change_by : Query → HasEnded → TableLists → Change
change_by for_lease e table = option_map_or (lease_change table) e.bytes (Ok table)
change_by (for_echo server) e table = Ok table
change_by (for_host errand name by) e table = Ok table
change_by (for_address setting name by) e table = option_map_or (λ address. address_table setting address.0 table) e.address (Ok table)

-- what a command comes to whose open has ended so
abbrev pub settled_so : HasEnded → Query → TableLists → Settlement
settled_so e q table = if is_ok_cause e.cause then settled_by table (change_by q e table) else record { cause = e.cause; table = table }

-- The server's own open is next, of which this has waited.
pub record ReachesAt (s : Running) (q : Asking) (server : Ip4) (c : Chain) (st : Stage) : Type 0 where
  pub next : Next
  pub there : st ≡ stage.Reaching s next
  pub waits : next.waits ≡ Some c
  pub asks : (errand : Errand) → IsHostOf (query_of q) errand → onward_of next.onward ≡ onward errand server.0
  pub fits : FitsOnward next.onward
  pub hooks : onward_hooks next.onward ≡ query_hooks q

-- The command was settled so, and the device follows its settings; what has waited was let go.
pub record SettlesAt (s : Running) (kind : ChainKind) (waits : Option Chain) (x : Settlement) (before after : Site) (st : Stage) (old new : Logged) : Type 0 where
  pub between : Site
  pub same_used : between.used ≡ before.used
  pub same_opens : between.opens ≡ before.opens
  pub world : between.world ≡ world_with before.world x.table before.world.state.up
  pub used : after.used ≡ before.used
  pub same_world : after.world ≡ between.world
  pub there : st ≡ stage.Running (with_result s x.cause)
  pub lets : DropsWaiting kind waits before.world.opens between after (result x.cause ∷ []) old new
