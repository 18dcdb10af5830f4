-- Drives that are let go: the open of one is closed, and it is forgotten.
use Rattle.std.specs.Prelude.{◌≡◌, ◌≤◌, ℕ, true, length, List, [], ◌∷◌, filter, not, Option, Some, None, Ok, Err, slice_get, if◌then◌else◌}
use Rattle.nb_terms.specs.declared.cause.Cause.{Cause}
use Rattle.nb_defs.specs.Records.{Out, out_texts, result}
use Rattle.nb_record.specs.Logged.{Logged, Puts}
use Rattle.nb_traced.specs.Plain.{without_graph}
use Rattle.nb_drivecmd.specs.declared.drive.Drive.{Drive}
use Rattle.nb_drivecmd.specs.declared.outcome.Hooking.{Hooking}
use Rattle.nb_drivecmd.specs.HookedDrives.{without_open}
use Rattle.nb_network.specs.declared.living.Living.{Living as Open}
use Rattle.nb_machine.specs.CommandRecords.{command_record}
use Rattle.nb_machine.specs.Courses.{DropsDrive}
use Rattle.nb_machine.specs.Effects.{next_at_target, shown_as}
use Rattle.nb_machine.specs.Lives.{Live, close}
use Rattle.nb_machine.specs.Running.{Running, entered, with_result}
use Rattle.nb_machine.specs.Scripts.{has_number}
use Rattle.nb_machine.specs.States.{bare}
use Rattle.nb_machine.specs.Takings.{AllTake, Over}
use Rattle.nb_runner.specs.CommandWords.{FitsOnward, onward_of}
use Rattle.nb_runner.specs.World.{with_net, world_with_drives}
use Rattle.nb_runner.specs.declared.world.World.{World}
use Rattle.nb_network.specs.Many.{AreOpensOf}
use Rattle.nb_network.specs.Takes.{ClosesFirst, Traces}
use Rattle.nb_client.specs.Snapshots.{state_of_world}
use Rattle.nb_client.specs.Soundness.{HasRoomOnward, IsSound, has_its_open, kept_drives}
use Rattle.nb_client.specs.declared.pending.Next.{Next}
use Rattle.nb_client.specs.declared.site.Site.{Site}
use Rattle.nb_client.specs.declared.stage.Stage.{Stage}
use Rattle.nb_client.specs.declared.stage.Stage.TheVariants as stage

-- a client that is sound while a script runs stays so
abbrev pub StaysSound : Site → Site → Type 0
StaysSound before after = (s : Running) → IsSound before.used before.world before.opens (stage.Running s) → IsSound after.used after.world after.opens (stage.Running s)

-- The open of this number was closed with this cause, and drives that it hooked are forgotten; the others live on.
pub record ClosesNumber (number : ℕ) (cause : Cause) (before after : Site) (old new : Logged) : Type 0 where
  pub records : List Out
  pub puts : Puts old new (out_texts records)
  pub closes : (live : List Live) → AreOpensOf before.opens.graph before.opens.list live →
      (overs : List Over) × AllTake (bare before.world.net ∷ []) (close cause) (filter (has_number number) live) (without_graph records) [] overs
      × AreOpensOf after.opens.graph after.opens.list (filter (λ l. not (has_number number l)) live)
  pub closes_first : ClosesFirst cause records
  pub traces : Traces before.opens before.world.opens records [] after.opens before.world.opens
  pub used : after.used ≡ before.used
  pub world : after.world ≡ world_with_drives (with_net before.world after.world.net) (kept_drives after.opens.list before.world.state.drives)
  pub device : bare after.world.net ≡ bare before.world.net
  pub serials : after.opens.graph.book.made ≡ before.opens.graph.book.made
  pub sound : StaysSound before after

-- The drive of this number was closed, if one was hooked, and forgotten.
pub record DropsOne (number : ℕ) (before after : Site) (old new : Logged) : Type 0 where
  pub records : List Out
  pub puts : Puts old new (out_texts records)
  pub drops : (live : List Live) → AreOpensOf before.opens.graph before.opens.list live →
      (left : List Live) × AreOpensOf after.opens.graph after.opens.list left × DropsDrive (state_of_world before.world live) number (without_graph records) (state_of_world after.world left)
  pub traces : Traces before.opens before.world.opens records [] after.opens before.world.opens
  pub used : after.used ≡ before.used
  pub world : after.world ≡ world_with_drives (with_net before.world after.world.net) after.world.state.drives
  pub sound : StaysSound before after

-- COMMAND was put, and that was done.
pub record BeginsDrop (s : Running) (ws : List (List ℕ)) (number : ℕ) (before : Site) (begun : Running) (after : Site) (old new : Logged) : Type 0 where
  pub between : Logged
  pub command : Puts old between (out_texts (command_record s (shown_as true ws) ∷ []))
  pub drops : DropsOne number before after between new
  pub script : begun ≡ entered s

-- a disk that has answered, as a drive
abbrev pub drive_hooked_by : Hooking → ℕ → Drive
drive_hooked_by hooking number = record { number = hooking.number; described = hooking.described; open_number = number }

-- without the drives whose open is that of the drive at this place, unless it lives
abbrev pub forgotten_by : Option Drive → List Open → List Drive → List Drive
forgotten_by None list drives = drives
forgotten_by (Some d) list drives = if has_its_open list d then drives else without_open d.open_number drives

abbrev pub forgotten_at : ℕ → List Open → List Drive → List Drive
forgotten_at place list drives = forgotten_by (slice_get drives place) list drives

-- the drive of the lowest number was closed with this cause, if one was hooked
abbrev pub ClosesLowest : List Drive → Cause → Site → Site → Logged → Logged → Type 0
ClosesLowest [] cause before after old new = (after ≡ before) × (new ≡ old)
ClosesLowest (d ∷ ds) cause before after old new = ClosesNumber d.open_number cause before after old new

-- The drives were closed with this cause, the lowest first.
pub record ClosesDrives (cause : Cause) (before after : Site) (old new : Logged) : Type 0 where
  pub middle : Site
  pub between : Logged
  pub first : ClosesLowest before.world.state.drives cause before middle old between
  pub second : ClosesLowest middle.world.state.drives cause middle after between new
  -- two drives are hooked at most
  pub few : length before.world.state.drives ≤ 2

-- The open that a disk asks for is next, of which nothing has waited, or the command is over.
pub data ReachesDisk (s : Running) (hooking : Hooking) (w : World) (st : Stage) (old new : Logged) : Type 0 where
  fails_there : (cause : Cause) → next_at_target w.opens w.state.table w.state.drives hooking ≡ Err cause → st ≡ stage.Running (with_result s cause) → Puts old new (out_texts (result cause ∷ [])) →
      ReachesDisk s hooking w st old new
  reaches_there : (next : Next) → next_at_target w.opens w.state.table w.state.drives hooking ≡ Ok (onward_of next.onward) → next.waits ≡ None → FitsOnward next.onward → HasRoomOnward next.onward w.state.drives →
      st ≡ stage.Reaching s next → new ≡ old → ReachesDisk s hooking w st old new
