-- How what a command asks for is opened: by the command, or after a look-up.
use Rattle.std.specs.Prelude.{◌≡◌, ◌<◌, ℕ, true, List, [], ◌∷◌, ◌++◌, Option, Some, None, slice_get}
use Rattle.nb_terms.specs.declared.cause.Cause.{Cause}
use Rattle.nb_defs.specs.Records.{Out, out_texts, result}
use Rattle.nb_record.specs.Logged.{Logged, Puts}
use Rattle.nb_traced.specs.Plain.{without_graph}
use Rattle.nb_runner.specs.declared.world.World.{World}
use Rattle.nb_runner.specs.World.{IsLinkOfState}
use Rattle.nb_stack.specs.Client.{Client}
use Rattle.nb_machine.specs.CommandRecords.{command_record, no_route}
use Rattle.nb_machine.specs.Courses.{running, stands, waiting}
use Rattle.nb_machine.specs.Effects.{Effect, asks, full_opens, effect_in, boots_drive, hooks_disk, inquires, shown_as, shown_words}
use Rattle.nb_machine.specs.Kinds.{first_records}
use Rattle.nb_machine.specs.Lives.{Live, end_record, open_record}
use Rattle.nb_machine.specs.Running.{Running, beginning, coming, entered, with_result}
use Rattle.nb_machine.specs.Scripts.{Awaited, Job}
use Rattle.nb_machine.specs.States.{State, with_one_made, with_opened}
use Rattle.nb_runner.specs.CommandWords.{wanted_of}
use Rattle.nb_runner.specs.Intents.{intent_effect, query_of}
use Rattle.nb_runner.specs.declared.intent.Intent.{Intent}
use Rattle.nb_runner.specs.NextCommand.{IsReady}
use Rattle.nb_traced.specs.Holdings.{Holdings, GraphObject}
use Rattle.nb_traced.specs.Outputs.{Arrived, Traced}
use Rattle.nb_open.specs.Begins.{waiting_pieces}
use Rattle.nb_network.specs.Many.{AreOpensOf, FitsHoldings}
use Rattle.nb_client.specs.Asked.{asked_onward, awaited_asked, job_asked, live_asked, onward_kind}
use Rattle.nb_client.specs.Beginnings.{DropsWaiting}
use Rattle.nb_client.specs.Progressing.{IsAtWork, TracesTo}
use Rattle.nb_client.specs.Snapshots.{Snapshot, StandsForProgress, state_of_world}
use Rattle.nb_client.specs.Soundness.{IsSound, WasStarted, snapshot_at}
use Rattle.nb_client.specs.Turning.{found_by_script, world_left_by}
use Rattle.nb_client.specs.declared.asked.Asked.{Asked}
use Rattle.nb_client.specs.declared.asked.Asked.TheVariants.{File, Query as Exchange, Disk, Block}
use Rattle.nb_client.specs.declared.pending.Next.{Next}
use Rattle.nb_client.specs.declared.site.Site.{Site}
use Rattle.nb_client.specs.declared.stage.Stage.TheVariants as stage

-- what a command comes to that asks for this; no command asks for a block alone, so no matter what
abbrev pub effect_of_asked : Asked → Effect
effect_of_asked (File w) = asks (wanted_of w)
effect_of_asked (Exchange q) = inquires (query_of q)
effect_of_asked (Disk disk) = hooks_disk disk.hooking
effect_of_asked (Block d) = boots_drive 0

-- what is asked for is no disk, nor a block of one: the drive of a disk's number is closed before its open
abbrev pub IsNoDisk : Asked → Type 0
IsNoDisk (File w) = Unit {0}
IsNoDisk (Exchange q) = Unit {0}
IsNoDisk (Disk disk) = ⊥
IsNoDisk (Block d) = ⊥

-- A command whose words are expanded asks for this, in the world that it leaves.
pub record AsksFor (w : World) (a : Asked) (s : Running) (ws : List (List ℕ)) (now : World) : Type 0 where
  pub name : List ℕ
  pub args : List (List ℕ)
  pub comes : coming s ≡ beginning name args
  pub asks_so : effect_in (found_by_script w s) (name ∷ args) ≡ effect_of_asked a
  pub no_disk : IsNoDisk a
  pub shows : shown_words w.state.table (name ∷ args) ≡ shown_as true ws
  pub world_is : now ≡ world_left_by w (name ∷ args)
  pub was_linked : IsLinkOfState w

-- the script once COMMAND is put, where it is put, and that record
abbrev pub begun_script : Option (List (List ℕ)) → Running → Running
begun_script None s = s
begun_script (Some ws) s = entered s

abbrev pub front_records : Option (List (List ℕ)) → Running → List Out
front_records None s = []
front_records (Some ws) s = command_record s (shown_as true ws) ∷ []

-- a command whose words are shown may begin
abbrev pub IsShownWell : Option (List (List ℕ)) → Running → Type 0
IsShownWell None s = Unit {0}
IsShownWell (Some ws) s = IsReady s ws

-- An open was made in this state: it lives, and its command waits for it; or there was no way to its server.
pub data IsOpenedIn (s : State) (l : Live) (awaited : Awaited) (job : Job) (inner : Running) (outer : List Running) (n : ℕ) : List Out → Snapshot → Type 0 where
  sets_out : (link : Client) (put : List Out) (after : Snapshot) → slice_get s.devices l.device ≡ Some link → first_records l.kind l link ≡ Some put →
      StandsForProgress after (stands n (waiting (with_opened s l) (record { script = inner; outer = outer; awaited = awaited; job = job }))) →
      IsOpenedIn s l awaited job inner outer n (open_record l ∷ put) after
  turns_back : (link : Client) (after : Snapshot) → slice_get s.devices l.device ≡ Some link → first_records l.kind l link ≡ None →
      StandsForProgress after (stands n (running (with_one_made s) (with_result inner (no_route l.server)) outer)) →
      IsOpenedIn s l awaited job inner outer n (open_record l ∷ end_record l (no_route l.server) ∷ result (no_route l.server) ∷ []) after

-- What was asked for was opened, of which this has waited: COMMAND was put before, where these words are shown.
pub record Opened (a : Asked) (first : List GraphObject) (shown : Option (List (List ℕ))) (script : Running) (before : Site) (after : Snapshot) (old new : Logged) : Type 0 where
  pub rest : List Out
  pub puts : Puts old new (out_texts (front_records shown script ++ rest))
  pub opens : (live : List Live) → AreOpensOf before.opens.graph before.opens.list live →
      IsOpenedIn (state_of_world before.world live) (live_asked (state_of_world before.world live) a) (awaited_asked a before.world.opens) (job_asked a) (begun_script shown script) before.world.outer before.used (without_graph rest) after
  pub traces : (outs : List Out) (h : Holdings) (so_far : List Arrived) → Traced outs h so_far → FitsHoldings before.opens before.world.opens first h →
      TracesTo after (outs ++ rest) so_far
  pub sound : IsSound after.used after.world after.many after.stage
  pub under_way : WasStarted after.stage
  pub same_script : IsAtWork after.stage → (cause : Cause) × (after.stage ≡ stage.Running (with_result (begun_script shown script) cause)) × (after.world.outer ≡ before.world.outer)

-- The open that is next was begun, or no more may be made, and what has waited was let go.
pub data OpensNext (s : Running) (k : Next) (before : Site) (after : Snapshot) (old new : Logged) : Type 0 where
  opens_it : before.world.opens < 16384 → Opened (asked_onward before.world k.onward) (waiting_pieces (onward_kind k.onward) k.waits) None s before after old new → OpensNext s k before after old new
  opens_none : (now : Site) → before.world.opens ≡ 16384 → now.used ≡ before.used → now.world ≡ before.world → after ≡ snapshot_at now (stage.Running (with_result s full_opens)) →
      DropsWaiting (onward_kind k.onward) k.waits before.world.opens before now (result full_opens ∷ []) old new → OpensNext s k before after old new

-- A command whose words are expanded intends this, in the world that it leaves.
pub record Intends (w : World) (i : Intent) (s : Running) (ws : List (List ℕ)) (now : World) : Type 0 where
  pub name : List ℕ
  pub args : List (List ℕ)
  pub comes : coming s ≡ beginning name args
  pub intends_so : effect_in (found_by_script w s) (name ∷ args) ≡ intent_effect i
  pub shows : shown_words w.state.table (name ∷ args) ≡ shown_as true ws
  pub world_is : now ≡ world_left_by w (name ∷ args)
  pub was_linked : IsLinkOfState w
