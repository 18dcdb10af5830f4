-- A disk is booted: its drive is asked for its first block, which is handed off.
use Rattle.std.specs.Prelude.{◌≡◌, ◌≤◌, ℕ, List, [], ◌++◌, length, find, Option, Some, None}
use Rattle.std.specs.Option.{option_and_then}
use Rattle.nb_terms.specs.declared.cause.Cause.{Cause}
use Rattle.nb_defs.specs.Records.{Out, out_texts}
use Rattle.nb_record.specs.Logged.{Logged, Puts}
use Rattle.nb_traced.specs.Plain.{without_graph}
use Rattle.nb_traced.specs.Holdings.{Holdings}
use Rattle.nb_traced.specs.Outputs.{Arrived, Traced}
use Rattle.nb_drivecmd.specs.declared.drive.Drive.{Drive}
use Rattle.nb_drivecmd.specs.HookedDrives.{with_hooked}
use Rattle.nb_machine.specs.Courses.{ReadsBlock, Standing, stands}
use Rattle.nb_machine.specs.Kinds.{read_last}
use Rattle.nb_machine.specs.Lives.{Live}
use Rattle.nb_machine.specs.Running.{Running, with_result}
use Rattle.nb_machine.specs.Scripts.{has_number}
use Rattle.nb_machine.specs.States.{State}
use Rattle.nb_runner.specs.World.{world_with_drives}
use Rattle.nb_runner.specs.declared.world.World.{World}
use Rattle.nb_network.specs.Many.{AreOpensOf, FitsHoldings, Many}
use Rattle.nb_network.specs.declared.living.Living.{Living as TheOpen}
use Rattle.nb_network.specs.declared.over.HasEnded.{HasEnded}
use Rattle.nb_client.specs.Progressing.{IsAtWork, TracesTo}
use Rattle.nb_client.specs.Snapshots.{Snapshot, StandsForProgress, state_of_world}
use Rattle.nb_client.specs.Soundness.{IsSound, WasStarted, kept_drives}
use Rattle.nb_client.specs.declared.booting.FirstBlock.{FirstBlock}
use Rattle.nb_client.specs.declared.booting.FirstBlock.TheVariants.{Read, Lost}
use Rattle.nb_client.specs.declared.pending.Answer.{Answer as TheAnswer}
use Rattle.nb_client.specs.declared.pending.Answer.TheVariants.{End, Drive as Lives}
use Rattle.nb_client.specs.declared.pending.Pending.{Pending}
use Rattle.nb_client.specs.declared.asked.Asked.TheVariants.{Block}
use Rattle.nb_client.specs.declared.site.Site.{Site}
use Rattle.nb_client.specs.declared.stage.Stage.TheVariants as stage

-- what a command waits for that has asked the drive of this open for its first block
abbrev pub block_pending : ℕ → Option Drive → Pending
block_pending number d = record { number = number; asked = Block d; waits = None }

-- The machine's command asks for the block in this state, by these records.
pub record ReadsThere (s : State) (inner : Running) (outer : List Running) (number : ℕ) (d : Option Drive) (put : List Out) (n : ℕ) (after : Snapshot) : Type 0 where
  pub to : Standing
  pub reads : ReadsBlock s inner outer number d put to
  pub stands_so : StandsForProgress after (stands n to)

-- The drive of the open of this number was asked for its first block, among these opens.
pub record AsksFirstBlock (inner : Running) (number : ℕ) (d : Option Drive) (before : Site) (after : Snapshot) (old new : Logged) (live : List Live) : Type 0 where
  pub rest : List Out
  pub puts : Puts old new (out_texts rest)
  pub there : ReadsThere (state_of_world before.world live) inner before.world.outer number d (without_graph rest) before.used after
  pub traces : (outs : List Out) (h : Holdings) (so_far : List Arrived) → Traced outs h so_far → FitsHoldings before.opens before.world.opens [] h →
      TracesTo after (outs ++ rest) so_far

-- So it is whatever state these opens are: the script's command waits for the block, or the open has ended.
pub record AsksFirst (inner : Running) (number : ℕ) (d : Option Drive) (before : Site) (after : Snapshot) (old new : Logged) : Type 0 where
  pub asks : (live : List Live) → AreOpensOf before.opens.graph before.opens.list live → AsksFirstBlock inner number d before after old new live
  pub sound : IsSound after.used after.world after.many after.stage
  pub under_way : WasStarted after.stage
  pub same_script : IsAtWork after.stage → (cause : Cause) × (after.stage ≡ stage.Running (with_result inner cause)) × (after.world.outer ≡ before.world.outer)

-- the drives with a disk that is booted, if it wasn't hooked, and its open lives
abbrev pub booted_drives : List TheOpen → Option Drive → List Drive → List Drive
booted_drives list None drives = drives
booted_drives list (Some d) drives = kept_drives list (with_hooked d drives)

abbrev pub booted_world : List TheOpen → Option Drive → World → World
booted_world list d w = world_with_drives w (booted_drives list d w.state.drives)

-- the block that an open has read which has ended so, where it is short, or it has ended without it
abbrev pub HasComeOf : FirstBlock → HasEnded → Type 0
HasComeOf (Read block) e = (e.read ≡ Some block) × (length block ≤ 268435456)
HasComeOf (Lost cause) e = (e.read ≡ None) × (cause ≡ e.cause)

-- so of one that lives on
abbrev pub HasComeThere : FirstBlock → ℕ → Many → Type 0
HasComeThere (Read block) number m = ((live : List Live) → AreOpensOf m.graph m.list live → option_and_then read_last (find (has_number number) live) ≡ Some block) × (length block ≤ 268435456)
HasComeThere (Lost cause) number m = ⊥

abbrev pub HasCome : FirstBlock → TheAnswer → ℕ → Many → Type 0
HasCome b (End e) number m = HasComeOf b e
HasCome b Lives number m = HasComeThere b number m
