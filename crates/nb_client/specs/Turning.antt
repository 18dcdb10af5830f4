-- How a private call leads a client from one stage to the next.
use Rattle.std.specs.Prelude.{◌≡◌, ◌<◌, ℕ, true, List, [], ◌∷◌, Option, Some, None}
use Rattle.nb_terms.specs.declared.cause.Cause.{Cause}
use Rattle.nb_defs.specs.Commands.{CommandOutcome}
use Rattle.nb_defs.specs.Records.{In, start, frame, tick, off}
use Rattle.nb_record.specs.Logged.{Logged}
use Rattle.nb_machine.specs.Effects.{ShownWords, Surroundings, effect_in, says, shown_as, shown_words, table_after, up_after}
use Rattle.nb_machine.specs.Running.{Running, coming, beginning}
use Rattle.nb_runner.specs.CommandWords.{deed_effect}
use Rattle.nb_runner.specs.Steps.{Does, GoesToLabel}
use Rattle.nb_runner.specs.World.{IsLinkOfState, surroundings_in_world, world_with, world_within}
use Rattle.nb_runner.specs.declared.command.Deed.{Deed}
use Rattle.nb_runner.specs.declared.world.World.{World}
use Rattle.nb_client.specs.Progressing.{Advances, CommandRests, IsAtWork, IsFinal, RunEndsWith, ScriptRests, most_moves}
use Rattle.nb_client.specs.Snapshots.{Snapshot}
use Rattle.nb_client.specs.Soundness.{IsSound, WasStarted}
use Rattle.nb_client.specs.declared.client.Turn.{Turn}
use Rattle.nb_client.specs.declared.site.Site.{Site}
use Rattle.nb_client.specs.declared.client.Turn.TheVariants as turn
use Rattle.nb_client.specs.declared.stage.Stage.{Stage}
use Rattle.nb_client.specs.declared.stage.Stage.TheVariants as stage

-- what a turn says of where the run stands; out of memory says nothing
abbrev pub IsTurnOf : Turn → Stage → Type 0
IsTurnOf turn.More st = IsAtWork st
IsTurnOf turn.Waiting st = CommandRests st
IsTurnOf turn.Yielded st = ScriptRests st
IsTurnOf (turn.Over s) st = IsFinal s × RunEndsWith st s

-- A client went on by the records that were put, and is sound.
pub record GoesOnBy (used : List In) (before after : Snapshot) (old new : Logged) : Type 0 where
  pub advances : Advances used before after old new
  pub sound : IsSound after.used after.world after.many after.stage
  pub under_way : WasStarted after.stage

-- It did, and the end of the step is nearer, if it isn't over.
pub record MovesOn (before after : Snapshot) (old new : Logged) : Type 0 where
  pub goes : GoesOnBy [] before after old new
  pub nearer : IsAtWork after.stage → most_moves after.stage after < most_moves before.stage before

-- the record comes in the course of a run
abbrev pub IsServed : In → Type 0
IsServed (start s) = ⊥
IsServed (frame bytes) = Unit {0}
IsServed (tick ms) = Unit {0}
IsServed off = ⊥

-- the world that a command of these words leaves
abbrev pub world_left_by : World → List (List ℕ) → World
world_left_by w words = world_with w (table_after w.state.table words) (up_after w.state.table w.state.up words)

-- what a command of this script finds
abbrev pub found_by_script : World → Running → Surroundings
found_by_script w s = surroundings_in_world w s.base s.depth

-- A command ends so at once, in this world: its words are shown so, and it leaves this world.
pub record ComesToEnd (s : Running) (w : World) (shown : ShownWords) (o : CommandOutcome) (after : World) : Type 0 where
  pub name : List ℕ
  pub args : List (List ℕ)
  pub comes : coming s ≡ beginning name args
  pub ends : effect_in (found_by_script w s) (name ∷ args) ≡ says o
  pub shows : shown_words w.state.table (name ∷ args) ≡ shown
  pub leaves : world_left_by w (name ∷ args) ≡ after

-- A command whose words are expanded was carried out in this world, left that one, and came to this.
pub record IsCarriedOutBy (w : World) (d : Deed) (s : Running) (ws : List (List ℕ)) (now : World) : Type 0 where
  pub name : List ℕ
  pub args : List (List ℕ)
  pub comes : coming s ≡ beginning name args
  pub deed_is : effect_in (found_by_script w s) (name ∷ args) ≡ deed_effect d
  pub shows : shown_words w.state.table (name ∷ args) ≡ shown_as true ws
  pub world_is : now ≡ world_left_by w (name ∷ args)
  pub was_linked : IsLinkOfState w

-- where a run stands once a script was left with this cause, in which so many commands began: the innermost of those outside
-- has the cause; where none is outside, the run is over
abbrev pub LeftTo : ℕ → Cause → List Running → Stage → List Running → Type 0
LeftTo commands cause [] st outer = (st ≡ stage.Left cause) × (outer ≡ [])
LeftTo commands cause (s ∷ others) st outer = (st ≡ stage.Returning (record s { begun = commands }) cause) × (outer ≡ others)

-- A script was left so, and all else stayed.
pub record IsLeftAt (commands : ℕ) (cause : Cause) (before : Site) (st : Stage) (after : Site) : Type 0 where
  pub used : after.used ≡ before.used
  pub opens : after.opens ≡ before.opens
  pub world : after.world ≡ world_within before.world after.world.outer
  pub to : LeftTo commands cause before.world.outer st after.world.outer

-- the script goes on, or was left with this cause
abbrev pub IsSettledAt : Option Cause → Running → Site → Stage → Site → Type 0
IsSettledAt None s before st after = (st ≡ stage.Running s) × (after ≡ before)
IsSettledAt (Some cause) s before st after = IsLeftAt s.begun cause before st after

-- A command of this script is over so: its records were put, and the script goes on, or was left.
pub record EndsCommand (shown : ShownWords) (o : CommandOutcome) (s : Running) (before : Site) (st : Stage) (after : Site) (old new : Logged) : Type 0 where
  pub left : Option Cause
  pub then : Running
  pub does : Does shown o left s then old new
  pub settled : IsSettledAt left then before st after

-- `goto` was put, and the script goes on there
pub record GoesAt (shown : ShownWords) (place : Option ℕ) (s : Running) (st : Stage) (old new : Logged) : Type 0 where
  pub after : Running
  pub goes : GoesToLabel shown place s after old new
  pub there : st ≡ stage.Running after
