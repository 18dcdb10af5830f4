-- Where a command on images leads once it is concluded: on in its script, to a hand-off, or to another script.
use Rattle.std.specs.Prelude.{◌≡◌, ◌<◌, ◌≤◌, ◌+◌, length, ℕ, Bool, true, false, List, [], ◌∷◌, ◌++◌}
use Rattle.nb_defs.specs.Causes.{ok}
use Rattle.nb_defs.specs.Records.{Out, enter, leave, out_texts, result}
use Rattle.nb_record.specs.Logged.{Logged, Puts}
use Rattle.nb_traced.specs.Plain.{without_graph}
use Rattle.nb_imagecmd.specs.declared.outcome.ScriptImage.{ScriptImage}
use Rattle.nb_scripts.specs.Records.{replace}
use Rattle.nb_scripts.specs.Texts.{IsTextRead}
use Rattle.nb_scripts.specs.declared.entry.TextRead.{TextRead}
use Rattle.nb_scripts.specs.declared.entry.TextRead.TheVariants as read
use Rattle.nb_machine.specs.Conclusions.{conclusion_records}
use Rattle.nb_machine.specs.Conclusions as defs
use Rattle.nb_machine.specs.Courses.{ConclusionLeads, Standing, stands}
use Rattle.nb_machine.specs.Effects.{concludes_at_once, effect_in, shown_as, shown_words}
use Rattle.nb_machine.specs.Lives.{Live}
use Rattle.nb_machine.specs.Running.{Running, beginning, coming, script_in_place, script_within}
use Rattle.nb_machine.specs.States.{State}
use Rattle.nb_runner.specs.ImageDeeds.{IsConcludedWell, conclusion_of}
use Rattle.nb_runner.specs.Steps.{moves_between, moves_in, moves_outside}
use Rattle.nb_runner.specs.World.{world_with_images, world_within}
use Rattle.nb_runner.specs.declared.images.Conclusion.{Conclusion}
use Rattle.nb_runner.specs.declared.world.World.{World}
use Rattle.nb_traced.specs.Holdings.{Holdings}
use Rattle.nb_traced.specs.Outputs.{Arrived, Traced}
use Rattle.nb_network.specs.Many.{AreOpensOf, FitsHoldings}
use Rattle.nb_client.specs.Progressing.{IsAtWork, TracesTo, most_moves}
use Rattle.nb_client.specs.Snapshots.{Snapshot, StandsForProgress, state_of_world}
use Rattle.nb_client.specs.Soundness.{IsSound, WasStarted}
use Rattle.nb_client.specs.Turning.{IsLeftAt, found_by_script}
use Rattle.nb_client.specs.declared.site.Site.{Site}
use Rattle.nb_client.specs.declared.stage.Stage.{Stage}
use Rattle.nb_client.specs.declared.stage.Stage.TheVariants as stage

-- The scripts outside are these, and all else stayed.
pub record IsWithinScripts (outer : List Running) (before after : Site) : Type 0 where
  pub used : after.used ≡ before.used
  pub opens : after.opens ≡ before.opens
  pub world : after.world ≡ world_within before.world outer

-- A text that was read runs within this script, or the script's command has the cause.
abbrev pub RunsTextWithin : Running → TextRead → List ℕ → Site → Site → Stage → Logged → Logged → Type 0
RunsTextWithin s (read.Runs code) uri before after st old new = (st ≡ stage.Running (script_within s uri code)) × (length code ≤ 1048576) × IsWithinScripts (s ∷ before.world.outer) before after
    × Puts old new (out_texts (enter (s.depth + 1) ∷ []))
RunsTextWithin s (read.Refused cause) uri before after st old new = (st ≡ stage.Returning s cause) × (after ≡ before)
    × Puts old new (out_texts (enter (s.depth + 1) ∷ leave (s.depth + 1) cause ∷ []))

-- It runs in place of this script, or that is left with the cause.
abbrev pub RunsTextInPlace : Running → TextRead → List ℕ → Site → Site → Stage → Logged → Logged → Type 0
RunsTextInPlace s (read.Runs code) uri before after st old new = (st ≡ stage.Running (script_in_place s uri code)) × (length code ≤ 1048576) × (after ≡ before)
    × Puts old new (out_texts (replace s.depth ∷ []))
RunsTextInPlace s (read.Refused cause) uri before after st old new = IsLeftAt s.begun cause before st after
    × Puts old new (out_texts (replace s.depth ∷ leave s.depth cause ∷ []))

-- A script of the list runs within this one, or in its place, which gives its command the result Ok.
pub record RunsWithin (s : Running) (image : ScriptImage) (before after : Site) (st : Stage) (old new : Logged) : Type 0 where
  pub text : TextRead
  pub is_read : IsTextRead image.text text
  pub runs : RunsTextWithin s text image.uri before after st old new

pub record RunsInPlace (s : Running) (image : ScriptImage) (before after : Site) (st : Stage) (old new : Logged) : Type 0 where
  pub text : TextRead
  pub is_read : IsTextRead image.text text
  pub between : Logged
  pub ends : Puts old between (out_texts (result ok ∷ []))
  pub runs : RunsTextInPlace s text image.uri before after st between new

abbrev pub RunsBy : Running → ScriptImage → Bool → Site → Site → Stage → Logged → Logged → Type 0
RunsBy s image false before after st old new = RunsWithin s image before after st old new
RunsBy s image true before after st old new = RunsInPlace s image before after st old new

-- A conclusion leads there in this state, by these records.
pub record LeadsThere (s : State) (inner : Running) (outer : List Running) (c : defs.Conclusion) (put : List Out) (n : ℕ) (after : Snapshot) : Type 0 where
  pub more : List Out
  pub to : Standing
  pub is_put : put ≡ conclusion_records c ++ more
  pub leads : ConclusionLeads s inner outer c more to
  pub stands_so : StandsForProgress after (stands n to)

-- A conclusion of a command of this script was carried on, in a world that has its images already, from one in which a script ran.
pub record LeadsOnBy (inner : Running) (c : Conclusion) (before : Site) (after : Snapshot) (old new : Logged) : Type 0 where
  pub rest : List Out
  pub puts : Puts old new (out_texts rest)
  pub comes : (live : List Live) → AreOpensOf before.opens.graph before.opens.list live →
      LeadsThere (state_of_world before.world live) inner before.world.outer (conclusion_of c before.world.state.images) (without_graph rest) before.used after
  pub traces : (outs : List Out) (h : Holdings) (so_far : List Arrived) → Traced outs h so_far → FitsHoldings before.opens before.world.opens [] h →
      TracesTo after (outs ++ rest) so_far
  pub sound : IsSound after.used after.world after.many after.stage
  pub under_way : WasStarted after.stage
  pub nearer : IsAtWork after.stage → most_moves after.stage after < moves_in inner + moves_between + moves_outside before.world.outer

-- A command on images whose words are expanded comes to this at once, in this world, and leaves that one.
pub record ConcludesNow (w : World) (c : Conclusion) (s : Running) (ws : List (List ℕ)) (now : World) : Type 0 where
  pub name : List ℕ
  pub args : List (List ℕ)
  pub comes : coming s ≡ beginning name args
  pub concludes_so : effect_in (found_by_script w s) (name ∷ args) ≡ concludes_at_once (conclusion_of c now.state.images)
  pub shows : shown_words w.state.table (name ∷ args) ≡ shown_as true ws
  pub world_is : now ≡ world_with_images w now.state.images
  pub well : IsConcludedWell c s.depth w.state.images now.state.images
