-- Commands that end at once, and those that were carried out, in the world that they leave.
use Rattle.std.proofs.Common.{◌≡◌, ℕ, true, false, List, ◌∷◌, Ok, Err, refl, sym, ◌∙◌, ap}
use Rattle.nb_terms.specs.declared.cause.Cause.{Cause}
use Rattle.nb_defs.specs.Commands.{CommandOutcome, refused}
use Rattle.nb_command.specs.declared.command_plan.CommandPlan.{CommandPlan}
use Rattle.nb_command.specs.declared.command_plan.CommandPlan.TheVariants as plan
use Rattle.nb_drivecmd.specs.declared.commands.DriveCommand.{DriveCommand}
use Rattle.nb_imagecmd.specs.declared.commands.ImageCommand.{ImageCommand}
use Rattle.nb_imagecmd.specs.declared.error.PlanError.{PlanError}
use Rattle.nb_command.specs.Planning.{planned}
use Rattle.nb_runner.specs.declared.world.World.{World}
use Rattle.nb_runner.specs.World.{IsLinkOfState, world_with, world_with_images}
use Rattle.nb_runner.specs.ImageDeeds.{IsConcludedWell, conclusion_of}
use Rattle.nb_drivecmd.specs.declared.drive.Drive.{Drive}
use Rattle.nb_runner.specs.Drives.{MayIntend}
use Rattle.nb_runner.specs.Intents.{IsAskable, intent_effect}
use Rattle.nb_runner.specs.declared.images.Conclusion.{Conclusion}
use Rattle.nb_runner.specs.declared.intent.Intent.{Intent}
use Rattle.nb_runner.specs.declared.intent.Intent.TheVariants as intent
use Rattle.nb_machine.specs.Effects.{Surroundings, concludes_at_once, images_effect, settled_effect, says, plan_effect, plan_table, plan_up, words_effect, words_table, words_up, table_after, shown_as, plan_cause, drives_effect}
use Rattle.nb_runner.specs.CommandWords.{deed_effect}
use Rattle.nb_runner.specs.declared.command.Deed.{Deed}
use Rattle.nb_runner.specs.declared.command.Deed.TheVariants as deed
use Rattle.nb_machine.specs.Running.{Running}
use Rattle.nb_runner.specs.NextCommand.{HasCommand, HasRefused}
use Rattle.nb_client.specs.Turning.{ComesToEnd, IsCarriedOutBy, found_by_script, world_left_by}
use Rattle.nb_client.specs.Leading.{ConcludesNow}
use Rattle.nb_client.specs.Openings.{Intends}
use Rattle.nb_machine.proofs.Words.{effect_in_of, effect_in_of_plan, effect_of_words, table_of_words, up_of_words, shown_of_words, effect_of_refused, table_of_refused, up_of_refused, shown_of_refused, effect_of_plan, table_of_plan, up_of_plan}
use Rattle.nb_runner.proofs.CommandLaws.{world_stays}

-- a command whose words are expanded ends at once, and leaves the world as it was
pub ends_expanded : (s : Running) (w : World) (ws : List (List ℕ)) (o : CommandOutcome) → IsLinkOfState w → HasCommand s w.state.table ws →
    words_effect w.opens w.state.table ws ≡ says o → words_table w.state.table ws ≡ w.state.table → words_up w.state.up ws ≡ w.state.up → ComesToEnd s w (shown_as true ws) o w
ends_expanded s w ws o linked h e t u = record {
  name = h.name;
  args = h.args;
  comes = h.comes;
  ends = effect_in_of (found_by_script w s) (h.name ∷ h.args) (says o) (effect_of_words w.opens w.state.table (h.name ∷ h.args) ws h.expands ∙ e);
  shows = shown_of_words w.state.table (h.name ∷ h.args) ws h.expands;
  leaves = world_stays w _ _ linked (table_of_words w.state.table (h.name ∷ h.args) ws h.expands ∙ t) (up_of_words w.state.table w.state.up (h.name ∷ h.args) ws h.expands ∙ u);
}

-- so does one whose words aren't
pub ends_unexpanded : (s : Running) (w : World) (ws : List (List ℕ)) (cause : Cause) → IsLinkOfState w → HasRefused s w.state.table ws cause →
    ComesToEnd s w (shown_as false ws) (refused cause) w
ends_unexpanded s w ws cause linked h = record {
  name = h.name;
  args = h.args;
  comes = h.comes;
  ends = effect_in_of (found_by_script w s) (h.name ∷ h.args) (says (refused cause)) (effect_of_refused w.opens w.state.table (h.name ∷ h.args) h.why h.refuses ∙ ap (λ c. says (refused c)) (sym h.cause_is));
  shows = shown_of_refused w.state.table (h.name ∷ h.args) h.why h.refuses ∙ ap (shown_as false) (sym h.are);
  leaves = world_stays w _ _ linked (table_of_refused w.state.table (h.name ∷ h.args) h.why h.refuses) (up_of_refused w.state.table w.state.up (h.name ∷ h.args) h.why h.refuses);
}

-- words that are no command
pub ends_unplanned : (s : Running) (w : World) (ws : List (List ℕ)) (why : PlanError) → IsLinkOfState w → HasCommand s w.state.table ws → planned ws ≡ Err why →
    ComesToEnd s w (shown_as true ws) (refused (plan_cause why)) w
ends_unplanned s w ws why linked h e =
    ends_expanded s w ws (refused (plan_cause why)) linked h (effect_of_plan w.opens w.state.table ws (Err why) e) (table_of_plan w.state.table ws (Err why) e) (up_of_plan w.state.up ws (Err why) e)

settled_deed : (x : Surroundings) (d : Deed) → settled_effect x (deed_effect d) ≡ deed_effect d
settled_deed x (deed.Ends d) = refl
settled_deed x (deed.Goes label) = refl
settled_deed x (deed.Sleeps seconds) = refl
settled_deed x deed.Shuts = refl

-- a command that was carried out, in the world that it leaves
pub carried_deed : (s : Running) (w : World) (ws : List (List ℕ)) (p : CommandPlan) (d : Deed) (now : World) → IsLinkOfState w → HasCommand s w.state.table ws → planned ws ≡ Ok p →
    plan_effect w.opens w.state.table p ≡ deed_effect d → now ≡ world_with w (plan_table p w.state.table) (plan_up p w.state.up) → IsCarriedOutBy w d s ws now
carried_deed s w ws p d now linked h is e world = record {
  name = h.name;
  args = h.args;
  comes = h.comes;
  deed_is = effect_in_of (found_by_script w s) (h.name ∷ h.args) (deed_effect d) (effect_of_words w.opens w.state.table (h.name ∷ h.args) ws h.expands ∙ effect_of_plan w.opens w.state.table ws (Ok p) is ∙ e) ∙ settled_deed (found_by_script w s) d;
  shows = shown_of_words w.state.table (h.name ∷ h.args) ws h.expands;
  world_is = world
      ∙ (ap (λ table. world_with w table (plan_up p w.state.up)) (sym (table_of_words w.state.table (h.name ∷ h.args) ws h.expands ∙ table_of_plan w.state.table ws (Ok p) is))
      ∙ ap (λ up. world_with w (table_after w.state.table (h.name ∷ h.args)) up) (sym (up_of_words w.state.table w.state.up (h.name ∷ h.args) ws h.expands ∙ up_of_plan w.state.up ws (Ok p) is)));
  was_linked = linked;
}

settled_intent : (x : Surroundings) (i : Intent) → settled_effect x (intent_effect i) ≡ intent_effect i
settled_intent x (intent.Over cause) = refl
settled_intent x (intent.Asks query) = refl
settled_intent x (intent.Fetches wanted) = refl
settled_intent x (intent.Hooks hooking) = refl
settled_intent x (intent.LetsGo number cause) = refl
settled_intent x (intent.Boots number) = refl

-- a command whose words are expanded intends this, in the world that it leaves
pub intends_planned : (s : Running) (w : World) (ws : List (List ℕ)) (p : CommandPlan) (i : Intent) (now : World) → IsLinkOfState w → HasCommand s w.state.table ws → planned ws ≡ Ok p →
    plan_effect w.opens w.state.table p ≡ intent_effect i → now ≡ world_with w (plan_table p w.state.table) (plan_up p w.state.up) → Intends w i s ws now
intends_planned s w ws p i now linked h is e world = record {
  name = h.name;
  args = h.args;
  comes = h.comes;
  intends_so = effect_in_of (found_by_script w s) (h.name ∷ h.args) (intent_effect i) (effect_of_words w.opens w.state.table (h.name ∷ h.args) ws h.expands ∙ effect_of_plan w.opens w.state.table ws (Ok p) is ∙ e) ∙ settled_intent (found_by_script w s) i;
  shows = shown_of_words w.state.table (h.name ∷ h.args) ws h.expands;
  world_is = world
      ∙ (ap (λ table. world_with w table (plan_up p w.state.up)) (sym (table_of_words w.state.table (h.name ∷ h.args) ws h.expands ∙ table_of_plan w.state.table ws (Ok p) is))
      ∙ ap (λ up. world_with w (table_after w.state.table (h.name ∷ h.args)) up) (sym (up_of_words w.state.table w.state.up (h.name ∷ h.args) ws h.expands ∙ up_of_plan w.state.up ws (Ok p) is)));
  was_linked = linked;
}

-- a command on images leaves the settings and the device
images_stay : (s : Running) (w : World) (ws : List (List ℕ)) (command : ImageCommand) (h : HasCommand s w.state.table ws) → IsLinkOfState w → planned ws ≡ Ok (plan.Images command) → world_left_by w (h.name ∷ h.args) ≡ w
images_stay s w ws command h linked is = world_stays w _ _ linked (table_of_words w.state.table (h.name ∷ h.args) ws h.expands ∙ table_of_plan w.state.table ws (Ok (plan.Images command)) is)
    (up_of_words w.state.table w.state.up (h.name ∷ h.args) ws h.expands ∙ up_of_plan w.state.up ws (Ok (plan.Images command)) is)

-- one on images that asks for its file, or is refused
pub intends_images : (s : Running) (w : World) (ws : List (List ℕ)) (command : ImageCommand) (i : Intent) (now : World) → IsLinkOfState w → HasCommand s w.state.table ws → planned ws ≡ Ok (plan.Images command) →
    images_effect (found_by_script w s) command ≡ intent_effect i → now ≡ w → Intends w i s ws now
intends_images s w ws command i now linked h is e world = record {
  name = h.name;
  args = h.args;
  comes = h.comes;
  intends_so = effect_in_of_plan (found_by_script w s) (h.name ∷ h.args) ws (plan.Images command) h.expands is ∙ e;
  shows = shown_of_words w.state.table (h.name ∷ h.args) ws h.expands;
  world_is = world ∙ sym (images_stay s w ws command h linked is);
  was_linked = linked;
}

-- or that waits for nothing
pub concludes_images : (s : Running) (w : World) (ws : List (List ℕ)) (command : ImageCommand) (c : Conclusion) (now : World) → HasCommand s w.state.table ws → planned ws ≡ Ok (plan.Images command) →
    images_effect (found_by_script w s) command ≡ concludes_at_once (conclusion_of c now.state.images) → now ≡ world_with_images w now.state.images → IsConcludedWell c s.depth w.state.images now.state.images → ConcludesNow w c s ws now
concludes_images s w ws command c now h is e world well = record {
  name = h.name;
  args = h.args;
  comes = h.comes;
  concludes_so = effect_in_of_plan (found_by_script w s) (h.name ∷ h.args) ws (plan.Images command) h.expands is ∙ e;
  shows = shown_of_words w.state.table (h.name ∷ h.args) ws h.expands;
  world_is = world;
  well = well;
}

-- a drive command leaves the settings and the device
drives_stay : (s : Running) (w : World) (ws : List (List ℕ)) (command : DriveCommand) (h : HasCommand s w.state.table ws) → IsLinkOfState w → planned ws ≡ Ok (plan.Drives command) → world_left_by w (h.name ∷ h.args) ≡ w
drives_stay s w ws command h linked is = world_stays w _ _ linked (table_of_words w.state.table (h.name ∷ h.args) ws h.expands ∙ table_of_plan w.state.table ws (Ok (plan.Drives command)) is)
    (up_of_words w.state.table w.state.up (h.name ∷ h.args) ws h.expands ∙ up_of_plan w.state.up ws (Ok (plan.Drives command)) is)

-- it hooks a disk, lets a drive go, or is refused
pub intends_drives : (s : Running) (w : World) (ws : List (List ℕ)) (command : DriveCommand) (i : Intent) → IsLinkOfState w → HasCommand s w.state.table ws → planned ws ≡ Ok (plan.Drives command) →
    drives_effect (found_by_script w s) command ≡ intent_effect i → Intends w i s ws w
intends_drives s w ws command i linked h is e = record {
  name = h.name;
  args = h.args;
  comes = h.comes;
  intends_so = effect_in_of_plan (found_by_script w s) (h.name ∷ h.args) ws (plan.Drives command) h.expands is ∙ e;
  shows = shown_of_words w.state.table (h.name ∷ h.args) ws h.expands;
  world_is = sym (drives_stay s w ws command h linked is);
  was_linked = linked;
}

-- what asks for something or is over boots no drive
pub intends_plain : (opens : ℕ) (drives : List Drive) (i : Intent) → IsAskable opens i → MayIntend opens drives i
intends_plain opens drives (intent.Over cause) may = may
intends_plain opens drives (intent.Asks query) may = may
intends_plain opens drives (intent.Fetches wanted) may = may
intends_plain opens drives (intent.Hooks hooking) may = may
intends_plain opens drives (intent.LetsGo number cause) may = may
intends_plain opens drives (intent.Boots number) may = absurd may
