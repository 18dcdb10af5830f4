use Rattle.std.proofs.Common.{◌≡◌, true, refl, ◌∷◌, sym, ◌∙◌, ap, subst}
use Rattle.nb_runner.specs.declared.command.Deed.{Deed}
use Rattle.nb_runner.specs.declared.world.World.{World}
use Rattle.nb_runner.specs.CommandWords.{deed_effect, done_of}
use Rattle.nb_machine.proofs.Words.{keeps_table_in, keeps_up_in}
use Rattle.nb_runner.proofs.CommandLaws.{world_stays}
use Rattle.nb_machine.specs.Effects.{effect_in, goes, shown_as, shown_words, sleeps}
use Rattle.nb_client.specs.Snapshots.{snapshot}
use Rattle.nb_client.specs.Turning.{ComesToEnd, MovesOn, found_by_script}
use Rattle.nb_client.specs.declared.stage.Stage.TheVariants as stage
use Rattle.nb_client.proofs.Moves.{ends_goes, goto_goes, sleep_goes}
use Rattle.nb_client.proofs.site.Site.go_by.Goals as goal

pub returns-in-Ends-clause-moves : goal.returns-in-Ends-clause-moves
returns-in-Ends-clause-moves c = λ w h.
    let now = c.args.self.now in
    let shown = shown_as true c.args.words.now in
    let o = done_of c.in-Ends.done in
    let ends : ComesToEnd c.args.script w shown o now.world = record {
      name = h.name;
      args = h.args;
      comes = h.comes;
      ends = h.deed_is ∙ ap (λ (d : Deed). deed_effect d) c.in-Ends.is;
      shows = h.shows;
      leaves = sym h.world_is;
    } in
    ends_goes w now c.finish.new.self c.args.script c.finish.ensures.then c.finish.result shown o c.finish.ensures.left
    c.requires.sound c.requires.words.early ends c.finish.ensures.does c.finish.ensures.settled

pub returns-in-Goes-clause-moves : goal.returns-in-Goes-clause-moves
returns-in-Goes-clause-moves c = λ w h.
    let now = c.args.self.now in
    let s = c.args.script in
    let name = c.as_slice.result.now in
    let ws = h.name ∷ h.args in
    let comes : effect_in (found_by_script w s) ws ≡ goes name = h.deed_is ∙ ap (λ (d : Deed). deed_effect d) c.in-Goes.is ∙ ap goes (sym c.as_slice.ensures.value) in
    let same : now.world ≡ w = h.world_is ∙ world_stays w _ _ h.was_linked (keeps_table_in (found_by_script w s) (goes name) ws comes) (keeps_up_in (found_by_script w s) (goes name) w.state.up ws comes) in
    let here : effect_in (found_by_script now.world s) ws ≡ goes name = subst (λ (x : World). effect_in (found_by_script x s) ws ≡ goes name) (sym same) comes in
    let shows : shown_words now.world.state.table ws ≡ shown_as true c.args.words.now = subst (λ (x : World). shown_words x.state.table ws ≡ shown_as true c.args.words.now) (sym same) h.shows in
    subst (λ (x : World). MovesOn (snapshot now.used x now.opens (stage.Running s)) (snapshot now.used now.world now.opens c.go_to.result) c.args.log.now c.go_to.new.log) same
    (rw c.go_to.ensures.there (goto_goes now.used now.world now.opens s c.go_to.ensures.after (shown_as true c.args.words.now) h.name h.args name _ c.requires.sound h.comes c.requires.words.early c.requires.words.short here shows refl c.go_to.ensures.goes))

pub returns-in-Sleeps-clause-moves : goal.returns-in-Sleeps-clause-moves
returns-in-Sleeps-clause-moves c = λ w h.
    let now = c.args.self.now in
    let s = c.args.script in
    let seconds = c.from.result in
    let ws = h.name ∷ h.args in
    let comes : effect_in (found_by_script w s) ws ≡ sleeps seconds = h.deed_is ∙ ap (λ (d : Deed). deed_effect d) c.in-Sleeps.is ∙ ap sleeps (sym c.from.ensures) in
    let same : now.world ≡ w = h.world_is ∙ world_stays w _ _ h.was_linked (keeps_table_in (found_by_script w s) (sleeps seconds) ws comes) (keeps_up_in (found_by_script w s) (sleeps seconds) w.state.up ws comes) in
    let here : effect_in (found_by_script now.world s) ws ≡ sleeps seconds = subst (λ (x : World). effect_in (found_by_script x s) ws ≡ sleeps seconds) (sym same) comes in
    let shows : shown_words now.world.state.table ws ≡ shown_as true c.args.words.now = subst (λ (x : World). shown_words x.state.table ws ≡ shown_as true c.args.words.now) (sym same) h.shows in
    subst (λ (x : World). MovesOn (snapshot now.used x now.opens (stage.Running s)) (snapshot now.used now.world now.opens c.sleep.result) c.args.log.now c.sleep.new.log) same
    (rw c.sleep.ensures.stage (sleep_goes now.used now.world now.opens s (shown_as true c.args.words.now) h.name h.args seconds c.requires.sound h.comes c.requires.words.early here shows c.sleep.ensures.puts))

pub returns-in-Shuts-clause-moves : goal.returns-in-Shuts-clause-moves
returns-in-Shuts-clause-moves c = rw c.in-Shuts.is c.close_device.ensures.moves
