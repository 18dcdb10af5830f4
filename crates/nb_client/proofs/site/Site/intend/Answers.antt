use Rattle.std.proofs.Common.{◌∙◌, ap, subst, sym}
use Rattle.nb_machine.specs.Effects.{says}
use Rattle.nb_runner.specs.Drives.{MayIntend}
use Rattle.nb_runner.specs.Intents.{intent_effect}
use Rattle.nb_client.specs.Soundness.{HasRoomIf}
use Rattle.nb_client.proofs.Results.{if_ok}
use Rattle.nb_client.proofs.site.Site.intend.Goals as goal

pub returns-in-Over-clause-moves : goal.returns-in-Over-clause-moves
returns-in-Over-clause-moves c = if_ok c.go_by.result (λ st f w h. f w (record {
  name = h.name;
  args = h.args;
  comes = h.comes;
  deed_is = h.intends_so ∙ (ap intent_effect c.in-Over.is ∙ ap says (sym c.with.ensures));
  shows = h.shows;
  world_is = h.world_is;
  was_linked = h.was_linked;
})) c.go_by.ensures.moves

pub returns-in-Asks-clause-moves : goal.returns-in-Asks-clause-moves
returns-in-Asks-clause-moves c = if_ok c.ask.result (λ st f w h. f w (record {
  name = h.name;
  args = h.args;
  comes = h.comes;
  asks_so = h.intends_so ∙ ap intent_effect c.in-Asks.is;
  no_disk = tt;
  shows = h.shows;
  world_is = h.world_is;
  was_linked = h.was_linked;
})) c.ask.ensures.moves

pub returns-in-Fetches-clause-moves : goal.returns-in-Fetches-clause-moves
returns-in-Fetches-clause-moves c = if_ok c.ask-in-Fetches.result (λ st f w h. f w (record {
  name = h.name;
  args = h.args;
  comes = h.comes;
  asks_so = h.intends_so ∙ ap intent_effect c.in-Fetches.is;
  no_disk = tt;
  shows = h.shows;
  world_is = h.world_is;
  was_linked = h.was_linked;
})) c.ask-in-Fetches.ensures.moves

pub returns-in-Hooks-clause-moves : goal.returns-in-Hooks-clause-moves
returns-in-Hooks-clause-moves c = if_ok c.go_to_hook.result (λ st f w h. f w (record {
  name = h.name;
  args = h.args;
  comes = h.comes;
  intends_so = h.intends_so ∙ ap intent_effect c.in-Hooks.is;
  shows = h.shows;
  world_is = h.world_is;
  was_linked = h.was_linked;
})) c.go_to_hook.ensures.moves

pub returns-in-LetsGo-clause-moves : goal.returns-in-LetsGo-clause-moves
returns-in-LetsGo-clause-moves c = if_ok c.let_drive_go.result (λ st f w h. f w (record {
  name = h.name;
  args = h.args;
  comes = h.comes;
  intends_so = h.intends_so ∙ ap intent_effect c.in-LetsGo.is;
  shows = h.shows;
  world_is = h.world_is;
  was_linked = h.was_linked;
})) c.let_drive_go.ensures.moves

pub returns-in-Boots-clause-moves : goal.returns-in-Boots-clause-moves
returns-in-Boots-clause-moves c = if_ok c.boot_hooked.result (λ st f w h. f w (record {
  name = h.name;
  args = h.args;
  comes = h.comes;
  intends_so = h.intends_so ∙ ap intent_effect c.in-Boots.is;
  shows = h.shows;
  world_is = h.world_is;
  was_linked = h.was_linked;
})) c.boot_hooked.ensures.moves

-- what a command asks for by a query hooks no disk
pub ask-requires-clause-room : goal.ask-requires-clause-room
ask-requires-clause-room c =
    let w = c.args.self.now.world in
    let may = subst (MayIntend w.opens w.state.drives) c.in-Asks.is c.requires.may in
    (tt, subst (λ b. HasRoomIf b w.state.drives) (sym may.2) tt)
