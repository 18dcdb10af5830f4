use Rattle.std.proofs.Common.{◌≡◌, sym, ◌∙◌, ap}
use Rattle.std.specs.Option.{option_copied}
use Rattle.nb_machine.specs.Effects.{Surroundings, drives_effect}
use Rattle.nb_runner.specs.World.{surroundings_in_world}
use Rattle.nb_client.specs.Turning.{found_by_script}
use Rattle.nb_client.proofs.CommandEnds.{intends_drives}
use Rattle.nb_client.proofs.Results.{if_ok}
use Rattle.nb_client.proofs.site.Site.do_drives.Goals as goal

pub returns-clause-moves : goal.returns-clause-moves
returns-clause-moves c =
    let w = c.args.self.now.world in
    let s = c.args.script in
    let found : surroundings_in_world w (option_copied c.base.result) s.depth ≡ found_by_script w s = ap (λ b. surroundings_in_world w b s.depth) c.base.ensures in
    let value = sym (ap (λ (x : Surroundings). drives_effect x c.args.command.now) found) ∙ c.in_ok-intent.ensures.value s.depth in
    let intends = intends_drives s w c.args.words.now c.args.command.now c.in_ok-intent.intent c.requires.sound.linked c.requires.words c.requires.value value in
    if_ok c.intend.result (λ st f. f w intends) c.intend.ensures.moves

pub intend-requires-clause-may : goal.intend-requires-clause-may
intend-requires-clause-may c = c.in_ok-intent.ensures.may c.args.self.now.world.opens
