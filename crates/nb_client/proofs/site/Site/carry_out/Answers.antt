use Rattle.std.proofs.Common.{sym, subst}
use Rattle.nb_runner.specs.declared.world.World.{World}
use Rattle.nb_client.specs.Soundness.{IsSound}
use Rattle.nb_client.specs.declared.stage.Stage.TheVariants as stage
use Rattle.nb_client.proofs.CommandEnds.{carried_deed}
use Rattle.nb_client.proofs.Moves.{settings_sound}
use Rattle.nb_client.proofs.Results.{if_ok}
use Rattle.nb_client.proofs.site.Site.carry_out.Goals as goal

pub go_by-requires-clause-sound : goal.go_by-requires-clause-sound
go_by-requires-clause-sound c =
    let now = c.args.self.now in
    subst (λ (w : World). IsSound now.used w now.opens (stage.Running c.args.script)) (sym c.in_ok-deed.ensures.after) (settings_sound _ _ c.requires.sound)

pub returns-clause-moves : goal.returns-clause-moves
returns-clause-moves c =
    let now = c.args.self.now in
    let out = carried_deed c.args.script now.world c.args.words.now c.args.plan.now c.in_ok-deed.deed c.carry_out.new.self c.requires.sound.linked c.requires.words c.requires.value
    (c.in_ok-deed.ensures.value now.world.opens) c.in_ok-deed.ensures.after in
    if_ok c.go_by.result (λ st f. f now.world out) c.go_by.ensures.moves
