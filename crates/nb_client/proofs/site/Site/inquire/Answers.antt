use Rattle.std.proofs.Common.{sym, subst}
use Rattle.nb_runner.specs.Intents.{IsAskable}
use Rattle.nb_runner.specs.declared.world.World.{World}
use Rattle.nb_client.specs.Soundness.{IsSound}
use Rattle.nb_client.specs.declared.stage.Stage.TheVariants as stage
use Rattle.nb_client.proofs.CommandEnds.{intends_plain, intends_planned}
use Rattle.nb_client.proofs.Moves.{settings_sound}
use Rattle.nb_client.proofs.Results.{if_ok}
use Rattle.nb_client.proofs.site.Site.inquire.Goals as goal

pub intend-requires-2-clause-sound : goal.intend-requires-2-clause-sound
intend-requires-2-clause-sound c =
    let now = c.args.self.now in
    subst (λ (w : World). IsSound now.used w now.opens (stage.Running c.args.script)) (sym c.in_ok-intent.ensures.after) (settings_sound _ _ c.requires.sound)

pub intend-requires-2-clause-may : goal.intend-requires-2-clause-may
intend-requires-2-clause-may c =
    let next = c.intend.new.self in
    let i = c.in_ok-intent.intent in
    intends_plain next.opens next.state.drives i (subst (λ (w : World). IsAskable w.opens i) (sym c.in_ok-intent.ensures.after) c.in_ok-intent.ensures.may)

pub returns-clause-moves : goal.returns-clause-moves
returns-clause-moves c =
    let w = c.args.self.now.world in
    let intends = intends_planned c.args.script w c.args.words.now c.args.plan.now c.in_ok-intent.intent c.intend.new.self c.requires.sound.linked c.requires.words c.requires.value
    c.in_ok-intent.ensures.value c.in_ok-intent.ensures.after in
    if_ok c.intend-2.result (λ st f. f w intends) c.intend-2.ensures.moves
