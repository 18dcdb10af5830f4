use Rattle.std.proofs.Common.{◌≡◌, ℕ, sym, ◌∙◌, ap, subst}
use Rattle.std.specs.Option.{option_copied}
use Rattle.nb_image.specs.Images.{ImageList}
use Rattle.nb_machine.specs.Effects.{Surroundings, concludes_at_once, images_effect}
use Rattle.nb_runner.specs.ImageDeeds.{IsConcludedWell, MayFollow, conclusion_of, image_deed_effect}
use Rattle.nb_runner.specs.Intents.{IsAskable, intent_effect}
use Rattle.nb_runner.specs.World.{surroundings_in_world, world_with_images}
use Rattle.nb_runner.specs.declared.images.ImageDeed.{ImageDeed}
use Rattle.nb_runner.specs.declared.world.World.{World}
use Rattle.nb_client.specs.Soundness.{IsSound}
use Rattle.nb_client.specs.Turning.{found_by_script}
use Rattle.nb_client.specs.declared.stage.Stage.TheVariants as stage
use Rattle.nb_client.proofs.CommandEnds.{concludes_images, intends_images, intends_plain}
use Rattle.nb_client.proofs.Concluded.{deed_concludes, deed_intends, follows, images_sound}
use Rattle.nb_client.proofs.Results.{if_ok}
use Rattle.nb_client.proofs.site.Site.do_images.Goals as goal

pub intend-requires-clause-sound : goal.intend-requires-clause-sound
intend-requires-clause-sound c =
    let now = c.args.self.now in
    let next = c.do_images.new.self in
    let well = deed_intends c.in_ok-deed.deed c.in-Intends.intent _ now.world.opens now.world.state.images next.state.images c.in-Intends.is c.in_ok-deed.ensures.well in
    let same : next ≡ now.world = c.in_ok-deed.ensures.after ∙ ap (λ (l : ImageList). world_with_images now.world l) well.1 in
    subst (λ (w : World). IsSound now.used w now.opens (stage.Running c.args.script)) (sym same) c.requires.sound

pub intend-requires-clause-may : goal.intend-requires-clause-may
intend-requires-clause-may c =
    let now = c.args.self.now in
    let next = c.do_images.new.self in
    let well = deed_intends c.in_ok-deed.deed c.in-Intends.intent _ now.world.opens now.world.state.images next.state.images c.in-Intends.is c.in_ok-deed.ensures.well in
    intends_plain next.opens next.state.drives c.in-Intends.intent (subst (λ (w : World). IsAskable w.opens c.in-Intends.intent) (sym c.in_ok-deed.ensures.after) well.0)

pub returns-in-Intends-clause-moves : goal.returns-in-Intends-clause-moves
returns-in-Intends-clause-moves c =
    let now = c.args.self.now in
    let w = now.world in
    let s = c.args.script in
    let next = c.do_images.new.self in
    let i = c.in-Intends.intent in
    let well = deed_intends c.in_ok-deed.deed i _ w.opens w.state.images next.state.images c.in-Intends.is c.in_ok-deed.ensures.well in
    let same : next ≡ w = c.in_ok-deed.ensures.after ∙ ap (λ (l : ImageList). world_with_images w l) well.1 in
    let found : surroundings_in_world w (option_copied c.base.result) c.from-depth.result ≡ found_by_script w s =
    ap (λ b. surroundings_in_world w b c.from-depth.result) c.base.ensures ∙ ap (λ (d : ℕ). surroundings_in_world w s.base d) (c.from-depth.ensures ∙ c.depth.ensures) in
    let value : images_effect (found_by_script w s) c.args.command.now ≡ intent_effect i =
    subst (λ (x : Surroundings). images_effect x c.args.command.now ≡ intent_effect i) found (c.in_ok-deed.ensures.value ∙ ap (λ (d : ImageDeed). image_deed_effect d next.state.images) c.in-Intends.is) in
    let intends = intends_images s w c.args.words.now c.args.command.now i next c.requires.sound.linked c.requires.words c.requires.value value same in
    if_ok c.intend.result (λ st f. f w intends) c.intend.ensures.moves

pub conclude_there-requires-clause-sound : goal.conclude_there-requires-clause-sound
conclude_there-requires-clause-sound c =
    let now = c.args.self.now in
    let images = c.do_images.new.self.state.images in
    let may : MayFollow now.world.state.images = record { named = c.requires.sound.named; short = c.requires.sound.short } in
    let well = deed_concludes c.in_ok-deed.deed c.in-Concludes.conclusion _ now.world.opens now.world.state.images images c.in-Concludes.is c.in_ok-deed.ensures.well in
    subst (λ (w : World). IsSound now.used w now.opens (stage.Running c.args.script)) (sym c.in_ok-deed.ensures.after)
    (images_sound now.used now.world now.opens c.args.script images (follows c.in-Concludes.conclusion _ now.world.state.images images may well) c.requires.sound)

pub conclude_there-requires-clause-well : goal.conclude_there-requires-clause-well
conclude_there-requires-clause-well c =
    let now = c.args.self.now in
    let images = c.do_images.new.self.state.images in
    let well = deed_concludes c.in_ok-deed.deed c.in-Concludes.conclusion _ now.world.opens now.world.state.images images c.in-Concludes.is c.in_ok-deed.ensures.well in
    (now.world.state.images, subst (λ (d : ℕ). IsConcludedWell c.in-Concludes.conclusion d now.world.state.images images) (c.from-depth.ensures ∙ c.depth.ensures) well)

pub returns-in-Concludes-clause-moves : goal.returns-in-Concludes-clause-moves
returns-in-Concludes-clause-moves c =
    let now = c.args.self.now in
    let w = now.world in
    let s = c.args.script in
    let next = c.do_images.new.self in
    let what = c.in-Concludes.conclusion in
    let found : surroundings_in_world w (option_copied c.base.result) c.from-depth.result ≡ found_by_script w s =
    ap (λ b. surroundings_in_world w b c.from-depth.result) c.base.ensures ∙ ap (λ (d : ℕ). surroundings_in_world w s.base d) (c.from-depth.ensures ∙ c.depth.ensures) in
    let value : images_effect (found_by_script w s) c.args.command.now ≡ concludes_at_once (conclusion_of what next.state.images) =
    subst (λ (x : Surroundings). images_effect x c.args.command.now ≡ concludes_at_once (conclusion_of what next.state.images)) found
    (c.in_ok-deed.ensures.value ∙ ap (λ (d : ImageDeed). image_deed_effect d next.state.images) c.in-Concludes.is) in
    let well = subst (λ (d : ℕ). IsConcludedWell what d w.state.images next.state.images) (c.from-depth.ensures ∙ c.depth.ensures)
    (deed_concludes c.in_ok-deed.deed what _ w.opens w.state.images next.state.images c.in-Concludes.is c.in_ok-deed.ensures.well) in
    let concludes = concludes_images s w c.args.words.now c.args.command.now what next c.requires.words c.requires.value value c.in_ok-deed.ensures.after well in
    if_ok c.conclude_there.result (λ st f. f w concludes) c.conclude_there.ensures.moves
