use Rattle.std.proofs.Common.{◌≡◌, refl, sym, ap, subst}
use Rattle.std.specs.Prelude.{IfOk}
use Rattle.std.specs.Option.{option_copied}
use Rattle.nb_command.specs.Bases.{base_by}
use Rattle.nb_machine.specs.Effects.{Effect, image_answer_effect}
use Rattle.nb_runner.specs.ImageDeeds.{image_deed_effect}
use Rattle.nb_runner.specs.World.{surroundings_in_world}
use Rattle.nb_runner.proofs.ImageLaws.{fits_well, follows_well, leaves_well, unmoved_well}
use Rattle.nb_runner.proofs.world.World.do_images.Goals as goal

pub deed_of-requires-clause-fits : goal.deed_of-requires-clause-fits
deed_of-requires-clause-fits c =
    let before = c.args.self.now.state.images in
    let left = c.carry_out_images.new.images in
    let base = base_by (option_copied c.args.own) c.args.self.now.state.table in
    fits_well before left c.in-Ok.outcome (record { named = c.requires.named; short = c.requires.short }) c.in-Ok.ensures.fetched (leaves_well c.args.command.now base before left c.in-Ok.outcome c.requires.args c.requires.short c.in-Ok.ensures.value)

pub deed_of-requires-clause-may : goal.deed_of-requires-clause-may
deed_of-requires-clause-may c =
    let base = base_by (option_copied c.args.own) c.args.self.now.state.table in
    follows_well c.args.command.now base c.args.self.now.state.images c.carry_out_images.new.images c.in-Ok.outcome c.requires.args (record { named = c.requires.named; short = c.requires.short }) c.in-Ok.ensures.value

pub returns-in-Ok-clause-value : goal.returns-in-Ok-clause-value
returns-in-Ok-clause-value c =
    let x = surroundings_in_world c.args.self.now (option_copied c.args.own) c.args.depth in
    subst (λ (e : Effect). IfOk c.deed_of.result (λ d. e ≡ image_deed_effect d c.deed_of.new.self.state.images)) (sym (ap (image_answer_effect x) c.in-Ok.ensures.value)) (c.deed_of.ensures.value x refl refl refl)

pub returns-in-Ok-clause-well : goal.returns-in-Ok-clause-well
returns-in-Ok-clause-well c =
    let before = c.args.self.now.state.images in
    let left = c.carry_out_images.new.images in
    let base = base_by (option_copied c.args.own) c.args.self.now.state.table in
    c.deed_of.ensures.well before (unmoved_well before left c.in-Ok.outcome (leaves_well c.args.command.now base before left c.in-Ok.outcome c.requires.args c.requires.short c.in-Ok.ensures.value))
