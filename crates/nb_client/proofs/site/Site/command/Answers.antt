use Rattle.std.proofs.Common.{refl}
use Rattle.nb_imagecmd.specs.declared.error.PlanError.TheVariants as plan_error
use Rattle.nb_client.proofs.CommandEnds.{ends_unplanned}
use Rattle.nb_client.proofs.site.Site.command.Goals as goal

pub do_images-requires-clause-value : goal.do_images-requires-clause-value
do_images-requires-clause-value c = rw c.in-Ok-Images.field-0-is at c.in-Ok-Images.ensures.value

pub do_images-requires-clause-args : goal.do_images-requires-clause-args
do_images-requires-clause-args c =
    let short = rw c.in-Ok-Images.field-0-is at c.in-Ok-Images.ensures.args in
    short c.requires.words.is_ready.few c.requires.words.is_ready.total

pub refuse-requires-clause-refused : goal.refuse-requires-clause-refused
refuse-requires-clause-refused c =
    let now = c.args.self.now in
    let is = rw c.in-Err-Unknown.field-0-is at c.in-Err-Unknown.ensures.unknown in
    rw c.cause.ensures (ends_unplanned c.args.script now.world c.args.words.now plan_error.Unknown c.requires.sound.linked c.requires.words (is refl))

pub refuse-requires-in-Err-Usage-clause-refused : goal.refuse-requires-in-Err-Usage-clause-refused
refuse-requires-in-Err-Usage-clause-refused c =
    let now = c.args.self.now in
    let is = rw c.in-Err-Usage.field-0-is at c.in-Err-Usage.ensures.usage in
    rw c.cause-in-Err-Usage.ensures (ends_unplanned c.args.script now.world c.args.words.now plan_error.Usage c.requires.sound.linked c.requires.words (is refl))
