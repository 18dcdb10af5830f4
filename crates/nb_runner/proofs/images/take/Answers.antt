use Rattle.nb_imagecmd.proofs.ShortLemmas.{script_names_short}
use Rattle.nb_runner.proofs.ImageLaws.{takes_well}
use Rattle.nb_runner.proofs.images.take.Goals as goal

pub returns-in-Ok-clause-well : goal.returns-in-Ok-clause-well
returns-in-Ok-clause-well c = λ opens.
    let takes = takes_well c.args.image c.args.replace c.args.depth c.args.images.now c.take_script.new.images c.in-Ok.script c.requires.may.short c.in-Ok.ensures.value in (
      record {
        named = script_names_short c.args.image c.args.replace c.args.depth c.args.images.now c.take_script.new.images c.in-Ok.script c.requires.may.named c.in-Ok.ensures.value;
        short = takes.short;
      },
      takes.shallow,
    )
