use Rattle.std.proofs.Common.{◌≤◌, length, arith}
use Rattle.nb_imagecmd.proofs.ShortLemmas.{file_names_short}
use Rattle.nb_client.proofs.ImagesLeft.{arrives_well}
use Rattle.nb_client.proofs.concluding.conclude.Goals as goal

pub returns-in-Ok-clause-well : goal.returns-in-Ok-clause-well
returns-in-Ok-clause-well c =
    let asking = c.args.asking.now in
    let uri = c.whole.result.now in
    let before = c.args.images.now in
    let left = c.arrive.new.images in
    let few : length c.args.body ≤ 268435456 = omega (arith, c.len-len.ensures.value, c.len-len.ensures.fits) in
    c.arrived.ensures.well c.args.depth before
    (arrives_well asking c.args.body uri c.args.depth before left c.in-Ok.arrival c.requires.fits few c.requires.may.short c.in-Ok.ensures.value)
    (file_names_short asking c.args.body uri c.args.depth before left c.in-Ok.arrival c.requires.fits.fetched.named c.requires.may.named c.in-Ok.ensures.value)
