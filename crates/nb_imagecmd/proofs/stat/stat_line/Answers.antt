use Rattle.nb_imagecmd.proofs.StatLemmas.{line_at}
use Rattle.nb_imagecmd.proofs.stat.stat_line.Goals as goal

pub returns : goal.returns
returns c =
    let images = c.args.images.now in
    rw (c.in_ok-text.ensures, c.len-size.ensures.value, c.is_selected-is_selected.ensures)
    (line_at images.selected c.args.i images.images c.name-name.result.now c.body.result.now c.name-name.ensures c.body.ensures)
