use Rattle.std.proofs.Common.{ap, arith, length}
use Rattle.nb_image.proofs.PagesLemmas.{length_all}
use Rattle.nb_image.proofs.body.Body.push.Goals as goal

pub returns-then-bytes-len-clause-fits : goal.returns-then-bytes-len-clause-fits
returns-then-bytes-len-clause-fits c =
    let pages = c.self.inside.pages in
    omega (arith, length_all pages c.self.invariant.full, ap length c.self.view_is, pages.full.ok.0, pages.last.ok.0)
