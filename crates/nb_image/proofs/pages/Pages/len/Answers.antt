use Rattle.std.proofs.Common.{arith}
use Rattle.nb_image.proofs.PagesLemmas.{length_all}
use Rattle.nb_image.proofs.pages.Pages.len.Goals as goal

pub returns-clause-value : goal.returns-clause-value
returns-clause-value c =
    let pages = c.args.self.now in
    omega (arith, length_all pages c.requires.full, pages.full.ok.0, pages.last.ok.0)
