use Rattle.std.proofs.Common.{◌≡◌, ◌++◌, ◌<◌, ◌∙◌, length, take, get_or, sym, ap, arith}
use Rattle.std.specs.List.{concat}
use Rattle.nb_image.proofs.PagesLemmas.{concat_more}
use Rattle.nb_image.proofs.pages.Pages.text.Goals as goal

pub loop-page-preserved : goal.loop-page-preserved
loop-page-preserved c =
    let pages = c.args.self.now.full.items in
    let within : c.loop-page.page-index < length pages = omega (arith, c.args.self.now.full.ok.0) in
    let is = c.page-item.is ∙ ap (λ ps. get_or ps c.loop-page.page-index c.page-item.result) c.deref-page-items.ensures.value in
    let more = concat_more pages c.loop-page.page-index c.page-item.result within is in
    let items = c.in_ok-extend_from_slice.ensures.items in
    items ∙ ap (λ front. front ++ c.as_slice.result.now) c.loop-page.invariant ∙ ap (λ page. concat (take c.loop-page.page-index pages) ++ page) c.as_slice.ensures ∙ sym more
