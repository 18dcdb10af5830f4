use Rattle.std.proofs.Common.{◌≡◌, ◌+◌, ◌*◌, ◌<◌, ◌≤◌, ◌++◌, ◌∙◌, length, get_or, sym, refl, ap, arith, []}
use Rattle.std.proofs.lemmas.List.{get_or_read_under}
use Rattle.nb_image.proofs.PagesLemmas.{length_all, page_is, last_is, empty_len, some_len}
use Rattle.nb_image.proofs.pages.Pages.page.Goals as goal
use Rattle.nb_image.proofs.pages.Pages.page.Goals.{then-p-len-2-via-then-p-len-2, then-p-len-2-via-else-p-len-2+then-is_empty}

pub returns-then-p-len : goal.returns-then-p-len
returns-then-p-len c =
    let pages = c.args.self.now in
    let all = length_all pages c.requires.full in
    let within : c.args.p < length pages.full.items = omega (arith, pages.full.ok.0) in
    let is = get_or_read_under pages.full.items c.args.p (length pages.full.items) c.index.result.now [] c.index.ensures within refl in
    (omega (arith, all, within), c.as_slice.ensures ∙ is ∙ sym (page_is pages.full.items pages.last.items c.args.p c.requires.full within))

pub returns-then-p-len-2 : goal.returns-then-p-len-2
returns-then-p-len-2 c =
    let pages = c.args.self.now in
    let all = length_all pages c.requires.full in
    elim c.then-p-len-2.branch [
      | then-p-len-2-via-then-p-len-2 w ↦ omega (arith, all, pages.full.ok.0, c.requires.last)
      | then-p-len-2-via-else-p-len-2+then-is_empty w ↦
          omega (arith, all, pages.full.ok.0, pages.last.ok.0, empty_len pages.last.len _ w.is_empty.ensures w.if-is_empty.true)
    ]

pub returns : goal.returns
returns c =
    let pages = c.args.self.now in
    let all = length_all pages c.requires.full in
    let at : c.args.p ≡ length pages.full.items = omega (arith, pages.full.ok.0) in
    let some : 0 < length pages.last.items = omega (arith, pages.last.ok.0, some_len pages.last.len _ c.is_empty.ensures c.if-is_empty.false) in
    (omega (arith, all, at, some), c.as_slice-2.ensures.value ∙ sym (last_is pages.full.items pages.last.items c.args.p c.requires.full at c.requires.last))
