use Rattle.std.proofs.Common.{◌≡◌, ◌∷◌, ◌++◌, [], length, refl, ap, arith}
use Rattle.std.proofs.lemmas.List.{length_push}
use Rattle.std.proofs.lemmas.List.Elements.{All-push, All-same}
use Rattle.nb_image.specs.Pages.{IsFullPage}
use Rattle.nb_image.proofs.PagesLemmas.{length_all, turned}
use Rattle.nb_image.proofs.pages.Pages.turn.Goals as goal

pub returns-clause-paged : goal.returns-clause-paged
returns-clause-paged c =
    let was = c.args.self.now in
    let pages = was.full.items in
    let items : c.push_reserved.new.self.items ≡ pages ++ was.last.items ∷ [] = rw (c.push_reserved.ensures.items, c.reserve.ensures.items, c.from_vec.ensures, c.replace-page.ensures.value) refl in
    let none : c.replace-page.new.dest.items ≡ [] = rw (c.replace-page.ensures.after) c.in_ok-next.ensures.items in
    record {
      full = All-same IsFullPage c.push_reserved.new.self.items (pages ++ was.last.items ∷ []) items (All-push IsFullPage pages was.last.items c.requires.paged.full c.requires.full);
      last = omega (arith, ap length none);
      few = omega (arith, ap length items, length_push pages was.last.items, length_all was c.requires.paged.full, c.requires.fits, c.requires.full);
    }

pub returns-clause-bytes : goal.returns-clause-bytes
returns-clause-bytes c =
    rw (c.push_reserved.ensures.items, c.reserve.ensures.items, c.from_vec.ensures, c.replace-page.ensures.value, c.replace-page.ensures.after, c.in_ok-next.ensures.items)
    (turned c.args.self.now.full.items c.args.self.now.last.items)
