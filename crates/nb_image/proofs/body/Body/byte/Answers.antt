use Rattle.std.proofs.Common.{◌≡◌, ◌+◌, ◌*◌, ◌/◌, ◌%◌, ◌<◌, ◌∙◌, ap, arith}
use Rattle.std.specs.Prelude.{slice_get}
use Rattle.std.specs.List.{HoldsAt}
use Rattle.nb_image.proofs.PagesLemmas.{byte_read, byte_of_page}
use Rattle.nb_image.proofs.body.Body.byte.Goals as goal

pub returns : goal.returns
returns c =
    let bytes = c.args.self.now in
    let at = c.args.at in
    let page = c.in_ok-page.page.now in
    let read = byte_read (λ x. HoldsAt (λ y. x.now ≡ y) page (at % 65536)) page (at % 65536) c.get.result c.get.ensures.lookup.3 c.get.ensures.lookup.1 in
    let whole : at ≡ 65536 * (at / 65536) + at % 65536 = omega arith in
    let small : at % 65536 < 65536 = omega arith in
    c.copied.ensures ∙ read ∙ ap (λ bytes. slice_get bytes (at % 65536)) c.in_ok-page.ensures.1 ∙ byte_of_page bytes at (at / 65536) (at % 65536) whole small
