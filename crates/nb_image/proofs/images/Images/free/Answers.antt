use Rattle.std.proofs.Common.{◌≡◌, ◌<◌, ◌∙◌, sym, ap, subst, length, arith}
use Rattle.std.specs.Prelude.{slice_get}
use Rattle.std.specs.Option.{option_and_then}
use Rattle.nb_image.specs.Images.{ImageList, selected_image}
use Rattle.nb_image.proofs.RemoveLemmas.{selected_stays}
use Rattle.nb_image.proofs.images.Images.free.Goals as goal

pub returns-clause-stays : goal.returns-clause-stays
returns-clause-stays c = λ other.
    let items = c.self.inside.images.items in
    let selected = c.self.inside.selected in
    let after = c.selection_without-self-inside.result in
    let same : c.args.self.now.selected ≡ selected = sym (ap (λ (l : ImageList). l.selected) c.self.view_is) in
    let many : length items ≡ length c.args.self.now.images = ap (λ (l : ImageList). length l.images) c.self.view_is in
    let within : c.args.i < length items = omega arith in
    let e = selected_stays items selected c.args.i within (λ is. other (same ∙ is)) in
    let stays : option_and_then (slice_get c.remove.new.self.items) after ≡ option_and_then (slice_get items) selected =
    rw (c.remove.ensures.items, c.selection_without-self-inside.ensures) e in
    subst (λ (l : ImageList). option_and_then (slice_get c.remove.new.self.items) after ≡ selected_image l) c.self.view_is stays
