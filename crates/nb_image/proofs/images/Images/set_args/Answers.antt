use Rattle.std.proofs.Common.{◌≡◌, ◌<◌, ◌∙◌, ap, subst, List, ℕ, length, arith}
use Rattle.std.proofs.Math.ListN.{set, length-set}
use Rattle.nb_image.specs.declared.image.Image.{Image}
use Rattle.nb_image.specs.Images.{ImageList, image_of, with_args_at}
use Rattle.nb_image.proofs.ListLemmas.{args_set}
use Rattle.nb_image.proofs.images.Images.set_args.Goals as goal

pub returns-clause-ok : goal.returns-clause-ok
returns-clause-ok c =
    let items = c.self.inside.images.items in
    let image = c.index_mut.result.now in
    let same : length items ≡ length c.args.self.now.images = ap (λ (l : ImageList). length l.images) c.self.view_is in
    let within : c.args.i < length items = omega arith in
    let e = args_set items c.args.i image c.in_ok-args.args within c.index_mut.ensures.value in
    let after : List Image = set items c.args.i (image_of image.name image.body c.in_ok-args.args image.uri) in
    let list : List Image → ImageList = λ xs. record { images = xs; selected = c.self.inside.selected } in
    subst (λ (l : ImageList). list after ≡ record { images = with_args_at c.args.i c.args.args.now l.images; selected = l.selected }) c.self.view_is
    (ap list (e ∙ ap (λ (a : List ℕ). with_args_at c.args.i a items) c.in_ok-args.ensures))

pub returns-clause-len : goal.returns-clause-len
returns-clause-len c =
    let items = c.self.inside.images.items in
    let image = c.index_mut.result.now in
    let same : length items ≡ length c.args.self.now.images = ap (λ (l : ImageList). length l.images) c.self.view_is in
    length-set items c.args.i (image_of image.name image.body c.in_ok-args.args image.uri) ∙ same
