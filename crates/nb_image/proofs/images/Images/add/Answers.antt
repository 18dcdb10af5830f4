use Rattle.std.proofs.Common.{◌≡◌, ◌∙◌, List, Option, None, sym, ap, subst}
use Rattle.nb_image.specs.declared.image.Image.{Image}
use Rattle.nb_image.specs.Images.{ImageList, IsList, image_of, image_place, put_image, with_image, refusal}
use Rattle.nb_image.proofs.AddedLemmas.{added_list, either_list}
use Rattle.nb_image.proofs.images.Images.add.Goals as goal

pub invariant_of-self : goal.invariant_of-self
invariant_of-self c =
    let items = c.self.inside.images.items in
    let selected = c.self.inside.selected in
    let image = c.in_ok-image.image in
    let same : image ≡ image_of c.args.name.now c.args.body c.args.args.now c.args.uri.now = c.in_ok-image.ensures in
    let taken : refusal image items ≡ None =
    ap (λ (i : Image). refusal i items) same
    ∙ ap (λ (l : ImageList). refusal (image_of c.args.name.now c.args.body c.args.args.now c.args.uri.now) l.images) c.self.view_is
    ∙ sym (c.in_default.ensures c.args.args.now c.args.uri.now) in
    let at : c.place_of-place.result ≡ image_place image.name items =
    c.place_of-place.ensures ∙ ap (image_place c.args.name.now) c.as_slice.ensures.value ∙ ap (λ (i : Image). image_place i.name items) (sym same) in
    let IsAList : List Image → Type 0 = λ images. IsList (record { images = images; selected = selected }) in
    let added = added_list image items selected taken c.self.invariant in
    either_list IsAList c.put.result c.put.new.images.items (put_image c.place_of-place.result image items) items c.put.ensures.ok c.put.ensures.refused (subst (λ place. IsAList (put_image place image items)) (sym at) added) c.self.invariant
