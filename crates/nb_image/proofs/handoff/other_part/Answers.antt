use Rattle.std.proofs.Common.{◌≡◌, ◌/◌, ◌%◌, ◌∙◌, sym, arith, Some}
use Rattle.std.specs.Prelude.{slice_get, option_map}
use Rattle.std.specs.List.{remove}
use Rattle.std.proofs.lemmas.List.Edits.{length-remove}
use Rattle.nb_image.specs.declared.image.Image.{Image}
use Rattle.nb_image.specs.declared.part.PartKind.TheVariants.{InitrdName, Initrd}
use Rattle.nb_image.specs.Parts.{part, part_text}
use Rattle.nb_image.proofs.PartsLemmas.{others_past, other_name, other_body}
use Rattle.nb_image.proofs.handoff.other_part.Goals as goal

pub returns-then-other-len : goal.returns-then-other-len
returns-then-other-len c =
    let images = c.args.images.now.images in
    sym (others_past (remove images c.args.kernel) c.args.k (omega (arith, length-remove images c.args.kernel)))

pub returns-then-k-eq0 : goal.returns-then-k-eq0
returns-then-k-eq0 c =
    let images = c.args.images.now.images in
    let place = c.other_place-place in
    let is : option_map (λ (image : Image). part InitrdName (c.args.k / 2) image.name) (slice_get images place.result) ≡ Some (part_text c.name_part.result) = c.name_part.ensures in
    sym (other_name images c.args.kernel c.args.k place.result c.requires place.ensures.before place.ensures.behind c.if-k-eq0.true ∙ is)

pub returns-else-k-eq0 : goal.returns-else-k-eq0
returns-else-k-eq0 c =
    let images = c.args.images.now.images in
    let place = c.other_place-place in
    let is : option_map (λ (image : Image). part Initrd (c.args.k / 2) image.body) (slice_get images place.result) ≡ Some (part_text c.body_part.result) = c.body_part.ensures in
    let odd : c.args.k % 2 ≡ 1 = omega arith in
    sym (other_body images c.args.kernel c.args.k place.result c.requires place.ensures.before place.ensures.behind odd ∙ is)
