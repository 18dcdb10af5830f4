use Rattle.std.proofs.Common.{◌≡◌, ◌+◌, ◌-◌, [], length, ap, arith}
use Rattle.std.specs.Prelude.{nat_lt}
use Rattle.nb_image.specs.Images.{image_of, total_len, with_image}
use Rattle.nb_image.proofs.ListLemmas.{total_with, found_le, len_at_le}
use Rattle.nb_image.proofs.list.is_too_large.Goals as goal

pub overflow_sub-result : goal.overflow_sub-result
overflow_sub-result c =
    omega (arith, len_at_le c.args.place (image_of [] [] [] []) c.args.images.now c.requires.place)

pub returns : goal.returns
returns c = λ image at same.
    let images = c.args.images.now in
    let size : length image.body ≡ length c.args.body.now = ap length same in
    let all : c.total_len.result - c.len_at.result + c.len.result ≡ total_len (with_image image images) =
    omega (arith, total_with c.args.place image images at, found_le c.args.place image images at) in
    ap (nat_lt 536870912) all
