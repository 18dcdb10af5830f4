use Rattle.std.proofs.Common.{◌≡◌, ◌-◌, ◌*◌, min, length, take, ap, sym, ◌∙◌, arith}
use Rattle.std.proofs.lemmas.List.{length-take, take_at}
use Rattle.nb_lab.specs.Images.{image_len, image_piece}
use Rattle.nb_lab.specs.Files.{size_of_block}
use Rattle.nb_lab.proofs.ImageLemmas.{block_piece, length-image_piece}
use Rattle.nb_lab.proofs.answer.fill_block.Goals as goal

pub returns-clause-block : goal.returns-clause-block
returns-clause-block c =
    let m = c.min-len.result in
    let i = c.args.image.0 in
    let size = size_of_block c.args.size in
    let told : length (take m c.args.room.now) ≡ m = omega (arith, length-take m c.args.room.now) in
    let piece : c.fill.new.piece ≡ image_piece i c.min-from.result m = c.fill.ensures ∙ ap (image_piece i c.min-from.result) told in
    let from : c.min-from.result ≡ min ((c.args.n - 1) * size) (image_len i) =
    cc (c.min-from.ensures, c.from.ensures, c.saturating_sub.ensures, c.from-size.ensures, c.bytes.ensures.value, c.len.ensures.value) in
    let count : m ≡ min size (image_len i - c.min-from.result) =
    cc (c.min-len.ensures, c.from-size.ensures, c.bytes.ensures.value, c.len-2.ensures.value) in
    take_at c.fill.new.piece _ m (ap length piece ∙ length-image_piece i c.min-from.result m)
    ∙ piece
    ∙ sym (block_piece i size c.args.n c.min-from.result m from count)
