use Rattle.std.proofs.Common.{◌≡◌, ◌∙◌, ap, take, length, min, arith}
use Rattle.std.proofs.lemmas.List.{take_min}
use Rattle.nb_image.proofs.part.first_page.Goals as goal

pub returns : goal.returns
returns c =
    let e : c.min.result ≡ min 65536 (length c.args.bytes.now) = omega arith in
    ap (λ k. take k c.args.bytes.now) e ∙ take_min 65536 c.args.bytes.now
