use Rattle.std.proofs.Common.{◌≡◌, ◌*◌, ◌∙◌, sym, ap, arith, take, drop, List, ℕ}
use Rattle.nb_image.specs.Parts.{bytes_of, piece_count}
use Rattle.nb_image.proofs.PartsLemmas.{pieces_past, piece_is}
use Rattle.nb_image.proofs.part.Part.piece.Goals as goal

pub returns-then-p-piece_count : goal.returns-then-p-piece_count
returns-then-p-piece_count c = sym (pieces_past (bytes_of c.args.self.now.bytes) c.args.p (omega (arith, ap piece_count c.len.ensures)))

pub returns : goal.returns
returns c =
    let bytes = bytes_of c.args.self.now.bytes in
    let at : 65536 * c.args.p ≡ c.args.p * 65536 = omega arith in
    let page : c.page.result.now ≡ take 65536 (drop (c.args.p * 65536) bytes) = c.page.ensures ∙ ap (λ (n : ℕ). take 65536 (drop n bytes)) at in
    sym (piece_is bytes c.args.p (c.args.p * 65536) c.page.result.now (omega (arith, ap piece_count c.len.ensures)) (omega arith) page)
