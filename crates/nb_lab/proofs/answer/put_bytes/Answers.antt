use Rattle.std.proofs.Common.{◌≡◌, arith, ap, drop, length}
use Rattle.std.proofs.lemmas.List.{length-take}
use Rattle.nb_lab.specs.declared.connection.StreamPart.{StreamPart}
use Rattle.nb_lab.specs.Pages.{response_text, response_piece}
use Rattle.nb_lab.specs.Streams.{part_body, piece_len}
use Rattle.nb_lab.proofs.answer.put_bytes.Goals as goal

pub returns-in-Bytes-clause-short : goal.returns-in-Bytes-clause-short
unfolding response_piece
returns-in-Bytes-clause-short c =
    let p = c.in-Bytes.piece in
    let size = piece_len p in
    let is : length (part_body c.args.part) ≡ length (response_piece p.page p.from size) = ap (λ (q : StreamPart). length (part_body q)) c.in-Bytes.is in
    omega (arith, is, length-take size (drop p.from (response_text p.page)), c.len.ensures.value, c.len.ensures.most)
