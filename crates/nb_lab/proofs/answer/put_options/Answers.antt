use Rattle.std.proofs.Common.{ℕ, length, Some, ap, arith}
use Rattle.nb_tftpmsg.specs.Packets.{packet_text, oack}
use Rattle.nb_lab.specs.Images.{image_len}
use Rattle.nb_lab.proofs.AnswerLemmas.{options_put, length-options, fits_ok}
use Rattle.nb_lab.proofs.answer.put_options.Goals as goal

pub unwrap-requires : goal.unwrap-requires
unwrap-requires c =
    let size = ap (λ (k : ℕ). length (packet_text (oack (Some k) (Some c.len.result)))) c.bytes.ensures.value in
    let short = length-options c.len.result (omega (arith, c.len.ensures.value)) (omega (arith, c.len.ensures.fits)) in
    fits_ok c.write.result _ c.write.ensures.full.0 (λ less. omega (arith, less, size, short, c.requires))

pub returns-clause-put : goal.returns-clause-put
returns-clause-put c =
    options_put _ _ _ _ _ (rw c.unwrap.ensures at c.write.ensures.appended) c.bytes.ensures.value c.len.ensures.value

pub returns-clause-short : goal.returns-clause-short
returns-clause-short c =
    length-options (image_len c.args.image.0) (omega arith) (omega (arith, c.len.ensures.value, c.len.ensures.fits))
