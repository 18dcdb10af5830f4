use Rattle.std.proofs.Common.{◌-◌, ◌∙◌, sym, ap}
use Rattle.nb_wire.specs.Checksum.{sum_word}
use Rattle.nb_wire.proofs.ChecksumLaws.{checksum-sum}
use Rattle.nb_wire.proofs.sum.sum16_of.Goals as goal

pub returns : goal.returns
returns c = λ bytes has. c.complement.ensures ∙ ap (λ n. 65535 - sum_word n) c.from.ensures ∙ sym (checksum-sum bytes c.args.sum_of_words has.fits has.same)
