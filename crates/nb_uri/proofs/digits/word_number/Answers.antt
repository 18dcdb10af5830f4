use Rattle.std.proofs.Common.{◌∙◌, sym}
use Rattle.nb_uri.proofs.DigitLemmas.{parsed-word}
use Rattle.nb_uri.proofs.digits.word_number.Goals as goal

pub returns : goal.returns
returns c =
    let digits = rw c.as_bytes.ensures.value at (sym c.if-not-are_digits.ensures) in
    c.ok.ensures.value ∙ parsed-word c.args.base c.args.text.now c.from_str_radix.result c.requires.high digits c.from_str_radix.ensures.value
