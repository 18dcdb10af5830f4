use Rattle.std.proofs.Common.{◌∙◌, sym, lit≤}
use Rattle.std.proofs.lemmas.Str.{IsUtf8-from_ascii}
use Rattle.nb_numerals.proofs.NumberLemmas.{all_digits, digits-ascii, parsed-digits, utf8_taken, taken}
use Rattle.nb_chap.proofs.values.hexadecimal.Goals as goal

pub returns-in_err-ok : goal.returns-in_err-ok
returns-in_err-ok c =
    let digits = all_digits 16 c.args.digits.now (sym c.if-not-are_hexadecimal.ensures) in
    let utf8 = IsUtf8-from_ascii c.args.digits.now (digits-ascii 16 c.args.digits.now (lit≤ tt) digits) in
    absurd (utf8_taken c.from_utf8.result c.args.digits.now _ _ c.from_utf8.ensures.cases utf8 (sym c.ok.ensures.value ∙ c.in_err-ok.was))

pub returns : goal.returns
returns c =
    let same = taken c.from_utf8.result c.in_ok-ok.field-0 _ _ c.from_utf8.ensures.cases (sym c.ok.ensures.value ∙ c.in_ok-ok.was) in
    let parses = rw same.0 at c.from_str_radix.ensures.value in
    c.ok-2.ensures.value ∙ parsed-digits 16 c.args.digits.now c.from_str_radix.result (lit≤ tt) (sym c.if-not-are_hexadecimal.ensures) parses
