use Rattle.std.proofs.Common.{◌≡◌, ◌≢◌, get_or, arith}
use Rattle.std.proofs.lemmas.Str.Pattern.{starts_char}
use Rattle.nb_labrun.proofs.WordLemmas.{number-first, number-read, number-reads}
use Rattle.nb_labrun.proofs.words.number.Goals.{then-starts_with-via-then-starts_with, then-starts_with-via-else-starts_with+then-starts_with-2}
use Rattle.nb_labrun.proofs.words.number.Goals as goal

pub returns-then-starts_with-clause-none : goal.returns-then-starts_with-clause-none
returns-then-starts_with-clause-none c = λ n is.
    let text = c.args.text.now in
    let plus = starts_char 43 text c.starts_with.result c.starts_with.ensures.cases (omega arith) (omega arith) in
    elim c.then-starts_with.branch [
      | then-starts_with-via-then-starts_with w ↦
          let first : get_or text 0 0 ≡ 43 = plus.0 w.if-starts_with.true in
          absurd (omega (arith, first, number-first text n is))
      | then-starts_with-via-else-starts_with+then-starts_with-2 w ↦
          let zero = starts_char 48 text w.starts_with-else-starts_with.result w.starts_with-else-starts_with.ensures.cases (omega arith) (omega arith) in
          let first : get_or text 0 0 ≡ 48 = zero.0 w.if-starts_with-2.true in
          absurd (omega (arith, first, number-first text n is))
    ]

pub returns-in-Ok-clause-some : goal.returns-in-Ok-clause-some
returns-in-Ok-clause-some c =
    let text = c.args.text.now in
    let plus = starts_char 43 text c.starts_with.result c.starts_with.ensures.cases (omega arith) (omega arith) in
    let zero = starts_char 48 text c.starts_with-else-starts_with.result c.starts_with-else-starts_with.ensures.cases (omega arith) (omega arith) in
    let no_plus : get_or text 0 0 ≢ 43 = λ e. cc (plus.1 e, c.if-starts_with.false) in
    let no_zero : get_or text 0 0 ≢ 48 = λ e. cc (zero.1 e, c.if-starts_with-2.false) in
    number-read text c.in-Ok.n c.parse.result c.parse.ensures.value.0 (cc c.in-Ok.is) no_plus no_zero (omega (arith, c.if-n-le-MOST_IMAGES.true))

pub returns-in_default-clause-none : goal.returns-in_default-clause-none
returns-in_default-clause-none c = λ n is.
    let text = c.args.text.now in
    let plus = starts_char 43 text c.starts_with.result c.starts_with.ensures.cases (omega arith) (omega arith) in
    let no_plus : get_or text 0 0 ≢ 43 = λ e. cc (plus.1 e, c.if-starts_with.false) in
    let same : c.in-Ok.n ≡ n = cc (c.in-Ok.is, number-reads text n c.parse.result c.parse.ensures.value.0 no_plus is) in
    omega (arith, same, is.high, c.if-n-le-MOST_IMAGES.false)

pub returns-in_default-2-clause-none : goal.returns-in_default-2-clause-none
returns-in_default-2-clause-none c = λ n is.
    let text = c.args.text.now in
    let plus = starts_char 43 text c.starts_with.result c.starts_with.ensures.cases (omega arith) (omega arith) in
    let no_plus : get_or text 0 0 ≢ 43 = λ e. cc (plus.1 e, c.if-starts_with.false) in
    absurd (cc (c.in_default.is, number-reads text n c.parse.result c.parse.ensures.value.0 no_plus is))
