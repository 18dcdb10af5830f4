use Rattle.std.proofs.Common.{arith, ◌≢◌, ◌≡◌, get_or, sym, ◌∙◌}
use Rattle.std.proofs.lemmas.Str.Pattern.{starts_char}
use Rattle.nb_boot.proofs.PortLemmas.{port-read, port-first}
use Rattle.nb_boot.proofs.words.is_port.Goals.{then-not-starts_with, else-not-starts_with}
use Rattle.nb_boot.proofs.words.is_port.Goals as goal

pub returns-then-not-starts_with-2 : goal.returns-then-not-starts_with-2
returns-then-not-starts_with-2 c =
    let text = c.args.text.now in
    let plus = starts_char 43 text c.starts_with.result c.starts_with.ensures.cases (omega arith) (omega arith) in
    elim c.if-not-starts_with.branch [
      | then-not-starts_with w ↦
          let zero = starts_char 48 text w.starts_with-then-not-starts_with.result w.starts_with-then-not-starts_with.ensures.cases (omega arith) (omega arith) in
          let no_plus : get_or text 0 0 ≢ 43 = λ e. cc (plus.1 e, w.if-not-starts_with.true) in
          let no_zero : get_or text 0 0 ≢ 48 = λ e. grind (arith, zero.1 e, w.value-is, c.if-not-starts_with-2.true) in
          let read = port-read text c.parse.result c.parse.ensures.value.0 no_plus no_zero in
          (λ h. read.0 (sym c.is_ok.ensures.value ∙ h), λ is. c.is_ok.ensures.value ∙ read.1 is)
      | else-not-starts_with w ↦ absurd (grind (arith, w.if-not-starts_with.false, w.value-is, c.if-not-starts_with-2.true))
    ]

pub returns-else-not-starts_with-2 : goal.returns-else-not-starts_with-2
returns-else-not-starts_with-2 c =
    let text = c.args.text.now in
    let plus = starts_char 43 text c.starts_with.result c.starts_with.ensures.cases (omega arith) (omega arith) in (
      λ h. absurd (cc (h, c.if-not-starts_with-2.false)),
      λ is.
          elim c.if-not-starts_with.branch [
            | then-not-starts_with w ↦
                let zero = starts_char 48 text w.starts_with-then-not-starts_with.result w.starts_with-then-not-starts_with.ensures.cases (omega arith) (omega arith) in
                let first : get_or text 0 0 ≡ 48 = zero.0 (grind (arith, w.value-is, c.if-not-starts_with-2.false)) in
                absurd (omega (arith, first, port-first text is))
            | else-not-starts_with w ↦
                let first = plus.0 w.if-not-starts_with.false in
                absurd (omega (arith, first, port-first text is))
          ],
    )
