use Rattle.std.proofs.Common.{◌≡◌, ◌≤◌, ◌==◌, false, length, sym, ap, ◌∙◌, arith}
use Rattle.std.specs.List.{list_any}
use Rattle.nb_expand.specs.Values.{named_text}
use Rattle.nb_expand.proofs.WordsExpansionLemmas.{expanded_plain}
use Rattle.nb_expand.proofs.words_expansion.expand_word.Goals as goal

pub returns-clause-value : goal.returns-clause-value
returns-clause-value c =
    let text = c.as_slice-text.result.now in
    let plain : list_any (λ y. y == 36) text ≡ false = sym c.contains.ensures.value ∙ c.if-contains.false in
    let short : length text ≤ 4096 = omega (arith, ap length c.as_slice-text.ensures.value, c.as_slice-text.ensures.fits) in
    let new : c.from_vec.result ≡ text = c.from_vec.ensures ∙ c.in_ok-from_slice.ensures.items in
    rw (new, ← c.as_slice-text.ensures.value) (expanded_plain (named_text c.args.table.now) text plain short)
