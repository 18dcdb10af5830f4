use Rattle.std.proofs.Common.{refl, sym, ◌∙◌}
use Rattle.nb_script.proofs.WordsLemmas.{words_none, words_comment, words_more}
use Rattle.nb_script.proofs.word.next_word.Goals as goal

pub returns-in_err-word-clause-none : goal.returns-in_err-word-clause-none
returns-in_err-word-clause-none c = λ _. words_none c.args.line.now (c.in_err-word.ensures.none refl)

pub returns-then-starts_with-clause-none : goal.returns-then-starts_with-clause-none
returns-then-starts_with-clause-none c = λ _.
    words_comment c.args.line.now _ _ c.in_ok-word.ensures.some (sym c.starts_with.ensures.value ∙ c.if-starts_with.true)

pub returns-clause-some : goal.returns-clause-some
returns-clause-some c =
    words_more c.args.line.now _ _ c.in_ok-word.ensures.some (sym c.starts_with.ensures.value ∙ c.if-starts_with.false)
