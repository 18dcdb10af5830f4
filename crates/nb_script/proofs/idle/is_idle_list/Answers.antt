use Rattle.std.proofs.Common.{sym, ◌∙◌}
use Rattle.nb_script.proofs.IdleLemmas.{idle_words_few}
use Rattle.nb_script.proofs.idle.is_idle_list.Goals as goal

pub returns-then-has_idle_words : goal.returns-then-has_idle_words
returns-then-has_idle_words c =
    c.has_few_words.ensures ∙ sym (rw (sym c.has_idle_words.ensures ∙ c.if-has_idle_words.true) at (idle_words_few c.args.line.now))

pub returns-else-has_idle_words : goal.returns-else-has_idle_words
returns-else-has_idle_words c =
    c.if-has_idle_words.false ∙ sym (rw (sym c.has_idle_words.ensures ∙ c.if-has_idle_words.false) at (idle_words_few c.args.line.now))
