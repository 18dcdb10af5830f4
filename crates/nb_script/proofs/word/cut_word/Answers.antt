use Rattle.std.proofs.Common.{sym}
use Rattle.std.proofs.lemmas.List.{take_rest}
use Rattle.nb_script.proofs.WordsLemmas.{all_words_none, cut_at}
use Rattle.nb_script.proofs.word.cut_word.Goals as goal

pub returns-in_err-start-clause-none : goal.returns-in_err-start-clause-none
returns-in_err-start-clause-none c = λ _. all_words_none c.args.line.now (sym c.in_err-start.ensures)

pub returns-clause-some : goal.returns-clause-some
returns-clause-some c =
    (cut_at c.args.line.now _ c.in_ok-start.start c.word_len.result _ _ (sym c.in_ok-start.ensures) (take_rest c.args.line.now c.in_ok-start.start) c.word_len.ensures.value c.split_at.ensures.front c.split_at.ensures.back).1

pub returns-clause-some_byte : goal.returns-clause-some_byte
returns-clause-some_byte c =
    (cut_at c.args.line.now _ c.in_ok-start.start c.word_len.result _ _ (sym c.in_ok-start.ensures) (take_rest c.args.line.now c.in_ok-start.start) c.word_len.ensures.value c.split_at.ensures.front c.split_at.ensures.back).0
