use Rattle.std.proofs.Common.{sym}
use Rattle.nb_record.proofs.LogLemmas.{Puts-then, Puts-same}
use Rattle.nb_record.proofs.SpellingLemmas.{words_more}
use Rattle.nb_record.proofs.log.Log.put_words.Goals as goal

pub loop-word-preserved : goal.loop-word-preserved
loop-word-preserved c =
    Puts-same _ _ _ _ (sym (words_more c.args.words.now c.loop-word.word-index c.word-item.result c.loop-word-test.true c.word-item.is))
    (Puts-then c.args.self.now c.loop-word.self c.put_word.new.self _ _ c.loop-word.invariant c.put_word.ensures)
