use Rattle.std.proofs.Common.{ap, arith, length, take}
use Rattle.std.specs.List.{flat_map}
use Rattle.std.proofs.lemmas.List.{length-append}
use Rattle.nb_defs.specs.Records.{word_text}
use Rattle.nb_record.proofs.SpellingLemmas.{words_more, length-word_text}
use Rattle.nb_record.proofs.log.words_len.Goals as goal

pub loop-word-preserved : goal.loop-word-preserved
loop-word-preserved c =
    let more = words_more c.args.words.now c.loop-word.word-index c.word-item.result c.loop-word-test.true c.word-item.is in
    let front = flat_map word_text (take c.loop-word.word-index c.args.words.now) in (
      omega (arith, ap length more, length-append front (word_text c.word-item.result), length-word_text c.word-item.result, c.len.ensures.value, c.loop-word.invariant.0),
      omega (arith, c.loop-word.invariant.1, c.len.ensures.fits, c.len.ensures.value),
    )
