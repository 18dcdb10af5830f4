use Rattle.std.proofs.Common.{take}
use Rattle.std.specs.List.{flat_map}
use Rattle.nb_defs.specs.Records.{word_text}
use Rattle.nb_record.specs.Logged.{Puts}
use Rattle.nb_record.proofs.log.Log.put_words.Given as goal

-- the words so far were put
abbrev pub invariant-loop-word : goal.invariant-loop-word
invariant-loop-word l = Puts l.initial.self l.self (flat_map word_text (take l.word-index l.words))
