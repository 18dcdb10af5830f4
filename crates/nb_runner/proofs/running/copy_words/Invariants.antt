use Rattle.std.proofs.Common.{◌≡◌, take}
use Rattle.nb_runner.proofs.running.copy_words.Given as goal

-- the words so far
abbrev pub invariant-loop-word : goal.invariant-loop-word
invariant-loop-word l = l.copy.items ≡ take l.word-index l.words
