use Rattle.std.proofs.Common.{◌≡◌, ◌+◌, length, take}
use Rattle.std.specs.List.{sum_by}
use Rattle.nb_expand.proofs.words_expansion.are_short.Given as goal

-- the room that the words so far leave
abbrev pub invariant-loop-word : goal.invariant-loop-word
invariant-loop-word l = sum_by length (take l.word-index l.words) + l.room ≡ 4096
