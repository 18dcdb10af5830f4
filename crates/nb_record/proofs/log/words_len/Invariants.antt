use Rattle.std.proofs.Common.{◌≡◌, ◌≤◌, ◌*◌, length, take}
use Rattle.std.specs.List.{flat_map}
use Rattle.nb_defs.specs.Records.{word_text}
use Rattle.nb_record.proofs.log.words_len.Given as goal

-- the bytes of the words so far, at most 4,098 each
abbrev pub invariant-loop-word : goal.invariant-loop-word
invariant-loop-word l = (l.len ≡ length (flat_map word_text (take l.word-index l.words))) × (l.len ≤ 4098 * l.word-index)
