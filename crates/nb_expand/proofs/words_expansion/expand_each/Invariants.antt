use Rattle.std.proofs.Common.{◌≡◌, length, drop}
use Rattle.nb_expand.specs.Values.{named_text}
use Rattle.nb_expand.specs.WordsExpansion.{expanded_each}
use Rattle.nb_expand.proofs.WordsExpansionLemmas.{after}
use Rattle.nb_expand.proofs.words_expansion.expand_each.Given as goal

-- the words so far and what is left of them give the answer for all
abbrev pub invariant-loop-word : goal.invariant-loop-word
invariant-loop-word l = record {
  answer : after l.list.items (expanded_each (named_text l.table) (drop l.word-index l.words)) ≡ expanded_each (named_text l.table) l.words;
  count : length l.list.items ≡ l.word-index;
}
