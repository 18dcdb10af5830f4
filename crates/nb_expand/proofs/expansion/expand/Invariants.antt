use Rattle.std.proofs.Common.{◌≡◌, length}
use Rattle.nb_expand.specs.Expansion.{expanded, tokens}
use Rattle.nb_expand.specs.Gathering.{answer_from}
use Rattle.nb_expand.specs.Values.{named_text}
use Rattle.nb_expand.proofs.expansion.expand.Given as goal

-- what is left of the text gives the answer for the whole
abbrev pub invariant-loop-token : goal.invariant-loop-token
invariant-loop-token l = answer_from (named_text l.table) l.gathered (tokens l.rest) ≡ expanded (named_text l.table) l.text

abbrev pub decreases-loop-token : goal.decreases-loop-token
decreases-loop-token l = length l.rest
