use Rattle.std.proofs.Common.{ℕ, List, ◌+◌, ◌/◌, ap, ◌∙◌}
use Rattle.nb_reasm.specs.Slots.{slot_mark}
use Rattle.nb_reasm.proofs.MarkLemmas.{none_marked}
use Rattle.nb_reasm.proofs.marks.Marks.new.Goals as goal

pub returns-clause-none : goal.returns-clause-none
returns-clause-none c = λ i. ap (λ (w : List ℕ). slot_mark w i) (c.in_ok-words.ensures.items_if_clones_equal (λ y e. e)) ∙ none_marked (c.args.slots / 64 + 1) i
