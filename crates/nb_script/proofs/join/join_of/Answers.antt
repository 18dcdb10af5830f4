use Rattle.std.proofs.Common.{sym, ◌∙◌}
use Rattle.nb_script.proofs.ItemLemmas.{join_and, join_or, join_then}
use Rattle.nb_script.proofs.join.join_of.Goals as goal

pub returns-then-eq-clause-some : goal.returns-then-eq-clause-some
returns-then-eq-clause-some c = join_and c.args.word.now (rw c.as_slice.ensures at (sym c.eq.ensures ∙ c.if-eq.true))

pub returns-then-eq-2-clause-some : goal.returns-then-eq-2-clause-some
returns-then-eq-2-clause-some c =
    join_or c.args.word.now (rw c.as_slice.ensures at (sym c.eq.ensures ∙ c.if-eq.false)) (rw c.as_slice-else-eq.ensures at (sym c.eq-else-eq.ensures ∙ c.if-eq-2.true))

pub returns-then-eq-3-clause-some : goal.returns-then-eq-3-clause-some
returns-then-eq-3-clause-some c =
    join_then c.args.word.now (rw c.as_slice.ensures at (sym c.eq.ensures ∙ c.if-eq.false)) (rw c.as_slice-else-eq.ensures at (sym c.eq-else-eq.ensures ∙ c.if-eq-2.false)) (rw c.as_slice-else-eq-2.ensures at (sym c.eq-else-eq-2.ensures ∙ c.if-eq-3.true))
