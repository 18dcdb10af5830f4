use Rattle.std.proofs.Common.{◌++◌, ◌∷◌, [], subst, sym}
use Rattle.nb_lab.specs.Shows.{seen_of}
use Rattle.nb_lab.specs.Tallies.{Tally, Counts}
use Rattle.nb_lab.proofs.SummaryLemmas.{counts_more}
use Rattle.nb_lab.proofs.summary.Summary.count.Goals as goal

pub returns-clause-counts : goal.returns-clause-counts
returns-clause-counts c = λ ins outs o is h.
    let P : Tally → Type 0 = λ t. Counts t ins (outs ++ o ∷ []) in
    subst P (sym c.add.ensures.counted) (counts_more c.args.self.now ins outs o h (seen_of c.args.shown.now) is)
