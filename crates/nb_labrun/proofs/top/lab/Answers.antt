use Rattle.std.proofs.Common.{ℕ, map, subst}
use Rattle.std.specs.String.{string_bytes}
use Rattle.nb_labrun.specs.Shows.{ShowsLab}
use Rattle.nb_labrun.proofs.WordLemmas.{one_number}
use Rattle.nb_labrun.proofs.top.lab.Goals as goal

pub returns-in-Some-clause-shows : goal.returns-in-Some-clause-shows
returns-in-Some-clause-shows g c = λ n named.
    subst (λ (m : ℕ). ShowsLab m c.run.result (g.L.Line.outside c.args.line.now) (g.L.Line.outside c.run.new.line))
    (one_number (map string_bytes c.args.words.now) c.in-Some.n n c.in-Some.ensures.some named) c.run.ensures
