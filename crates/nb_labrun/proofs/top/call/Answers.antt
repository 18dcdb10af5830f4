use Rattle.std.proofs.Common.{inr, map, subst}
use Rattle.std.specs.String.{string_bytes}
use Rattle.nb_labrun.specs.Shows.{ShowsLab}
use Rattle.nb_labrun.proofs.WordLemmas.{no_form, one_form, one_number}
use Rattle.nb_labrun.proofs.top.call.Goals as goal

pub returns-in-Some-clause-bad_words : goal.returns-in-Some-clause-bad_words
returns-in-Some-clause-bad_words g c = (
  λ bad _. subst (λ s. ShowsLab c.in-Some.n s (g.P.Line.outside c.args.printed.now) (g.P.Line.outside c.run.new.line)) bad c.run.ensures,
  λ no. absurd (no (inr (c.in-Some.n, c.in-Some.ensures.some))),
)

pub returns-in-Some-clause-course : goal.returns-in-Some-clause-course
returns-in-Some-clause-course g c = λ are. absurd (one_form _ c.in-Some.n c.in-Some.ensures.some are)

pub returns-in-Some-clause-complete : goal.returns-in-Some-clause-complete
returns-in-Some-clause-complete g c = λ are. absurd (one_form _ c.in-Some.n c.in-Some.ensures.some are)

pub returns-in-Some-clause-determined : goal.returns-in-Some-clause-determined
returns-in-Some-clause-determined g c = λ are. absurd (one_form _ c.in-Some.n c.in-Some.ensures.some are)

pub returns-in-Some-clause-shows : goal.returns-in-Some-clause-shows
returns-in-Some-clause-shows g c = λ n named.
    subst (λ m. ShowsLab m c.run.result (g.P.Line.outside c.args.printed.now) (g.P.Line.outside c.run.new.line))
    (one_number (map string_bytes c.args.words.now) c.in-Some.n n c.in-Some.ensures.some named) c.run.ensures

pub returns-in-None-clause-bad_words : goal.returns-in-None-clause-bad_words
returns-in-None-clause-bad_words g c = no_form (map string_bytes c.args.words.now) _ c.in-None.ensures.none c.netboot.ensures.bad_words

pub returns-in-None-clause-shows : goal.returns-in-None-clause-shows
returns-in-None-clause-shows g c = λ n named. absurd (c.in-None.ensures.none (n, named))
