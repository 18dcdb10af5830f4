use Rattle.std.proofs.Common.{◌≡◌, Some, None, sym, ◌∙◌}
use Rattle.nb_open.proofs.objects.file_of.Goals as goal

pub returns-in-Some-clause-hands : goal.returns-in-Some-clause-hands
returns-in-Some-clause-hands c = record {
  two = λ t b below out. c.collect.ensures.body t b out;
  one = λ none. absurd (let no : Some c.in-Some.field-0 ≡ None = sym c.in-Some.is ∙ none in cc);
}
