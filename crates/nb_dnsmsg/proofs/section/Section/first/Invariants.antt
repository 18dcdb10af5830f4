use Rattle.std.proofs.Common.{List}
use Rattle.nb_dnsmsg.specs.Records.{ResourceRecord}
use Rattle.nb_dnsmsg.specs.Views.{IsSectionAt}
use Rattle.nb_dnsmsg.proofs.FoundLemmas.{Searched}
use Rattle.nb_dnsmsg.proofs.section.Section.first.Given as goal

abbrev pub invariant-loop-i : goal.invariant-loop-i
invariant-loop-i l = (rs : List ResourceRecord) → IsSectionAt l.message l.fn.self rs → Searched l.message l.want l.name l.place l.i rs
