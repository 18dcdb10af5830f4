use Rattle.nb_dnsmsg.proofs.SectionLemmas.{PassedRecords}
use Rattle.nb_dnsmsg.proofs.section.Section.end.Given as goal

abbrev pub invariant-loop-i : goal.invariant-loop-i
invariant-loop-i l = PassedRecords l.message l.fn.self.start l.place l.i
