use Rattle.std.proofs.Common.{refl, arith}
use Rattle.nb_reasm.proofs.MarkLemmas.{run_marks}
use Rattle.nb_reasm.proofs.marks.Marks.run_in_word.Goals as goal

pub returns-clause-alike : goal.returns-clause-alike
returns-clause-alike c = λ k l. run_marks c.args.self.now.words.items c.args.slot k c.index.result.now c.unlike.result _ c.args.marked (omega (arith, c.requires)) c.index.ensures (omega (arith, l)) c.unlike.ensures (omega arith) refl (omega (arith, l))
