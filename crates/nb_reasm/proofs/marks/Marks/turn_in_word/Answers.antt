use Rattle.std.proofs.Common.{arith}
use Rattle.nb_reasm.proofs.MarkLemmas.{turned_here, turned_there}
use Rattle.nb_reasm.proofs.marks.Marks.turn_in_word.Goals as goal

pub returns-clause-turned : goal.returns-clause-turned
returns-clause-turned c = λ i h l. turned_here c.args.self.now.words.items c.args.slot c.args.len c.index_mut.result.now i (omega (arith, c.requires.room)) c.requires.word c.index_mut.ensures.value h l

pub returns-clause-others : goal.returns-clause-others
returns-clause-others c = λ i outside. turned_there c.args.self.now.words.items c.args.slot c.args.len c.index_mut.result.now i (omega (arith, c.requires.room)) c.requires.word c.index_mut.ensures.value outside
