use Rattle.std.proofs.Common.{arith}
use Rattle.nb_reasm.proofs.RunLemmas.{front_byte, front_written}
use Rattle.nb_reasm.proofs.ring.Ring.front.Goals as goal

pub returns-clause-first : goal.returns-clause-first
returns-clause-first c = λ k l. front_byte c.args.self.now k _ c.requires.joinable (omega (arith, l, c.lend_around.ensures.len, c.requires.joinable.from)) (c.lend_around.ensures.first k l)

pub returns-clause-second : goal.returns-clause-second
returns-clause-second c = λ k l. front_byte c.args.self.now _ _ c.requires.joinable (omega (arith, l, c.lend_around.ensures.len, c.requires.joinable.from)) (c.lend_around.ensures.second k l)

pub lend_around-requires-clause-written : goal.lend_around-requires-clause-written
lend_around-requires-clause-written c = λ k l. front_written c.args.self.now c.requires.joinable k l
