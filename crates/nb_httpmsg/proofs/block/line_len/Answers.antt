use Rattle.std.proofs.Common.{arith}
use Rattle.nb_httpmsg.proofs.BlockLemmas.{line_here, no_line}
use Rattle.nb_httpmsg.proofs.block.line_len.Goals as goal

pub returns-then-b-eq10-clause-line : goal.returns-then-b-eq10-clause-line
returns-then-b-eq10-clause-line c = line_here c.args.text.now c.loop-i.i c.loop-i-test.true c.if-b-eq10.true c.loop-i.invariant

pub returns-clause-line : goal.returns-clause-line
returns-clause-line c = no_line c.args.text.now (λ k below. c.loop-i.invariant k (omega (arith, below, c.loop-i-test.false)))
