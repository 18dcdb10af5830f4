use Rattle.nb_reasm.proofs.PassLemmas.{passed_ring, passed_none}
use Rattle.nb_reasm.proofs.ring.Ring.pass.Goals as goal

pub returns-clause-ring : goal.returns-clause-ring
returns-clause-ring c = passed_ring c.args.self.now c.args.count (record { ring = c.requires.ring; front = c.requires.front; none = c.requires.none }) c.requires.small

pub returns-clause-none : goal.returns-clause-none
returns-clause-none c = passed_none c.args.self.now c.args.count (record { ring = c.requires.ring; front = c.requires.front; none = c.requires.none })
