use Rattle.nb_nodes.proofs.LeaseExchangeLemmas.{time_more}
use Rattle.nb_nodes.proofs.cores.DhcpCore.pass_time.Goals as goal

pub returns-clause-calls : goal.returns-clause-calls
returns-clause-calls c = time_more c.args.self.now c.time.new.self c.args.now c.time.new.acts c.time.ensures.stands c.time.ensures.ungranted

pub returns-clause-simple : goal.returns-clause-simple
returns-clause-simple c = record { few = c.time.ensures.simple.few; no_range = c.time.ensures.simple.gives; above = tt; within = tt }
