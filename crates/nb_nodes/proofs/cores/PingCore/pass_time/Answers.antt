use Rattle.nb_ping.specs.PingCalls.{waited}
use Rattle.nb_nodes.proofs.EchoExchangeLemmas.{nothing_only, ping_more}
use Rattle.nb_nodes.proofs.cores.PingCore.pass_time.Goals as goal

pub returns-clause-calls : goal.returns-clause-calls
returns-clause-calls c = ping_more c.args.self.now c.time.new.self (waited c.args.now) c.time.new.acts 0 c.time.ensures.stands

pub returns-clause-simple : goal.returns-clause-simple
returns-clause-simple c = nothing_only 0 c.time.new.acts c.time.ensures.simple
