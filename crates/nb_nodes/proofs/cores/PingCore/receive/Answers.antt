use Rattle.std.proofs.Common.{length}
use Rattle.nb_graph.specs.Trace.{said}
use Rattle.nb_ping.specs.PingCalls.{echoed}
use Rattle.nb_nodes.specs.EchoExchanges.{reply_in}
use Rattle.nb_nodes.proofs.EchoExchangeLemmas.{nothing_only, ping_more}
use Rattle.nb_nodes.proofs.cores.PingCore.receive.Goals as goal

pub returns-clause-calls : goal.returns-clause-calls
returns-clause-calls c =
    let m = said c.args.msg.now in
    ping_more c.args.self.now c.message.new.self (echoed (reply_in m) c.args.now) c.message.new.acts m.rec c.message.ensures.stands

pub returns-clause-simple : goal.returns-clause-simple
returns-clause-simple c = nothing_only (length c.args._body.now) c.message.new.acts c.message.ensures.simple
