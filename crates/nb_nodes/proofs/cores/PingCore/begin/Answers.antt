use Rattle.std.proofs.Common.{◌∙◌, ap, sym}
use Rattle.std.specs.Option.{option_map}
use Rattle.nb_nodes.specs.EchoExchanges.{pinged_by}
use Rattle.nb_nodes.proofs.EchoExchangeLemmas.{nothing_only, ping_started}
use Rattle.nb_nodes.proofs.cores.PingCore.begin.Goals as goal

pub returns-in_default-clause-none : goal.returns-in_default-clause-none
returns-in_default-clause-none c = sym c.read.ensures ∙ ap (option_map pinged_by) c.in_default.is

pub returns-clause-some : goal.returns-clause-some
returns-clause-some c = ping_started c.args.bytes.now (pinged_by c.in-Some.wanted) c.args.now c.start.result c.start.new.acts (sym c.in-Some.ensures) c.start.ensures.request c.start.ensures.stands

pub returns-clause-simple : goal.returns-clause-simple
returns-clause-simple c = nothing_only 0 c.start.new.acts c.start.ensures.simple
