use Rattle.std.proofs.Common.{◌∙◌, ap, sym}
use Rattle.std.specs.Option.{option_map}
use Rattle.nb_nodes.specs.LeaseExchanges.{asker_of}
use Rattle.nb_nodes.proofs.LeaseExchangeLemmas.{lease_started}
use Rattle.nb_nodes.proofs.cores.DhcpCore.begin.Goals as goal

pub returns-in_default-clause-none : goal.returns-in_default-clause-none
returns-in_default-clause-none c = sym c.read.ensures ∙ ap (option_map asker_of) c.in_default.is

pub returns-clause-some : goal.returns-clause-some
returns-clause-some c = lease_started c.args.bytes.now (asker_of c.in-Some.wanted) c.args.now c.start.result c.start.new.acts (sym c.in-Some.ensures) c.start.ensures.discover c.start.ensures.stands

pub returns-clause-simple : goal.returns-clause-simple
returns-clause-simple c = record { few = c.start.ensures.simple.few; no_range = c.start.ensures.simple.gives; above = tt; within = tt }
