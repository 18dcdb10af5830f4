use Rattle.std.proofs.Common.{◌∙◌}
use Rattle.nb_chains.proofs.ChainDoes.{top_in}
use Rattle.nb_chains.proofs.Collecting.{collect_on, collects, still_shut}
use Rattle.nb_chains.proofs.chain.Chain.collect.Goals as goal

pub returns-clause-on : goal.returns-clause-on
returns-clause-on c = collect_on c.args.self c.args.graph.now c.harvest-load.new.self c.harvest-load.ensures.book c.requires c.harvest-load.ensures.keeps c.harvest-load.ensures.others

pub returns-clause-body : goal.returns-clause-body
returns-clause-body c = λ t body e.
    c.body_in.ensures ∙ collects c.args.self c.args.graph.now c.harvest-load.new.self c.harvest-load.ensures.book c.requires c.harvest-load.ensures.keeps c.harvest-load.ensures.others
    c.harvest-load.result c.has_nodes.ensures c.has_nodes-2.ensures (c.harvest-load.ensures.gives (c.requires.lives c.args.self.top.0 (top_in c.args.self))) t body e

pub returns-clause-shut : goal.returns-clause-shut
returns-clause-shut c = still_shut c.args.self c.args.graph.now c.harvest-load.new.self c.harvest-load.ensures.book
