use Rattle.std.proofs.Common.{◌∙◌}
use Rattle.nb_webchains.proofs.Collecting.{brings_so, collect_on, still_shut}
use Rattle.nb_webchains.proofs.Three.{fetch_in}
use Rattle.nb_webchains.proofs.web_chain.WebChain.collect.Goals as goal

pub returns-clause-on : goal.returns-clause-on
returns-clause-on c = collect_on c.args.self c.args.graph.now c.harvest-load.new.self c.harvest-load.ensures.book c.requires c.harvest-load.ensures.keeps c.harvest-load.ensures.others

pub returns-clause-body : goal.returns-clause-body
returns-clause-body c = λ are t stands.
    c.body_in.ensures ∙ brings_so c.args.self c.args.graph.now are t stands c.harvest-load.new.self c.harvest-load.result c.has_nodes.ensures (c.requires.lives c.args.self.fetch.0 (fetch_in c.args.self))
    (c.harvest-load.ensures.gives (c.requires.lives c.args.self.fetch.0 (fetch_in c.args.self)))

pub returns-clause-shut : goal.returns-clause-shut
returns-clause-shut c = still_shut c.args.self c.args.graph.now c.harvest-load.new.self c.harvest-load.ensures.book
