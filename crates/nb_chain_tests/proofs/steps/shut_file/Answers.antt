use Rattle.nb_ledger.specs.Flat.{unknown}
use Rattle.nb_chain_tests.proofs.BesideLemmas.{gone_then, other_stays}
use Rattle.nb_chain_tests.proofs.steps.shut_file.Goals as goal

pub returns : goal.returns
returns c =
    other_stays c.args.chain c.args.graph.now c.shut_down.new.graph c.args.other c.has_nodes.ensures c.requires.beside
    (gone_then c.args.graph.now c.shut_down.new.graph c.args.chain c.args.cause.now unknown unknown c.requires.ready c.shut_down.ensures)
