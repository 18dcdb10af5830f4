use Rattle.nb_ledger.specs.Flat.{unknown}
use Rattle.nb_chain_tests.proofs.BesideLemmas.{stay_beside, shut_then, other_stays}
use Rattle.nb_chain_tests.proofs.steps.end_file.Goals as goal

pub release-requires-clause-shut : goal.release-requires-clause-shut
release-requires-clause-shut c = shut_then c.args.graph.now c.close.new.graph c.args.chain c.args.cause.now unknown unknown c.requires.ready c.close.ensures.closes

pub returns : goal.returns
returns c =
    other_stays c.args.chain c.close.new.graph c.release.new.graph c.args.other c.has_nodes-2.ensures
    (stay_beside c.args.graph.now c.close.new.graph c.args.chain c.args.other c.has_nodes.ensures c.requires.beside c.close.ensures.on) c.release.ensures.released
