use Rattle.nb_webchains.proofs.Releasing.{shut_loose}
use Rattle.nb_webchains.proofs.web_chain.WebChain.release.Goals as goal

pub returns : goal.returns
returns g c = c.let_all_go.ensures c.requires.shut.order (shut_loose c.args.self c.args.graph.now c.requires.chained c.requires.shut)
