use Rattle.nb_webchains.proofs.Releasing.{release_all}
use Rattle.nb_webchains.proofs.web_chain.WebChain.let_all_go.Goals as goal

pub returns : goal.returns
returns g c = λ order loose.
    release_all c.args.self order c.args.graph.now c.let_go.new.graph c.let_go-2.new.graph c.let_go-3.new.graph
    (g.O.Outside.events c.args.out.now) (g.O.Outside.events c.let_go.new.out) (g.O.Outside.events c.let_go-2.new.out) (g.O.Outside.events c.let_go-3.new.out)
    loose c.let_go.ensures c.let_go-2.ensures c.let_go-3.ensures
