use Rattle.nb_webchains.specs.WebChains.{web_ids}
use Rattle.nb_webchains.proofs.Shutting.{shuts_web}
use Rattle.nb_webchains.proofs.Three.{conn_in, fetch_in, web_in}
use Rattle.nb_webchains.proofs.web_chain.WebChain.shut_down.Goals as goal

pub returns : goal.returns
returns g c =
    let ids = web_ids c.args.self in
    let one = c.close_free.ensures ids c.close.ensures.on.chained (fetch_in c.args.self) in
    let two = c.close_free-2.ensures ids one.on.chained (web_in c.args.self) in
    let three = c.close_free-3.ensures ids two.on.chained (conn_in c.args.self) in
    shuts_web c.args.self c.args.graph.now c.close.new.graph c.close_free.new.graph c.close_free-2.new.graph c.close_free-3.new.graph c.let_all_go.new.graph
    (g.O.Outside.events c.args.out.now) (g.O.Outside.events c.close.new.out) (g.O.Outside.events c.close_free.new.out) (g.O.Outside.events c.close_free-2.new.out) (g.O.Outside.events c.close_free-3.new.out) (g.O.Outside.events c.let_all_go.new.out)
    c.args.cause.now c.close.ensures.on c.close.ensures.closes one two three c.let_all_go.ensures
