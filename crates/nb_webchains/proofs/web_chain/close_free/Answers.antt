use Rattle.nb_webchains.proofs.Loosening.{goes_loose}
use Rattle.nb_webchains.proofs.web_chain.close_free.Goals as goal

pub returns : goal.returns
returns g c = λ ids chained is.
    goes_loose c.args.graph.now c.close.new.self c.close-2.new.self (g.O.Outside.events c.args.out.now) (g.O.Outside.events c.close.new.out) (g.O.Outside.events c.close-2.new.out) c.args.now c.args.id.0 c.args.cause.now
    c.close.ensures.went c.close-2.ensures.went (λ e. (c.close.ensures.not e).objects) (λ e. (c.close-2.ensures.not e).objects) c.close.ensures.shut c.close-2.ensures.shut c.has_nodes.ensures c.has_nodes-2.ensures c.has_nodes-3.ensures ids chained is
