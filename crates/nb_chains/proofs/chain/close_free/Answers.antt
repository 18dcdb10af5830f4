use Rattle.nb_chains.proofs.FreeSlots.{frees_slots}
use Rattle.nb_chains.proofs.chain.close_free.Goals as goal

pub returns : goal.returns
returns g c = λ ids chained is.
    frees_slots c.args.graph.now c.close.new.self c.close-2.new.self (g.O.Outside.events c.args.out.now) (g.O.Outside.events c.close.new.out) (g.O.Outside.events c.close-2.new.out) c.args.now c.args.id.0 c.args.cause.now
    c.close.ensures.went c.close-2.ensures.went c.has_nodes.ensures c.has_nodes-2.ensures c.has_nodes-3.ensures ids chained is
