use Rattle.std.proofs.Common.{◌≡◌, ◌+◌, ◌<◌, ◌^◌, ◌++◌, List, ℕ, length, length-append, arith}
use Rattle.nb_chains.proofs.ChainBegins.{begin_said, begins_chain}
use Rattle.nb_chains.proofs.ChainDoes.{offered_top}
use Rattle.nb_chains.proofs.chain.Chain.begin.Goals as goal

pub returns-clause-on : goal.returns-clause-on
returns-clause-on g c =
    (offered_top c.args.self c.args.graph.now c.down-reach.new.self (g.O.Outside.events c.args.out.now) (g.O.Outside.events c.down-reach.new.out) c.args.now c.requires.chained c.has_nodes.ensures c.has_nodes-2.ensures
    _ (rw c.user.ensures at c.down-reach.ensures.went)).on

pub returns-clause-begins : goal.returns-clause-begins
returns-clause-begins g c =
    let bytes : List ℕ = c.args.first.now ++ c.args.second.now in
    let both : length bytes ≡ length c.args.first.now + length c.args.second.now = length-append c.args.first.now c.args.second.now in
    let fits : length c.args.first.now + length c.args.second.now < 2 ^ 32 = c.requires.short in
    begins_chain c.args.self c.args.graph.now c.down-reach.new.self (g.O.Outside.events c.args.out.now) (g.O.Outside.events c.down-reach.new.out) c.args.now c.args.rec bytes (omega (arith, both, fits))
    (offered_top c.args.self c.args.graph.now c.down-reach.new.self (g.O.Outside.events c.args.out.now) (g.O.Outside.events c.down-reach.new.out) c.args.now c.requires.chained c.has_nodes.ensures c.has_nodes-2.ensures
    (begin_said c.args.rec bytes) (rw (c.user.ensures, c.from.ensures) at c.down-reach.ensures.went))
