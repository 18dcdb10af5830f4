use Rattle.nb_tcp.proofs.CallStandsLemmas.{start_stands}
use Rattle.nb_tcp.proofs.conn.Conn.start.Goals as goal

pub returns-clause-stands : goal.returns-clause-stands
returns-clause-stands c = let k = c.in_ok-held in start_stands (record { own_port = c.args.own_port; peer = c.args.peer; peer_port = c.args.peer_port; isn = c.args.isn }) c.in_ok-held.held c.args.now c.asking.result c.asking.ensures c.in_ok-held.ensures.window.0 c.in_ok-held.ensures.window.1 c.in_ok-held.ensures.window.2 c.in_ok-held.ensures.none
