use Rattle.std.proofs.Common.{ℕ, ◌≤◌, List, length, subst, sym}
use Rattle.nb_graph.specs.Trace.{said}
use Rattle.nb_nodes.proofs.LeaseExchangeLemmas.{Received, message_more, taken_short, whole_only}
use Rattle.nb_nodes.proofs.cores.DhcpCore.receive.Goals as goal

pub message-requires : goal.message-requires
message-requires c = subst (λ (z : List ℕ). length z ≤ 1480) (sym c.requires.bytes) (taken_short c.requires.taken.0 (said c.args.msg.now) c.requires.taken.1)

pub granted-requires : goal.granted-requires
granted-requires c = subst (λ (z : List ℕ). length z ≤ 1480) (sym c.requires.bytes) (taken_short c.requires.taken.0 (said c.args.msg.now) c.requires.taken.1)

pub returns-clause-calls : goal.returns-clause-calls
returns-clause-calls c =
    let m = said c.args.msg.now in
    let acts = c.message.new.acts in
    let got : Received c.args.self.now c.message.new.self m.rec c.args.body.now c.args.now acts c.granted.result = record { once = c.message.ensures.stands; is_body = c.message.ensures.granted; is_length = c.granted.ensures.length } in
    message_more c.args.self.now c.message.new.self m c.args.now acts c.granted.result c.bytes_up.result
    (subst (λ (z : List ℕ). Received c.args.self.now c.message.new.self m.rec z c.args.now acts c.granted.result) c.requires.bytes got) c.bytes_up.ensures

pub returns-clause-simple : goal.returns-clause-simple
returns-clause-simple c = whole_only (length c.args.body.now) c.message.new.acts c.granted.result c.bytes_up.result c.bytes_up.ensures c.granted.ensures.few c.message.ensures.simple
