use Rattle.std.proofs.Common.{◌<◌, arith, subst, sym}
use Rattle.nb_teller.specs.Spelling.{IsWholeSpelling}
use Rattle.nb_open.proofs.Receiving.{receive_may, receives_so}
use Rattle.nb_open.proofs.open.Open.receive.Goals as goal

pub settle-requires-clause-may : goal.settle-requires-clause-may
settle-requires-clause-may c =
    receive_may c.args.self.now c.args.graph.now c.message.new.graph c.args.net.now c.over-out.result c.message.new.out c.over-out.ensures.net c.over-out.ensures.who c.over-out.ensures.blank
    c.args.rec c.args.arrival.now c.args.now c.requires.short c.message.ensures.does c.requires.open

pub returns : goal.returns
returns c =
    let small : c.args.arrival.now.port < 65536 = omega arith in
    receives_so c.args.self.now c.args.graph.now c.message.new.graph c.args.net.now c.over-out.result c.message.new.out c.over-out.ensures.net c.over-out.ensures.who c.over-out.ensures.blank
    c.args.rec c.args.arrival.now c.args.now c.requires.short c.message.ensures.does c.settle.new.graph c.settle.new.out c.into_told-told.result.value c.in_ok-ended.ended small c.message.ensures.on
    c.in_ok-ended.ensures.settles c.into_told-told.ensures (subst IsWholeSpelling (sym c.into_told-told.ensures) c.in_ok-ended.ensures.whole)
