use Rattle.std.proofs.Common.{subst, sym}
use Rattle.nb_teller.specs.Spelling.{IsWholeSpelling}
use Rattle.nb_open.proofs.Asking.{asks_so, ask_may}
use Rattle.nb_open.proofs.open.Open.ask.Goals as goal

pub settle-requires-clause-may : goal.settle-requires-clause-may
settle-requires-clause-may c =
    ask_may c.args.self.now c.args.graph.now c.read.new.graph c.args.net.now c.over-out.result c.read.new.out c.over-out.ensures.net c.over-out.ensures.who c.over-out.ensures.blank
    c.args.rec c.args.block c.args.count c.args.now c.read.ensures.does c.requires.open

pub returns : goal.returns
returns c =
    asks_so c.args.self.now c.args.graph.now c.read.new.graph c.args.net.now c.over-out.result c.read.new.out c.over-out.ensures.net c.over-out.ensures.who c.over-out.ensures.blank
    c.args.rec c.args.block c.args.count c.args.now c.read.ensures.does c.settle.new.graph c.settle.new.out c.into_told-told.result.value c.in_ok-ended.ended c.read.ensures.on c.in_ok-ended.ensures.settles c.into_told-told.ensures (subst IsWholeSpelling (sym c.into_told-told.ensures) c.in_ok-ended.ensures.whole)
