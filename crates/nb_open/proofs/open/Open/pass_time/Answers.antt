use Rattle.std.proofs.Common.{subst, sym}
use Rattle.nb_teller.specs.Spelling.{IsWholeSpelling}
use Rattle.nb_open.proofs.Receiving.{passes_so, time_may}
use Rattle.nb_open.proofs.open.Open.pass_time.Goals as goal

pub settle-requires-clause-may : goal.settle-requires-clause-may
settle-requires-clause-may c =
    time_may c.args.self.now c.args.graph.now c.time.new.graph c.args.net.now c.over-out.result c.time.new.out c.over-out.ensures.net c.over-out.ensures.who c.over-out.ensures.blank
    c.args.now c.time.ensures.does c.requires.open

pub returns : goal.returns
returns c =
    passes_so c.args.self.now c.args.graph.now c.time.new.graph c.args.net.now c.over-out.result c.time.new.out c.over-out.ensures.net c.over-out.ensures.who c.over-out.ensures.blank
    c.args.now c.time.ensures.does c.settle.new.graph c.settle.new.out c.into_told-told.result.value c.in_ok-ended.ended c.time.ensures.on c.in_ok-ended.ensures.settles c.into_told-told.ensures (subst IsWholeSpelling (sym c.into_told-told.ensures) c.in_ok-ended.ensures.whole)
