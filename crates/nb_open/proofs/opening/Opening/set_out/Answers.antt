use Rattle.std.proofs.Common.{sym, subst}
use Rattle.nb_open.specs.Making.{StartsOpen}
use Rattle.nb_open.proofs.SettingOut.{begin_may, starts_so}
use Rattle.nb_open.proofs.opening.Opening.set_out.Goals as goal

pub settle-requires-clause-may : goal.settle-requires-clause-may
settle-requires-clause-may c =
    begin_may c.args.self.now c.args.now c.args.net.now c.args.opened.now c.args.graph.now c.ask.new.graph c.ask.new.graph c.args.rec c.over-out.result c.ask.new.out c.ask.new.out c.ask.new.out.told.value
    c.over-out.ensures.net c.over-out.ensures.who c.over-out.ensures.blank c.in_ok-ask.ensures.asks c.requires.ready

pub returns : goal.returns
returns c = λ number speaker.
    subst (StartsOpen c.args.self.now number c.args.now c.args.net.now c.args.opened.now c.args.graph.now c.settle.new.graph c.in_ok-told.told.value) (sym c.cause_of.ensures)
    (starts_so c.args.self.now c.args.now c.args.net.now c.args.opened.now c.args.graph.now c.ask.new.graph c.settle.new.graph c.args.rec c.over-out.result c.ask.new.out c.settle.new.out c.in_ok-told.told.value
    c.over-out.ensures.net c.over-out.ensures.who c.over-out.ensures.blank c.in_ok-ask.ensures.asks c.requires.ready number c.requires.can speaker c.in_ok-ask.ensures.on c.has_nodes.ensures c.has_nodes-2.ensures c.in_ok-told.ensures.told c.in_ok-told.ensures.whole
    c.in_ok-ended.ended c.in_ok-ended.ensures.settles)
