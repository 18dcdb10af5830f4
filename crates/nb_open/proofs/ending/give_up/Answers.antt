use Rattle.nb_open.proofs.GivingUp.{gives_up_so}
use Rattle.nb_open.proofs.ending.give_up.Goals as goal

pub returns : goal.returns
returns c =
    gives_up_so c.args.kind c.args.waits c.args.graph.now c.give_up.new.graph c.over-out.result c.give_up.new.out c.in_ok-freed.freed.value c.requires.waits c.over-out.ensures.blank c.give_up.ensures
    c.in_ok-freed.ensures.told c.in_ok-freed.ensures.whole
