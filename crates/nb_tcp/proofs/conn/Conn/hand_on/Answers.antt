use Rattle.nb_tcp.specs.Arriving.{incoming}
use Rattle.nb_tcp.proofs.HandOnLemmas.{on_true, when_true, hand_on_stands, goes_so}
use Rattle.nb_tcp.proofs.conn.Conn.hand_on.Goals as goal

pub returns-clause-stands : goal.returns-clause-stands
returns-clause-stands c = on_true c.pass_on.result _
    (λ k l start h was. hand_on_stands l start c.args.self.now c.pass_on.new.self h (record { rec = c.args._rec; segment = incoming c.args.segment.now }) c.args.now c.pass_on.new.acts was c.requires.delivered c.requires.body k)
    c.pass_on.ensures

pub returns-clause-going : goal.returns-clause-going
returns-clause-going c = λ taken l start h was. goes_so l start c.args.self.now c.pass_on.new.self h (record { rec = c.args._rec; segment = incoming c.args.segment.now }) c.args.now c.pass_on.new.acts was c.requires.delivered c.requires.body
    (when_true c.pass_on.result _ taken c.pass_on.ensures)
