use Rattle.nb_tcp.specs.Arriving.{incoming}
use Rattle.nb_tcp.proofs.SegmentStandsLemmas.{segment_stands, segment_ignored}
use Rattle.nb_tcp.proofs.KeptWindowLemmas.{window_here, waits_after_segment}
use Rattle.nb_tcp.proofs.conn.Conn.segment.Goals as goal

pub returns-clause-stands : goal.returns-clause-stands
returns-clause-stands c = λ l start h was alive.
    segment_stands l start c.args.self.now c.come.new.self h (record { rec = c.args.rec; segment = incoming c.args.segment.now }) c.args.now c.come.new.acts was alive c.requires.delivered c.requires.body c.come.ensures

pub returns-clause-ended : goal.returns-clause-ended
returns-clause-ended c = λ l start h was over.
    segment_ignored l start c.args.self.now c.come.new.self h (record { rec = c.args.rec; segment = incoming c.args.segment.now }) c.args.now c.come.new.acts was over c.come.ensures

pub returns-clause-waits : goal.returns-clause-waits
returns-clause-waits c = λ l start h was.
    waits_after_segment l start c.args.self.now c.come.new.self h (record { rec = c.args.rec; segment = incoming c.args.segment.now }) c.args.now c.come.new.acts c.requires.delivered c.requires.body c.come.ensures was

pub returns-clause-window : goal.returns-clause-window
returns-clause-window c = window_here c.args.self.now c.come.new.self c.args.rec (incoming c.args.segment.now) c.args.now c.come.new.acts c.requires.delivered c.come.ensures
