use Rattle.nb_tcp.proofs.CallStandsLemmas.{time_stands, time_ignored}
use Rattle.std.proofs.Common.{◌∙◌, ap}
use Rattle.nb_tcp.specs.declared.conn.Conn.{Conn}
use Rattle.nb_tcp.proofs.KeptWindowLemmas.{keeps_by, ticked_held}
use Rattle.nb_tcp.proofs.conn.Conn.time.Goals as goal

pub returns-clause-stands : goal.returns-clause-stands
returns-clause-stands c = λ l start h was alive. time_stands l start c.args.self.now c.tick.new.self h c.tick.new.acts c.args.now c.ranges.now.fits c.tick.ensures.acts c.tick.ensures.after was alive

pub returns-clause-ended : goal.returns-clause-ended
returns-clause-ended c = λ l start h was over. time_ignored l start c.args.self.now c.tick.new.self h c.tick.new.acts c.args.now c.tick.ensures.acts c.tick.ensures.after was over

pub returns-clause-held : goal.returns-clause-held
returns-clause-held c = keeps_by c.args.self.now c.tick.new.self (ap (λ (x : Conn). x.held) c.tick.ensures.after ∙ ticked_held c.args.self.now c.args.now)
