use Rattle.nb_tcp.proofs.CallStandsLemmas.{shut_stands, close_ignored}
use Rattle.std.proofs.Common.{ap}
use Rattle.nb_tcp.specs.declared.conn.Conn.{Conn}
use Rattle.nb_tcp.proofs.KeptWindowLemmas.{keeps_by}
use Rattle.nb_tcp.proofs.conn.Conn.shut.Goals as goal

pub returns-clause-stands : goal.returns-clause-stands
returns-clause-stands c = λ l start h was alive. shut_stands l start c.args.self.now c.close.new.self h c.close.new.acts c.close.ensures.acts c.close.ensures.after was alive

pub returns-clause-ended : goal.returns-clause-ended
returns-clause-ended c = λ l start h was over. close_ignored l start c.args.self.now c.close.new.self h c.close.new.acts c.close.ensures.acts c.close.ensures.after was over

pub returns-clause-held : goal.returns-clause-held
returns-clause-held c = keeps_by c.args.self.now c.close.new.self (ap (λ (x : Conn). x.held) c.close.ensures.after)
