use Rattle.std.proofs.Common.{length, ◌∙◌}
use Rattle.nb_tcp.proofs.CallStandsLemmas.{on_ok, on_err, text_stands, text_ignored, text_refused, too_long_is, long_is}
use Rattle.nb_tcp.proofs.KeptWindowLemmas.{keeps_by, given_held}
use Rattle.nb_tcp.proofs.conn.Conn.send.Goals as goal

pub returns-clause-stands : goal.returns-clause-stands
returns-clause-stands c = on_ok c.give.result (λ follows l start h was alive. text_stands l start c.args.self.now c.give.new.self h c.give.new.acts c.args.bytes.now c.args.now follows was alive) c.give.ensures.ok

pub returns-clause-ended : goal.returns-clause-ended
returns-clause-ended c = λ l start h was over. text_ignored l start c.args.self.now c.give.new.self h c.give.new.acts c.give.result c.args.bytes.now c.args.now c.give.ensures.ended c.give.ensures.ok was over

pub returns-clause-err : goal.returns-clause-err
returns-clause-err c = on_err c.give.result (λ same l start h was. text_refused l start c.args.self.now c.give.new.self h c.give.new.acts same was) c.give.ensures.err

pub returns-clause-too_long : goal.returns-clause-too_long
returns-clause-too_long c = λ l start h was alive long. c.give.ensures.refused (was.over ∙ alive) (too_long_is l start c.args.self.now h (length c.args.bytes.now) was alive long)

pub returns-clause-fits : goal.returns-clause-fits
returns-clause-fits c = λ is l start h was. long_is l start c.args.self.now h (length c.args.bytes.now) c.give.result c.give.ensures.long c.give.ensures.ended is was

pub returns-clause-held : goal.returns-clause-held
returns-clause-held c = keeps_by c.args.self.now c.give.new.self (given_held c.give.result c.args.self.now c.give.new.self c.args.bytes.now c.args.now c.give.new.acts c.give.ensures.ok c.give.ensures.err)
