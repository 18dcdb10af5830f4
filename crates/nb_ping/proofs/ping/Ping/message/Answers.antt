use Rattle.std.proofs.Common.{subst, sym}
use Rattle.nb_terms.specs.declared.acts.Acts.{Acts}
use Rattle.nb_ping.specs.declared.state.State.{State}
use Rattle.nb_ping.specs.Pings.{AsksOneEcho}
use Rattle.nb_ping.specs.PingCalls.{echo_reply}
use Rattle.nb_ping.specs.PingStands.{PingStands}
use Rattle.nb_ping.proofs.PingStandsLemmas.{echo_stands, echo_over}
use Rattle.nb_ping.proofs.PingSimpleLemmas.{echo_simple}
use Rattle.nb_ping.proofs.ping.Ping.message.Goals as goal

pub returns-clause-stands : goal.returns-clause-stands
returns-clause-stands c = λ p start h stands going.
    echo_stands p start c.self.inside.state c.reply.new.self h (echo_reply c.args.src c.args.ident) c.args.now c.reply.new.acts c.reply.ensures.acts c.reply.ensures.after
    (subst (λ (x : State). PingStands p start x h) (sym c.self.view_is) stands) going

pub returns-clause-ended : goal.returns-clause-ended
returns-clause-ended c = λ p start h stands ended.
    echo_over p start c.self.inside.state c.reply.new.self h (echo_reply c.args.src c.args.ident) c.reply.new.acts c.reply.ensures.acts c.reply.ensures.after
    (subst (λ (x : State). PingStands p start x h) (sym c.self.view_is) stands) ended

pub returns-clause-simple : goal.returns-clause-simple
returns-clause-simple c = subst (λ (acts : Acts). AsksOneEcho acts) (sym c.reply.ensures.acts) (echo_simple c.self.inside.state (echo_reply c.args.src c.args.ident))
