use Rattle.std.proofs.Common.{◌++◌, take, subst}
use Rattle.nb_iscsipdu.specs.Streams.{IsGatheredPdu}
use Rattle.nb_iscsipdu.proofs.StreamLemmas.{takes-on, feed-stays}
use Rattle.nb_iscsipdu.proofs.pdus.Pdus.feed.Goals as goal

pub returns-clause-stands : goal.returns-clause-stands
returns-clause-stands c =
    takes-on c.args.self.now c.drop_whole.new.self c.run_both-took.new.self (take c.run_both-took.result (c.args.first.now ++ c.args.second.now)) c.drop_whole.ensures c.run_both-took.ensures.gathers c.run_both-took.ensures.least

pub returns-clause-stays : goal.returns-clause-stays
returns-clause-stays c = λ refused.
    feed-stays c.args.self.now c.drop_whole.new.self c.run_both-took.new.self (c.args.first.now ++ c.args.second.now) c.run_both-took.result (subst IsGatheredPdu c.self.view_is c.self.invariant.1) c.drop_whole.ensures c.run_both-took.ensures.gathers c.run_both-took.ensures.within c.run_both-took.ensures.least refused
