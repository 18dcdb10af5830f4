use Rattle.std.proofs.Common.{List, ℕ, subst, arith, take}
use Rattle.std.proofs.Common.{◌≡◌, ◌<◌, true, length, sym, length-append}
use Rattle.nb_httpmsg.specs.Reader.{Reader}
use Rattle.nb_httpmsg.specs.Feeding.{Feeds, is_open}
use Rattle.nb_httpmsg.specs.Leasts.{FeedsLeast}
use Rattle.nb_httpmsg.proofs.FeedLeastLemmas.{both_least}
use Rattle.nb_httpmsg.proofs.FeedLemmas.{feeds_both, both_taken, both_some}
use Rattle.nb_httpmsg.proofs.chunks.Chunks.run_both.Goals as goal

pub returns-clause-stands : goal.returns-clause-stands
returns-clause-stands c =
    subst (λ (t : List ℕ). Feeds c.args.self.now c.run.new.self t)
    (both_taken c.run-took.result c.run.result c.args.first.now c.args.second.now (omega (arith, c.if-took-first.false, c.run-took.ensures.within)))
    (feeds_both c.args.self.now c.run-took.new.self c.run.new.self (take c.run-took.result c.args.first.now) (take c.run.result c.args.second.now) c.run-took.ensures.stands c.run.ensures.stands)

pub returns-clause-some : goal.returns-clause-some
returns-clause-some c = λ unended room some.
    both_some c.run-took.result c.run.result (length c.args.first.now) (length c.args.second.now) c.run-took.ensures.within c.if-took-first.false (omega (arith, some, length-append c.args.first.now c.args.second.now))
    (λ e l. c.run.ensures.some
    (subst (λ (r : Reader). is_open r.place ≡ true) (sym (c.run-took.ensures.none e)) unended)
    (subst (λ (r : Reader). length r.block < 4096) (sym (c.run-took.ensures.none e)) room) l)

pub returns-clause-least : goal.returns-clause-least
returns-clause-least c =
    subst (λ (t : List ℕ). FeedsLeast c.args.self.now c.run.new.self t)
    (both_taken c.run-took.result c.run.result c.args.first.now c.args.second.now (omega (arith, c.if-took-first.false, c.run-took.ensures.within)))
    (both_least c.args.self.now c.run-took.new.self c.run.new.self (take c.run-took.result c.args.first.now) (take c.run.result c.args.second.now) c.run-took.ensures.stands c.run-took.ensures.least c.run.ensures.least)
