use Rattle.std.proofs.Common.{ap, arith}
use Rattle.nb_defs.proofs.RecordLaws.{partial_short}
use Rattle.nb_record.specs.Bytes.{Held}
use Rattle.nb_record.proofs.FeedLemmas.{held_count}
use Rattle.nb_record.proofs.feed.Feed.push.Goals as goal

pub returns-clause-some : goal.returns-clause-some
returns-clause-some c = λ partial some.
    let f = c.self.inside in
    let count = held_count f.bytes.items f.start f.end c.args.self.now c.self.invariant.0 (omega (arith, c.self.invariant, f.bytes.ok.0)) (ap (λ (h : Held). h.bytes) c.self.view_is) in
    omega (arith, partial_short c.args.self.now.bytes partial, some, count, c.min-taken.ensures, c.move_to_front-self-inside.ensures.count)

pub returns-clause-all : goal.returns-clause-all
returns-clause-all c = λ partial small.
    let f = c.self.inside in
    let count = held_count f.bytes.items f.start f.end c.args.self.now c.self.invariant.0 (omega (arith, c.self.invariant, f.bytes.ok.0)) (ap (λ (h : Held). h.bytes) c.self.view_is) in
    omega (arith, partial_short c.args.self.now.bytes partial, small, count, c.min-taken.ensures, c.move_to_front-self-inside.ensures.count)
