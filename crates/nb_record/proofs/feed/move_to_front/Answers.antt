use Rattle.std.proofs.Common.{◌-◌, arith, take, ap, ◌∙◌, List, ℕ}
use Rattle.nb_record.proofs.FeedLemmas.{moved_front}
use Rattle.nb_record.proofs.feed.move_to_front.Goals as goal

pub returns-clause-moved : goal.returns-clause-moved
returns-clause-moved c =
    ap (λ (x : List ℕ). take (c.args.end - c.args.start) x) c.copy_within.ensures.items
    ∙ moved_front c.args.bytes.now.items c.args.start c.args.end c.requires.ordered (omega (arith, c.requires.within, c.args.bytes.now.ok.0))
