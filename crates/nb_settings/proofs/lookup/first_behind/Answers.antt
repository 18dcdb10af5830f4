use Rattle.std.proofs.Common.{◌+◌, ◌∙◌, ap, sym, drop, Option, Some}
use Rattle.std.specs.Borrow.{Bor}
use Rattle.std.specs.Option.{option_copied}
use Rattle.nb_settings.specs.declared.block.Block.{Block}
use Rattle.nb_settings.specs.Keys.{key_of}
use Rattle.nb_settings.specs.Order.{has_behind}
use Rattle.nb_settings.proofs.OrderLemmas.{sooner_of, soonest, soonest-passes, soonest-fails, soonest-end, find-by_priority}
use Rattle.nb_settings.proofs.lookup.first_behind.Goals as goal
use Rattle.nb_settings.proofs.lookup.first_behind.Goals.{then-has_behind, else-has_behind}

pub loop-candidate-preserved : goal.loop-candidate-preserved
loop-candidate-preserved c =
    let test = has_behind (option_copied c.args.block) (key_of c.args.key.now) c.args.settings.now in
    let blocks = c.args.blocks.now in
    let i = c.loop-candidate.candidate-index in
    let b = c.candidate-item.result in
    let first = option_copied c.loop-candidate.first in
    let rest = soonest test (drop (i + 1) blocks) in
    elim c.if-has_behind.branch [
      | then-has_behind w ↦
          ap (λ (o : Option (Bor Block)). sooner_of (option_copied o) rest) w.first-is
          ∙ ap (λ (x : Block). sooner_of (Some x) rest) w.sooner.ensures
          ∙ soonest-passes test first blocks i b c.loop-candidate-test.true c.candidate-item.is (sym c.has_behind.ensures ∙ w.if-has_behind.true)
          ∙ c.loop-candidate.invariant
      | else-has_behind w ↦
          ap (λ (o : Option (Bor Block)). sooner_of (option_copied o) rest) w.first-is
          ∙ soonest-fails test first blocks i b c.loop-candidate-test.true c.candidate-item.is (sym c.has_behind.ensures ∙ w.if-has_behind.false)
          ∙ c.loop-candidate.invariant
    ]

pub returns : goal.returns
returns c =
    let test = has_behind (option_copied c.args.block) (key_of c.args.key.now) c.args.settings.now in
    let blocks = c.args.blocks.now in
    sym (soonest-end test (option_copied c.loop-candidate.first) blocks c.loop-candidate.candidate-index c.loop-candidate-test.false)
    ∙ c.loop-candidate.invariant
    ∙ sym (find-by_priority test blocks)
