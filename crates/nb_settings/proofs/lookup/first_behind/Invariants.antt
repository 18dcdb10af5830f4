use Rattle.std.proofs.Common.{◌≡◌, drop}
use Rattle.std.specs.Option.{option_copied}
use Rattle.nb_settings.specs.Keys.{key_of}
use Rattle.nb_settings.specs.Order.{has_behind}
use Rattle.nb_settings.proofs.OrderLemmas.{sooner_of, soonest}
use Rattle.nb_settings.proofs.lookup.first_behind.Given as goal

-- the first so far and the blocks still to come give what all blocks give
abbrev pub invariant-loop-candidate : goal.invariant-loop-candidate
invariant-loop-candidate l =
    sooner_of (option_copied l.first) (soonest (has_behind (option_copied l.block) (key_of l.key) l.settings) (drop l.candidate-index l.blocks))
    ≡ soonest (has_behind (option_copied l.block) (key_of l.key) l.settings) l.blocks
