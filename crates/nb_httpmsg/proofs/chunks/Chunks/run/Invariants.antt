use Rattle.std.proofs.Common.{◌≡◌, ◌≤◌, ◌-◌, length, take}
use Rattle.nb_httpmsg.specs.Feeding.{TakesNone, Feeds}
use Rattle.nb_httpmsg.specs.Leasts.{FeedsLeast}
use Rattle.nb_httpmsg.proofs.chunks.Chunks.run.Given as goal

abbrev pub invariant-loop-at : goal.invariant-loop-at
invariant-loop-at l = record { within : l.at ≤ length l.bytes; stands : Feeds l.initial.self l.self (take l.at l.bytes); fresh : l.at ≡ 0 → l.self ≡ l.initial.self; least : FeedsLeast l.initial.self l.self (take l.at l.bytes); ended : TakesNone l.initial.self l.self l.at }

abbrev pub decreases-loop-at : goal.decreases-loop-at
decreases-loop-at l = length l.bytes - l.at
