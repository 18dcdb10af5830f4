use Rattle.std.proofs.Common.{◌≡◌, length}
use Rattle.std.specs.Option.{option_and_then}
use Rattle.nb_tftpmsg.specs.Reading.{pairs_reading, texts, options_reading}
use Rattle.nb_tftpmsg.specs.FoundViews.{found_of}
use Rattle.nb_tftpmsg.proofs.options.Options.read.Given as goal

-- What is left gives after the values so far what all of it gives.
abbrev pub invariant-loop-rest : goal.invariant-loop-rest
invariant-loop-rest l = option_and_then (pairs_reading (found_of l.found)) (texts l.rest) ≡ options_reading l.fn.bytes

abbrev pub decreases-loop-rest : goal.decreases-loop-rest
decreases-loop-rest l = length l.rest
