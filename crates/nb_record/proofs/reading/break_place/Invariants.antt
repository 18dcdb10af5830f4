use Rattle.std.proofs.Common.{take}
use Rattle.nb_record.specs.Reading.{CanBegin}
use Rattle.nb_record.proofs.reading.break_place.Given as goal

-- up to here a record can begin
abbrev pub invariant-loop-place : goal.invariant-loop-place
invariant-loop-place l = CanBegin (take l.place l.bytes)
