use Rattle.std.proofs.Common.{◌≡◌}
use Rattle.nb_tcpseg.specs.SegmentText.{segment_parts}
use Rattle.nb_tcpseg.proofs.HeaderLemmas.{laid_out, laid_intact}
use Rattle.nb_tcpseg.proofs.segment.Segment.read.Goals as goal

pub returns-clause-sound : goal.returns-clause-sound
returns-clause-sound c = laid_intact c.args.src c.args.dst c.args.bytes.now (segment_parts c.in_ok-segment.segment) c.in_ok-segment.ensures.sound c.if-not-is_intact.ensures

pub returns-clause-complete : goal.returns-clause-complete
returns-clause-complete c = λ s is. c.in_ok-segment.ensures.complete s (laid_out c.args.src c.args.dst c.args.bytes.now s is)

pub returns-in_err-segment-clause-complete : goal.returns-in_err-segment-clause-complete
returns-in_err-segment-clause-complete c = λ s is. absurd (c.in_err-segment.ensures.complete s (laid_out c.args.src c.args.dst c.args.bytes.now s is))

pub returns-then-not-is_intact-clause-complete : goal.returns-then-not-is_intact-clause-complete
returns-then-not-is_intact-clause-complete c = λ s is. c.if-not-is_intact.ensures is.intact
