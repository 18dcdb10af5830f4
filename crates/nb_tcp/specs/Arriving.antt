-- RFC 9293, section 3.1: a segment that was read, as one that came
use Rattle.std.specs.Prelude.{ℕ, ◌==◌, not, Bool, bit_and}
use Rattle.nb_tcpseg.specs.declared.segment.Segment.{Segment}
use Rattle.nb_streams.specs.Segments.{Incoming}

abbrev pub sets_flag : ℕ → ℕ → Bool
sets_flag flags flag = not (bit_and flags flag == 0)

abbrev pub incoming : Segment → Incoming
incoming s = record {
  number = s.seq;
  acknowledges = s.ack;
  fin = sets_flag s.flags 1;
  syn = sets_flag s.flags 2;
  rst = sets_flag s.flags 4;
  ack = sets_flag s.flags 16;
  window = s.window;
  mss = s.mss;
  body = s.body.now;
}
