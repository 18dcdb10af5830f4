use Rattle.std.proofs.Common.{◌*◌, ℕ, ap, ◌∙◌}
use Rattle.std.specs.Option.{unwrap_or}
use Rattle.std.specs.Int.{w16, to_be_bytes}
use Rattle.nb_tcpseg.specs.SegmentText.{segment_parts, sent_header_len}
use Rattle.nb_tcpseg.proofs.SentLemmas.{header_written}
use Rattle.nb_tcpseg.proofs.segment.Segment.header.Goals as goal

pub returns-clause-value : goal.returns-clause-value
returns-clause-value c =
    header_written (segment_parts c.args.self.now) (4 * c.sent_header_len.result) (4 * sent_header_len c.args.self.now.mss) c.args.checksum (unwrap_or c.args.self.now.mss 0) _ _ _ _ _ _ _ c.to_be_bytes.ensures c.to_be_bytes-2.ensures c.to_be_bytes-3.ensures c.to_be_bytes-4.ensures (ap (λ (n : ℕ). 4 * n) c.sent_header_len.ensures.value) c.to_be_bytes-5.ensures c.to_be_bytes-6.ensures (c.to_be_bytes-7.ensures ∙ ap (λ (m : ℕ). to_be_bytes w16 m) c.unwrap_or.ensures)
