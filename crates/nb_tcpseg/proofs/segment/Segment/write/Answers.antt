use Rattle.std.proofs.Common.{◌≡◌, ◌+◌, ◌++◌, length, take, arith, refl}
use Rattle.nb_wire.proofs.BytesLaws.{IsBytes}
use Rattle.nb_tcpseg.specs.SegmentText.{segment_parts, sent_segment}
use Rattle.nb_tcpseg.proofs.SentLemmas.{sent_readable, sent_whole}
use Rattle.nb_tcpseg.proofs.segment.Segment.write.Goals as goal

pub returns-clause-appended : goal.returns-clause-appended
returns-clause-appended c =
    let len = c.sent_header_len-header_len.result in
    let whole : take len c.header-2.result ++ c.args.self.now.body.now ≡ sent_segment c.args.src c.args.dst (segment_parts c.args.self.now) =
    sent_whole c.args.src c.args.dst (segment_parts c.args.self.now) c.pseudo_bytes-pseudo.result c.header.result c.header-2.result len (len + length c.args.self.now.body.now) c.covered_sum-sum.result c.sent_header_len-header_len.ensures.value refl c.pseudo_bytes-pseudo.ensures c.header.ensures.value c.covered_sum-sum.ensures.value c.header-2.ensures.value in
    rw (← whole) c.put_both.ensures.appended

pub returns-clause-readable : goal.returns-clause-readable
returns-clause-readable c =
    let body : IsBytes c.args.self.now.body.now = λ i. omega (arith, c.covered_sum-sum.ensures.bytes i) in
    sent_readable c.args.src c.args.dst (segment_parts c.args.self.now) body c.requires c.header.ensures.fits
