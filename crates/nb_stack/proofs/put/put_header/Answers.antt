use Rattle.std.proofs.Common.{◌∙◌}
use Rattle.nb_tcpseg.specs.SegmentText.{segment_parts, sent_segment}
use Rattle.nb_stack.proofs.PutLaws.{length-sent_segment, header_size}
use Rattle.nb_stack.proofs.put.put_header.Goals as goal

pub returns-clause-put : goal.returns-clause-put
returns-clause-put c =
    let e = c.args.ends in
    let s = segment_parts c.args.segment.now in
    let len = length-sent_segment e.from e.to s c.requires.no_options c.requires.no_body in
    let h = rw c.unwrap.ensures at c.write.ensures.appended in
    h ∙ c.put_heads.ensures.put (sent_segment e.from e.to s) len

pub returns-clause-size : goal.returns-clause-size
returns-clause-size c =
    let e = c.args.ends in
    let s = segment_parts c.args.segment.now in
    let len = length-sent_segment e.from e.to s c.requires.no_options c.requires.no_body in
    header_size _ (c.put_heads.ensures.size (sent_segment e.from e.to s) len)
