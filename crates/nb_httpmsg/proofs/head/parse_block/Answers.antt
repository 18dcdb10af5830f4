use Rattle.std.proofs.Common.{arith, refl, take}
use Rattle.nb_httpmsg.proofs.FieldLemmas.{info_of}
use Rattle.nb_httpmsg.proofs.head.parse_block.Goals as goal

pub returns : goal.returns
returns c =
    let head = c.in_ok-head.ensures.head in
    (head.0, info_of c.args.block.now c.parsed.new.spans (take c.in_ok-head.head.headers c.parsed.new.spans) c.in_ok-head.head head.0 c.body_of.result c.location_of.result head.1 c.if-head-block.false (omega (arith, c.parsed.auto.spans)) refl c.body_of.ensures c.location_of.ensures.text c.location_of.ensures.in_block)
