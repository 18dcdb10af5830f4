use Rattle.std.proofs.Common.{◌≡◌, Option, Some, unwrap_or, sym, ap, ◌∙◌}
use Rattle.std.specs.Option.{option_or}
use Rattle.nb_tcpseg.specs.SegmentText.{segment_parts}
use Rattle.nb_lab.specs.declared.connection.StreamPart.{StreamPart}
use Rattle.nb_lab.specs.declared.connection.StreamPart.TheVariants.{Acknowledgement}
use Rattle.nb_lab.proofs.ConnectionLemmas.{counts_so, taken_more, receives_more}
use Rattle.nb_lab.proofs.connection.Connection.take.Goals as goal

pub returns : goal.returns
returns c =
    let s = segment_parts c.args.segment.now in
    let old = c.args.self.now in
    let between = c.acknowledge-next.new.self in
    let new = c.receive-first.new.self in
    let first = c.receive-first.result in
    let next = c.acknowledge-next.result in
    let place = c.place-place.result in
    let is : Some c.unwrap_or.result ≡ Some (unwrap_or (option_or first next) (Acknowledgement place)) =
    ap Some (c.unwrap_or.ensures ∙ ap (λ (o : Option StreamPart). unwrap_or o (Acknowledgement place)) c.or.ensures) in
    taken_more old s c.args.images (Some c.unwrap_or.result) new (sym c.has.ensures ∙ c.if-has.false)
    (counts_so old s (sym c.has-2.ensures ∙ c.if-not-has.false) (sym c.is_closed.ensures ∙ c.if-is_closed.false))
    (sym c.brings_more.ensures ∙ c.if-not-brings_more.false)
    (receives_more old between s c.args.images first next (Some c.unwrap_or.result) place new c.acknowledge-next.ensures.after c.receive-first.ensures
    c.acknowledge-next.ensures.sent c.place-place.ensures is)
