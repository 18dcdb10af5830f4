use Rattle.std.proofs.Common.{refl, sym, subst}
use Rattle.nb_tcpseg.specs.SegmentText.{segment_parts}
use Rattle.nb_conns.specs.declared.stage.Running.{Running as Connected}
use Rattle.nb_conns.specs.Dialogues.{TookSegment, with_segment_call}
use Rattle.nb_conns.proofs.TakenLemmas.{took}
use Rattle.nb_conns.proofs.stage.Running.take.Goals as goal

pub returns : goal.returns
returns c = λ a start calls t.
    let mid : Connected = record { conn = c.segment.new.self; ask = c.args.self.now.ask; closing = c.args.self.now.closing } in
    let new : Connected = record { conn = c.lend.new.self.conn; ask = c.lend.new.self.ask; closing = c.lend.new.self.closing } in
    subst (λ z. TookSegment a start calls (with_segment_call calls c.args.rec (segment_parts c.args.segment.now) c.args.now c.segment.new.acts) c.segment.new.acts c.lend.new.lent new z) (sym c.turns.ensures)
    (took c.args.self.now mid new a start calls c.segment.new.acts c.lend.new.lent c.args.rec (segment_parts c.args.segment.now) c.args.now c.at_end-had_ended.result c.at_end.result
    t refl c.segment.ensures.stands c.segment.ensures.waits c.segment.ensures.window c.lend.ensures c.at_end-had_ended.ensures c.at_end.ensures)
