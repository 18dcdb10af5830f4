use Rattle.nb_open.specs.declared.beginning.Begun.{Begun}
use Rattle.nb_open.proofs.BeginningSo.{begins_open}
use Rattle.nb_open.proofs.opening.Opening.begin.Goals as goal

pub returns : goal.returns
returns c =
    let b : Begun = record { «open» = record { speaker = c.speaker-speaker.result; objects = c.in_ok-objects.objects }; ended = c.in_ok-ended.ended } in
    begins_open c.args.self.now c.args.number c.args.now c.args.waits c.args.net.now c.args.graph.now c.make_objects.new.graph c.set_out.new.graph c.over-out.result c.make_objects.new.out c.in_ok-made.made.value c.in_ok-ended.told.value b
    c.speaker-speaker.ensures c.requires.waits c.in_ok-objects.ensures c.over-out.ensures.blank c.in_ok-made.ensures.told c.in_ok-made.ensures.whole (c.in_ok-ended.ensures c.args.number c.speaker-speaker.ensures)
