use Rattle.std.proofs.Common.{[], ◌∷◌, arith}
use Rattle.nb_record.specs.View.{in_of}
use Rattle.nb_boot.specs.Going.{flaw_status}
use Rattle.nb_boot.proofs.Turned.{waits_rests, yields_rests, keeps_nothing, keeps_log, keeps_leads, over_steps, cut_stops, after_steps}
use Rattle.nb_boot.proofs.play.take.Goals as goal

pub returns-in-Err : goal.returns-in-Err
returns-in-Err g c =
    let now = g.L.Line.outside c.args.line.now in
    cut_stops (flaw_status c.in-Err.flaw) (in_of c.args.entry.now ∷ []) now now (g.L.Line.outside c.make_room.new.line)
    c.args.log.now c.args.log.now c.args.client.now c.args.client.now (keeps_nothing now c.args.log.now c.args.client.now) c.in-Err.ensures.err

pub returns-in-More : goal.returns-in-More
returns-in-More g c =
    let used = in_of c.args.entry.now ∷ [] in
    let first = g.L.Line.outside c.args.line.now in
    let now = g.L.Line.outside c.make_room.new.line in
    let kept = keeps_log first now c.args.log.now c.make_room.new.log c.args.client.now c.in-Ok.ensures.ok in
    after_steps c.go_on.result used first now (g.L.Line.outside c.go_on.new.line) c.args.log.now c.step.new.log c.go_on.new.log
    c.args.client.now c.step.new.self c.go_on.new.client
    (keeps_leads used first now c.args.log.now c.make_room.new.log c.step.new.log c.args.client.now c.args.client.now c.step.new.self kept c.in-More.ensures.0 tt (omega (arith, c.requires.few)))
    c.go_on.ensures

pub returns-in-Waiting : goal.returns-in-Waiting
returns-in-Waiting g c =
    let used = in_of c.args.entry.now ∷ [] in
    let first = g.L.Line.outside c.args.line.now in
    let now = g.L.Line.outside c.make_room.new.line in
    let kept = keeps_log first now c.args.log.now c.make_room.new.log c.args.client.now c.in-Ok.ensures.ok in (
      waits_rests c.step.new.self.stage c.in-Waiting.ensures.1,
      keeps_leads used first now c.args.log.now c.make_room.new.log c.step.new.log c.args.client.now c.args.client.now c.step.new.self kept c.in-Waiting.ensures.0 tt (omega (arith, c.requires.few)),
    )

pub returns-in-Yielded : goal.returns-in-Yielded
returns-in-Yielded g c =
    let used = in_of c.args.entry.now ∷ [] in
    let first = g.L.Line.outside c.args.line.now in
    let now = g.L.Line.outside c.make_room.new.line in
    let kept = keeps_log first now c.args.log.now c.make_room.new.log c.args.client.now c.in-Ok.ensures.ok in (
      yields_rests c.step.new.self.stage c.in-Yielded.ensures.1,
      keeps_leads used first now c.args.log.now c.make_room.new.log c.step.new.log c.args.client.now c.args.client.now c.step.new.self kept c.in-Yielded.ensures.0 tt (omega (arith, c.requires.few)),
    )

pub returns-in-Over : goal.returns-in-Over
returns-in-Over g c =
    let used = in_of c.args.entry.now ∷ [] in
    let first = g.L.Line.outside c.args.line.now in
    let now = g.L.Line.outside c.make_room.new.line in
    let kept = keeps_log first now c.args.log.now c.make_room.new.log c.args.client.now c.in-Ok.ensures.ok in
    over_steps c.end_of.result c.in-Over.status used first now c.args.log.now c.make_room.new.log c.step.new.log c.args.client.now c.args.client.now c.step.new.self
    kept c.in-Over.ensures tt (omega (arith, c.requires.few)) c.end_of.ensures
