use Rattle.std.proofs.Common.{[], ap}
use Rattle.nb_boot.specs.Going.{flaw_status}
use Rattle.nb_boot.proofs.Pieces.{none_cuts, none_room, none_works}
use Rattle.nb_boot.proofs.Turned.{waits_rests, yields_rests, keeps_nothing, keeps_then, grow_keeps, keeps_leads, over_steps}
use Rattle.nb_boot.proofs.play.go_on.Goals as goal

pub moves-init : goal.moves-init
moves-init g c = (c.requires, keeps_nothing (g.L.Line.outside c.args.line.now) c.args.log.now c.args.client.now)

pub returns-in-Err : goal.returns-in-Err
returns-in-Err g c = λ ins rest first r. c.in-Err.ensures.err ins rest first (c.moves.invariant.1 ins rest first r)

pub returns-in-Err-make_room : goal.returns-in-Err-make_room
returns-in-Err-make_room g c =
    none_cuts (flaw_status c.in-Err-make_room.flaw) c.in-Ok-false.field-0 (g.L.Line.outside c.args.line.now) (g.L.Line.outside c.moves.line) (g.L.Line.outside c.write_piece.new.line)
    (g.L.Line.outside c.make_room.new.line) c.args.log.now c.moves.log c.write_piece.new.log c.args.client.now c.moves.client c.write_piece.new.client c.in-Ok-false.field-0-test c.in-Ok-false.ensures.ok
    (ap (λ l. g.L.Line.outside l) (c.in-Ok-false.ensures.none c.in-Ok-false.field-0-test)) c.moves.invariant.1 c.in-Err-make_room.ensures.err

pub moves-preserved : goal.moves-preserved
moves-preserved g c =
    let first = g.L.Line.outside c.args.line.now in
    let now = g.L.Line.outside c.make_room.new.line in
    let none = c.in-Ok-false.ensures in
    let stays = ap (λ l. g.L.Line.outside l) (none.none c.in-Ok-false.field-0-test) in
    let works = none_works c.in-Ok-false.field-0 (g.L.Line.outside c.moves.line) (g.L.Line.outside c.write_piece.new.line) c.moves.log c.write_piece.new.log c.moves.client c.write_piece.new.client
    c.in-Ok-false.field-0-test none.ok c.moves.invariant.0 in
    let kept = none_room c.in-Ok-false.field-0 first (g.L.Line.outside c.moves.line) (g.L.Line.outside c.write_piece.new.line) now c.args.log.now c.moves.log c.write_piece.new.log c.make_room.new.log
    c.args.client.now c.moves.client c.write_piece.new.client c.in-Ok-false.field-0-test none.ok stays c.moves.invariant.1 c.in-Ok.ensures.ok in (
      c.in-More.ensures.does.1,
      keeps_then first now now c.args.log.now c.make_room.new.log c.more.new.log c.args.client.now c.write_piece.new.client c.more.new.self
          kept (grow_keeps now c.make_room.new.log c.more.new.log c.write_piece.new.client c.more.new.self c.in-More.ensures.does.0 works),
    )

pub returns-in-Waiting : goal.returns-in-Waiting
returns-in-Waiting g c =
    let first = g.L.Line.outside c.args.line.now in
    let now = g.L.Line.outside c.make_room.new.line in
    let none = c.in-Ok-false.ensures in
    let stays = ap (λ l. g.L.Line.outside l) (none.none c.in-Ok-false.field-0-test) in
    let works = none_works c.in-Ok-false.field-0 (g.L.Line.outside c.moves.line) (g.L.Line.outside c.write_piece.new.line) c.moves.log c.write_piece.new.log c.moves.client c.write_piece.new.client
    c.in-Ok-false.field-0-test none.ok c.moves.invariant.0 in
    let kept = none_room c.in-Ok-false.field-0 first (g.L.Line.outside c.moves.line) (g.L.Line.outside c.write_piece.new.line) now c.args.log.now c.moves.log c.write_piece.new.log c.make_room.new.log
    c.args.client.now c.moves.client c.write_piece.new.client c.in-Ok-false.field-0-test none.ok stays c.moves.invariant.1 c.in-Ok.ensures.ok in (
      waits_rests c.more.new.self.stage c.in-Waiting.ensures.does.1,
      keeps_leads [] first now c.args.log.now c.make_room.new.log c.more.new.log c.args.client.now c.write_piece.new.client c.more.new.self kept c.in-Waiting.ensures.does.0 works tt,
    )

pub returns-in-Yielded : goal.returns-in-Yielded
returns-in-Yielded g c =
    let first = g.L.Line.outside c.args.line.now in
    let now = g.L.Line.outside c.make_room.new.line in
    let none = c.in-Ok-false.ensures in
    let stays = ap (λ l. g.L.Line.outside l) (none.none c.in-Ok-false.field-0-test) in
    let works = none_works c.in-Ok-false.field-0 (g.L.Line.outside c.moves.line) (g.L.Line.outside c.write_piece.new.line) c.moves.log c.write_piece.new.log c.moves.client c.write_piece.new.client
    c.in-Ok-false.field-0-test none.ok c.moves.invariant.0 in
    let kept = none_room c.in-Ok-false.field-0 first (g.L.Line.outside c.moves.line) (g.L.Line.outside c.write_piece.new.line) now c.args.log.now c.moves.log c.write_piece.new.log c.make_room.new.log
    c.args.client.now c.moves.client c.write_piece.new.client c.in-Ok-false.field-0-test none.ok stays c.moves.invariant.1 c.in-Ok.ensures.ok in (
      yields_rests c.more.new.self.stage c.in-Yielded.ensures.does.1,
      keeps_leads [] first now c.args.log.now c.make_room.new.log c.more.new.log c.args.client.now c.write_piece.new.client c.more.new.self kept c.in-Yielded.ensures.does.0 works tt,
    )

pub returns-in-Over : goal.returns-in-Over
returns-in-Over g c =
    let first = g.L.Line.outside c.args.line.now in
    let now = g.L.Line.outside c.make_room.new.line in
    let none = c.in-Ok-false.ensures in
    let stays = ap (λ l. g.L.Line.outside l) (none.none c.in-Ok-false.field-0-test) in
    let works = none_works c.in-Ok-false.field-0 (g.L.Line.outside c.moves.line) (g.L.Line.outside c.write_piece.new.line) c.moves.log c.write_piece.new.log c.moves.client c.write_piece.new.client
    c.in-Ok-false.field-0-test none.ok c.moves.invariant.0 in
    let kept = none_room c.in-Ok-false.field-0 first (g.L.Line.outside c.moves.line) (g.L.Line.outside c.write_piece.new.line) now c.args.log.now c.moves.log c.write_piece.new.log c.make_room.new.log
    c.args.client.now c.moves.client c.write_piece.new.client c.in-Ok-false.field-0-test none.ok stays c.moves.invariant.1 c.in-Ok.ensures.ok in
    over_steps c.end_of.result c.in-Over.status [] first now c.args.log.now c.make_room.new.log c.more.new.log c.args.client.now c.write_piece.new.client c.more.new.self
    kept c.in-Over.ensures.does works tt c.end_of.ensures
