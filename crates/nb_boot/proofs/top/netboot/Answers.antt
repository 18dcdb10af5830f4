use Rattle.nb_boot.proofs.Completeness.{completes}
use Rattle.nb_boot.proofs.Showing.{shows_course}
use Rattle.nb_boot.proofs.Determining.{determined}
use Rattle.nb_boot.proofs.top.netboot.Goals as goal

pub returns-in-Some-clause-complete : goal.returns-in-Some-clause-complete
returns-in-Some-clause-complete g c = λ _.
    completes c.attach.result (g.L.Line.outside c.args.line.now) (g.L.Line.outside c.attach.new.line)
    (shows_course c.attach.result (g.L.Line.outside c.args.line.now) (g.L.Line.outside c.attach.new.line) c.attach.ensures)

pub returns-in-Some-clause-course : goal.returns-in-Some-clause-course
returns-in-Some-clause-course g c = λ _.
    shows_course c.attach.result (g.L.Line.outside c.args.line.now) (g.L.Line.outside c.attach.new.line) c.attach.ensures

pub returns-in-Some-clause-determined : goal.returns-in-Some-clause-determined
returns-in-Some-clause-determined g c = λ _.
    determined c.attach.result (g.L.Line.outside c.args.line.now) (g.L.Line.outside c.attach.new.line)
    (shows_course c.attach.result (g.L.Line.outside c.args.line.now) (g.L.Line.outside c.attach.new.line) c.attach.ensures)
