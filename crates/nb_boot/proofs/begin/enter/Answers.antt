use Rattle.std.proofs.Common.{[], ◌∷◌, ◌++◌}
use Rattle.nb_defs.specs.Records.{in_texts}
use Rattle.nb_record.specs.View.{in_of}
use Rattle.nb_traced.specs.Holdings.{no_holdings}
use Rattle.nb_machine.specs.Courses.{nowhere}
use Rattle.nb_boot.proofs.Cuttings.{memory_shows}
use Rattle.nb_boot.proofs.Openings.{opens_used, refuses_used}
use Rattle.nb_boot.proofs.begin.enter.Goals as goal

pub returns-in-None-clause-ok : goal.returns-in-None-clause-ok
returns-in-None-clause-ok g c = λ rest.
    opens_used (in_of c.args.entry.now) rest (g.L.Line.outside c.args.line.now) (g.L.Line.outside c.use_record.new.line) c.args.log.now c.use_record.new.log
    c.in-Ok.client c.use_record.new.client c.in-Ok.ensures.used c.in-Ok.ensures.ready c.in-Ok.ensures.fits c.in-None.ensures

pub returns-in-Some-clause-err : goal.returns-in-Some-clause-err
returns-in-Some-clause-err g c = λ rest.
    refuses_used (in_of c.args.entry.now) rest c.in-Some.status (g.L.Line.outside c.args.line.now) (g.L.Line.outside c.use_record.new.line) c.args.log.now
    c.in-Ok.client c.in-Ok.ensures.used c.in-Ok.ensures.ready c.in-Ok.ensures.fits c.in-Some.ensures

pub returns-in-Err-clause-err : goal.returns-in-Err-clause-err
returns-in-Err-clause-err g c = λ rest first r.
    memory_shows [] (in_texts (in_of c.args.entry.now ∷ []) ++ rest) first (g.L.Line.outside c.args.line.now) c.args.log.now nowhere no_holdings r
