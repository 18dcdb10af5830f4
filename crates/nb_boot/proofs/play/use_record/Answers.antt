use Rattle.std.proofs.Common.{[], ◌∷◌, ◌++◌, sym, subst}
use Rattle.nb_record.specs.View.{in_of}
use Rattle.nb_runner.specs.declared.status.Status.{Status}
use Rattle.nb_boot.specs.Going.{Stops}
use Rattle.nb_boot.proofs.Standing.{over_ends, end_closes}
use Rattle.nb_boot.proofs.play.use_record.Goals as goal

pub finish-requires : goal.finish-requires
finish-requires g c = end_closes c.in-Over.status c.in-Over.ensures.0

pub returns-in-Over : goal.returns-in-Over
returns-in-Over g c = λ ins rest first r.
    let d = c.in-Over.ensures.2 ins rest first r in
    c.finish.ensures (ins ++ in_of c.args.entry.now ∷ []) rest first d.progress d.holdings d.stands d.fits d.going
    (over_ends c.in-Over.status c.take.new.client d.progress rest (g.L.Line.outside c.take.new.line) d.stands c.in-Over.ensures.1)

pub returns-in-Cut : goal.returns-in-Cut
returns-in-Cut g c =
    let P : Status → Type 0 = λ s. Stops s (in_of c.args.entry.now ∷ []) (g.L.Line.outside c.args.line.now) (g.L.Line.outside c.take.new.line) c.args.log.now c.args.client.now in
    subst P (sym c.status.ensures) c.in-Cut.ensures
