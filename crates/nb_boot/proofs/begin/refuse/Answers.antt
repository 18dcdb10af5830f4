use Rattle.std.proofs.Common.{[], ◌∷◌, refl, sym, subst, arith}
use Rattle.nb_defs.specs.Records.{done, out_text, out_texts}
use Rattle.nb_record.specs.Logged.{Puts}
use Rattle.nb_traced.specs.Holdings.{no_holdings}
use Rattle.nb_machine.specs.Courses.{nowhere}
use Rattle.nb_runner.specs.declared.status.Status.{Status}
use Rattle.nb_runner.specs.declared.status.Status.TheVariants as status
use Rattle.nb_runner.proofs.Puts.{Puts-one}
use Rattle.nb_boot.specs.Run.{Shows}
use Rattle.nb_boot.specs.Shown.{was_bad}
use Rattle.nb_boot.proofs.Last.{fresh_closes}
use Rattle.nb_boot.proofs.Closings.{over_shows, flaw_shows}
use Rattle.nb_boot.proofs.begin.refuse.Goals as goal

pub returns-in-Ok : goal.returns-in-Ok
returns-in-Ok g c = λ rest first r bad.
    let puts : Puts c.args.log.now c.put.new.self (out_texts (done 6 ∷ [])) = Puts-one (done 6) (subst (λ k. Puts c.args.log.now c.put.new.self (out_text (done k))) c.number.ensures c.put.ensures) in
    over_shows status.BadRecord [] rest first (g.L.Line.outside c.args.line.now) (g.L.Line.outside c.flush.new.line) c.args.log.now c.put.new.self nowhere no_holdings
    (done 6 ∷ []) tt (fresh_closes 6) r puts c.in-Ok.ensures.whole c.in-Ok.ensures.ok (was_bad (omega arith) bad refl)

pub returns-in-Err : goal.returns-in-Err
returns-in-Err g c = λ rest first r bad.
    let puts : Puts c.args.log.now c.put.new.self (out_texts (done 6 ∷ [])) = Puts-one (done 6) (subst (λ k. Puts c.args.log.now c.put.new.self (out_text (done k))) c.number.ensures c.put.ensures) in
    let P : Status → Type 0 = λ s. Shows s first (g.L.Line.outside c.flush.new.line) in
    subst P (sym c.status.ensures)
    (flaw_shows c.in-Err.flaw [] rest first (g.L.Line.outside c.args.line.now) (g.L.Line.outside c.flush.new.line) c.args.log.now c.put.new.self nowhere no_holdings 6
    (done 6 ∷ []) (fresh_closes 6) r puts c.in-Err.ensures.err (was_bad (omega arith) bad refl))
