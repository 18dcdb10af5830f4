use Rattle.std.proofs.Common.{[], ◌∷◌, ◌++◌, sym, subst}
use Rattle.nb_runner.specs.StatusNumber.{status_number}
use Rattle.nb_defs.specs.Records.{done}
use Rattle.nb_runner.specs.declared.status.Status.{Status}
use Rattle.nb_boot.specs.Run.{Shows}
use Rattle.nb_boot.proofs.Last.{client_closes}
use Rattle.nb_boot.proofs.Closings.{over_shows, flaw_shows}
use Rattle.nb_boot.proofs.Cuttings.{memory_shows}
use Rattle.nb_boot.proofs.play.finish.Goals as goal

pub returns-in-Err : goal.returns-in-Err
returns-in-Err g c = λ ins rest first m p st fit r e. memory_shows ins rest first (g.L.Line.outside c.args.line.now) c.args.log.now m p r

pub returns-in-Ok-flush : goal.returns-in-Ok-flush
returns-in-Ok-flush g c = λ ins rest first m p st fit r e.
    let number = status_number c.args.status in
    over_shows c.args.status ins rest first (g.L.Line.outside c.args.line.now) (g.L.Line.outside c.flush.new.line) c.args.log.now c.finish.new.log m p
    (c.in-Ok.ensures.puts.closing ++ (done number ∷ [])) c.requires (client_closes c.args.client.now m p number c.args.log.now c.finish.new.log st fit c.in-Ok.ensures.puts)
    r c.in-Ok.ensures.puts.puts c.in-Ok-flush.ensures.whole c.in-Ok-flush.ensures.ok e

pub returns-in-Err-flush : goal.returns-in-Err-flush
returns-in-Err-flush g c = λ ins rest first m p st fit r e.
    let number = status_number c.args.status in
    let P : Status → Type 0 = λ s. Shows s first (g.L.Line.outside c.flush.new.line) in
    subst P (sym c.status.ensures)
    (flaw_shows c.in-Err-flush.flaw ins rest first (g.L.Line.outside c.args.line.now) (g.L.Line.outside c.flush.new.line) c.args.log.now c.finish.new.log m p
    number (c.in-Ok.ensures.puts.closing ++ (done number ∷ [])) (client_closes c.args.client.now m p number c.args.log.now c.finish.new.log st fit c.in-Ok.ensures.puts) r c.in-Ok.ensures.puts.puts c.in-Err-flush.ensures.err e)
