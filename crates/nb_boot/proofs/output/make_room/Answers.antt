use Rattle.nb_boot.proofs.Goings.{going_flushed}
use Rattle.nb_boot.proofs.Cuttings.{flaw_cuts}
use Rattle.nb_boot.proofs.output.make_room.Goals as goal

pub returns-in-Ok-clause-ok : goal.returns-in-Ok-clause-ok
returns-in-Ok-clause-ok g c = λ held ins first m p r.
    rw c.in-Ok.ensures.cleared (going_flushed ins held first _ _ c.args.log.now m p c.args.log.now.room c.in-Ok.ensures.whole c.in-Ok.ensures.ok r)

pub returns-in-Err-clause-err : goal.returns-in-Err-clause-err
returns-in-Err-clause-err g c = flaw_cuts c.in-Err.flaw _ _ c.args.log.now c.in-Err.ensures.err
