use Rattle.std.proofs.Common.{ap, arith}
use Rattle.nb_record.specs.declared.log.LogPlace.{LogPlace}
use Rattle.nb_client.proofs.Puts.{at_most, moved_puts}
use Rattle.nb_client.proofs.Rests.{answerable, answered_goes, rests_goes}
use Rattle.nb_client.proofs.Served.{takes_some}
use Rattle.nb_client.proofs.site.Site.wait_in.Goals as goal

pub answer_in-requires : goal.answer_in-requires
answer_in-requires c =
    let by = rw c.in-Some.is at c.answer_at.ensures in
    record { ready = answerable c.args.stage.now c.args.number c.in_ok-ended.ended c.in-Some.answer c.requires.awaits c.requires.sound c.in_ok-ended.ensures.serves by }

pub returns-in-None-clause-goes : goal.returns-in-None-clause-goes
returns-in-None-clause-goes c =
    let by = rw c.in-None.is at c.answer_at.ensures in
    rw c.rest.ensures (rests_goes c.args.stage.now c.args.number c.in_ok-ended.ended c.requires.valid c.requires.served c.requires.awaits c.requires.sound c.in_ok-ended.ensures.serves by)

pub returns-in-Ok-clause-goes : goal.returns-in-Ok-clause-goes
returns-in-Ok-clause-goes c =
    let by = rw c.in-Some.is at c.answer_at.ensures in
    answered_goes c.args.stage.now c.args.number c.in_ok-ended.ended c.in-Some.answer _ c.requires.valid c.requires.served c.requires.awaits c.requires.sound c.in_ok-ended.ensures.serves by c.in-Ok.ensures.concludes

-- what was put stands after the place
pub go_back-requires : goal.go_back-requires
go_back-requires c =
    let t = takes_some c.requires.sound.opens c.in_ok-ended.ensures.serves in
    omega (arith, at_most (moved_puts c.in-Err.ensures.nothing t.takes.puts), ap (λ (x : LogPlace). x.len) c.place-place.ensures)

pub returns-in-Err-clause-nothing : goal.returns-in-Err-clause-nothing
returns-in-Err-clause-nothing c =
    let t = takes_some c.requires.sound.opens c.in_ok-ended.ensures.serves in
    c.go_back.ensures c.args.log.now _ c.place-place.ensures (moved_puts c.in-Err.ensures.nothing t.takes.puts)
