use Rattle.std.proofs.Common.{◌≡◌, ap, arith}
use Rattle.nb_record.specs.declared.log.LogPlace.{LogPlace}
use Rattle.nb_client.specs.declared.pending.Pending.{Pending}
use Rattle.nb_client.proofs.Puts.{at_most, moved_puts}
use Rattle.nb_client.proofs.Served.{takes_some}
use Rattle.nb_client.proofs.Waits.{sound_after, waited_goes}
use Rattle.nb_client.proofs.site.Site.wait_for_end.Goals as goal

pub answer-requires : goal.answer-requires
answer-requires c =
    let number : c.get.result.now.number ≡ c.args.pending.number = ap (λ (p : Pending). p.number) c.get.ensures in
    let v = rw number at c.in_ok-ended.ensures.serves in
    let by = rw c.get-2.ensures at c.answer_by-answer.ensures in
    sound_after c.args.script c.args.pending c.in_ok-ended.ended c.answer_by-answer.result c.requires.sound v by

pub returns-in-Ok-clause-goes : goal.returns-in-Ok-clause-goes
returns-in-Ok-clause-goes c =
    let number : c.get.result.now.number ≡ c.args.pending.number = ap (λ (p : Pending). p.number) c.get.ensures in
    let v = rw number at c.in_ok-ended.ensures.serves in
    let by = rw c.get-2.ensures at c.answer_by-answer.ensures in
    waited_goes c.args.script c.args.pending c.in_ok-ended.ended c.answer_by-answer.result _ c.requires.valid c.requires.served c.requires.sound v by c.in-Ok.ensures.answers

-- what was put stands after the place
pub go_back-requires : goal.go_back-requires
go_back-requires c =
    let t = takes_some c.requires.sound.opens c.in_ok-ended.ensures.serves in
    omega (arith, at_most (moved_puts c.in-Err.ensures.nothing t.takes.puts), ap (λ (x : LogPlace). x.len) c.place-place.ensures)

pub returns-in-Err-clause-nothing : goal.returns-in-Err-clause-nothing
returns-in-Err-clause-nothing c =
    let t = takes_some c.requires.sound.opens c.in_ok-ended.ensures.serves in
    c.go_back.ensures c.args.log.now _ c.place-place.ensures (moved_puts c.in-Err.ensures.nothing t.takes.puts)
