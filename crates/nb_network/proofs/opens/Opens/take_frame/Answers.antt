use Rattle.std.proofs.Common.{ℕ, refl, subst, ◌∷◌}
use Rattle.nb_defs.specs.Records.{frame, step, out_texts}
use Rattle.nb_machine.specs.CommandRecords.{reply_records}
use Rattle.nb_machine.specs.States.{State}
use Rattle.nb_record.specs.Logged.{Puts}
use Rattle.nb_stack.specs.Takes.{outcome}
use Rattle.nb_network.specs.declared.living.Living.{Living}
use Rattle.nb_network.specs.Many.{AreSound, IsStateOf}
use Rattle.nb_network.specs.Receiving.{ReceivesAt}
use Rattle.nb_network.specs.Steps.{IsOpenAt}
use Rattle.nb_network.specs.Takes.{TakesRecord}
use Rattle.nb_network.proofs.Passing.{passed_record}
use Rattle.nb_network.proofs.Results.{ok_map, ok_on}
use Rattle.nb_network.proofs.Short.{handed_short}
use Rattle.nb_network.proofs.Taking.{received_record, received_sound}
use Rattle.nb_network.proofs.opens.Opens.take_frame.Goals as goal

pub receive-requires-clause-short : goal.receive-requires-clause-short
receive-requires-clause-short c =
    let goes = c.in-Some.ensures.found in
    handed_short c.args.net.now c.take-taken.new.self c.args.bytes.now _ _ (outcome c.take-taken.result) goes.taker.speaker.number c.in-Some.arrival.source goes.dst goes.proto goes.port c.in-Some.arrival.body.now
    goes.handed_on c.take-taken.ensures.takes c.requires.valid.most

pub returns-in-Some-clause-takes : goal.returns-in-Some-clause-takes
returns-in-Some-clause-takes c =
    let goes = c.in-Some.ensures.found in
    let m = c.args.self.now in
    ok_map
    (λ r. (o : Living) (at : IsOpenAt m.list c.in-Some.place o) → ReceivesAt m c.take-taken.new.self at.before o at.behind c.args.rec c.in-Some.arrival c.args.now c.args.awaited r.0 c.receive.new.self c.receive.new.net c.args.log.now c.receive.new.log)
    (λ r. (w opens : ℕ) → AreSound w opens c.args.net.now m → (s : State) → IsStateOf m c.args.net.now c.args.now s →
    TakesRecord m c.args.net.now c.args.now opens c.args.rec (frame c.args.bytes.now) c.receive.new.self c.receive.new.net c.args.now c.args.awaited r.0 c.args.log.now c.receive.new.log s)
    c.receive.result
    (λ r h w opens sound s state. received_record m c.args.net.now c.args.now w opens c.args.rec c.args.bytes.now c.requires.valid.most c.in-Some.place c.in-Some.arrival (outcome c.take-taken.result) goes sound c.receive.new.self c.receive.new.net c.args.awaited r.0 c.args.log.now c.receive.new.log s state
    _ _ c.take-taken.new.self c.take-taken.ensures.takes (h goes.taker goes.at))
    c.receive.ensures.receives

pub returns-in-Some-clause-sound : goal.returns-in-Some-clause-sound
returns-in-Some-clause-sound c =
    let goes = c.in-Some.ensures.found in
    let m = c.args.self.now in
    ok_on
    (λ r. (o : Living) (at : IsOpenAt m.list c.in-Some.place o) → ReceivesAt m c.take-taken.new.self at.before o at.behind c.args.rec c.in-Some.arrival c.args.now c.args.awaited r.0 c.receive.new.self c.receive.new.net c.args.log.now c.receive.new.log)
    ((w opens : ℕ) → AreSound w opens c.args.net.now m → AreSound w opens c.receive.new.net c.receive.new.self)
    c.receive.result
    (λ r h w opens sound. received_sound m c.args.net.now c.args.now w opens c.args.rec c.args.bytes.now c.requires.valid.most c.in-Some.place c.in-Some.arrival (outcome c.take-taken.result) goes sound c.receive.new.self c.receive.new.net c.args.awaited r.0 c.args.log.now c.receive.new.log
    _ _ c.take-taken.new.self c.take-taken.ensures.takes (h goes.taker goes.at))
    c.receive.ensures.receives

pub returns-in-None-clause-takes : goal.returns-in-None-clause-takes
returns-in-None-clause-takes c = λ w opens sound s state.
    passed_record c.args.self.now c.args.net.now c.args.now w opens c.args.rec c.args.bytes.now (outcome c.take-taken.result) (c.in-None.ensures.none refl) s sound state
    _ _ c.take-taken.new.self c.args.awaited c.args.log.now c.put_passed.new.log c.out-reply.ensures.empty c.take-taken.ensures.takes
    (subst (λ bytes. Puts c.args.log.now c.put_passed.new.log (out_texts (step c.args.rec ∷ reply_records bytes))) c.written.ensures c.put_passed.ensures)
