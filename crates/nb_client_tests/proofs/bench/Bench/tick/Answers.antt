use Rattle.std.proofs.Common.{arith}
use Rattle.nb_client_tests.proofs.BenchLemmas.{some_state, stay_well}
use Rattle.nb_client_tests.proofs.bench.Bench.tick.Goals as goal

pub invariant_of-result : goal.invariant_of-result
invariant_of-result c =
    let b = c.self.inside in
    let well = c.self.invariant in
    let e = c.in_ok-desk.ensures in
    let s = some_state 0 b.made b.now b.net b.opens well.sound in
    stay_well b.made b.net c.pass_time.new.net b.opens c.pass_time.new.self well (e.sound 0 b.made well.sound) (e.takes 0 b.made b.now (omega arith) well.sound s.0 s.1).same_made
