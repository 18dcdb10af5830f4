use Rattle.nb_client_tests.proofs.BenchLemmas.{some_state, stay_well}
use Rattle.nb_client_tests.proofs.bench.Bench.take.Goals as goal

pub invariant_of-bench : goal.invariant_of-bench
invariant_of-bench c =
    let b = c.self.inside in
    let well = c.self.invariant in
    let e = c.in_ok-ended.ensures in
    let s = some_state 0 b.made b.now b.net b.opens well.sound in
    stay_well b.made b.net c.take_frame.new.net b.opens c.take_frame.new.self well (e.sound 0 b.made well.sound) (e.takes 0 b.made well.sound s.0 s.1).same_made
