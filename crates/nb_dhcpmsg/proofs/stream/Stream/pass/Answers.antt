use Rattle.std.proofs.Common.{sym, subst, arith}
use Rattle.nb_dhcpmsg.proofs.StreamLemmas.{one_more, no_more}
use Rattle.nb_dhcpmsg.specs.Streams.{HoldsOption}
use Rattle.nb_dhcpmsg.proofs.stream.Stream.pass.Goals as goal

pub returns-in_default-clause-value : goal.returns-in_default-clause-value
returns-in_default-clause-value c = λ bytes h.
    let (within, here) = c.bytes.invariant.passed bytes h in
    let less = no_more c.bytes._i bytes (c.in_default.ensures.value _ here) in
    omega (arith, c.bytes-test.true)

pub bytes-preserved : goal.bytes-preserved
bytes-preserved c =
    let less = c.in-Some.ensures.less in
    let before = c.bytes.invariant.less in
    record {
      passed = λ bytes h.
          let (within, here) = c.bytes.invariant.passed bytes h in
          let (rest, is, later) = c.in-Some.ensures.value _ here in
          let more = one_more c.bytes._i bytes rest _ is in
          (more.within, subst (λ b. HoldsOption c.byte.new.self b) (sym more.left) later);
      less = omega arith;
    }
