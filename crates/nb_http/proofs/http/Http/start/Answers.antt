use Rattle.std.proofs.Common.{refl, arith, ap, length}
use Rattle.nb_responses.specs.Lines.{head_block}
use Rattle.nb_http.specs.declared.state.State.TheVariants.{Head}
use Rattle.nb_http.proofs.StandsLemmas.{at_start}
use Rattle.nb_http.proofs.http.Http.start.Goals as goal

pub invariant_of-http : goal.invariant_of-http
invariant_of-http c = (
  omega (arith, c.in_ok-head.ensures.len),
  omega (arith, c.in_ok-head.ensures.exact),
  omega arith,
  (ap head_block c.in_ok-head.ensures.items, omega (arith, ap length c.in_ok-head.ensures.items), c.in_ok-chunks.ensures.2),
)

pub returns-clause-stands : goal.returns-clause-stands
returns-clause-stands c = (at_start (record { head = c.in_ok-head.head.items; chunks = c.in_ok-chunks.chunks; state = Head }) c.in_ok-head.ensures.items refl c.in_ok-chunks.ensures.0 c.in_ok-chunks.ensures.2, refl)
