use Rattle.std.proofs.Common.{arith, refl, sym, subst, [], List, ℕ}
use Rattle.nb_httpmsg.specs.Reader.{IsOpenLine}
use Rattle.nb_httpmsg.specs.Feeding.{StandsForBody}
use Rattle.nb_httpmsg.specs.declared.place.Place.TheVariants.{Size}
use Rattle.nb_httpmsg.proofs.FeedLemmas.{at_first, open_at_first}
use Rattle.nb_httpmsg.proofs.chunks.Chunks.new.Goals as goal

pub invariant_of-result : goal.invariant_of-result
invariant_of-result c = (
  omega (arith, c.in_ok-with_capacity.ensures.len),
  omega (arith, c.in_ok-with_capacity.ensures.exact),
  omega (arith, c.in_ok-with_capacity-2.ensures.len),
  omega (arith, c.in_ok-with_capacity-2.ensures.exact),
  subst IsOpenLine (sym c.in_ok-with_capacity.ensures.items) open_at_first,
)

pub returns : goal.returns
returns c = (subst (λ (line : List ℕ). StandsForBody Size line [] []) (sym c.in_ok-with_capacity.ensures.items) at_first, c.in_ok-with_capacity-2.ensures.items, refl)
