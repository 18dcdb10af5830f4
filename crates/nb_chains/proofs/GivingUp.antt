-- An object of which nothing was asked has no link.
use Rattle.std.proofs.Common.{◌≡◌, ℕ, Bool, true, false, [], refl, ap, ◌∙◌, nat_lt, if◌then◌else◌}
use Rattle.nb_ledger.specs.declared.port.PortState.TheVariants as state
use Rattle.nb_ledger.specs.GraphRun.{link_count, new_ports}
use Rattle.nb_graph.specs.Whole.{Objects}
use Rattle.nb_nodes.specs.declared.obj.Obj.{Obj}
use Rattle.nb_chains.specs.Chains.{IsFresh}
use Rattle.nb_chains.specs.Ends.{LivesUnlinked}

no_link : (k : ℕ) → link_count (new_ports k) ≡ 0
no_link k = pick (nat_lt k 4)
  where
    pick : (b : Bool) → link_count (if b then state.Open else state.Closed) ≡ 0
    pick true = refl
    pick false = refl

pub fresh_loose : (g : Objects Obj) (x r kind : ℕ) → IsFresh g x r kind → LivesUnlinked g x
fresh_loose g x r kind f = record { given = f.given; lives = f.lives; held = f.held; unlinked = λ k lt. ap link_count (f.ports k) ∙ no_link k; stands = ([], f.stands) }
