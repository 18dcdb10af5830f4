use Rattle.nb_effects.specs.Deeds.{LetsAllGo, lets_go}
use Rattle.nb_ledger.proofs.RunLemmas.{Given-none}
use Rattle.std.proofs.Common.{◌∷◌}
use Rattle.nb_effects.specs.Follows.{lets}
use Rattle.std.proofs.Common.{sym, ◌∙◌}
use Rattle.std.proofs.lemmas.Bool.{ltb-true}
use Rattle.nb_ledger.proofs.PortLemmas.{held-live}
use Rattle.nb_graph.proofs.AliveLemmas.{RunFor-above, RunFor-turned, RunFor-none, RunFor-trans}
use Rattle.nb_graph.proofs.EndLemmas.{LetsGo-refl, LetsGo-trans}
use Rattle.nb_graph.proofs.inner.Inner.let_all_go.Goals as goal

pub loop-id-init : goal.loop-id-init
loop-id-init g c = record { graph = c.requires.graph; runs = RunFor-none _ _ _ _ _ (λ st. LetsAllGo ∷ st); lets = LetsGo-refl _ }

pub loop-id-preserved : goal.loop-id-preserved
loop-id-preserved g c = record {
  graph = c.let_go.ensures.graph;
  runs = RunFor-trans c.loop-id.invariant.runs (RunFor-turned (λ st. LetsAllGo ∷ st) (lets_go c.args.id) (Given-none _) (λ now st ds s k. (_, lets c.args.id, k)) (RunFor-above (λ st. LetsAllGo ∷ st) c.let_go.ensures.runs));
  lets = LetsGo-trans c.loop-id.invariant.lets c.let_go.ensures.lets;
}

pub let_go-requires-clause-lives : goal.let_go-requires-clause-lives
let_go-requires-clause-lives g c = held-live _ _ (ltb-true _ _ (sym c.is_held.ensures ∙ c.loop-id-test.true))
