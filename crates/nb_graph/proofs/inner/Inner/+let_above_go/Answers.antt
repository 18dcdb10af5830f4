use Rattle.nb_graph.specs.Lives.{here}
use Rattle.std.proofs.Common.{[]}
use Rattle.nb_effects.specs.Follows.{lets_none}
use Rattle.nb_effects.specs.Deeds.{LetsAllGo, none_held}
use Rattle.nb_ledger.proofs.RunLemmas.{Given-none}
use Rattle.std.proofs.Common.{◌∷◌}
use Rattle.std.proofs.Common.{◌≡◌, arith}
use Rattle.nb_ledger.specs.Ledger.{holds}
use Rattle.nb_ledger.proofs.PortLemmas.{dead_holds}
use Rattle.nb_graph.proofs.AliveLemmas.{RunFor-turned, RunFor-none, RunFor-trans}
use Rattle.nb_graph.proofs.EndLemmas.{all-above, LetsGo-refl, LetsGo-trans}
use Rattle.nb_graph.proofs.inner.Inner.+let_above_go.Goals as goal

pub returns-in-Some-clause-runs : goal.returns-in-Some-clause-runs
returns-in-Some-clause-runs g t c = RunFor-trans c.let_all_go.ensures.runs c.let_above_go.ensures.runs

pub returns-in-Some-clause-lets : goal.returns-in-Some-clause-lets
returns-in-Some-clause-lets g t c = LetsGo-trans c.let_all_go.ensures.lets c.let_above_go.ensures.lets

pub returns-in-Some-clause-none : goal.returns-in-Some-clause-none
returns-in-Some-clause-none g t c =
    let s = c.in-Some.ensures.some in
    let one = c.let_all_go.ensures.lets in
    let two = c.let_above_go.ensures.lets in
    let here = c.let_all_go.ensures.none in
    all-above (λ y. holds c.let_above_go.new.self.book y ≡ 0) c.args.after c.in-Some.id.0
    (λ y a b. let d = dead_holds _ y (s.3 y a b) in let i = one.holds_fall y in let j = two.holds_fall y in omega arith)
    (let j = two.holds_fall c.in-Some.id.0 in omega arith)
    (λ y a. c.let_above_go.ensures.none y a)

pub returns-in-None-clause-runs : goal.returns-in-None-clause-runs
returns-in-None-clause-runs g t c = RunFor-turned (λ st. LetsAllGo ∷ st) none_held (Given-none _) (λ now st ds s k. ([], lets_none, k)) (RunFor-none _ _ _ _ _ here)

pub returns-in-None-clause-lets : goal.returns-in-None-clause-lets
returns-in-None-clause-lets g t c = LetsGo-refl _

pub returns-in-None-clause-none : goal.returns-in-None-clause-none
returns-in-None-clause-none g t c = λ x h. dead_holds _ x (c.in-None.ensures.none x h)
