-- A chain stays where others change.
use Rattle.std.proofs.Common.{◌≡◌, ℕ, ◌≤◌, true, List, sym, ◌∙◌, subst, arith}
use Rattle.nb_graph.specs.Noded.{AreNoded}
use Rattle.nb_graph.specs.Whole.{Objects}
use Rattle.nb_frames.specs.Frames.{is_one_of, KeepsObject}
use Rattle.nb_frames.specs.Within.{LeadsWithin}
use Rattle.nb_frames.proofs.SameGraph.{same_graph}
use Rattle.nb_nodes.specs.declared.obj.Obj.{Obj}
use Rattle.nb_nodes.specs.Objects.{rank_of_obj}
use Rattle.nb_chains.specs.declared.chain.Chain.{Chain}
use Rattle.nb_chains.specs.Chains.{AreChained, AreOthers, AreStillChained, GrowsBy, IsReleased, StaysChained, chain_ids}

-- objects that stay as they are stay chained
pub stays : (others : List ℕ) (g h : Objects Obj) → AreNoded rank_of_obj h → AreChained g others → ((x : ℕ) → is_one_of others x ≡ true → KeepsObject g h x) → g.book.made ≤ h.book.made → StaysChained others g h
stays others g h noded c kept later = record {
  chained = record {
    given = λ x o. let i = c.given x o in omega (arith, i, later);
    lives = λ x o. (kept x o).live ∙ c.lives x o;
    held = λ x o. (kept x o).held ∙ c.held x o;
    stands = λ x o. let t = c.stands x o in (t.0, λ n e. t.1 n ((kept x o).node n e));
    links = λ x k o. subst (LeadsWithin (is_one_of others)) (sym ((kept x o).ports k)) (c.links x k o);
  };
  same_graph = same_graph rank_of_obj g h noded others c.lives kept;
}

pub goes_stays : (ids others : List ℕ) (g h : Objects Obj) → AreNoded rank_of_obj h → AreChained g others → AreOthers ids others → AreStillChained ids g h → StaysChained others g h
goes_stays ids others g h noded c far on = stays others g h noded c (λ x o. on.others.others x (c.given x o) (far x o)) (let e = on.others.same_made in omega (arith, e))

pub grows_stays : (count : ℕ) (c : Chain) (others : List ℕ) (g h : Objects Obj) → AreNoded rank_of_obj h → AreChained g others → AreOthers (chain_ids c) others → GrowsBy count c g h → StaysChained others g h
grows_stays count c others g h noded k far on = stays others g h noded k (λ x o. on.others x (k.given x o) (far x o)) (let e = on.made in omega (arith, e))

pub released_stays : (c : Chain) (others : List ℕ) (g h : Objects Obj) → AreNoded rank_of_obj h → AreChained g others → AreOthers (chain_ids c) others → IsReleased c g h → StaysChained others g h
released_stays c others g h noded k far on = stays others g h noded k (λ x o. on.others.others x (k.given x o) (far x o)) (let e = on.others.same_made in omega (arith, e))
