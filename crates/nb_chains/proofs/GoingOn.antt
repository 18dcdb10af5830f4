-- Calls on the objects of a chain, one after another.
use Rattle.std.proofs.Common.{ℕ, ◌∙◌, Bool, List, arith}
use Rattle.nb_graph.specs.Whole.{Objects}
use Rattle.nb_frames.specs.Frames.{is_one_of, KeepsObject, KeepsOthers}
use Rattle.nb_nodes.specs.declared.obj.Obj.{Obj}
use Rattle.nb_chains.specs.Chains.{AreStillChained}

-- what stays in both stays
pub keeps_both : {N : Type 0} (g a h : Objects N) (y : ℕ) → KeepsObject g a y → KeepsObject a h y → KeepsObject g h y
keeps_both g a h y i j = record {
  live = j.live ∙ i.live;
  held = j.held ∙ i.held;
  ports = λ k. j.ports k ∙ i.ports k;
  ranked = j.ranked ∙ i.ranked;
  node = λ n e. i.node n (j.node n e);
}

pub others_both : {N : Type 0} (own : ℕ → Bool) (g a h : Objects N) → KeepsOthers own g a → KeepsOthers own a h → KeepsOthers own g h
others_both own g a h i j = record {
  same_made = j.same_made ∙ i.same_made;
  others = λ y low far. keeps_both g a h y (i.others y low far) (j.others y (let e = i.same_made in omega (arith, low, e)) far);
}

pub goes_both : (ids : List ℕ) (g a h : Objects Obj) → AreStillChained ids g a → AreStillChained ids a h → AreStillChained ids g h
goes_both ids g a h i j = record {
  chained = j.chained;
  others = others_both (is_one_of ids) g a h i.others j.others;
  same_number = j.same_number ∙ i.same_number;
  same_room = j.same_room ∙ i.same_room;
}
