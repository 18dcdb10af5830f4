-- What a harvest changes.
use Rattle.std.proofs.Common.{◌≡◌, ◌≢◌, ℕ, ◌<◌, true, List, length, set, get_or, slice_get, Option, Some, ap, sym, ◌∙◌}
use Rattle.nb_ledger.specs.declared.port.ObjId.{ObjId}
use Rattle.nb_ledger.specs.Ledger.{Ledger, object_lives, place}
use Rattle.nb_effects.specs.Whole.{Harvests}
use Rattle.nb_graph.proofs.LivelyLemmas.{slice_get-at, slice_get-set}
use Rattle.nb_graph.proofs.SeatLemmas.{place-apart, slice_get-set_other}

-- what a node gave, at its place
pub Harvests-set : {N L : Type 0} {l : Ledger} (gives : N → Option L → N → Type 0) (nodes : List N) (id : ObjId) (d e : N) (r : Option L) → place l id.0 < length nodes → d ≡ get_or nodes (place l id.0) d → gives d r e → Harvests gives (record { book = l; nodes = nodes }) (record { book = l; nodes = set nodes (place l id.0) e }) id r
Harvests-set {l = l} gives nodes id d e r lt v p = record {
  before = d;
  after = e;
  had = slice_get-at nodes (place l id.0) d lt ∙ ap Some (sym v);
  has = slice_get-set nodes (place l id.0) e lt;
  gave = p;
}

-- the others keep their nodes
pub others-set : {N : Type 0} (l : Ledger) (nodes : List N) (y : ℕ) (e : N) → object_lives l y ≡ true → (x : ℕ) → x ≢ y → slice_get (set nodes (place l y) e) (place l x) ≡ slice_get nodes (place l x)
others-set l nodes y e v x n = slice_get-set_other nodes (place l y) (place l x) e (place-apart l x y v n)
