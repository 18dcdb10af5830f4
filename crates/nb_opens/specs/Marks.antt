-- The mark of an object, by which its kind is known. Our own.
use Rattle.std.specs.Prelude.{◌≡◌, ℕ, Some}
use Rattle.nb_graph.specs.Whole.{Objects, node_at}
use Rattle.nb_nodes.specs.declared.obj.Obj.{Obj}
use Rattle.nb_nodes.specs.Objects.{mark_of_obj}

-- an object has this mark
abbrev pub IsOfKind : Objects Obj → ℕ → ℕ → Type 0
IsOfKind g x mark = (n : Obj) → node_at g x ≡ Some n → mark_of_obj n ≡ mark
