-- Objects that stay as they are stay the same graph of their own.
use Rattle.std.proofs.Common.{◌≡◌, ℕ, ◌+◌, ◌==◌, ◌||◌, Bool, true, false, List, [], ◌∷◌, ◌++◌, length, Option, refl, sym, ap, ◌∙◌, if◌then◌else◌}
use Rattle.std.proofs.lemmas.Bool.{eq-eqb}
use Rattle.nb_ledger.specs.declared.object.Object.{Object}
use Rattle.nb_ledger.specs.declared.port.PortState.{PortState}
use Rattle.nb_ledger.specs.Ledger.{Ledger, object_lives, holds, port, rank}
use Rattle.nb_graph.specs.Noded.{AreNoded}
use Rattle.nb_graph.specs.Trace.{in_list}
use Rattle.nb_graph.specs.Whole.{Objects, node_at}
use Rattle.nb_frames.specs.Frames.{KeepsObject, is_one_of, last_among, object_of, objects_of, nodes_of, graph_of}

object_same : (a b : Ledger) (x : ℕ) → rank b x ≡ rank a x → holds b x ≡ holds a x → ((k : ℕ) → port b x k ≡ port a x k) → object_of b x ≡ object_of a x
object_same a b x r h p =
    ap (λ (z : ℕ). let o : Object = record { id = record { 0 = x }; rank = z; busy = false; holds = holds b x; ports = port b x 0 ∷ port b x 1 ∷ port b x 2 ∷ port b x 3 ∷ [] } in o) r
    ∙ (ap (λ (z : ℕ). let o : Object = record { id = record { 0 = x }; rank = rank a x; busy = false; holds = z; ports = port b x 0 ∷ port b x 1 ∷ port b x 2 ∷ port b x 3 ∷ [] } in o) h
    ∙ (ap (λ (z : PortState). let o : Object = record { id = record { 0 = x }; rank = rank a x; busy = false; holds = holds a x; ports = z ∷ port b x 1 ∷ port b x 2 ∷ port b x 3 ∷ [] } in o) (p 0)
    ∙ (ap (λ (z : PortState). let o : Object = record { id = record { 0 = x }; rank = rank a x; busy = false; holds = holds a x; ports = port a x 0 ∷ z ∷ port b x 2 ∷ port b x 3 ∷ [] } in o) (p 1)
    ∙ (ap (λ (z : PortState). let o : Object = record { id = record { 0 = x }; rank = rank a x; busy = false; holds = holds a x; ports = port a x 0 ∷ port a x 1 ∷ z ∷ port b x 3 ∷ [] } in o) (p 2)
    ∙ ap (λ (z : PortState). let o : Object = record { id = record { 0 = x }; rank = rank a x; busy = false; holds = holds a x; ports = port a x 0 ∷ port a x 1 ∷ port a x 2 ∷ z ∷ [] } in o) (p 3)))))

or_later : (b c : Bool) → c ≡ true → (b || c) ≡ true
or_later true c e = refl
or_later false c e = e

module _ {N : Type 0} (rank_of : N → ℕ) (g h : Objects N) (hosted : AreNoded rank_of h) where
  objects_same : (ids : List ℕ) → ((x : ℕ) → is_one_of ids x ≡ true → KeepsObject g h x) → objects_of ids h.book ≡ objects_of ids g.book
  objects_same [] k = refl
  objects_same (x ∷ xs) k =
      let o = k x (rw (eq-eqb x x refl) refl) in
      let same : object_of h.book x ≡ object_of g.book x = object_same g.book h.book x o.ranked o.held o.ports in
      let others : objects_of xs h.book ≡ objects_of xs g.book = objects_same xs (λ y e. k y (or_later (y == x) (is_one_of xs y) e)) in
      ap (λ (b : Bool). (if b then object_of h.book x ∷ [] else []) ++ objects_of xs h.book) o.live
      ∙ (ap (λ (p : Object). (if object_lives g.book x then p ∷ [] else []) ++ objects_of xs h.book) same
      ∙ ap (λ (os : List Object). (if object_lives g.book x then object_of g.book x ∷ [] else []) ++ os) others)

  -- one that lives has the node that it had
  node_same : (x : ℕ) → KeepsObject g h x → object_lives g.book x ≡ true → node_at h x ≡ node_at g x
  node_same x k l = let n = hosted x (k.live ∙ l) in n.is_node ∙ sym (k.node n.node n.is_node)

  nodes_same : (ids : List ℕ) → ((x : ℕ) → is_one_of ids x ≡ true → object_lives g.book x ≡ true) → ((x : ℕ) → is_one_of ids x ≡ true → KeepsObject g h x) → nodes_of ids h ≡ nodes_of ids g
  nodes_same [] l k = refl
  nodes_same (x ∷ xs) l k =
      let here : is_one_of (x ∷ xs) x ≡ true = rw (eq-eqb x x refl) refl in
      let others : nodes_of xs h ≡ nodes_of xs g = nodes_same xs (λ y e. l y (or_later (y == x) (is_one_of xs y) e)) (λ y e. k y (or_later (y == x) (is_one_of xs y) e)) in
      ap (λ (o : Option N). in_list o ++ nodes_of xs h) (node_same x (k x here) (l x here)) ∙ ap (λ (ns : List N). in_list (node_at g x) ++ ns) others

  pub same_graph : (ids : List ℕ) → ((x : ℕ) → is_one_of ids x ≡ true → object_lives g.book x ≡ true) → ((x : ℕ) → is_one_of ids x ≡ true → KeepsObject g h x) → graph_of ids h ≡ graph_of ids g
  same_graph ids l k =
      let with_objects : List Object → List N → Objects N = λ os ns. record { book = record { made = last_among ids; room = length ids + 1; objects = os }; nodes = ns } in
      ap (λ (os : List Object). with_objects os (nodes_of ids h)) (objects_same ids k) ∙ ap (λ (ns : List N). with_objects (objects_of ids g.book) ns) (nodes_same ids l k)
