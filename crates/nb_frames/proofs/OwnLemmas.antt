-- Some objects as a graph of their own, by serial.
use Rattle.std.proofs.Common.{inl, inr, ◌≡◌, ℕ, zero, suc, ◌+◌, ◌≤◌, ◌==◌, ◌||◌, Bool, true, false, List, [], ◌∷◌, length, Option, Some, None, is_some, refl, sym, ap, ◌∙◌, arith, add-one, slice_get, if◌then◌else◌}
use Rattle.std.specs.Option.{option_map_or}
use Rattle.std.proofs.lemmas.Bool.{cases_eq, eq-eqb, ne_eqb, le-ltb, false≢true}
use Rattle.nb_ledger.specs.declared.object.Object.{Object}
use Rattle.nb_ledger.specs.declared.port.PortState.TheVariants as port
use Rattle.nb_ledger.specs.Ledger.{Ledger, found, place_in, object_lives, object_port, rank, holds, port as port_in}
use Rattle.nb_graph.specs.Whole.{Objects, node_at}
use Rattle.nb_frames.specs.Frames.{is_one_of, object_of, objects_of, nodes_of, graph_of}

-- of each of these the object lives, and has a node
abbrev pub AreThere : {N : Type 0} → List ℕ → Objects N → Type 0
AreThere [] g = Unit {0}
AreThere {N} (x ∷ xs) g = (n : N) × (object_lives g.book x ≡ true) × (node_at g x ≡ Some n) × AreThere xs g

here_first : (x : ℕ) (ys : List ℕ) → is_one_of (x ∷ ys) x ≡ true
here_first x ys = rw (eq-eqb x x refl) refl

or_later : (b c : Bool) → c ≡ true → (b || c) ≡ true
or_later true c e = refl
or_later false c e = e

pub are_there : {N : Type 0} (ids : List ℕ) (g : Objects N) → ((x : ℕ) → is_one_of ids x ≡ true → object_lives g.book x ≡ true) → ((x : ℕ) → is_one_of ids x ≡ true → (n : N) × (node_at g x ≡ Some n)) → AreThere ids g
are_there [] g lives nodes = tt
are_there (x ∷ xs) g lives nodes =
    let n = nodes x (here_first x xs) in
    (n.0, lives x (here_first x xs), n.1, are_there xs g (λ y e. lives y (or_later (y == x) (is_one_of xs y) e)) (λ y e. nodes y (or_later (y == x) (is_one_of xs y) e)))

past_slots : (k : ℕ) (o : Object) → 4 ≤ k → object_port k o ≡ port.Closed
past_slots k o h = rw (le-ltb k 4 h) refl

no_slots : (k : ℕ) (o : Option Object) → 4 ≤ k → option_map_or (object_port k) o port.Closed ≡ port.Closed
no_slots k None h = refl
no_slots k (Some o) h = past_slots k o h

pub no_port : (l : Ledger) (x k : ℕ) → 4 ≤ k → port_in l x k ≡ port.Closed
unfolding port_in
no_port l x k h = no_slots k (found l.objects x) h

-- a port of an object is one of its four, or closed
four_ports : (l : Ledger) (x k : ℕ) → object_port k (object_of l x) ≡ port_in l x k
four_ports l x zero = refl
four_ports l x (suc zero) = refl
four_ports l x (suc (suc zero)) = refl
four_ports l x (suc (suc (suc zero))) = refl
four_ports l x (suc (suc (suc (suc k)))) = past_slots (suc (suc (suc (suc k)))) (object_of l x) (omega arith) ∙ sym (no_port l x (suc (suc (suc (suc k)))) (omega arith))

module _ {N : Type 0} (g : Objects N) where
  abbrev l : Ledger
  l = g.book

  pub as_many : (ids : List ℕ) → AreThere ids g → length (objects_of ids l) ≡ length ids
  as_many [] h = refl
  as_many (x ∷ xs) h = let k = as_many xs h.3 in rw h.1 (omega (arith, k))

  own_found : (ids : List ℕ) (x : ℕ) → AreThere ids g → found (objects_of ids l) x ≡ (if is_one_of ids x then Some (object_of l x) else None)
  own_found [] x h = refl
  own_found (y ∷ ys) x h =
      elim (cases_eq x y) [
        | inl e ↦ rw h.1 (rw (eq-eqb x y e) (ap (λ (z : ℕ). Some (object_of l z)) (sym e)))
        | inr n ↦ rw h.1 (rw (ne_eqb x y n) (own_found ys x h.3))
      ]

  node_after : (n : N) (ns : List N) (k : ℕ) → slice_get (n ∷ ns) (k + 1) ≡ slice_get ns k
  node_after n ns k = ap (λ z. slice_get (n ∷ ns) z) (add-one k)

  own_node : (ids : List ℕ) (x : ℕ) → AreThere ids g → slice_get (nodes_of ids g) (place_in (objects_of ids l) x) ≡ (if is_one_of ids x then node_at g x else None)
  own_node [] x h = refl
  own_node (y ∷ ys) x h =
      elim (cases_eq x y) [
        | inl e ↦ rw (h.1, h.2) (rw (eq-eqb x y e) (sym h.2 ∙ ap (node_at g) (sym e)))
        | inr n ↦ rw (h.1, h.2) (rw (ne_eqb x y n) (node_after h.0 (nodes_of ys g) _ ∙ own_node ys x h.3))
      ]

  through : {A : Type 0} (f : Option Object → A) (b : Bool) (o : Option Object) → f (if b then o else None) ≡ (if b then f o else f None)
  through f true o = refl
  through f false o = refl

  lives_here : (ids : List ℕ) (x : ℕ) → AreThere ids g → is_one_of ids x ≡ true → object_lives l x ≡ true
  lives_here [] x h o = absurd (false≢true o)
  lives_here (y ∷ ys) x h o = elim (cases_eq x y) [
    | inl e ↦ ap (object_lives l) e ∙ h.1
    | inr n ↦ lives_here ys x h.3 (sym (rw (ne_eqb x y n) refl) ∙ o)
  ]

  -- a fact of it where it is one of them
  both_ways : {A : Type 0} (b : Bool) (v w d : A) → (b ≡ true → v ≡ w) → (if b then v else d) ≡ (if b then w else d)
  both_ways true v w d h = h refl
  both_ways false v w d h = refl

  module _ (ids : List ℕ) (there : AreThere ids g) (x : ℕ) where
    abbrev own : Bool
    own = is_one_of ids x

    own_live : object_lives (graph_of ids g).book x ≡ (if own then true else false)
    unfolding object_lives
    own_live = ap (λ (o : Option Object). is_some o) (own_found ids x there) ∙ through (λ (o : Option Object). is_some o) own (Some (object_of l x))

    pub own_lives : object_lives (graph_of ids g).book x ≡ (if own then object_lives g.book x else false)
    own_lives = own_live ∙ both_ways own true (object_lives g.book x) false (λ o. sym (lives_here ids x there o))

    pub own_holds : holds (graph_of ids g).book x ≡ (if own then holds g.book x else 0)
    unfolding holds
    own_holds = ap (λ (o : Option Object). option_map_or (λ (p : Object). p.holds) o 0) (own_found ids x there) ∙ through (λ (o : Option Object). option_map_or (λ (p : Object). p.holds) o 0) own (Some (object_of l x))

    pub own_rank : rank (graph_of ids g).book x ≡ (if own then rank g.book x else 0)
    unfolding rank
    own_rank = ap (λ (o : Option Object). option_map_or (λ (p : Object). p.rank) o 0) (own_found ids x there) ∙ through (λ (o : Option Object). option_map_or (λ (p : Object). p.rank) o 0) own (Some (object_of l x))

    own_ports : (k : ℕ) → port_in (graph_of ids g).book x k ≡ (if own then object_port k (object_of l x) else port.Closed)
    unfolding port_in
    own_ports k = ap (λ (o : Option Object). option_map_or (object_port k) o port.Closed) (own_found ids x there) ∙ through (λ (o : Option Object). option_map_or (object_port k) o port.Closed) own (Some (object_of l x))

    pub own_port : (k : ℕ) → port_in (graph_of ids g).book x k ≡ (if own then port_in g.book x k else port.Closed)
    own_port k = own_ports k ∙ both_ways own (object_port k (object_of l x)) (port_in g.book x k) port.Closed (λ o. four_ports l x k)

    pub own_node_at : node_at (graph_of ids g) x ≡ (if own then node_at g x else None)
    own_node_at = own_node ids x there
