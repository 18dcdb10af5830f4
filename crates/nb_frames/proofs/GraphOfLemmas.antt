-- A call on some objects, in which none of them is made or freed, is one on the graph of these objects alone.
use Rattle.std.proofs.Common.{◌≡◌, ℕ, ◌+◌, Bool, true, false, List, [], ◌∷◌, length, Option, Some, sym, ap, ◌∙◌, eqb, if◌then◌else◌}
use Rattle.std.specs.List.{AllByRecursion}
use Rattle.std.proofs.Math.Path.{fun_ext}
use Rattle.std.proofs.lemmas.Bool.{false≢true}
use Rattle.nb_ledger.specs.declared.port.PortState.{PortState}
use Rattle.nb_ledger.specs.GraphRun.{GraphState, but_at}
use Rattle.nb_ledger.specs.Ledger.{Ledger, object_lives, holds, port as port_in, run_state}
use Rattle.nb_graph.specs.Deeds.{Deed, writes, begins, calls, turns, trace_after}
use Rattle.nb_graph.specs.Hosts.{Hosts, Suited}
use Rattle.nb_graph.specs.Scene.{Scene, scene_of}
use Rattle.nb_graph.specs.Trace.{Nature, NodeEntry}
use Rattle.nb_graph.specs.Whole.{Objects}
use Rattle.nb_frames.specs.Frames.{is_one_of, last_among, graph_of}
use Rattle.nb_frames.proofs.WithinLemmas.{IsDeedWithin}
use Rattle.nb_frames.proofs.MaskLemmas.{mask, mask_port, own_scene, own_state}
use Rattle.nb_frames.proofs.OwnLemmas.{AreThere, as_many, own_lives, own_holds, own_port}

-- what is seen of the graph of some objects
pub scene_alone : {N : Type 0} (ids : List ℕ) (g : Objects N) → AreThere ids g → own_scene (is_one_of ids) (length ids) (length ids + 1) (last_among ids) (scene_of g.book) ≡ scene_of (graph_of ids g).book
scene_alone ids g there =
    let h : Ledger = (graph_of ids g).book in
    let ports : mask_port (is_one_of ids) (port_in g.book) ≡ port_in h = fun_ext (λ x. fun_ext (λ k. sym (own_port g ids there x k))) in
    let lives : mask (is_one_of ids) false (object_lives g.book) ≡ object_lives h = fun_ext (λ x. sym (own_lives g ids there x)) in
    let many : length ids ≡ length h.objects = sym (as_many g ids there) in
    ap (λ (f : ℕ → ℕ → PortState). let z : Scene = record { port = f; live = mask (is_one_of ids) false (object_lives g.book); number = length ids; room = length ids + 1; made = last_among ids } in z) ports
    ∙ (ap (λ (f : ℕ → Bool). let z : Scene = record { port = port_in h; live = f; number = length ids; room = length ids + 1; made = last_among ids } in z) lives
    ∙ ap (λ (n : ℕ). let z : Scene = record { port = port_in h; live = object_lives h; number = n; room = length ids + 1; made = last_among ids } in z) many)

pub state_alone : {N : Type 0} (ids : List ℕ) (g : Objects N) → AreThere ids g → own_state (is_one_of ids) (last_among ids) (run_state g.book []) ≡ run_state (graph_of ids g).book []
state_alone ids g there =
    let h : Ledger = (graph_of ids g).book in
    let own : ℕ → Bool = is_one_of ids in
    let ports : mask_port own (port_in g.book) ≡ port_in h = fun_ext (λ x. fun_ext (λ k. sym (own_port g ids there x k))) in
    let lives : mask own false (object_lives g.book) ≡ object_lives h = fun_ext (λ x. sym (own_lives g ids there x)) in
    let held : mask own 0 (holds g.book) ≡ holds h = fun_ext (λ x. sym (own_holds g ids there x)) in
    ap (λ (f : ℕ → ℕ → PortState). let z : GraphState = record { made = last_among ids; live = mask own false (object_lives g.book); holds = mask own 0 (holds g.book); port = f; stack = [] } in z) ports
    ∙ (ap (λ (f : ℕ → Bool). let z : GraphState = record { made = last_among ids; live = f; holds = mask own 0 (holds g.book); port = port_in h; stack = [] } in z) lives
    ∙ ap (λ (f : ℕ → ℕ). let z : GraphState = record { made = last_among ids; live = object_lives h; holds = f; port = port_in h; stack = [] } in z) held)

-- the nodes of these objects through what happens to them
module _ {N L : Type 0} (known : Nature N L) (stands : N → List (NodeEntry N L) → Type 0) (own : ℕ → Bool) where
  but_alike : (f g : ℕ → Option N) (x y : ℕ) (m : N) → g y ≡ f y → but_at x (Some m) g y ≡ but_at x (Some m) f y
  but_alike f g x y m e = ap (λ (z : Option N). if eqb y x then Some m else z) e

  pub hosts_alone : (f e : ℕ → Option N) (g h : ℕ → Option N) (ds : List (Deed N L)) → ((x : ℕ) → own x ≡ true → e x ≡ f x) → ((x : ℕ) (n : N) → h x ≡ Some n → (own x ≡ true) × (g x ≡ Some n)) → AllByRecursion (IsDeedWithin own) ds → Hosts known stands f ds g → Hosts known stands e ds h
  hosts_alone f e g h [] same back o k = λ x n i. let z = back x n i in same x z.0 ∙ k x n z.1
  hosts_alone f e g h (writes i ∷ ds) same back o k = hosts_alone f e g h ds same back o.1 k
  hosts_alone f e g h (begins x n ∷ ds) same back o k = absurd o.0
  hosts_alone f e g h (calls x i ∷ ds) same back o k =
      (k.0, k.1, same x o.0 ∙ k.2, k.3, hosts_alone (but_at x (Some k.1) f) (but_at x (Some k.1) e) g h ds (λ y j. but_alike f e x y k.1 (same y j)) back o.1 k.4)
  hosts_alone f e g h (turns u ∷ ds) same back o k = hosts_alone f e g h ds same back o.1 k

  -- an object that isn't one of them has no entry
  pub far_suited : (x : ℕ) (t : List (NodeEntry N L)) (ds : List (Deed N L)) → own x ≡ false → AllByRecursion (IsDeedWithin own) ds → Suited x t ds
  far_suited x t [] far o = tt
  far_suited x t (writes e ∷ ds) far o = far_suited x t ds far o.1
  far_suited x t (begins y n ∷ ds) far o = absurd o.0
  far_suited x t (calls y e ∷ ds) far o = ((λ i. absurd (false≢true (sym far ∙ (ap own i ∙ o.0)))), far_suited x (trace_after x t (calls y e ∷ [])) ds far o.1)
  far_suited x t (turns u ∷ ds) far o = far_suited x t ds far o.1
