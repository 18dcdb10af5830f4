-- A call on some objects, in which none of them is made or freed, is one on the graph of these objects alone.
use Rattle.std.proofs.Common.{inl, inr, ◌≡◌, ◌⊎◌, ℕ, ◌+◌, ◌≤◌, ◌==◌, ◌||◌, Bool, true, false, List, [], ◌∷◌, ◌++◌, length, append_assoc, Some, None, refl, sym, ap, ◌∙◌, subst, arith}
use Rattle.std.specs.List.{AllByRecursion}
use Rattle.std.proofs.lemmas.List.{append-nil}
use Rattle.std.proofs.lemmas.Bool.{eq-eqb, false≢true}
use Rattle.nb_ledger.specs.declared.port.Port.{Port}
use Rattle.nb_ledger.specs.declared.port.PortState.TheVariants as port
use Rattle.nb_ledger.specs.Flat.{Heard}
use Rattle.nb_ledger.specs.GraphRun.{GraphRunOf}
use Rattle.nb_ledger.specs.Ledger.{Ledger, object_lives, rank, port as port_in, run_state, open_count}
use Rattle.nb_graph.specs.Accounts.{Account, Balanced, JoinedEnds, joined, parted, Midway, account, rests}
use Rattle.nb_graph.specs.Deeds.{Deed, Stage, events_of}
use Rattle.nb_graph.specs.Follows.{UsesStack}
use Rattle.nb_graph.specs.Lived.{ObjectStands}
use Rattle.nb_graph.specs.Noded.{AreNoded}
use Rattle.nb_graph.specs.Scene.{Scene, scene_of}
use Rattle.nb_graph.specs.Trace.{Nature, NodeEntry}
use Rattle.nb_graph.specs.Went.{Each, WentOne, Midways, all_of, accounts}
use Rattle.nb_graph.specs.Whole.{Objects, port_at, node_at}
use Rattle.nb_graph.proofs.AccountLemmas.{start-joined}
use Rattle.nb_graph.proofs.Laws.{only_call}
use Rattle.nb_frames.specs.Frames.{is_one_of, last_among, graph_of, IsOwnCall, GoesAlone}
use Rattle.nb_frames.proofs.WithinLemmas.{IsDeedWithin, asks_none, run_within}
use Rattle.nb_frames.proofs.MaskLemmas.{own_scene, own_state}
use Rattle.nb_frames.proofs.AloneLemmas.{IsPlainDeed, frees_other, run_alone, states_alone, run_shuts, run_counts, run_links}
use Rattle.nb_frames.proofs.BalanceLemmas.{account_grows, far_stays, far_covered, far_alike}
use Rattle.nb_frames.proofs.OwnLemmas.{AreThere, are_there, no_port, own_lives, own_rank, own_port, own_node_at}
use Rattle.nb_frames.proofs.GraphOfLemmas.{scene_alone, state_alone, hosts_alone, far_suited}

pub either_way : (b : Bool) → (b ≡ true) ⊎ (b ≡ false)
either_way true = inl refl
either_way false = inr refl

or_true : (b c : Bool) → c ≡ true → (b || c) ≡ true
or_true true c e = refl
or_true false c e = e

-- the last of some is one of them
last_in : (x : ℕ) (xs : List ℕ) → is_one_of (x ∷ xs) (last_among (x ∷ xs)) ≡ true
last_in x [] = rw (eq-eqb x x refl) refl
last_in x (y ∷ ys) = or_true (last_among (y ∷ ys) == x) (is_one_of (y ∷ ys) (last_among (y ∷ ys))) (last_in y ys)

module _ {N : Type 0} (ids : List ℕ) (g : Objects N) (there : AreThere ids g) where
  pub port_own : (x k : ℕ) → is_one_of ids x ≡ true → port_in (graph_of ids g).book x k ≡ port_in g.book x k
  port_own x k o = own_port g ids there x k ∙ rw o refl

  pub port_far : (x k : ℕ) → is_one_of ids x ≡ false → port_in (graph_of ids g).book x k ≡ port.Closed
  port_far x k o = own_port g ids there x k ∙ rw o refl

  pub lives_own : (x : ℕ) → object_lives (graph_of ids g).book x ≡ true → (is_one_of ids x ≡ true) × (object_lives g.book x ≡ true)
  lives_own x l = elim (either_way (is_one_of ids x)) [
    | inl o ↦ (o, sym (own_lives g ids there x ∙ rw o refl) ∙ l)
    | inr o ↦ absurd (false≢true (sym (own_lives g ids there x ∙ rw o refl) ∙ l))
  ]

  pub rank_own : (x : ℕ) → is_one_of ids x ≡ true → rank (graph_of ids g).book x ≡ rank g.book x
  rank_own x o = own_rank g ids there x ∙ rw o refl

  pub node_own : (x : ℕ) → is_one_of ids x ≡ true → node_at (graph_of ids g) x ≡ node_at g x
  node_own x o = own_node_at g ids there x ∙ rw o refl

  pub node_back : (x : ℕ) (n : N) → node_at (graph_of ids g) x ≡ Some n → (is_one_of ids x ≡ true) × (node_at g x ≡ Some n)
  node_back x n e = elim (either_way (is_one_of ids x)) [
    | inl o ↦ (o, sym (node_own x o) ∙ e)
    | inr o ↦ absurd (let none : node_at (graph_of ids g) x ≡ None = own_node_at g ids there x ∙ rw o refl in let z = sym none ∙ e in cc)
  ]

  -- two ends of a link of these objects
  joined_out : (p q : Port) (s t : List ℕ) → last_among ids ≤ g.book.made → is_one_of ids p.obj.0 ≡ true → is_one_of ids q.obj.0 ≡ true → JoinedEnds (graph_of ids g).book p q s t [] → JoinedEnds g.book p q s t []
  joined_out p q s t low i j (joined a b c d e) = joined (omega (arith, a, low)) (omega (arith, b, low)) (sym (port_own p.obj.0 p.slot i) ∙ c) (sym (port_own q.obj.0 q.slot j) ∙ d) e
  joined_out p q s t low i j (parted a b c d rest e) =
      parted (omega (arith, a, low)) (omega (arith, b, low)) (ap open_count (sym (port_own p.obj.0 p.slot i)) ∙ c) (ap open_count (sym (port_own q.obj.0 q.slot j)) ∙ d) rest e

  joined_in : (p q : Port) (s t : List ℕ) → p.obj.0 ≤ last_among ids → q.obj.0 ≤ last_among ids → is_one_of ids p.obj.0 ≡ true → is_one_of ids q.obj.0 ≡ true → JoinedEnds g.book p q s t [] → JoinedEnds (graph_of ids g).book p q s t []
  joined_in p q s t l m i j (joined a b c d e) = joined l m (port_own p.obj.0 p.slot i ∙ c) (port_own q.obj.0 q.slot j ∙ d) e
  joined_in p q s t l m i j (parted a b c d rest e) = parted l m (ap open_count (port_own p.obj.0 p.slot i) ∙ c) (ap open_count (port_own q.obj.0 q.slot j) ∙ d) rest e

-- the bounds of two ends
low_ends : (l : Ledger) (p q : Port) (s t d : List ℕ) → JoinedEnds l p q s t d → (p.obj.0 ≤ l.made) × (q.obj.0 ≤ l.made)
low_ends l p q s t d (joined a b c e f) = (a, b)
low_ends l p q s t d (parted a b c e rest f) = (a, b)

-- each live object of the graph of some has a node
pub noded_own : {N : Type 0} (rank_of : N → ℕ) (ids : List ℕ) (g : Objects N) → AreThere ids g → AreNoded rank_of g → AreNoded rank_of (graph_of ids g)
noded_own rank_of ids g there noded x l =
    let z = lives_own ids g there x l in
    let n = noded x z.1 in
    record { node = n.node; is_node = node_own ids g there x z.0 ∙ n.is_node; at_rank = n.at_rank ∙ sym (rank_own ids g there x z.0) }

-- two ends that aren't linked
abbrev Apart : Ledger → Port → Port → List ℕ → List ℕ → Type 0
Apart l p q s t = (open_count (port_in l p.obj.0 p.slot) ≡ 0) × (open_count (port_in l q.obj.0 q.slot) ≡ 0) × (rest : List ℕ) × (s ≡ t ++ rest)

apart_first : (l : Ledger) (p q : Port) (s t d : List ℕ) → port_in l p.obj.0 p.slot ≡ port.Closed → JoinedEnds l p q s t d → Apart l p q s t
apart_first l p q s t d shut (joined a b c e f) = absurd (let z = sym shut ∙ c in cc)
apart_first l p q s t d shut (parted a b c e rest f) = (c, e, rest, f)

apart_other : (l : Ledger) (p q : Port) (s t d : List ℕ) → port_in l q.obj.0 q.slot ≡ port.Closed → JoinedEnds l p q s t d → Apart l p q s t
apart_other l p q s t d shut (joined a b c e f) = absurd (let z = sym shut ∙ e in cc)
apart_other l p q s t d shut (parted a b c e rest f) = (c, e, rest, f)

-- the bytes on the links of these objects
module _ {N L : Type 0} (known : Nature N L) (ids : List ℕ) (g h : Objects N) (here : AreThere ids g) (there : AreThere ids h) (now : ℕ) (asks : List (Stage N L)) (ds : List (Deed N L))
    (plain : AllByRecursion IsPlainDeed ds) (within : AllByRecursion (IsDeedWithin (is_one_of ids)) ds) (uses : UsesStack known now (scene_of g.book) asks ds (scene_of h.book)) (low : last_among ids ≤ g.book.made) where
  abbrev own : ℕ → Bool
  own = is_one_of ids

  abbrev after : Port → Account → Account
  after p a = account known p (rests a) ds

  -- a port of no object of them, in place of p
  abbrev off : Port → Port
  off p = port_at p.obj.0 7

  inner_out : (p q : Port) (a b : Account) → own p.obj.0 ≡ true → own q.obj.0 ≡ true → Balanced (graph_of ids g).book p q a b → Balanced g.book p q a b
  inner_out p q a b i j h0 = λ e. joined_out ids g here p q a.sent b.taken low i j (h0 e)

  outer_out : (p q : Port) (a b : Account) → own p.obj.0 ≡ false → own q.obj.0 ≡ true → Balanced (graph_of ids g).book p q a b → Balanced g.book (off p) q a b
  outer_out p q a b i j h0 = λ e.
      let ends = h0 e in
      let low2 = low_ends (graph_of ids g).book p q a.sent b.taken [] ends in
      let z = apart_first (graph_of ids g).book p q a.sent b.taken [] (port_far ids g here p.obj.0 p.slot i) ends in
      parted (let l = low2.0 in omega (arith, l, low)) (let l = low2.1 in omega (arith, l, low)) (ap open_count (no_port g.book p.obj.0 7 (omega arith))) (ap open_count (sym (port_own ids g here q.obj.0 q.slot j)) ∙ z.1) z.2 z.3

  still_shut : (x k : ℕ) → own x ≡ true → open_count (port_in (graph_of ids g).book x k) ≡ 0 → open_count (port_in (graph_of ids h).book x k) ≡ 0
  still_shut x k o z = ap open_count (port_own ids h there x k o) ∙ run_shuts known own 0 0 0 now (scene_of g.book) (scene_of h.book) asks ds x k plain uses (ap open_count (sym (port_own ids g here x k o)) ∙ z)

  far_shut : (x k : ℕ) → own x ≡ false → open_count (port_in (graph_of ids h).book x k) ≡ 0
  far_shut x k o = ap open_count (port_far ids h there x k o)

  any_shut : (x k : ℕ) → open_count (port_in (graph_of ids g).book x k) ≡ 0 → open_count (port_in (graph_of ids h).book x k) ≡ 0
  any_shut x k z = elim (either_way (own x)) [ inl o ↦ still_shut x k o z | inr o ↦ far_shut x k o ]

  pub midway_alone : ((p q : Port) (a b : Account) → Balanced g.book p q a b → Midway known p q (rests a) (rests b) ds) → (p q : Port) (a b : Account) → Balanced (graph_of ids g).book p q a b → Midway known p q (rests a) (rests b) ds
  midway_alone mid p q a b h0 = elim (either_way (own q.obj.0)) [
    | inr far ↦ far_covered known own q far p (rests a) (rests b) ds plain within (λ e. start-joined (h0 e))
    | inl j ↦ elim (either_way (own p.obj.0)) [
      | inl i ↦ mid p q a b (inner_out p q a b i j h0)
      | inr i ↦ far_alike known own p (off p) q i i (rests a) (rests a) (rests b) ds refl plain within (mid (off p) q a b (outer_out p q a b i j h0))
    ]
  ]

  -- one end is of another object
  far_balance : (p q : Port) (a b : Account) → ((p q : Port) (a b : Account) → Balanced g.book p q a b → Balanced h.book p q (after p a) (after q b)) → Balanced (graph_of ids g).book p q a b
      → a.peer ≡ Some q → own p.obj.0 ≡ false → own q.obj.0 ≡ true → JoinedEnds (graph_of ids h).book p q (after p a).sent (after q b).taken []
  far_balance p q a b bal h0 e i j =
      let ends = h0 e in
      let low2 = low_ends (graph_of ids g).book p q a.sent b.taken [] ends in
      let z = apart_first (graph_of ids g).book p q a.sent b.taken [] (port_far ids g here p.obj.0 p.slot i) ends in
      let got = start-joined (bal (off p) q a b (outer_out p q a b i j h0) ((account_grows known own (off p) (rests a) ds plain).same_peer ∙ e)) in
      let one = far_stays known own p i (rests a) ds plain within in
      let two = far_stays known own (off p) i (rests a) ds plain within in
      parted low2.0 low2.1 (any_shut p.obj.0 p.slot z.0) (any_shut q.obj.0 q.slot z.1) got.0 (one.1 ∙ (sym two.1 ∙ got.1))

  other_balance : (p q : Port) (a b : Account) → Balanced (graph_of ids g).book p q a b → a.peer ≡ Some q → own q.obj.0 ≡ false → JoinedEnds (graph_of ids h).book p q (after p a).sent (after q b).taken []
  other_balance p q a b h0 e j =
      let ends = h0 e in
      let low2 = low_ends (graph_of ids g).book p q a.sent b.taken [] ends in
      let z = apart_other (graph_of ids g).book p q a.sent b.taken [] (port_far ids g here q.obj.0 q.slot j) ends in
      let grown = account_grows known own p (rests a) ds plain in
      let took = far_stays known own q j (rests b) ds plain within in
      parted low2.0 low2.1 (any_shut p.obj.0 p.slot z.0) (any_shut q.obj.0 q.slot z.1) (z.2 ++ grown.more)
      (grown.sent ∙ (ap (λ w. w ++ grown.more) z.3 ∙ (append_assoc b.taken z.2 grown.more ∙ ap (λ w. w ++ (z.2 ++ grown.more)) (sym took.0))))

  pub balance_alone : ((p q : Port) (a b : Account) → Balanced g.book p q a b → Balanced h.book p q (after p a) (after q b)) → (p q : Port) (a b : Account) → Balanced (graph_of ids g).book p q a b → Balanced (graph_of ids h).book p q (after p a) (after q b)
  balance_alone bal p q a b h0 = λ i.
      let e : a.peer ≡ Some q = sym (account_grows known own p (rests a) ds plain).same_peer ∙ i in
      let low2 = low_ends (graph_of ids g).book p q a.sent b.taken [] (h0 e) in
      elim (either_way (own q.obj.0)) [
        | inr far ↦ other_balance p q a b h0 e far
        | inl j ↦ elim (either_way (own p.obj.0)) [
          | inl k ↦ joined_in ids h there p q (after p a).sent (after q b).taken low2.0 low2.1 k j (bal p q a b (inner_out p q a b k j h0) i)
          | inr far ↦ far_balance p q a b bal h0 e far j
        ]
      ]

module _ {N L : Type 0} (known : Nature N L) (stands : N → List (NodeEntry N L) → Type 0) (rank_of : N → ℕ) (ids : List ℕ) (now : ℕ) (asks : List (Stage N L)) (g h : Objects N) (m n : Heard) where
  low_last : (xs : List ℕ) (made : ℕ) → ((x : ℕ) → is_one_of xs x ≡ true → x ≤ made) → last_among xs ≤ made
  low_last [] made given = omega arith
  low_last (x ∷ xs) made given = given (last_among (x ∷ xs)) (last_in x xs)

  pub goes_alone : AreNoded rank_of g → AreNoded rank_of h → (k : WentOne stands known now asks g h m n) → IsOwnCall ids asks g h (all_of k.deeds) → GoesAlone stands known ids now asks g h m n (all_of k.deeds)
  goes_alone noded hosted k c =
      let own : ℕ → Bool = is_one_of ids in
      let here : AreThere ids g = are_there ids g c.lives (λ x o. let z = noded x (c.lives x o) in (z.node, z.is_node)) in
      let there : AreThere ids h = are_there ids h c.stays (λ x o. let z = hosted x (c.stays x o) in (z.node, z.is_node)) in
      let low : last_among ids ≤ g.book.made = low_last ids g.book.made c.given in
      let one = only_call known (scene_of g.book) (scene_of h.book) (record { now = now; asks = asks }) k.deeds k.each in
      let ds : List (Deed N L) = one.0 in
      let all : all_of k.deeds ≡ ds = ap all_of one.1 ∙ append-nil ds in
      let none = asks_none own (all_of k.deeds) c.makes in
      let uses1 : UsesStack known now (scene_of g.book) asks (all_of k.deeds) (scene_of h.book) = subst (λ z. UsesStack known now (scene_of g.book) asks z (scene_of h.book)) (sym all) one.2 in
      let within1 = run_within known own now (scene_of g.book) (scene_of h.book) asks (all_of k.deeds) c.within c.links none uses1 in
      let alone1 = run_alone known own (length ids) (length ids + 1) (last_among ids) now (scene_of g.book) (scene_of h.book) asks (all_of k.deeds) c.within c.plain c.links none (frees_other own (all_of k.deeds) c.frees) uses1 in
      let within : AllByRecursion (IsDeedWithin own) ds = subst (λ z. AllByRecursion (IsDeedWithin own) z) all within1 in
      let plain : AllByRecursion IsPlainDeed ds = subst (λ z. AllByRecursion IsPlainDeed z) all alone1.1 in
      let before : Scene = own_scene own (length ids) (length ids + 1) (last_among ids) (scene_of g.book) in
      let after : Scene = own_scene own (length ids) (length ids + 1) (last_among ids) (scene_of h.book) in
      let uses2 : UsesStack known now before asks ds after = subst (λ z. UsesStack known now before asks z after) all alone1.0 in
      let uses3 : UsesStack known now (scene_of (graph_of ids g).book) asks ds after = subst (λ z. UsesStack known now z asks ds after) (scene_alone ids g here) uses2 in
      let uses : UsesStack known now (scene_of (graph_of ids g).book) asks ds (scene_of (graph_of ids h).book) = subst (λ z. UsesStack known now (scene_of (graph_of ids g).book) asks ds z) (scene_alone ids h there) uses3 in
      let run1 = states_alone known own (length ids) (length ids + 1) (last_among ids) (all_of k.deeds) (run_state g.book []) (run_state h.book []) alone1.1 within1 (subst (λ z. GraphRunOf (run_state g.book []) z (run_state h.book [])) (sym k.events) k.runs.run) in
      let run2 : GraphRunOf (run_state (graph_of ids g).book []) (events_of (all_of k.deeds)) (own_state own (last_among ids) (run_state h.book [])) =
      subst (λ z. GraphRunOf z (events_of (all_of k.deeds)) (own_state own (last_among ids) (run_state h.book []))) (state_alone ids g here) run1 in
      let run3 : GraphRunOf (run_state (graph_of ids g).book []) (events_of (all_of k.deeds)) (run_state (graph_of ids h).book []) =
      subst (λ z. GraphRunOf (run_state (graph_of ids g).book []) (events_of (all_of k.deeds)) z) (state_alone ids h there) run2 in
      let up : (x : ℕ) (t : List (NodeEntry N L)) → own x ≡ true → ObjectStands stands (graph_of ids g) x t → ObjectStands stands g x t = λ x t o f i e. f i (node_own ids g here x o ∙ e) in
      let mid : (p q : Port) (a b : Account) → Balanced g.book p q a b → Midway known p q (rests a) (rests b) ds = λ p q a b z. (subst (Midways known p q a b) one.1 (k.midway p q a b z)).0 in
      let bal : (p q : Port) (a b : Account) → Balanced g.book p q a b → Balanced h.book p q (account known p (rests a) ds) (account known q (rests b) ds) = λ p q a b z.
      subst (λ y. Balanced h.book p q (accounts known p a y) (accounts known q b y)) one.1 (k.balances p q a b z) in
      record {
        went = record {
          added = k.added;
          runs = record { told = k.runs.told; run = subst (λ z. GraphRunOf (run_state (graph_of ids g).book []) z (run_state (graph_of ids h).book [])) k.events run3 };
          ages = record {
            later = omega arith;
            kept = λ x le l.
                let z = lives_own ids h there x l in
                let was : object_lives (graph_of ids g).book x ≡ true = own_lives g ids here x ∙ rw z.0 (c.lives x z.0) in
                (was, rank_own ids h there x z.0 ∙ ((k.ages.kept x (c.given x z.0) z.1).1 ∙ sym (rank_own ids g here x z.0)));
          };
          deeds = k.deeds;
          events = k.events;
          tells = k.tells;
          each = subst (λ z. Each known (scene_of (graph_of ids g).book) (record { now = now; asks = asks } ∷ []) z (scene_of (graph_of ids h).book)) (sym one.1) (scene_of (graph_of ids h).book, uses, refl);
          keeps = λ x t f i e. let z = node_back ids h there x i e in k.keeps x t (up x t z.0 f) i z.1;
          hosts = hosts_alone known stands own (node_at g) (node_at (graph_of ids g)) (node_at h) (node_at (graph_of ids h)) (all_of k.deeds) (node_own ids g here) (node_back ids h there) within1 k.hosts;
          suits = λ x t f. elim (either_way (own x)) [ inl o ↦ k.suits x t (up x t o f) | inr o ↦ far_suited known stands own x t (all_of k.deeds) o within1 ];
          midway = λ p q a b z. subst (Midways known p q a b) (sym one.1) (midway_alone known ids g h here there now asks ds plain within one.2 low mid p q a b z, tt);
          balances = λ p q a b z. subst (λ y. Balanced (graph_of ids h).book p q (accounts known p a y) (accounts known q b y)) (sym one.1) (balance_alone known ids g h here there now asks ds plain within one.2 low bal p q a b z);
        };
        same = refl;
        links = run_links known own 0 0 0 now (scene_of g.book) (scene_of h.book) asks ds within one.2 c.links;
        same_number = (run_counts known own 0 0 0 now (scene_of g.book) (scene_of h.book) asks ds plain one.2).0;
        same_room = (run_counts known own 0 0 0 now (scene_of g.book) (scene_of h.book) asks ds plain one.2).1;
      }
