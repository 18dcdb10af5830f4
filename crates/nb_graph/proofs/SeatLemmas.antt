-- The nodes by their serials, after a change of the book or of a node.
use Rattle.nb_ledger.specs.Flat.{Heard, unknown}
use Rattle.nb_ledger.proofs.RunLemmas.{Given-none}
use Rattle.std.proofs.Common.{Option, ◌≡◌, ◌≢◌, ℕ, ◌+◌, ◌<◌, ◌≤◌, Bool, true, false, cond, ltb, zero, suc, List, [], ◌∷◌, ◌++◌, length, set, get_or, slice_get, Some, None, refl, ap, sym, ◌∙◌, subst, arith, inl, inr, eqb}
use Rattle.std.specs.List.{remove}
use Rattle.std.proofs.lemmas.Bool.{cases_Bool, cases_eq, eq-eqb, ne_eqb, ltb-false}
use Rattle.std.proofs.lemmas.Bool.Decides.{nat_tests}
use Rattle.nb_ledger.specs.declared.object.Object.{Object}
use Rattle.nb_ledger.specs.Ledger.{Ledger, object_lives, place}
use Rattle.nb_ledger.specs.Changes.{SameObjects, Adds, Removes}
use Rattle.nb_ledger.proofs.PlaceLemmas.{live_place, live-stands, serial-place}
use Rattle.nb_effects.specs.Whole.{IsManned}
use Rattle.nb_effects.specs.Trace.{Nature, NodeEntry, Owes, Owes1}
use Rattle.nb_effects.specs.declared.effects.Fx.{Fx}
use Rattle.nb_effects.specs.Deeds.{Deed, calls, Stage, Calls}
use Rattle.nb_effects.specs.Follows.{UsesStack}
use Rattle.nb_effects.specs.Hosts.{Performs, Suits}
use Rattle.nb_effects.specs.Scene.{Scene, scene_of}
use Rattle.nb_graph.specs.Lives.{seat, StaysTraced, Loses, NodeFits, nodes_at}
use Rattle.nb_effects.proofs.MannedLemmas.{manned-length, manned-place}
use Rattle.nb_graph.proofs.LivelyLemmas.{slice_get-at, slice_get-set, slice_get-past, some_inj}
use Rattle.nb_effects.proofs.GraphLemmas.{slice_get-push}
use Rattle.nb_graph.proofs.LivesLemmas.{Lives-call}

-- some object
no_object : Object
no_object = record { id = record { 0 = 0 }; rank = 0; busy = false; holds = 0; ports = [] }

-- two objects stand at two places
pub place-apart : (l : Ledger) (x y : ℕ) → object_lives l y ≡ true → x ≢ y → place l x ≢ place l y
place-apart l x y v n = λ e.
    let h = live-stands l y v in
    let a = serial-place l.objects y no_object h in
    let b = serial-place l.objects x no_object (omega (arith, e, h)) in
    n (sym b ∙ ap (λ i. (get_or l.objects i no_object).id.0) e ∙ a)

-- a dead object stands at no place
pub dead-past : (l : Ledger) (x : ℕ) → object_lives l x ≡ false → length l.objects ≤ place l x
unfolding object_lives
dead-past l x h = ltb-false _ _ (live_place l.objects x ∙ h)

pub slice_get-set_other : {A : Type 0} (xs : List A) (i j : ℕ) (v : A) → j ≢ i → slice_get (set xs i v) j ≡ slice_get xs j
slice_get-set_other [] i j v n = refl
slice_get-set_other (x ∷ xs) zero zero v n = absurd (n refl)
slice_get-set_other (x ∷ xs) zero (suc j) v n = refl
slice_get-set_other (x ∷ xs) (suc i) zero v n = refl
slice_get-set_other (x ∷ xs) (suc i) (suc j) v n = slice_get-set_other xs i j v (λ e. n (ap suc e))

slice_get-remove_below : {A : Type 0} (xs : List A) (i j : ℕ) → j < i → slice_get (remove xs i) j ≡ slice_get xs j
slice_get-remove_below [] zero j h = absurd (omega arith)
slice_get-remove_below [] (suc i) j h = refl
slice_get-remove_below (x ∷ xs) zero j h = absurd (omega arith)
slice_get-remove_below (x ∷ xs) (suc i) zero h = refl
slice_get-remove_below (x ∷ xs) (suc i) (suc j) h = slice_get-remove_below xs i j (omega arith)

slice_get-remove_above : {A : Type 0} (xs : List A) (i j : ℕ) → i ≤ j → i < length xs → slice_get (remove xs i) j ≡ slice_get xs (suc j)
slice_get-remove_above [] i j h k = absurd (omega arith)
slice_get-remove_above (x ∷ xs) zero j h k = refl
slice_get-remove_above (x ∷ xs) (suc i) zero h k = absurd (omega arith)
slice_get-remove_above (x ∷ xs) (suc i) (suc j) h k = slice_get-remove_above xs i j (omega arith) (omega arith)

-- the same objects at the same places have the same nodes
pub Loses-same : {N : Type 0} {old new : Ledger} (nodes : List N) → SameObjects old new → Loses (seat old nodes) (seat new nodes)
Loses-same nodes s = record { back = λ x n h. ap (slice_get nodes) (sym (s.same_place x)) ∙ h }

pub Loses-refl : {N : Type 0} (f : ℕ → Option N) → Loses f f
Loses-refl f = record { back = λ x n h. h }

pub Loses-trans : {N : Type 0} {f g h : ℕ → Option N} → Loses f g → Loses g h → Loses f h
Loses-trans p q = record { back = λ x n e. p.back x n (q.back x n e) }

-- one that is dead has no node
pub dead-seat : {N : Type 0} {rank_of : N → ℕ} {l : Ledger} {nodes : List N} {cap : ℕ} (x : ℕ) → IsManned rank_of l nodes cap → object_lives l x ≡ false → seat l nodes x ≡ None
dead-seat {l = l} {nodes = nodes} x m d = let h = dead-past l x d in let k = manned-length m in slice_get-past nodes (place l x) (omega arith)

-- a node is at its place after the one before it was taken out
moved : {A : Type 0} (xs : List A) (i j k : ℕ) → i < length xs → k ≢ i → j + cond (ltb i k) 1 0 ≡ k → slice_get (remove xs i) j ≡ slice_get xs k
moved xs i j k h n e = elim (cases_Bool (ltb i k)) [
  | inl t ↦ let f : suc j ≡ k = grind (arith, nat_tests) in slice_get-remove_above xs i j (grind (arith, nat_tests)) h ∙ ap (slice_get xs) f
  | inr t ↦ let f : j ≡ k = grind (arith, nat_tests) in slice_get-remove_below xs i j (grind (arith, nat_tests)) ∙ ap (slice_get xs) f
]

-- after an object and its node are taken out
pub Loses-remove : {N : Type 0} {rank_of : N → ℕ} {old new : Ledger} {nodes more : List N} {cap big x : ℕ} → object_lives old x ≡ true → Removes old new x → more ≡ remove nodes (place old x) → IsManned rank_of old nodes cap → IsManned rank_of new more big → Loses (seat old nodes) (seat new more)
Loses-remove {old = old} {new = new} {nodes = nodes} {more = more} {x = x} v r is m t = record {
  back = λ y n h. elim (cases_eq y x) [
    | inl e ↦ absurd (let d = r.live_set y in let z : object_lives new y ≡ false = d ∙ rw e (gone x) in let p = dead-seat y t z in cc)
    | inr e ↦ sym (moved nodes (place old x) (place new y) (place old y) (manned-place x m v) (place-apart old y x v e) (r.place_set y e)) ∙ ap (λ z. slice_get z (place new y)) (sym is) ∙ h
  ];
}
  where
    gone : (x : ℕ) → cond (eqb x x) false (object_lives old x) ≡ false
    gone x = rw (eq-eqb x x refl) refl

-- a call of the node of an object
pub Lives-seat : {N L : Type 0} {known : Nature N L} {u : Heard} {rank_of : N → ℕ} {l : Ledger} {nodes : List N} {cap : ℕ} (stands : N → List (NodeEntry N L) → Type 0) (now : ℕ) (owing : ℕ → List L → List L → Type 0) (o n : List (Stage N L) → List (Stage N L)) (y p : ℕ) (i : NodeEntry N L) (d c : N) → IsManned rank_of l nodes cap → object_lives l y ≡ true → p ≡ place l y → d ≡ get_or nodes p d → ((w v : List L) → owing y w v → Owes1 w i v) → ((x : ℕ) (w v : List L) → x ≢ y → owing x w v → w ≡ v) → Performs known stands d i c → ((t : List (NodeEntry N L)) (w v : List L) → owing y w v → Owes [] t w → Suits t i) → ((st : List (Stage N L)) (ds : List (Deed N L)) (s : Scene) → UsesStack known now (scene_of l) (n st) ds s → UsesStack known now (scene_of l) (o st) (calls y i ∷ ds) s) → {z : List (Deed N L) → Type 0} → z (calls y i ∷ []) → StaysTraced stands known now (nodes_at l nodes u) (nodes_at l (set nodes p c) u) owing o n z []
Lives-seat {u = u} {l = l} {nodes = nodes} stands now owing o n y p i d c m v at is owes stay performs suit hears moves =
    let h = manned-place y m v in
    let q : p < length nodes = omega (arith, h, at) in
    Lives-call stands now (nodes_at l nodes u) (nodes_at l (set nodes p c) u) owing o n y i d c refl (Given-none u)
    (ap (slice_get nodes) (sym at) ∙ slice_get-at nodes p d q ∙ ap Some (sym is))
    (λ k e. some_inj (sym e ∙ ap (slice_get (set nodes p c)) (sym at) ∙ slice_get-set nodes p c q))
    (λ x k a e. sym (slice_get-set_other nodes p (place l x) c (λ z. place-apart l x y v a (z ∙ at))) ∙ e)
    owes stay performs suit hears moves

-- a call of the node of an object by an entry, which is the first that happens
pub Calls-seat : {N L : Type 0} {known : Nature N L} {u : Heard} {rank_of : N → ℕ} {l : Ledger} {nodes : List N} {cap : ℕ} (stands : N → List (NodeEntry N L) → Type 0) (now : ℕ) (owing : ℕ → List L → List L → Type 0) (o n : List (Stage N L) → List (Stage N L)) (y p : ℕ) (entry : Bool → Fx N L → NodeEntry N L) (done : Bool) (fx : Fx N L) (d c : N) → IsManned rank_of l nodes cap → object_lives l y ≡ true → p ≡ place l y → d ≡ get_or nodes p d → ((w v : List L) → owing y w v → Owes1 w (entry done fx) v) → ((x : ℕ) (w v : List L) → x ≢ y → owing x w v → w ≡ v) → Performs known stands d (entry done fx) c → ((t : List (NodeEntry N L)) (w v : List L) → owing y w v → Owes [] t w → Suits t (entry done fx)) → ((st : List (Stage N L)) (ds : List (Deed N L)) (s : Scene) → UsesStack known now (scene_of l) (n st) ds s → UsesStack known now (scene_of l) (o st) (calls y (entry done fx) ∷ ds) s) → {z : List (Deed N L) → Type 0} → z (calls y (entry done fx) ∷ []) → (k : StaysTraced stands known now (nodes_at l nodes u) (nodes_at l (set nodes p c) u) owing o n z []) × Calls y entry k.deeds
unfolding Lives-seat Lives-call
Calls-seat stands now owing o n y p entry done fx d c m v at is owes stay performs suit hears moves =
    (Lives-seat stands now owing o n y p (entry done fx) d c m v at is owes stay performs suit hears moves, (done, fx, [], refl))

slice_get-before : {A : Type 0} (xs ys : List A) (i : ℕ) → i < length xs → slice_get (xs ++ ys) i ≡ slice_get xs i
slice_get-before [] ys i h = absurd (omega arith)
slice_get-before (x ∷ xs) ys zero h = refl
slice_get-before (x ∷ xs) ys (suc i) h = slice_get-before xs ys i (omega arith)

-- an object is made: its node, and the others' nodes
module _ {N : Type 0} {rank_of : N → ℕ} {old mid : Ledger} {nodes : List N} {cap big x r : ℕ} (new : Ledger) (n : N) (m : IsManned rank_of old nodes cap) (a : Adds old mid x r) (t : IsManned rank_of mid (nodes ++ n ∷ []) big) (at : place mid x ≡ length nodes) (s : (y : ℕ) → place new y ≡ place mid y) where
  pub made-seat : (k : N) → seat new (nodes ++ n ∷ []) x ≡ Some k → k ≡ n
  made-seat k h = some_inj (sym h ∙ ap (slice_get (nodes ++ n ∷ [])) (s x ∙ at) ∙ slice_get-push nodes n)

  pub other-seat : (y : ℕ) (k : N) → y ≢ x → seat new (nodes ++ n ∷ []) y ≡ Some k → seat old nodes y ≡ Some k
  other-seat y k ne h = elim (cases_Bool (object_lives old y)) [
    | inl v ↦
        let p = a.place_set y v in
        sym (slice_get-before nodes (n ∷ []) (place old y) (manned-place y m v)) ∙ ap (slice_get (nodes ++ n ∷ [])) (sym (s y ∙ p)) ∙ h
    | inr d ↦ absurd (let z : object_lives mid y ≡ false = a.live_set y ∙ rw (ne_eqb y x ne) d in let q = dead-seat y t z in let w = ap (slice_get (nodes ++ n ∷ [])) (s y) in cc)
  ]

-- a node that stands for all that it stood for
pub Keeps-set : {N L : Type 0} {rank_of : N → ℕ} {l : Ledger} {nodes : List N} {cap : ℕ} (stands : N → List (NodeEntry N L) → Type 0) (y p : ℕ) (d c : N) → IsManned rank_of l nodes cap → object_lives l y ≡ true → p ≡ place l y → d ≡ get_or nodes p d → ((t : List (NodeEntry N L)) → stands d t → stands c t) → (x : ℕ) (t : List (NodeEntry N L)) (w : List L) → NodeFits stands (nodes_at l nodes unknown) x t w → NodeFits stands (nodes_at l (set nodes p c) unknown) x t w
Keeps-set {l = l} {nodes = nodes} stands y p d c m v at is law x t w fit = λ n h.
    let i = manned-place y m v in
    let q : p < length nodes = omega (arith, i, at) in
    elim (cases_eq x y) [
      | inl e ↦
          let z = fit d (ap (λ j. slice_get nodes (place l j)) e ∙ ap (slice_get nodes) (sym at) ∙ slice_get-at nodes p d q ∙ ap Some (sym is)) in
          let same : c ≡ n = some_inj (sym (slice_get-set nodes p c q) ∙ ap (slice_get (set nodes p c)) (at ∙ ap (place l) (sym e)) ∙ h) in
          (subst (λ j. stands j t) same (law t z.0), z.1)
      | inr a ↦ fit n (sym (slice_get-set_other nodes p (place l x) c (λ j. place-apart l x y v a (j ∙ at))) ∙ h)
    ]
