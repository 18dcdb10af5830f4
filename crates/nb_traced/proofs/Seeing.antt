-- What the records alone say of the graph, and the state to which they have led it.
use Rattle.std.proofs.Common.{◌≡◌, inl, inr, ℕ, ◌+◌, ◌<◌, ◌≤◌, ◌==◌, ◌||◌, Bool, true, false, not, cond, List, [], ◌∷◌, ◌++◌, filter, fold, Some, refl, sym, ◌∙◌, ap, subst, arith, if◌then◌else◌, lt_irrefl}
use Rattle.std.specs.List.{AllByRecursion}
use Rattle.std.proofs.lemmas.Bool.{cases_eq, eq-eqb, eqb-true, ne_eqb, false≢true}
use Rattle.std.proofs.lemmas.List.Sums.{fold-append}
use Rattle.nb_defs.specs.Records.{Out, step, sent, text, command, result, script, opened, tried, advanced, ended, graph, part, done}
use Rattle.nb_ledger.specs.Flat.{flat}
use Rattle.nb_ledger.specs.declared.port.Port.{Port}
use Rattle.nb_ledger.specs.declared.event.GraphEvent.{GraphEvent}
use Rattle.nb_ledger.specs.declared.event.GraphEvent.TheVariants.{Made, Held, LetGo, Plugged, Entered, Left, Dropped, Closed, Unplugged, Freed}
use Rattle.nb_ledger.specs.GraphRun.{GraphState, GraphRunOf, Step}
use Rattle.nb_frames.specs.Frames.{is_one_of}
use Rattle.nb_traced.specs.Holdings.{no_state}
use Rattle.nb_traced.specs.Pieces.{event_records}
use Rattle.nb_traced.specs.Outputs.{step_by, last_step}
use Rattle.nb_traced.specs.LowestObjects.{GraphSoFar, no_graph, graph_by, graph_moves, graph_so_far, first_in, without_first}
use Rattle.nb_traced.proofs.Serials.{one_first, one_cases}
use Rattle.nb_traced.proofs.StateLemmas.{runners, runs_by, step_changes}

pub so_far_append : (xs ys : List Out) → graph_so_far (xs ++ ys) ≡ fold graph_by (graph_so_far xs) ys
unfolding graph_so_far
so_far_append xs ys = fold-append graph_by no_graph xs ys

-- ITS NUMBER

moves_number : (a b c d : Bool) (g h1 h2 h3 h4 : GraphSoFar) → h1.number ≡ g.number → h2.number ≡ g.number → h3.number ≡ g.number → h4.number ≡ g.number →
    (if a then h1 else if b then h2 else if c then h3 else if d then h4 else g).number ≡ g.number
moves_number true b c d g h1 h2 h3 h4 e1 e2 e3 e4 = e1
moves_number false true c d g h1 h2 h3 h4 e1 e2 e3 e4 = e2
moves_number false false true d g h1 h2 h3 h4 e1 e2 e3 e4 = e3
moves_number false false false true g h1 h2 h3 h4 e1 e2 e3 e4 = e4
moves_number false false false false g h1 h2 h3 h4 e1 e2 e3 e4 = refl

number_by : (g : GraphSoFar) (o : Out) → (graph_by g o).number ≡ step_by g.number o
number_by g (graph v) = moves_number (v.event == 1) (v.event == 5) (v.event == 6) (v.event == 10) g _ _ _ _ refl refl refl refl
number_by g (step n) = refl
number_by g (sent bytes) = refl
number_by g (text bytes) = refl
number_by g (command depth line place expanded words) = refl
number_by g (result cause) = refl
number_by g (script what depth cause) = refl
number_by g (opened number kind server port own target) = refl
number_by g (tried number count) = refl
number_by g (advanced number place) = refl
number_by g (ended number cause) = refl
number_by g (part kind index offset bytes) = refl
number_by g (done status) = refl

numbers : (g : GraphSoFar) (outs : List Out) → (fold graph_by g outs).number ≡ fold step_by g.number outs
numbers g [] = refl
numbers g (o ∷ outs) = numbers (graph_by g o) outs ∙ ap (λ n. fold step_by n outs) (number_by g o)

pub number_is : (outs : List Out) → (graph_so_far outs).number ≡ last_step outs
unfolding graph_so_far last_step
number_is outs = numbers no_graph outs

-- THE LOWEST OBJECTS

moves_lowest : (a b c d : Bool) (k : ℕ) (g h1 h2 h3 h4 : GraphSoFar) → h1.lowest k ≡ g.lowest k → h2.lowest k ≡ g.lowest k → h3.lowest k ≡ g.lowest k → h4.lowest k ≡ g.lowest k →
    (if a then h1 else if b then h2 else if c then h3 else if d then h4 else g).lowest k ≡ g.lowest k
moves_lowest true b c d k g h1 h2 h3 h4 e1 e2 e3 e4 = e1
moves_lowest false true c d k g h1 h2 h3 h4 e1 e2 e3 e4 = e2
moves_lowest false false true d k g h1 h2 h3 h4 e1 e2 e3 e4 = e3
moves_lowest false false false true k g h1 h2 h3 h4 e1 e2 e3 e4 = e4
moves_lowest false false false false k g h1 h2 h3 h4 e1 e2 e3 e4 = refl

-- this record isn't the OPEN of open k
abbrev pub IsNoOpening : ℕ → Out → Type 0
IsNoOpening k (opened number kind server port own target) = number ≡ k → ⊥
IsNoOpening k (step number) = Unit {0}
IsNoOpening k _ = Unit {0}

lowest_by : (k : ℕ) (g : GraphSoFar) (o : Out) → IsNoOpening k o → (graph_by g o).lowest k ≡ g.lowest k
lowest_by k g (graph v) h = moves_lowest (v.event == 1) (v.event == 5) (v.event == 6) (v.event == 10) k g _ _ _ _ refl refl refl refl
lowest_by k g (opened number kind server port own target) h = ap (λ b. if b then first_in g.living else g.lowest k) (ne_eqb number k h)
lowest_by k g (step n) h = refl
lowest_by k g (sent bytes) h = refl
lowest_by k g (text bytes) h = refl
lowest_by k g (command depth line place expanded words) h = refl
lowest_by k g (result cause) h = refl
lowest_by k g (script what depth cause) h = refl
lowest_by k g (tried number count) h = refl
lowest_by k g (advanced number place) h = refl
lowest_by k g (ended number cause) h = refl
lowest_by k g (part kind index offset bytes) h = refl
lowest_by k g (done status) h = refl

pub lowest_stays : (k : ℕ) (g : GraphSoFar) (outs : List Out) → AllByRecursion (IsNoOpening k) outs → (fold graph_by g outs).lowest k ≡ g.lowest k
lowest_stays k g [] h = refl
lowest_stays k g (o ∷ outs) h = lowest_stays k (graph_by g o) outs h.1 ∙ lowest_by k g o h.0

-- WHICH LIVE, AND RUN

abbrev pub AreFalling : List ℕ → Type 0
AreFalling [] = Unit {0}
AreFalling (x ∷ xs) = AllByRecursion (λ y. y < x) xs × AreFalling xs

-- the records say what is so of the state
pub record Sees (g : GraphSoFar) (s : GraphState) : Type 0 where
  pub live : (x : ℕ) → is_one_of g.living x ≡ s.live x
  pub falls : AreFalling g.living
  pub below : AllByRecursion (λ x. x ≤ s.made) g.living
  pub runs : g.running ≡ runners s.stack

abbrev pub without : ℕ → List ℕ → List ℕ
without x xs = filter (λ y. not (y == x)) xs

same_false : (b : Bool) → false ≡ (if b then false else false)
same_false true = refl
same_false false = refl

if_either : (b c d : Bool) → (b ≡ false → c ≡ d) → (if b then false else c) ≡ (if b then false else d)
if_either true c d h = refl
if_either false c d h = h refl

if_or : (b c d : Bool) → (b ≡ true → c ≡ false) → (c || (if b then false else d)) ≡ (if b then false else (c || d))
if_or true c d h = ap (λ z. z || false) (h refl)
if_or false c d h = refl

or_if : (b c : Bool) → (b || c) ≡ (if b then true else c)
or_if true c = refl
or_if false c = refl

either_kept : (b : Bool) (P : ℕ → Type 0) (z : ℕ) (xs : List ℕ) → P z → AllByRecursion P xs → AllByRecursion P (cond b (z ∷ xs) xs)
either_kept true P z xs h a = (h, a)
either_kept false P z xs h a = a

either_falls : (b : Bool) (z : ℕ) (xs : List ℕ) → AllByRecursion (λ y. y < z) xs → AreFalling xs → AreFalling (cond b (z ∷ xs) xs)
either_falls true z xs h a = (h, a)
either_falls false z xs h a = a

at_one : (P : ℕ → Type 0) (xs : List ℕ) (x : ℕ) → AllByRecursion P xs → is_one_of xs x ≡ true → P x
at_one P [] x a h = absurd (false≢true h)
at_one P (y ∷ ys) x a h = elim (one_cases y x ys h) [ inl e ↦ subst P (sym e) a.0 | inr e ↦ at_one P ys x a.1 e ]

without_is : (x : ℕ) (xs : List ℕ) (y : ℕ) → is_one_of (without x xs) y ≡ (if y == x then false else is_one_of xs y)
without_is x [] y = same_false (y == x)
without_is x (z ∷ xs) y = elim (cases_eq z x) [
  | inl e ↦ ap (λ b. is_one_of (cond (not b) (z ∷ without x xs) (without x xs)) y) (eq-eqb z x e) ∙ without_is x xs y
      ∙ if_either (y == x) (is_one_of xs y) (is_one_of (z ∷ xs) y) (λ n. ap (λ b. b || is_one_of xs y) (sym (ap (λ w. y == w) e ∙ n)))
  | inr n ↦ ap (λ b. is_one_of (cond (not b) (z ∷ without x xs) (without x xs)) y) (ne_eqb z x n) ∙ ap (λ b. (y == z) || b) (without_is x xs y)
      ∙ if_or (y == x) (y == z) (is_one_of xs y) (λ e. ne_eqb y z (λ f. n (sym f ∙ eqb-true y x e)))
]

all_without : (P : ℕ → Type 0) (x : ℕ) (xs : List ℕ) → AllByRecursion P xs → AllByRecursion P (without x xs)
all_without P x [] a = tt
all_without P x (z ∷ xs) a = either_kept (not (z == x)) P z (without x xs) a.0 (all_without P x xs a.1)

falling_without : (x : ℕ) (xs : List ℕ) → AreFalling xs → AreFalling (without x xs)
falling_without x [] a = tt
falling_without x (z ∷ xs) a = either_falls (not (z == x)) z (without x xs) (all_without (λ y. y < z) x xs a.0) (falling_without x xs a.1)

below_all : (P Q : ℕ → Type 0) (xs : List ℕ) → ((x : ℕ) → P x → Q x) → AllByRecursion P xs → AllByRecursion Q xs
below_all P Q [] f a = tt
below_all P Q (x ∷ xs) f a = (f x a.0, below_all P Q xs f a.1)

-- an event by which none is made or freed, and whose entries run changes by this
sees_so : (g h : GraphSoFar) (s t : GraphState) → h.living ≡ g.living → t.live ≡ s.live → t.made ≡ s.made → h.running ≡ runners t.stack → Sees g s → Sees h t
sees_so g h s t living live made runs a = record {
  live = λ x. ap (λ z. is_one_of z x) living ∙ a.live x ∙ ap (λ (f : ℕ → Bool). f x) (sym live);
  falls = subst AreFalling (sym living) a.falls;
  below = subst (λ z. AllByRecursion (λ x. x ≤ t.made) z) (sym living) (subst (λ n. AllByRecursion (λ x. x ≤ n) g.living) (sym made) a.below);
  runs = runs;
}

without_first_is : (p : Port) (xs : List ℕ) → without_first xs ≡ runs_by (Left p) xs
without_first_is p [] = refl
without_first_is p (x ∷ xs) = refl

pub sees_step : (e : GraphEvent) (g : GraphSoFar) (s t : GraphState) → Sees g s → Step s e t → Sees (graph_moves g (flat e)) t
sees_step (Made x kind) g s t a k =
    let c = step_changes (Made x kind) s t k in
    let next : x.0 ≡ s.made + 1 = k.1 in
    record {
      live = λ y. ap (λ b. (y == x.0) || b) (a.live y) ∙ or_if (y == x.0) (s.live y) ∙ ap (λ (f : ℕ → Bool). f y) (sym c.live);
      falls = (below_all (λ y. y ≤ s.made) (λ y. y < x.0) g.living (λ y h. omega (arith, next, h)) a.below, a.falls);
      below = (let is : t.made ≡ x.0 = c.made in omega (arith, is), below_all (λ y. y ≤ s.made) (λ y. y ≤ t.made) g.living (λ y h. let is : t.made ≡ x.0 = c.made in omega (arith, next, is, h)) a.below);
      runs = a.runs ∙ sym c.runs;
    }
sees_step (Freed x) g s t a k =
    let c = step_changes (Freed x) s t k in
    record {
      live = λ y. without_is x.0 g.living y ∙ ap (λ b. if y == x.0 then false else b) (a.live y) ∙ ap (λ (f : ℕ → Bool). f y) (sym c.live);
      falls = falling_without x.0 g.living a.falls;
      below = subst (λ n. AllByRecursion (λ y. y ≤ n) (without x.0 g.living)) (sym c.made) (all_without (λ y. y ≤ s.made) x.0 g.living a.below);
      runs = a.runs ∙ sym c.runs;
    }
sees_step (Held x) g s t a k = let c = step_changes (Held x) s t k in sees_so g g s t refl c.live c.made (a.runs ∙ sym c.runs) a
sees_step (LetGo x) g s t a k = let c = step_changes (LetGo x) s t k in sees_so g g s t refl c.live c.made (a.runs ∙ sym c.runs) a
sees_step (Plugged p q) g s t a k = let c = step_changes (Plugged p q) s t k in sees_so g g s t refl c.live c.made (a.runs ∙ sym c.runs) a
sees_step (Entered p w) g s t a k =
    let c = step_changes (Entered p w) s t k in
    sees_so g (record g { running = p.obj.0 ∷ g.running }) s t refl c.live c.made (ap (λ z. p.obj.0 ∷ z) a.runs ∙ sym c.runs) a
sees_step (Left p) g s t a k =
    let c = step_changes (Left p) s t k in
    sees_so g (record g { running = without_first g.running }) s t refl c.live c.made (without_first_is p g.running ∙ ap (runs_by (Left p)) a.runs ∙ sym c.runs) a
sees_step (Dropped p) g s t a k = let c = step_changes (Dropped p) s t k in sees_so g g s t refl c.live c.made (a.runs ∙ sym c.runs) a
sees_step (Closed p cause) g s t a k = let c = step_changes (Closed p cause) s t k in sees_so g g s t refl c.live c.made (a.runs ∙ sym c.runs) a
sees_step (Unplugged p q) g s t a k = let c = step_changes (Unplugged p q) s t k in sees_so g g s t refl c.live c.made (a.runs ∙ sym c.runs) a

pub sees_run : (es : List GraphEvent) (g : GraphSoFar) (s t : GraphState) → Sees g s → GraphRunOf s es t → Sees (fold graph_by g (event_records es)) t
sees_run [] g s t a r = subst (λ z. Sees g z) r a
sees_run (e ∷ es) g s t a (mid, k, r) = sees_run es (graph_moves g (flat e)) mid t (sees_step e g s mid a k) r

-- a record that isn't the graph's changes nothing of it
abbrev pub IsNotOfGraph : Out → Type 0
IsNotOfGraph (graph v) = ⊥
IsNotOfGraph (step n) = Unit {0}
IsNotOfGraph _ = Unit {0}

sees_other : (g : GraphSoFar) (s : GraphState) (o : Out) → IsNotOfGraph o → Sees g s → Sees (graph_by g o) s
sees_other g s (graph v) h a = absurd h
sees_other g s (step n) h a = sees_so g (record g { number = n }) s s refl refl refl a.runs a
sees_other g s (opened number kind server port own target) h a =
    sees_so g (record g { lowest = λ k. if number == k then first_in g.living else g.lowest k }) s s refl refl refl a.runs a
sees_other g s (sent bytes) h a = a
sees_other g s (text bytes) h a = a
sees_other g s (command depth line place expanded words) h a = a
sees_other g s (result cause) h a = a
sees_other g s (script what depth cause) h a = a
sees_other g s (tried number count) h a = a
sees_other g s (advanced number place) h a = a
sees_other g s (ended number cause) h a = a
sees_other g s (part kind index offset bytes) h a = a
sees_other g s (done status) h a = a

pub sees_others : (outs : List Out) (g : GraphSoFar) (s : GraphState) → AllByRecursion IsNotOfGraph outs → Sees g s → Sees (fold graph_by g outs) s
sees_others [] g s h a = a
sees_others (o ∷ outs) g s h a = sees_others outs (graph_by g o) s h.1 (sees_other g s o h.0 a)

pub sees_none : Sees no_graph no_state
sees_none = record { live = λ x. refl; falls = tt; below = tt; runs = refl }

-- the first of those that live is the newest
pub first_is_newest : (xs : List ℕ) (x : ℕ) → AreFalling xs → is_one_of xs x ≡ true → ((y : ℕ) → is_one_of xs y ≡ true → y ≤ x) → first_in xs ≡ Some x
first_is_newest [] x f h newest = absurd (false≢true h)
first_is_newest (z ∷ zs) x f h newest = elim (one_cases z x zs h) [
  | inl e ↦ ap Some (sym e)
  | inr e ↦ absurd (let less : x < z = at_one (λ y. y < z) zs x f.0 e in let more : z ≤ x = newest z (one_first z zs) in lt_irrefl x (omega (arith, less, more)))
]
