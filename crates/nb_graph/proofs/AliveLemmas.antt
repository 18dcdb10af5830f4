-- Calm calls, with what objects stand for.
use Rattle.nb_ledger.specs.Flat.{Heard, Notice}
use Rattle.std.proofs.Common.{◌≡◌, ℕ, ◌⊎◌, true, List, [], ◌∷◌, ◌++◌, Option, refl, ap, sym, ◌∙◌, subst, append-nil}
use Rattle.nb_ledger.specs.GraphRun.{OnStack, IsIdle, GraphRunOf}
use Rattle.nb_ledger.specs.Ledger.{Ledger, busy, Agrees, run_state}
use Rattle.nb_effects.specs.Calm.{Calm, Shrinks}
use Rattle.nb_effects.specs.Effects.{MayAskBelow}
use Rattle.nb_effects.specs.declared.effects.Fx.{Fx}
use Rattle.nb_effects.specs.Trace.{Nature, NodeEntry, Said, lent, loads, carried}
use Rattle.nb_ledger.specs.declared.port.Port.{Port}
use Rattle.nb_effects.specs.Deeds.{makes_of, emit_of, few_of, closes_of, runs_of, notice_of, Deed, Stage, Turn, turns}
use Rattle.nb_effects.specs.Follows.{UsesStack}
use Rattle.nb_effects.specs.Scene.{Scene, scene_of}
use Rattle.nb_effects.specs.Accounts.{Account, JoinedEnds, account}
use Rattle.nb_effects.specs.Flows.{IsShut, Still}
use Rattle.nb_effects.specs.Moves.{Calms}
use Rattle.nb_effects.proofs.AccountLemmas.{Calms-idle, Calms-turn, Calms-none, Calms-then, Calms-weaken, Calms-books, Still-both}
use Rattle.nb_effects.specs.Order.{none}
use Rattle.nb_effects.proofs.OrderLemmas.{lets-append}
use Rattle.nb_ledger.specs.Flat.{Given, Notice}
use Rattle.nb_graph.specs.Lives.{StaysTraced, CalmFor, RunFor, Same, Back, here, nodes_at}
use Rattle.nb_effects.proofs.ShrinkLemmas.{Calm-refl, Calm-trans}
use Rattle.nb_effects.proofs.RunsLemmas.{IsRun-none, IsRun-trans}
use Rattle.nb_graph.proofs.LivesLemmas.{Lives-opened, Lives-under, Lives-above, Lives-turn, Lives-then, Lives-after, Lives-none, Lives-weaken}
use Rattle.nb_graph.proofs.OwingLemmas.{Same-then, Back-then, Back-same, Same-back}

pub CalmFor-refl : {N L : Type 0} (stands : N → List (NodeEntry N L) → Type 0) (known : Nature N L) (now : ℕ) (l : Ledger) (nodes : List N) (m : Heard) {f : Port → Port → Account → List ℕ → List ℕ → Type 0} → ((p q : Port) (x y : Account) (w v : List ℕ) → f p q y w v → JoinedEnds l p q x.sent y.taken w → IsShut l p ⊎ (w ≡ v)) → CalmFor stands known now l l nodes nodes (Same (busy l)) f here m m
unfolding Calm-refl
CalmFor-refl stands known now l nodes m still = record {
  calm = Calm-refl l m;
  lives = Lives-weaken (λ x w v k. k.1) (λ ds k. k) (Lives-none stands now (nodes_at l nodes m) (Calms-idle (Calms-none known l) still));
}

-- one after the other
pub CalmFor-then : {N L : Type 0} {stands : N → List (NodeEntry N L) → Type 0} {known : Nature N L} {now : ℕ} {a b c : Ledger} {na nb nc : List N} {m n o : Heard} {i j k : ℕ → List L → List L → Type 0} {f g h : Port → Port → Account → List ℕ → List ℕ → Type 0} {s t : List (Stage N L) → List (Stage N L)} → CalmFor stands known now a b na nb i f s m n → CalmFor stands known now b c nb nc j g t n o → ((x : ℕ) (w v : List L) → k x w v → (u : List L) × i x w u × j x u v) → ((ds : List (Deed N L)) (p q : Port) (x y : Account) (w v : List ℕ) → h p q y w v → JoinedEnds a p q x.sent y.taken w → (u : List ℕ) × f p q y w u × (JoinedEnds b p q (account known p x ds).sent (account known q y ds).taken u → g p q (account known q y ds) u v)) → CalmFor stands known now a c na nc k h (λ st. s (t st)) m o
unfolding Calm-trans
CalmFor-then {t = t} k l split moves = record { calm = Calm-trans k.calm l.calm; lives = Lives-then (Lives-above t k.lives) l.lives split (λ ds es x y. Calms-then x y (moves ds)) }

pub CalmFor-weaken : {N L : Type 0} {stands : N → List (NodeEntry N L) → Type 0} {known : Nature N L} {now : ℕ} {a b : Ledger} {na nb : List N} {m n : Heard} {i j : ℕ → List L → List L → Type 0} {f g : Port → Port → Account → List ℕ → List ℕ → Type 0} {s : List (Stage N L) → List (Stage N L)} → ((x : ℕ) (w v : List L) → j x w v → i x w v) → ((p q : Port) (x y : Account) (w v : List ℕ) → g p q y w v → JoinedEnds a p q x.sent y.taken w → f p q y w v) → CalmFor stands known now a b na nb i f s m n → CalmFor stands known now a b na nb j g s m n
CalmFor-weaken less moves k = record { calm = k.calm; lives = Lives-weaken less (λ ds x. Calms-weaken x moves) k.lives }

pub CalmFor-same : {N L : Type 0} {stands : N → List (NodeEntry N L) → Type 0} {known : Nature N L} {now : ℕ} {a b c : Ledger} {na nb nc : List N} {m n o : Heard} {f g h : Port → Port → Account → List ℕ → List ℕ → Type 0} {s t : List (Stage N L) → List (Stage N L)} → CalmFor stands known now a b na nb (Same (busy a)) f s m n → CalmFor stands known now b c nb nc (Same (busy b)) g t n o → ((ds : List (Deed N L)) (p q : Port) (x y : Account) (w v : List ℕ) → h p q y w v → JoinedEnds a p q x.sent y.taken w → (u : List ℕ) × f p q y w u × (JoinedEnds b p q (account known p x ds).sent (account known q y ds).taken u → g p q (account known q y ds) u v)) → CalmFor stands known now a c na nc (Same (busy a)) h (λ st. s (t st)) m o
CalmFor-same {a = a} {b = b} k l moves = CalmFor-then k l (Same-then (busy a) (busy b) k.calm.shrinks.same_busy) moves

-- loads come back, and then others
pub CalmFor-back : {N L : Type 0} {stands : N → List (NodeEntry N L) → Type 0} {known : Nature N L} {now : ℕ} {a b c : Ledger} {na nb nc : List N} {m n o : Heard} {y : ℕ} {f g h : Port → Port → Account → List ℕ → List ℕ → Type 0} {s t : List (Stage N L) → List (Stage N L)} (ls ms : List L) → CalmFor stands known now a b na nb (Back (busy a) y ls) f s m n → CalmFor stands known now b c nb nc (Back (busy b) y ms) g t n o → ((ds : List (Deed N L)) (p q : Port) (x y : Account) (w v : List ℕ) → h p q y w v → JoinedEnds a p q x.sent y.taken w → (u : List ℕ) × f p q y w u × (JoinedEnds b p q (account known p x ds).sent (account known q y ds).taken u → g p q (account known q y ds) u v)) → CalmFor stands known now a c na nc (Back (busy a) y (ls ++ ms)) h (λ st. s (t st)) m o
CalmFor-back {a = a} {b = b} {y = y} ls ms k l moves = CalmFor-then k l (Back-then (busy a) (busy b) y ls ms k.calm.shrinks.same_busy) moves

-- loads come back, and then nothing
pub CalmFor-last : {N L : Type 0} {stands : N → List (NodeEntry N L) → Type 0} {known : Nature N L} {now : ℕ} {a b c : Ledger} {na nb nc : List N} {m n o : Heard} {y : ℕ} {f g h : Port → Port → Account → List ℕ → List ℕ → Type 0} {s t : List (Stage N L) → List (Stage N L)} (ls : List L) → busy a y ≡ true → CalmFor stands known now a b na nb (Back (busy a) y ls) f s m n → CalmFor stands known now b c nb nc (Same (busy b)) g t n o → ((ds : List (Deed N L)) (p q : Port) (x y : Account) (w v : List ℕ) → h p q y w v → JoinedEnds a p q x.sent y.taken w → (u : List ℕ) × f p q y w u × (JoinedEnds b p q (account known p x ds).sent (account known q y ds).taken u → g p q (account known q y ds) u v)) → CalmFor stands known now a c na nc (Back (busy a) y ls) h (λ st. s (t st)) m o
CalmFor-last {a = a} {b = b} {y = y} ls r k l moves = CalmFor-then k l (Back-same (busy a) (busy b) y ls k.calm.shrinks.same_busy (k.calm.shrinks.same_busy y ∙ r)) moves

-- the same of an equal book after it
unfoldable pub Calm-book : {a b c : Ledger} {m n : Heard} → Calm a b m n → c ≡ b → Calm a c m n
Calm-book {a} {b} {c} {m} {n} k e = record {
  added = k.added;
  told = k.told;
  run = subst (λ z. (st : List OnStack) → IsIdle st → Agrees a st → GraphRunOf (run_state a st) k.added (run_state z st)) (sym e) k.run;
  shrinks = subst (Shrinks a) (sym e) k.shrinks;
}

-- and then a load comes back
pub CalmFor-regain : {N L : Type 0} {stands : N → List (NodeEntry N L) → Type 0} {known : Nature N L} {now : ℕ} {a b c : Ledger} {na nb nc : List N} {m n : Heard} {y : ℕ} {f : Port → Port → Account → List ℕ → List ℕ → Type 0} {r s : List (Stage N L) → List (Stage N L)} (ls : List L) → busy a y ≡ true → CalmFor stands known now a b na nb (Same (busy a)) f s m n → ((at : ℕ) (u : Heard) → StaysTraced stands known at (nodes_at b nb u) (nodes_at c nc u) (Back (busy b) y ls) r here (Calms known b b Still) []) → c ≡ b → CalmFor stands known now a c na nc (Back (busy a) y ls) f (λ st. s (r st)) m n
unfolding Calm-book
CalmFor-regain {now = now} {a = a} {b = b} {n = n} {y = y} {r = o} ls r k l e = record {
  calm = Calm-book k.calm e;
  lives = Lives-after (Lives-above o k.lives) (l now n) (Same-back (busy a) (busy b) y ls k.calm.shrinks.same_busy r) (λ ds es x z. Calms-books e (Calms-then x z (λ p q i j w v t h. (v, t, λ _. refl))));
}

-- loads came back before
pub CalmFor-first : {N L : Type 0} {stands : N → List (NodeEntry N L) → Type 0} {known : Nature N L} {now : ℕ} {a b c : Ledger} {na nb nc : List N} {m n : Heard} {y : ℕ} (f : Ledger → Port → Port → Account → List ℕ → List ℕ → Type 0) {g : Port → Port → Account → List ℕ → List ℕ → Type 0} {o s : List (Stage N L) → List (Stage N L)} (ls : List L) → busy a y ≡ true → ((at : ℕ) (u : Heard) → StaysTraced stands known at (nodes_at a na u) (nodes_at b nb u) (Back (busy a) y ls) o here (Calms known a a Still) []) → CalmFor stands known now b c nb nc (Same (busy b)) (f b) s m n → b ≡ a → ((p q : Port) (x y : Account) (w v : List ℕ) → f a p q x w v → f a p q y w v) → ((ds : List (Deed N L)) → Calms known a c (f a) ds → Calms known a c g ds) → CalmFor stands known now a c na nc (Back (busy a) y ls) g (λ st. o (s st)) m n
CalmFor-first {known = known} {now = now} {a = a} {b = b} {c = c} {m = m} {y = y} f {s = s} ls r l k e any moves = record {
  calm = record {
    added = k.calm.added;
    told = k.calm.told;
    run = subst (λ z. (st : List OnStack) → IsIdle st → Agrees z st → GraphRunOf (run_state z st) k.calm.added (run_state c st)) e k.calm.run;
    shrinks = subst (λ z. Shrinks z c) e k.calm.shrinks;
  };
  lives = Lives-then (Lives-above s (l now m)) k.lives (Back-same (busy a) (busy b) y ls (λ x. ap (λ z. busy z x) e) (ap (λ z. busy z y) e ∙ r)) (λ ds es x z. moves (ds ++ es) (Calms-then x (subst (λ t. Calms known t c (f t) es) e z) (λ p q i j w v t h. (w, refl, λ _. any p q j (account known q j ds) w v t))));
}

-- a close that was asked for is of a closed port
pub CalmFor-turn : {N L : Type 0} (stands : N → List (NodeEntry N L) → Type 0) (known : Nature N L) (now : ℕ) (l : Ledger) (nodes : List N) (m : Heard) {f : Port → Port → Account → List ℕ → List ℕ → Type 0} (s : List (Stage N L) → List (Stage N L)) (u : Turn) → Given m m (notice_of u) → ((st : List (Stage N L)) (ds : List (Deed N L)) (z : Scene) → UsesStack known now (scene_of l) st ds z → UsesStack known now (scene_of l) (s st) (turns u ∷ ds) z) → ((p q : Port) (x y : Account) (w v : List ℕ) → f p q y w v → JoinedEnds l p q x.sent y.taken w → IsShut l p ⊎ (w ≡ v)) → CalmFor stands known now l l nodes nodes (Same (busy l)) f s m m
unfolding Calm-refl
CalmFor-turn stands known now l nodes m s u given fits still = record {
  calm = Calm-refl l m;
  lives = Lives-weaken (λ x w v k. k.1) (λ ds k. k) (Lives-turn stands now (nodes_at l nodes m) m s here u given fits (Calms-idle (Calms-turn known l u) still));
}

-- the same of stages in another form
pub CalmFor-opened : {N L : Type 0} {stands : N → List (NodeEntry N L) → Type 0} {known : Nature N L} {now : ℕ} {a b : Ledger} {na nb : List N} {m n : Heard} {i : ℕ → List L → List L → Type 0} {f : Port → Port → Account → List ℕ → List ℕ → Type 0} {s t : List (Stage N L) → List (Stage N L)} → ((st : List (Stage N L)) → t st ≡ s st) → CalmFor stands known now a b na nb i f s m n → CalmFor stands known now a b na nb i f t m n
CalmFor-opened same l = record {
  calm = l.calm;
  lives = Lives-opened same l.lives;
}

-- something turns before it
pub CalmFor-turned : {N L : Type 0} {stands : N → List (NodeEntry N L) → Type 0} {known : Nature N L} {now : ℕ} {a b : Ledger} {na nb : List N} {m n : Heard} {i : ℕ → List L → List L → Type 0} {f : Port → Port → Account → List ℕ → List ℕ → Type 0} {s : List (Stage N L) → List (Stage N L)} (t : List (Stage N L) → List (Stage N L)) (u : Turn) → Given m m (notice_of u) → ((st : List (Stage N L)) (ds : List (Deed N L)) (z : Scene) → UsesStack known now (scene_of a) (s st) ds z → UsesStack known now (scene_of a) (t st) (turns u ∷ ds) z) → CalmFor stands known now a b na nb i f s m n → CalmFor stands known now a b na nb i f t m n
CalmFor-turned {stands = stands} {known = known} {now = now} {a = a} {b = b} {na = na} {m = m} {f = f} {s = s} t u given fits k = record {
  calm = k.calm;
  lives = Lives-then {k = Calms known a b f} (Lives-turn stands now (nodes_at a na m) m t s u given fits {i = λ ds. ds ≡ turns u ∷ []} refl) k.lives (λ x w v i. (w, refl, i)) (λ ds es x y. subst (λ z. Calms known a b f (z ++ es)) (sym x) (Calms-then {ds = turns u ∷ []} (Calms-turn known a u) y (λ p q i j w v t h. (w, refl, λ _. t))));
}

-- an entry from above, or by a close, lends the loads of its downs
pub lent-below : {N L : Type 0} (fx : Fx N L) (len : ℕ) → MayAskBelow len fx → lent fx ≡ loads fx.downs
lent-below fx len a = ap (λ z. loads fx.downs ++ (carried z ++ carried fx.ups.second)) a.no_up ∙ ap (λ z. loads fx.downs ++ carried z) a.no_ups ∙ append-nil (loads fx.downs)

-- and no object is made
pub runs-below : {N L : Type 0} (known : Nature N L) (x : ℕ) (m : Said) (fx : Fx N L) (len : ℕ) → MayAskBelow len fx → runs_of known x m true fx ≡ few_of known x m fx.downs ++ closes_of x fx.closes.items
runs-below known x m fx len a =
    ap (λ z. makes_of x z ++ (few_of known x m fx.downs ++ (few_of known x m fx.ups ++ closes_of x fx.closes.items))) a.no_make
    ∙ ap (λ z. few_of known x m fx.downs ++ ((emit_of known x m z ++ emit_of known x m fx.ups.second) ++ closes_of x fx.closes.items)) a.no_up
    ∙ ap (λ z. few_of known x m fx.downs ++ (emit_of known x m z ++ closes_of x fx.closes.items)) a.no_ups

-- nothing happens
pub RunFor-none : {N L : Type 0} (stands : N → List (NodeEntry N L) → Type 0) (known : Nature N L) (l : Ledger) (nodes : List N) (m : Heard) → (s : List (Stage N L) → List (Stage N L)) → RunFor stands known l l nodes nodes s s m m
unfolding IsRun-none
RunFor-none stands known l nodes m s = record { added = []; runs = (IsRun-none l m).1; lives = λ now. Lives-under s (Lives-none stands now (nodes_at l nodes m) (Calms-none known l)); lets = none }

-- something turns before it
pub RunFor-turned : {N L : Type 0} {stands : N → List (NodeEntry N L) → Type 0} {known : Nature N L} {a b : Ledger} {na nb : List N} {m n : Heard} {s r : List (Stage N L) → List (Stage N L)} (t : List (Stage N L) → List (Stage N L)) (u : Turn) → Given m m (notice_of u) → ((now : ℕ) (st : List (Stage N L)) (ds : List (Deed N L)) (z : Scene) → UsesStack known now (scene_of a) (s st) ds z → UsesStack known now (scene_of a) (t st) (turns u ∷ ds) z) → RunFor stands known a b na nb s r m n → RunFor stands known a b na nb t r m n
RunFor-turned {stands = stands} {known = known} {a = a} {b = b} {na = na} {m = m} {s = s} t u given fits k = record {
  added = k.added;
  runs = k.runs;
  lives = λ now. Lives-then {k = Calms known a b Still} (Lives-turn stands now (nodes_at a na m) m t s u given (fits now) {i = λ ds. ds ≡ turns u ∷ []} refl) (k.lives now) (λ x w v i. (w, refl, i)) (λ ds es x y. subst (λ z. Calms known a b Still (z ++ es)) (sym x) (Calms-then {ds = turns u ∷ []} (Calms-turn known a u) y (λ p q i j w v t h. (w, refl, λ _. t))));
  lets = k.lets;
}

-- the same above other stages
pub RunFor-above : {N L : Type 0} {stands : N → List (NodeEntry N L) → Type 0} {known : Nature N L} {a b : Ledger} {na nb : List N} {m n : Heard} {s r : List (Stage N L) → List (Stage N L)} (t : List (Stage N L) → List (Stage N L)) → RunFor stands known a b na nb s r m n → RunFor stands known a b na nb (λ st. s (t st)) (λ st. r (t st)) m n
RunFor-above t k = record { added = k.added; runs = k.runs; lives = λ now. Lives-above t (k.lives now); lets = k.lets }

-- one after the other
pub RunFor-trans : {N L : Type 0} {stands : N → List (NodeEntry N L) → Type 0} {known : Nature N L} {a b c : Ledger} {na nb nc : List N} {m n o : Heard} {s t r : List (Stage N L) → List (Stage N L)} → RunFor stands known a b na nb s t m n → RunFor stands known b c nb nc t r n o → RunFor stands known a c na nc s r m o
unfolding IsRun-trans
RunFor-trans {a = a} {b = b} {c = c} {m = m} {n = n} {o = o} p q = record {
  added = p.added ++ q.added;
  runs = (IsRun-trans a b c m n o (p.added, p.runs) (q.added, q.runs)).1;
  lives = λ now. Lives-then (p.lives now) (q.lives now) (λ x w v k. (w, refl, k)) (λ ds es x y. Still-both x y);
  lets = lets-append p.added q.added p.lets q.lets;
}
