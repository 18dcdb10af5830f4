-- Messages that go up, with what objects stand for.
use Rattle.nb_ledger.specs.Flat.{Heard}
use Rattle.std.proofs.Common.{◌≡◌, ◌≢◌, ◌⊎◌, ℕ, ◌<◌, ◌≤◌, true, false, List, [], ◌∷◌, ◌++◌, append_assoc, length, Option, Some, None, inl, inr, refl, ap, sym, ◌∙◌, subst, arith}
use Rattle.std.proofs.lemmas.Bool.{cases_Bool, cases_eq, lt-ltb, le-ltb}
use Rattle.nb_ledger.specs.GraphRun.{OnStack, IsIdle, GraphRunOf}
use Rattle.nb_ledger.specs.Ledger.{Ledger, busy, rank, Agrees, run_state}
use Rattle.nb_effects.specs.Trace.{Nature, NodeEntry, Said, left, said_behind}
use Rattle.nb_ledger.specs.declared.port.Port.{Port}
use Rattle.nb_effects.specs.Deeds.{Deed, Stage, Turn, turns, notice_of, runs_of, makes_of, few_of, closes_of}
use Rattle.nb_effects.specs.Follows.{UsesStack}
use Rattle.nb_effects.specs.Scene.{Scene, scene_of}
use Rattle.nb_effects.specs.declared.effects.Fx.{Fx}
use Rattle.nb_effects.specs.Accounts.{Account, JoinedEnds}
use Rattle.nb_effects.specs.Flows.{IsShut, Still}
use Rattle.nb_effects.specs.Moves.{Calms, Livens, always, none_due}
use Rattle.nb_effects.proofs.LivensLemmas.{Livens-calm, Livens-then, Livens-weaken}
use Rattle.nb_graph.proofs.AliveLemmas.{CalmFor-refl}
use Rattle.nb_graph.specs.Lively.{GrowsLively}
use Rattle.nb_ledger.specs.Flat.{Given}
use Rattle.nb_graph.specs.Lives.{StaysTraced, CalmFor, LivelyFor, LivelyInFor, Same, Back, IsBelow, IsUnder, here, nodes_at}
use Rattle.nb_graph.proofs.LivelyLemmas.{Lively-calm, Lively-trans, LivelyIn-calm, LivelyIn-lively, LivelyIn-trans}
use Rattle.nb_graph.proofs.LivesLemmas.{Lives-above, Lives-opened, Lives-turn, Lives-then, Lives-after, Lives-weaken}
use Rattle.nb_graph.proofs.OwingLemmas.{Back-then, Back-same, Same-back}

pub LivelyFor-calm : {N L : Type 0} {stands : N → List (NodeEntry N L) → Type 0} {known : Nature N L} {now : ℕ} {a b : Ledger} {na nb : List N} {m n : Heard} {p : ℕ → List L → List L → Type 0} {due : Port → Account → List ℕ} {f : Port → Port → Account → List ℕ → List ℕ → Type 0} {s : List (Stage N L) → List (Stage N L)} → CalmFor stands known now a b na nb p f s m n → LivelyFor stands known now a b na nb p due f s m n
unfolding Lively-calm
LivelyFor-calm k = record { lively = Lively-calm k.calm; lives = Lives-weaken (λ x w v i. i) (λ ds x. Livens-calm x) k.lives }

pub LivelyFor-refl : {N L : Type 0} (stands : N → List (NodeEntry N L) → Type 0) (known : Nature N L) (now : ℕ) (l : Ledger) (nodes : List N) (m : Heard) {due : Port → Account → List ℕ} {f : Port → Port → Account → List ℕ → List ℕ → Type 0} → ((p q : Port) (x y : Account) (w v : List ℕ) → f p q y w v → JoinedEnds l p q x.sent y.taken w → IsShut l p ⊎ (w ≡ v)) → LivelyFor stands known now l l nodes nodes (Same (busy l)) due f here m m
LivelyFor-refl stands known now l nodes m still = LivelyFor-calm (CalmFor-refl stands known now l nodes m still)

pub LivelyFor-weaken : {N L : Type 0} {stands : N → List (NodeEntry N L) → Type 0} {known : Nature N L} {now : ℕ} {a b : Ledger} {na nb : List N} {m n : Heard} {p q : ℕ → List L → List L → Type 0} {due : Port → Account → List ℕ} {f g : Port → Port → Account → List ℕ → List ℕ → Type 0} {s : List (Stage N L) → List (Stage N L)} → ((x : ℕ) (w v : List L) → q x w v → p x w v) → ((p q : Port) (x y : Account) (w v : List ℕ) → g p q y w v → JoinedEnds a p q x.sent y.taken w → f p q y w v) → LivelyFor stands known now a b na nb p due f s m n → LivelyFor stands known now a b na nb q due g s m n
LivelyFor-weaken less moves k = record { lively = k.lively; lives = Lives-weaken less (λ ds x. Livens-weaken x moves) k.lives }

-- loads come back, and then others
pub LivelyFor-back : {N L : Type 0} {stands : N → List (NodeEntry N L) → Type 0} {known : Nature N L} {now : ℕ} {a b c : Ledger} {na nb nc : List N} {m n o : Heard} {y : ℕ} {d : Port → Account → List ℕ} {f g h : Port → Port → Account → List ℕ → List ℕ → Type 0} {s t : List (Stage N L) → List (Stage N L)} (ls ms : List L) → LivelyFor stands known now a b na nb (Back (busy a) y ls) d f s m n → LivelyFor stands known now b c nb nc (Back (busy b) y ms) d g t n o → ((ds es : List (Deed N L)) → Livens known a b always d f ds → Livens known b c always d g es → Livens known a c always d h (ds ++ es)) → LivelyFor stands known now a c na nc (Back (busy a) y (ls ++ ms)) d h (λ st. s (t st)) m o
unfolding Lively-trans
LivelyFor-back {a = a} {b = b} {y = y} {t = t} ls ms k l join = record {
  lively = Lively-trans k.lively l.lively;
  lives = Lives-then (Lives-above t k.lives) l.lives (Back-then (busy a) (busy b) y ls ms k.lively.grows.same_busy) join;
}

-- a load comes back after the message is delivered
pub LivelyFor-regain : {N L : Type 0} {stands : N → List (NodeEntry N L) → Type 0} {known : Nature N L} {now : ℕ} {a b c : Ledger} {na nb nc : List N} {m n : Heard} {y : ℕ} {f : Port → Port → Account → List ℕ → List ℕ → Type 0} {r s : List (Stage N L) → List (Stage N L)} (ls : List L) → busy a y ≡ true → LivelyFor stands known now a b na nb (Same (busy a)) none_due f s m n → ((at : ℕ) (u : Heard) → StaysTraced stands known at (nodes_at b nb u) (nodes_at c nc u) (Back (busy b) y ls) r here (Calms known b b Still) []) → c ≡ b → LivelyFor stands known now a c na nc (Back (busy a) y ls) none_due f (λ st. s (r st)) m n
LivelyFor-regain {known = known} {now = now} {a = a} {b = b} {n = n} {y = y} {f = f} {r = o} ls r k l e = record {
  lively = record {
    added = k.lively.added;
    told = k.lively.told;
    run = subst (λ z. (st : List OnStack) → IsIdle st → Agrees a st → GraphRunOf (run_state a st) k.lively.added (run_state z st)) (sym e) k.lively.run;
    grows = subst (GrowsLively a) (sym e) k.lively.grows;
  };
  lives = Lives-after (Lives-above o k.lives) (l now n) (Same-back (busy a) (busy b) y ls k.lively.grows.same_busy r) (λ ds es x z. subst (λ t. Livens known a t always none_due f (ds ++ es)) (sym e) (Livens-then x (Livens-calm z) k.lively.grows.same_busy (λ p q i j w v t h. (v, t, λ _ _ _. refl)) (λ p q j i t. refl)));
}

pub LivelyInFor-lively : {N L : Type 0} {stands : N → List (NodeEntry N L) → Type 0} {known : Nature N L} {now : ℕ} (y : ℕ) {a b : Ledger} {na nb : List N} {m n : Heard} {p : ℕ → List L → List L → Type 0} {due : Port → Account → List ℕ} {f : Port → Port → Account → List ℕ → List ℕ → Type 0} {s : List (Stage N L) → List (Stage N L)} → LivelyFor stands known now a b na nb p due f s m n → LivelyInFor stands known now y a b na nb p always due f s here m n
unfolding LivelyIn-lively
LivelyInFor-lively y k = record { lively = LivelyIn-lively k.lively; lives = k.lives }

pub LivelyInFor-calm : {N L : Type 0} {stands : N → List (NodeEntry N L) → Type 0} {known : Nature N L} {now : ℕ} (y : ℕ) {a b : Ledger} {na nb : List N} {m n : Heard} {p : ℕ → List L → List L → Type 0} {ready : Port → Account → Type 0} {due : Port → Account → List ℕ} {f : Port → Port → Account → List ℕ → List ℕ → Type 0} {s : List (Stage N L) → List (Stage N L)} → CalmFor stands known now a b na nb p f s m n → LivelyInFor stands known now y a b na nb p ready due f s here m n
unfolding LivelyIn-calm LivelyIn-lively Lively-calm
LivelyInFor-calm y k = record { lively = LivelyIn-calm k.calm; lives = Lives-weaken (λ x w v i. i) (λ ds x. Livens-calm x) k.lives }

pub LivelyInFor-refl : {N L : Type 0} (stands : N → List (NodeEntry N L) → Type 0) (known : Nature N L) (now y : ℕ) (l : Ledger) (nodes : List N) (m : Heard) {due : Port → Account → List ℕ} {f : Port → Port → Account → List ℕ → List ℕ → Type 0} → ((p q : Port) (x y : Account) (w v : List ℕ) → f p q y w v → JoinedEnds l p q x.sent y.taken w → IsShut l p ⊎ (w ≡ v)) → LivelyInFor stands known now y l l nodes nodes (Same (busy l)) always due f here here m m
LivelyInFor-refl stands known now y l nodes m still = LivelyInFor-lively y (LivelyFor-refl stands known now l nodes m still)

-- the same of other bytes
pub LivelyInFor-weaken : {N L : Type 0} {stands : N → List (NodeEntry N L) → Type 0} {known : Nature N L} {now y : ℕ} {a b : Ledger} {na nb : List N} {m n : Heard} {p : ℕ → List L → List L → Type 0} {ready : Port → Account → Type 0} {due : Port → Account → List ℕ} {f g : Port → Port → Account → List ℕ → List ℕ → Type 0} {i j : List (Stage N L) → List (Stage N L)} → ((p q : Port) (x y : Account) (w v : List ℕ) → g p q y w v → JoinedEnds a p q x.sent y.taken w → f p q y w v) → LivelyInFor stands known now y a b na nb p ready due f i j m n → LivelyInFor stands known now y a b na nb p ready due g i j m n
LivelyInFor-weaken moves k = record { lively = k.lively; lives = Lives-weaken (λ x w v i. i) (λ ds x. Livens-weaken x moves) k.lives }

-- the same of stages in another form
pub LivelyFor-opened : {N L : Type 0} {stands : N → List (NodeEntry N L) → Type 0} {known : Nature N L} {now : ℕ} {a b : Ledger} {na nb : List N} {m n : Heard} {p : ℕ → List L → List L → Type 0} {due : Port → Account → List ℕ} {f : Port → Port → Account → List ℕ → List ℕ → Type 0} {i k : List (Stage N L) → List (Stage N L)} → ((st : List (Stage N L)) → k st ≡ i st) → LivelyFor stands known now a b na nb p due f i m n → LivelyFor stands known now a b na nb p due f k m n
LivelyFor-opened same l = record { lively = l.lively; lives = Lives-opened same l.lives }

-- what is to run of an entry, and what comes then
pub runs-then : {N L : Type 0} (known : Nature N L) (x : ℕ) (m : Said) (fx : Fx N L) (st : List (Stage N L)) → runs_of known x m true fx ++ st ≡ makes_of x fx.makes ++ (few_of known x m fx.downs ++ (few_of known x m fx.ups ++ (closes_of x fx.closes.items ++ st)))
runs-then known x m fx st =
    let d = few_of known x m fx.downs in
    let u = few_of known x m fx.ups in
    let c = closes_of x fx.closes.items in
    append_assoc (makes_of x fx.makes) (d ++ (u ++ c)) st ∙ ap (λ z. makes_of x fx.makes ++ z) (append_assoc d (u ++ c) st ∙ ap (λ z. d ++ z) (append_assoc u c st))

-- something turns before it
pub LivelyFor-turned : {N L : Type 0} {stands : N → List (NodeEntry N L) → Type 0} {known : Nature N L} {now : ℕ} {a b : Ledger} {na nb : List N} {m n : Heard} {i : ℕ → List L → List L → Type 0} {due : Port → Account → List ℕ} {f : Port → Port → Account → List ℕ → List ℕ → Type 0} {s : List (Stage N L) → List (Stage N L)} (t : List (Stage N L) → List (Stage N L)) (u : Turn) → Given m m (notice_of u) → ((st : List (Stage N L)) (ds : List (Deed N L)) (z : Scene) → UsesStack known now (scene_of a) (s st) ds z → UsesStack known now (scene_of a) (t st) (turns u ∷ ds) z) → LivelyFor stands known now a b na nb i due f s m n → LivelyFor stands known now a b na nb i due f t m n
LivelyFor-turned {stands = stands} {known = known} {now = now} {a = a} {b = b} {na = na} {m = m} {due = due} {f = f} {s = s} t u given fits k = record {
  lively = k.lively;
  lives = Lives-then {k = Livens known a b always due f} (Lives-turn stands now (nodes_at a na m) m t s u given fits {i = λ ds. ds ≡ turns u ∷ []} refl) k.lives (λ x w v i. (w, refl, i)) (λ ds es x y. subst (λ z. Livens known a b always due f (z ++ es)) (sym x) (record { quiet = y.quiet; joins = y.joins; midway = y.midway; newly = y.newly; news = y.news }));
}

-- the same above other stages
pub LivelyInFor-above : {N L : Type 0} {stands : N → List (NodeEntry N L) → Type 0} {known : Nature N L} {now y : ℕ} {a b : Ledger} {na nb : List N} {m n : Heard} {p : ℕ → List L → List L → Type 0} {ready : Port → Account → Type 0} {due : Port → Account → List ℕ} {f : Port → Port → Account → List ℕ → List ℕ → Type 0} {i j : List (Stage N L) → List (Stage N L)} (k : List (Stage N L) → List (Stage N L)) → LivelyInFor stands known now y a b na nb p ready due f i j m n → LivelyInFor stands known now y a b na nb p ready due f (λ st. i (k st)) (λ st. j (k st)) m n
LivelyInFor-above k l = record { lively = l.lively; lives = Lives-above k l.lives }

-- the same of stages in another form
pub LivelyInFor-opened : {N L : Type 0} {stands : N → List (NodeEntry N L) → Type 0} {known : Nature N L} {now y : ℕ} {a b : Ledger} {na nb : List N} {m n : Heard} {p : ℕ → List L → List L → Type 0} {ready : Port → Account → Type 0} {due : Port → Account → List ℕ} {f : Port → Port → Account → List ℕ → List ℕ → Type 0} {i j k : List (Stage N L) → List (Stage N L)} → ((st : List (Stage N L)) → k st ≡ i st) → LivelyInFor stands known now y a b na nb p ready due f i j m n → LivelyInFor stands known now y a b na nb p ready due f k j m n
LivelyInFor-opened same l = record {
  lively = l.lively;
  lives = Lives-opened same l.lives;
}

-- one after the other
pub LivelyInFor-then : {N L : Type 0} {stands : N → List (NodeEntry N L) → Type 0} {known : Nature N L} {now y : ℕ} {a b c : Ledger} {na nb nc : List N} {m n o : Heard} {p q r : ℕ → List L → List L → Type 0} {i j k : Port → Account → Type 0} {d e z : Port → Account → List ℕ} {s t u : Port → Port → Account → List ℕ → List ℕ → Type 0} {f g h : List (Stage N L) → List (Stage N L)} → LivelyInFor stands known now y a b na nb p i d s f g m n → LivelyInFor stands known now y b c nb nc q j e t g h n o → ((x : ℕ) (w v : List L) → r x w v → (u : List L) × p x w u × q x u v) → ((ds es : List (Deed N L)) → Livens known a b i d s ds → Livens known b c j e t es → Livens known a c k z u (ds ++ es)) → LivelyInFor stands known now y a c na nc r k z u f h m o
unfolding LivelyIn-trans
LivelyInFor-then k l split join = record { lively = LivelyIn-trans k.lively l.lively; lives = Lives-then k.lives l.lives split join }

-- an entry's effects: makes, downs, ups, closes
pub LivelyInFor-effects : {N L : Type 0} {stands : N → List (NodeEntry N L) → Type 0} {known : Nature N L} {now y : ℕ} {a b c d e : Ledger} {na nb nc nd ne : List N} {i j k l m : Heard} {t : Port → Account → Type 0} {z : Port → Account → List ℕ} {f1 f2 f3 f4 f5 : Port → Port → Account → List ℕ → List ℕ → Type 0} {s1 s2 s3 s4 : List (Stage N L) → List (Stage N L)} (f6 f7 : Port → Port → Account → List ℕ → List ℕ → Type 0) (ds us : List L) → busy a y ≡ true → LivelyInFor stands known now y a b na nb (Same (busy a)) always z f1 s1 here i j → CalmFor stands known now b c nb nc (Back (busy b) y ds) f2 s2 j k → LivelyFor stands known now c d nc nd (Back (busy c) y us) none_due f3 s3 k l → CalmFor stands known now d e nd ne (Same (busy d)) f4 s4 l m → ((ds es : List (Deed N L)) → Livens known c d always none_due f3 ds → Livens known d e always none_due f4 es → Livens known c e always none_due f6 (ds ++ es)) → ((ds es : List (Deed N L)) → Livens known b c always none_due f2 ds → Livens known c e always none_due f6 es → Livens known b e always none_due f7 (ds ++ es)) → ((ds es : List (Deed N L)) → Livens known a b always z f1 ds → Livens known b e always none_due f7 es → Livens known a e t none_due f5 (ds ++ es)) → LivelyInFor stands known now y a e na ne (Back (busy a) y (ds ++ us)) t none_due f5 (λ st. s1 (s2 (s3 (s4 st)))) here i m
LivelyInFor-effects {y = y} {a = a} {b = b} {c = c} {d = d} {s2 = s2} {s3 = s3} {s4 = s4} f6 f7 ds us r made downs ups closes j1 j2 j3 =
    let rb = made.lively.grows.same_busy y ∙ r in
    let rc = downs.calm.shrinks.same_busy y ∙ rb in
    let rd = ups.lively.grows.same_busy y ∙ rc in
    let more = LivelyInFor-then (LivelyInFor-above s4 (LivelyInFor-lively y ups)) (LivelyInFor-calm y closes) (Back-same (busy c) (busy d) y us ups.lively.grows.same_busy rd) j1 in
    let both = LivelyInFor-then (LivelyInFor-above (λ st. s3 (s4 st)) (LivelyInFor-calm y downs)) more (Back-then (busy b) (busy c) y ds us downs.calm.shrinks.same_busy) j2 in
    LivelyInFor-then (LivelyInFor-above (λ st. s2 (s3 (s4 st))) made) both (Same-back (busy a) (busy b) y (ds ++ us) made.lively.grows.same_busy r) j3

-- no object runs at the rank of one that is entered
pub under-idle : (l : Ledger) (y : ℕ) → IsUnder (rank l y) l → busy l y ≡ false
under-idle l y u = elim (cases_Bool (busy l y)) [
  | inl t ↦ absurd (let h = u y t in omega arith)
  | inr f ↦ f
]

-- those that run stay below
pub IsBelow-grows : {old new : Ledger} (y : ℕ) → GrowsLively old new → busy old y ≡ true → IsBelow (rank old y) old → IsBelow (rank new y) new
IsBelow-grows {old} {new} y s r u = λ x h.
    let b = sym (s.same_busy x) ∙ h in
    let i = s.kept x b in
    let j = s.kept y r in
    let k = u x b in
    omega arith

-- an entry of an object that lies above all that run
pub IsBelow-enter : (old new : Ledger) (y : ℕ) → ((x : ℕ) → x ≢ y → busy new x ≡ busy old x) → ((x : ℕ) → rank new x ≡ rank old x) → IsUnder (rank old y) old → IsBelow (rank new y) new
IsBelow-enter old new y b s u = λ x h. elim (cases_eq x y) [
  | inl e ↦ let i = ap (rank new) e in omega arith
  | inr n ↦ let i = s x in let j = s y in let k = u x (sym (b x n) ∙ h) in omega arith
]

-- nothing is left, or the rest
pub left-none : (took : ℕ) (m : Said) → length m.bytes ≤ took → left took m ≡ None
left-none took m h = rw (le-ltb took (length m.bytes) h) refl

pub left-some : (took : ℕ) (m : Said) → took < length m.bytes → left took m ≡ Some (said_behind took m)
left-some took m h = rw (lt-ltb took (length m.bytes) h) refl
