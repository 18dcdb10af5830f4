-- What events change of the state of the graph: which objects live, how many were made, and which entries run.
use Rattle.std.proofs.Common.{◌≡◌, ◌⊎◌, inl, inr, ℕ, ◌+◌, ◌-◌, ◌<◌, ◌≤◌, ◌==◌, min, max, Bool, true, false, List, [], ◌∷◌, ◌++◌, refl, sym, ◌∙◌, ap, subst, arith, if◌then◌else◌, le_refl}
use Rattle.std.specs.List.{AllByRecursion}
use Rattle.std.proofs.lemmas.Bool.{cases_eq, eq-eqb, ne_eqb, false≢true}
use Rattle.nb_ledger.specs.declared.port.Port.{Port}
use Rattle.nb_ledger.specs.declared.port.PortState.TheVariants as port
use Rattle.nb_terms.specs.declared.cause.Cause.{Cause}
use Rattle.nb_ledger.specs.declared.event.GraphEvent.{GraphEvent}
use Rattle.nb_ledger.specs.declared.event.GraphEvent.TheVariants.{Made, Held, LetGo, Plugged, Entered, Left, Dropped, Closed, Unplugged, Freed}
use Rattle.nb_ledger.specs.GraphRun.{GraphState, GraphRunOf, Step, OnStack, Running, MustClose, MustEnter, MustUnplug, MustFree, ClosesPort, alone, linked, peer, but_at, with_port_state, with_stack, owed, object_count}
use Rattle.nb_frames.specs.Within.{IsEventWithin}
use Rattle.nb_frames.specs.Frames.{is_one_of}
use Rattle.nb_traced.specs.Holdings.{GraphObject, serials}
use Rattle.nb_traced.specs.Pieces.{IsMaking, made_by, pieces_made}
use Rattle.nb_traced.proofs.Serials.{AreRising, one_first, one_later}

-- the objects whose entries run, the innermost first
abbrev pub runners : List OnStack → List ℕ
runners [] = []
runners (Running p w ∷ st) = p.obj.0 ∷ runners st
runners (MustClose p cause ∷ st) = runners st
runners (MustEnter p ∷ st) = runners st
runners (MustUnplug p q ∷ st) = runners st
runners (MustFree x ∷ st) = runners st

-- what may be owed changes neither which objects live, nor how many were made, nor which entries run
pub record SameSeen (s t : GraphState) : Type 0 where
  pub live : t.live ≡ s.live
  pub made : t.made ≡ s.made
  pub runs : runners t.stack ≡ runners s.stack

owes : (b : Bool) (x : ℕ) (s : GraphState) → SameSeen s (if b then with_stack (MustFree x ∷ s.stack) s else s)
owes true x s = record { live = refl; made = refl; runs = refl }
owes false x s = record { live = refl; made = refl; runs = refl }

pub owed_same : (x : ℕ) (s : GraphState) → SameSeen s (owed x s)
unfolding owed
owed_same x s = owes (object_count s x == 0) x s

owed_twice : (x y : ℕ) (s : GraphState) → SameSeen s (owed x (owed y s))
owed_twice x y s =
    let a = owed_same y s in
    let b = owed_same x (owed y s) in
    record { live = b.live ∙ a.live; made = b.made ∙ a.made; runs = b.runs ∙ a.runs }

-- which objects live after an event, and how many were made
abbrev pub live_by : GraphEvent → (ℕ → Bool) → ℕ → Bool
live_by (Made x kind) f = but_at x.0 true f
live_by (Freed x) f = but_at x.0 false f
live_by (Held x) f = f
live_by (LetGo x) f = f
live_by (Plugged p q) f = f
live_by (Entered p w) f = f
live_by (Left p) f = f
live_by (Dropped p) f = f
live_by (Closed p cause) f = f
live_by (Unplugged p q) f = f

abbrev pub made_after : GraphEvent → ℕ → ℕ
made_after (Made x kind) n = x.0
made_after (Freed x) n = n
made_after (Held x) n = n
made_after (LetGo x) n = n
made_after (Plugged p q) n = n
made_after (Entered p w) n = n
made_after (Left p) n = n
made_after (Dropped p) n = n
made_after (Closed p cause) n = n
made_after (Unplugged p q) n = n

-- whose entries run then, where these did
abbrev pub runs_by : GraphEvent → List ℕ → List ℕ
runs_by (Entered p w) xs = p.obj.0 ∷ xs
runs_by (Left p) [] = []
runs_by (Left p) (x ∷ xs) = xs
runs_by (Made x kind) xs = xs
runs_by (Freed x) xs = xs
runs_by (Held x) xs = xs
runs_by (LetGo x) xs = xs
runs_by (Plugged p q) xs = xs
runs_by (Dropped p) xs = xs
runs_by (Closed p cause) xs = xs
runs_by (Unplugged p q) xs = xs

pub record Changes (e : GraphEvent) (s t : GraphState) : Type 0 where
  pub live : t.live ≡ live_by e s.live
  pub made : t.made ≡ made_after e s.made
  pub runs : runners t.stack ≡ runs_by e (runners s.stack)

-- that state is this one
is_that : (e : GraphEvent) (s t u : GraphState) → t ≡ u → Changes e s u → Changes e s t
is_that e s t u same c = subst (λ z. Changes e s z) (sym same) c

close_changes : (p : Port) (cause : Cause) (s t : GraphState) → ClosesPort s p cause t → Changes (Closed p cause) s t
close_changes p cause s t (alone idle at is) = is_that (Closed p cause) s t _ is (record { live = refl; made = refl; runs = refl })
close_changes p cause s t (linked q idle at is) = is_that (Closed p cause) s t _ is (record { live = refl; made = refl; runs = refl })
close_changes p cause s t (peer q st stack at is) = is_that (Closed p cause) s t _ is (record { live = refl; made = refl; runs = sym (ap runners stack) })

pub step_changes : (e : GraphEvent) (s t : GraphState) → Step s e t → Changes e s t
step_changes (Made x kind) s t k = is_that (Made x kind) s t _ k.2 (record { live = refl; made = refl; runs = refl })
step_changes (Held x) s t k = is_that (Held x) s t _ k.2 (record { live = refl; made = refl; runs = refl })
step_changes (LetGo x) s t k = let o = owed_same x.0 (record s { holds = but_at x.0 (s.holds x.0 - 1) s.holds }) in is_that (LetGo x) s t _ k.2 (record { live = o.live; made = o.made; runs = o.runs })
step_changes (Plugged p q) s t k = is_that (Plugged p q) s t _ k.5 (record { live = refl; made = refl; runs = refl })
step_changes (Entered p w) s t (inl k) = is_that (Entered p w) s t _ k.2 (record { live = refl; made = refl; runs = refl })
step_changes (Entered p w) s t (inr (st, close, stack, is)) = is_that (Entered p w) s t _ is (record { live = refl; made = refl; runs = ap (λ z. p.obj.0 ∷ z) (sym (ap runners stack)) })
step_changes (Left p) s t (w, st, stack, is) =
    let o = owed_same p.obj.0 (with_stack st s) in
    is_that (Left p) s t _ is (record { live = o.live; made = o.made; runs = o.runs ∙ ap (runs_by (Left p)) (sym (ap runners stack)) })
step_changes (Dropped p) s t k = is_that (Dropped p) s t _ k.2 (record { live = refl; made = refl; runs = refl })
step_changes (Closed p cause) s t k = close_changes p cause s t k
step_changes (Unplugged p q) s t (st, stack, is) =
    let o = owed_twice (min p.obj.0 q.obj.0) (max p.obj.0 q.obj.0) (with_port_state q port.Closed (with_port_state p port.Closed (with_stack st s))) in
    is_that (Unplugged p q) s t _ is (record { live = o.live; made = o.made; runs = o.runs ∙ sym (ap runners stack) })
step_changes (Freed x) s t (st, stack, is) = is_that (Freed x) s t _ is (record { live = refl; made = refl; runs = sym (ap runners stack) })

-- A CALL ON SOME OBJECTS

-- so many were made as before, and each object that isn't of these lives as before
pub record LeavesOthers (own : ℕ → Bool) (s t : GraphState) : Type 0 where
  pub made : t.made ≡ s.made
  pub live : (y : ℕ) → own y ≡ false → t.live y ≡ s.live y

other : (own : ℕ → Bool) (x y : ℕ) → own x ≡ true → own y ≡ false → y ≡ x → ⊥
other own x y i j e = false≢true (sym j ∙ (ap own e ∙ i))

within_live : (own : ℕ → Bool) (e : GraphEvent) (f : ℕ → Bool) (y : ℕ) → IsEventWithin own e → own y ≡ false → live_by e f y ≡ f y
within_live own (Made x kind) f y w n = absurd w
within_live own (Freed x) f y w n = ap (λ b. if b then false else f y) (ne_eqb y x.0 (other own x.0 y w n))
within_live own (Held x) f y w n = refl
within_live own (LetGo x) f y w n = refl
within_live own (Plugged p q) f y w n = refl
within_live own (Entered p b) f y w n = refl
within_live own (Left p) f y w n = refl
within_live own (Dropped p) f y w n = refl
within_live own (Closed p cause) f y w n = refl
within_live own (Unplugged p q) f y w n = refl

within_made : (own : ℕ → Bool) (e : GraphEvent) (n : ℕ) → IsEventWithin own e → made_after e n ≡ n
within_made own (Made x kind) n w = absurd w
within_made own (Freed x) n w = refl
within_made own (Held x) n w = refl
within_made own (LetGo x) n w = refl
within_made own (Plugged p q) n w = refl
within_made own (Entered p b) n w = refl
within_made own (Left p) n w = refl
within_made own (Dropped p) n w = refl
within_made own (Closed p cause) n w = refl
within_made own (Unplugged p q) n w = refl

pub run_leaves : (own : ℕ → Bool) (es : List GraphEvent) (s t : GraphState) → AllByRecursion (IsEventWithin own) es → GraphRunOf s es t → LeavesOthers own s t
run_leaves own [] s t w r = record { made = ap (λ (z : GraphState). z.made) (sym r); live = λ y n. ap (λ (z : GraphState). z.live y) (sym r) }
run_leaves own (e ∷ es) s t w (mid, k, r) =
    let c = step_changes e s mid k in
    let rest = run_leaves own es mid t w.1 r in
    record {
      made = rest.made ∙ c.made ∙ within_made own e s.made w.0;
      live = λ y n. rest.live y n ∙ ap (λ (f : ℕ → Bool). f y) c.live ∙ within_live own e s.live y w.0 n;
    }

-- OBJECTS ARE MADE

same_either : (b : Bool) → (if b then true else true) ≡ true
same_either true = refl
same_either false = refl

-- What a making leaves: each that lived lives; each piece made is new, and lives; no other does; no entry begins or ends.
pub record Makes (es : List GraphEvent) (s t : GraphState) : Type 0 where
  pub more : s.made ≤ t.made
  pub still : t.stack ≡ s.stack
  pub kept : (y : ℕ) → s.live y ≡ true → t.live y ≡ true
  pub lives : AllByRecursion (λ p. t.live p.serial ≡ true) (pieces_made es)
  pub new : AllByRecursion (λ p. s.made < p.serial) (pieces_made es)
  pub below : AllByRecursion (λ p. p.serial ≤ t.made) (pieces_made es)
  pub rising : AreRising (pieces_made es)
  pub only : (y : ℕ) → t.live y ≡ true → (s.live y ≡ true) ⊎ (is_one_of (serials (pieces_made es)) y ≡ true)

new_from : (n m : ℕ) (ps : List GraphObject) → n ≤ m → AllByRecursion (λ p. m < p.serial) ps → AllByRecursion (λ p. n < p.serial) ps
new_from n m [] h a = tt
new_from n m (p ∷ ps) h a = (omega (arith, a.0), new_from n m ps h a.1)

-- an event that makes none
makes_none : (e : GraphEvent) (es : List GraphEvent) (s mid t : GraphState) → made_by e ≡ [] → mid.made ≡ s.made → mid.stack ≡ s.stack → mid.live ≡ s.live → Makes es mid t → Makes (e ∷ es) s t
makes_none e es s mid t none made stack live r =
    let same : pieces_made (e ∷ es) ≡ pieces_made es = ap (λ z. z ++ pieces_made es) none in
    record {
      more = subst (λ z. z ≤ t.made) made r.more;
      still = r.still ∙ stack;
      kept = λ y h. r.kept y (ap (λ (f : ℕ → Bool). f y) live ∙ h);
      lives = subst (λ z. AllByRecursion (λ p. t.live p.serial ≡ true) z) (sym same) r.lives;
      new = subst (λ z. AllByRecursion (λ p. s.made < p.serial) z) (sym same) (subst (λ n. AllByRecursion (λ p. n < p.serial) (pieces_made es)) made r.new);
      below = subst (λ z. AllByRecursion (λ p. p.serial ≤ t.made) z) (sym same) r.below;
      rising = subst AreRising (sym same) r.rising;
      only = λ y h. elim (r.only y h) [
        | inl e ↦ inl (ap (λ (f : ℕ → Bool). f y) (sym live) ∙ e)
        | inr e ↦ inr (ap (λ z. is_one_of (serials z) y) same ∙ e)
      ];
    }

pub making : (es : List GraphEvent) (s t : GraphState) → AllByRecursion IsMaking es → GraphRunOf s es t → Makes es s t
making [] s t w r = subst (λ z. Makes [] s z) r (record {
  more = le_refl s.made;
  still = refl;
  kept = λ y h. h;
  lives = tt;
  new = tt;
  below = tt;
  rising = tt;
  only = λ y h. inl h;
})
making (Made x kind ∷ es) s t w (mid, k, r) =
    let c = step_changes (Made x kind) s mid k in
    let rest = making es mid t w.1 r in
    let next : x.0 ≡ s.made + 1 = k.1 in
    let upto : mid.made ≤ t.made = rest.more in
    let is : mid.made ≡ x.0 = c.made in
    let stack : mid.stack ≡ s.stack = ap (λ (z : GraphState). z.stack) k.2 in
    let mine : mid.live x.0 ≡ true = ap (λ (f : ℕ → Bool). f x.0) c.live ∙ ap (λ b. if b then true else s.live x.0) (eq-eqb x.0 x.0 refl) in
    record {
      more = omega (arith, next, upto, is);
      still = rest.still ∙ stack;
      kept = λ y h. rest.kept y (ap (λ (f : ℕ → Bool). f y) c.live ∙ ap (λ b. if (y == x.0) then true else b) h ∙ same_either (y == x.0));
      lives = (rest.kept x.0 mine, rest.lives);
      new = (omega (arith, next), new_from s.made mid.made (pieces_made es) (omega (arith, next, is)) rest.new);
      below = (omega (arith, upto, is), rest.below);
      rising = (subst (λ n. AllByRecursion (λ p. n < p.serial) (pieces_made es)) is rest.new, rest.rising);
      only = λ y h. elim (rest.only y h) [
        | inl e ↦ elim (cases_eq y x.0) [
          | inl f ↦ inr (subst (λ z. is_one_of (x.0 ∷ serials (pieces_made es)) z ≡ true) (sym f) (one_first x.0 (serials (pieces_made es))))
          | inr f ↦ inl (sym (ap (λ (g : ℕ → Bool). g y) c.live ∙ ap (λ b. if b then true else s.live y) (ne_eqb y x.0 f)) ∙ e)
        ]
        | inr e ↦ inr (one_later x.0 y (serials (pieces_made es)) e)
      ];
    }
making (Held x ∷ es) s t w (mid, k, r) = let c = step_changes (Held x) s mid k in makes_none (Held x) es s mid t refl c.made (ap (λ (z : GraphState). z.stack) k.2) c.live (making es mid t w.1 r)
making (Plugged p q ∷ es) s t w (mid, k, r) = let c = step_changes (Plugged p q) s mid k in makes_none (Plugged p q) es s mid t refl c.made (ap (λ (z : GraphState). z.stack) k.5) c.live (making es mid t w.1 r)
making (LetGo x ∷ es) s t w r = absurd w.0
making (Entered p b ∷ es) s t w r = absurd w.0
making (Left p ∷ es) s t w r = absurd w.0
making (Dropped p ∷ es) s t w r = absurd w.0
making (Closed p cause ∷ es) s t w r = absurd w.0
making (Unplugged p q ∷ es) s t w r = absurd w.0
making (Freed x ∷ es) s t w r = absurd w.0
