-- What is still to be brought over a link, by what stands on the stack of a call.
use Rattle.std.proofs.Common.{◌≡◌, ℕ, ◌+◌, ◌-◌, ◌≤◌, ◌⊎◌, inl, inr, Bool, true, false, cond, eqb, List, [], ◌∷◌, ◌++◌, length, length-append, Option, Some, None, refl, ap, sym, ◌∙◌, subst, append_assoc, arith}
use Rattle.std.specs.Prelude.{◌==◌, if◌then◌else◌}
use Rattle.std.proofs.lemmas.Bool.{cases_eq, eq-eqb, ne_eqb}
use Rattle.nb_terms.specs.declared.cause.Cause.{Cause}
use Rattle.nb_ledger.specs.declared.port.Port.{Port}
use Rattle.nb_effects.specs.declared.effects.Emit.{Emit}
use Rattle.nb_effects.specs.declared.effects.Few.{Few}
use Rattle.nb_effects.specs.declared.effects.Make.{Make}
use Rattle.nb_effects.specs.declared.effects.Fx.{Fx}
use Rattle.nb_effects.specs.Trace.{Nature, Said, carries, in_list, lent}
use Rattle.nb_effects.specs.Deeds.{Stage, MustHear, Holds, Closes, MustShut, Ends, Sends, Gives, closes_of, all_closes, makes_of, returns_of, emit_of, few_of, runs_of, no_memory, no_place}
use Rattle.nb_effects.specs.Accounts.{emit_bytes, few_bytes, fx_bytes}

-- the port r is p
abbrev pub Is : Port → Port → Type 0
Is p r = (r.obj.0 ≡ p.obj.0) × (r.slot ≡ p.slot)

-- n entries of x, and one more where this stage is one
abbrev pub also : {N L : Type 0} → ℕ → Stage N L → ℕ → ℕ
also x (Holds r by m) n = if x == r.obj.0 then n + 1 else n
also x (MustHear r c) n = if x == r.obj.0 then n + 1 else n
also x _ n = n

-- the entries of x that stand on the stack
abbrev pub entered : {N L : Type 0} → ℕ → List (Stage N L) → ℕ
entered x [] = 0
entered x (g ∷ gs) = also x g (entered x gs)

-- the stage brings k bytes from p to q
abbrev pub Bears : {N L : Type 0} → Port → Port → Stage N L → ℕ → Type 0
Bears p q (Sends r m) k = Is p r × (k ≡ length m.bytes)
Bears p q (Gives r m) k = Is q r × (k ≡ length m.bytes)
Bears p q (Holds r by (Some m)) k = Is q r × (k ≡ length m.bytes)
Bears p q _ k = ⊥

-- it closes q
abbrev pub Bars : {N L : Type 0} → Port → Stage N L → Type 0
Bars q (Closes r c) = Is q r
Bars q _ = ⊥

-- n bytes are still to be brought, by what stands there, or q is closed within an entry of p's object
abbrev pub Due : {N L : Type 0} → Port → Port → ℕ → List (Stage N L) → Type 0
Due p q n [] = n ≡ 0
Due p q n (g ∷ gs) = ((k : ℕ) × Bears p q g k × Due p q (n - k) gs) ⊎ ((Bars q g × (1 ≤ entered p.obj.0 gs)) ⊎ Due p q n gs)

-- What stands there is in order: what p sent is brought within an entry of its object, to a port that was entered, and
-- p is closed where nothing is to be brought, if not because a make found no place.
abbrev pub Fit : {N L : Type 0} → Port → Port → Bool → Stage N L → List (Stage N L) → Type 0
Fit p q e (Sends r m) gs = Is p r → 1 ≤ entered p.obj.0 gs
Fit p q e (Gives r m) gs = Is q r → 1 ≤ entered p.obj.0 gs
Fit p q e (Holds r by (Some m)) gs = Is q r → (e ≡ true) × (1 ≤ entered p.obj.0 gs)
Fit p q e (Closes r c) gs = Is p r → (c ≡ no_place → ⊥) → entered p.obj.0 gs ≤ 1 → (n : ℕ) → Due p q n gs → n ≡ 0
Fit p q e (MustShut r c) gs = Is p r → ⊥
Fit p q e (Ends y c) gs = (n : ℕ) → Due p q n gs → n ≡ 0
Fit p q e _ gs = Unit {0}

abbrev pub Order : {N L : Type 0} → Port → Port → Bool → List (Stage N L) → Type 0
Order p q e [] = Unit {0}
Order p q e (g ∷ gs) = Fit p q e g gs × Order p q e gs

bump : (c : Bool) (n : ℕ) → n ≤ cond c (n + 1) n
bump true n = omega arith
bump false n = omega arith

-- an entry of x counts
pub bump-own : (x y n : ℕ) → x ≡ y → 1 ≤ cond (eqb x y) (n + 1) n
bump-own x y n e = rw (eq-eqb x y e) (omega arith)

small : (k : ℕ) → k ≤ 3 → (k ≡ 0) ⊎ ((k ≡ 1) ⊎ ((k ≡ 2) ⊎ (k ≡ 3)))
small k h = elim (cases_eq k 0) [
  | inl a ↦ inl a
  | inr a ↦ elim (cases_eq k 1) [
    | inl b ↦ inr (inl b)
    | inr b ↦ elim (cases_eq k 2) [ inl c ↦ inr (inr (inl c)) | inr c ↦ inr (inr (inr (grind (arith, a, b, c, h)))) ]
  ]
]

module _ {N L : Type 0} (known : Nature N L) (p q : Port) where
  also-le : (x : ℕ) (g : Stage N L) (n : ℕ) → n ≤ also x g n
  also-le x (Holds r by m) n = bump (eqb x r.obj.0) n
  also-le x (MustHear r c) n = bump (eqb x r.obj.0) n
  also-le x _ n = omega arith

  pub entered-append : (x : ℕ) (us gs : List (Stage N L)) → entered x gs ≤ entered x (us ++ gs)
  entered-append x [] gs = omega arith
  entered-append x (g ∷ us) gs =
      let a = entered-append x us gs in
      let b = also-le x g (entered x (us ++ gs)) in
      omega (arith, a, b)

  fit-bears : (e : Bool) (g : Stage N L) (gs : List (Stage N L)) (k : ℕ) → Fit p q e g gs → Bears p q g k → 1 ≤ entered p.obj.0 gs
  fit-bears e (Sends r m) gs k f b = f b.0
  fit-bears e (Gives r m) gs k f b = f b.0
  fit-bears e (Holds r by (Some m)) gs k f b = (f b.0).1
  fit-bears e _ gs k f b = absurd b

  -- where no entry of p's object runs nothing is to be brought
  pub due-none : (e : Bool) (gs : List (Stage N L)) (n : ℕ) → Order p q e gs → entered p.obj.0 gs ≡ 0 → Due p q n gs → n ≡ 0
  due-none e [] n o z d = d
  due-none e (g ∷ gs) n o z d =
      let le = also-le p.obj.0 g (entered p.obj.0 gs) in
      elim d [
        | inl b ↦ let i = fit-bears e g gs b.0 o.0 b.1 in absurd (omega (arith, i, le, z))
        | inr r ↦ elim r [
          | inl b ↦ let i = b.1 in absurd (omega (arith, i, le, z))
          | inr f ↦ due-none e gs n o.1 (omega (arith, le, z)) f
        ]
      ]

  pub due-less : (gs : List (Stage N L)) (n m : ℕ) → m ≤ n → Due p q n gs → Due p q m gs
  due-less [] n m h d = omega (arith, h, d)
  due-less (g ∷ gs) n m h d = elim d [
    | inl b ↦ inl (b.0, b.1, due-less gs (n - b.0) (m - b.0) (omega (arith, h)) b.2)
    | inr r ↦ elim r [
      | inl b ↦ inr (inl b)
      | inr f ↦ inr (inr (due-less gs n m h f))
    ]
  ]

  pub due-push : (us gs : List (Stage N L)) (n : ℕ) → Due p q n gs → Due p q n (us ++ gs)
  due-push [] gs n d = d
  due-push (g ∷ us) gs n d = inr (inr (due-push us gs n d))

  -- more was entered
  pub order-entered : (e : Bool) (gs : List (Stage N L)) → Order p q e gs → Order p q true gs
  order-entered e [] o = tt
  order-entered e (g ∷ gs) o = (fit-entered e g gs o.0, order-entered e gs o.1)
    where
      fit-entered : (e : Bool) (g : Stage N L) (gs : List (Stage N L)) → Fit p q e g gs → Fit p q true g gs
      fit-entered e (Holds r by (Some m)) gs f = λ i. (refl, (f i).1)
      fit-entered e (Holds r by None) gs f = f
      fit-entered e (Sends r m) gs f = f
      fit-entered e (Gives r m) gs f = f
      fit-entered e (Closes r c) gs f = f
      fit-entered e (MustShut r c) gs f = f
      fit-entered e (Ends y c) gs f = f
      fit-entered e _ gs f = tt

  -- what is left of a message fits where it did
  pub fit-rest : (e : Bool) (r : Port) (by : _) (m : Said) (o : Option Said) (gs : List (Stage N L)) → Fit p q e (Holds r by (Some m)) gs → Fit p q e (Holds r by o) gs
  fit-rest e r by m None gs f = tt
  fit-rest e r by m (Some n) gs f = f

  -- closes of ports of y
  entered-closes : (y : ℕ) (cs : List (ℕ × Cause)) (gs : List (Stage N L)) → entered p.obj.0 (closes_of y cs ++ gs) ≡ entered p.obj.0 gs
  entered-closes y [] gs = refl
  entered-closes y (c ∷ cs) gs = entered-closes y cs gs

  due-closes : (y : ℕ) (cs : List (ℕ × Cause)) (gs : List (Stage N L)) (n : ℕ) → (y ≡ q.obj.0 → ⊥) → Due p q n (closes_of y cs ++ gs) → Due p q n gs
  due-closes y [] gs n away d = d
  due-closes y (c ∷ cs) gs n away d = elim d [
    | inl b ↦ absurd b.1
    | inr r ↦ elim r [ inl b ↦ absurd (away b.0.0) | inr f ↦ due-closes y cs gs n away f ]
  ]

  pub order-closes : (e : Bool) (y : ℕ) (cs : List (ℕ × Cause)) (gs : List (Stage N L)) → (p.obj.0 ≡ q.obj.0 → ⊥) → (y ≡ p.obj.0 → entered p.obj.0 gs ≤ 1 → (n : ℕ) → Due p q n gs → n ≡ 0) → Order p q e gs → Order p q e (closes_of y cs ++ gs)
  order-closes e y [] gs away f o = o
  order-closes e y (c ∷ cs) gs away f o = (
    (λ i _ le n d. f i.0 (rw (entered-closes y cs gs) at le) n (due-closes y cs gs n (λ z. away (sym i.0 ∙ z)) d)),
    order-closes e y cs gs away f o,
  )

  -- where a make found no place nothing is asked
  pub order-full : (e : Bool) (y : ℕ) (gs : List (Stage N L)) → Order p q e gs → Order p q e (all_closes y no_place ++ gs)
  order-full e y gs o = ((λ i n. absurd (n refl)), ((λ i n. absurd (n refl)), ((λ i n. absurd (n refl)), ((λ i n. absurd (n refl)), o))))

  -- loads that come back
  entered-returns : (y : ℕ) (ls : List L) (gs : List (Stage N L)) → entered p.obj.0 (returns_of y ls ++ gs) ≡ entered p.obj.0 gs
  entered-returns y [] gs = refl
  entered-returns y (l ∷ ls) gs = entered-returns y ls gs

  order-returns : (e : Bool) (y : ℕ) (ls : List L) (gs : List (Stage N L)) → Order p q e gs → Order p q e (returns_of y ls ++ gs)
  order-returns e y [] gs o = o
  order-returns e y (l ∷ ls) gs o = (tt, order-returns e y ls gs o)

  order-then : (e : Bool) (us vs gs : List (Stage N L)) → Order p q e (us ++ (vs ++ gs)) → Order p q e ((us ++ vs) ++ gs)
  order-then e us vs gs o = subst (Order p q e) (sym (append_assoc us vs gs)) o

  due-then : (n : ℕ) (us vs gs : List (Stage N L)) → Due p q n (us ++ (vs ++ gs)) → Due p q n ((us ++ vs) ++ gs)
  due-then n us vs gs d = subst (Due p q n) (sym (append_assoc us vs gs)) d

  -- one message, or two, leave within an entry of y
  order-emit : (e : Bool) (y : ℕ) (m : Said) (o : Option (Emit L)) (gs : List (Stage N L)) → (y ≡ p.obj.0 → 1 ≤ entered p.obj.0 gs) → Order p q e gs → Order p q e (emit_of known y m o ++ gs)
  order-emit e y m None gs f k = k
  order-emit e y m (Some x) gs f k = ((λ i. rw (entered-returns y (in_list x.load) gs) (f i.0)), order-returns e y (in_list x.load) gs k)

  within : (y : ℕ) (us gs : List (Stage N L)) → (y ≡ p.obj.0 → 1 ≤ entered p.obj.0 gs) → y ≡ p.obj.0 → 1 ≤ entered p.obj.0 (us ++ gs)
  within y us gs f i = let a = entered-append p.obj.0 us gs in let b = f i in omega (arith, a, b)

  order-few : (e : Bool) (y : ℕ) (m : Said) (f : Few (Emit L)) (gs : List (Stage N L)) → (y ≡ p.obj.0 → 1 ≤ entered p.obj.0 gs) → Order p q e gs → Order p q e (few_of known y m f ++ gs)
  order-few e y m f gs w k = order-then e (emit_of known y m f.first) (emit_of known y m f.second) gs (order-emit e y m f.first (emit_of known y m f.second ++ gs) (within y (emit_of known y m f.second) gs w) (order-emit e y m f.second gs w k))

  order-makes : (e : Bool) (y : ℕ) (o : Option (Make N)) (gs : List (Stage N L)) → Order p q e gs → Order p q e (makes_of y o ++ gs)
  order-makes e y None gs k = k
  order-makes e y (Some m) gs k = (tt, k)

  -- what is to run of an entry of y
  pub order-runs : (e : Bool) (y : ℕ) (m : Said) (done : Bool) (fx : Fx N L) (gs : List (Stage N L)) → (p.obj.0 ≡ q.obj.0 → ⊥) → (y ≡ p.obj.0 → 1 ≤ entered p.obj.0 gs) → (y ≡ p.obj.0 → entered p.obj.0 gs ≤ 1 → (n : ℕ) → Due p q n gs → n ≡ 0) → Order p q e gs → Order p q e (runs_of known y m done fx ++ gs)
  order-runs e y m true fx gs away w f k =
      let closes = closes_of y fx.closes.items in
      let ups = few_of known y m fx.ups in
      let downs = few_of known y m fx.downs in
      let one = order-closes e y fx.closes.items gs away f k in
      let two = order-then e ups closes gs (order-few e y m fx.ups (closes ++ gs) (within y closes gs w) one) in
      let three = order-then e downs (ups ++ closes) gs (order-few e y m fx.downs ((ups ++ closes) ++ gs) (within y (ups ++ closes) gs w) two) in
      order-then e (makes_of y fx.makes) (downs ++ (ups ++ closes)) gs (order-makes e y fx.makes ((downs ++ (ups ++ closes)) ++ gs) three)
  order-runs e y m false fx gs away w f k =
      order-then e (returns_of y (lent fx)) (all_closes y no_memory) gs
      (order-returns e y (lent fx) (all_closes y no_memory ++ gs) (order-closes e y ((0, no_memory) ∷ (1, no_memory) ∷ (2, no_memory) ∷ (3, no_memory) ∷ []) gs away f k))

  -- no entry stands in what is to run of one
  entered-then : (us vs gs : List (Stage N L)) → entered p.obj.0 ((us ++ vs) ++ gs) ≡ entered p.obj.0 (us ++ (vs ++ gs))
  entered-then us vs gs = ap (entered p.obj.0) (append_assoc us vs gs)

  entered-emit : (y : ℕ) (m : Said) (o : Option (Emit L)) (gs : List (Stage N L)) → entered p.obj.0 (emit_of known y m o ++ gs) ≡ entered p.obj.0 gs
  entered-emit y m None gs = refl
  entered-emit y m (Some x) gs = entered-returns y (in_list x.load) gs

  entered-few : (y : ℕ) (m : Said) (f : Few (Emit L)) (gs : List (Stage N L)) → entered p.obj.0 (few_of known y m f ++ gs) ≡ entered p.obj.0 gs
  entered-few y m f gs = entered-then (emit_of known y m f.first) (emit_of known y m f.second) gs ∙ entered-emit y m f.first (emit_of known y m f.second ++ gs) ∙ entered-emit y m f.second gs

  entered-makes : (y : ℕ) (o : Option (Make N)) (gs : List (Stage N L)) → entered p.obj.0 (makes_of y o ++ gs) ≡ entered p.obj.0 gs
  entered-makes y None gs = refl
  entered-makes y (Some m) gs = refl

  pub entered-runs : (y : ℕ) (m : Said) (done : Bool) (fx : Fx N L) (gs : List (Stage N L)) → entered p.obj.0 (runs_of known y m done fx ++ gs) ≡ entered p.obj.0 gs
  entered-runs y m true fx gs =
      let closes = closes_of y fx.closes.items in
      let ups = few_of known y m fx.ups in
      let downs = few_of known y m fx.downs in
      entered-then (makes_of y fx.makes) (downs ++ (ups ++ closes)) gs ∙ entered-makes y fx.makes ((downs ++ (ups ++ closes)) ++ gs)
      ∙ entered-then downs (ups ++ closes) gs ∙ entered-few y m fx.downs ((ups ++ closes) ++ gs)
      ∙ entered-then ups closes gs ∙ entered-few y m fx.ups (closes ++ gs) ∙ entered-closes y fx.closes.items gs
  entered-runs y m false fx gs = entered-then (returns_of y (lent fx)) (all_closes y no_memory) gs ∙ entered-returns y (lent fx) (all_closes y no_memory ++ gs)

  due-emit : (m : Said) (o : Option (Emit L)) (gs : List (Stage N L)) (n : ℕ) → Due p q n gs → Due p q (n + length (emit_bytes known p.slot m.bytes o)) (emit_of known p.obj.0 m o ++ gs)
  due-emit m None gs n d = due-less gs n (n + 0) (omega arith) d
  due-emit m (Some x) gs n d =
      let back = due-push (returns_of p.obj.0 (in_list x.load)) gs n d in
      elim (cases_eq p.slot x.slot) [
        | inl i ↦ rw (eq-eqb p.slot x.slot i) (
            let l = length (carries known m.bytes x.from x.to x.load) in
            inl (l, ((refl, sym i), refl), due-less (returns_of p.obj.0 (in_list x.load) ++ gs) n (n + l - l) (omega arith) back))
        | inr i ↦ rw (ne_eqb p.slot x.slot i) (inr (inr (due-less (returns_of p.obj.0 (in_list x.load) ++ gs) n (n + 0) (omega arith) back)))
      ]

  due-few : (m : Said) (f : Few (Emit L)) (gs : List (Stage N L)) (n : ℕ) → Due p q n gs → Due p q (n + length (few_bytes known p.slot m.bytes f)) (few_of known p.obj.0 m f ++ gs)
  due-few m f gs n d =
      let a = emit_bytes known p.slot m.bytes f.first in
      let b = emit_bytes known p.slot m.bytes f.second in
      let us = emit_of known p.obj.0 m f.first in
      let vs = emit_of known p.obj.0 m f.second in
      let both = due-then (n + length b + length a) us vs gs (due-emit m f.first (vs ++ gs) (n + length b) (due-emit m f.second gs n d)) in
      due-less ((us ++ vs) ++ gs) (n + length b + length a) (n + length (a ++ b)) (omega (arith, length-append a b)) both

  -- what an entry of p's object sends is to be brought
  pub due-runs : (m : Said) (done : Bool) (fx : Fx N L) (gs : List (Stage N L)) (n : ℕ) → Due p q n gs → Due p q (n + length (cond done (fx_bytes known p.slot m.bytes fx) [])) (runs_of known p.obj.0 m done fx ++ gs)
  due-runs m true fx gs n d =
      let closes = closes_of p.obj.0 fx.closes.items in
      let ups = few_of known p.obj.0 m fx.ups in
      let downs = few_of known p.obj.0 m fx.downs in
      let a = few_bytes known p.slot m.bytes fx.downs in
      let b = few_bytes known p.slot m.bytes fx.ups in
      let one = due-then (n + length b) ups closes gs (due-few m fx.ups (closes ++ gs) n (due-push closes gs n d)) in
      let two = due-then (n + length b + length a) downs (ups ++ closes) gs (due-few m fx.downs ((ups ++ closes) ++ gs) (n + length b) one) in
      let three = due-then (n + length b + length a) (makes_of p.obj.0 fx.makes) (downs ++ (ups ++ closes)) gs (due-push (makes_of p.obj.0 fx.makes) ((downs ++ (ups ++ closes)) ++ gs) (n + length b + length a) two) in
      due-less (runs_of known p.obj.0 m true fx ++ gs) (n + length b + length a) (n + length (a ++ b)) (omega (arith, length-append a b)) three
  due-runs m false fx gs n d = due-push (runs_of known p.obj.0 m false fx) gs (n + 0) (due-less gs n (n + 0) (omega arith) d)

  -- an object that runs out of memory within an entry of p's closes q
  pub due-fails : (y n : ℕ) (m : Said) (fx : Fx N L) (gs : List (Stage N L)) → y ≡ q.obj.0 → q.slot ≤ 3 → 1 ≤ entered p.obj.0 gs → Due p q n (runs_of known y m false fx ++ gs)
  due-fails y n m fx gs own le i =
      due-then n (returns_of y (lent fx)) (all_closes y no_memory) gs (due-push (returns_of y (lent fx)) (all_closes y no_memory ++ gs) n (elim (small q.slot le) [
        | inl a ↦ inr (inl ((own, sym a), i))
        | inr r ↦ elim r [
          | inl a ↦ inr (inr (inr (inl ((own, sym a), i))))
          | inr t ↦ elim t [
            | inl a ↦ inr (inr (inr (inr (inr (inl ((own, sym a), i))))))
            | inr a ↦ inr (inr (inr (inr (inr (inr (inr (inl ((own, sym a), i))))))))
          ]
        ]
      ]))
