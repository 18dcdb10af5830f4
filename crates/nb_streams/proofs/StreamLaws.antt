-- What is held of a stream is the stream's, and more of it only extends the front.
use Rattle.std.proofs.Common.{◌≡◌, ◌≤◌, ◌<◌, ℕ, zero, suc, ◌+◌, ◌-◌, ◌^◌, ◌==◌, ◌&&◌, List, [], ◌∷◌, ◌++◌, length, drop, Option, Some, None, Bool, true, false, refl, ap, ◌∙◌, sym, subst, arith, ltb}
use Rattle.std.specs.List.{AllByRecursion, filter, slice_get}
use Rattle.std.proofs.lemmas.Bool.{eqb-true, lt-ltb, false≢true, and_from, and_parts}
use Rattle.std.proofs.lemmas.Option.{none-some, same_Some}
use Rattle.std.proofs.lemmas.List.{length-append}
use Rattle.nb_streams.specs.Streams.{HeldBytes, if_here, byte_at, before_stop, counts, counting, with_byte, run, front, next, with_pairs, stop_at, first_stop, IsByteOf, IsPrefixOf}

pub either : {Z : Type 0} (b : Bool) → (b ≡ true → Z) → (b ≡ false → Z) → Z
either true f g = f refl
either false f g = g refl

pub by_option : {A Z : Type 0} (o : Option A) → (o ≡ None → Z) → ((a : A) → o ≡ Some a → Z) → Z
by_option None f g = f refl
by_option (Some a) f g = g a refl

pub look_is : (xs : List ℕ) (pairs : List (ℕ × ℕ)) → AllByRecursion (IsByteOf xs) pairs → (p b : ℕ) → byte_at p pairs ≡ Some b → slice_get xs p ≡ Some b
look_is xs [] h p b is = absurd (none-some b is)
look_is xs (q ∷ qs) h p b is = either (q.0 == p)
    (λ only_if. let at : q.0 ≡ p = eqb-true q.0 p only_if in
    let byte : q.1 ≡ b = same_Some q.1 b (rw only_if at is) in
    subst (λ place. slice_get xs place ≡ Some b) at (h.0 ∙ ap Some byte))
    (λ off. look_is xs qs h.1 p b (rw off at is))

drop_at_byte : (xs : List ℕ) (p b : ℕ) → slice_get xs p ≡ Some b → drop p xs ≡ b ∷ drop (p + 1) xs
drop_at_byte [] p b is = absurd (none-some b is)
drop_at_byte (x ∷ xs) zero b is = ap (λ y. y ∷ xs) (same_Some x b is)
drop_at_byte (x ∷ xs) (suc p) b is =
    let e : suc (p + 1) ≡ suc p + 1 = omega arith in
    drop_at_byte xs p b is ∙ ap (λ n. b ∷ drop n (x ∷ xs)) e

pub run_is : (xs : List ℕ) (pairs : List (ℕ × ℕ)) → AllByRecursion (IsByteOf xs) pairs → (most p : ℕ) → IsPrefixOf (run most p pairs) (drop p xs)
run_is xs pairs h zero p = (drop p xs, refl)
run_is xs pairs h (suc most) p = by_option (byte_at p pairs)
    (λ no. (drop p xs, ap (λ o. with_byte o (run most (p + 1) pairs) ++ drop p xs) (sym no)))
    (λ b yes.
    let more : IsPrefixOf (run most (p + 1) pairs) (drop (p + 1) xs) = run_is xs pairs h most (p + 1) in
    (more.0, drop_at_byte xs p b (look_is xs pairs h p b yes) ∙ ap (λ ys. b ∷ ys) more.1 ∙ ap (λ o. with_byte o (run most (p + 1) pairs) ++ more.0) (sym yes)))

filter_keeps : (test : ℕ × ℕ → Bool) (P : ℕ × ℕ → Type 0) (pairs : List (ℕ × ℕ)) → AllByRecursion P pairs → AllByRecursion P (filter test pairs)
filter_keeps test P [] h = tt
filter_keeps test P (q ∷ qs) h = either (test q) (λ only_if. rw only_if (h.0, filter_keeps test P qs h.1)) (λ off. rw off (filter_keeps test P qs h.1))

-- the front is the stream's
pub front_is : (xs : List ℕ) (h : HeldBytes) → AllByRecursion (IsByteOf xs) h.pairs → IsPrefixOf (front h) xs
front_is xs h all = run_is xs (counting h) (filter_keeps (counts h.stop) (IsByteOf xs) h.pairs all) (length h.pairs) 0

look_filter : (stop : Option ℕ) (pairs : List (ℕ × ℕ)) (p b : ℕ) → counts stop (p, b) ≡ true → byte_at p pairs ≡ Some b → byte_at p (filter (counts stop) pairs) ≡ Some b
look_filter stop [] p b only_if is = absurd (none-some b is)
look_filter stop (q ∷ qs) p b only_if is = either (q.0 == p)
    (λ here. let at : q.0 ≡ p = eqb-true q.0 p here in
    let passes : counts stop q ≡ true = subst (λ z. (ltb z (2 ^ 31 - 1) && before_stop stop z) ≡ true) (sym at) only_if in
    rw passes (rw here (rw here at is)))
    (λ off. either (counts stop q)
    (λ passes. rw passes (rw off (look_filter stop qs p b only_if (rw off at is))))
    (λ fails. rw fails (look_filter stop qs p b only_if (rw off at is))))

look_more : (pairs more : List (ℕ × ℕ)) (p b : ℕ) → byte_at p pairs ≡ Some b → byte_at p (pairs ++ more) ≡ Some b
look_more [] more p b is = absurd (none-some b is)
look_more (q ∷ qs) more p b is = either (q.0 == p)
    (λ here. rw here (rw here at is))
    (λ off. rw off (look_more qs more p b (rw off at is)))

-- what one list of pairs gives from a place on, another gives that has the same bytes there
pub run_more : (old new : List (ℕ × ℕ)) (most extra p : ℕ)
    → ((place b : ℕ) → p ≤ place → place < p + length (run most p old) → byte_at place old ≡ Some b → byte_at place new ≡ Some b)
    → IsPrefixOf (run most p old) (run (most + extra) p new)
run_more old new zero extra p same = (run (zero + extra) p new, refl)
run_more old new (suc most) extra p same = by_option (byte_at p old)
    (λ no. (run (suc most + extra) p new, ap (λ o. with_byte o (run most (p + 1) old) ++ run (suc most + extra) p new) (sym no)))
    (λ b yes.
    let whole : run (suc most) p old ≡ b ∷ run most (p + 1) old = ap (λ o. with_byte o (run most (p + 1) old)) yes in
    let here : byte_at p new ≡ Some b = same p b (omega arith) (omega (arith, ap length whole)) yes in
    let later : IsPrefixOf (run most (p + 1) old) (run (most + extra) (p + 1) new) = run_more old new most extra (p + 1) (λ place c l u is. same place c (omega (arith, l)) (omega (arith, u, ap length whole)) is) in
    let more : suc most + extra ≡ suc (most + extra) = omega arith in
    let long : run (suc most + extra) p new ≡ b ∷ run (most + extra) (p + 1) new = ap (λ k. run k p new) more ∙ ap (λ o. with_byte o (run (most + extra) (p + 1) new)) here in
    (later.0, long ∙ ap (λ ys. b ∷ ys) later.1 ∙ ap (λ ys. ys ++ later.0) (sym whole)))

pub look_counted : (stop : Option ℕ) (pairs : List (ℕ × ℕ)) (p b : ℕ) → byte_at p (filter (counts stop) pairs) ≡ Some b → (byte_at p pairs ≡ Some b) × (counts stop (p, b) ≡ true)
look_counted stop [] p b is = absurd (none-some b is)
look_counted stop (q ∷ qs) p b is = either (counts stop q)
    (λ passes. let kept : if_here (q.0 == p) q.1 (byte_at p (filter (counts stop) qs)) ≡ Some b = rw passes at is in
    either (q.0 == p)
    (λ here. (rw here (rw here at kept), subst (λ z. (ltb z (2 ^ 31 - 1) && before_stop stop z) ≡ true) (eqb-true q.0 p here) passes))
    (λ off. rw off (look_counted stop qs p b (rw off at kept))))
    (λ fails. let later : (byte_at p qs ≡ Some b) × (counts stop (p, b) ≡ true) = look_counted stop qs p b (rw fails at is) in
    either (q.0 == p)
    (λ here. absurd (false≢true (sym (subst (λ z. (ltb z (2 ^ 31 - 1) && before_stop stop z) ≡ false) (eqb-true q.0 p here) fails) ∙ later.1)))
    (λ off. rw off later))

-- a new end lies at the front's end or after it
abbrev pub IsAhead : ℕ → Option ℕ → Type 0
IsAhead n None = Unit {0}
IsAhead n (Some stop) = n ≤ stop

counts_more : (n : ℕ) (old new : Option ℕ) (p b : ℕ) → IsAhead n new → p < n → counts old (p, b) ≡ true → counts (first_stop old new) (p, b) ≡ true
counts_more n (Some stop) new p b ahead l is = is
counts_more n None None p b ahead l is = is
counts_more n None (Some stop) p b ahead l is = and_from _ _ (and_parts _ _ is).0 (lt-ltb p stop (omega (arith, l, ahead)))

-- the map with more pairs and an end that is ahead has the old front, and maybe more
pub front_more : (h : HeldBytes) (stop : Option ℕ) (more : List (ℕ × ℕ)) → IsAhead (next h) stop → IsPrefixOf (front h) (front (with_pairs more (stop_at stop h)))
front_more h stop more ahead =
    let grown : IsPrefixOf (front h) (run (length h.pairs + length more) 0 (counting (with_pairs more (stop_at stop h)))) = run_more (counting h) (counting (with_pairs more (stop_at stop h))) (length h.pairs) (length more) 0
    (λ place b l u is. let both : (byte_at place h.pairs ≡ Some b) × (counts h.stop (place, b) ≡ true) = look_counted h.stop h.pairs place b is in
    look_filter (first_stop h.stop stop) (h.pairs ++ more) place b (counts_more (next h) h.stop stop place b ahead (omega (arith, u)) both.1) (look_more h.pairs more place b both.0)) in
    subst (λ k. IsPrefixOf (front h) (run k 0 (counting (with_pairs more (stop_at stop h))))) (sym (length-append h.pairs more)) grown
