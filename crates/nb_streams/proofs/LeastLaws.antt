-- The front ends at the least place that has no byte, and has the bytes of the places below it.
use Rattle.std.proofs.Common.{◌≡◌, ◌≤◌, ◌<◌, ℕ, zero, suc, ◌+◌, ◌==◌, not, List, [], ◌∷◌, length, Some, None, Bool, false, refl, ap, ◌∙◌, sym, subst, arith}
use Rattle.std.specs.List.{filter, slice_get}
use Rattle.std.proofs.lemmas.Bool.{eqb-true, ne_eqb}
use Rattle.std.proofs.lemmas.Option.{none-some}
use Rattle.std.proofs.lemmas.List.{nil_from_length}
use Rattle.nb_streams.specs.Streams.{HeldBytes, if_here, byte_at, counts, counting, with_byte, run, front, next}
use Rattle.nb_streams.proofs.StreamLaws.{either, by_option}

abbrev without : ℕ → List (ℕ × ℕ) → List (ℕ × ℕ)
without p pairs = filter (λ q. not (q.0 == p)) pairs

look_without : (p k : ℕ) (pairs : List (ℕ × ℕ)) → (k ≡ p → ⊥) → byte_at k (without p pairs) ≡ byte_at k pairs
look_without p k [] apart = refl
look_without p k (q ∷ qs) apart = either (q.0 == p)
    (λ only_if. let other : (q.0 == k) ≡ false = ne_eqb q.0 k (λ e. apart (sym e ∙ eqb-true q.0 p only_if)) in
    rw (only_if, other) (look_without p k qs apart))
    (λ off. rw off (ap (if_here (q.0 == k) q.1) (look_without p k qs apart)))

length_filter : (test : ℕ × ℕ → Bool) (pairs : List (ℕ × ℕ)) → length (filter test pairs) ≤ length pairs
length_filter test [] = omega arith
length_filter test (q ∷ qs) = either (test q)
    (λ only_if. rw only_if (omega (arith, length_filter test qs)))
    (λ off. rw off (omega (arith, length_filter test qs)))

length_without : (p b : ℕ) (pairs : List (ℕ × ℕ)) → byte_at p pairs ≡ Some b → length (without p pairs) < length pairs
length_without p b [] is = absurd (none-some b is)
length_without p b (q ∷ qs) is = either (q.0 == p)
    (λ only_if. rw only_if (omega (arith, length_filter (λ q. not (q.0 == p)) qs)))
    (λ off. rw off (omega (arith, length_without p b qs (rw off at is))))

run_same : (most p : ℕ) (xs ys : List (ℕ × ℕ)) → ((k : ℕ) → p ≤ k → byte_at k xs ≡ byte_at k ys) → run most p xs ≡ run most p ys
run_same zero p xs ys same = refl
run_same (suc most) p xs ys same =
    ap (λ o. with_byte o (run most (p + 1) xs)) (same p (omega arith)) ∙ ap (with_byte (byte_at p ys)) (run_same most (p + 1) xs ys (λ k l. same k (omega (arith, l))))

run_least : (most p : ℕ) (pairs : List (ℕ × ℕ)) → length pairs ≤ most → byte_at (p + length (run most p pairs)) pairs ≡ None
run_least zero p pairs l = ap (byte_at (p + 0)) (nil_from_length pairs (omega (arith, l)))
run_least (suc most) p pairs l = by_option (byte_at p pairs)
    (λ none. let here : p + 0 ≡ p = omega arith in
    ap (λ o. byte_at (p + length (with_byte o (run most (p + 1) pairs))) pairs) none ∙ ap (λ k. byte_at k pairs) here ∙ none)
    (λ b some.
    let fewer : length (without p pairs) ≤ most = omega (arith, l, length_without p b pairs some) in
    let same : run most (p + 1) pairs ≡ run most (p + 1) (without p pairs) = run_same most (p + 1) pairs (without p pairs) (λ k above. sym (look_without p k pairs (λ e. over p k above e))) in
    let last : ℕ = (p + 1) + length (run most (p + 1) (without p pairs)) in
    let whole : run (suc most) p pairs ≡ b ∷ run most (p + 1) pairs = ap (λ o. with_byte o (run most (p + 1) pairs)) some in
    let there : p + length (run (suc most) p pairs) ≡ last = omega (arith, ap length whole, ap length same) in
    ap (λ k. byte_at k pairs) there ∙ sym (look_without p last pairs (λ e. past p (length (run most (p + 1) (without p pairs))) e)) ∙ run_least most (p + 1) (without p pairs) fewer)
  where
    over : (p k : ℕ) → p + 1 ≤ k → k ≡ p → ⊥
    over p k l e = omega (arith, l, e)

    past : (p k : ℕ) → (p + 1) + k ≡ p → ⊥
    past p k e = omega (arith, e)

-- the place after the front has no byte
pub none_at_next : (h : HeldBytes) → byte_at (next h) (counting h) ≡ None
none_at_next h = ap (λ n. byte_at n (counting h)) (same (next h)) ∙ run_least (length h.pairs) 0 (counting h) (length_filter (counts h.stop) h.pairs)
  where
    same : (k : ℕ) → k ≡ 0 + k
    same k = omega arith

run_at : (most p k : ℕ) (pairs : List (ℕ × ℕ)) → k < length (run most p pairs) → byte_at (p + k) pairs ≡ slice_get (run most p pairs) k
run_at zero p k pairs l = absurd (none_below k l)
  where
    none_below : (k : ℕ) → k < 0 → ⊥
    none_below k l = omega (arith, l)
run_at (suc most) p k pairs l = by_option (byte_at p pairs)
    (λ none. absurd (none_below k (subst (λ o. k < length (with_byte o (run most (p + 1) pairs))) none l)))
    (λ b some. in_run most p k pairs b some (subst (λ o. k < length (with_byte o (run most (p + 1) pairs))) some l) (λ j. run_at most (p + 1) j pairs) ∙ ap (λ o. slice_get (with_byte o (run most (p + 1) pairs)) k) (sym some))
  where
    none_below : (k : ℕ) → k < 0 → ⊥
    none_below k l = omega (arith, l)

    in_run : (most p k : ℕ) (pairs : List (ℕ × ℕ)) (b : ℕ) → byte_at p pairs ≡ Some b → k < suc (length (run most (p + 1) pairs))
        → ((j : ℕ) → j < length (run most (p + 1) pairs) → byte_at ((p + 1) + j) pairs ≡ slice_get (run most (p + 1) pairs) j)
        → byte_at (p + k) pairs ≡ slice_get (b ∷ run most (p + 1) pairs) k
    in_run most p zero pairs b some l later = let here : p + 0 ≡ p = omega arith in ap (λ n. byte_at n pairs) here ∙ some
    in_run most p (suc j) pairs b some l later = let here : p + suc j ≡ (p + 1) + j = omega arith in ap (λ n. byte_at n pairs) here ∙ later j (omega (arith, l))

-- the front has the bytes of the places below
pub byte_below_next : (h : HeldBytes) (k : ℕ) → k < next h → byte_at k (counting h) ≡ slice_get (front h) k
byte_below_next h k l = ap (λ n. byte_at n (counting h)) (same k) ∙ run_at (length h.pairs) 0 k (counting h) l
  where
    same : (k : ℕ) → k ≡ 0 + k
    same k = omega arith
