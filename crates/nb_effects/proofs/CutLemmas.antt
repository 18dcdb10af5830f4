-- The bytes of a part of a message.
use Rattle.std.proofs.Common.{◌≡◌, ℕ, ◌+◌, ◌-◌, ◌≤◌, min, List, [], ◌++◌, length, take, drop, length-drop, append-nil, ◌∷◌, refl, ap, sym, ◌∙◌, inl, inr, arith}
use Rattle.std.proofs.lemmas.Bool.{cases_lt}
use Rattle.std.proofs.lemmas.List.{drop-append-le, drop_all, take-append-le}
use Rattle.std.proofs.Math.Seq.{take-length, drop-append-add, take-append-add}

-- a slice to its end
to-end : (xs : List ℕ) (i : ℕ) → take (length xs - i) (drop i xs) ≡ drop i xs
to-end xs i = ap (λ n. take n (drop i xs)) (sym (length-drop i xs)) ∙ take-length (drop i xs)

-- two lists without their first bytes
pub behind-bytes : (xs ys : List ℕ) (took i j : ℕ) → i ≡ min took (length xs) → j ≡ took - length xs → take (length xs - i) (drop i xs) ++ take (length ys - j) (drop j ys) ≡ drop took (xs ++ ys)
behind-bytes xs ys took i j a b = ap (λ z. z ++ take (length ys - j) (drop j ys)) (to-end xs i) ∙ ap (λ z. drop i xs ++ z) (to-end ys j) ∙ elim (cases_lt took (length xs)) [
  | inl h ↦
      let p : i ≡ took = omega arith in
      let q : j ≡ 0 = omega arith in
      ap (λ n. drop n xs ++ drop j ys) p ∙ ap (λ n. drop took xs ++ drop n ys) q ∙ sym (drop-append-le took xs ys (omega arith))
  | inr h ↦
      let p : i ≡ length xs = omega arith in
      let e : length xs + j ≡ took = omega arith in
      ap (λ n. drop n xs ++ drop j ys) p ∙ ap (λ z. z ++ drop j ys) (gone xs) ∙ sym (drop-append-add xs ys j) ∙ ap (λ n. drop n (xs ++ ys)) e
]
  where
    gone : (xs : List ℕ) → drop (length xs) xs ≡ []
    gone xs = drop_all (length xs) xs (omega arith)

-- a part of two lists
pub cut-bytes : (xs ys : List ℕ) (f t i j m n : ℕ) → f ≤ t → i ≡ min f (length xs) → j ≡ min t (length xs) → m ≡ f - length xs → n ≡ t - length xs → take (j - i) (drop i xs) ++ take (n - m) (drop m ys) ≡ take (t - f) (drop f (xs ++ ys))
cut-bytes xs ys f t i j m n o a b c d = elim (cases_lt (length xs) t) [
  | inr h ↦
      let ei : i ≡ f = omega arith in
      let ej : j ≡ t = omega arith in
      let em : m ≡ 0 = omega arith in
      let en : n ≡ 0 = omega arith in
      rw (ei, ej, em, en, drop-append-le f xs ys (omega arith)) (within f (omega arith))
  | inl h ↦ elim (cases_lt f (length xs)) [
    | inl k ↦
        let ei : i ≡ f = omega arith in
        let ej : j ≡ length xs = omega arith in
        let em : m ≡ 0 = omega arith in
        let en : n ≡ t - length xs = omega arith in
        rw (ei, ej, em, en, drop-append-le f xs ys (omega arith)) (over f (omega arith) (omega arith))
    | inr k ↦
        let ei : i ≡ length xs = omega arith in
        let ej : j ≡ length xs = omega arith in
        let e : length xs + (f - length xs) ≡ f = omega arith in
        let g : length xs - length xs ≡ 0 = omega arith in
        let u : n - m ≡ t - f = omega arith in
        rw (ei, ej, g, u) (ap (λ z. take (t - f) (drop z ys)) c ∙ ap (take (t - f)) (sym (drop-append-add xs ys (f - length xs)) ∙ ap (λ z. drop z (xs ++ ys)) e))
  ]
]
  where
    nothing : (zs : List ℕ) → take 0 zs ≡ []
    nothing [] = refl
    nothing (z ∷ zs) = refl

    append-nothing : (zs : List ℕ) → zs ++ [] ≡ zs
    append-nothing zs = append-nil zs

    within : (f : ℕ) → t ≤ length xs → take (t - f) (drop f xs) ++ take (0 - 0) (drop 0 ys) ≡ take (t - f) (drop f xs ++ ys)
    within f h = ap (λ z. take (t - f) (drop f xs) ++ z) (nothing ys) ∙ append-nothing (take (t - f) (drop f xs)) ∙ sym (take-append-le (t - f) (drop f xs) ys (let k = length-drop f xs in omega arith))

    over : (f : ℕ) → f ≤ length xs → length xs ≤ t → take (length xs - f) (drop f xs) ++ take (t - length xs - 0) (drop 0 ys) ≡ take (t - f) (drop f xs ++ ys)
    over f h k =
        let len = length-drop f xs in
        let e : length (drop f xs) + (t - length xs) ≡ t - f = omega arith in
        let z : t - length xs - 0 ≡ t - length xs = omega arith in
        ap (λ u. u ++ take (t - length xs - 0) (drop 0 ys)) (to-end xs f) ∙ ap (λ u. drop f xs ++ take u (drop 0 ys)) z ∙ sym (take-append-add (drop f xs) ys (t - length xs)) ∙ ap (λ u. take u (drop f xs ++ ys)) e
