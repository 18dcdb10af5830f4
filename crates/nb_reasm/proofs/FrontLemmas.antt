-- The bytes of a front, place by place, are those of the window.
use Rattle.std.proofs.Common.{◌≡◌, ℕ, zero, suc, ◌+◌, ◌-◌, ◌<◌, ◌≤◌, List, [], ◌∷◌, ◌++◌, length, Option, Some, None, true, refl, ap, sym, ◌∙◌, subst, arith}
use Rattle.std.specs.Prelude.{unwrap_or, slice_index}
use Rattle.std.specs.Option.{is_some}
use Rattle.std.proofs.lemmas.Bool.{false≢true}
use Rattle.nb_reasm.specs.declared.held.Held.{Held}
use Rattle.nb_reasm.specs.HeldWindows.{window, front_seam, front_first, front_second}
use Rattle.nb_reasm.specs.Windows.{HeldWindow, bytes_from}

-- bytes that are held at the places from one on
pub bytes_are : (w : HeldWindow) (p : ℕ) (xs : List ℕ) → ((k : ℕ) → k < length xs → w.at (p + k) ≡ Some (slice_index xs k)) → xs ≡ bytes_from w p (length xs)
bytes_are w p [] h = refl
bytes_are w p (x ∷ xs) h =
    ap (λ z. z ∷ xs) (sym (ap (λ o. unwrap_or o 0) (subst (λ z. w.at z ≡ Some x) (let e : p + 0 ≡ p = omega arith in e) (h 0 (omega arith)))))
    ∙ ap (λ z. unwrap_or (w.at p) 0 ∷ z) (bytes_are w (p + 1) xs (λ k l. subst (λ z. w.at z ≡ Some (slice_index xs k)) (let e : p + suc k ≡ p + 1 + k = omega arith in e) (h (suc k) (omega (arith, l)))))

pub bytes_from-length : (w : HeldWindow) (p n : ℕ) → length (bytes_from w p n) ≡ n
bytes_from-length w p zero = refl
bytes_from-length w p (suc n) = ap suc (bytes_from-length w (p + 1) n)

-- those of some places and of the places after them
pub bytes_from-append : (w : HeldWindow) (p m n : ℕ) → bytes_from w p m ++ bytes_from w (p + m) n ≡ bytes_from w p (m + n)
bytes_from-append w p zero n = ap (λ z. bytes_from w z n) (let e : p + 0 ≡ p = omega arith in e) ∙ ap (λ z. bytes_from w p z) (let e : n ≡ 0 + n = omega arith in e)
bytes_from-append w p (suc m) n =
    ap (λ z. unwrap_or (w.at p) 0 ∷ z) (ap (λ z. bytes_from w (p + 1) m ++ bytes_from w z n) (let e : p + suc m ≡ p + 1 + m = omega arith in e) ∙ bytes_from-append w (p + 1) m n)
    ∙ ap (λ z. bytes_from w p z) (let e : suc (m + n) ≡ suc m + n = omega arith in e)

some_is : (o : Option ℕ) → is_some o ≡ true → o ≡ Some (unwrap_or o 0)
some_is None h = absurd (false≢true h)
some_is (Some x) h = refl

-- each of them is held, where all those places hold one
pub bytes_from-held : (w : HeldWindow) (p n k : ℕ) → ((q : ℕ) → p ≤ q → q < p + n → is_some (w.at q) ≡ true) → k < n → w.at (p + k) ≡ Some (slice_index (bytes_from w p n) k)
bytes_from-held w p zero k all l = absurd (omega (arith, l))
bytes_from-held w p (suc n) zero all l = subst (λ z. w.at z ≡ Some (unwrap_or (w.at p) 0)) (let e : p ≡ p + 0 = omega arith in e) (some_is (w.at p) (all p (omega arith) (omega arith)))
bytes_from-held w p (suc n) (suc k) all l =
    subst (λ z. w.at z ≡ Some (slice_index (bytes_from w (p + 1) n) k)) (let e : p + 1 + k ≡ p + suc k = omega arith in e)
    (bytes_from-held w (p + 1) n k (λ q from to. all q (omega (arith, from)) (omega (arith, to))) (omega (arith, l)))

-- two parts with the front's bytes, cut at the seam
pub parts_are : (h : Held) (xs ys : List ℕ) → length xs ≡ front_seam h → length xs + length ys ≡ (window h).next - (window h).base
    → ((k : ℕ) → k < length xs → (window h).at ((window h).base + k) ≡ Some (slice_index xs k))
    → ((k : ℕ) → k < length ys → (window h).at ((window h).base + (length xs + k)) ≡ Some (slice_index ys k))
    → (xs ≡ front_first h) × (ys ≡ front_second h)
parts_are h xs ys split len first second =
    let seam : (window h).base + length xs ≡ (window h).base + front_seam h = ap (λ z. (window h).base + z) split in
    let later : (k : ℕ) → k < length ys → (window h).at ((window h).base + length xs + k) ≡ Some (slice_index ys k) = λ k l. subst (λ z. (window h).at z ≡ Some (slice_index ys k)) (let e : (window h).base + (length xs + k) ≡ (window h).base + length xs + k = omega arith in e) (second k l) in
    let rest : length ys ≡ (window h).next - ((window h).base + front_seam h) = omega (arith, len, split) in (
      bytes_are (window h) (window h).base xs first ∙ ap (λ n. bytes_from (window h) (window h).base n) split,
      bytes_are (window h) ((window h).base + length xs) ys later ∙ ap (λ p. bytes_from (window h) p (length ys)) seam ∙ ap (λ n. bytes_from (window h) ((window h).base + front_seam h) n) rest,
    )

-- and together they are all of it
pub front_whole : (h : Held) → (window h).base ≤ (window h).next → front_first h ++ front_second h ≡ bytes_from (window h) (window h).base ((window h).next - (window h).base)
front_whole h l =
    bytes_from-append (window h) (window h).base (front_seam h) ((window h).next - ((window h).base + front_seam h))
    ∙ ap (λ n. bytes_from (window h) (window h).base n) (let e : front_seam h + ((window h).next - ((window h).base + front_seam h)) ≡ (window h).next - (window h).base = omega (arith, l) in e)
