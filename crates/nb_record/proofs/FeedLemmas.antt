-- What a feed holds stands between two places of its room.
use Rattle.std.proofs.Common.{◌≡◌, ℕ, ◌+◌, ◌-◌, ◌≤◌, List, ◌++◌, length, take, drop, sym, ap, ◌∙◌, arith}
use Rattle.std.proofs.Math.Seq.{paste, take-add}
use Rattle.std.proofs.lemmas.List.{drop-take, length-take, length-drop}
use Rattle.std.proofs.lemmas.List.Edits.{take-paste}
use Rattle.nb_record.specs.Bytes.{Held}

-- the items from one place up to another, as a slice takes them
pub between : (n m : ℕ) (xs : List ℕ) → n ≤ m → drop n (take m xs) ≡ take (m - n) (drop n xs)
between n m xs le =
    let e : m ≡ n + (m - n) = omega arith in
    ap (λ (k : ℕ). drop n (take k xs)) e ∙ drop-take n (m - n) xs

-- moved to the front
pub moved_front : (xs : List ℕ) (n m : ℕ) → n ≤ m → m ≤ length xs → take (m - n) (paste xs 0 (drop n xs) (m - n)) ≡ drop n (take m xs)
moved_front xs n m le within =
    let e : m - n ≡ 0 + (m - n) = omega arith in
    ap (λ (k : ℕ). take k (paste xs 0 (drop n xs) (m - n))) e ∙ take-paste xs 0 (drop n xs) (m - n) (omega arith) (omega (arith, length-drop n xs)) ∙ sym (between n m xs le)

-- how many bytes are held
pub held_count : (xs : List ℕ) (n m : ℕ) (h : Held) → n ≤ m → m ≤ length xs → drop n (take m xs) ≡ h.bytes → length h.bytes ≡ m - n
held_count xs n m h le within e = omega (arith, ap length e, length-drop n (take m xs), length-take m xs)

-- what stands after them once more were written there
pub held_more : (xs ys : List ℕ) (n m : ℕ) (held : List ℕ) → take n xs ≡ take n ys → take n ys ≡ held
    → take (n + m) xs ≡ held ++ take m (drop n xs)
held_more xs ys n m held same was = take-add n m xs ∙ ap (λ (w : List ℕ). w ++ take m (drop n xs)) (same ∙ was)
