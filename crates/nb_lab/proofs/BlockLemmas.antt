-- An image's blocks, joined, and the last of them.
use Rattle.std.proofs.Common.{◌≡◌, ◌↔◌, ℕ, zero, suc, ◌+◌, ◌-◌, ◌*◌, ◌/◌, ◌<◌, ◌≤◌, min, List, ◌++◌, length, take, drop, ap, sym, ◌∙◌, subst, arith}
use Rattle.std.specs.List.{flat_map, range_with_len}
use Rattle.std.proofs.Math.Nat.{div-lt_iff_lt-mul}
use Rattle.std.proofs.Math.Seq.{take-add}
use Rattle.std.proofs.lemmas.Bool.Decides.{Decides-ltb}
use Rattle.std.proofs.lemmas.List.{drop-drop, length-drop, length-take, take_all}
use Rattle.nb_lab.specs.Images.{image_len, image_bytes, image_block}
use Rattle.nb_lab.specs.Blocks.{block_count, BlocksJoin, LastIsShort, EndsInLast}
use Rattle.nb_lab.proofs.ImageLemmas.{length-image_piece}

-- a list's cut of a size, by its number from 1
abbrev cut : List ℕ → ℕ → ℕ → List ℕ
cut xs size k = take size (drop ((k - 1) * size) xs)

-- two parts that follow one another
one_part : (xs : List ℕ) (place a b : ℕ) → take a (drop place xs) ++ take b (drop (place + a) xs) ≡ take (a + b) (drop place xs)
one_part xs place a b =
    ap (λ (ys : List ℕ). take a (drop place xs) ++ take b ys) (sym (drop-drop a place xs)) ∙ sym (take-add a b (drop place xs))

-- cuts that follow one another, from the one after the first m
cuts_join : (xs : List ℕ) (size n m : ℕ) → flat_map (cut xs size) (range_with_len (m + 1) n) ≡ take (n * size) (drop (m * size) xs)
cuts_join xs size zero m =
    let none : 0 ≡ zero * size = omega arith in
    ap (λ (k : ℕ). take k (drop (m * size) xs)) none
cuts_join xs size (suc n) m =
    let before : (m + 1 - 1) * size ≡ m * size = ap (λ (k : ℕ). k * size) (omega arith) in
    let after : (m + 1) * size ≡ m * size + size = omega arith in
    let more : size + n * size ≡ suc n * size = omega arith in
    ap (λ (k : ℕ). take size (drop k xs) ++ flat_map (cut xs size) (range_with_len (m + 1 + 1) n)) before
    ∙ ap (λ (ys : List ℕ). take size (drop (m * size) xs) ++ ys) (cuts_join xs size n (m + 1))
    ∙ ap (λ (k : ℕ). take size (drop (m * size) xs) ++ take (n * size) (drop k xs)) after
    ∙ one_part xs (m * size) size (n * size)
    ∙ ap (λ (k : ℕ). take k (drop (m * size) xs)) more

-- a number is the last one's where the image has fewer bytes than so many blocks
short_of : (i size n : ℕ) → 0 < size → image_len i < n * size → n ≤ block_count i size → n ≡ block_count i size
short_of i size n some short most =
    let above : image_len i / size < n = (div-lt_iff_lt-mul some).1 short in
    omega arith

below_last : (i size : ℕ) → 0 < size → image_len i < block_count i size * size
below_last i size some =
    let next : image_len i / size < block_count i size = omega arith in
    (div-lt_iff_lt-mul some).0 next

pub blocks_join : BlocksJoin
unfolding image_block
blocks_join i size some =
    let all = image_bytes i in
    let fits : length all ≤ block_count i size * size = omega (arith, length-image_piece i 0 (image_len i), below_last i size some) in
    let zeroth : 0 * size ≡ 0 = omega arith in
    cuts_join all size (block_count i size) 0
    ∙ ap (λ (k : ℕ). take (block_count i size * size) (drop k all)) zeroth
    ∙ take_all (block_count i size * size) all fits

length-block : (i size m : ℕ) → length (image_block i size (suc m)) ≡ min size (image_len i - m * size)
unfolding image_block
length-block i size m =
    let all = image_bytes i in
    let place : (suc m - 1) * size ≡ m * size = ap (λ (k : ℕ). k * size) (omega arith) in
    ap (λ (k : ℕ). length (take size (drop k all))) place
    ∙ omega (arith, length-take size (drop (m * size) all), length-drop (m * size) all, length-image_piece i 0 (image_len i))

pub last_is_short : LastIsShort
last_is_short i size zero some first most = absurd (omega arith)
last_is_short i size (suc m) some first most =
    let len = length-block i size m in
    let next : suc m * size ≡ m * size + size = omega arith in (
      λ short. short_of i size (suc m) some (omega (arith, len, short, next)) most,
      λ last.
          let full : image_len i < suc m * size = subst (λ (k : ℕ). image_len i < k * size) (sym last) (below_last i size some) in
          omega (arith, len, full, next),
    )

pub ends_in_last : EndsInLast
ends_in_last i size n some most =
    let decides = Decides-ltb (image_len i) (n * size) in (
      λ ends. short_of i size n some (decides.0 ends) most,
      λ last. decides.1 (subst (λ (k : ℕ). image_len i < k * size) (sym last) (below_last i size some)),
    )
