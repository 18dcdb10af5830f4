-- Which part of a hand-off and which piece of a part stands at a number.
use Rattle.std.proofs.Common.{◌≡◌, ℕ, zero, suc, ◌+◌, ◌*◌, ◌/◌, ◌%◌, ◌<◌, ◌≤◌, List, [], ◌∷◌, length, take, drop, Some, None, refl, ap, ◌∙◌, arith, inl, inr}
use Rattle.std.specs.Prelude.{slice_get, option_map}
use Rattle.std.specs.List.{remove, flat_map, enumerate_from}
use Rattle.std.proofs.lemmas.Bool.{cases_lt}
use Rattle.std.proofs.lemmas.Option.{slice_get-get_or, slice_get_past}
use Rattle.std.proofs.lemmas.List.Edits.{length-remove}
use Rattle.std.proofs.lemmas.List.FromFn.{get_or-map-range_with_len, length-map-range_with_len}
use Rattle.nb_image.specs.declared.image.Image.{Image}
use Rattle.nb_image.specs.declared.part.PartKind.TheVariants.{InitrdName, Initrd}
use Rattle.nb_image.specs.Images.{image_of}
use Rattle.nb_image.specs.Parts.{part, initrd_parts, others_parts, parts, piece_at, piece_count, part_pieces}
use Rattle.nb_image.proofs.RemoveLemmas.{other_at}

pub pieces_past : (bytes : List ℕ) (p : ℕ) → piece_count (length bytes) ≤ p → slice_get (part_pieces bytes) p ≡ None
pieces_past bytes p h =
    slice_get_past (part_pieces bytes) p (omega (arith, length-map-range_with_len (piece_at bytes) 0 (piece_count (length bytes))))

pub piece_is : (bytes : List ℕ) (p offset : ℕ) (part_bytes : List ℕ) → p < piece_count (length bytes) → offset ≡ 65536 * p → part_bytes ≡ take 65536 (drop offset bytes) → slice_get (part_pieces bytes) p ≡ Some (record { offset = offset; bytes = part_bytes })
piece_is bytes p offset part_bytes h at is =
    let count = piece_count (length bytes) in
    let long : p < length (part_pieces bytes) = omega (arith, length-map-range_with_len (piece_at bytes) 0 count) in
    let there = slice_get-get_or (part_pieces bytes) p (piece_at bytes p) long in
    let item = get_or-map-range_with_len (piece_at bytes) 0 count p p (piece_at bytes p) h (omega arith) in
    let same : piece_at bytes p ≡ record { offset = offset; bytes = part_bytes } = cc in
    there ∙ ap Some (item ∙ same)

twice : ℕ → ℕ
twice zero = zero
twice (suc q) = suc (suc (twice q))

twice_is : (q : ℕ) → twice q ≡ 2 * q
unfolding twice
twice_is zero = refl
twice_is (suc q) = let ih = twice_is q in omega arith

-- the name of the others' image number q
name_at : (n q : ℕ) (xs : List Image) → slice_get (flat_map initrd_parts (enumerate_from n xs)) (twice q) ≡ option_map (λ (image : Image). part InitrdName (n + q) image.name) (slice_get xs q)
unfolding twice
name_at n q [] = refl
name_at n zero (x ∷ xs) =
    let e : n ≡ n + 0 = omega arith in
    ap (λ (m : ℕ). Some (part InitrdName m x.name)) e
name_at n (suc q) (x ∷ xs) =
    let e : n + 1 + q ≡ n + suc q = omega arith in
    name_at (n + 1) q xs ∙ ap (λ (m : ℕ). option_map (λ (image : Image). part InitrdName m image.name) (slice_get xs q)) e

-- and its bytes
body_at : (n q : ℕ) (xs : List Image) → slice_get (flat_map initrd_parts (enumerate_from n xs)) (suc (twice q)) ≡ option_map (λ (image : Image). part Initrd (n + q) image.body) (slice_get xs q)
unfolding twice
body_at n q [] = refl
body_at n zero (x ∷ xs) =
    let e : n ≡ n + 0 = omega arith in
    ap (λ (m : ℕ). Some (part Initrd m x.body)) e
body_at n (suc q) (x ∷ xs) =
    let e : n + 1 + q ≡ n + suc q = omega arith in
    body_at (n + 1) q xs ∙ ap (λ (m : ℕ). option_map (λ (image : Image). part Initrd m image.body) (slice_get xs q)) e

pub others_name : (xs : List Image) (k : ℕ) → k % 2 ≡ 0 → slice_get (others_parts xs) k ≡ option_map (λ (image : Image). part InitrdName (k / 2) image.name) (slice_get xs (k / 2))
others_name xs k even =
    let e : k ≡ twice (k / 2) = omega (arith, twice_is (k / 2)) in
    let z : 0 + k / 2 ≡ k / 2 = omega arith in
    ap (slice_get (others_parts xs)) e ∙ name_at 0 (k / 2) xs ∙ ap (λ (m : ℕ). option_map (λ (image : Image). part InitrdName m image.name) (slice_get xs (k / 2))) z

pub others_body : (xs : List Image) (k : ℕ) → k % 2 ≡ 1 → slice_get (others_parts xs) k ≡ option_map (λ (image : Image). part Initrd (k / 2) image.body) (slice_get xs (k / 2))
others_body xs k odd =
    let e : k ≡ suc (twice (k / 2)) = omega (arith, twice_is (k / 2)) in
    let z : 0 + k / 2 ≡ k / 2 = omega arith in
    ap (slice_get (others_parts xs)) e ∙ body_at 0 (k / 2) xs ∙ ap (λ (m : ℕ). option_map (λ (image : Image). part Initrd m image.body) (slice_get xs (k / 2))) z

-- after the last image stands no part
pub others_past : (xs : List Image) (k : ℕ) → length xs ≤ k / 2 → slice_get (others_parts xs) k ≡ None
others_past xs k h =
    let none : slice_get xs (k / 2) ≡ None = slice_get_past xs (k / 2) h in
    elim (cases_lt (k % 2) 1) [
      | inl even ↦ others_name xs k (omega arith) ∙ ap (option_map (λ (image : Image). part InitrdName (k / 2) image.name)) none
      | inr odd ↦ others_body xs k (omega arith) ∙ ap (option_map (λ (image : Image). part Initrd (k / 2) image.body)) none
    ]

-- a part of another image, by the image's place among all
pub other_name : (images : List Image) (kernel k place : ℕ) → kernel < length images → (k / 2 < kernel → place ≡ k / 2) → (kernel ≤ k / 2 → place ≡ k / 2 + 1) → k % 2 ≡ 0 → slice_get (others_parts (remove images kernel)) k ≡ option_map (λ (image : Image). part InitrdName (k / 2) image.name) (slice_get images place)
other_name images kernel k place w before behind even =
    others_name (remove images kernel) k even
    ∙ ap (option_map (λ (image : Image). part InitrdName (k / 2) image.name)) (other_at images kernel (k / 2) place w before behind)

pub other_body : (images : List Image) (kernel k place : ℕ) → kernel < length images → (k / 2 < kernel → place ≡ k / 2) → (kernel ≤ k / 2 → place ≡ k / 2 + 1) → k % 2 ≡ 1 → slice_get (others_parts (remove images kernel)) k ≡ option_map (λ (image : Image). part Initrd (k / 2) image.body) (slice_get images place)
other_body images kernel k place w before behind odd =
    others_body (remove images kernel) k odd
    ∙ ap (option_map (λ (image : Image). part Initrd (k / 2) image.body)) (other_at images kernel (k / 2) place w before behind)

pub pieces_length : (bytes : List ℕ) → length (part_pieces bytes) ≡ piece_count (length bytes)
pieces_length bytes = length-map-range_with_len (piece_at bytes) 0 (piece_count (length bytes))

others_length : (n : ℕ) (xs : List Image) → length (flat_map initrd_parts (enumerate_from n xs)) ≡ 2 * length xs
others_length n [] = refl
others_length n (x ∷ xs) = let rest = others_length (n + 1) xs in omega arith

-- three parts of the image to boot, and two of each other one
pub parts_length : (images : List Image) (kernel : ℕ) → kernel < length images → length (parts kernel images) ≡ 1 + 2 * length images
parts_length images kernel w =
    let there = slice_get-get_or images kernel (image_of [] [] [] []) w in
    let others = others_length 0 (remove images kernel) in
    let gone = length-remove images kernel w in
    rw there (omega arith)
