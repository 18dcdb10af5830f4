-- Pieces and blocks of images.
use Rattle.std.proofs.Common.{◌≡◌, ℕ, ◌+◌, ◌-◌, ◌*◌, ◌<◌, ◌≤◌, min, length, get_or, take, drop, zero-add, ap, ◌∙◌, arith}
use Rattle.std.proofs.lemmas.List.{length-take, length-drop, get_or-take, get_or-drop}
use Rattle.std.proofs.lemmas.List.FromFn.{fill_by_all, length-map-range_with_len, get_or-map-range_with_len}
use Rattle.nb_lab.specs.Images.{image_len, image_byte, image_bytes, image_piece, image_block}

pub length-image_piece : (i from count : ℕ) → length (image_piece i from count) ≡ count
unfolding image_piece
length-image_piece i from count = length-map-range_with_len (λ k. image_byte i (from + k)) 0 count

pub get_or-image_piece : (i from count k : ℕ) → k < count → get_or (image_piece i from count) k 0 ≡ image_byte i (from + k)
unfolding image_piece
get_or-image_piece i from count k within =
    get_or-map-range_with_len (λ m. image_byte i (from + m)) 0 count k k 0 within (omega arith)

-- what is cut out of an image is a piece of it
pub image_cut : (i count from : ℕ) → take count (drop from (image_bytes i)) ≡ image_piece i from (min count (image_len i - from))
unfolding image_piece
image_cut i count from =
    let all = image_bytes i in
    let rest = drop from all in
    let len : length (take count rest) ≡ min count (image_len i - from) =
    omega (arith, length-take count rest, length-drop from all, length-image_piece i 0 (image_len i)) in
    fill_by_all (λ k. image_byte i (from + k)) (take count rest) (min count (image_len i - from)) 0 len
    (λ k within. get_or-take count rest k 0 (omega arith) ∙ get_or-drop from all k 0 ∙ get_or-image_piece i 0 (image_len i) (from + k) (omega arith) ∙ ap (image_byte i) (zero-add (from + k)))

-- a piece that ends in the image begins at the image's end at the latest
piece_from : (i place from count len : ℕ) → from ≡ min place len → count ≤ len - from → image_piece i place count ≡ image_piece i from count
unfolding image_piece
piece_from i place from count len from_is fits =
    fill_by_all (λ k. image_byte i (from + k)) (image_piece i place count) count 0 (length-image_piece i place count)
    (λ k within.
    let same : place + k ≡ from + k = omega arith in
    get_or-image_piece i place count k within ∙ ap (image_byte i) same)

-- the bytes of a block
pub block_piece : (i size n from count : ℕ) → from ≡ min ((n - 1) * size) (image_len i) → count ≡ min size (image_len i - from) → image_block i size n ≡ image_piece i from count
unfolding image_block
block_piece i size n from count from_is count_is =
    let place = (n - 1) * size in
    let same : min size (image_len i - place) ≡ count = omega arith in
    image_cut i size place ∙ ap (image_piece i place) same ∙ piece_from i place from count (image_len i) from_is (omega arith)

pub length-image_block : (i size n : ℕ) → length (image_block i size n) ≤ size
unfolding image_block
length-image_block i size n =
    omega (arith, length-take size (drop ((n - 1) * size) (image_bytes i)))
