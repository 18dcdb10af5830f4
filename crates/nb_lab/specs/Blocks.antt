-- RFC 1350, section 2: a law of the blocks of an image. Joined they are the image, and only the last isn't full.
use Rattle.std.specs.Prelude.{◌≡◌, ◌↔◌, ℕ, ◌+◌, ◌/◌, ◌<◌, ◌≤◌, true, length}
use Rattle.std.specs.List.{flat_map, range_with_len}
use Rattle.nb_lab.specs.declared.transfer.Last.TheVariants as last
use Rattle.nb_lab.specs.Images.{image_len, image_bytes, image_block}
use Rattle.nb_lab.specs.Files.{ends_in}

-- how many blocks of a size an image has, so the number of the last, which may be empty
abbrev pub block_count : ℕ → ℕ → ℕ
block_count i size = image_len i / size + 1

-- its blocks, joined in order, are all its bytes
abbrev pub BlocksJoin : Type 0
BlocksJoin = (i size : ℕ) → 0 < size → flat_map (image_block i size) (range_with_len 1 (block_count i size)) ≡ image_bytes i

-- of its blocks the last alone has fewer bytes than their size
abbrev pub LastIsShort : Type 0
LastIsShort = (i size n : ℕ) → 0 < size → 0 < n → n ≤ block_count i size
    → (length (image_block i size n) < size) ↔ (n ≡ block_count i size)

-- and in the last alone it ends
abbrev pub EndsInLast : Type 0
EndsInLast = (i size n : ℕ) → 0 < size → n ≤ block_count i size → (ends_in (image_len i) size (last.Block n) ≡ true) ↔ (n ≡ block_count i size)
