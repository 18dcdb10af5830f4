-- own: the images that the servers have
use Rattle.std.specs.Prelude.{ℕ, ◌+◌, ◌-◌, ◌*◌, ◌%◌, List, map, take, drop}
use Rattle.std.specs.List.{range_with_len}

-- how many bytes image i has, and its byte j
abbrev pub image_len : ℕ → ℕ
image_len i = 1000 + 977 * i

abbrev pub image_byte : ℕ → ℕ → ℕ
image_byte i j = (31 * i + 7 * j) % 256

-- so many of its bytes, from a place on
unfoldable pub image_piece : ℕ → ℕ → ℕ → List ℕ
image_piece i from count = map (λ k. image_byte i (from + k)) (range_with_len 0 count)

-- all of them
abbrev pub image_bytes : ℕ → List ℕ
image_bytes i = image_piece i 0 (image_len i)

-- RFC 1350: its block of a number from 1, where blocks have this size
unfoldable pub image_block : ℕ → ℕ → ℕ → List ℕ
image_block i size n = take size (drop ((n - 1) * size) (image_bytes i))
