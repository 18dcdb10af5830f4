-- RFC 3986, section 3.3: the segments of a path
use Rattle.std.specs.Prelude.{◌≡◌, ℕ, ◌+◌, ◌<◌, ◌≤◌, Bool, false, ◌==◌, List, length, slice_index, take, drop, position, Option}
use Rattle.std.specs.Option.{option_map}

abbrev pub is_slash : ℕ → Bool
is_slash byte = byte == 47

-- no slash stands at this place or after it
abbrev pub HasNoSlashFrom : ℕ → List ℕ → Type 0
HasNoSlashFrom from path = (place : ℕ) → from ≤ place → place < length path → is_slash (slice_index path place) ≡ false

-- what stands before the first separator, and what after it
abbrev pub cut_at_first : ℕ → List ℕ → Option (List ℕ × List ℕ)
cut_at_first separator text = option_map (λ place. (take place text, drop (place + 1) text)) (position (λ byte. byte == separator) text)
