-- What a window of a stream holds: for each place a byte, or none.
use Rattle.std.specs.Prelude.{◌≡◌, ℕ, zero, suc, ◌+◌, ◌-◌, ◌<◌, ◌≤◌, ◌&&◌, Bool, true, List, [], ◌∷◌, filter, Option, None, unwrap_or, nat_lt, nat_le, slice_get, if◌then◌else◌}
use Rattle.std.specs.Option.{is_none, is_some}
use Rattle.nb_streams.specs.Streams.{byte_at}
use Rattle.nb_reasm.specs.declared.ring.Ring.{Ring}
use Rattle.nb_reasm.specs.Rings.{capacity, held_byte}

-- The window has size places from base on. Those below next are held; what is held at a place is a function.
pub record HeldWindow : Type 0 where
  pub base : ℕ
  pub next : ℕ
  pub size : ℕ
  pub at : ℕ → Option ℕ

abbrev pub window_of : Ring → HeldWindow
window_of r = record { base = r.base; next = r.next; size = capacity r; at = held_byte r }

abbrev pub is_inside : HeldWindow → ℕ → Bool
is_inside w p = nat_le w.base p && nat_lt p (w.base + w.size)

-- the byte that these bytes, from a place on, have for a place of the window
abbrev pub window_byte : HeldWindow → ℕ → List ℕ → ℕ → Option ℕ
window_byte w pos bytes p = if is_inside w p && nat_le pos p then slice_get bytes (p - pos) else None

-- a place of the window at which nothing is held
abbrev pub is_new : HeldWindow → ℕ → Bool
is_new w p = is_inside w p && is_none (w.at p)

-- how many of so many places, from this one on, are of a kind
abbrev pub places_count : (ℕ → Bool) → ℕ → ℕ → ℕ
places_count kind p zero = 0
places_count kind p (suc n) = (if kind p then 1 else 0) + places_count kind (p + 1) n

-- how many of the bytes, from a place on, have such a place
abbrev pub new_count : HeldWindow → ℕ → List ℕ → ℕ
new_count w pos [] = 0
new_count w pos (b ∷ bytes) = (if is_new w pos then 1 else 0) + new_count w (pos + 1) bytes

-- the least place from the base on that isn't held is next
abbrev pub NextIsLeast : HeldWindow → Type 0
NextIsLeast w = (w.base ≤ w.next) × (w.next ≤ w.base + w.size) × (w.at w.next ≡ None) × ((p : ℕ) → w.base ≤ p → p < w.next → is_some (w.at p) ≡ true)

abbrev pub pairs_from : ℕ → List ℕ → List (ℕ × ℕ)
pairs_from pos [] = []
pairs_from pos (b ∷ bytes) = (pos, b) ∷ pairs_from (pos + 1) bytes

-- the bytes that lie in the window, each with its place
abbrev pub window_pairs : HeldWindow → ℕ → List ℕ → List (ℕ × ℕ)
window_pairs w pos bytes = filter (λ q. is_inside w q.0) (pairs_from pos bytes)

-- from the base on, what is held is what a map by the first pair has
abbrev pub HoldsPairs : HeldWindow → List (ℕ × ℕ) → Type 0
HoldsPairs w pairs = (p : ℕ) → w.base ≤ p → w.at p ≡ byte_at p pairs

-- what is held at so many places from one on, with 0 where nothing is
abbrev pub bytes_from : HeldWindow → ℕ → ℕ → List ℕ
bytes_from w p zero = []
bytes_from w p (suc n) = unwrap_or (w.at p) 0 ∷ bytes_from w (p + 1) n
