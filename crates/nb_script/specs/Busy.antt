-- Own: the places of the lines on which something is to be done.
use Rattle.std.specs.Prelude.{◌≡◌, ℕ, ◌<◌, ◌≤◌, Bool, true, false, not, List, slice_get, All, Contains, Option, Some, None}
use Rattle.nb_defs.specs.ScriptLines.{Line, is_idle_line}

-- whether a line is there that isn't idle
abbrev pub is_busy_at : Option Line → Bool
is_busy_at None = false
is_busy_at (Some line) = not (is_idle_line line)

abbrev pub IsBusyPlace : List Line → ℕ → ℕ → Type 0
IsBusyPlace code count place = (place < count) × (is_busy_at (slice_get code place) ≡ true)

-- the places of all busy lines among the first of a script, so many
pub record HasBusyLines (code : List Line) (count : ℕ) (places : List ℕ) : Type 0 where
  pub each : All (IsBusyPlace code count) places
  pub all : (k : ℕ) → k < count → is_busy_at (slice_get code k) ≡ true → Contains places k

-- the least of these places that is at least `from`
abbrev pub IsFirstFrom : ℕ → List ℕ → Option ℕ → Type 0
IsFirstFrom from places None = All (λ other. other < from) places
IsFirstFrom from places (Some place) = Contains places place × (from ≤ place) × All (λ other. from ≤ other → place ≤ other) places
