-- Own: the places of labels, kept by their names.
use Rattle.std.specs.Prelude.{◌≡◌, ◌<◌, ℕ, Bool, true, false, List, slice_get, Option, Some, None}
use Rattle.std.specs.BTreeMap.{get_by}
use Rattle.std.specs.Cmp.Lexicographic.{slice_cmp}
use Rattle.std.specs.Ordering.{nat_cmp}
use Rattle.nb_defs.specs.ScriptLines.{Line, label_place}
use Rattle.nb_script.specs.declared.labels.Labels.{Labels}
use Rattle.nb_script.specs.ShownLine.{is_label_at}

-- the place that is kept under a name
abbrev pub place_under : Labels → List ℕ → Option ℕ
place_under labels name = get_by (λ key. slice_cmp nat_cmp name key.items) labels.places

abbrev pub place_if : Bool → ℕ → Option ℕ
place_if true place = Some place
place_if false place = None

-- under each name the first line's place that is its label
abbrev pub FindsLabels : Labels → List Line → Type 0
FindsLabels labels code = (name : List ℕ) → place_under labels name ≡ label_place name code

abbrev pub NoneIsLabel : List ℕ → List Line → ℕ → Type 0
NoneIsLabel name code n = (k : ℕ) → k < n → is_label_at name (slice_get code k) ≡ false

-- the place of the first of these many lines that is this label
abbrev pub IsFirstBefore : List ℕ → List Line → ℕ → Option ℕ → Type 0
IsFirstBefore name code n None = NoneIsLabel name code n
IsFirstBefore name code n (Some place) = (place < n) × (is_label_at name (slice_get code place) ≡ true) × NoneIsLabel name code place
