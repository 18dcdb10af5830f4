-- own, after ipxe.org's `imgstat`: a line for each image
use Rattle.std.specs.Prelude.{ℕ, Bool, ◌==◌, false, List, [], ◌++◌, length, map, Option, Some, None, codes, if◌then◌else◌}
use Rattle.std.specs.Fmt.{decimal}
use Rattle.std.specs.List.{enumerate_from}
use Rattle.nb_image.specs.declared.image.Image.{Image}
use Rattle.nb_image.specs.Images.{ImageList}

abbrev pub is_at : Option ℕ → ℕ → Bool
is_at None place = false
is_at (Some selected) place = selected == place

-- what stands after the size
abbrev pub selected_mark : Bool → List ℕ
selected_mark is_selected = if is_selected then codes " [SELECTED]" else []

-- the name, the size, and whether it is selected
abbrev pub line_text : List ℕ → ℕ → Bool → List ℕ
line_text name size is_selected =
    name ++ (codes " : " ++ (decimal size ++ (codes " bytes" ++ (selected_mark is_selected ++ codes "\n"))))

abbrev pub stat_line : Option ℕ → ℕ × Image → List ℕ
stat_line selected numbered = line_text numbered.1.name (length numbered.1.body) (is_at selected numbered.0)

-- the lines, in the order of the images
abbrev pub stat_lines : ImageList → List (List ℕ)
stat_lines list = map (stat_line list.selected) (enumerate_from 0 list.images)
