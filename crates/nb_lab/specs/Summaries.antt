-- Own: the summary of a run over so many images, by its input and its output
use Rattle.std.specs.Prelude.{ℕ, ◌+◌, ◌-◌, ◌^◌, min, Bool, true, false, List, [], ◌∷◌, ◌++◌, length, map, count_by, sum_by, Option, option_to_list, codes, if◌then◌else◌}
use Rattle.std.specs.Fmt.{decimal}
use Rattle.nb_defs.specs.Records.{In, Out}
use Rattle.nb_lab.specs.declared.image.Image.{Image}
use Rattle.nb_lab.specs.Images.{image_len}
use Rattle.nb_lab.specs.Shows.{Seen, frame, try, open_for, result, other, seen}

abbrev pub is_frame : Seen → Bool
is_frame (frame bytes) = true
is_frame try = false
is_frame (open_for image) = false
is_frame (result ok) = false
is_frame other = false

abbrev pub is_try : Seen → Bool
is_try (frame bytes) = false
is_try try = true
is_try (open_for image) = false
is_try (result ok) = false
is_try other = false

-- whether the next command's result is Ok, and no open begins before it
abbrev pub ends_well : List Seen → Bool
ends_well [] = false
ends_well (frame bytes ∷ after) = ends_well after
ends_well (try ∷ after) = ends_well after
ends_well (open_for image ∷ after) = false
ends_well (result ok ∷ after) = ok
ends_well (other ∷ after) = ends_well after

abbrev pub image_if : Bool → Option Image → List Image
image_if ok image = if ok then option_to_list image else []

-- the images of the fetches that end in Ok: those for which an open begins that is the last before such a result
abbrev pub fetched_images : List Seen → List Image
fetched_images [] = []
fetched_images (frame bytes ∷ after) = fetched_images after
fetched_images (try ∷ after) = fetched_images after
fetched_images (open_for image ∷ after) = image_if (ends_well after) image ++ fetched_images after
fetched_images (result ok ∷ after) = fetched_images after
fetched_images (other ∷ after) = fetched_images after

-- a count of 64 bits stands still at its end
abbrev pub capped_count : ℕ → ℕ
capped_count n = min n (2 ^ 64 - 1)

abbrev pub summary_line : List ℕ → ℕ → List ℕ
summary_line name number = name ++ decimal number ++ codes "\n"

abbrev pub size_of_image : Image → ℕ
size_of_image image = image_len image.0

-- the six lines
unfoldable pub summary : ℕ → List In → List Out → ℕ → List ℕ
summary images ins outs status =
    summary_line (codes "images ") images
    ++ summary_line (codes "bytes ") (capped_count (sum_by size_of_image (fetched_images (map seen outs))))
    ++ summary_line (codes "records ") (capped_count (length ins))
    ++ summary_line (codes "frames ") (capped_count (count_by is_frame (map seen outs)))
    ++ summary_line (codes "tries ") (capped_count (count_by is_try (map seen outs)))
    ++ summary_line (codes "status ") status
