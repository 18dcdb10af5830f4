-- What is counted of a run while its records pass
use Rattle.std.specs.Prelude.{◌≡◌, ℕ, ◌+◌, ◌++◌, Bool, true, false, List, [], ◌∷◌, length, map, count_by, sum_by, Option, Some, None, codes}
use Rattle.nb_defs.specs.Records.{In, Out}
use Rattle.nb_lab.specs.declared.image.Image.{Image}
use Rattle.nb_lab.specs.Images.{image_len}
use Rattle.nb_lab.specs.Shows.{Seen, frame, try, open_for, result, other, seen}
use Rattle.nb_lab.specs.Summaries.{is_frame, is_try, fetched_images, capped_count, summary_line, size_of_image}

-- the counts, and the image that the last open is for, until a command's result
pub record Tally : Type 0 where
  pub images : ℕ
  pub bytes : ℕ
  pub records : ℕ
  pub frames : ℕ
  pub tries : ℕ
  pub asked : Option Image

abbrev pub no_tally : ℕ → Tally
no_tally images = record { images = images; bytes = 0; records = 0; frames = 0; tries = 0; asked = None }

-- with the image of a fetch
abbrev pub with_fetched_image : Tally → Bool → Option Image → Tally
with_fetched_image t true (Some image) = record t { bytes = capped_count (t.bytes + image_len image.0); asked = None }
with_fetched_image t true None = record t { asked = None }
with_fetched_image t false image = record t { asked = None }

-- with one record more
abbrev pub with_seen : Tally → Seen → Tally
with_seen t (frame bytes) = record t { frames = capped_count (t.frames + 1) }
with_seen t try = record t { tries = capped_count (t.tries + 1) }
with_seen t (open_for image) = record t { asked = image }
with_seen t (result ok) = with_fetched_image t ok t.asked
with_seen t other = t

-- the image that the last open is for, where no command has had its result since
abbrev pub asked_after : Option Image → List Seen → Option Image
asked_after before [] = before
asked_after before (frame bytes ∷ after) = asked_after before after
asked_after before (try ∷ after) = asked_after before after
asked_after before (open_for image ∷ after) = asked_after image after
asked_after before (result ok ∷ after) = asked_after None after
asked_after before (other ∷ after) = asked_after before after

-- these records of the input were used, and these of the output were put
pub record Counts (t : Tally) (ins : List In) (outs : List Out) : Type 0 where
  pub bytes : t.bytes ≡ capped_count (sum_by size_of_image (fetched_images (map seen outs)))
  pub records : t.records ≡ capped_count (length ins)
  pub frames : t.frames ≡ capped_count (count_by is_frame (map seen outs))
  pub tries : t.tries ≡ capped_count (count_by is_try (map seen outs))
  pub asked : t.asked ≡ asked_after None (map seen outs)

-- the text of the counts
abbrev pub tally_text : Tally → ℕ → List ℕ
tally_text t status =
    summary_line (codes "images ") t.images
    ++ summary_line (codes "bytes ") t.bytes
    ++ summary_line (codes "records ") t.records
    ++ summary_line (codes "frames ") t.frames
    ++ summary_line (codes "tries ") t.tries
    ++ summary_line (codes "status ") status
