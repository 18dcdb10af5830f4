-- What comes of a command on images, at once or when its file has come, and the records of a hand-off.
use Rattle.std.specs.Prelude.{ℕ, Bool, true, false, List, [], ◌∷◌, ◌++◌, map, Option, unwrap_or, Ok, Err, if◌then◌else◌}
use Rattle.std.specs.List.{flat_map}
use Rattle.nb_terms.specs.declared.cause.Cause.{Cause}
use Rattle.nb_defs.specs.Causes.{ok, is_ok_cause}
use Rattle.nb_defs.specs.Records.{Out, text, result, part}
use Rattle.nb_image.specs.declared.image.Image.{Image}
use Rattle.nb_image.specs.Images.{ImageList}
use Rattle.nb_image.specs.Parts.{PartText, PieceText, part_number, parts, table_parts, sector_part, part_pieces}
use Rattle.nb_imagecmd.specs.declared.arriving.Arrival.{Arrival}
use Rattle.nb_imagecmd.specs.declared.arriving.Arrival.TheVariants as arrival
use Rattle.nb_imagecmd.specs.declared.asking.Asking.{Asking}
use Rattle.nb_imagecmd.specs.declared.outcome.ScriptImage.{ScriptImage}
use Rattle.nb_imagecmd.specs.Arriving.{ArrivalAnswer, arrived}
use Rattle.nb_imagecmd.specs.Asking.{target_uri}
use Rattle.nb_imagecmd.specs.Failures.{image_cause}

-- A command on images: it goes on with this list of images, printing these lines or not; it fails; the image at this place of
-- the list is handed off; or a script that was in the list runs, or takes the place of the one that runs.
pub data Conclusion : Type 0 where
  keeps : ImageList → Conclusion
  tells : ImageList → (lines : List (List ℕ)) → Conclusion
  fails : Cause → Conclusion
  boots : ImageList → (kernel : ℕ) → Conclusion
  runs_script : ImageList → ScriptImage → (replace : Bool) → Conclusion

-- the selected image is booted
abbrev pub boots_selected : ImageList → Conclusion
boots_selected list = boots list (unwrap_or list.selected 0)

-- what a file comes to that has come
abbrev pub arrival_conclusion : Arrival → ImageList → Conclusion
arrival_conclusion arrival.Kept list = keeps list
arrival_conclusion (arrival.Run script replace) list = runs_script list script replace
arrival_conclusion arrival.Boot list = boots_selected list

-- and where its command may fail
abbrev pub file_conclusion : ArrivalAnswer → Conclusion
file_conclusion (Ok answer) = arrival_conclusion answer.0 answer.1
file_conclusion (Err why) = fails (image_cause why)

-- An open has ended with a cause, which fetched these bytes for a command of a script of this depth: unless it failed, the
-- file that was asked for has come.
abbrev pub conclusion : Cause → Asking → List ℕ → ℕ → ImageList → Conclusion
conclusion cause asking body depth list =
    if is_ok_cause cause then file_conclusion (arrived asking body (target_uri asking.target) depth list) else fails cause

-- the records up to the result of the command; one that runs a script has its result when that is left, but where it takes
-- the place of the script that runs
abbrev pub conclusion_records : Conclusion → List Out
conclusion_records (keeps list) = result ok ∷ []
conclusion_records (tells list lines) = map text lines ++ (result ok ∷ [])
conclusion_records (fails cause) = result cause ∷ []
conclusion_records (boots list kernel) = result ok ∷ []
conclusion_records (runs_script list script true) = result ok ∷ []
conclusion_records (runs_script list script false) = []

-- a piece of a part of the hand-off
abbrev pub piece_record : PartText → PieceText → Out
piece_record p piece = part (part_number p.kind) p.index piece.offset piece.bytes

abbrev pub part_records : PartText → List Out
part_records p = map (piece_record p) (part_pieces p.bytes)

-- the records of a hand-off: each part in its pieces, and last the boot table, where there is one
abbrev pub handoff_records : ℕ → List Image → Option (List ℕ) → List Out
handoff_records kernel images table = flat_map part_records (parts kernel images ++ table_parts table)

-- of a disk's first block, likewise
abbrev pub disk_records : (block : List ℕ) → Option (List ℕ) → List Out
disk_records block table = flat_map part_records (sector_part block ∷ table_parts table)
