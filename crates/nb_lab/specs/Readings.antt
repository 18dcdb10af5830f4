-- What is read of a record's type and body. That it is what the record shows is what `Shown::read` promises.
use Rattle.std.specs.Prelude.{◌≡◌, ℕ, ◌+◌, ◌<◌, ◌^◌, ◌==◌, Bool, false, nat_lt, List, [], ◌∷◌, ◌++◌, length, drop, slice_index, Option, None, if◌then◌else◌}
use Rattle.nb_defs.specs.Records.{record_text}
use Rattle.nb_lab.specs.declared.image.Image.{Image}
use Rattle.nb_lab.specs.Shows.{Seen, frame, try, open_for, result, other, image_of_open}

abbrev pub begins_with_zero : List ℕ → Bool
begins_with_zero [] = false
begins_with_zero (byte ∷ bytes) = byte == 0

abbrev pub image_by : List ℕ → Option Image
image_by body = if nat_lt (length body) 13 then None else image_of_open (slice_index body 2) (drop 13 body)

abbrev pub seen_by : ℕ → List ℕ → Seen
seen_by kind body =
    if kind == 0x82 then frame body
    else (if kind == 0x88 then try
    else (if kind == 0x85 then result (begins_with_zero body)
    else (if kind == 0x87 then open_for (image_by body) else other)))

-- a whole record stands first: its length, its type and its body
pub record BeginsWithRecord (bytes : List ℕ) : Type 0 where
  pub kind : ℕ
  pub body : List ℕ
  pub rest : List ℕ
  pub short : length body + 1 < 2 ^ 32
  pub spelled : bytes ≡ record_text kind body ++ rest
