-- The parts of a hand-off, as a function of the list and the place of the image to boot.
use Rattle.std.specs.Prelude.{ℕ, ◌+◌, ◌*◌, ◌/◌, ◌==◌, List, [], ◌∷◌, ◌++◌, length, take, drop, map, Option, Some, None, slice_get, if◌then◌else◌}
use Rattle.std.specs.List.{remove, flat_map, enumerate_from, range_with_len}
use Rattle.std.specs.Option.{option_to_list}
use Rattle.nb_image.specs.declared.image.Image.{Image}
use Rattle.nb_image.specs.declared.part.PartKind.{PartKind}
use Rattle.nb_image.specs.declared.part.PartKind.TheVariants.{Kernel, Initrd, CommandLine, Table, Sector, KernelName, InitrdName}
use Rattle.nb_image.specs.declared.part.PartBytes.{PartBytes}
use Rattle.nb_image.specs.declared.part.PartBytes.TheVariants.{Text, Pages}
use Rattle.nb_image.specs.declared.part.Part.{Part}
use Rattle.nb_image.specs.declared.part.Piece.{Piece}

-- the numbers by which records name the kinds
abbrev pub part_number : PartKind → ℕ
part_number Kernel = 0
part_number Initrd = 1
part_number CommandLine = 2
part_number Table = 3
part_number Sector = 4
part_number KernelName = 5
part_number InitrdName = 6

-- a part: its kind, which of the other images it is of, and its bytes
pub record PartText : Type 0 where
  pub kind : PartKind
  pub index : ℕ
  pub bytes : List ℕ

-- a piece of a part: where it begins, and its bytes
pub record PieceText : Type 0 where
  pub offset : ℕ
  pub bytes : List ℕ

abbrev pub part : PartKind → ℕ → List ℕ → PartText
part kind index bytes = record { kind = kind; index = index; bytes = bytes }

-- the bytes of a part, whether they are a text or stand in pages
abbrev pub bytes_of : PartBytes → List ℕ
bytes_of (Text text) = text.now
bytes_of (Pages body) = body.now

abbrev pub part_text : Part → PartText
part_text p = part p.kind p.index (bytes_of p.bytes)

abbrev pub piece_text : Piece → PieceText
piece_text p = record { offset = p.offset; bytes = p.bytes.now }

-- the image to boot: its name, its bytes, and its arguments as the command line
abbrev pub kernel_parts : Image → List PartText
kernel_parts image = part KernelName 0 image.name ∷ part Kernel 0 image.body ∷ part CommandLine 0 image.args ∷ []

-- another image: its name and its bytes
abbrev pub initrd_parts : ℕ × Image → List PartText
initrd_parts numbered = part InitrdName numbered.0 numbered.1.name ∷ part Initrd numbered.0 numbered.1.body ∷ []

-- the other images in list order, each with its number
abbrev pub others_parts : List Image → List PartText
others_parts others = flat_map initrd_parts (enumerate_from 0 others)

-- the image at this place, and then all others
abbrev pub parts : ℕ → List Image → List PartText
parts kernel images = flat_map kernel_parts (option_to_list (slice_get images kernel)) ++ others_parts (remove images kernel)

-- the boot table, where there is one
abbrev pub table_parts : Option (List ℕ) → List PartText
table_parts None = []
table_parts (Some bytes) = part Table 0 bytes ∷ []

-- the first block of a drive
abbrev pub sector_part : List ℕ → PartText
sector_part bytes = part Sector 0 bytes

-- how many pieces so many bytes have: of 65,536 bytes each, the last shorter, and one of none
abbrev pub piece_count : ℕ → ℕ
piece_count len = if len == 0 then 1 else (len + 65535) / 65536

abbrev pub piece_at : List ℕ → ℕ → PieceText
piece_at bytes p = record { offset = 65536 * p; bytes = take 65536 (drop (65536 * p) bytes) }

-- the pieces of a part, by their places
abbrev pub part_pieces : List ℕ → List PieceText
part_pieces bytes = map (piece_at bytes) (range_with_len 0 (piece_count (length bytes)))
