-- How far a hand-off is, and what putting a piece does to it.
use Rattle.std.specs.Prelude.{◌≡◌, ◌<◌, ◌≤◌, ℕ, ◌+◌, Bool, true, false, List, [], ◌∷◌, ◌++◌, length, drop, Option, Some, None, slice_get, IfSome}
use Rattle.std.specs.List.{flat_map, AllByRecursion}
use Rattle.nb_defs.specs.Records.{Out, out_texts, part}
use Rattle.nb_record.specs.Logged.{Logged, Puts}
use Rattle.nb_image.specs.declared.image.Image.{Image}
use Rattle.nb_image.specs.Images.{ImageList}
use Rattle.nb_image.specs.Parts.{PartText, parts, table_parts, sector_part}
use Rattle.nb_runner.specs.declared.handing.Booted.{Booted}
use Rattle.nb_runner.specs.declared.handing.Booted.TheVariants as booted
use Rattle.nb_runner.specs.declared.handing.Handing.{Handing}
use Rattle.nb_runner.specs.declared.piece_record.PieceRecord.{PieceRecord}
use Rattle.nb_machine.specs.Conclusions.{part_records}

-- an image's texts are short, and its body is an image's
pub record IsShortImage (image : Image) : Type 0 where
  pub name : length image.name ≤ 268435456
  pub body : length image.body ≤ 268435456
  pub args : length image.args ≤ 268435456

abbrev pub AreShortImages : List Image → Type 0
AreShortImages images = AllByRecursion IsShortImage images

-- what is booted: an image of the list, or a disk, whose block is short
abbrev pub FitsBooted : List Image → Booted → Type 0
FitsBooted images (booted.Image kernel) = kernel < length images
FitsBooted images (booted.Disk block) = length block ≤ 268435456

-- its parts: those of the images, or the disk's first block
abbrev pub booted_parts : List Image → Booted → List PartText
booted_parts images (booted.Image kernel) = parts kernel images
booted_parts images (booted.Disk block) = sector_part block ∷ []

-- the parts: those of what is booted, and last the boot table, where there is one
abbrev pub parts_handed : List Image → Handing → List PartText
parts_handed images h = booted_parts images h.booted ++ table_parts h.table

-- the records of the pieces that are still to come
abbrev pub records_left : List Image → Handing → List Out
records_left images h = drop h.piece (flat_map part_records (drop h.part (parts_handed images h)))

-- after a piece: at the next piece of its part, or at the first of the next part
abbrev pub moved_on : Bool → Handing → Handing
moved_on true h = record { booted = h.booted; table = h.table; part = h.part + 1; piece = 0 }
moved_on false h = record { booted = h.booted; table = h.table; part = h.part; piece = h.piece + 1 }

-- a boot table is short
abbrev pub IsShortTable : Option (List ℕ) → Type 0
IsShortTable table = IfSome table (λ bytes. length bytes ≤ 268435456)

-- a hand-off stands at a piece of one of its parts, or after them all
pub record IsAtPiece (list : ImageList) (h : Handing) : Type 0 where
  pub booted : FitsBooted list.images h.booted
  pub part : h.part ≤ length (parts_handed list.images h)
  pub piece : IfSome (slice_get (parts_handed list.images h) h.part) (λ p. h.piece < length (part_records p))
  pub behind : slice_get (parts_handed list.images h) h.part ≡ None → h.piece ≡ 0
  pub short : AreShortImages list.images
  pub table : IsShortTable h.table

-- a piece's record
abbrev pub record_of : PieceRecord → Out
record_of p = part p.kind p.index p.offset p.bytes.now

-- this piece's record, which is short, is the first of those still to come
pub record IsNextPiece (images : List Image) (h : Handing) (p : PieceRecord) : Type 0 where
  pub rest : List Out
  pub left : records_left images h ≡ record_of p ∷ rest
  pub short : length p.bytes.now ≤ 65536

-- so it is, or none is still to come
abbrev pub ComesNext : Option PieceRecord → List Image → Handing → Type 0
ComesNext None images h = records_left images h ≡ []
ComesNext (Some p) images h = IsNextPiece images h p

-- the next record, which there is, is passed
pub record PassesNext (list : ImageList) (old new : Handing) : Type 0 where
  pub at : IsAtPiece list new
  pub next : Out
  pub left : records_left list.images old ≡ next ∷ records_left list.images new

-- the next record was put, or there is none
pub record PutsNext (images : List Image) (old new : Handing) (before after : Logged) : Type 0 where
  pub next : Out
  pub left : records_left images old ≡ next ∷ records_left images new
  pub puts : Puts before after (out_texts (next ∷ []))

abbrev pub HandsOn : Bool → ImageList → Handing → Handing → Logged → Logged → Type 0
HandsOn true list old new before after = IsAtPiece list new × PutsNext list.images old new before after
HandsOn false list old new before after = (records_left list.images old ≡ []) × (new ≡ old) × (after ≡ before)
