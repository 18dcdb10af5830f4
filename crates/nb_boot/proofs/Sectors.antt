-- Each PART of a drive's first block is of the hand-off of a disk: the hand-off of images has none.
use Rattle.std.specs.List.{AllByRecursion, flat_map, enumerate_from, remove}
use Rattle.std.specs.Option.{option_to_list}
use Rattle.std.proofs.Common.{◌≡◌, inl, inr, ℕ, ◌+◌, List, [], ◌∷◌, ◌++◌, map, Option, Some, None, slice_get, refl, sym, subst}
use Rattle.nb_defs.specs.Causes.{ok}
use Rattle.nb_defs.specs.Parts.{HaveNoParts, IsNoPart}
use Rattle.nb_defs.specs.Records.{Out, step, sent, text, command, result, script, opened, tried, advanced, ended, graph, part, done}
use Rattle.nb_image.specs.declared.image.Image.{Image}
use Rattle.nb_image.specs.Parts.{PartText, PieceText, part_number, part_pieces, kernel_parts, initrd_parts, others_parts, parts, table_parts}
use Rattle.nb_machine.specs.Conclusions.{piece_record, part_records, handoff_records}
use Rattle.nb_laws.specs.Events.{Event, puts}
use Rattle.nb_laws.specs.HandOff.{boot_table_so_far}
use Rattle.nb_laws.specs.Lawful.{HandsAsBrought}
use Rattle.nb_boot.specs.Booting.{SectorsAreBooted}

-- no PART of a drive's first block
abbrev IsNoSector : Out → Type 0
IsNoSector (part number index offset bytes) = number ≡ 4 → ⊥
IsNoSector (step number) = Unit {0}
IsNoSector (sent bytes) = Unit {0}
IsNoSector (text bytes) = Unit {0}
IsNoSector (command depth line place expanded words) = Unit {0}
IsNoSector (result cause) = Unit {0}
IsNoSector (script what depth cause) = Unit {0}
IsNoSector (opened number kind server port own target) = Unit {0}
IsNoSector (tried number count) = Unit {0}
IsNoSector (advanced number place) = Unit {0}
IsNoSector (ended number cause) = Unit {0}
IsNoSector (graph happens) = Unit {0}
IsNoSector (done status) = Unit {0}

abbrev HaveNoSectors : List Out → Type 0
HaveNoSectors outs = AllByRecursion IsNoSector outs

-- one there is none
sector_among : (front behind : List Out) (index offset : ℕ) (bytes : List ℕ) → HaveNoSectors (front ++ part 4 index offset bytes ∷ behind) → ⊥
sector_among [] behind index offset bytes h = h.0 refl
sector_among (o ∷ front) behind index offset bytes h = sector_among front behind index offset bytes h.1

more_without : (xs ys : List Out) → HaveNoSectors xs → HaveNoSectors ys → HaveNoSectors (xs ++ ys)
more_without [] ys h k = k
more_without (x ∷ xs) ys h k = (h.0, more_without xs ys h.1 k)

first_without : (xs ys : List Out) → HaveNoSectors (xs ++ ys) → HaveNoSectors xs
first_without [] ys h = tt
first_without (x ∷ xs) ys h = (h.0, first_without xs ys h.1)

-- where there is no PART at all
one_without : (o : Out) → IsNoPart o → IsNoSector o
one_without (part number index offset bytes) h = absurd h
one_without (step number) h = tt
one_without _ h = tt

none_without : (outs : List Out) → HaveNoParts outs → HaveNoSectors outs
none_without [] h = tt
none_without (o ∷ outs) h = (one_without o h.0, none_without outs h.1)

-- THE PARTS OF IMAGES

abbrev IsOfImages : PartText → Type 0
IsOfImages p = part_number p.kind ≡ 4 → ⊥

pieces_without : (p : PartText) (ts : List PieceText) → IsOfImages p → HaveNoSectors (map (piece_record p) ts)
pieces_without p [] h = tt
pieces_without p (t ∷ ts) h = (h, pieces_without p ts h)

parts_without : (ps : List PartText) → AllByRecursion IsOfImages ps → HaveNoSectors (flat_map part_records ps)
parts_without [] h = tt
parts_without (p ∷ ps) h = more_without (part_records p) (flat_map part_records ps) (pieces_without p (part_pieces p.bytes) h.0) (parts_without ps h.1)

more_parts : (ps qs : List PartText) → AllByRecursion IsOfImages ps → AllByRecursion IsOfImages qs → AllByRecursion IsOfImages (ps ++ qs)
more_parts [] qs h k = k
more_parts (p ∷ ps) qs h k = (h.0, more_parts ps qs h.1 k)

kernel_of : (found : Option Image) → AllByRecursion IsOfImages (flat_map kernel_parts (option_to_list found))
kernel_of None = tt
kernel_of (Some image) = (λ e. cc e, (λ e. cc e, (λ e. cc e, tt)))

others_of : (n : ℕ) (images : List Image) → AllByRecursion IsOfImages (flat_map initrd_parts (enumerate_from n images))
others_of n [] = tt
others_of n (image ∷ images) = (λ e. cc e, (λ e. cc e, others_of (n + 1) images))

table_of : (table : Option (List ℕ)) → AllByRecursion IsOfImages (table_parts table)
table_of None = tt
table_of (Some bytes) = (λ e. cc e, tt)

images_without : (kernel : ℕ) (images : List Image) (table : Option (List ℕ)) → HaveNoSectors (handoff_records kernel images table)
images_without kernel images table =
    parts_without (parts kernel images ++ table_parts table)
    (more_parts (parts kernel images) (table_parts table)
    (more_parts (flat_map kernel_parts (option_to_list (slice_get images kernel))) (others_parts (remove images kernel)) (kernel_of (slice_get images kernel)) (others_of 0 (remove images kernel))) (table_of table))

-- so each one is of a disk's hand-off
pub sectors_are_booted : (es : List Event) (outs : List Out) → HandsAsBrought es outs → SectorsAreBooted es outs
sectors_are_booted es outs (inl none) front behind index offset bytes at = absurd (sector_among front behind index offset bytes (subst HaveNoSectors at (none_without outs none)))
sectors_are_booted es outs (inr (inl (rest, hands))) front behind index offset bytes at =
    let b = hands.booted in
    let table = boot_table_so_far (b.before ++ puts (result ok) ∷ []) in
    let all : HaveNoSectors (outs ++ rest) =
    subst HaveNoSectors (sym hands.ends) (more_without hands.before (handoff_records b.kernel b.list.images table) (none_without hands.before hands.none) (images_without b.kernel b.list.images table)) in
    absurd (sector_among front behind index offset bytes (subst HaveNoSectors at (first_without outs rest all)))
sectors_are_booted es outs (inr (inr disk)) front behind index offset bytes at = disk
