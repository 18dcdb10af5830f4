-- The kind of an image, by its content.
use Rattle.std.specs.Prelude.{ℕ, Bool, List, [], ◌∷◌, drop, nat_eq, codes, if◌then◌else◌}
use Rattle.std.specs.List.{starts_with}
use Rattle.nb_defs.specs.ScriptText.{begins_script, pieces, is_line_feed}
use Rattle.nb_image.specs.declared.kind.ImageKind.{ImageKind}
use Rattle.nb_image.specs.declared.kind.ImageKind.TheVariants.{Script, BzImage, Elf, Efi, Other}

-- the first line is `#!ipxe`, with blanks and at most one carriage return after it
abbrev pub is_script : List ℕ → Bool
is_script bytes = begins_script (pieces is_line_feed bytes)

-- the setup header of a Linux kernel for x86: `HdrS` at byte 514
abbrev pub is_bzimage : List ℕ → Bool
is_bzimage bytes = starts_with nat_eq (drop 514 bytes) (codes "HdrS")

-- the magic number of ELF: 7f and `ELF`
abbrev pub is_elf : List ℕ → Bool
is_elf bytes = starts_with nat_eq bytes (127 ∷ 69 ∷ 76 ∷ 70 ∷ [])

-- the magic number of a DOS header, with which an EFI program begins: `MZ`
abbrev pub is_efi : List ℕ → Bool
is_efi bytes = starts_with nat_eq bytes (codes "MZ")

-- the first kind that fits
abbrev pub kind_of : List ℕ → ImageKind
kind_of bytes = if is_script bytes then Script else if is_bzimage bytes then BzImage else if is_elf bytes then Elf else if is_efi bytes then Efi else Other
