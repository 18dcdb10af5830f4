-- Kinds by the first bytes.
use Rattle.std.proofs.Common.{◌≡◌, ◌∙◌, ℕ, ◌<◌, false, List, take, drop, length, refl, ap, arith, lit≤, nat_eq}
use Rattle.std.specs.Prelude.{codes}
use Rattle.std.specs.Cmp.Lexicographic.{pointwise}
use Rattle.std.proofs.lemmas.List.{drop_all, drop-take, take-take}
use Rattle.nb_image.specs.Kinds.{is_bzimage}

-- what ends before byte 514 has no setup header
pub bzimage_short : (bytes : List ℕ) → length bytes < 514 → is_bzimage bytes ≡ false
bzimage_short bytes h = rw (drop_all 514 bytes (omega arith)) refl

-- the setup header stands in the first page
pub bzimage_start : (bytes : List ℕ) → is_bzimage (take 65536 bytes) ≡ is_bzimage bytes
bzimage_start bytes =
    ap (λ header. pointwise nat_eq (codes "HdrS") (take 4 header)) (drop-take 514 65022 bytes)
    ∙ ap (λ word. pointwise nat_eq (codes "HdrS") word) (take-take 4 65022 (drop 514 bytes) (lit≤ tt))
