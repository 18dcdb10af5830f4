-- Own: bytes in pages of 65,536 bytes, of which the last may have fewer.
use Rattle.std.specs.Prelude.{◌≡◌, ◌≤◌, ℕ, List, ◌++◌, length, All}
use Rattle.std.specs.List.{concat}
use Rattle.nb_image.specs.declared.pages.Pages.{Pages}

-- the bytes of all pages, in order
abbrev pub all_bytes : Pages → List ℕ
all_bytes p = concat p.full.items ++ p.last.items

abbrev pub IsFullPage : List ℕ → Type 0
IsFullPage page = length page ≡ 65536

-- all pages but the last are full, and there are at most 4,096: at most 268,435,456 bytes
pub record IsPaged (p : Pages) : Type 0 where
  pub full : All IsFullPage p.full.items
  pub last : length p.last.items ≤ 65536
  pub few : length p.full.items ≤ 4095
