-- RFC 9112, section 3: what a request asks for
use Rattle.std.specs.Prelude.{◌≡◌, ◌<◌, ◌≤◌, ℕ, ◌==◌, List, [], ◌∷◌, length, Option, Some, None, nat_lt, codes, if◌then◌else◌}
use Rattle.std.specs.Option.{option_map_or}
use Rattle.std.specs.Str.{bytes_eq}
use Rattle.httparse.specs.Grammar.{RequestHead, ReadsRequest, HasNoRequest, MayBecomeRequest}
use Rattle.httparse.specs.Spans.{RequestOverflows}
use Rattle.nb_numerals.specs.Addresses.{decimal_byte}
use Rattle.nb_lab.specs.declared.image.Image.{Image}
use Rattle.nb_lab.specs.declared.page.Page.{Page}
use Rattle.nb_lab.specs.declared.page.Page.TheVariants.{Found, NotFound, BadRequest}

-- of so many images, the one whose number a text writes
abbrev pub image_below : ℕ → Option ℕ → Option Image
image_below images None = None
image_below images (Some i) = if nat_lt i images then Some (record { 0 = i }) else None

abbrev pub image_in : ℕ → List ℕ → Option Image
image_in images text = image_below images (decimal_byte text)

-- of a path its number, after a slash
abbrev pub image_at : ℕ → List ℕ → Option Image
image_at images [] = None
image_at images (b ∷ text) = if b == 47 then image_in images text else None

abbrev pub page_of : ℕ → List ℕ → List ℕ → Page
page_of images method path =
    if bytes_eq method (codes "GET") then option_map_or Found (image_at images path) NotFound else BadRequest

-- A request, whole, of at most 16 fields, is answered by its method and its path, and one of more by BadRequest. None answers
-- one that isn't whole and can be yet, and another answer is that no such request can come.
pub record IsPageFor (images : ℕ) (bytes : List ℕ) (page : Option Page) : Type 0 where
  pub whole : (head : RequestHead) (rest : List ℕ) → ReadsRequest bytes head rest → length head.fields ≤ 16
      → page ≡ Some (page_of images head.method head.target)
  pub over : (head : RequestHead) (rest : List ℕ) → ReadsRequest bytes head rest → 16 < length head.fields → page ≡ Some BadRequest
  pub waits : page ≡ None → HasNoRequest bytes × MayBecomeRequest bytes
  pub refused : HasNoRequest bytes → (page ≡ None → ⊥) → RequestOverflows 16 bytes × (page ≡ Some BadRequest)
