-- The lines of a list of images, one after another.
use Rattle.std.proofs.Common.{◌≡◌, ℕ, zero, suc, ◌+◌, List, [], ◌∷◌, ◌++◌, length, take, Option, Some, None, refl, ap, sym, ◌∙◌, add-one, arith}
use Rattle.std.specs.Prelude.{slice_get, map}
use Rattle.std.specs.List.{enumerate_from}
use Rattle.std.specs.Option.{option_map}
use Rattle.std.proofs.lemmas.Option.{none-some, same_Some}
use Rattle.nb_image.specs.declared.image.Image.{Image}
use Rattle.nb_imagecmd.specs.Stat.{is_at, line_text, stat_line}

-- the lines of the images before a place
lines_to : Option ℕ → ℕ → ℕ → List Image → List (List ℕ)
lines_to selected n i images = map (stat_line selected) (enumerate_from n (take i images))

more_at : (selected : Option ℕ) (n i : ℕ) (images : List Image) (image : Image) → slice_get images i ≡ Some image → lines_to selected n i images ++ stat_line selected (n + i, image) ∷ [] ≡ lines_to selected n (suc i) images
unfolding lines_to
more_at selected n i [] image at = absurd (none-some image at)
more_at selected n zero (x ∷ xs) image at =
    let place : n + 0 ≡ n = omega arith in
    ap (λ (m : ℕ). stat_line selected (m, image) ∷ []) place ∙ ap (λ (y : Image). stat_line selected (n, y) ∷ []) (sym (same_Some x image at))
more_at selected n (suc i) (x ∷ xs) image at =
    let place : n + suc i ≡ n + 1 + i = omega arith in
    ap (λ (m : ℕ). stat_line selected (n, x) ∷ (lines_to selected (n + 1) i xs ++ stat_line selected (m, image) ∷ [])) place
    ∙ ap (λ (ls : List (List ℕ)). stat_line selected (n, x) ∷ ls) (more_at selected (n + 1) i xs image at)

line_found : (selected : Option ℕ) (i : ℕ) (images : List Image) (line : List ℕ) (o : Option Image) → slice_get images i ≡ o → option_map (λ (image : Image). stat_line selected (i, image)) o ≡ Some line → lines_to selected 0 i images ++ line ∷ [] ≡ lines_to selected 0 (suc i) images
line_found selected i images line None at h = absurd (none-some line h)
line_found selected i images line (Some image) at h =
    let same : stat_line selected (i, image) ≡ line = same_Some (stat_line selected (i, image)) line h in
    let place : 0 + i ≡ i = omega arith in
    ap (λ (l : List ℕ). lines_to selected 0 i images ++ l ∷ []) (sym same)
    ∙ ap (λ (m : ℕ). lines_to selected 0 i images ++ stat_line selected (m, image) ∷ []) (sym place)
    ∙ more_at selected 0 i images image at

-- one line more
pub lines_next : (selected : Option ℕ) (i : ℕ) (images : List Image) (line : List ℕ) → option_map (λ (image : Image). stat_line selected (i, image)) (slice_get images i) ≡ Some line → map (stat_line selected) (enumerate_from 0 (take i images)) ++ line ∷ [] ≡ map (stat_line selected) (enumerate_from 0 (take (i + 1) images))
unfolding lines_to
lines_next selected i images line h = rw add-one (line_found selected i images line (slice_get images i) refl h)

line_by : (selected : Option ℕ) (i : ℕ) (o : Option Image) (name body : List ℕ) → option_map (λ (image : Image). image.name) o ≡ Some name → option_map (λ (image : Image). image.body) o ≡ Some body → option_map (λ (image : Image). stat_line selected (i, image)) o ≡ Some (line_text name (length body) (is_at selected i))
line_by selected i None name body named has = absurd (none-some name named)
line_by selected i (Some image) name body named has =
    ap (λ (n : List ℕ). Some (line_text n (length image.body) (is_at selected i))) (same_Some image.name name named)
    ∙ ap (λ (b : List ℕ). Some (line_text name (length b) (is_at selected i))) (same_Some image.body body has)

-- the line of an image by its name and its bytes
pub line_at : (selected : Option ℕ) (i : ℕ) (images : List Image) (name body : List ℕ) → option_map (λ (image : Image). image.name) (slice_get images i) ≡ Some name → option_map (λ (image : Image). image.body) (slice_get images i) ≡ Some body → option_map (λ (image : Image). stat_line selected (i, image)) (slice_get images i) ≡ Some (line_text name (length body) (is_at selected i))
line_at selected i images name body named has = line_by selected i (slice_get images i) name body named has
