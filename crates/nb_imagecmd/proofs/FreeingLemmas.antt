-- What is left of a list of images from which some are freed, one after another.
use Rattle.std.proofs.Common.{◌≡◌, ℕ, zero, suc, ◌-◌, ◌<◌, ◌≤◌, ◌==◌, Bool, true, false, not, ◌&&◌, cond, List, [], ◌∷◌, length, drop, Option, Some, None, refl, ap, sym, ◌∙◌, subst, arith, inl, inr}
use Rattle.std.specs.Prelude.{slice_get, nat_lt, filter}
use Rattle.std.specs.List.{remove, list_all}
use Rattle.std.specs.Option.{option_and_then, option_map}
use Rattle.std.proofs.lemmas.Bool.{cases_lt}
use Rattle.std.proofs.lemmas.Bool.Decides.{nat_tests}
use Rattle.std.proofs.lemmas.List.Edits.{length-remove}
use Rattle.std.proofs.lemmas.Option.{none-some, same_Some}
use Rattle.nb_image.specs.declared.image.Image.{Image}
use Rattle.nb_image.specs.Images.{ImageList, selection_without, without_image}
use Rattle.nb_imagecmd.specs.Freeing.{is_freed, is_kept, place_among, kept_list}

-- the image at a place fails this test
Fails : (Image → Bool) → List Image → ℕ → Type 0
Fails passes images i = (image : Image) × (slice_get images i ≡ Some image) × (passes image ≡ false)

fails_first : (passes : Image → Bool) (x : Image) (xs : List Image) → Fails passes (x ∷ xs) zero → passes x ≡ false
unfolding Fails
fails_first passes x xs h = ap passes (same_Some x h.0 h.1) ∙ h.2

fails_later : (passes : Image → Bool) (x : Image) (xs : List Image) (i : ℕ) → Fails passes (x ∷ xs) (suc i) → Fails passes xs i
unfolding Fails
fails_later passes x xs i h = h

fails_within : (passes : Image → Bool) (xs : List Image) (i : ℕ) → Fails passes xs i → i < length xs
unfolding Fails
fails_within passes [] i h = absurd (none-some h.0 h.1)
fails_within passes (x ∷ xs) zero h = omega arith
fails_within passes (x ∷ xs) (suc i) h = let k : i < length xs = fails_within passes xs i h in omega (arith, k)

fails_at : (passes : Image → Bool) (xs : List Image) (i : ℕ) (image : Image) → slice_get xs i ≡ Some image → passes image ≡ false → Fails passes xs i
unfolding Fails
fails_at passes xs i image at h = (image, at, h)

-- those that pass are the same without one that fails
filter_without : (passes : Image → Bool) (images : List Image) (i : ℕ) → Fails passes images i → filter passes (remove images i) ≡ filter passes images
filter_without passes [] i h = absurd (let k : i < 0 = fails_within passes [] i h in omega (arith, k))
filter_without passes (x ∷ xs) zero h = rw (fails_first passes x xs h) refl
filter_without passes (x ∷ xs) (suc i) h = ap (λ (ys : List Image). cond (passes x) (x ∷ ys) ys) (filter_without passes xs i (fails_later passes x xs i h))

-- those before it stand where they stood among those that pass
place_before : (passes : Image → Bool) (images : List Image) (i s : ℕ) → s < i → i < length images → place_among passes (remove images i) s ≡ place_among passes images s
place_before passes [] i s low w = absurd (omega arith)
place_before passes (x ∷ xs) zero s low w = absurd (omega arith)
place_before passes (x ∷ xs) (suc i) zero low w = refl
place_before passes (x ∷ xs) (suc i) (suc s) low w = ap (λ (n : Option ℕ). cond (passes x) (option_map (λ k. suc k) n) n) (place_before passes xs i s (omega arith) (omega arith))

both_none : (b : Bool) (n : Option ℕ) → n ≡ None → cond b (option_map (λ (k : ℕ). suc k) n) n ≡ None
both_none true n h = ap (option_map (λ (k : ℕ). suc k)) h
both_none false n h = h

-- it has no place among them
place_none : (passes : Image → Bool) (images : List Image) (i : ℕ) → Fails passes images i → place_among passes images i ≡ None
place_none passes [] i h = absurd (let k : i < 0 = fails_within passes [] i h in omega (arith, k))
place_none passes (x ∷ xs) zero h = rw (fails_first passes x xs h) refl
place_none passes (x ∷ xs) (suc i) h =
    let none : place_among passes xs i ≡ None = place_none passes xs i (fails_later passes x xs i h) in
    both_none (passes x) (place_among passes xs i) none

-- and those after it stand where they stood too
place_after : (passes : Image → Bool) (images : List Image) (i s : ℕ) → Fails passes images i → i ≤ s → place_among passes (remove images i) s ≡ place_among passes images (suc s)
place_after passes [] i s h high = absurd (let k : i < 0 = fails_within passes [] i h in omega (arith, k))
place_after passes (x ∷ xs) zero s h high = rw (fails_first passes x xs h) refl
place_after passes (x ∷ xs) (suc i) zero h high = absurd (omega arith)
place_after passes (x ∷ xs) (suc i) (suc s) h high = ap (λ (n : Option ℕ). cond (passes x) (option_map (λ k. suc k) n) n) (place_after passes xs i s (fails_later passes x xs i h) (omega arith))

selection_before : (s i : ℕ) → s < i → selection_without i (Some s) ≡ Some s
selection_before s i h =
    let other : (s == i) ≡ false = grind (arith, nat_tests) in
    let low : nat_lt i s ≡ false = grind (arith, nat_tests) in
    rw (other, low) refl

selection_after : (s i : ℕ) → i < s → selection_without i (Some s) ≡ Some (s - 1)
selection_after s i h =
    let other : (s == i) ≡ false = grind (arith, nat_tests) in
    let high : nat_lt i s ≡ true = grind (arith, nat_tests) in
    rw (other, high) refl

selection_same : (i : ℕ) → selection_without i (Some i) ≡ None
selection_same i = let same : (i == i) ≡ true = grind (arith, nat_tests) in rw same refl

-- the selection moves with its image
selection_moves : (passes : Image → Bool) (images : List Image) (i : ℕ) (selected : Option ℕ) → Fails passes images i → option_and_then (place_among passes (remove images i)) (selection_without i selected) ≡ option_and_then (place_among passes images) selected
selection_moves passes images i None h = refl
selection_moves passes images i (Some s) h =
    let among = place_among passes (remove images i) in
    elim (cases_lt s i) [
      | inl low ↦ ap (option_and_then among) (selection_before s i low) ∙ place_before passes images i s low (fails_within passes images i h)
      | inr high ↦
          elim (cases_lt i s) [
            | inl higher ↦
                let next : suc (s - 1) ≡ s = omega arith in
                ap (option_and_then among) (selection_after s i higher) ∙ place_after passes images i (s - 1) h (omega arith) ∙ ap (place_among passes images) next
            | inr same ↦
                let e : s ≡ i = omega arith in
                ap (λ (k : ℕ). option_and_then among (selection_without i (Some k))) e ∙ ap (option_and_then among) (selection_same i) ∙ sym (ap (place_among passes images) e ∙ place_none passes images i h)
          ]
    ]

kept_without : (names : List (List ℕ)) (list : ImageList) (i : ℕ) → Fails (is_kept names) list.images i → kept_list names (without_image i list) ≡ kept_list names list
kept_without names list i h =
    ap (λ (xs : List Image). record { images = xs; selected = option_and_then (place_among (is_kept names) (remove list.images i)) (selection_without i list.selected) }) (filter_without (is_kept names) list.images i h)
    ∙ ap (λ (s : Option ℕ). record { images = filter (is_kept names) list.images; selected = s }) (selection_moves (is_kept names) list.images i list.selected h)

and_parts : (a b : Bool) → (a && b) ≡ true → (a ≡ true) × (b ≡ true)
and_parts true b h = (refl, h)
and_parts false b h = absurd cc

-- where all pass, all stay
filter_all : (passes : Image → Bool) (images : List Image) → list_all passes images ≡ true → filter passes images ≡ images
filter_all passes [] h = refl
filter_all passes (x ∷ xs) h =
    let both = and_parts (passes x) (list_all passes xs) h in
    rw (both.0) (ap (λ (ys : List Image). x ∷ ys) (filter_all passes xs both.1))

place_all : (passes : Image → Bool) (images : List Image) (s : ℕ) → list_all passes images ≡ true → place_among passes images s ≡ Some s
place_all passes [] s h = refl
place_all passes (x ∷ xs) zero h = rw ((and_parts (passes x) (list_all passes xs) h).0) refl
place_all passes (x ∷ xs) (suc s) h =
    let both = and_parts (passes x) (list_all passes xs) h in
    rw (both.0) (ap (option_map (λ (n : ℕ). suc n)) (place_all passes xs s both.1))

selection_all : (passes : Image → Bool) (images : List Image) (selected : Option ℕ) → list_all passes images ≡ true → option_and_then (place_among passes images) selected ≡ selected
selection_all passes images None h = refl
selection_all passes images (Some s) h = place_all passes images s h

kept_all : (names : List (List ℕ)) (list : ImageList) → list_all (is_kept names) list.images ≡ true → kept_list names list ≡ list
kept_all names list h =
    ap (λ (xs : List Image). record { images = xs; selected = option_and_then (place_among (is_kept names) list.images) list.selected }) (filter_all (is_kept names) list.images h)
    ∙ ap (λ (s : Option ℕ). record { images = list.images; selected = s }) (selection_all (is_kept names) list.images list.selected h)

-- what is left from a place on, once the image there is gone
drop_removed : (images : List Image) (i : ℕ) → i < length images → drop i (remove images i) ≡ drop (suc i) images
drop_removed [] i w = absurd (omega arith)
drop_removed (x ∷ xs) zero w = refl
drop_removed (x ∷ xs) (suc i) w = drop_removed xs i (omega arith)

passes_from : (passes : Image → Bool) (images : List Image) (i : ℕ) (image : Image) → slice_get images i ≡ Some image → passes image ≡ true → list_all passes (drop (suc i) images) ≡ true → list_all passes (drop i images) ≡ true
passes_from passes [] i image at h left = absurd (none-some image at)
passes_from passes (x ∷ xs) zero image at h left = rw (ap passes (same_Some x image at) ∙ h) left
passes_from passes (x ∷ xs) (suc i) image at h left = passes_from passes xs i image at h left

named_at : (o : Option Image) (name : List ℕ) → option_map (λ (image : Image). image.name) o ≡ Some name → (image : Image) × (o ≡ Some image) × (image.name ≡ name)
named_at None name h = absurd (none-some name h)
named_at (Some image) name h = (image, refl, same_Some image.name name h)

-- from a place on only images that are kept are left, and what is kept of the list is what was kept of the first one
pub record FreesSoFar (names : List (List ℕ)) (place : ℕ) (first now : ImageList) : Type 0 where
  pub same : kept_list names now ≡ kept_list names first
  pub left : list_all (is_kept names) (drop place now.images) ≡ true
  pub within : place ≤ length now.images

-- one more is freed
pub frees_one : (names : List (List ℕ)) (place next i : ℕ) (first now : ImageList) (name : List ℕ) → FreesSoFar names place first now → place ≡ suc i → next ≡ i → option_map (λ (image : Image). image.name) (slice_get now.images i) ≡ Some name → is_freed names name ≡ true → FreesSoFar names next first (without_image i now)
frees_one names place next i first now name so is is_next at freed =
    let found = named_at (slice_get now.images i) name at in
    let gone : is_kept names found.0 ≡ false = ap (λ (n : List ℕ). not (is_freed names n)) found.2 ∙ ap not freed in
    let w : i < length now.images = omega (arith, so.within, is) in
    let left : list_all (is_kept names) (drop i (remove now.images i)) ≡ true = ap (list_all (is_kept names)) (drop_removed now.images i w) ∙ subst (λ (p : ℕ). list_all (is_kept names) (drop p now.images) ≡ true) is so.left in
    record {
      same = kept_without names now i (fails_at (is_kept names) now.images i found.0 found.1 gone) ∙ so.same;
      left = subst (λ (p : ℕ). list_all (is_kept names) (drop p (remove now.images i)) ≡ true) (sym is_next) left;
      within = omega (arith, w, is_next, length-remove now.images i w);
    }

-- one more is kept
pub keeps_one : (names : List (List ℕ)) (place next i : ℕ) (first now : ImageList) (name : List ℕ) → FreesSoFar names place first now → place ≡ suc i → next ≡ i → option_map (λ (image : Image). image.name) (slice_get now.images i) ≡ Some name → is_freed names name ≡ false → FreesSoFar names next first now
keeps_one names place next i first now name so is is_next at kept =
    let found = named_at (slice_get now.images i) name at in
    let stays : is_kept names found.0 ≡ true = ap (λ (n : List ℕ). not (is_freed names n)) found.2 ∙ ap not kept in
    let left : list_all (is_kept names) (drop i now.images) ≡ true = passes_from (is_kept names) now.images i found.0 found.1 stays (subst (λ (p : ℕ). list_all (is_kept names) (drop p now.images) ≡ true) is so.left) in
    record {
      same = so.same;
      left = subst (λ (p : ℕ). list_all (is_kept names) (drop p now.images) ≡ true) (sym is_next) left;
      within = omega (arith, so.within, is, is_next);
    }

-- all were looked at
pub frees_all : (names : List (List ℕ)) (place : ℕ) (first now : ImageList) → FreesSoFar names place first now → place ≡ 0 → now ≡ kept_list names first
frees_all names place first now so is =
    sym (kept_all names now (subst (λ (p : ℕ). list_all (is_kept names) (drop p now.images) ≡ true) is so.left)) ∙ so.same
