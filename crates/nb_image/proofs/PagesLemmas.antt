-- The bytes of pages: which page has which bytes, and what stays where pages come or go.
use Rattle.std.proofs.Common.{◌≡◌, ℕ, ◌+◌, ◌-◌, ◌*◌, ◌<◌, ◌≤◌, List, [], ◌∷◌, ◌++◌, length, take, drop, get_or, zero, suc, Option, Some, None, Bool, true, false, ◌==◌, refl, sym, ◌∙◌, ap, arith, append_assoc, append-nil, length-append}
use Rattle.std.specs.Prelude.{All, slice_get, option_map, IfSome}
use Rattle.std.specs.Option.{MatchOption}
use denote.Bor.{Bor}
use Rattle.std.proofs.lemmas.Bool.{eqb-true, false≢true}
use Rattle.std.specs.List.{concat}
use Rattle.std.proofs.lemmas.List.{take_at, drop_at, take_all, take-append-le, take-append-drop, drop_more, length-take-le, take_more}
use Rattle.std.proofs.lemmas.Option.{slice_get_past, slice_get_read}
use Rattle.std.proofs.Math.Seq.{take-append-add}
use Rattle.std.proofs.lemmas.List.Elements.{All-head, All-tail, All-take}
use Rattle.nb_image.specs.declared.pages.Pages.{Pages}
use Rattle.nb_image.specs.Pages.{IsFullPage, all_bytes, IsPaged}

-- a page more at the end
pub concat-append : (xs ys : List (List ℕ)) → concat (xs ++ ys) ≡ concat xs ++ concat ys
concat-append [] ys = refl
concat-append (x ∷ xs) ys = ap (λ bytes. x ++ bytes) (concat-append xs ys) ∙ sym (append_assoc x (concat xs) (concat ys))

pub concat_push : (pages : List (List ℕ)) (page : List ℕ) → concat (pages ++ page ∷ []) ≡ concat pages ++ page
concat_push pages page = concat-append pages (page ∷ []) ∙ ap (λ bytes. concat pages ++ bytes) (append-nil page)

-- full pages have 65,536 bytes each
pub length_full : (pages : List (List ℕ)) → All IsFullPage pages → length (concat pages) ≡ 65536 * length pages
length_full [] full = refl
length_full (page ∷ pages) full =
    let first : length page ≡ 65536 = All-head IsFullPage page pages full in
    let rest = length_full pages (All-tail IsFullPage page pages full) in
    omega (arith, length-append page (concat pages))

pub length_pages : (pages : List (List ℕ)) (last : List ℕ) → All IsFullPage pages → length (concat pages ++ last) ≡ 65536 * length pages + length last
length_pages pages last full = omega (arith, length-append (concat pages) last, length_full pages full)

pub length_all : (p : Pages) → All IsFullPage p.full.items → length (all_bytes p) ≡ 65536 * length p.full.items + length p.last.items
length_all p full = length_pages p.full.items p.last.items full

-- the bytes from a full page's place on begin with it
pub page_is : (pages : List (List ℕ)) (last : List ℕ) (p : ℕ) → All IsFullPage pages → p < length pages → take 65536 (drop (65536 * p) (concat pages ++ last)) ≡ get_or pages p []
page_is pages last p full within =
    let page = get_or pages p [] in
    let before = take p pages in
    let behind = concat (drop (p + 1) pages) in
    let cut : pages ≡ before ++ page ∷ drop (p + 1) pages = sym (take-append-drop p pages) ∙ ap (λ rest. before ++ rest) (drop_more pages p [] within) in
    let whole : concat pages ++ last ≡ concat before ++ (page ++ (behind ++ last)) =
    ap (λ ps. concat ps ++ last) cut
    ∙ ap (λ bytes. bytes ++ last) (concat-append before (page ∷ drop (p + 1) pages))
    ∙ append_assoc (concat before) (page ++ behind) last
    ∙ ap (λ bytes. concat before ++ bytes) (append_assoc page behind last) in
    let at : length (concat before) ≡ 65536 * p = omega (arith, length_full before (All-take IsFullPage p pages full), length-take-le p pages (omega arith)) in
    let len : length page ≡ 65536 = full p [] within in
    ap (λ bytes. take 65536 (drop (65536 * p) bytes)) whole
    ∙ ap (take 65536) (drop_at (concat before) (page ++ (behind ++ last)) (65536 * p) at)
    ∙ take_at page (behind ++ last) 65536 len

-- and after the full pages comes the last one
pub last_is : (pages : List (List ℕ)) (last : List ℕ) (p : ℕ) → All IsFullPage pages → p ≡ length pages → length last ≤ 65536 → take 65536 (drop (65536 * p) (concat pages ++ last)) ≡ last
last_is pages last p full at small =
    let len : length (concat pages) ≡ 65536 * p = omega (arith, length_full pages full, at) in
    ap (take 65536) (drop_at (concat pages) last (65536 * p) len) ∙ take_all 65536 last small

-- a last page that is full may be kept with the others
pub turned : (pages : List (List ℕ)) (last : List ℕ) → concat (pages ++ last ∷ []) ++ [] ≡ concat pages ++ last
turned pages last = append-nil (concat (pages ++ last ∷ [])) ∙ concat_push pages last

-- without the last page, less bytes than all before it are the same
pub popped : (pages : List (List ℕ)) (page last : List ℕ) (len : ℕ) → len ≤ length (concat pages ++ page) → take len (concat (pages ++ page ∷ []) ++ last) ≡ take len (concat pages ++ page)
popped pages page last len within =
    ap (λ bytes. take len (bytes ++ last)) (concat_push pages page) ∙ take-append-le len (concat pages ++ page) last within

-- what was there is there yet, where what came and what is to come make up all
pub kept : (before now rest bytes : List ℕ) → now ++ rest ≡ before ++ bytes → length before ≤ length now → take (length before) now ≡ before
kept before now rest bytes same longer =
    sym (take-append-le (length before) now rest longer) ∙ ap (take (length before)) same ∙ take_at before bytes (length before) refl

-- more bytes of the last page, before what is to come
pub moved_on : (pages : List (List ℕ)) (last head tail rest before bytes : List ℕ) → rest ≡ head ++ tail → (concat pages ++ last) ++ rest ≡ before ++ bytes → (concat pages ++ (last ++ head)) ++ tail ≡ before ++ bytes
moved_on pages last head tail rest before bytes cut same =
    ap (λ now. now ++ tail) (sym (append_assoc (concat pages) last head))
    ∙ append_assoc (concat pages ++ last) head tail
    ∙ ap (λ more. (concat pages ++ last) ++ more) (sym cut)
    ∙ same

-- the two parts of what is to come
pub cut_at : (k : ℕ) (rest head tail : List ℕ) → head ≡ take k rest → tail ≡ drop k rest → rest ≡ head ++ tail
cut_at k rest head tail front back = sym (ap (λ bytes. bytes ++ tail) front ∙ ap (λ bytes. take k rest ++ bytes) back ∙ take-append-drop k rest)

-- the last page cut short
pub cut_is : (pages : List (List ℕ)) (last : List ℕ) (len k : ℕ) → length (concat pages) + k ≡ len → concat pages ++ take k last ≡ take len (concat pages ++ last)
cut_is pages last len k at = sym (take-append-add (concat pages) last k) ∙ ap (λ n. take n (concat pages ++ last)) at

-- a page more of those before a place
pub concat_more : (pages : List (List ℕ)) (i : ℕ) (page : List ℕ) → i < length pages → page ≡ get_or pages i page → concat (take (i + 1) pages) ≡ concat (take i pages) ++ page
concat_more pages i page within is =
    ap concat (take_more pages i page within) ∙ concat_push (take i pages) (get_or pages i page) ∙ ap (λ bytes. concat (take i pages) ++ bytes) (sym is)

get_take : (n k : ℕ) (bytes : List ℕ) → k < n → slice_get (take n bytes) k ≡ slice_get bytes k
get_take zero k bytes h = absurd (omega arith)
get_take (suc n) k [] h = refl
get_take (suc n) zero (b ∷ bytes) h = refl
get_take (suc n) (suc k) (b ∷ bytes) h = get_take n k bytes (omega arith)

get_drop : (n k : ℕ) (bytes : List ℕ) → slice_get (drop n bytes) k ≡ slice_get bytes (n + k)
get_drop zero k bytes = let e : k ≡ 0 + k = omega arith in ap (slice_get bytes) e
get_drop (suc n) k [] = refl
get_drop (suc n) k (b ∷ bytes) = let e : suc (n + k) ≡ suc n + k = omega arith in get_drop n k bytes ∙ ap (slice_get (b ∷ bytes)) e

-- a byte of a page, by its place among all
pub byte_of_page : (bytes : List ℕ) (at q r : ℕ) → at ≡ 65536 * q + r → r < 65536 → slice_get (take 65536 (drop (65536 * q) bytes)) r ≡ slice_get bytes at
byte_of_page bytes at q r is small = get_take 65536 r (drop (65536 * q) bytes) small ∙ get_drop (65536 * q) r bytes ∙ ap (slice_get bytes) (sym is)

pub byte_read : (Q : Bor ℕ → Type 0) (page : List ℕ) (r : ℕ) (o : Option (Bor ℕ)) → MatchOption o (length page ≤ r) (λ x. (r < length page) × Q x) → IfSome o (λ x. x.now ≡ get_or page r x.now) → option_map (λ x. x.now) o ≡ slice_get page r
byte_read Q page r None h e = sym (slice_get_past page r h)
byte_read Q page r (Some x) h e = sym (slice_get_read page (length page) r x.now refl h.0 e)

-- what `is_empty` says of a length
pub empty_len : (n : ℕ) (empty : Bool) → empty ≡ (n == 0) → empty ≡ true → n ≡ 0
empty_len n empty is e = eqb-true n 0 (sym is ∙ e)

pub some_len : (n : ℕ) (empty : Bool) → empty ≡ (n == 0) → empty ≡ false → 0 < n
some_len zero empty is e = absurd (false≢true (sym e ∙ is))
some_len (suc n) empty is e = omega arith
