-- Responses and what is cut out of them.
use Rattle.std.proofs.Common.{◌≡◌, ℕ, ◌+◌, ◌-◌, ◌<◌, ◌≤◌, min, List, [], ◌++◌, length, get_or, take, drop, slice_range, inl, inr, refl, sym, ap, ◌∙◌, arith}
use Rattle.std.proofs.lemmas.Bool.{cases_lt}
use Rattle.std.proofs.lemmas.List.{length-take, length-drop, get_or-take, get_or-drop, take-append-le, drop-append-le, take_all, drop_all, append-nil, nil_from_length, ext_get_or}
use Rattle.std.proofs.Math.Seq.{take-append-add, drop-append-add}
use Rattle.nb_lab.specs.declared.page.Page.{Page}
use Rattle.nb_lab.specs.declared.page.Page.TheVariants.{Found, NotFound, BadRequest}
use Rattle.nb_lab.specs.Images.{image_len, image_piece}
use Rattle.nb_lab.specs.Pages.{body_text, page_body_len, body_piece, head_text, response_text, response_piece}
use Rattle.nb_lab.proofs.ImageLemmas.{length-image_piece, image_cut}

pub length-body_text : (page : Page) → length (body_text page) ≡ page_body_len page
length-body_text (Found image) = length-image_piece image.0 0 (image_len image.0)
length-body_text NotFound = refl
length-body_text BadRequest = refl

-- a list of two parts is dropped from, or taken of, one part after the other
drop_two : (h b : List ℕ) (n : ℕ) → drop n (h ++ b) ≡ drop n h ++ drop (n - length h) b
drop_two h b n = elim (cases_lt (length h) n) [
  | inl past ↦
      let m : length h + (n - length h) ≡ n = omega arith in
      ap (λ k. drop k (h ++ b)) (sym m) ∙ drop-append-add h b (n - length h)
      ∙ sym (ap (λ (x : List ℕ). x ++ drop (n - length h) b) (drop_all n h (omega arith)))
  | inr within ↦
      let none : 0 ≡ n - length h = omega arith in
      drop-append-le n h b within ∙ ap (λ k. drop n h ++ drop k b) none
]

take_two : (x b : List ℕ) (n : ℕ) → take n (x ++ b) ≡ take n x ++ take (n - length x) b
take_two x b n = elim (cases_lt (length x) n) [
  | inl past ↦
      let m : length x + (n - length x) ≡ n = omega arith in
      ap (λ k. take k (x ++ b)) (sym m) ∙ take-append-add x b (n - length x)
      ∙ sym (ap (λ (y : List ℕ). y ++ take (n - length x) b) (take_all n x (omega arith)))
  | inr within ↦
      let none : 0 ≡ n - length x = omega arith in
      take-append-le n x b within ∙ sym (append-nil (take n x)) ∙ ap (λ k. take n x ++ take k b) none
]

-- two cuts that are as long, from the same place where there is anything, are the same
same_cut : (xs : List ℕ) (n m from start : ℕ) → length (take n (drop from xs)) ≡ length (take m (drop start xs))
    → (0 < length (take n (drop from xs)) → from ≡ start) → take n (drop from xs) ≡ take m (drop start xs)
same_cut xs n m from start as_long same = ext_get_or 0 (take n (drop from xs)) (take m (drop start xs)) as_long (λ i within.
    let place : from + i ≡ start + i = omega (arith, same (omega (arith, within))) in
    get_or-take n (drop from xs) i 0 (omega (arith, length-take n (drop from xs), within))
    ∙ get_or-drop from xs i 0
    ∙ ap (λ k. get_or xs k 0) place
    ∙ sym (get_or-drop start xs i 0)
    ∙ sym (get_or-take m (drop start xs) i 0 (omega (arith, length-take m (drop start xs), as_long, within))))

-- what is cut out of a body, up to its end at most
body_cut : (page : Page) (first count : ℕ) → first + count ≤ page_body_len page → take count (drop first (body_text page)) ≡ body_piece page first count
body_cut (Found image) first count within =
    let same : min count (image_len image.0 - first) ≡ count = omega arith in
    image_cut image.0 count first ∙ ap (image_piece image.0 first) same
body_cut NotFound first count within =
    let none : List ℕ = [] in
    nil_from_length (take count (drop first none)) (omega (arith, length-take count (drop first none), within))
body_cut BadRequest first count within =
    let none : List ℕ = [] in
    nil_from_length (take count (drop first none)) (omega (arith, length-take count (drop first none), within))

-- a piece of a response is what is cut out of its head, and then out of its body
pub two_parts : (page : Page) (from len start stop first last : ℕ) → start ≡ min from (length (head_text page)) → stop ≡ min (from + len) (length (head_text page))
    → last ≡ min ((from + len) - length (head_text page)) (page_body_len page) → first ≡ min (from - length (head_text page)) last
    → response_piece page from len ≡ slice_range (head_text page) start stop ++ body_piece page first (last - first)
unfolding response_text response_piece
two_parts page from len start stop first last start_is stop_is last_is first_is =
    let h = head_text page in
    let b = body_text page in
    let rest = drop from h in
    let place = from - length h in
    let in_body = len - length rest in
    let size = length-body_text page in
    let head : take len rest ≡ slice_range h start stop = same_cut h len (stop - start) from start
    (omega (arith, length-take len rest, length-drop from h, length-take (stop - start) (drop start h), length-drop start h))
    (λ some. omega (arith, length-take len rest, length-drop from h, some)) in
    let body : take in_body (drop place b) ≡ take (last - first) (drop first b) = same_cut b in_body (last - first) place first
    (omega (arith, length-drop from h, length-take in_body (drop place b), length-drop place b, length-take (last - first) (drop first b), length-drop first b, size))
    (λ some. omega (arith, length-drop from h, length-take in_body (drop place b), length-drop place b, size, some)) in
    ap (take len) (drop_two h b from)
    ∙ take_two rest (drop place b) len
    ∙ ap (λ (x : List ℕ). x ++ take in_body (drop place b)) head
    ∙ ap (λ (x : List ℕ). slice_range h start stop ++ x) (body ∙ body_cut page first (last - first) (omega arith))
