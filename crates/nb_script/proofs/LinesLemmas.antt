-- What the lines of a text are, line by line.
use Rattle.std.proofs.Common.{◌≡◌, ℕ, suc, ◌+◌, ◌-◌, Bool, true, false, cond, ◌&&◌, ◌==◌, List, [], ◌∷◌, length, take, drop, Option, Some, None, refl, ap, ◌∙◌, arith, nat_eq}
use Rattle.std.specs.Prelude.{position, codes}
use Rattle.std.specs.List.{ends_with, list_all}
use Rattle.std.specs.Option.{MatchOption, unwrap_or}
use Rattle.std.specs.Cmp.Lexicographic.{pointwise}
use Rattle.std.proofs.lemmas.Bool.Decides.{nat_tests}
use Rattle.std.specs.Borrow.{Bor}
use Rattle.nb_defs.specs.ScriptText.{is_line_feed, pieces, without_cr, ends_in_backslash, is_first_line, begins_script, is_blank}
use Rattle.nb_script.proofs.PiecesLemmas.{pieces_some, pieces_none, position_none}

last_of : (b c : ℕ) (bs : List ℕ) → drop (length (b ∷ c ∷ bs) - 1) (b ∷ c ∷ bs) ≡ drop (length (c ∷ bs) - 1) (c ∷ bs)
last_of b c bs =
    let e : length (b ∷ c ∷ bs) - 1 ≡ suc (length (c ∷ bs) - 1) = omega arith in
    rw e refl

-- the definition's test is std's
pub backslash_is : (line : List ℕ) → ends_with nat_eq line (92 ∷ []) ≡ ends_in_backslash line
unfolding ends_in_backslash
backslash_is [] = refl
backslash_is (b ∷ []) = grind (arith, nat_tests)
backslash_is (b ∷ c ∷ bytes) = rw (last_of b c bytes) (backslash_is (c ∷ bytes))

strip_step : (b c : ℕ) (bs : List ℕ) (t : Bool) → (cond t (take (length (c ∷ bs) - 1) (c ∷ bs)) (c ∷ bs) ≡ without_cr (c ∷ bs)) → cond t (take (length (b ∷ c ∷ bs) - 1) (b ∷ c ∷ bs)) (b ∷ c ∷ bs) ≡ b ∷ without_cr (c ∷ bs)
strip_step b c bs true h =
    let e : length (b ∷ c ∷ bs) - 1 ≡ suc (length (c ∷ bs) - 1) = omega arith in
    rw e (ap (λ q. b ∷ q) h)
strip_step b c bs false h = ap (λ q. b ∷ q) h

one_byte : (b : ℕ) (t : Bool) → cond (t && true) (take (1 - 1) (b ∷ [])) (b ∷ []) ≡ cond t [] (b ∷ [])
one_byte b true = refl
one_byte b false = refl

-- a line, less its last byte where that is a carriage return
pub without_cr_is : (line : List ℕ) → cond (pointwise nat_eq (drop (length line - 1) line) (13 ∷ [])) (take (length line - 1) line) line ≡ without_cr line
unfolding without_cr
without_cr_is [] = refl
without_cr_is (b ∷ []) = one_byte b (b == 13)
without_cr_is (b ∷ c ∷ bs) = rw (last_of b c bs) (strip_step b c bs (pointwise nat_eq (drop (length (c ∷ bs) - 1) (c ∷ bs)) (13 ∷ [])) (without_cr_is (c ∷ bs)))

-- what `strip_suffix` leaves of a line
pub stripped : (line : List ℕ) (d : Bor (List ℕ)) (r : Option (Bor (List ℕ))) → d.now ≡ line → MatchOption r (pointwise nat_eq (drop (length line - 1) line) (13 ∷ []) ≡ false) (λ x. (pointwise nat_eq (drop (length line - 1) line) (13 ∷ []) ≡ true) × (x.now ≡ take (length line - 1) line) × (length x.now + 1 ≡ length line)) → (unwrap_or r d).now ≡ without_cr line
stripped line d None same h = same ∙ rw h at (without_cr_is line)
stripped line d (Some x) same h = h.1 ∙ rw h.0 at (without_cr_is line)

same_eq : (a b : ℕ) → nat_eq a b ≡ nat_eq b a
same_eq a b = grind (arith, nat_tests)

pointwise_sym : (xs ys : List ℕ) → pointwise nat_eq xs ys ≡ pointwise nat_eq ys xs
pointwise_sym [] [] = refl
pointwise_sym [] (y ∷ ys) = refl
pointwise_sym (x ∷ xs) [] = refl
pointwise_sym (x ∷ xs) (y ∷ ys) = rw (same_eq x y, pointwise_sym xs ys) refl

-- the first line, by its first six bytes
pub first_line_yes : (line behind : List ℕ) → pointwise nat_eq (take 6 line) (codes "#!ipxe") ≡ true → behind ≡ drop 6 line → is_first_line line ≡ list_all is_blank (without_cr behind)
unfolding is_first_line
first_line_yes line behind e b = rw (pointwise_sym (codes "#!ipxe") (take 6 line), e, b) refl

pub first_line_no : (line : List ℕ) → pointwise nat_eq (take 6 line) (codes "#!ipxe") ≡ false → is_first_line line ≡ false
unfolding is_first_line
first_line_no line e = rw (pointwise_sym (codes "#!ipxe") (take 6 line), e) refl

pub begins_some : (text : List ℕ) (n : ℕ) → position is_line_feed text ≡ Some n → begins_script (pieces is_line_feed text) ≡ is_first_line (take n text)
begins_some text n h = rw (pieces_some is_line_feed text n h) refl

pub begins_none : (text : List ℕ) → position is_line_feed text ≡ None → begins_script (pieces is_line_feed text) ≡ is_first_line text
begins_none text h = rw (pieces_none is_line_feed text (position_none is_line_feed text h)) refl
