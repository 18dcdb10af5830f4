-- A block stays the block whatever follows it.
use Rattle.std.proofs.Common.{◌≡◌, ◌≤◌, ◌<◌, ℕ, zero, suc, ◌+◌, ◌-◌, ◌==◌, List, [], ◌∷◌, ◌++◌, length, take, drop, Some, None, Bool, true, false, refl, ap, ◌∙◌, sym, subst, arith, leb, append-nil}
use Rattle.std.proofs.lemmas.Bool.{false≢true}
use Rattle.std.proofs.lemmas.Option.{none-some, same_Some}
use Rattle.std.proofs.lemmas.List.{take_all, drop_at, length-append, length-take, append_assoc}
use Rattle.httparse.specs.Ascii.{line_feed}
use Rattle.nb_responses.specs.Lines.{FirstLine, with_line_byte, first_line, is_empty, LineBlock, whole, unfinished, crowded, with_line, first_block, limit, most_lines, Found, found, missing, too_many, too_long, found_by, head_block}
use Rattle.nb_responses.proofs.Cases.{either, by_option}

abbrev pub longer : FirstLine → List ℕ → FirstLine
longer l more = record l { rest = l.rest ++ more }

pub first_line_more : (text more : List ℕ) (l : FirstLine) → first_line text ≡ Some l → (first_line (text ++ more) ≡ Some (longer l more)) × (text ≡ l.line ++ l.rest)
first_line_more [] more l is = absurd (none-some l is)
first_line_more (b ∷ bs) more l is = either (b == line_feed)
    (λ on. let same : record { line = b ∷ []; rest = bs } ≡ l = same_Some (record { line = b ∷ []; rest = bs }) l (rw on at is) in
    (rw on (ap (λ k. Some (longer k more)) same), ap (λ k. k.line ++ k.rest) same))
    (λ off. by_option (first_line bs)
    (λ none. absurd (none-some l (rw (off, none) at is)))
    (λ k some.
    let same : with_line_byte b k ≡ l = same_Some (with_line_byte b k) l (rw (off, some) at is) in
    let later : (first_line (bs ++ more) ≡ Some (longer k more)) × (bs ≡ k.line ++ k.rest) = first_line_more bs more k some in
    (rw (off, later.0) (ap (λ j. Some (longer j more)) same), ap (λ ys. b ∷ ys) later.1 ∙ ap (λ j. j.line ++ j.rest) same)))

unfoldable pub is_whole : LineBlock → Bool
is_whole (whole block rest) = true
is_whole unfinished = false
is_whole crowded = false

block_in : LineBlock → List ℕ
block_in (whole block rest) = block
block_in unfinished = []
block_in crowded = []

rest_in : LineBlock → List ℕ
rest_in (whole block rest) = rest
rest_in unfinished = []
rest_in crowded = []

-- a block that is whole: it stays so, and is the beginning
pub record Stays (n : ℕ) (text more block rest : List ℕ) : Type 0 where
  pub longer_too : first_block n (text ++ more) ≡ whole block (rest ++ more)
  pub stands : text ≡ block ++ rest

pub by_block : {Z : Type 0} (k : LineBlock) → ((b r : List ℕ) → k ≡ whole b r → Z) → (is_whole k ≡ false → Z) → Z
unfolding is_whole
by_block (whole b r) f g = f b r refl
by_block unfinished f g = g refl
by_block crowded f g = g refl

with_line_whole : (line : List ℕ) (k : LineBlock) → is_whole k ≡ false → is_whole (with_line line k) ≡ false
unfolding is_whole
with_line_whole line (whole b r) is = is
with_line_whole line unfinished is = refl
with_line_whole line crowded is = refl

pub block_more : (n : ℕ) (text more block rest : List ℕ) → first_block n text ≡ whole block rest → Stays n text more block rest
unfolding is_whole block_in rest_in
block_more zero text more block rest is = absurd (false≢true (ap is_whole is))
block_more (suc n) text more block rest is = by_option (first_line text)
    (λ none. let no : unfinished ≡ whole block rest = rw none at is in absurd (false≢true (ap is_whole no)))
    (λ l some.
    let line : (first_line (text ++ more) ≡ Some (longer l more)) × (text ≡ l.line ++ l.rest) = first_line_more text more l some in
    either (is_empty l.line)
    (λ on.
    let same : whole l.line l.rest ≡ whole block rest = rw (some, on) at is in
    record {
      longer_too = rw (line.0, on) (ap (λ k. whole (block_in k) (rest_in k ++ more)) same);
      stands = line.1 ∙ ap (λ k. block_in k ++ rest_in k) same;
    })
    (λ off.
    let same : with_line l.line (first_block n l.rest) ≡ whole block rest = rw (some, off) at is in
    by_block (first_block n l.rest)
    (λ b r there.
    let later : Stays n l.rest more b r = block_more n l.rest more b r there in
    let whole_too : whole (l.line ++ b) r ≡ whole block rest = sym (ap (with_line l.line) there) ∙ same in
    record {
      longer_too = rw (line.0, off) (ap (with_line l.line) later.longer_too ∙ ap (λ k. whole (block_in k) (rest_in k ++ more)) whole_too);
      stands = line.1 ∙ ap (λ ys. l.line ++ ys) later.stands ∙ sym (append_assoc l.line b r) ∙ ap (λ k. block_in k ++ rest_in k) whole_too;
    })
    (λ no. absurd (false≢true (sym (with_line_whole l.line (first_block n l.rest) no) ∙ ap is_whole same)))))

unfoldable pub found_in : Found → List ℕ
found_in (found block rest) = block
found_in missing = []
found_in too_many = []
found_in too_long = []

unfoldable pub is_found : Found → Bool
is_found (found block rest) = true
is_found missing = false
is_found too_many = false
is_found too_long = false

pub not_found : (text : List ℕ) (k : LineBlock) → is_whole k ≡ false → is_found (found_by limit text k) ≡ false
unfolding is_whole is_found
not_found text (whole b r) is = absurd (false≢true (sym is))
not_found text unfinished is = either (leb limit (length text)) (λ on. rw on refl) (λ off. rw off refl)
not_found text crowded is = refl

pub take_front : (n : ℕ) (xs ys : List ℕ) → length xs ≤ n → take n (xs ++ ys) ≡ xs ++ take (n - length xs) ys
take_front n [] ys l = ap (λ k. take k ys) (no_less n)
  where
    no_less : (n : ℕ) → n ≡ n - 0
    no_less n = omega arith
take_front zero (x ∷ xs) ys l = absurd (none_below (length xs) l)
  where
    none_below : (k : ℕ) → suc k ≤ 0 → ⊥
    none_below k l = omega (arith, l)
take_front (suc n) (x ∷ xs) ys l =
    let less : length xs ≤ n = omega (arith, l) in
    let same : suc n - suc (length xs) ≡ n - length xs = omega arith in
    ap (λ zs. x ∷ zs) (take_front n xs ys less) ∙ ap (λ k. x ∷ xs ++ take k ys) (sym same)

-- a block by itself is the block with which a longer text begins
pub head_block_more : (block more : List ℕ) → head_block block ≡ found block [] → head_block (block ++ more) ≡ found block more
unfolding is_found found_in
head_block_more block more is = by_block (first_block most_lines (take limit block))
    (λ b r there.
    let same : b ≡ block = ap found_in (sym (ap (found_by limit block) there) ∙ is) in
    let stays : Stays most_lines (take limit block) (take (limit - length block) more) b r = block_more most_lines (take limit block) (take (limit - length block) more) b r there in
    let size : length (take limit block) ≡ length block + length r = ap length stays.stands ∙ ap (λ ys. length (ys ++ r)) same ∙ length-append block r in
    let short : length block ≤ limit = omega (arith, size, length-take limit block) in
    let all : take limit (block ++ more) ≡ take limit block ++ take (limit - length block) more = take_front limit block more short ∙ ap (λ ys. ys ++ take (limit - length block) more) (sym (take_all limit block short)) in
    ap (λ ys. found_by limit (block ++ more) (first_block most_lines ys)) all
    ∙ ap (found_by limit (block ++ more)) stays.longer_too
    ∙ ap (λ ys. found ys (drop (length ys) (block ++ more))) same
    ∙ ap (found block) (drop_at block more (length block) refl))
    (λ no. absurd (false≢true (sym (not_found block (first_block most_lines (take limit block)) no) ∙ ap is_found is)))

first_line_alone : (text rest : List ℕ) (l : FirstLine) → first_line text ≡ Some l → first_line (l.line ++ rest) ≡ Some (record { line = l.line; rest = rest })
first_line_alone [] rest l is = absurd (none-some l is)
first_line_alone (b ∷ bs) rest l is = either (b == line_feed)
    (λ on. let same : record { line = b ∷ []; rest = bs } ≡ l = same_Some (record { line = b ∷ []; rest = bs }) l (rw on at is) in
    let alone : first_line (b ∷ rest) ≡ Some (record { line = b ∷ []; rest = rest }) = rw on refl in
    ap (λ k. first_line (k.line ++ rest)) (sym same) ∙ alone ∙ ap (λ k. Some (record { line = k.line; rest = rest })) same)
    (λ off. by_option (first_line bs)
    (λ none. absurd (none-some l (rw (off, none) at is)))
    (λ k some.
    let same : with_line_byte b k ≡ l = same_Some (with_line_byte b k) l (rw (off, some) at is) in
    let later : first_line (k.line ++ rest) ≡ Some (record { line = k.line; rest = rest }) = first_line_alone bs rest k some in
    let alone : first_line (b ∷ k.line ++ rest) ≡ Some (record { line = b ∷ k.line; rest = rest }) = rw (off, later) refl in
    ap (λ j. first_line (j.line ++ rest)) (sym same) ∙ alone ∙ ap (λ j. Some (record { line = j.line; rest = rest })) same))

-- the block by itself
pub block_alone : (n : ℕ) (text block rest : List ℕ) → first_block n text ≡ whole block rest → first_block n block ≡ whole block []
unfolding is_whole block_in
block_alone zero text block rest is = absurd (false≢true (ap is_whole is))
block_alone (suc n) text block rest is = by_option (first_line text)
    (λ none. let no : unfinished ≡ whole block rest = rw none at is in absurd (false≢true (ap is_whole no)))
    (λ l some. either (is_empty l.line)
    (λ on.
    let same : whole l.line l.rest ≡ whole block rest = rw (some, on) at is in
    let line : first_line (l.line ++ []) ≡ Some (record { line = l.line; rest = [] }) = first_line_alone text [] l some in
    let alone : first_block (suc n) (l.line ++ []) ≡ whole l.line [] = rw (line, on) refl in
    ap (λ k. first_block (suc n) (block_in k)) (sym same) ∙ ap (first_block (suc n)) (sym (append-nil l.line)) ∙ alone ∙ ap (λ k. whole (block_in k) []) same)
    (λ off.
    let same : with_line l.line (first_block n l.rest) ≡ whole block rest = rw (some, off) at is in
    by_block (first_block n l.rest)
    (λ b r there.
    let later : first_block n b ≡ whole b [] = block_alone n l.rest b r there in
    let whole_too : whole (l.line ++ b) r ≡ whole block rest = sym (ap (with_line l.line) there) ∙ same in
    let line : first_line (l.line ++ b) ≡ Some (record { line = l.line; rest = b }) = first_line_alone text b l some in
    let alone : first_block (suc n) (l.line ++ b) ≡ whole (l.line ++ b) [] = rw (line, off) (ap (with_line l.line) later) in
    ap (λ k. first_block (suc n) (block_in k)) (sym whole_too) ∙ alone ∙ ap (λ k. whole (block_in k) []) whole_too)
    (λ no. absurd (false≢true (sym (with_line_whole l.line (first_block n l.rest) no) ∙ ap is_whole same)))))

is_unfinished : LineBlock → Bool
is_unfinished (whole block rest) = false
is_unfinished unfinished = true
is_unfinished crowded = false

with_line_unfinished : (line : List ℕ) (k : LineBlock) → with_line line k ≡ unfinished → k ≡ unfinished
unfolding is_unfinished
with_line_unfinished line (whole b r) is = absurd (false≢true (ap is_unfinished is))
with_line_unfinished line unfinished is = refl
with_line_unfinished line crowded is = absurd (false≢true (ap is_unfinished is))

-- a line that becomes whole is longer than what was there
pub first_line_longer : (text more : List ℕ) (l : FirstLine) → first_line text ≡ None → first_line (text ++ more) ≡ Some l → length text < length l.line
first_line_longer [] more l none is = some_line more l is
  where
    some_line : (text : List ℕ) (l : FirstLine) → first_line text ≡ Some l → 0 < length l.line
    some_line [] l is = absurd (none-some l is)
    some_line (b ∷ bs) l is = either (b == line_feed)
        (λ on. let same : record { line = b ∷ []; rest = bs } ≡ l = same_Some (record { line = b ∷ []; rest = bs }) l (rw on at is) in
        subst (λ k. 0 < length k.line) same (omega arith))
        (λ off. by_option (first_line bs)
        (λ none. absurd (none-some l (rw (off, none) at is)))
        (λ k some. let same : with_line_byte b k ≡ l = same_Some (with_line_byte b k) l (rw (off, some) at is) in
        subst (λ j. 0 < length j.line) same (omega arith)))
first_line_longer (b ∷ bs) more l none is = either (b == line_feed)
    (λ on. absurd (none-some (record { line = b ∷ []; rest = bs }) (sym (rw on at none))))
    (λ off. by_option (first_line bs)
    (λ nothing. by_option (first_line (bs ++ more))
    (λ still. absurd (none-some l (rw (off, still) at is)))
    (λ k some. let same : with_line_byte b k ≡ l = same_Some (with_line_byte b k) l (rw (off, some) at is) in
    let later : length bs < length k.line = first_line_longer bs more k nothing some in
    subst (λ j. suc (length bs) < length j.line) same (omega (arith, later))))
    (λ k some. absurd (none-some (with_line_byte b k) (sym (rw (off, some) at none)))))

-- a block that becomes whole is longer than what was there
pub block_longer : (n : ℕ) (text more block rest : List ℕ) → first_block n text ≡ unfinished → first_block n (text ++ more) ≡ whole block rest → length text < length block
unfolding is_whole is_unfinished block_in
block_longer zero text more block rest unended is = absurd (false≢true (ap is_unfinished unended))
block_longer (suc n) text more block rest unended is = by_option (first_line text)
    (λ none. by_option (first_line (text ++ more))
    (λ still. let no : unfinished ≡ whole block rest = rw still at is in absurd (false≢true (ap is_whole no)))
    (λ l some.
    let longer : length text < length l.line = first_line_longer text more l none some in
    either (is_empty l.line)
    (λ on. let same : whole l.line l.rest ≡ whole block rest = rw (some, on) at is in
    subst (λ k. length text < length (block_in k)) same longer)
    (λ off. let same : with_line l.line (first_block n l.rest) ≡ whole block rest = rw (some, off) at is in
    by_block (first_block n l.rest)
    (λ b r there. let whole_too : whole (l.line ++ b) r ≡ whole block rest = sym (ap (with_line l.line) there) ∙ same in
    subst (λ k. length text < length (block_in k)) whole_too (omega (arith, longer, length-append l.line b)))
    (λ no. absurd (false≢true (sym (with_line_whole l.line (first_block n l.rest) no) ∙ ap is_whole same))))))
    (λ l some.
    let line : (first_line (text ++ more) ≡ Some (longer l more)) × (text ≡ l.line ++ l.rest) = first_line_more text more l some in
    either (is_empty l.line)
    (λ on. let no : whole l.line l.rest ≡ unfinished = rw (some, on) at unended in absurd (false≢true (ap is_unfinished no)))
    (λ off.
    let left : first_block n l.rest ≡ unfinished = with_line_unfinished l.line (first_block n l.rest) (rw (some, off) at unended) in
    let same : with_line l.line (first_block n (l.rest ++ more)) ≡ whole block rest = rw (line.0, off) at is in
    by_block (first_block n (l.rest ++ more))
    (λ b r there.
    let later : length l.rest < length b = block_longer n l.rest more b r left there in
    let whole_too : whole (l.line ++ b) r ≡ whole block rest = sym (ap (with_line l.line) there) ∙ same in
    subst (λ k. length text < length (block_in k)) whole_too (omega (arith, later, ap length line.1, length-append l.line l.rest, length-append l.line b)))
    (λ no. absurd (false≢true (sym (with_line_whole l.line (first_block n (l.rest ++ more)) no) ∙ ap is_whole same)))))

is_missing : Found → Bool
is_missing (found block rest) = false
is_missing missing = true
is_missing too_many = false
is_missing too_long = false

-- where a head may still come, no block has ended
pub missing_unfinished : (text : List ℕ) (k : LineBlock) → found_by limit text k ≡ missing → k ≡ unfinished
unfolding is_missing
missing_unfinished text (whole b r) is = absurd (false≢true (ap is_missing is))
missing_unfinished text unfinished is = refl
missing_unfinished text crowded is = absurd (false≢true (ap is_missing is))
