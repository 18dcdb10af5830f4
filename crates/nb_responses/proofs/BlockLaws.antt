-- What is found of a block of lines stays so, whatever follows.
use Rattle.std.proofs.Common.{◌≡◌, ◌≢◌, ◌≤◌, ◌<◌, ℕ, zero, suc, ◌+◌, ◌-◌, List, [], ◌++◌, length, take, Some, Bool, true, false, refl, ap, ◌∙◌, sym, arith, leb, append-nil, append_assoc}
use Rattle.std.proofs.lemmas.Bool.{false≢true, le-leb, leb-true, leb-false}
use Rattle.std.proofs.lemmas.List.{take_all, take-append-le, drop-append-le, length-append, length-take}
use Rattle.nb_responses.specs.Lines.{first_line, is_empty, LineBlock, whole, unfinished, crowded, with_line, first_block, Found, found, missing, too_many, too_long, found_by, trailer_block}
use Rattle.nb_responses.specs.Chunks.{more, trailer_verdict}
use Rattle.nb_responses.proofs.LineLaws.{longer, first_line_more, first_line_longer, is_whole, Stays, block_more, take_front}
use Rattle.nb_responses.proofs.Cases.{either, by_option}

is_crowded : LineBlock → Bool
is_crowded (whole block rest) = false
is_crowded unfinished = false
is_crowded crowded = true

crowded_line : (line : List ℕ) (k : LineBlock) → with_line line k ≡ crowded → k ≡ crowded
unfolding is_crowded
crowded_line line (whole b r) is = absurd (false≢true (ap is_crowded is))
crowded_line line unfinished is = absurd (false≢true (ap is_crowded is))
crowded_line line crowded is = refl

-- too many lines stay too many
crowded_more : (n : ℕ) (text later : List ℕ) → first_block n text ≡ crowded → first_block n (text ++ later) ≡ crowded
unfolding is_crowded
crowded_more zero text later is = refl
crowded_more (suc n) text later is = by_option (first_line text)
    (λ none. let no : unfinished ≡ crowded = rw none at is in absurd (false≢true (ap is_crowded no)))
    (λ l some.
    let line : (first_line (text ++ later) ≡ Some (longer l later)) × (text ≡ l.line ++ l.rest) = first_line_more text later l some in
    either (is_empty l.line)
    (λ on. let no : whole l.line l.rest ≡ crowded = rw (some, on) at is in absurd (false≢true (ap is_crowded no)))
    (λ off.
    let left : first_block n l.rest ≡ crowded = crowded_line l.line (first_block n l.rest) (rw (some, off) at is) in
    rw (line.0, off) (ap (with_line l.line) (crowded_more n l.rest later left))))

-- the block among the first bytes of a text
abbrev pub block_among : ℕ → ℕ → List ℕ → Found
block_among lines most text = found_by most text (first_block lines (take most text))

-- the first bytes of a longer text
pub take_longer : (most : ℕ) (text later : List ℕ) → (x : List ℕ) × (take most (text ++ later) ≡ take most text ++ x)
take_longer most text later = either (leb most (length text))
    (λ on. ([], take-append-le most text later (leb-true most (length text) on) ∙ sym (append-nil (take most text))))
    (λ off. let short : length text ≤ most = omega (arith, leb-false most (length text) off) in
    (take (most - length text) later, take_front most text later short ∙ ap (λ t. t ++ take (most - length text) later) (sym (take_all most text short))))

-- what is said of a longer text
unfoldable pub longer_found : List ℕ → Found → Found
longer_found later (found block rest) = found block (rest ++ later)
longer_found later missing = missing
longer_found later too_many = too_many
longer_found later too_long = too_long

found_more_by : (lines most : ℕ) (text later : List ℕ) (k : LineBlock) → first_block lines (take most text) ≡ k → found_by most text k ≢ missing
    → block_among lines most (text ++ later) ≡ longer_found later (found_by most text k)
unfolding longer_found
found_more_by lines most text later (whole b r) is some =
    let front : (x : List ℕ) × (take most (text ++ later) ≡ take most text ++ x) = take_longer most text later in
    let stays : Stays lines (take most text) front.0 b r = block_more lines (take most text) front.0 b r is in
    let within : length b ≤ length text = omega (arith, ap length stays.stands, length-append b r, length-take most text) in
    ap (λ t. found_by most (text ++ later) (first_block lines t)) front.1 ∙ ap (found_by most (text ++ later)) stays.longer_too
    ∙ ap (found b) (drop-append-le (length b) text later within)
found_more_by lines most text later unfinished is some = either (leb most (length text))
    (λ on.
    let enough : most ≤ length text = leb-true most (length text) on in
    let enough_too : leb most (length (text ++ later)) ≡ true = le-leb most (length (text ++ later)) (omega (arith, enough, length-append text later)) in
    rw on (ap (λ t. found_by most (text ++ later) (first_block lines t)) (take-append-le most text later enough) ∙ ap (found_by most (text ++ later)) is ∙ (rw enough_too refl)))
    (λ off. absurd (some (rw off refl)))
found_more_by lines most text later crowded is some =
    let front : (x : List ℕ) × (take most (text ++ later) ≡ take most text ++ x) = take_longer most text later in
    ap (λ t. found_by most (text ++ later) (first_block lines t)) front.1 ∙ ap (found_by most (text ++ later)) (crowded_more lines (take most text) front.0 is)

-- what is found among the first bytes stays found, whatever follows
pub found_more : (lines most : ℕ) (text later : List ℕ) (f : Found) → block_among lines most text ≡ f → f ≢ missing → block_among lines most (text ++ later) ≡ longer_found later f
found_more lines most text later f is some =
    found_more_by lines most text later (first_block lines (take most text)) refl (λ no. some (sym is ∙ no)) ∙ ap (longer_found later) is

-- so a trailer that isn't missing
pub trailer_stays : (most : ℕ) (text later : List ℕ) → trailer_verdict (trailer_block most text) ≢ more → trailer_verdict (trailer_block most (text ++ later)) ≡ trailer_verdict (trailer_block most text)
unfolding longer_found
trailer_stays most text later some =
    let there : block_among (most + 1) most text ≢ missing = λ no. some (ap trailer_verdict no) in
    ap trailer_verdict (found_more (most + 1) most text later (trailer_block most text) refl there) ∙ same (trailer_block most text)
  where
    same : (f : Found) → trailer_verdict (longer_found later f) ≡ trailer_verdict f
    same (found block rest) = refl
    same missing = refl
    same too_many = refl
    same too_long = refl

-- the three ends of a search, each with its equation
by_end : {Z : Type 0} (k : LineBlock) → ((b r : List ℕ) → k ≡ whole b r → Z) → (k ≡ unfinished → Z) → (k ≡ crowded → Z) → Z
by_end (whole b r) f g h = f b r refl
by_end unfinished f g h = g refl
by_end crowded f g h = h refl

-- without an empty line in the longer text there is none in its beginning
pub unfinished_shorter : (n : ℕ) (text later : List ℕ) → first_block n (text ++ later) ≡ unfinished → first_block n text ≡ unfinished
unfolding is_whole is_crowded
unfinished_shorter n text later is = by_end (first_block n text)
    (λ b r there. absurd (false≢true (ap is_whole (sym is ∙ (block_more n text later b r there).longer_too))))
    (λ there. there)
    (λ there. absurd (false≢true (ap is_crowded (sym is ∙ crowded_more n text later there))))

block_of : LineBlock → List ℕ
block_of (whole b r) = b
block_of unfinished = []
block_of crowded = []

-- nor is there one in the beginning of a block
pub whole_shorter : (n : ℕ) (text before later block rest : List ℕ) → first_block n text ≡ whole block rest → block ≡ before ++ later → 0 < length later → first_block n before ≡ unfinished
unfolding is_crowded block_of
whole_shorter n text before later block rest is spelled some =
    let all : text ≡ before ++ (later ++ rest) = (block_more n text [] block rest is).stands ∙ ap (λ t. t ++ rest) spelled ∙ append_assoc before later rest in
    let there : first_block n (before ++ (later ++ rest)) ≡ whole block rest = ap (first_block n) (sym all) ∙ is in
    by_end (first_block n before)
    (λ b r whole_yet.
    let stays : Stays n before (later ++ rest) b r = block_more n before (later ++ rest) b r whole_yet in
    absurd (too_short (length b) (length r) (length later) (length before) (ap length stays.stands ∙ length-append b r)
    (ap (λ k. length (block_of k)) (sym stays.longer_too ∙ there) ∙ ap length spelled ∙ length-append before later) some))
    (λ here. here)
    (λ full. absurd (false≢true (ap is_crowded (sym there ∙ crowded_more n before (later ++ rest) full))))
  where
    too_short : (b r l t : ℕ) → t ≡ b + r → b ≡ t + l → 0 < l → ⊥
    too_short b r l t e f some = omega (arith, e, f, some)

-- so many lines have at least as many bytes
pub crowded_long : (n : ℕ) (text : List ℕ) → first_block n text ≡ crowded → n ≤ length text
unfolding is_crowded
crowded_long zero text is = omega arith
crowded_long (suc n) text is = by_option (first_line text)
    (λ none. let no : unfinished ≡ crowded = rw none at is in absurd (false≢true (ap is_crowded no)))
    (λ l some.
    let line : (first_line (text ++ []) ≡ Some (longer l [])) × (text ≡ l.line ++ l.rest) = first_line_more text [] l some in
    let one : 0 < length l.line = first_line_longer [] text l refl some in
    either (is_empty l.line)
    (λ on. let no : whole l.line l.rest ≡ crowded = rw (some, on) at is in absurd (false≢true (ap is_crowded no)))
    (λ off.
    let left : first_block n l.rest ≡ crowded = crowded_line l.line (first_block n l.rest) (rw (some, off) at is) in
    omega (arith, one, crowded_long n l.rest left, ap length line.1, length-append l.line l.rest)))
