-- Texts gathered in one text: what stands in it, and what more at its end leaves.
use Rattle.std.proofs.Common.{◌≡◌, ℕ, ◌+◌, ◌-◌, ◌*◌, ◌<◌, ◌≤◌, max, min, List, [], ◌∷◌, ◌++◌, length, take, drop, codes, refl, sym, subst, ap, ◌∙◌, arith, inl, inr, append_assoc, length-append, length-drop}
use Rattle.std.proofs.Math.Logic.{⊎_elim}
use Rattle.std.proofs.lemmas.Bool.{cases_lt}
use Rattle.std.proofs.lemmas.List.{take-append-le, drop-append-le, length-take-le, take_all}
use Rattle.nb_expand.specs.Expansion.{put_back}
use Rattle.nb_expand.specs.Gathering.{Parts, inner_at, around_at, parts_at, IsGathered, with_more, IsDecided, IsAlike}

-- more after the innermost text stands after all
pub put_back-append : (inner more : List ℕ) (around : List (List ℕ)) → put_back (inner ++ more) around ≡ put_back inner around ++ more
put_back-append inner more [] = refl
put_back-append inner more (outer ∷ around) =
    ap (λ t. put_back t around) (sym (append_assoc (outer ++ codes "${") inner more)) ∙ put_back-append ((outer ++ codes "${") ++ inner) more around

-- the innermost text stands after `${` and what is around it
pub put_back-cons : (inner outer : List ℕ) (around : List (List ℕ)) → put_back inner (outer ∷ around) ≡ put_back outer around ++ (codes "${" ++ inner)
put_back-cons inner outer around =
    ap (λ t. put_back t around) (append_assoc outer (codes "${") inner) ∙ put_back-append outer (codes "${" ++ inner) around

-- put back, the parts are the text
pub put_back-gathered : (text places : List ℕ) → IsGathered text places → put_back (inner_at text places) (around_at text places) ≡ text
put_back-gathered text [] h = refl
put_back-gathered text (place ∷ places) h =
    let front = take (place - 2) text in
    put_back-cons (drop place text) (inner_at front places) (around_at front places)
    ∙ ap (λ t. t ++ (codes "${" ++ drop place text)) (put_back-gathered front places h.4)
    ∙ sym (append_assoc front (codes "${") (drop place text)) ∙ sym h.2

gathered-bound : (text places : List ℕ) → IsGathered text places → length text ≤ 4097 + 204 * length places
gathered-bound text [] h = omega (arith, h)
gathered-bound text (place ∷ places) h = h.3

-- as many bytes more as may matter
pub gathered-more : (text places xs : List ℕ) → IsGathered text places → length xs ≤ max (4097 - length text) (202 - length (inner_at text places)) → IsGathered (text ++ xs) places
gathered-more text [] xs h few = omega (arith, length-append text xs, few, h)
gathered-more text (place ∷ places) xs h few =
    let low : 2 ≤ place = h.0 in
    let high : place ≤ length text = h.1 in
    let front = take (place - 2) text in
    let short : length front ≡ place - 2 = length-take-le (place - 2) text (omega arith) in
    let outer : length front ≤ 4097 + 204 * length places = gathered-bound front places h.4 in
    let total = length-append text xs in
    let rest = length-drop place text in
    let same : take (place - 2) (text ++ xs) ≡ front = take-append-le (place - 2) text xs (omega arith) in
    let behind : drop place (text ++ xs) ≡ drop place text ++ xs = drop-append-le place text xs high in (
      low,
      omega (arith, total),
      ap (λ t. t ++ xs) h.2 ∙ append_assoc (front ++ codes "${") (drop place text) xs ∙ rw (same, behind) refl,
      omega (arith, total, rest, short, outer, few, h.3),
      rw same h.4,
    )

inner_at-append : (text places xs : List ℕ) → IsGathered text places → inner_at (text ++ xs) places ≡ inner_at text places ++ xs
inner_at-append text [] xs h = refl
inner_at-append text (place ∷ places) xs h = drop-append-le place text xs h.1

around_at-append : (text places xs : List ℕ) → IsGathered text places → around_at (text ++ xs) places ≡ around_at text places
around_at-append text [] xs h = refl
around_at-append text (place ∷ places) xs h =
    let high : place ≤ length text = h.1 in
    ap (λ t. inner_at t places ∷ around_at t places) (take-append-le (place - 2) text xs (omega arith))

pub parts_at-append : (text places xs : List ℕ) → IsGathered text places → parts_at (text ++ xs) places ≡ with_more (parts_at text places) xs
parts_at-append text places xs h = rw (inner_at-append text places xs h, around_at-append text places xs h) refl

-- more than may matter
pub decided-more : (text places xs : List ℕ) → IsGathered text places → max (4097 - length text) (202 - length (inner_at text places)) ≤ length xs → IsDecided (with_more (parts_at text places) xs)
decided-more text places xs h many =
    let whole = put_back-gathered text places h in
    let more = ap length (put_back-append (inner_at text places) xs (around_at text places) ∙ ap (λ t. t ++ xs) whole) in
    (omega (arith, many, length-append (inner_at text places) xs), omega (arith, many, more, length-append text xs))

-- how much of what comes more is kept
abbrev pub kept_of : List ℕ → List ℕ → List ℕ → ℕ → List ℕ
kept_of text places more room = take (min (length more) room) more

pub gathered-kept : (text places more : List ℕ) (room : ℕ) → IsGathered text places → room ≡ max (4097 - length text) (202 - length (inner_at text places)) → IsGathered (text ++ kept_of text places more room) places
gathered-kept text places more room h is =
    gathered-more text places (kept_of text places more room) h (omega (arith, is, length-take-le (min (length more) room) more (omega arith)))

all_kept : (text places more : List ℕ) (room : ℕ) → IsGathered text places → length more ≤ room → IsAlike (with_more (parts_at text places) more) (parts_at (text ++ kept_of text places more room) places)
all_kept text places more room h fits =
    let all : min (length more) room ≡ length more = omega arith in
    let kept : kept_of text places more room ≡ more = ap (λ n. take n more) all ∙ take_all (length more) more (omega arith) in
    inl (parts_at-append text places (kept_of text places more room) h ∙ ap (with_more (parts_at text places)) kept)

some_kept : (text places more : List ℕ) (room : ℕ) → IsGathered text places → room ≡ max (4097 - length text) (202 - length (inner_at text places)) → room < length more → IsAlike (with_more (parts_at text places) more) (parts_at (text ++ kept_of text places more room) places)
some_kept text places more room h is past =
    let kept = kept_of text places more room in
    let size : length kept ≡ room = length-take-le (min (length more) room) more (omega arith) ∙ omega arith in
    let same = parts_at-append text places kept h in
    inr (ap (λ p. p.around) same, decided-more text places more h (omega (arith, is, past)), subst (λ (p : Parts). IsDecided p) (sym same) (decided-more text places kept h (omega (arith, is, size))))

-- what is kept tells the answer as all does
pub alike-kept : (text places more : List ℕ) (room : ℕ) → IsGathered text places → room ≡ max (4097 - length text) (202 - length (inner_at text places)) → IsAlike (with_more (parts_at text places) more) (parts_at (text ++ kept_of text places more room) places)
alike-kept text places more room h is =
    ⊎_elim (some_kept text places more room h is) (all_kept text places more room h) (cases_lt room (length more))
