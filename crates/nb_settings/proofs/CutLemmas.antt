-- A text cut at the first of a byte.
use Rattle.std.proofs.Common.{◌≡◌, ℕ, ◌+◌, ◌-◌, ◌<◌, ◌≤◌, List, [], ◌∷◌, ◌++◌, Option, Some, None, Bool, true, false, not, cond, refl, ap, ◌∙◌, sym, arith, eqb, ltb, take, drop, length, suc, length-drop}
use Rattle.std.proofs.lemmas.Bool.{lt-ltb, le-ltb, ltb-true, ltb-false, eqb-true}
use Rattle.std.proofs.lemmas.Option.{same_Some}
use Rattle.std.proofs.Math.Seq.{take-length}
use Rattle.std.specs.List.{position, position_or_len, list_all}
use Rattle.std.specs.Option.{option_map}
use Rattle.nb_settings.specs.Names.{cut_at}
use Rattle.nb_settings.proofs.FindLemmas.{either_way}

-- a text and what follows it
abbrev pub cut : List ℕ → List ℕ → List ℕ × List ℕ
cut text rest = (text, rest)

-- the text before a place, and what stands after it
abbrev pub split_before : List ℕ → ℕ → List ℕ × List ℕ
split_before text end = (take end text, drop (end + 1) text)

-- the byte isn't in the text
abbrev pub has_no : ℕ → List ℕ → Bool
has_no byte text = list_all (λ b. not (eqb b byte)) text

shifted : (b : ℕ) (bs : List ℕ) (k n : ℕ) (found : Option (List ℕ × List ℕ)) → found ≡ option_map (split_before bs) (cond (ltb k n) (Some k) None) → option_map (λ f. (b ∷ f.0, f.1)) found ≡ option_map (split_before (b ∷ bs)) (cond (ltb (1 + k) (suc n)) (Some (1 + k)) None)
shifted b bs k n found is = either_way (ltb k n)
    (λ on.
    let before : k < n = ltb-true k n on in
    let one : 1 + k ≡ suc k = omega arith in
    let more : suc k + 1 ≡ suc (k + 1) = omega arith in
    rw (is, on, lt-ltb (1 + k) (suc n) (omega arith), one, more) refl)
    (λ off.
    let behind : n ≤ k = ltb-false k n off in
    rw (is, off, le-ltb (1 + k) (suc n) (omega arith)) refl)

-- the text ends where the first such byte stands
pub cut_at-is : (byte : ℕ) (text : List ℕ) → cut_at byte text ≡ option_map (split_before text) (position (λ b. eqb b byte) text)
cut_at-is byte [] = refl
cut_at-is byte (b ∷ bs) = either_way (eqb b byte)
    (λ on. rw on (rw (lt-ltb 0 (suc (length bs)) (omega arith)) refl))
    (λ off. rw off (shifted b bs (position_or_len (λ c. eqb c byte) bs) (length bs) (cut_at byte bs) (cut_at-is byte bs)))

take_rest : (text : List ℕ) (from : ℕ) → take (length text - from) (drop from text) ≡ drop from text
take_rest text from = rw (← length-drop from text) (take-length (drop from text))

pub cut_at-found : (byte : ℕ) (text : List ℕ) (end : ℕ) → Some end ≡ position (λ b. eqb b byte) text → Some (take end text, take (length text - (end + 1)) (drop (end + 1) text)) ≡ cut_at byte text
cut_at-found byte text end found = rw (cut_at-is byte text, ← found, take_rest text (end + 1)) refl

pub cut_at-none : (byte : ℕ) (text : List ℕ) → None ≡ position (λ b. eqb b byte) text → None ≡ cut_at byte text
cut_at-none byte text found = rw (cut_at-is byte text, ← found) refl

-- the byte is found after a text without it
pub cut_at-front : (byte : ℕ) (text rest : List ℕ) → has_no byte text ≡ true → cut_at byte (text ++ byte ∷ rest) ≡ Some (cut text rest)
cut_at-front byte [] rest clean = let same : eqb byte byte ≡ true = search arith in rw same refl
cut_at-front byte (b ∷ bs) rest clean = either_way (eqb b byte)
    (λ on. let wrong : false ≡ true = rw on at clean in absurd cc)
    (λ off. let ih = cut_at-front byte bs rest (rw off at clean) in rw (off, ih) refl)

-- and not in a text without it
pub cut_at-without : (byte : ℕ) (text : List ℕ) → has_no byte text ≡ true → cut_at byte text ≡ None
cut_at-without byte [] clean = refl
cut_at-without byte (b ∷ bs) clean = either_way (eqb b byte)
    (λ on. let wrong : false ≡ true = rw on at clean in absurd cc)
    (λ off. let ih = cut_at-without byte bs (rw off at clean) in rw (off, ih) refl)

first_stands : (byte b : ℕ) (bs text rest : List ℕ) → b ≡ byte → Some (cut [] bs) ≡ Some (cut text rest) → b ∷ bs ≡ text ++ byte ∷ rest
first_stands byte b bs text rest same is =
    let pair : cut [] bs ≡ cut text rest = same_Some (cut [] bs) (cut text rest) is in
    let empty : [] ≡ text = ap (λ c. c.0) pair in
    let tail : bs ≡ rest = ap (λ c. c.1) pair in
    ap (λ x. x ∷ bs) same ∙ ap (λ xs. byte ∷ xs) tail ∙ ap (λ front. front ++ byte ∷ rest) empty

later_stands : (byte b : ℕ) (bs text rest : List ℕ) (found : Option (List ℕ × List ℕ)) → ((t r : List ℕ) → found ≡ Some (cut t r) → bs ≡ t ++ byte ∷ r) → option_map (λ f. cut (b ∷ f.0) f.1) found ≡ Some (cut text rest) → b ∷ bs ≡ text ++ byte ∷ rest
later_stands byte b bs text rest None stands is = absurd cc
later_stands byte b bs text rest (Some f) stands is =
    let pair : cut (b ∷ f.0) f.1 ≡ cut text rest = same_Some (cut (b ∷ f.0) f.1) (cut text rest) is in
    let front : b ∷ f.0 ≡ text = ap (λ c. c.0) pair in
    let back : f.1 ≡ rest = ap (λ c. c.1) pair in
    ap (λ xs. b ∷ xs) (stands f.0 f.1 refl) ∙ ap (λ r. (b ∷ f.0) ++ byte ∷ r) back ∙ ap (λ t. t ++ byte ∷ rest) front

-- what is found stands there
pub cut_at-stands : (byte : ℕ) (all text rest : List ℕ) → cut_at byte all ≡ Some (cut text rest) → all ≡ text ++ byte ∷ rest
cut_at-stands byte [] text rest is = absurd cc
cut_at-stands byte (b ∷ bs) text rest is = either_way (eqb b byte)
    (λ on. first_stands byte b bs text rest (eqb-true b byte on) (rw on at is))
    (λ off. later_stands byte b bs text rest (cut_at byte bs) (λ t r. cut_at-stands byte bs t r) (rw off at is))

-- a text of bytes that pass a test hasn't a byte that doesn't
pub has_no-from_all : (test : ℕ → Bool) (byte : ℕ) (text : List ℕ) → test byte ≡ false → list_all test text ≡ true → has_no byte text ≡ true
has_no-from_all test byte [] fails all = refl
has_no-from_all test byte (b ∷ bs) fails all = either_way (test b)
    (λ on.
    let rest = has_no-from_all test byte bs fails (rw on at all) in
    either_way (eqb b byte)
    (λ same. let wrong : true ≡ false = sym on ∙ ap test (eqb-true b byte same) ∙ fails in absurd cc)
    (λ other. rw (other, rest) refl))
    (λ off. let wrong : false ≡ true = rw off at all in absurd cc)

pub has_no-append : (byte : ℕ) (xs ys : List ℕ) → has_no byte xs ≡ true → has_no byte ys ≡ true → has_no byte (xs ++ ys) ≡ true
has_no-append byte [] ys first second = second
has_no-append byte (x ∷ xs) ys first second = either_way (eqb x byte)
    (λ on. let wrong : false ≡ true = rw on at first in absurd cc)
    (λ off. let ih = has_no-append byte xs ys (rw off at first) second in rw (off, ih) refl)
