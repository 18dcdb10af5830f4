-- Texts between zero bytes, and the value of a name in one.
use Rattle.std.proofs.Common.{◌≡◌, ℕ, ◌+◌, ◌<◌, ◌≤◌, List, [], ◌∷◌, ◌++◌, Option, Some, None, Bool, true, false, cond, refl, sym, ap, ◌∙◌, arith, eqb, ltb, take, drop, length, suc, MatchOption, Bor}
use Rattle.std.proofs.lemmas.Bool.{lt-ltb, le-ltb, ltb-true, ltb-false, and_parts, eqb-true, eq-eqb}
use Rattle.std.proofs.lemmas.Option.{same_Some}
use Rattle.std.specs.Cmp.Lexicographic.{pointwise}
use Rattle.std.specs.List.{position, position_or_len}
use Rattle.std.specs.Option.{option_map, option_or}
use Rattle.nb_iscsipdu.specs.KeyTexts.{longer, texts_between, after_equals, value_in, key_value}

-- either answer of a test
pub either_way : {P : Type 0} (b : Bool) → (b ≡ true → P) → (b ≡ false → P) → P
either_way true on off = on refl
either_way false on off = off refl

-- the text before a place and those after it, where the place is within the bytes
abbrev split_texts : List ℕ → ℕ → List (List ℕ)
split_texts bytes k = cond (ltb k (length bytes)) (take k bytes ∷ texts_between (drop (k + 1) bytes)) (bytes ∷ [])

shifted : (byte : ℕ) (bytes : List ℕ) (k : ℕ) → longer byte (split_texts bytes k) ≡ split_texts (byte ∷ bytes) (1 + k)
shifted byte bytes k = either_way (ltb k (length bytes))
    (λ on.
    let before : k < length bytes = ltb-true k (length bytes) on in
    let one : 1 + k ≡ suc k = omega arith in
    let more : suc k + 1 ≡ suc (k + 1) = omega arith in
    rw (on, lt-ltb (1 + k) (suc (length bytes)) (omega arith), one, more) refl)
    (λ off.
    let after : length bytes ≤ k = ltb-false k (length bytes) off in
    rw (off, le-ltb (1 + k) (suc (length bytes)) (omega arith)) refl)

-- the first text ends where the first zero byte stands
texts_between-is : (bytes : List ℕ) → texts_between bytes ≡ split_texts bytes (position_or_len (λ byte. eqb byte 0) bytes)
texts_between-is [] = refl
texts_between-is (byte ∷ bytes) = either_way (eqb byte 0)
    (λ on. rw on (rw (lt-ltb 0 (suc (length bytes)) (omega arith)) refl))
    (λ off. rw off (ap (λ (texts : List (List ℕ)). longer byte texts) (texts_between-is bytes) ∙ shifted byte bytes (position_or_len (λ b. eqb b 0) bytes)))

pub texts_between-found : (bytes : List ℕ) (end : ℕ) → Some end ≡ position (λ byte. eqb byte 0) bytes → texts_between bytes ≡ take end bytes ∷ texts_between (drop (end + 1) bytes)
texts_between-found bytes end found =
    let place = position_or_len (λ byte. eqb byte 0) bytes in
    either_way (ltb place (length bytes))
    (λ on.
    let same : end ≡ place = same_Some end place (found ∙ rw on refl) in
    texts_between-is bytes ∙ rw (on, ← same) refl)
    (λ off. let none : Some end ≡ None = found ∙ rw off refl in absurd cc)

pub texts_between-none : (bytes : List ℕ) → None ≡ position (λ byte. eqb byte 0) bytes → texts_between bytes ≡ bytes ∷ []
texts_between-none bytes found =
    let place = position_or_len (λ byte. eqb byte 0) bytes in
    either_way (ltb place (length bytes))
    (λ on. let some : None ≡ Some place = found ∙ rw on refl in absurd cc)
    (λ off. texts_between-is bytes ∙ rw off refl)

-- a text that begins with the name
pub value_in-stripped : (name text : List ℕ) → pointwise eqb (take (length name) text) name ≡ true → value_in name text ≡ after_equals (drop (length name) text)
value_in-stripped [] text is = refl
value_in-stripped (letter ∷ name) [] is = absurd cc
value_in-stripped (letter ∷ name) (byte ∷ text) is =
    let both = and_parts (eqb byte letter) (pointwise eqb (take (length name) text) name) is in
    rw both.0 (value_in-stripped name text both.1)

pub value_in-none : (name text : List ℕ) → pointwise eqb (take (length name) text) name ≡ false → value_in name text ≡ None
value_in-none [] text is = absurd cc
value_in-none (letter ∷ name) [] is = refl
value_in-none (letter ∷ name) (byte ∷ text) is = either_way (eqb byte letter)
    (λ on. rw on (value_in-none name text (rw on at is)))
    (λ off. rw off refl)

-- what stands after `=`, as it is stripped
pub after_equals-stripped : (text : List ℕ) (r : Option (Bor (List ℕ)))
    → MatchOption r (pointwise eqb (take 1 text) (61 ∷ []) ≡ false) (λ x. (pointwise eqb (take 1 text) (61 ∷ []) ≡ true) × (x.now ≡ drop 1 text) × (length x.now + 1 ≡ length text))
    → option_map (λ (x : Bor (List ℕ)). x.now) r ≡ after_equals text
after_equals-stripped [] None h = refl
after_equals-stripped [] (Some x) h = absurd (let off : false ≡ true = h.0 in cc)
after_equals-stripped (byte ∷ text) None h = either_way (eqb byte 61)
    (λ on. absurd (let e = rw on at h in cc))
    (λ off. rw off refl)
after_equals-stripped (byte ∷ text) (Some x) h = either_way (eqb byte 61)
    (λ on. rw on (ap (λ (t : List ℕ). Some t) h.1))
    (λ off. absurd (let e = rw off at h.0 in cc))

or_none : (o : Option (List ℕ)) → option_or o None ≡ o
or_none None = refl
or_none (Some value) = refl

-- the first text has the name
pub value-found : (name bytes : List ℕ) (end : ℕ) (value : List ℕ) → Some end ≡ position (λ byte. eqb byte 0) bytes → Some value ≡ value_in name (take end bytes) → Some value ≡ key_value name bytes
value-found name bytes end value place is = rw (texts_between-found bytes end place, ← is) refl

-- it hasn't, and the texts after it are looked at
pub value-passed : (name bytes : List ℕ) (end : ℕ) → Some end ≡ position (λ byte. eqb byte 0) bytes → None ≡ value_in name (take end bytes) → key_value name (drop (end + 1) bytes) ≡ key_value name bytes
value-passed name bytes end place is = rw (texts_between-found bytes end place, ← is) refl

-- no zero byte follows
pub value-last : (name bytes : List ℕ) → None ≡ position (λ byte. eqb byte 0) bytes → value_in name bytes ≡ key_value name bytes
value-last name bytes place = rw (texts_between-none bytes place) (sym (or_none (value_in name bytes)))

after_equals-stands : (text value : List ℕ) → after_equals text ≡ Some value → text ≡ 61 ∷ value
after_equals-stands [] value is = absurd cc
after_equals-stands (byte ∷ text) value is = either_way (eqb byte 61)
    (λ on.
    let same : Some text ≡ Some value = sym (rw on refl) ∙ is in
    ap (λ (n : ℕ). n ∷ text) (eqb-true byte 61 on) ∙ ap (λ (x : List ℕ). 61 ∷ x) (same_Some text value same))
    (λ off. let none : None ≡ Some value = sym (rw off refl) ∙ is in absurd cc)

pub value_in-stands : (name text value : List ℕ) → value_in name text ≡ Some value → text ≡ name ++ 61 ∷ value
value_in-stands [] text value is = after_equals-stands text value is
value_in-stands (letter ∷ name) [] value is = absurd cc
value_in-stands (letter ∷ name) (byte ∷ text) value is = either_way (eqb byte letter)
    (λ on.
    let rest : value_in name text ≡ Some value = sym (rw on refl) ∙ is in
    ap (λ (n : ℕ). n ∷ text) (eqb-true byte letter on) ∙ ap (λ (x : List ℕ). letter ∷ x) (value_in-stands name text value rest))
    (λ off. let none : None ≡ Some value = sym (rw off refl) ∙ is in absurd cc)

value_in-named : (name value : List ℕ) → value_in name (name ++ 61 ∷ value) ≡ Some value
value_in-named [] value = refl
value_in-named (letter ∷ name) value = rw (eq-eqb letter letter refl) (value_in-named name value)

pub value_in-reads : (name text value : List ℕ) → text ≡ name ++ 61 ∷ value → value_in name text ≡ Some value
value_in-reads name text value is = ap (λ (x : List ℕ). value_in name x) is ∙ value_in-named name value
