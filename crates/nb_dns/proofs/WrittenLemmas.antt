-- A written name, cut at its dots.
use Rattle.std.proofs.Common.{◌≡◌, ℕ, suc, ◌+◌, ◌<◌, ◌≤◌, List, [], ◌∷◌, ◌++◌, Some, None, Bool, true, false, cond, refl, ap, subst, sym, ◌∙◌, arith, eqb, ltb, take, drop, length, length-append, append_assoc}
use Rattle.std.proofs.lemmas.Bool.{lt-ltb, le-ltb, ltb-true, ltb-false, le-leb, leb-true, and_parts, and_from}
use Rattle.std.proofs.lemmas.Option.{none-some, same_Some}
use Rattle.std.specs.List.{position, position_or_len, AllByRecursion, list_all}
use Rattle.nb_dnsmsg.specs.Names.{IsLabel, name_text, IsDnsName}
use Rattle.nb_dns.specs.WrittenNames.{without_final_dot, before_first, labels_at_dots, name_labels, IsLookupName, has_label_length, is_lookup_name}

-- either answer of a test
pub either_way : {P : Type 0} (b : Bool) → (b ≡ true → P) → (b ≡ false → P) → P
either_way true on off = on refl
either_way false on off = off refl

abbrev dot_at : List ℕ → ℕ
dot_at bytes = position_or_len (λ byte. eqb byte 46) bytes

abbrev cut_at : List ℕ → ℕ → ℕ → List (List ℕ)
cut_at bytes k n = cond (ltb k n) (take k bytes ∷ labels_at_dots (drop (k + 1) bytes)) (bytes ∷ [])

shifted : (byte : ℕ) (bytes : List ℕ) (k n : ℕ) (labels : List (List ℕ)) → labels ≡ cut_at bytes k n → before_first byte labels ≡ cut_at (byte ∷ bytes) (1 + k) (suc n)
shifted byte bytes k n labels is = either_way (ltb k n)
    (λ on.
    let before : k < n = ltb-true k n on in
    let one : 1 + k ≡ suc k = omega arith in
    let more : suc k + 1 ≡ suc (k + 1) = omega arith in
    rw (is, on, lt-ltb (1 + k) (suc n) (omega arith), one, more) refl)
    (λ off.
    let behind : n ≤ k = ltb-false k n off in
    rw (is, off, le-ltb (1 + k) (suc n) (omega arith)) refl)

-- a name is cut at its first dot
pub cut_is : (bytes : List ℕ) → labels_at_dots bytes ≡ cut_at bytes (dot_at bytes) (length bytes)
cut_is [] = refl
cut_is (byte ∷ bytes) = either_way (eqb byte 46)
    (λ on. rw on (rw (lt-ltb 0 (suc (length bytes)) (omega arith)) refl))
    (λ off. rw off (shifted byte bytes (dot_at bytes) (length bytes) (labels_at_dots bytes) (cut_is bytes)))

pub cut_some : (bytes : List ℕ) (dot : ℕ) → position (λ byte. eqb byte 46) bytes ≡ Some dot → labels_at_dots bytes ≡ take dot bytes ∷ labels_at_dots (drop (dot + 1) bytes)
cut_some bytes dot is = cut_is bytes ∙ either_way (ltb (dot_at bytes) (length bytes))
    (λ on.
    let same : dot_at bytes ≡ dot = same_Some (dot_at bytes) dot (rw on at is) in
    ap (λ b. cond b (take (dot_at bytes) bytes ∷ labels_at_dots (drop (dot_at bytes + 1) bytes)) (bytes ∷ [])) on
    ∙ ap (λ k. take k bytes ∷ labels_at_dots (drop (k + 1) bytes)) same)
    (λ off. absurd (none-some dot (rw off at is)))

pub cut_none : (bytes : List ℕ) → position (λ byte. eqb byte 46) bytes ≡ None → labels_at_dots bytes ≡ bytes ∷ []
cut_none bytes is = cut_is bytes ∙ either_way (ltb (dot_at bytes) (length bytes))
    (λ on. absurd (none-some (dot_at bytes) (sym (rw on at is))))
    (λ off. ap (λ b. cond b (take (dot_at bytes) bytes ∷ labels_at_dots (drop (dot_at bytes + 1) bytes)) (bytes ∷ [])) off)

-- the labels so far stand in the name, and what is left are the labels of the rest
pub record PutSoFar (start put rest : List ℕ) : Type 0 where
  pub text : put ++ name_text (labels_at_dots rest) ≡ name_text (labels_at_dots start)
  pub back : AllByRecursion IsLabel (labels_at_dots rest) → AllByRecursion IsLabel (labels_at_dots start)
  pub forth : AllByRecursion IsLabel (labels_at_dots start) → AllByRecursion IsLabel (labels_at_dots rest)
  pub room : length put + length rest ≤ 253

pub put_begins : (start : List ℕ) → length start ≤ 253 → PutSoFar start [] start
put_begins start short = record { text = refl; back = λ h. h; forth = λ h. h; room = omega (arith, short) }

pub put_on : (start put rest label more : List ℕ) → PutSoFar start put rest → labels_at_dots rest ≡ label ∷ labels_at_dots more → length rest ≡ length label + (1 + length more) → IsLabel label → PutSoFar start (put ++ (length label ∷ label)) more
put_on start put rest label more p cut size is = record {
  text = append_assoc put (length label ∷ label) (name_text (labels_at_dots more)) ∙ ap (λ x. put ++ name_text x) (sym cut) ∙ p.text;
  back = λ h. p.back (subst (λ x. AllByRecursion IsLabel x) (sym cut) (is, h));
  forth = λ h. (subst (λ x. AllByRecursion IsLabel x) cut (p.forth h)).1;
  room =
      let room = p.room in
      let all = length-append put (length label ∷ label) in
      omega (arith, room, all, size);
}

pub last_put : (start put rest label : List ℕ) → PutSoFar start put rest → labels_at_dots rest ≡ label ∷ [] → IsLabel label → AllByRecursion IsLabel (labels_at_dots start) × ((put ++ (length label ∷ label)) ++ 0 ∷ [] ≡ name_text (labels_at_dots start))
last_put start put rest label p cut is = (
  p.back (subst (λ x. AllByRecursion IsLabel x) (sym cut) (is, tt)),
  append_assoc put (length label ∷ label) (0 ∷ []) ∙ ap (λ x. put ++ name_text x) (sym cut) ∙ p.text,
)

pub no_label : (start put rest label : List ℕ) (labels : List (List ℕ)) → PutSoFar start put rest → labels_at_dots rest ≡ label ∷ labels → (IsLabel label → ⊥) → AllByRecursion IsLabel (labels_at_dots start) → ⊥
no_label start put rest label labels p cut none are = none (subst (λ x. AllByRecursion IsLabel x) cut (p.forth are)).0

-- the text on the wire has two bytes more
text_longer : (label : List ℕ) (labels : List (List ℕ)) (n : ℕ) → length (name_text labels) ≡ n → length (name_text (label ∷ labels)) ≡ suc (length label + n)
text_longer label labels n is = ap suc (length-append label (name_text labels) ∙ ap (λ x. length label + x) is)

first_longer : (byte : ℕ) (labels : List (List ℕ)) → (0 < length labels) → length (name_text (before_first byte labels)) ≡ suc (length (name_text labels))
first_longer byte [] some = absurd (omega (arith, some))
first_longer byte (label ∷ labels) some = refl

some_labels : (bytes : List ℕ) → 0 < length (labels_at_dots bytes)
some_labels [] = omega arith
some_labels (byte ∷ bytes) = either_way (eqb byte 46)
    (λ on. rw on (omega arith))
    (λ off. rw off (by (labels_at_dots bytes) (some_labels bytes)))
  where
    by : (labels : List (List ℕ)) → 0 < length labels → 0 < length (before_first byte labels)
    by [] some = some
    by (label ∷ labels) some = omega arith

text_size : (bytes : List ℕ) → length (name_text (labels_at_dots bytes)) ≡ length bytes + 2
text_size [] = refl
text_size (byte ∷ bytes) = either_way (eqb byte 46)
    (λ on. rw on (let h = text_size bytes in omega (arith, h)))
    (λ off. rw off (let h = text_size bytes in let e = first_longer byte (labels_at_dots bytes) (some_labels bytes) in omega (arith, h, e)))

pub name_on_wire : (text : List ℕ) → IsLookupName text → IsDnsName (name_text (name_labels text))
name_on_wire text is = record {
  labels = name_labels text;
  are = is.are;
  text = refl;
  short = let size = text_size (without_final_dot text) in let short = is.short in omega (arith, size, short);
}

label_tested : (label : List ℕ) → has_label_length label ≡ true → IsLabel label
label_tested label is =
    let (some, few) = and_parts _ _ is in
    let most = leb-true (length label) 63 few in
    record { some = ltb-true 0 (length label) some; few = omega (arith, most) }

label_passes : (label : List ℕ) → IsLabel label → has_label_length label ≡ true
label_passes label is =
    let some = is.some in let few = is.few in
    and_from _ _ (lt-ltb 0 (length label) some) (le-leb (length label) 63 (omega (arith, few)))

labels_tested : (labels : List (List ℕ)) → list_all has_label_length labels ≡ true → AllByRecursion IsLabel labels
labels_tested [] all = tt
labels_tested (label ∷ labels) all = let (first, rest) = and_parts _ _ all in (label_tested label first, labels_tested labels rest)

labels_pass : (labels : List (List ℕ)) → AllByRecursion IsLabel labels → list_all has_label_length labels ≡ true
labels_pass [] are = refl
labels_pass (label ∷ labels) (first, are) = and_from _ _ (label_passes label first) (labels_pass labels are)

pub name_tested : (text : List ℕ) → is_lookup_name text ≡ true → IsLookupName text
name_tested text is =
    let (all, few) = and_parts _ _ is in
    record { are = labels_tested (name_labels text) all; short = leb-true (length (without_final_dot text)) 253 few }

pub name_passes : (text : List ℕ) → IsLookupName text → is_lookup_name text ≡ true
name_passes text is = and_from _ _ (labels_pass (name_labels text) is.are) (le-leb (length (without_final_dot text)) 253 is.short)

pub name_fails : (text : List ℕ) → (IsLookupName text → ⊥) → is_lookup_name text ≡ false
name_fails text none = either_way (is_lookup_name text) (λ on. absurd (none (name_tested text on))) (λ off. off)
