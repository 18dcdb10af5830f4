-- Laws of the fields of an iSCSI name.
use Rattle.std.proofs.Common.{◌≡◌, ℕ, suc, ◌+◌, ◌<◌, Bool, true, false, List, [], ◌∷◌, ◌++◌, length, take, drop, map, codes, Option, Some, None, refl, sym, ap, subst, arith}
use Rattle.std.specs.Prelude.{is_some}
use Rattle.std.specs.Char.{to_ascii_lowercase}
use Rattle.std.specs.List.{slice_split, count_by}
use Rattle.std.specs.Borrow.{Bor}
use Rattle.std.specs.Option.{option_map, option_and_then, option_copied}
use Rattle.std.proofs.lemmas.Bool.{true≢false}
use Rattle.std.proofs.lemmas.Bool.Decides.{nat_tests}
use Rattle.std.proofs.lemmas.List.Splits.{length-slice_split}
use Rattle.std.proofs.lemmas.Slice.Eq.{bytes_eq-Decides}
use Rattle.nb_uri.specs.Pieces.{cut_at_first}
use Rattle.nb_uri.specs.IscsiNames.{is_iscsi, is_hyphen, lun_word, lun_words, lun_groups, HasNoColon}
use Rattle.nb_uri.proofs.PieceLemmas.{parts_cut, parts_whole}
use Rattle.nb_uri.proofs.FieldLemmas.{cut-joins}

-- ---- the words of a logical unit

abbrev pub more_words : ℕ → List (List ℕ) → Option ℕ → Option (List ℕ)
more_words count groups first = option_and_then (λ word. option_map (λ words. word ∷ words) (lun_words count groups)) first

pub words-cut : (count : ℕ) (text group rest : List ℕ) → Some (group, rest) ≡ cut_at_first 45 text → lun_words (suc count) (slice_split is_hyphen text) ≡ more_words count (slice_split is_hyphen rest) (lun_word group)
words-cut count text group rest is = ap (lun_words (suc count)) (parts_cut 45 text group rest is)

pub words-whole : (count : ℕ) (text : List ℕ) → None ≡ cut_at_first 45 text → lun_words (suc count) (slice_split is_hyphen text) ≡ more_words count [] (lun_word text)
words-whole count text is = ap (lun_words (suc count)) (parts_whole 45 text is)

-- nothing is left after the last word
pub no_more_words : (rest : Option (Bor (List ℕ))) → is_some rest ≡ true → lun_words 0 (lun_groups (option_copied rest)) ≡ None
no_more_words None some = absurd (true≢false (sym some))
no_more_words (Some text) some = none_left (slice_split is_hyphen text.now) (length-slice_split is_hyphen text.now)
  where
    none_left : (groups : List (List ℕ)) → length groups ≡ count_by is_hyphen text.now + 1 → lun_words 0 groups ≡ None
    none_left [] long = absurd (omega (arith, long))
    none_left (group ∷ groups) long = refl

-- ---- what follows `iscsi:`

abbrev Lower : List ℕ → List ℕ
Lower text = map to_ascii_lowercase text

no_colon : (b : ℕ) → to_ascii_lowercase b ≡ 58 → b ≡ 58
no_colon b same = grind (arith, nat_tests, same)

-- a scheme that is `iscsi` in any case
scheme_read : (scheme rest : List ℕ) → Lower scheme ≡ codes "iscsi" → (is_iscsi (scheme ++ 58 ∷ rest) ≡ true) × (rest ≡ drop 6 (scheme ++ 58 ∷ rest))
scheme_read [] rest same = absurd (cc same)
scheme_read (a ∷ []) rest same = absurd (cc same)
scheme_read (a ∷ b ∷ []) rest same = absurd (cc same)
scheme_read (a ∷ b ∷ c ∷ []) rest same = absurd (cc same)
scheme_read (a ∷ b ∷ c ∷ d ∷ []) rest same = absurd (cc same)
scheme_read (a ∷ b ∷ c ∷ d ∷ e ∷ []) rest same = ((bytes_eq-Decides _ (codes "iscsi:")).1 (ap (λ t. t ++ 58 ∷ []) same), refl)
scheme_read (a ∷ b ∷ c ∷ d ∷ e ∷ f ∷ scheme) rest same = absurd (cc same)

first_byte : (b : ℕ) → 58 < b → 58 ≡ b → ⊥
first_byte b above same = omega (arith, above, same)

-- a text that begins with `iscsi:` has that scheme
scheme_spelled : (scheme rest : List ℕ) → HasNoColon scheme → Lower (take 6 (scheme ++ 58 ∷ rest)) ≡ codes "iscsi:" → Lower scheme ≡ codes "iscsi"
scheme_spelled [] rest none same = absurd (first_byte 105 (omega arith) (cc same))
scheme_spelled (a ∷ []) rest none same = absurd (first_byte 115 (omega arith) (cc same))
scheme_spelled (a ∷ b ∷ []) rest none same = absurd (first_byte 99 (omega arith) (cc same))
scheme_spelled (a ∷ b ∷ c ∷ []) rest none same = absurd (first_byte 115 (omega arith) (cc same))
scheme_spelled (a ∷ b ∷ c ∷ d ∷ []) rest none same = absurd (first_byte 105 (omega arith) (cc same))
scheme_spelled (a ∷ b ∷ c ∷ d ∷ e ∷ []) rest none same = ap (take 5) same
scheme_spelled (a ∷ b ∷ c ∷ d ∷ e ∷ f ∷ scheme) rest none same =
    let sixth : to_ascii_lowercase f ≡ 58 = cc same in
    absurd (none 5 (omega arith) (no_colon f sixth))

pub is_iscsi-cut : (text scheme rest : List ℕ) → Some (scheme, rest) ≡ cut_at_first 58 text → Lower scheme ≡ codes "iscsi" → (is_iscsi text ≡ true) × (rest ≡ drop 6 text)
is_iscsi-cut text scheme rest is same =
    let joined = cut-joins text scheme rest is in
    rw joined.0 (scheme_read scheme rest same)

pub is_iscsi-other : (text scheme rest : List ℕ) → Some (scheme, rest) ≡ cut_at_first 58 text → (Lower scheme ≡ codes "iscsi" → ⊥) → is_iscsi text ≡ false
is_iscsi-other text scheme rest is other =
    let joined = cut-joins text scheme rest is in
    not_true (is_iscsi text) (λ yes. other (scheme_spelled scheme rest joined.1 (subst (λ t. Lower (take 6 t) ≡ codes "iscsi:") joined.0 ((bytes_eq-Decides _ (codes "iscsi:")).0 yes))))
  where
    not_true : (b : Bool) → (b ≡ true → ⊥) → b ≡ false
    not_true true never = absurd (never refl)
    not_true false never = refl
