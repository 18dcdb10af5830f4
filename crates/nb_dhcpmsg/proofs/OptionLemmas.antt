-- What options are by the bytes that they begin with.
use Rattle.std.proofs.Common.{◌≡◌, ℕ, zero, suc, ◌+◌, ◌<◌, ◌≤◌, List, [], ◌∷◌, ◌++◌, length, take, drop, refl, sym, ◌∙◌, ap, subst, arith, length-take-le, cond, append-nil, eq-eqb, ne_eqb, Bool, true, false, ◌&&◌, ◌||◌, ◌==◌, length-append}
use Rattle.std.proofs.lemmas.List.{take-append-drop}
use Rattle.std.proofs.lemmas.List.Concat.{flat_map-append}
use Rattle.nb_dhcpmsg.specs.Options.{TagValue, tag_value, AreOptions, none_left, end_mark, padding, option, SameOptions, joined, value_of_option, is_there}
use Rattle.nb_dhcpmsg.specs.Messages.{is_value}
use Rattle.std.proofs.lemmas.List.Folds.{list_any-append}
use Rattle.std.proofs.lemmas.Bool.{lt-leb, le-leb}

abbrev head : List ℕ → ℕ
head [] = 0
head (x ∷ xs) = x

abbrev tail : List ℕ → List ℕ
tail [] = []
tail (x ∷ xs) = xs

pub padded : (rest : List ℕ) (os : List TagValue) → AreOptions (0 ∷ rest) os → AreOptions rest os
padded rest os (none_left _ e) = absurd cc
padded rest os (end_mark _ behind e) = absurd (let h : 0 ≡ 255 = ap head e in cc)
padded rest os (padding _ more os2 e h) = subst (λ z. AreOptions z os) (sym (ap tail e)) h
padded rest os (option _ tag value more os2 e pos small h) = let z : 0 ≡ tag = ap head e in absurd (omega (arith, z, pos))

pub same_padded : (rest : List ℕ) → SameOptions (0 ∷ rest) rest
same_padded rest os = (padded rest os, padding (0 ∷ rest) rest os refl)

pub same_then : (a b c : List ℕ) → SameOptions a b → SameOptions b c → SameOptions a c
same_then a b c p q os = (λ h. (q os).0 ((p os).0 h), λ h. (p os).1 ((q os).1 h))

pub nothing_none : (os : List TagValue) → AreOptions [] os → os ≡ []
nothing_none os (none_left _ e) = refl
nothing_none os (end_mark _ behind e) = refl
nothing_none os (padding _ more os2 e h) = absurd cc
nothing_none os (option _ tag value more os2 e pos small h) = absurd cc

pub ended_none : (behind : List ℕ) (os : List TagValue) → AreOptions (255 ∷ behind) os → os ≡ []
ended_none behind os (none_left _ e) = refl
ended_none behind os (end_mark _ more e) = refl
ended_none behind os (padding _ more os2 e h) = absurd (let z : 255 ≡ 0 = ap head e in cc)
ended_none behind os (option _ tag value more os2 e pos small h) = let z : 255 ≡ tag = ap head e in absurd (omega (arith, z, small))

-- a tag alone
pub half_broken : (tag : ℕ) (os : List TagValue) → 0 < tag → tag < 255 → AreOptions (tag ∷ []) os → ⊥
half_broken tag os pos small (none_left _ e) = absurd cc
half_broken tag os pos small (end_mark _ more e) = let z : tag ≡ 255 = ap head e in omega (arith, z, small)
half_broken tag os pos small (padding _ more os2 e h) = let z : tag ≡ 0 = ap head e in omega (arith, z, pos)
half_broken tag os pos small (option _ t value more os2 e p s h) = let z : 0 ≡ length (length value ∷ (value ++ more)) = ap (λ x. length (tail x)) e in absurd cc

pub taken : (value rest : List ℕ) → take (length value) (value ++ rest) ≡ value
taken [] rest = refl
taken (x ∷ xs) rest = ap (λ z. x ∷ z) (taken xs rest)

pub dropped : (value rest : List ℕ) → drop (length value) (value ++ rest) ≡ rest
dropped [] rest = refl
dropped (x ∷ xs) rest = dropped xs rest

pub long : (value rest : List ℕ) → length value ≤ length (value ++ rest)
long [] rest = omega arith
long (x ∷ xs) rest = let h = long xs rest in omega (arith, h)

-- an option at the front
pub record Cut (tag len : ℕ) (more : List ℕ) (os : List TagValue) : Type 0 where
  pub fits : len ≤ length more
  pub later : List TagValue
  pub first : os ≡ tag_value tag (take len more) ∷ later
  pub rest : AreOptions (drop len more) later

pub cut : (tag len : ℕ) (more : List ℕ) (os : List TagValue) → 0 < tag → tag < 255 → AreOptions (tag ∷ len ∷ more) os → Cut tag len more os
cut tag len more os pos small (none_left _ e) = absurd cc
cut tag len more os pos small (end_mark _ behind e) = let z : tag ≡ 255 = ap head e in absurd (omega (arith, z, small))
cut tag len more os pos small (padding _ rest os2 e h) = let z : tag ≡ 0 = ap head e in absurd (omega (arith, z, pos))
cut tag len more os pos small (option _ t value rest os2 e p s h) =
    let its : tag ≡ t = ap head e in
    let size : len ≡ length value = ap (λ x. head (tail x)) e in
    let bytes : more ≡ value ++ rest = ap (λ x. tail (tail x)) e in
    record {
      fits = subst (λ z. z ≤ length more) (sym size) (subst (λ z. length value ≤ length z) (sym bytes) (long value rest));
      later = os2;
      first =
          ap (λ z. tag_value z value ∷ os2) (sym its)
          ∙ ap (λ z. tag_value tag z ∷ os2) (sym (ap (λ z. take z more) size ∙ ap (λ z. take (length value) z) bytes ∙ taken value rest));
      rest = subst (λ z. AreOptions z os2) (sym (ap (λ z. drop z more) size ∙ ap (λ z. drop (length value) z) bytes ∙ dropped value rest)) h;
    }

size_taken : (n : ℕ) (xs : List ℕ) → n ≤ length xs → length (take n xs) ≡ n
size_taken n xs h = length-take-le n xs h

pub joined_back : (tag len : ℕ) (more : List ℕ) (os : List TagValue) → 0 < tag → tag < 255 → len ≤ length more → AreOptions (drop len more) os → AreOptions (tag ∷ len ∷ more) (tag_value tag (take len more) ∷ os)
joined_back tag len more os pos small fits h =
    option (tag ∷ len ∷ more) tag (take len more) (drop len more) os
    (ap (λ z. tag ∷ z ∷ more) (sym (size_taken len more fits)) ∙ ap (λ z. tag ∷ length (take len more) ∷ z) (sym (take-append-drop len more))) pos small h

not_zero_head : (x : ℕ) (xs : List ℕ) → ((more : List ℕ) → x ∷ xs ≡ 0 ∷ more → ⊥) → 0 < x
not_zero_head x xs h = by x refl
  where
    by : (y : ℕ) → x ≡ y → 0 < x
    by zero e = absurd (h xs (ap (λ z. z ∷ xs) e))
    by (suc n) e = omega (arith, e)

pub unpadded_tag : (bytes : List ℕ) (x : ℕ) (xs : List ℕ) → bytes ≡ x ∷ xs → ((more : List ℕ) → bytes ≡ 0 ∷ more → ⊥) → 0 < x
unpadded_tag bytes x xs e h = not_zero_head x xs (λ more same. h more (e ∙ same))

-- bytes are one list of options
pub options_one : (bytes : List ℕ) (os ps : List TagValue) → AreOptions bytes os → AreOptions bytes ps → os ≡ ps
options_one bytes os ps (none_left _ e) b = sym (nothing_none ps (subst (λ z. AreOptions z ps) e b))
options_one bytes os ps (end_mark _ behind e) b = sym (ended_none behind ps (subst (λ z. AreOptions z ps) e b))
options_one bytes os ps (padding _ rest os2 e a) b = options_one rest os ps a (padded rest ps (subst (λ z. AreOptions z ps) e b))
options_one bytes os ps (option _ tag value rest os2 e pos small a) b =
    let c = cut tag (length value) (value ++ rest) ps pos small (subst (λ z. AreOptions z ps) e b) in
    let same = options_one rest os2 c.later a (subst (λ z. AreOptions z c.later) (dropped value rest) c.rest) in
    ap (λ z. tag_value tag value ∷ z) same ∙ ap (λ z. tag_value tag z ∷ c.later) (sym (taken value rest)) ∙ sym c.first

pub pad_gone : (bytes : List ℕ) (x : ℕ) (rest : List ℕ) → bytes ≡ x ∷ rest → x ≡ 0 → SameOptions bytes rest
pad_gone bytes x rest e zero_is = subst (λ z. SameOptions z rest) (sym (e ∙ ap (λ z. z ∷ rest) zero_is)) (same_padded rest)

pub joined_more : (tag : ℕ) (before : List TagValue) (o : TagValue) → joined tag (before ++ o ∷ []) ≡ joined tag before ++ value_of_option tag o
joined_more tag before o = flat_map-append (value_of_option tag) before (o ∷ []) ∙ ap (λ z. joined tag before ++ z) (append-nil (value_of_option tag o))

pub its_value : (tag : ℕ) (o : TagValue) → o.tag ≡ tag → value_of_option tag o ≡ o.value
its_value tag o e = ap (λ b. cond b o.value []) (eq-eqb o.tag tag e)

pub no_value : (tag : ℕ) (o : TagValue) → (o.tag ≡ tag → ⊥) → value_of_option tag o ≡ []
no_value tag o e = ap (λ b. cond b o.value []) (ne_eqb o.tag tag e)

or_true : (b : Bool) → (b || (true || false)) ≡ true
or_true true = refl
or_true false = refl

or_false : (b : Bool) → (b || (false || false)) ≡ b
or_false true = refl
or_false false = refl

and_false : (b : Bool) → (b && false) ≡ false
and_false true = refl
and_false false = refl

and_true : (b : Bool) → (b && true) ≡ b
and_true true = refl
and_true false = refl

pub is_there_now : (tag : ℕ) (before : List TagValue) (o : TagValue) → o.tag ≡ tag → is_there tag (before ++ o ∷ []) ≡ true
is_there_now tag before o e =
    list_any-append (λ (x : TagValue). x.tag == tag) before (o ∷ [])
    ∙ ap (λ b. is_there tag before || (b || false)) (eq-eqb o.tag tag e)
    ∙ or_true (is_there tag before)

pub is_there_more : (tag : ℕ) (before : List TagValue) (o : TagValue) → (o.tag ≡ tag → ⊥) → is_there tag (before ++ o ∷ []) ≡ is_there tag before
is_there_more tag before o e =
    list_any-append (λ (x : TagValue). x.tag == tag) before (o ∷ [])
    ∙ ap (λ b. is_there tag before || (b || false)) (ne_eqb o.tag tag e)
    ∙ or_false (is_there tag before)

-- a value that doesn't fit any more
pub too_long : (tag : ℕ) (before more : List TagValue) (o : TagValue) → o.tag ≡ tag → 1024 < length (joined tag before) + length o.value → is_value tag (before ++ (o ∷ more)) ≡ false
too_long tag before more o is long =
    let whole : joined tag (before ++ (o ∷ more)) ≡ joined tag before ++ (value_of_option tag o ++ joined tag more) = flat_map-append (value_of_option tag) before (o ∷ more) in
    let value : length (value_of_option tag o) ≡ length o.value = ap length (its_value tag o is) in
    let size : length (joined tag (before ++ (o ∷ more))) ≡ length (joined tag before) + (length (value_of_option tag o) + length (joined tag more)) =
    ap length whole ∙ length-append (joined tag before) (value_of_option tag o ++ joined tag more) ∙ ap (λ z. length (joined tag before) + z) (length-append (value_of_option tag o) (joined tag more)) in
    ap (λ b. is_there tag (before ++ (o ∷ more)) && b) (lt-leb (length (joined tag (before ++ (o ∷ more)))) 1024 (omega (arith, size, value, long)))
    ∙ and_false (is_there tag (before ++ (o ∷ more)))

pub fits_all : (tag : ℕ) (os : List TagValue) → length (joined tag os) ≤ 1024 → is_value tag os ≡ is_there tag os
fits_all tag os fits = ap (λ b. is_there tag os && b) (le-leb (length (joined tag os)) 1024 fits) ∙ and_true (is_there tag os)
