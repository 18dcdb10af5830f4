-- The options that bytes begin with, as a function of them, are those of the grammar.
use Rattle.std.proofs.Common.{◌≡◌, ℕ, zero, suc, ◌<◌, ◌≤◌, ◌==◌, Bool, true, false, cond, List, [], ◌∷◌, ◌++◌, length, take, drop, refl, sym, ◌∙◌, ap, subst, arith, ltb, ne_eqb}
use Rattle.std.specs.Prelude.{slice_index}
use Rattle.std.proofs.lemmas.Bool.{eqb-true, ltb-true, ltb-false, lt-ltb, le-ltb, false≢true}
use Rattle.nb_dhcpmsg.specs.Options.{TagValue, tag_value, AreOptions, none_left, end_mark, padding, option}
use Rattle.nb_dhcpmsg.specs.Fields.{FieldRead, field_read, led_by, read_from}
use Rattle.nb_dhcpmsg.proofs.OptionLemmas.{joined_back, taken, dropped, long}

pub either_way : {P : Type 0} (b : Bool) → (b ≡ true → P) → (b ≡ false → P) → P
either_way true on off = on refl
either_way false on off = off refl

none_dropped : (n : ℕ) → drop {A = ℕ} n [] ≡ []
none_dropped zero = refl
none_dropped (suc n) = refl

pub read_skipped : (n : ℕ) (bytes : List ℕ) → read_from n bytes ≡ read_from 0 (drop n bytes)
unfolding read_from
read_skipped zero bytes = refl
read_skipped (suc n) [] = refl
read_skipped (suc n) (b ∷ bs) = read_skipped n bs

pub read_none : read_from 0 [] ≡ field_read [] true
unfolding read_from
read_none = refl

pub read_padding : (bytes : List ℕ) → read_from 0 (0 ∷ bytes) ≡ read_from 0 bytes
unfolding read_from
read_padding bytes = refl

-- a byte that is no option's tag ends them
pub read_end : (tag : ℕ) (bytes : List ℕ) → 254 < tag → read_from 0 (tag ∷ bytes) ≡ field_read [] (tag == 255)
unfolding read_from
read_end tag bytes big = rw (ne_eqb tag 0 (λ e. omega (arith, e)), lt-ltb 254 tag big) refl

at_tag : (tag : ℕ) (bytes : List ℕ) → 0 < tag → tag < 255 → read_from 0 (tag ∷ bytes) ≡
    cond (ltb (length bytes) (suc (slice_index bytes 0))) (field_read [] false) (led_by (tag_value tag (take (slice_index bytes 0) (drop 1 bytes))) (read_from (suc (slice_index bytes 0)) bytes))
unfolding read_from
at_tag tag bytes pos small = rw (ne_eqb tag 0 (λ e. omega (arith, e)), le-ltb 254 tag (omega arith)) refl

-- an option without its length, or one whose length goes past the end
pub read_half : (tag : ℕ) → 0 < tag → tag < 255 → read_from 0 (tag ∷ []) ≡ field_read [] false
read_half tag pos small = at_tag tag [] pos small

pub read_short : (tag len : ℕ) (bytes : List ℕ) → 0 < tag → tag < 255 → length bytes < len → read_from 0 (tag ∷ len ∷ bytes) ≡ field_read [] false
read_short tag len bytes pos small short =
    at_tag tag (len ∷ bytes) pos small ∙ ap (λ b. cond b (field_read [] false) (led_by (tag_value tag (take len bytes)) (read_from (suc len) (len ∷ bytes)))) (lt-ltb (suc (length bytes)) (suc len) (omega arith))

-- an option that is whole
pub read_one : (tag len : ℕ) (bytes : List ℕ) → 0 < tag → tag < 255 → len ≤ length bytes → read_from 0 (tag ∷ len ∷ bytes) ≡ led_by (tag_value tag (take len bytes)) (read_from 0 (drop len bytes))
read_one tag len bytes pos small fits =
    at_tag tag (len ∷ bytes) pos small
    ∙ ap (λ b. cond b (field_read [] false) (led_by (tag_value tag (take len bytes)) (read_from (suc len) (len ∷ bytes)))) (le-ltb (suc (length bytes)) (suc len) (omega arith))
    ∙ ap (λ r. led_by (tag_value tag (take len bytes)) r) (read_skipped (suc len) (len ∷ bytes))

-- what the grammar calls options is read so
pub are_read : (bytes : List ℕ) (os : List TagValue) → AreOptions bytes os → read_from 0 bytes ≡ field_read os true
are_read bytes os (none_left _ e) = ap (read_from 0) e ∙ read_none
are_read bytes os (end_mark _ behind e) = ap (read_from 0) e ∙ read_end 255 behind (omega arith)
are_read bytes os (padding _ rest os2 e h) = ap (read_from 0) e ∙ read_padding rest ∙ are_read rest os h
are_read bytes os (option _ tag value rest os2 e pos small h) =
    ap (read_from 0) e
    ∙ read_one tag (length value) (value ++ rest) pos small (long value rest)
    ∙ ap (λ v. led_by (tag_value tag v) (read_from 0 (drop (length value) (value ++ rest)))) (taken value rest)
    ∙ ap (λ r. led_by (tag_value tag value) (read_from 0 r)) (dropped value rest)
    ∙ ap (led_by (tag_value tag value)) (are_read rest os2 h)

positive : (t : ℕ) → (t == 0) ≡ false → 0 < t
positive zero e = absurd (false≢true (sym e))
positive (suc t) e = omega arith

-- what a byte and the bytes after it are, by what the byte is
by_tag : (tag : ℕ) (bs : List ℕ) → ((read_from 0 bs).whole ≡ true → AreOptions bs (read_from 0 bs).options)
    → (0 < tag → tag < 255 → AreOptions (tag ∷ bs) (read_from 0 (tag ∷ bs)).options)
    → (read_from 0 (tag ∷ bs)).whole ≡ true → AreOptions (tag ∷ bs) (read_from 0 (tag ∷ bs)).options
by_tag tag bs after here whole = either_way (tag == 0)
    (λ pad.
    let is = eqb-true tag 0 pad in
    let same : read_from 0 (tag ∷ bs) ≡ read_from 0 bs = ap (λ t. read_from 0 (t ∷ bs)) is ∙ read_padding bs in
    subst (λ (r : FieldRead). AreOptions (tag ∷ bs) r.options) (sym same)
    (padding (tag ∷ bs) bs (read_from 0 bs).options (ap (λ t. t ∷ bs) is) (after (sym (ap (λ (r : FieldRead). r.whole) same) ∙ whole))))
    (λ no_pad. either_way (ltb 254 tag)
    (λ big.
    let end = read_end tag bs (ltb-true 254 tag big) in
    let is : tag ≡ 255 = eqb-true tag 255 (sym (ap (λ (r : FieldRead). r.whole) end) ∙ whole) in
    subst (λ (r : FieldRead). AreOptions (tag ∷ bs) r.options) (sym end) (end_mark (tag ∷ bs) bs (ap (λ t. t ∷ bs) is)))
    (λ less. let small = ltb-false 254 tag less in here (positive tag no_pad) (omega arith)))

-- what is read whole is what the grammar calls options
pub read_are : (n : ℕ) (bytes : List ℕ) → (read_from n bytes).whole ≡ true → AreOptions (drop n bytes) (read_from n bytes).options
read_are n [] whole = subst (λ (r : FieldRead). AreOptions (drop n []) r.options) (sym (read_skipped n [] ∙ ap (read_from 0) (none_dropped n) ∙ read_none)) (none_left (drop n []) (none_dropped n))
read_are (suc n) (b ∷ bs) whole =
    let same : read_from (suc n) (b ∷ bs) ≡ read_from n bs = read_skipped (suc n) (b ∷ bs) ∙ sym (read_skipped n bs) in
    subst (λ (r : FieldRead). AreOptions (drop n bs) r.options) (sym same) (read_are n bs (sym (ap (λ (r : FieldRead). r.whole) same) ∙ whole))
read_are zero (tag ∷ []) whole =
    by_tag tag [] (λ w. read_are zero [] w)
    (λ pos small. absurd (false≢true (sym (ap (λ (r : FieldRead). r.whole) (read_half tag pos small)) ∙ whole))) whole
read_are zero (tag ∷ len ∷ more) whole =
    by_tag tag (len ∷ more) (λ w. read_are zero (len ∷ more) w)
    (λ pos small. either_way (ltb (length more) len)
    (λ short. absurd (false≢true (sym (ap (λ (r : FieldRead). r.whole) (read_short tag len more pos small (ltb-true (length more) len short))) ∙ whole)))
    (λ fits.
    let one = read_one tag len more pos small (ltb-false (length more) len fits) in
    let same = read_skipped len more in
    let later = read_are len more (ap (λ (r : FieldRead). r.whole) same ∙ sym (ap (λ (r : FieldRead). r.whole) one) ∙ whole) in
    subst (λ (r : FieldRead). AreOptions (tag ∷ len ∷ more) r.options) (sym one)
    (joined_back tag len more (read_from 0 (drop len more)).options pos small (ltb-false (length more) len fits)
    (subst (λ (r : FieldRead). AreOptions (drop len more) r.options) same later))))
    whole
