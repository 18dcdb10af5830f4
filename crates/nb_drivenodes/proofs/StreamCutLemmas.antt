-- What a reader's taking comes to, by the PDUs of the stream.
use Rattle.std.proofs.Common.{◌≡◌, ℕ, ◌≤◌, ◌<◌, ◌+◌, ◌-◌, leb, append_assoc, Bool, true, false, List, [], ◌∷◌, ◌++◌, length, take, drop, refl, ap, sym, ◌∙◌, subst, append-nil, arith, if◌then◌else◌, Some, None}
use Rattle.std.proofs.lemmas.Bool.{false≢true, eqb-true, leb-true, leb-false}
use Rattle.std.proofs.lemmas.List.{length-append, length-take-le, length-drop, take-append-drop}
use Rattle.nb_iscsipdu.proofs.StreamLemmas.{refused-kept, more-not_refused}
use Rattle.nb_iscsipdu.specs.declared.pdus.PduState.TheVariants.{More, One, Broken}
use Rattle.nb_iscsipdu.specs.Streams.{Cut, cut, is_refused, is_whole_pdu, pdu_of, pdu_len, open_of, whole_pdu, pdu_state_of, TakesOn, TakesNoMore, TakesAllOfPdu, StaysOpen}
use Rattle.nb_drivenodes.specs.StreamCuts.{cuts_none, cuts_one, cuts_off, CutsOn, outcome_gathered, outcome_is_off, FeedsSo}

-- eight bytes with which a PDU may begin are not refused by those after them
late-allowed : (start taken : List ℕ) → is_refused start ≡ false → StaysOpen start taken → 8 < length (start ++ taken) → is_refused (start ++ taken) ≡ false
late-allowed start taken on stays more = by (leb 8 (length start)) refl
  where
    n : ℕ
    n = 8 - length start

    by : (b : Bool) → leb 8 (length start) ≡ b → is_refused (start ++ taken) ≡ false
    by true e = refused-kept start taken (leb-true 8 (length start) e) ∙ on
    by false e =
        let short : length start < 8 = leb-false 8 (length start) e in
        let whole : length (start ++ taken) ≡ length start + length taken = length-append start taken in
        let part : length (take n taken) ≡ n = length-take-le n taken (omega (arith, short, whole, more)) in
        let eight : 8 ≤ length (start ++ take n taken) = omega (arith, length-append start (take n taken), part, short) in
        let later : 0 < length (drop n taken) = omega (arith, length-drop n taken, short, whole, more) in
        ap is_refused (ap (λ (z : List ℕ). start ++ z) (sym (take-append-drop n taken)) ∙ sym (append_assoc start (take n taken) (drop n taken)))
        ∙ refused-kept (start ++ take n taken) (drop n taken) eight
        ∙ more-not_refused (start ++ take n taken) (stays (take n taken) (drop n taken) (sym (take-append-drop n taken)) later)

-- where a PDU is whole, it isn't refused
refused-not-whole : (start taken : List ℕ) → is_refused start ≡ false → StaysOpen start taken → is_refused (start ++ taken) ≡ true → is_whole_pdu (start ++ taken) ≡ false
refused-not-whole start taken on stays off = by (is_whole_pdu (start ++ taken)) refl
  where
    by : (w : Bool) → is_whole_pdu (start ++ taken) ≡ w → w ≡ false
    by false e = refl
    by true e =
        let whole = eqb-true (length (start ++ taken)) (pdu_len (start ++ taken)) e in
        absurd (false≢true (sym (late-allowed start taken on stays (omega (arith, whole))) ∙ off))

open-allowed : (old : List ℕ) → is_refused old ≡ false → is_refused (open_of old) ≡ false
open-allowed old on = by (is_whole_pdu old)
  where
    by : (w : Bool) → is_refused (if w then [] else old) ≡ false
    by true = refl
    by false = on

-- what was gathered is one of three
comes-by : (c d : Cut) (g : List ℕ) (r w : Bool) → is_refused g ≡ r → is_whole_pdu g ≡ w → (r ≡ true → w ≡ false)
    → d.pdus ≡ c.pdus ++ (if w then pdu_of g ∷ [] else []) → d.rest ≡ (if w then [] else g)
    → CutsOn c (if r then cuts_off else (if w then cuts_one (pdu_of g) else cuts_none)) d
comes-by c d g true true refused whole not_both pdus rest = absurd (false≢true (sym (not_both refl)))
comes-by c d g true false refused whole not_both pdus rest = (pdus ∙ append-nil c.pdus, ap is_refused rest ∙ refused)
comes-by c d g false true refused whole not_both pdus rest = (pdus, rest)
comes-by c d g false false refused whole not_both pdus rest = (pdus ∙ append-nil c.pdus, ap is_refused rest ∙ refused)

all-by : (g bytes : List ℕ) (took : ℕ) (r w : Bool) → (if r then Broken else (if w then One else More)) ≡ pdu_state_of g → (pdu_state_of g ≡ More → took ≡ length bytes)
    → (if r then cuts_off else (if w then cuts_one (pdu_of g) else cuts_none)) ≡ cuts_none → took ≡ length bytes
all-by g bytes took true true is all none = absurd (let z = none in cc)
all-by g bytes took true false is all none = absurd (let z = none in cc)
all-by g bytes took false true is all none = absurd (let z = none in cc)
all-by g bytes took false false is all none = all (sym is)

is-off-by : (g : List ℕ) (r w : Bool) → r ≡ outcome_is_off (if r then cuts_off else (if w then cuts_one (pdu_of g) else cuts_none))
is-off-by g true true = refl
is-off-by g true false = refl
is-off-by g false true = refl
is-off-by g false false = refl

pub feeds-so : (old new bytes : List ℕ) (took : ℕ) → (is_refused old ≡ false → new ≡ open_of old ++ take took bytes) → took ≤ length bytes → TakesOn old new (take took bytes) → TakesNoMore old (take took bytes) → TakesAllOfPdu new bytes took
    → FeedsSo old new bytes took (outcome_gathered new)
feeds-so old new bytes took gathers within on least all = λ stream has.
    let after = on stream has.0 in
    let is = gathers has.1 in
    let not_both : is_refused new ≡ true → is_whole_pdu new ≡ false = λ off. ap is_whole_pdu is ∙ refused-not-whole (open_of old) (take took bytes) (open-allowed old has.1) least (ap is_refused (sym is) ∙ off) in (
      record {
        within = within;
        comes = comes-by (cut stream) (cut (stream ++ take took bytes)) new (is_refused new) (is_whole_pdu new) refl refl not_both after.1 after.0;
        least = subst (λ (z : List ℕ). StaysOpen z (take took bytes)) (sym has.0) least;
        all = all-by new bytes took (is_refused new) (is_whole_pdu new) refl all;
      },
      after.0,
      is-off-by new (is_refused new) (is_whole_pdu new),
    )

-- which of them it is, by the reader's state
more-by : (g : List ℕ) (r w : Bool) → More ≡ (if r then Broken else (if w then One else More)) → (if r then cuts_off else (if w then cuts_one (pdu_of g) else cuts_none)) ≡ cuts_none
more-by g true true e = absurd (let z = e in cc)
more-by g true false e = absurd (let z = e in cc)
more-by g false true e = absurd (let z = e in cc)
more-by g false false e = refl

pub more-none : (g : List ℕ) → More ≡ pdu_state_of g → outcome_gathered g ≡ cuts_none
more-none g e = more-by g (is_refused g) (is_whole_pdu g) e

one-by : (g : List ℕ) (r w : Bool) → One ≡ (if r then Broken else (if w then One else More)) → (if r then cuts_off else (if w then cuts_one (pdu_of g) else cuts_none)) ≡ cuts_one (pdu_of g)
one-by g true true e = absurd (let z = e in cc)
one-by g true false e = absurd (let z = e in cc)
one-by g false true e = refl
one-by g false false e = absurd (let z = e in cc)

pub one-one : (g : List ℕ) → One ≡ pdu_state_of g → outcome_gathered g ≡ cuts_one (pdu_of g)
one-one g e = one-by g (is_refused g) (is_whole_pdu g) e

whole-by : (g : List ℕ) (r w : Bool) → One ≡ (if r then Broken else (if w then One else More)) → w ≡ true
whole-by g true true e = refl
whole-by g true false e = absurd (let z = e in cc)
whole-by g false true e = refl
whole-by g false false e = absurd (let z = e in cc)

pub one-whole : (g : List ℕ) → One ≡ pdu_state_of g → whole_pdu g ≡ Some (pdu_of g)
one-whole g e = ap (λ (b : Bool). if b then Some (pdu_of g) else None) (whole-by g (is_refused g) (is_whole_pdu g) e)

off-by : (g : List ℕ) (r w : Bool) → Broken ≡ (if r then Broken else (if w then One else More)) → (if r then cuts_off else (if w then cuts_one (pdu_of g) else cuts_none)) ≡ cuts_off
off-by g true true e = refl
off-by g true false e = refl
off-by g false true e = absurd (let z = e in cc)
off-by g false false e = absurd (let z = e in cc)

pub broken-off : (g : List ℕ) → Broken ≡ pdu_state_of g → outcome_gathered g ≡ cuts_off
broken-off g e = off-by g (is_refused g) (is_whole_pdu g) e
