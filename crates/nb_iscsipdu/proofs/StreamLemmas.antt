-- What is gathered of a PDU, and how a stream is cut however it comes.
use Rattle.std.proofs.Common.{◌≡◌, ◌<◌, ◌≤◌, ℕ, ◌+◌, ◌-◌, inl, inr, true, false, List, [], ◌∷◌, ◌++◌, length, take, drop, fold, min, max, subst, refl, sym, ap, ◌∙◌, append_assoc, append-nil, arith, ltb, leb}
use Rattle.std.specs.Int.{w32, from_be_bytes}
use Rattle.std.proofs.lemmas.Bool.{ltb-false, le-leb, lt-leb, leb-true, ne_eqb, eq-eqb, eqb-true, cases_lt, and_right, and_left, and_from, and_parts}
use Rattle.std.proofs.lemmas.List.{take-append-le, drop-append-le, take-append-drop, take-take, drop-take, length-append, length-take, length-drop, drop_at}
use Rattle.std.proofs.lemmas.List.Sums.{fold-append}
use Rattle.nb_iscsipdu.specs.declared.pdus.PduState.TheVariants.{More, One, Broken}
use Rattle.nb_iscsipdu.specs.Heads.{word_at, lengths, padded_len}
use Rattle.nb_iscsipdu.specs.declared.pdus.Known.TheVariants.{Len}
use Rattle.nb_iscsipdu.specs.PduTexts.{PduParts, IsPduText}
use Rattle.nb_iscsipdu.specs.Streams.{is_refused, pdu_len, is_whole_pdu, pdu_of, Cut, none_cut, with_rest, after_byte, cut, open_of, whole_in, pdu_state_of, known_of, IsKnown, IsGatheredPdu, StaysOpen, TakesOn}
use Rattle.nb_iscsipdu.proofs.PduLemmas.{pdu_read}
use Rattle.nb_iscsipdu.proofs.KeyLemmas.{either_way}

-- more bytes after the first eight change nothing of the lengths
pub lengths-kept : (bytes more : List ℕ) → 8 ≤ length bytes → lengths (bytes ++ more) ≡ lengths bytes
unfolding word_at
lengths-kept bytes more long =
    let within : 4 ≤ length (drop 4 bytes) = omega (arith, length-drop 4 bytes) in
    let dropped : drop 4 (bytes ++ more) ≡ drop 4 bytes ++ more = drop-append-le 4 bytes more (omega arith) in
    ap (λ (x : List ℕ). from_be_bytes w32 (take 4 x)) dropped
    ∙ ap (λ (x : List ℕ). from_be_bytes w32 x) (take-append-le 4 (drop 4 bytes) more within)

-- fewer than eight bytes may become a PDU
pub short-more : (bytes : List ℕ) → length bytes < 8 → pdu_state_of bytes ≡ More
short-more bytes short =
    let refused : is_refused bytes ≡ false = and_left _ _ (lt-leb 8 (length bytes) short) in
    let whole : is_whole_pdu bytes ≡ false = ne_eqb (length bytes) (pdu_len bytes) (λ e. absurd (omega arith)) in
    rw (refused, whole) refl

-- what the state says
pub more-not_refused : (bytes : List ℕ) → pdu_state_of bytes ≡ More → is_refused bytes ≡ false
more-not_refused bytes is = either_way (is_refused bytes)
    (λ on. let e : pdu_state_of bytes ≡ Broken = rw on refl in let f : Broken ≡ More = sym e ∙ is in absurd cc)
    (λ off. off)

pub more-not_whole : (bytes : List ℕ) → pdu_state_of bytes ≡ More → is_whole_pdu bytes ≡ false
more-not_whole bytes is = either_way (is_whole_pdu bytes)
    (λ on.
    let e : pdu_state_of bytes ≡ One = rw (more-not_refused bytes is, on) refl in
    let f : One ≡ More = sym e ∙ is in
    absurd cc)
    (λ off. off)

-- where it isn't refused and isn't whole, more is to come
more-from : (bytes : List ℕ) → is_refused bytes ≡ false → is_whole_pdu bytes ≡ false → pdu_state_of bytes ≡ More
more-from bytes refused whole = rw (refused, whole) refl

-- once eight bytes are there, more of them change nothing of whether there is a PDU and how long it is
pub refused-kept : (bytes more : List ℕ) → 8 ≤ length bytes → is_refused (bytes ++ more) ≡ is_refused bytes
refused-kept bytes more long =
    let longer : 8 ≤ length (bytes ++ more) = omega (arith, length-append bytes more) in
    rw (le-leb 8 (length (bytes ++ more)) longer, le-leb 8 (length bytes) long, lengths-kept bytes more long) refl

pub pdu_len-kept : (bytes more : List ℕ) → 8 ≤ length bytes → pdu_len (bytes ++ more) ≡ pdu_len bytes
pdu_len-kept bytes more long = ap (λ (n : ℕ). 48 + padded_len n) (lengths-kept bytes more long)

-- a part of what leads to fewer than eight bytes, or to eight at last
pub open-short : (old added : List ℕ) → length (old ++ added) ≤ 8 → StaysOpen old added
open-short old added short part later parts some =
    let len : length added ≡ length part + length later = ap length parts ∙ length-append part later in
    short-more (old ++ part) (omega (arith, len, length-append old part, length-append old added))

-- a part of what leads up to the PDU's end
pub open-rest : (old added : List ℕ) → 8 ≤ length old → is_refused old ≡ false → length (old ++ added) ≤ pdu_len old → StaysOpen old added
open-rest old added long allowed within part later parts some =
    let len : length added ≡ length part + length later = ap length parts ∙ length-append part later in
    let before : length (old ++ part) < pdu_len old = omega (arith, len, length-append old part, length-append old added) in
    let whole : is_whole_pdu (old ++ part) ≡ false = ne_eqb (length (old ++ part)) (pdu_len (old ++ part)) (λ e. absurd (omega (arith, e, before, pdu_len-kept old part long))) in
    more-from (old ++ part) (refused-kept old part long ∙ allowed) whole

pub open-none : (old : List ℕ) → StaysOpen old []
open-none old part later parts some =
    let len : 0 ≡ length part + length later = ap length parts ∙ length-append part later in
    absurd (omega arith)

-- nothing is added to what doesn't stay open
pub open-first : (old added : List ℕ) → StaysOpen old added → 0 < length added → pdu_state_of old ≡ More
open-first old added stays some = ap (λ (x : List ℕ). pdu_state_of x) (sym (append-nil old)) ∙ stays [] added refl some

-- a prefix of two joined lists is one of the first, or all of it and one of the second
pub data Joins (a b part later : List ℕ) : Type 0 where
  inside : (left : List ℕ) → a ≡ part ++ left → 0 < length left → Joins a b part later
  past : (more : List ℕ) → part ≡ a ++ more → b ≡ more ++ later → Joins a b part later

joins : (a b part later : List ℕ) → a ++ b ≡ part ++ later → Joins a b part later
joins [] b part later e = past part refl e
joins (x ∷ a) b [] later e = inside (x ∷ a) refl (omega arith)
joins (x ∷ a) b (y ∷ part) later e =
    let tail : a ++ b ≡ part ++ later = cc in
    let head : x ≡ y = cc in
    elim (joins a b part later tail) [
      | inside left is some ↦ inside left (ap (λ (z : List ℕ). x ∷ z) is ∙ ap (λ (n : ℕ). n ∷ (part ++ left)) head) some
      | past more is rest ↦ past more (ap (λ (z : List ℕ). y ∷ z) is ∙ ap (λ (n : ℕ). n ∷ (a ++ more)) (sym head)) rest
    ]

-- one step after another
pub open-joined : (old first second : List ℕ) → StaysOpen old first → StaysOpen (old ++ first) second → StaysOpen old (first ++ second)
open-joined old first second one two part later parts some =
    elim (joins first second part later parts) [
      | inside left is more ↦ one part left is more
      | past more is rest ↦ ap (λ (x : List ℕ). pdu_state_of (old ++ x)) is ∙ ap (λ (x : List ℕ). pdu_state_of x) (sym (append_assoc old first more)) ∙ two more later rest some
    ]

pub take-sum : (m n : ℕ) (xs : List ℕ) → take (m + n) xs ≡ take m xs ++ take n (drop m xs)
take-sum m n xs =
    sym (take-append-drop m (take (m + n) xs))
    ∙ ap (λ (x : List ℕ). x ++ drop m (take (m + n) xs)) (take-take m (m + n) xs (omega arith))
    ∙ ap (λ (x : List ℕ). take m xs ++ x) (drop-take m n xs)

-- what is known of a length, by the number that is read
pub known-by : (bytes : List ℕ) (word : ℕ) → 8 ≤ length bytes → word ≡ lengths bytes → IsKnown (known_of word) bytes
known-by bytes word long is = either_way (ltb 8192 word)
    (λ on. rw on (and_from (leb 8 (length bytes)) (ltb 8192 (lengths bytes)) (le-leb 8 (length bytes) long) (ap (λ (n : ℕ). ltb 8192 n) (sym is) ∙ on)))
    (λ off.
    let least : word ≤ 8192 = ltb-false 8192 word off in
    rw off (and_right (leb 8 (length bytes)) (ltb 8192 (lengths bytes)) (ap (λ (n : ℕ). ltb 8192 n) (sym is) ∙ off), long, ap (λ (n : ℕ). 48 + padded_len n) is, omega arith))

-- what is gathered of a PDU stays so
pub gathered-short : (bytes : List ℕ) → length bytes ≤ 8 → IsGatheredPdu bytes
gathered-short bytes short = record {
  refused = λ on. let long = leb-true 8 (length bytes) (and_parts (leb 8 (length bytes)) (ltb 8192 (lengths bytes)) on).0 in omega arith;
  short = λ off long. omega arith;
}

pub gathered-rest : (old new : List ℕ) (added : List ℕ) → new ≡ old ++ added → 8 ≤ length old → is_refused old ≡ false → length new ≤ pdu_len old → IsGatheredPdu new
gathered-rest old new added is long allowed within =
    let same : is_refused new ≡ false = ap is_refused is ∙ refused-kept old added long ∙ allowed in
    let len : pdu_len new ≡ pdu_len old = ap pdu_len is ∙ pdu_len-kept old added long in
    record {
      refused = λ on. let e : true ≡ false = sym on ∙ same in absurd cc;
      short = λ off more. omega (arith, within, len);
    }

-- a PDU that isn't whole
pub open_of-not_whole : (bytes : List ℕ) → is_whole_pdu (open_of bytes) ≡ false
open_of-not_whole bytes = either_way (is_whole_pdu bytes)
    (λ on. rw on (ne_eqb 0 (pdu_len []) (λ e. absurd (omega arith))))
    (λ off. rw off off)

-- what a cut comes to by more bytes, up to a PDU's end
abbrev pub reached : Cut → List ℕ → Cut
reached c new = record { pdus = c.pdus ++ whole_in new; rest = open_of new }

pub reached-none : (c : Cut) → is_whole_pdu c.rest ≡ false → c ≡ reached c c.rest
reached-none c off = rw off (ap (λ (x : List PduParts). let r : Cut = record { pdus = x; rest = c.rest } in r) (sym (append-nil c.pdus)))

reached-with_rest : (c : Cut) (new : List ℕ) → with_rest c new ≡ reached c new
reached-with_rest c new = either_way (is_whole_pdu new)
    (λ on. rw on refl)
    (λ off. rw off (ap (λ (x : List PduParts). let r : Cut = record { pdus = x; rest = new } in r) (sym (append-nil c.pdus))))

pub fold-reached : (c : Cut) (added : List ℕ) → is_whole_pdu c.rest ≡ false → StaysOpen c.rest added → fold after_byte c added ≡ reached c (c.rest ++ added)
fold-reached c [] off stays = reached-none c off ∙ ap (λ (x : List ℕ). reached c x) (sym (append-nil c.rest))
fold-reached c (byte ∷ []) off stays =
    let first = more-not_refused c.rest (open-first c.rest (byte ∷ []) stays (omega arith)) in
    rw first (reached-with_rest c (c.rest ++ byte ∷ []))
fold-reached c (byte ∷ next ∷ added) off stays =
    let first = more-not_refused c.rest (open-first c.rest (byte ∷ next ∷ added) stays (omega arith)) in
    let grown : List ℕ = c.rest ++ byte ∷ [] in
    let more = stays (byte ∷ []) (next ∷ added) refl (omega arith) in
    let whole = more-not_whole grown more in
    let inner : Cut = record { pdus = c.pdus; rest = grown } in
    let goes : StaysOpen grown (next ∷ added) = λ part later parts some.
    ap (λ (x : List ℕ). pdu_state_of x) (append_assoc c.rest (byte ∷ []) part)
    ∙ stays (byte ∷ part) later (ap (λ (x : List ℕ). byte ∷ x) parts) some in
    rw (first, whole) (fold-reached inner (next ∷ added) whole goes ∙ ap (λ (x : List ℕ). reached c x) (append_assoc c.rest (byte ∷ []) (next ∷ added)))

-- what was taken, added to all that was before
pub takes-on : (old dropped new taken : List ℕ) → dropped ≡ open_of old → new ≡ dropped ++ taken → StaysOpen dropped taken → TakesOn old new taken
takes-on old dropped new taken drops is stays stream stands =
    let c = cut stream in
    let same : c.rest ≡ dropped = stands ∙ sym drops in
    let not_whole : is_whole_pdu c.rest ≡ false = ap is_whole_pdu stands ∙ open_of-not_whole old in
    let still : StaysOpen c.rest taken = λ part later parts some. ap (λ (x : List ℕ). pdu_state_of (x ++ part)) same ∙ stays part later parts some in
    let now : c.rest ++ taken ≡ new = ap (λ (x : List ℕ). x ++ taken) same ∙ sym is in
    let all : cut (stream ++ taken) ≡ reached c new =
    fold-append after_byte none_cut stream taken ∙ fold-reached c taken not_whole still ∙ ap (λ (x : List ℕ). reached c x) now in
    (ap (λ (x : Cut). x.rest) all, ap (λ (x : Cut). x.pdus) all)

-- a refused one is no PDU
pub refused-not_whole : (bytes : List ℕ) → IsGatheredPdu bytes → is_refused bytes ≡ true → is_whole_pdu bytes ≡ false
refused-not_whole bytes gathered on =
    let eight = gathered.refused on in
    ne_eqb (length bytes) (pdu_len bytes) (λ e. absurd (omega arith))

-- once there is no PDU, nothing is taken
pub feed-stays : (old dropped new both : List ℕ) (n : ℕ) → IsGatheredPdu old → dropped ≡ open_of old → new ≡ dropped ++ take n both → n ≤ length both → StaysOpen dropped (take n both) → is_refused old ≡ true → (n ≡ 0) × (new ≡ old)
feed-stays old dropped new both n gathered drops is fits stays on =
    let same : dropped ≡ old = drops ∙ rw (refused-not_whole old gathered on) refl in
    let none : n ≡ 0 = elim (cases_lt 0 n) [
      | inl some ↦
          let long : 0 < length (take n both) = omega (arith, length-take n both) in
          let more : is_refused dropped ≡ false = more-not_refused dropped (open-first dropped (take n both) stays long) in
          let e : true ≡ false = sym on ∙ ap is_refused (sym same) ∙ more in
          absurd cc
      | inr least ↦ omega arith
    ] in
    (none, is ∙ ap (λ (k : ℕ). dropped ++ take k both) none ∙ append-nil dropped ∙ same)

-- what is taken in two steps
pub gathers-joined : (old mid new bytes rest : List ℕ) (a b : ℕ) → mid ≡ old ++ take a bytes → rest ≡ drop a bytes → new ≡ mid ++ take b rest → new ≡ old ++ take (a + b) bytes
gathers-joined old mid new bytes rest a b mid_is rest_is new_is =
    new_is
    ∙ ap (λ (x : List ℕ). x ++ take b rest) mid_is
    ∙ ap (λ (x : List ℕ). (old ++ take a bytes) ++ take b x) rest_is
    ∙ append_assoc old (take a bytes) (take b (drop a bytes))
    ∙ ap (λ (x : List ℕ). old ++ x) (sym (take-sum a b bytes))

pub least-joined : (old mid bytes rest : List ℕ) (a b : ℕ) → mid ≡ old ++ take a bytes → rest ≡ drop a bytes → StaysOpen old (take a bytes) → StaysOpen mid (take b rest) → StaysOpen old (take (a + b) bytes)
least-joined old mid bytes rest a b mid_is rest_is one two part later parts some =
    let second : StaysOpen (old ++ take a bytes) (take b (drop a bytes)) = λ p l e s.
    ap (λ (x : List ℕ). pdu_state_of (x ++ p)) (sym mid_is) ∙ two p l (ap (λ (x : List ℕ). take b x) rest_is ∙ e) s in
    open-joined old (take a bytes) (take b (drop a bytes)) one second part later (sym (take-sum a b bytes) ∙ parts) some

-- of two pieces, the first of which was taken whole
pub take-both : (first second : List ℕ) (a b : ℕ) → a ≤ length first → length first ≤ a → take (a + b) (first ++ second) ≡ take a first ++ take b second
take-both first second a b most least =
    let same : length first ≡ a = omega arith in
    take-sum a b (first ++ second)
    ∙ ap (λ (x : List ℕ). x ++ take b (drop a (first ++ second))) (take-append-le a first second most)
    ∙ ap (λ (x : List ℕ). take a first ++ take b x) (drop_at first second a same)

pub gathers-both : (old mid new first second : List ℕ) (a b : ℕ) → a ≤ length first → length first ≤ a → mid ≡ old ++ take a first → new ≡ mid ++ take b second → new ≡ old ++ take (a + b) (first ++ second)
gathers-both old mid new first second a b most least mid_is new_is =
    new_is
    ∙ ap (λ (x : List ℕ). x ++ take b second) mid_is
    ∙ append_assoc old (take a first) (take b second)
    ∙ ap (λ (x : List ℕ). old ++ x) (sym (take-both first second a b most least))

pub least-both : (old mid first second : List ℕ) (a b : ℕ) → a ≤ length first → length first ≤ a → mid ≡ old ++ take a first → StaysOpen old (take a first) → StaysOpen mid (take b second) → StaysOpen old (take (a + b) (first ++ second))
least-both old mid first second a b most least mid_is one two part later parts some =
    let after : StaysOpen (old ++ take a first) (take b second) = λ p l e s.
    ap (λ (x : List ℕ). pdu_state_of (x ++ p)) (sym mid_is) ∙ two p l e s in
    open-joined old (take a first) (take b second) one after part later (sym (take-both first second a b most least) ∙ parts) some

-- up to the lengths
pub gathered-lengths : (old new bytes : List ℕ) (n most : ℕ) → IsGatheredPdu old → new ≡ old ++ take n bytes → most ≡ max (length old) 8 → n ≤ most - length old → IsGatheredPdu new
gathered-lengths old new bytes n most gathered is most_is few =
    elim (cases_lt 8 (length old)) [
      | inl long ↦
          let none : n ≡ 0 = omega arith in
          let same : old ≡ new = sym (is ∙ ap (λ (k : ℕ). old ++ take k bytes) none ∙ append-nil old) in
          subst IsGatheredPdu same gathered
      | inr short ↦
          let len : length new ≡ length old + length (take n bytes) = ap length is ∙ length-append old (take n bytes) in
          gathered-short new (omega (arith, len, length-take n bytes))
    ]

-- up to the PDU's end
pub rest-within : (old new bytes : List ℕ) (n len : ℕ) → new ≡ old ++ take n bytes → length old ≤ len → n ≤ len - length old → length new ≤ len
rest-within old new bytes n len is some few = omega (arith, ap length is, length-append old (take n bytes), length-take n bytes)

pub rest-all : (old new bytes : List ℕ) (n len : ℕ) → new ≡ old ++ take n bytes → 8 ≤ length old → len ≡ pdu_len old → length old ≤ len → n ≡ min (length bytes) (len - length old) → pdu_state_of new ≡ More → n ≡ length bytes
rest-all old new bytes n len is long len_is some count more =
    elim (cases_lt n (length bytes)) [
      | inl less ↦
          let all : length new ≡ len = omega (arith, ap length is, length-append old (take n bytes), length-take n bytes) in
          let same : pdu_len new ≡ len = ap pdu_len is ∙ pdu_len-kept old (take n bytes) long ∙ sym len_is in
          let e : true ≡ false = sym (eq-eqb (length new) (pdu_len new) (all ∙ sym same)) ∙ more-not_whole new more in
          absurd cc
      | inr least ↦ omega arith
    ]

-- what is gathered of a PDU whose length is known isn't longer
pub known-within : (old : List ℕ) → IsGatheredPdu old → is_refused old ≡ false → 8 ≤ length old → length old ≤ pdu_len old
known-within old gathered allowed long = gathered.short allowed long

-- bytes that are gathered and whole are the PDU
pub whole-reads : (bytes : List ℕ) → IsGatheredPdu bytes → is_whole_pdu bytes ≡ true → IsPduText bytes (pdu_of bytes)
whole-reads bytes gathered on =
    let len : length bytes ≡ pdu_len bytes = eqb-true (length bytes) (pdu_len bytes) on in
    let allowed : is_refused bytes ≡ false = either_way (is_refused bytes) (λ r. let e : true ≡ false = sym on ∙ refused-not_whole bytes gathered r in absurd cc) (λ off. off) in
    let eight : leb 8 (length bytes) ≡ true = le-leb 8 (length bytes) (omega arith) in
    let small : ltb 8192 (lengths bytes) ≡ false = sym (rw eight refl) ∙ allowed in
    let long : 48 ≤ length bytes = omega arith in
    let front : length (take 48 bytes) ≡ 48 = omega (arith, length-take 48 bytes) in
    let same : lengths bytes ≡ lengths (take 48 bytes) =
    ap lengths (sym (take-append-drop 48 bytes)) ∙ lengths-kept (take 48 bytes) (drop 48 bytes) (omega arith) in
    pdu_read bytes (take 48 bytes) (drop 48 bytes) (lengths bytes) refl refl front same (ltb-false 8192 (lengths bytes) small) (omega (arith, length-drop 48 bytes, len))

-- a step up to the end of a PDU whose length is known
pub record RestStep (old new bytes : List ℕ) (n : ℕ) : Type 0 where
  pub gathered : IsGatheredPdu new
  pub all : pdu_state_of new ≡ More → n ≡ length bytes
  pub least : StaysOpen old (take n bytes)

pub rest-step : (old new bytes : List ℕ) (n len : ℕ) → IsGatheredPdu old → IsKnown (Len len) old → new ≡ old ++ take n bytes → n ≡ min (length bytes) (len - length old) → RestStep old new bytes n
rest-step old new bytes n len gathered known is count =
    let fits : length old ≤ pdu_len old = gathered.short known.0 known.1 in
    let same : len ≡ pdu_len old = known.2 in
    let long : length new ≤ len = rest-within old new bytes n len is (omega arith) (omega arith) in
    let most : length (old ++ take n bytes) ≤ pdu_len old = omega (arith, long, ap length is) in
    record {
      gathered = gathered-rest old new (take n bytes) is known.1 known.0 (omega arith);
      all = rest-all old new bytes n len is known.1 same (omega arith) count;
      least = open-rest old (take n bytes) known.1 known.0 most;
    }
