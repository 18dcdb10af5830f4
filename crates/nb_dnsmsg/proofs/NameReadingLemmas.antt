-- A name that is read by functions is the one that the grammar says.
use Rattle.std.proofs.Common.{◌≡◌, ℕ, zero, suc, ◌+◌, ◌-◌, ◌*◌, ◌<◌, ◌≤◌, List, [], ◌∷◌, ◌++◌, length, take, drop, Bool, true, false, ltb, leb, eqb, Option, Some, None, refl, sym, ◌∙◌, ap, subst, arith, length-drop, length-take-le, length-append, suc-mul}
use Rattle.std.specs.Option.{option_map}
use Rattle.std.proofs.lemmas.Bool.{ltb-true, ltb-false, leb-true, leb-false, eqb-true, eqb-false}
use Rattle.std.proofs.Math.Nat.{mul-le-mul_right}
use Rattle.std.proofs.lemmas.List.{take-append-drop}
use Rattle.nb_dnsmsg.specs.Names.{IsLabel, IsRestAt, root_here, label_here, pointer_here, IsNameAt}
use Rattle.nb_dnsmsg.specs.Walks.{BeginsNoPiece}
use Rattle.nb_dnsmsg.specs.Reading.{Piece, root_piece, label_piece, pointer_piece, no_piece, label_of, pointer_of, piece_of, with_label, ends_after, rest_read, rest_by, most_pieces, name_within_limit, dns_name_read}
use Rattle.nb_dnsmsg.proofs.RestLemmas.{label_cut, pointer_cut, no_rest, rest_one}

-- either answer of a test
pub either_way : {P : Type 0} (b : Bool) → (b ≡ true → P) → (b ≡ false → P) → P
either_way true on off = on refl
either_way false on off = off refl

abbrev pub IsPiece : Piece → List ℕ → Type 0
IsPiece root_piece bytes = (after : List ℕ) × (bytes ≡ 0 ∷ after)
IsPiece (label_piece l) bytes = IsLabel l × ((after : List ℕ) × (bytes ≡ length l ∷ (l ++ after)))
IsPiece (pointer_piece target) bytes = (high : ℕ) × (low : ℕ) × (after : List ℕ) × (bytes ≡ high ∷ low ∷ after) × (192 ≤ high) × (target ≡ (high - 192) * 256 + low)
IsPiece no_piece bytes = BeginsNoPiece bytes

no_begin : BeginsNoPiece []
no_begin = record { root = λ after e. cc; label = λ l after are e. cc; pointer = λ high low after e big. cc }

label_is : (size : ℕ) (bytes : List ℕ) → 0 < size → size < 64 → IsPiece (label_of size bytes) (size ∷ bytes)
label_is size bytes some few = either_way (leb size (length bytes))
    (λ on.
    let within : size ≤ length bytes = leb-true size (length bytes) on in
    let same : length (take size bytes) ≡ size = length-take-le size bytes within in
    rw on (record { some = omega (arith, some, same); few = omega (arith, few, same) }, (drop size bytes, cc (same, take-append-drop size bytes))))
    (λ off. let short : length bytes < size = leb-false size (length bytes) off in rw off (record {
      root = λ after e. let z : size ≡ 0 = cc in omega (arith, z, some);
      label = λ l after are e. let z : size ≡ length l = cc in let b : bytes ≡ l ++ after = cc in let n : length bytes ≡ length l + length after = ap length b ∙ length-append l after in omega (arith, z, n, short);
      pointer = λ high low after e big. let z : size ≡ high = cc in omega (arith, z, big, few);
    }))

pointer_is : (high : ℕ) (bytes : List ℕ) → 192 ≤ high → IsPiece (pointer_of high bytes) (high ∷ bytes)
pointer_is high [] big = record {
  root = λ after e. let z : high ≡ 0 = cc in omega (arith, z, big);
  label = λ l after are e. let z : high ≡ length l = cc in let few = are.few in omega (arith, z, few, big);
  pointer = λ a low after e more. cc;
}
pointer_is high (low ∷ after) big = (high, low, after, refl, big, refl)

middle_none : (first : ℕ) (bytes : List ℕ) → 64 ≤ first → first < 192 → BeginsNoPiece (first ∷ bytes)
middle_none first bytes many low = record {
  root = λ after e. let z : first ≡ 0 = cc in omega (arith, z, many);
  label = λ l after are e. let z : first ≡ length l = cc in let few = are.few in omega (arith, z, few, many);
  pointer = λ high second after e big. let z : first ≡ high = cc in omega (arith, z, big, low);
}

piece_is : (bytes : List ℕ) → IsPiece (piece_of bytes) bytes
piece_is [] = no_begin
piece_is (first ∷ bytes) = either_way (eqb first 0)
    (λ zero. let z = eqb-true first 0 zero in rw zero (bytes, ap (λ x. x ∷ bytes) z))
    (λ some. rw some (either_way (ltb first 64)
    (λ few. rw few (label_is first bytes (let other = eqb-false first 0 some in omega (arith, other)) (ltb-true first 64 few)))
    (λ many. rw many (either_way (leb 192 first)
    (λ big. rw big (pointer_is first bytes (leb-true 192 first big)))
    (λ middle. rw middle (middle_none first bytes (ltb-false first 64 many) (leb-false 192 first middle)))))))

abbrev pub ReadsRest : Option (List ℕ × ℕ) → List ℕ → ℕ → ℕ → Type 0
ReadsRest None message part place = (rest : List ℕ) (end : ℕ) → IsRestAt message part place rest end → ⊥
ReadsRest (Some read) message part place = IsRestAt message part place read.0 read.1

abbrev way : List ℕ → ℕ → ℕ → ℕ
way message part place = part * suc (length message) + (length message - place)

label_on : (message : List ℕ) (part place : ℕ) (l after : List ℕ) → IsLabel l → drop place message ≡ length l ∷ (l ++ after) → (o : Option (List ℕ × ℕ)) → ReadsRest o message part (place + (1 + length l))
    → ReadsRest (option_map (with_label l) o) message part place
label_on message part place l after are at None none = λ rest end h.
    let (more, is, g) = label_cut message part place rest end l after are at h in none more end g
label_on message part place l after are at (Some read) h = label_here part place (length l ∷ (l ++ read.0)) read.1 l read.0 after are at refl h

pointer_on : (message : List ℕ) (part place high low target : ℕ) (after : List ℕ) → drop place message ≡ high ∷ low ∷ after → 192 ≤ high → target ≡ (high - 192) * 256 + low → target < part → (o : Option (List ℕ × ℕ)) → ReadsRest o message target target
    → ReadsRest (option_map (ends_after place) o) message part place
pointer_on message part place high low target after at big is back None none = λ rest end h.
    let p = pointer_cut message part place rest end high low after at big h in
    none rest p.last (subst (λ x. IsRestAt message x x rest p.last) (sym is) p.spelled)
pointer_on message part place high low target after at big is back (Some read) h = pointer_here part place read.0 (place + 2) high low target read.1 after at big is back h refl

no_pointer : (message : List ℕ) (part place high low target : ℕ) (after : List ℕ) → drop place message ≡ high ∷ low ∷ after → 192 ≤ high → target ≡ (high - 192) * 256 + low → part ≤ target → (rest : List ℕ) (end : ℕ) → IsRestAt message part place rest end → ⊥
no_pointer message part place high low target after at big is forwards rest end h =
    let p = pointer_cut message part place rest end high low after at big h in
    let back = p.back in omega (arith, back, is, forwards)

label_nearer : (message : List ℕ) (part place : ℕ) (l after : List ℕ) → drop place message ≡ length l ∷ (l ++ after) → way message part (place + (1 + length l)) < way message part place
label_nearer message part place l after at =
    let size : length message - place ≡ suc (length (l ++ after)) = sym (length-drop place message) ∙ ap length at in
    omega (arith, size)

times_nearer : (a b k : ℕ) → a < b → a * suc k + suc k ≤ b * suc k
times_nearer a b k less = let h : suc a * suc k ≤ b * suc k = mul-le-mul_right (suc k) less in omega (arith, h, suc-mul a (suc k))

pointer_nearer : (message : List ℕ) (part place target : ℕ) → target < part → way message target target < way message part place
pointer_nearer message part place target less = let h = times_nearer target part (length message) less in omega (arith, h)

-- the rest of a name by its piece, where what follows the piece is read as it stands
rest_by_is : (reads : ℕ → ℕ → Option (List ℕ × ℕ)) (message : List ℕ) (part place : ℕ) → ((p q : ℕ) → way message p q < way message part place → ReadsRest (reads p q) message p q)
    → (p : Piece) → IsPiece p (drop place message) → ReadsRest (rest_by reads part place p) message part place
rest_by_is reads message part place follows root_piece (after, at) = root_here part place (0 ∷ []) (place + 1) after at refl refl
rest_by_is reads message part place follows (label_piece l) (are, (after, at)) =
    label_on message part place l after are at (reads part (place + (1 + length l))) (follows part (place + (1 + length l)) (label_nearer message part place l after at))
rest_by_is reads message part place follows (pointer_piece target) (high, low, after, at, big, is) = either_way (ltb target part)
    (λ on.
    let back : target < part = ltb-true target part on in
    rw on (pointer_on message part place high low target after at big is back (reads target target) (follows target target (pointer_nearer message part place target back))))
    (λ off. rw off (no_pointer message part place high low target after at big is (ltb-false target part off)))
rest_by_is reads message part place follows no_piece none = λ rest end h. no_rest message part place rest end none h

pub rest_is : (n : ℕ) (message : List ℕ) (part place : ℕ) → way message part place < n → ReadsRest (rest_read n message part place) message part place
unfolding rest_read
rest_is zero message part place few = absurd (omega (arith, few))
rest_is (suc n) message part place few =
    rest_by_is (rest_read n message) message part place (λ p q near. rest_is n message p q (omega (arith, near, few))) (piece_of (drop place message)) (piece_is (drop place message))

abbrev pub ReadsName : Option (List ℕ × ℕ) → List ℕ → ℕ → Type 0
ReadsName None message place = (name : List ℕ) (end : ℕ) → IsNameAt message place name end → ⊥
ReadsName (Some read) message place = IsNameAt message place read.0 read.1

pub name_is : (message : List ℕ) (place : ℕ) → ReadsName (dns_name_read message place) message place
unfolding dns_name_read
name_is message place = limited (rest_read (most_pieces message place) message place place) (rest_is (most_pieces message place) message place place (omega (arith, suc-mul place (suc (length message)))))
  where
    limited : (o : Option (List ℕ × ℕ)) → ReadsRest o message place place → ReadsName (name_within_limit o) message place
    limited None none = λ name end h. none name end h.spelled
    limited (Some read) h = either_way (leb (length read.0) 255)
        (λ on. rw on (record { spelled = h; short = leb-true (length read.0) 255 on }))
        (λ off. rw off (λ name end g.
        let one = rest_one message place place name read.0 end read.1 g.spelled h in
        let size = ap length one.0 in let short = g.short in let long = leb-false (length read.0) 255 off in
        absurd (omega (arith, size, short, long))))
