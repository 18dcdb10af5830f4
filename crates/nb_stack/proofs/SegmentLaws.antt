-- A segment whose checksum is put into its place, and the sum of the words before its options.
use Rattle.std.proofs.Common.{◌≡◌, ℕ, ◌+◌, ◌*◌, ◌<◌, ◌^◌, List, [], ◌∷◌, ◌++◌, length, get_or, take, drop, refl, sym, ap, subst, ◌∙◌, append-nil, append_assoc, sum, arith}
use Rattle.std.specs.Int.{w16, w32, to_be_bytes}
use Rattle.std.proofs.lemmas.List.{length-append, take-append-le, drop-append-le}
use Rattle.nb_wire.specs.Checksum.{words, checksum, HasSum}
use Rattle.nb_wire.specs.declared.address.Ip4.{Ip4}
use Rattle.nb_wire.proofs.BytesLaws.{IsBytes}
use Rattle.nb_wire.proofs.ChecksumLaws.{SameSum-parts, IsBytes-append}
use Rattle.nb_ipv4.proofs.NumberLaws.{bytes_of, same_of, elements, elements-drop}
use Rattle.nb_tcpseg.specs.SegmentText.{tcp_pseudo_header}
use Rattle.nb_stack.specs.Sends.{without_checksum, checksum_of, with_checksum}

-- twenty bytes with 0 in place of the checksum, one by one
abbrev unsummed : List ℕ → List ℕ
unsummed fixed = elements 16 0 fixed ++ 0 ∷ 0 ∷ elements 2 18 fixed

unsummed_is : (fixed : List ℕ) → length fixed ≡ 20 → unsummed fixed ≡ without_checksum fixed
unsummed_is fixed len = ap (λ (x : List ℕ). take 16 x ++ 0 ∷ 0 ∷ drop 18 x) (elements-drop 20 0 fixed len)

pub pseudo_has_sum : (src dst : Ip4) (len n : ℕ) → len < 2 ^ 16 → n ≡ sum (words (to_be_bytes w32 src.0)) + sum (words (to_be_bytes w32 dst.0)) + 6 + len → HasSum (tcp_pseudo_header src dst len) n
unfolding tcp_pseudo_header
pseudo_has_sum src dst len n room is =
    let e : n ≡ sum (words (tcp_pseudo_header src dst len)) = omega (arith, is, room) in
    record {
      even = refl;
      fits = bytes_of (tcp_pseudo_header src dst len) (omega arith, (omega arith, (omega arith, (omega arith, (omega arith, (omega arith, (omega arith, (omega arith, (omega arith, (omega arith, (omega arith, (omega arith, tt))))))))))));
      same = same_of e;
    }

-- a word of the header, by the place of its first byte
abbrev pub word_from : List ℕ → ℕ → ℕ → ℕ
word_from fixed i j = 256 * get_or fixed i 0 + get_or fixed j 0

abbrev pub header_words : List ℕ → ℕ
header_words fixed =
    word_from fixed 0 1 + word_from fixed 2 3 + (word_from fixed 4 5 + word_from fixed 6 7 + word_from fixed 8 9 + word_from fixed 10 11)
    + (word_from fixed 12 13 + word_from fixed 14 15 + word_from fixed 18 19)

header_has_sum : (fixed : List ℕ) → IsBytes fixed → length fixed ≡ 20 → HasSum (without_checksum fixed) (header_words fixed)
header_has_sum fixed fits len =
    let e : header_words fixed ≡ sum (words (unsummed fixed)) = omega arith in
    let P : List ℕ → Type 0 = λ x. HasSum x (header_words fixed) in
    subst P (unsummed_is fixed len) (record {
      even = refl;
      fits = bytes_of (unsummed fixed) (fits 0, (fits 1, (fits 2, (fits 3, (fits 4, (fits 5, (fits 6, (fits 7, (fits 8, (fits 9, (fits 10, (fits 11, (fits 12, (fits 13, (fits 14, (fits 15, (omega arith, (omega arith, (fits 18, (fits 19, tt))))))))))))))))))));
      same = same_of e;
    })

pub covered_has_sum : (src dst : Ip4) (len m n : ℕ) (fixed : List ℕ) → HasSum (tcp_pseudo_header src dst len) m → IsBytes fixed → length fixed ≡ 20 → n ≡ m + header_words fixed → HasSum (tcp_pseudo_header src dst len ++ without_checksum fixed) n
covered_has_sum src dst len m n fixed pseudo fits twenty is =
    let header = header_has_sum fixed fits twenty in
    let front = tcp_pseudo_header src dst len in
    let P : ℕ → Type 0 = λ k. HasSum (front ++ without_checksum fixed) k in
    subst P (sym is) (record {
      even = omega (arith, length-append front (without_checksum fixed), pseudo.even, header.even);
      fits = IsBytes-append front (without_checksum fixed) pseudo.fits header.fits;
      same = SameSum-parts front (without_checksum fixed) m (header_words fixed) pseudo.even pseudo.same header.same;
    })

-- a segment that is a header alone, with its checksum
pub header_whole : (src dst : Ip4) (fixed unsummed : List ℕ) (field : ℕ) → length fixed ≡ 20 → unsummed ≡ take 16 fixed ++ to_be_bytes w16 0 ++ drop 18 fixed → field ≡ checksum (tcp_pseudo_header src dst 20 ++ (unsummed ++ [])) → take 16 fixed ++ to_be_bytes w16 field ++ drop 18 fixed ≡ with_checksum src dst fixed
unfolding with_checksum
header_whole src dst fixed unsummed field twenty is field_is =
    let without : unsummed ++ [] ≡ without_checksum fixed = append-nil unsummed ∙ is ∙ append_assoc (take 16 fixed) (0 ∷ 0 ∷ []) (drop 18 fixed) in
    let sum_is : field ≡ checksum_of src dst fixed =
    field_is
    ∙ ap (λ (x : List ℕ). checksum (tcp_pseudo_header src dst 20 ++ x)) without
    ∙ ap (λ (n : ℕ). checksum (tcp_pseudo_header src dst n ++ without_checksum fixed)) (sym twenty) in
    ap (λ (n : ℕ). take 16 fixed ++ to_be_bytes w16 n ++ drop 18 fixed) sum_is

-- a header with its checksum, and what follows it
pub segment_whole : (src dst : Ip4) (fixed options second first head : List ℕ) (field len : ℕ) → length fixed ≡ 20 → first ≡ fixed ++ options → head ≡ take 16 fixed ++ to_be_bytes w16 field ++ drop 18 fixed → len ≡ length (first ++ second) → field ≡ checksum ((tcp_pseudo_header src dst len ++ without_checksum fixed) ++ (options ++ second)) → head ++ (options ++ second) ≡ with_checksum src dst (first ++ second)
unfolding with_checksum
segment_whole src dst fixed options second first head field len twenty first_is head_is len_is field_is =
    let rest = options ++ second in
    let bytes = first ++ second in
    let apart : bytes ≡ fixed ++ rest = ap (λ (x : List ℕ). x ++ second) first_is ∙ append_assoc fixed options second in
    let before : take 16 bytes ≡ take 16 fixed = ap (λ (x : List ℕ). take 16 x) apart ∙ take-append-le 16 fixed rest (omega (arith, twenty)) in
    let after : drop 18 bytes ≡ drop 18 fixed ++ rest = ap (λ (x : List ℕ). drop 18 x) apart ∙ drop-append-le 18 fixed rest (omega (arith, twenty)) in
    let without : without_checksum bytes ≡ without_checksum fixed ++ rest =
    ap (λ (x : List ℕ). x ++ 0 ∷ 0 ∷ drop 18 bytes) before ∙ ap (λ (x : List ℕ). take 16 fixed ++ 0 ∷ 0 ∷ x) after
    ∙ sym (append_assoc (take 16 fixed) (0 ∷ 0 ∷ drop 18 fixed) rest) in
    let sum_is : field ≡ checksum_of src dst bytes =
    field_is
    ∙ ap checksum (append_assoc (tcp_pseudo_header src dst len) (without_checksum fixed) rest)
    ∙ ap (λ (x : List ℕ). checksum (tcp_pseudo_header src dst len ++ x)) (sym without)
    ∙ ap (λ (n : ℕ). checksum (tcp_pseudo_header src dst n ++ without_checksum bytes)) len_is in
    ap (λ (x : List ℕ). x ++ rest) head_is
    ∙ append_assoc (take 16 fixed ++ to_be_bytes w16 field) (drop 18 fixed) rest
    ∙ ap (λ (x : List ℕ). x ++ to_be_bytes w16 field ++ (drop 18 fixed ++ rest)) (sym before)
    ∙ ap (λ (x : List ℕ). take 16 bytes ++ to_be_bytes w16 field ++ x) (sym after)
    ∙ ap (λ (n : ℕ). take 16 bytes ++ to_be_bytes w16 n ++ drop 18 bytes) sum_is
