-- Bytes spell at most one PDU, and what is written for a PDU spells it.
use Rattle.std.proofs.Common.{◌≡◌, ℕ, ◌+◌, ◌-◌, ◌≤◌, List, [], ◌∷◌, ◌++◌, Bool, true, eqb, length, take, drop, Some, refl, sym, ap, ◌∙◌, append_assoc, append-nil, arith}
use Rattle.std.proofs.lemmas.Bool.{eqb-true}
use Rattle.std.proofs.lemmas.List.{take_at, drop_at, take-append-drop, length-append, length-replicate, length-take}
use Rattle.nb_iscsipdu.specs.Heads.{lengths, padded_len}
use Rattle.nb_iscsipdu.specs.PduTexts.{PduParts, IsPdu, IsPduText, padding_for, pdu_text}

pub head_one : (bytes head : List ℕ) (p : PduParts) → head ≡ take 48 bytes → IsPduText bytes p → head ≡ p.head
head_one bytes head p head_is text =
    head_is ∙ ap (λ (x : List ℕ). take 48 x) text.spelled ∙ take_at p.head (p.seg ++ text.padding) 48 text.is.head

pub rest_one : (bytes rest : List ℕ) (p : PduParts) → rest ≡ drop 48 bytes → (text : IsPduText bytes p) → rest ≡ p.seg ++ text.padding
rest_one bytes rest p rest_is text =
    rest_is ∙ ap (λ (x : List ℕ). drop 48 x) text.spelled ∙ drop_at p.head (p.seg ++ text.padding) 48 text.is.head

-- the data's length is the one that the head states
pub len_one : (bytes head : List ℕ) (p : PduParts) → head ≡ take 48 bytes → IsPduText bytes p → lengths head ≡ length p.seg
len_one bytes head p head_is text = ap lengths (head_one bytes head p head_is text) ∙ text.is.len

pub short_one : (bytes head : List ℕ) (p : PduParts) → head ≡ take 48 bytes → IsPduText bytes p → lengths head ≤ 8192
short_one bytes head p head_is text = omega (arith, len_one bytes head p head_is text, text.is.short)

pub padded_one : (bytes head rest : List ℕ) (p : PduParts) → head ≡ take 48 bytes → rest ≡ drop 48 bytes → IsPduText bytes p → length rest ≡ padded_len (lengths head)
padded_one bytes head rest p head_is rest_is text =
    ap length (rest_one bytes rest p rest_is text) ∙ length-append p.seg text.padding ∙ text.padded ∙ ap padded_len (sym (len_one bytes head p head_is text))

abbrev pdu_made : List ℕ → List ℕ → PduParts
pdu_made head seg = record { head = head; seg = seg }

pub pdu_one : (bytes head rest : List ℕ) (len : ℕ) (p : PduParts) → head ≡ take 48 bytes → rest ≡ drop 48 bytes → len ≡ lengths head → IsPduText bytes p → Some (pdu_made head (take len rest)) ≡ Some p
pdu_one bytes head rest len p head_is rest_is len_is text =
    let same : length p.seg ≡ len = sym (len_is ∙ len_one bytes head p head_is text) in
    let seg : take len rest ≡ p.seg = ap (λ (x : List ℕ). take len x) (rest_one bytes rest p rest_is text) ∙ take_at p.seg text.padding len same in
    ap (λ (x : List ℕ). Some (pdu_made x (take len rest))) (head_one bytes head p head_is text)
    ∙ ap (λ (x : List ℕ). Some (pdu_made p.head x)) seg

-- bytes of the right length are the PDU
pub pdu_read : (bytes head rest : List ℕ) (len : ℕ) → head ≡ take 48 bytes → rest ≡ drop 48 bytes → length head ≡ 48 → len ≡ lengths head → len ≤ 8192 → length rest ≡ padded_len len
    → IsPduText bytes (pdu_made head (take len rest))
pdu_read bytes head rest len head_is rest_is long len_is short padded =
    let parts : take len rest ++ drop len rest ≡ rest = take-append-drop len rest in
    let all : length (take len rest) + length (drop len rest) ≡ padded_len len = sym (length-append (take len rest) (drop len rest)) ∙ ap length parts ∙ padded in
    let is : length (take len rest) ≡ len = omega (arith, padded, length-take len rest) in
    record {
      is = record { head = long; len = sym len_is ∙ sym is; short = omega (arith, is, short) };
      padding = drop len rest;
      padded = all ∙ ap padded_len (sym is);
      spelled =
          sym (take-append-drop 48 bytes)
          ∙ ap (λ (x : List ℕ). x ++ drop 48 bytes) (sym head_is)
          ∙ ap (λ (x : List ℕ). head ++ x) (sym rest_is)
          ∙ ap (λ (x : List ℕ). head ++ x) (sym parts);
    }

pub pdu_text-reads : (p : PduParts) → IsPdu p → IsPduText (pdu_text p) p
unfolding pdu_text
pdu_text-reads p is = record {
  is = is;
  padding = padding_for (length p.seg);
  padded = omega (arith, length-replicate {A = ℕ} (padded_len (length p.seg) - length p.seg) 0);
  spelled = refl;
}

pub length-pdu_text : (p : PduParts) → IsPdu p → length (pdu_text p) ≡ 48 + padded_len (length p.seg)
unfolding pdu_text
length-pdu_text p is =
    omega (arith, is.head, length-append p.head (p.seg ++ padding_for (length p.seg)), length-append p.seg (padding_for (length p.seg)), length-replicate {A = ℕ} (padded_len (length p.seg) - length p.seg) 0)

pub head-long : (bytes head : List ℕ) (n : ℕ) → head ≡ take 48 bytes → n + 48 ≡ length bytes → length head ≡ 48
head-long bytes head n is len = omega (arith, ap length is, length-take 48 bytes)

-- how much room its parts need
pub parts_len : (p : PduParts) (padding : List ℕ) → IsPdu p → padding ≡ padding_for (length p.seg) → 48 + length p.seg + length padding ≡ length (pdu_text p)
parts_len p padding is padding_is =
    omega (arith, length-pdu_text p is, ap length padding_is, length-replicate {A = ℕ} (padded_len (length p.seg) - length p.seg) 0)

-- its parts, put one after the other
pub parts_put : (p : PduParts) (old one two three padding : List ℕ) → padding ≡ padding_for (length p.seg) → one ≡ old ++ p.head → two ≡ one ++ p.seg → three ≡ two ++ padding → three ≡ old ++ pdu_text p
unfolding pdu_text
parts_put p old one two three padding padding_is one_is two_is three_is =
    three_is
    ∙ ap (λ (x : List ℕ). x ++ padding) two_is
    ∙ ap (λ (x : List ℕ). (x ++ p.seg) ++ padding) one_is
    ∙ ap (λ (x : List ℕ). ((old ++ p.head) ++ p.seg) ++ x) padding_is
    ∙ append_assoc (old ++ p.head) p.seg (padding_for (length p.seg))
    ∙ append_assoc old p.head (p.seg ++ padding_for (length p.seg))

-- without data it is its head
pub head_alone : (p : PduParts) → p.seg ≡ [] → pdu_text p ≡ p.head
unfolding pdu_text
head_alone p none = ap (λ (x : List ℕ). p.head ++ (x ++ padding_for (length x))) none ∙ append-nil p.head

pub none_in : (bytes : List ℕ) (b : Bool) → b ≡ eqb (length bytes) 0 → b ≡ true → bytes ≡ []
none_in [] b is on = refl
none_in (byte ∷ bytes) b is on = absurd (let zero_len : length (byte ∷ bytes) ≡ 0 = eqb-true (length (byte ∷ bytes)) 0 (sym is ∙ on) in omega arith)
