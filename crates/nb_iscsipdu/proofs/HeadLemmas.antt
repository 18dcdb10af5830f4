-- Heads by their bytes: what is written is the head of these fields, and a word is read at its place.
use Rattle.std.proofs.Common.{◌≡◌, ℕ, ◌+◌, ◌≤◌, ◌<◌, ◌^◌, List, [], ◌∷◌, ◌++◌, length, get_or, zero, suc, take, drop, refl, sym, ap, ◌∙◌, arith, drop-cons}
use Rattle.std.specs.Int.{w32, to_be_bytes, from_be_bytes}
use Rattle.std.proofs.lemmas.List.{length-append, drop_all}
use Rattle.std.proofs.lemmas.Nat.{from_be_bytes-to_be_bytes_4}
use Rattle.nb_iscsipdu.specs.Heads.{word_at, lengths}
use Rattle.nb_iscsipdu.specs.PduTexts.{IsPdu}
use Rattle.nb_iscsipdu.specs.Requests.{head_of}

-- n elements of a list, from place i on
abbrev pub elements : ℕ → ℕ → List ℕ → List ℕ
elements zero i xs = []
elements (suc n) i xs = get_or xs i 0 ∷ elements n (suc i) xs

elements-drop : (n i : ℕ) (xs : List ℕ) → length xs ≡ i + n → elements n i xs ≡ drop i xs
elements-drop zero i xs len = sym (drop_all i xs (omega arith))
elements-drop (suc n) i xs len =
    ap (λ (x : List ℕ). get_or xs i 0 ∷ x) (elements-drop n (suc i) xs (omega arith)) ∙ sym (drop-cons xs i 0 (omega arith))

-- a list by its elements
pub elements-all : (n : ℕ) (xs : List ℕ) → length xs ≡ n → elements n 0 xs ≡ xs
elements-all n xs len = elements-drop n 0 xs (omega arith)

pub four_at : (place : ℕ) (head : List ℕ) → place + 4 ≤ length head
    → take 4 (drop place head) ≡ get_or head place 0 ∷ get_or head (place + 1) 0 ∷ get_or head (place + 2) 0 ∷ get_or head (place + 3) 0 ∷ []
four_at zero [] h = absurd (omega arith)
four_at zero (a ∷ []) h = absurd (omega arith)
four_at zero (a ∷ b ∷ []) h = absurd (omega arith)
four_at zero (a ∷ b ∷ c ∷ []) h = absurd (omega arith)
four_at zero (a ∷ b ∷ c ∷ d ∷ rest) h = refl
four_at (suc n) [] h = absurd (omega arith)
four_at (suc n) (a ∷ rest) h =
    let one : suc n + 1 ≡ suc (n + 1) = omega arith in
    let two : suc n + 2 ≡ suc (n + 2) = omega arith in
    let three : suc n + 3 ≡ suc (n + 3) = omega arith in
    rw (one, two, three) (four_at n rest (omega arith))

-- the number read at a place, by its four bytes
pub word_read : (place : ℕ) (head : List ℕ) (word : ℕ) → place + 4 ≤ length head
    → word ≡ from_be_bytes w32 (get_or head place 0 ∷ get_or head (place + 1) 0 ∷ get_or head (place + 2) 0 ∷ get_or head (place + 3) 0 ∷ [])
    → word ≡ word_at place head
unfolding word_at
word_read place head word within is = is ∙ ap (λ (x : List ℕ). from_be_bytes w32 x) (sym (four_at place head within))

abbrev pub as_four : List ℕ → List ℕ
as_four x = get_or x 0 0 ∷ get_or x 1 0 ∷ get_or x 2 0 ∷ get_or x 3 0 ∷ []

-- the bytes that are written are the head of these fields
pub head_written : (code flags len task_tag word cmd_sn exp_stat_sn : ℕ) (lun eight last sixteen n t w c e : List ℕ)
    → n ≡ to_be_bytes w32 len → eight ≡ lun → t ≡ to_be_bytes w32 task_tag → w ≡ to_be_bytes w32 word → c ≡ to_be_bytes w32 cmd_sn → e ≡ to_be_bytes w32 exp_stat_sn → sixteen ≡ last
    → code ∷ flags ∷ 0 ∷ 0 ∷ (as_four n ++ (eight ++ (as_four t ++ (as_four w ++ (as_four c ++ (as_four e ++ sixteen)))))) ≡ head_of code flags len lun task_tag word cmd_sn exp_stat_sn last
unfolding head_of
head_written code flags len task_tag word cmd_sn exp_stat_sn lun eight last sixteen n t w c e n_is lun_is t_is w_is c_is e_is last_is =
    let n4 = to_be_bytes w32 len in
    let t4 = to_be_bytes w32 task_tag in
    let w4 = to_be_bytes w32 word in
    let c4 = to_be_bytes w32 cmd_sn in
    let e4 = to_be_bytes w32 exp_stat_sn in
    ap (λ (x : List ℕ). code ∷ flags ∷ 0 ∷ 0 ∷ (as_four x ++ (eight ++ (as_four t ++ (as_four w ++ (as_four c ++ (as_four e ++ sixteen))))))) n_is
    ∙ ap (λ (x : List ℕ). code ∷ flags ∷ 0 ∷ 0 ∷ (n4 ++ (x ++ (as_four t ++ (as_four w ++ (as_four c ++ (as_four e ++ sixteen))))))) lun_is
    ∙ ap (λ (x : List ℕ). code ∷ flags ∷ 0 ∷ 0 ∷ (n4 ++ (lun ++ (as_four x ++ (as_four w ++ (as_four c ++ (as_four e ++ sixteen))))))) t_is
    ∙ ap (λ (x : List ℕ). code ∷ flags ∷ 0 ∷ 0 ∷ (n4 ++ (lun ++ (t4 ++ (as_four x ++ (as_four c ++ (as_four e ++ sixteen))))))) w_is
    ∙ ap (λ (x : List ℕ). code ∷ flags ∷ 0 ∷ 0 ∷ (n4 ++ (lun ++ (t4 ++ (w4 ++ (as_four x ++ (as_four e ++ sixteen))))))) c_is
    ∙ ap (λ (x : List ℕ). code ∷ flags ∷ 0 ∷ 0 ∷ (n4 ++ (lun ++ (t4 ++ (w4 ++ (c4 ++ (as_four x ++ sixteen))))))) e_is
    ∙ ap (λ (x : List ℕ). code ∷ flags ∷ 0 ∷ 0 ∷ (n4 ++ (lun ++ (t4 ++ (w4 ++ (c4 ++ (e4 ++ x))))))) last_is

length-head_of : (code flags len task_tag word cmd_sn exp_stat_sn : ℕ) (lun last : List ℕ) → length lun ≡ 8 → length last ≡ 16
    → length (head_of code flags len lun task_tag word cmd_sn exp_stat_sn last) ≡ 48
unfolding head_of
length-head_of code flags len task_tag word cmd_sn exp_stat_sn lun last eight sixteen =
    omega (arith, length-append lun (to_be_bytes w32 task_tag ++ (to_be_bytes w32 word ++ (to_be_bytes w32 cmd_sn ++ (to_be_bytes w32 exp_stat_sn ++ last)))))

lengths-head_of : (code flags len task_tag word cmd_sn exp_stat_sn : ℕ) (lun last : List ℕ) → len < 2 ^ 32
    → lengths (head_of code flags len lun task_tag word cmd_sn exp_stat_sn last) ≡ len
unfolding head_of word_at
lengths-head_of code flags len task_tag word cmd_sn exp_stat_sn lun last fits = from_be_bytes-to_be_bytes_4 len fits

-- the head of these fields and data of the length that it states are a PDU
pub head_is : (code flags len task_tag word cmd_sn exp_stat_sn : ℕ) (lun last seg : List ℕ) → length lun ≡ 8 → length last ≡ 16 → length seg ≡ len → len ≤ 8192
    → IsPdu (record { head = head_of code flags len lun task_tag word cmd_sn exp_stat_sn last; seg = seg })
head_is code flags len task_tag word cmd_sn exp_stat_sn lun last seg eight sixteen is short = record {
  head = length-head_of code flags len task_tag word cmd_sn exp_stat_sn lun last eight sixteen;
  len = lengths-head_of code flags len task_tag word cmd_sn exp_stat_sn lun last (omega arith) ∙ sym is;
  short = omega arith;
}
