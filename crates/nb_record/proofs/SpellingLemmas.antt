-- The parts of an output record, put one after another, are its spelling.
use Rattle.std.proofs.Common.{◌≡◌, ℕ, ◌+◌, ◌<◌, Bool, true, false, List, [], ◌∷◌, ◌++◌, length, take, get_or, refl, sym, ap, ◌∙◌, append_assoc, arith}
use Rattle.std.specs.Int.{w16, w32, to_be_bytes}
use Rattle.std.specs.List.{flat_map}
use Rattle.std.proofs.lemmas.List.{append-nil, length-append, take_more, flat_map_more}
use mir.Val.{bool_byte}
use Rattle.nb_defs.specs.Records.{out_text, out_texts, command, sent, tried, record_text, word_text, flag_of}
use Rattle.nb_record.specs.Logged.{Logged, Puts}
use Rattle.nb_record.proofs.LogLemmas.{Puts-then, Puts-same}

pub word_puts : (a b c : Logged) (w : List ℕ) → Puts a b (to_be_bytes w16 (length w)) → Puts b c w → Puts a c (word_text w)
unfolding word_text
word_puts a b c w p q = Puts-then a b c (to_be_bytes w16 (length w)) w p q

-- the length and the type, then the body's head and its tail
pub parts_puts : (a b c d : Logged) (kind : ℕ) (head tail : List ℕ) → Puts a b (to_be_bytes w32 (length head + length tail + 1) ++ kind ∷ [])
    → Puts b c head → Puts c d tail → Puts a d (record_text kind (head ++ tail))
unfolding record_text
parts_puts a b c d kind head tail p q r =
    let n = length head + length tail + 1 in
    Puts-same a d ((to_be_bytes w32 n ++ (kind ∷ [])) ++ head ++ tail) _
    (ap (λ (n : ℕ). to_be_bytes w32 (n + 1) ++ (kind ∷ (head ++ tail))) (sym (length-append head tail)))
    (Puts-then a c d ((to_be_bytes w32 n ++ (kind ∷ [])) ++ head) tail (Puts-then a b c (to_be_bytes w32 n ++ (kind ∷ [])) head p q) r)

-- a TRY, and the length, the type and the bytes of a FRAME
pub tried_then_sent : (number n : ℕ) (frame : List ℕ)
    → (out_text (tried number n) ++ (to_be_bytes w32 (length frame + 1) ++ 0x82 ∷ [])) ++ frame ≡ out_texts (tried number n ∷ sent frame ∷ [])
unfolding out_text record_text
tried_then_sent number n frame =
    append_assoc (out_text (tried number n)) (to_be_bytes w32 (length frame + 1) ++ 0x82 ∷ []) frame
    ∙ ap (λ (w : List ℕ). out_text (tried number n) ++ w) (sym (append-nil (record_text 0x82 frame)))

-- a record of the same head and tail
pub record_same : (kind : ℕ) (head head' tail tail' : List ℕ) → head ≡ head' → tail ≡ tail' → record_text kind (head ++ tail) ≡ record_text kind (head' ++ tail')
record_same kind head head' tail tail' e f = cc

pub command_puts : (a b c d e f : Logged) (n depth line place flag : ℕ) (expanded : Bool) (words : List (List ℕ))
    → n ≡ length (flat_map word_text words) → flag ≡ flag_of expanded
    → Puts a b (to_be_bytes w32 (8 + n + 1) ++ 0x84 ∷ []) → Puts b c (depth ∷ []) → Puts c d (to_be_bytes w32 line)
    → Puts d e (place ∷ flag ∷ length words ∷ []) → Puts e f (flat_map word_text words)
    → Puts a f (out_text (command depth line place expanded words))
unfolding out_text record_text
command_puts a b c d e f n depth line place flag expanded words len is p q r s t =
    let tail = flat_map word_text words in
    let rest : ℕ → List ℕ = λ (g : ℕ). 0x84 ∷ depth ∷ (to_be_bytes w32 line ++ (place ∷ g ∷ length words ∷ tail)) in
    let all : Puts a f ((((((to_be_bytes w32 (8 + n + 1) ++ 0x84 ∷ []) ++ depth ∷ []) ++ to_be_bytes w32 line) ++ (place ∷ flag ∷ length words ∷ [])) ++ tail)) =
    Puts-then a e f _ tail (Puts-then a d e _ (place ∷ flag ∷ length words ∷ []) (Puts-then a c d _ (to_be_bytes w32 line) (Puts-then a b c _ (depth ∷ []) p q) r) s) t in
    let count : 8 + n + 1 ≡ length (depth ∷ (to_be_bytes w32 line ++ place ∷ flag_of expanded ∷ length words ∷ tail)) + 1 = omega (arith, len) in
    let same : to_be_bytes w32 (8 + n + 1) ++ rest flag ≡ to_be_bytes w32 (length (depth ∷ (to_be_bytes w32 line ++ place ∷ flag_of expanded ∷ length words ∷ tail)) + 1) ++ rest (flag_of expanded) =
    ap (λ (k : ℕ). to_be_bytes w32 k ++ rest flag) count
    ∙ ap (λ (g : ℕ). to_be_bytes w32 (length (depth ∷ (to_be_bytes w32 line ++ place ∷ flag_of expanded ∷ length words ∷ tail)) + 1) ++ rest g) is in
    Puts-same a f _ _ same all

-- one as a byte, as the definitions have it
pub flag-is : (b : Bool) → bool_byte b ≡ flag_of b
flag-is true = refl
flag-is false = refl

-- one word more
pub words_more : (words : List (List ℕ)) (i : ℕ) (w : List ℕ) → i < length words → w ≡ get_or words i w → flat_map word_text (take (i + 1) words) ≡ flat_map word_text (take i words) ++ word_text w
words_more words i w lt e =
    ap (λ (ws : List (List ℕ)). flat_map word_text ws) (take_more words i w lt ∙ ap (λ (x : List ℕ). take i words ++ x ∷ []) (sym e))
    ∙ sym (flat_map_more word_text [] (take i words) w)

pub length-word_text : (w : List ℕ) → length (word_text w) ≡ 2 + length w
unfolding word_text
length-word_text w = omega arith
