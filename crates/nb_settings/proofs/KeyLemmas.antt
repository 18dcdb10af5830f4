-- Keys and blocks of names: by the grammar, and as functions of the bytes.
use Rattle.std.proofs.Common.{◌≡◌, ℕ, List, ◌∷◌, ◌++◌, Option, Some, None, Bool, true, false, not, ◌&&◌, refl, ap, ◌∙◌, sym, subst, eqb, inl, inr}
use Rattle.std.specs.Char.{is_ascii_digit}
use Rattle.std.specs.Fmt.{decimal}
use Rattle.std.specs.List.{list_all}
use Rattle.std.specs.Prelude.{length, nat_lt, nat_le, option_map, option_and_then}
use Rattle.std.proofs.lemmas.Option.{same_Some}
use Rattle.nb_settings.specs.declared.setting.OwnedKey.{OwnedKey}
use Rattle.nb_settings.specs.declared.setting.OwnedKey.TheVariants.{Tag, Sub, Free}
use Rattle.nb_settings.specs.Listed.{key_named}
use Rattle.nb_settings.specs.Names.{is_word_byte, is_word, IsBlockName, IsNumber, IsTagText, IsKeyText, cut_at, number_read, two_words, is_block_name, word_read, tag_or_word, undotted_or_sub, key_read}
use Rattle.nb_settings.proofs.FindLemmas.{either_way, both}
use Rattle.nb_settings.proofs.CutLemmas.{cut, has_no, has_no-from_all, has_no-append, cut_at-front, cut_at-without, cut_at-stands}
use Rattle.nb_settings.proofs.NumberLemmas.{number_read-decimal, number_read-some, number_read-none, decimal_digits}

last_two : (a b c d : Bool) → (a && b && c && not d) ≡ true → (c ≡ true) × (d ≡ false)
last_two true true true false h = (refl, refl)
last_two true true true true h = absurd cc
last_two true true false d h = absurd cc
last_two true false c d h = absurd cc
last_two false b c d h = absurd cc

-- a word has the bytes of words, and not digits alone
pub word_bytes : (text : List ℕ) → is_word text ≡ true → (list_all is_word_byte text ≡ true) × (list_all is_ascii_digit text ≡ false)
unfolding is_word
word_bytes text is = last_two (nat_lt 0 (length text)) (nat_le (length text) 63) (list_all is_word_byte text) (list_all is_ascii_digit text) is

word_no : (byte : ℕ) (text : List ℕ) → is_word_byte byte ≡ false → is_word text ≡ true → has_no byte text ≡ true
word_no byte text other is = has_no-from_all is_word_byte byte text other (word_bytes text is).0

number_no : (byte n : ℕ) → is_ascii_digit byte ≡ false → IsNumber n → has_no byte (decimal n) ≡ true
number_no byte n other is = has_no-from_all is_ascii_digit byte (decimal n) other (decimal_digits n is)

tag_no : (byte : ℕ) (text : List ℕ) (key : OwnedKey) → is_ascii_digit byte ≡ false → eqb 46 byte ≡ false → IsTagText text key → has_no byte text ≡ true
tag_no byte text (Tag n) other dot is = ap (has_no byte) is.1 ∙ number_no byte n other is.0
tag_no byte text (Sub a b) other dot is =
    let second : has_no byte (46 ∷ decimal b) ≡ true = rw (dot, number_no byte b other is.1) refl in
    ap (has_no byte) is.2 ∙ has_no-append byte (decimal a) (46 ∷ decimal b) (number_no byte a other is.0) second
tag_no byte text (Free name) other dot is = absurd is

-- which bytes a key's text doesn't have
pub key_no : (byte : ℕ) (text : List ℕ) (key : OwnedKey) → is_word_byte byte ≡ false → is_ascii_digit byte ≡ false → eqb 46 byte ≡ false → IsKeyText text key → has_no byte text ≡ true
key_no byte text key other digit dot is = elim is [
  | inl tag ↦ tag_no byte text key digit dot tag
  | inr word ↦ word_no byte text other word.0
]

undotted : (text : List ℕ) → cut_at 46 text ≡ None → key_read text ≡ tag_or_word (number_read text) text
unfolding key_read
undotted text none = rw none refl

dotted : (text a b : List ℕ) → cut_at 46 text ≡ Some (cut a b) → key_read text ≡ option_and_then (λ outer. option_map (λ inner. Sub outer inner) (number_read b)) (number_read a)
unfolding key_read
dotted text a b some = rw some refl

-- numbers are read
tag_read : (text : List ℕ) (key : OwnedKey) → IsTagText text key → key_read text ≡ Some key
tag_read text (Tag n) is =
    let none = cut_at-without 46 text (ap (has_no 46) is.1 ∙ number_no 46 n refl is.0) in
    undotted text none ∙ ap (λ read. tag_or_word read text) (number_read-decimal text n is.0 is.1)
tag_read text (Sub a b) is =
    let some = ap (cut_at 46) is.2 ∙ cut_at-front 46 (decimal a) (decimal b) (number_no 46 a refl is.0) in
    dotted text (decimal a) (decimal b) some ∙ rw (number_read-decimal (decimal a) a is.0 refl, number_read-decimal (decimal b) b is.1 refl) refl
tag_read text (Free name) is = absurd is

word_no_number : (text : List ℕ) → is_word text ≡ true → number_read text ≡ None
word_no_number text is =
    number_read-none text (λ n number same.
    let digits : true ≡ false = sym (decimal_digits n number) ∙ ap (list_all is_ascii_digit) (sym same) ∙ (word_bytes text is).1 in
    absurd cc)

-- each text of a key is read
pub key_read-complete : (text : List ℕ) (key : OwnedKey) → IsKeyText text key → key_read text ≡ Some key
key_read-complete text key is = elim is [
  | inl tag ↦ tag_read text key tag
  | inr word ↦
      let none = cut_at-without 46 text (word_no 46 text refl word.0) in
      let named : word_read text ≡ Some (key_named text) = rw word.0 refl in
      undotted text none ∙ ap (λ read. tag_or_word read text) (word_no_number text word.0) ∙ named ∙ ap Some (sym word.1)
]

read_word : (text : List ℕ) (key : OwnedKey) → word_read text ≡ Some key → IsKeyText text key
read_word text key is = either_way (is_word text)
    (λ on. inr (on, sym (same_Some (key_named text) key (rw on at is))))
    (λ off. let none : None ≡ Some key = rw off at is in absurd cc)

read_undotted : (text : List ℕ) (key : OwnedKey) (read : Option ℕ) → number_read text ≡ read → tag_or_word read text ≡ Some key → IsKeyText text key
read_undotted text key None number is = read_word text key is
read_undotted text key (Some n) number is =
    subst (λ k. IsKeyText text k) (same_Some (Tag n) key is) (inl (number_read-some text n number))

read_sub : (text a b : List ℕ) (key : OwnedKey) (first second : Option ℕ) → text ≡ a ++ 46 ∷ b → number_read a ≡ first → number_read b ≡ second → option_and_then (λ outer. option_map (λ inner. Sub outer inner) second) first ≡ Some key → IsKeyText text key
read_sub text a b key None second stands one two is = absurd cc
read_sub text a b key (Some n) None stands one two is = absurd cc
read_sub text a b key (Some n) (Some m) stands one two is =
    let outer = number_read-some a n one in
    let inner = number_read-some b m two in
    subst (λ k. IsKeyText text k) (same_Some (Sub n m) key is)
    (inl (outer.0, inner.0, stands ∙ ap (λ x. x ++ 46 ∷ b) outer.1 ∙ ap (λ y. decimal n ++ 46 ∷ y) inner.1))

read_cut : (text : List ℕ) (key : OwnedKey) (found : Option (List ℕ × List ℕ)) → cut_at 46 text ≡ found → undotted_or_sub found text ≡ Some key → IsKeyText text key
read_cut text key None at is = read_undotted text key (number_read text) refl is
read_cut text key (Some p) at is = read_sub text p.0 p.1 key (number_read p.0) (number_read p.1) (cut_at-stands 46 text p.0 p.1 at) refl refl is

-- and nothing else
pub key_read-sound : (text : List ℕ) (key : OwnedKey) → key_read text ≡ Some key → IsKeyText text key
unfolding key_read
key_read-sound text key is = read_cut text key (cut_at 46 text) refl is

-- blocks
pub is_block_name-complete : (text : List ℕ) → IsBlockName text → is_block_name text ≡ true
unfolding is_block_name
is_block_name-complete text is = elim is [
  | inl word ↦ rw (cut_at-without 46 text (word_no 46 text refl word)) word
  | inr two ↦
      let some = ap (cut_at 46) two.4 ∙ cut_at-front 46 two.0 two.1 (word_no 46 two.0 refl two.2) in
      rw some (rw (two.2, two.3) refl)
]

block_cut : (text : List ℕ) (found : Option (List ℕ × List ℕ)) → cut_at 46 text ≡ found → two_words found text ≡ true → IsBlockName text
block_cut text None at is = inl is
block_cut text (Some p) at is =
    let words = both (is_word p.0) (is_word p.1) is in
    inr (p.0, p.1, words.0, words.1, cut_at-stands 46 text p.0 p.1 at)

pub is_block_name-sound : (text : List ℕ) → is_block_name text ≡ true → IsBlockName text
unfolding is_block_name
is_block_name-sound text is = block_cut text (cut_at 46 text) refl is

-- no block's name has a slash
pub block_no_slash : (text : List ℕ) → IsBlockName text → has_no 47 text ≡ true
block_no_slash text is = elim is [
  | inl word ↦ word_no 47 text refl word
  | inr two ↦
      let second : has_no 47 (46 ∷ two.1) ≡ true = rw (word_no 47 two.1 refl two.3) refl in
      ap (has_no 47) two.4 ∙ has_no-append 47 two.0 (46 ∷ two.1) (word_no 47 two.0 refl two.2) second
]
