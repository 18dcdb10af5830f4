-- No name of a setting has more than 201 bytes.
use Rattle.std.proofs.Common.{◌≡◌, ℕ, ◌+◌, ◌<◌, ◌≤◌, ◌==◌, nat_le, Bool, true, false, ◌&&◌, cond, List, [], ◌∷◌, length, Option, Some, None, option_and_then, find, not, ltb, refl, sym, ap, ◌∙◌, arith}
use Rattle.std.specs.Fmt.{decimal, digits}
use Rattle.std.specs.List.{list_all, range_with_len}
use Rattle.std.specs.Option.{option_map}
use Rattle.std.specs.Str.{bytes_eq}
use Rattle.std.specs.Char.{is_ascii_digit}
use Rattle.std.proofs.lemmas.Bool.{and_parts, leb-true}
use Rattle.std.proofs.lemmas.Slice.Eq.{bytes_eq-Decides}
use Rattle.nb_settings.specs.declared.kind.Kind.{Kind}
use Rattle.nb_settings.specs.declared.setting.OwnedKey.{OwnedKey}
use Rattle.nb_settings.specs.Kinds.{kind_name, kind_named, all_kinds}
use Rattle.nb_settings.specs.Names.{SettingName, is_word_byte, is_word, cut_at, number_read, two_words, is_block_name, tag_or_word, undotted_or_sub, key_read, kind_cut, tail_read, block_cut, name_read}
use Rattle.nb_settings.specs.Tables.{TableLists}
use Rattle.nb_expand.specs.Values.{named_text, text_of_name}
use Rattle.nb_expand.proofs.ExpansionLemmas.{KnowsNames}

abbrev put_first : ℕ → List ℕ × List ℕ → List ℕ × List ℕ
put_first b cut = (b ∷ cut.0, cut.1)

abbrev Adds : List ℕ → List ℕ × List ℕ → Type 0
Adds text cut = length text ≡ length cut.0 + (1 + length cut.1)

-- what is cut is one byte less
cut_longer : (b : ℕ) (bs : List ℕ) (inner : Option (List ℕ × List ℕ)) (cut : List ℕ × List ℕ) → ((found : List ℕ × List ℕ) → inner ≡ Some found → Adds bs found) → option_map (put_first b) inner ≡ Some cut → Adds (b ∷ bs) cut
cut_longer b bs None cut adds h = cc
cut_longer b bs (Some found) cut adds h =
    let is : put_first b found ≡ cut = cc in
    let front : b ∷ found.0 ≡ cut.0 = ap (λ p. p.0) is in
    let behind : found.1 ≡ cut.1 = ap (λ p. p.1) is in
    omega (arith, ap length front, ap length behind, adds found refl)

cut_here : (b : ℕ) (bs : List ℕ) (cut : List ℕ × List ℕ) (here : List ℕ × List ℕ) → here.0 ≡ [] → here.1 ≡ bs → Some here ≡ Some cut → Adds (b ∷ bs) cut
cut_here b bs cut here front behind h =
    let is : here ≡ cut = cc in
    let first : here.0 ≡ cut.0 = ap (λ p. p.0) is in
    let second : here.1 ≡ cut.1 = ap (λ p. p.1) is in
    omega (arith, ap length first, ap length second, ap length front, ap length behind)

cut_by : (byte b : ℕ) (bs : List ℕ) (cut : List ℕ × List ℕ) (test : Bool) → (b == byte) ≡ test → ((found : List ℕ × List ℕ) → cut_at byte bs ≡ Some found → Adds bs found) → cut_at byte (b ∷ bs) ≡ Some cut → Adds (b ∷ bs) cut
cut_by byte b bs cut true e adds h = cut_here b bs cut ([], bs) refl refl (rw e at h)
cut_by byte b bs cut false e adds h = cut_longer b bs (cut_at byte bs) cut adds (rw e at h)

cut_adds : (byte : ℕ) (text : List ℕ) (cut : List ℕ × List ℕ) → cut_at byte text ≡ Some cut → Adds text cut
cut_adds byte [] cut h = cc
cut_adds byte (b ∷ bs) cut h = cut_by byte b bs cut (b == byte) refl (cut_adds byte bs) h

-- a word, and a block's name
word_short : (text : List ℕ) → is_word text ≡ true → length text ≤ 63
unfolding is_word
word_short text h =
    let some = ltb 0 (length text) in
    let few = nat_le (length text) 63 in
    let three = and_parts ((some && few) && list_all is_word_byte text) (not (list_all is_ascii_digit text)) h in
    let two = and_parts (some && few) (list_all is_word_byte text) three.0 in
    leb-true (length text) 63 (and_parts some few two.0).1

block_by : (cut : Option (List ℕ × List ℕ)) (text : List ℕ) → cut_at 46 text ≡ cut → two_words cut text ≡ true → length text ≤ 127
block_by None text e h = omega (arith, word_short text h)
block_by (Some cut) text e h =
    let parts = and_parts (is_word cut.0) (is_word cut.1) h in
    omega (arith, cut_adds 46 text cut e, word_short cut.0 parts.0, word_short cut.1 parts.1)

block_short : (text : List ℕ) → is_block_name text ≡ true → length text ≤ 127
unfolding is_block_name
block_short text h = block_by (cut_at 46 text) text refl h

-- what is found passes the test, and whatever all pass
found_by : {A : Type 0} (p q : A → Bool) (x : A) (xs : List A) (y : A) (test : Bool) → p x ≡ test → list_all q (x ∷ xs) ≡ true → ((z : A) → find p xs ≡ Some z → (p z ≡ true) × (q z ≡ true)) → find p (x ∷ xs) ≡ Some y → (p y ≡ true) × (q y ≡ true)
found_by p q x xs y true e all later h =
    let first : Some x ≡ Some y = rw e at h in
    let is : x ≡ y = cc in
    (ap p (sym is) ∙ e, ap q (sym is) ∙ (and_parts (q x) (list_all q xs) all).0)
found_by p q x xs y false e all later h = later y (rw e at h)

found_in : {A : Type 0} (p q : A → Bool) (xs : List A) (y : A) → list_all q xs ≡ true → find p xs ≡ Some y → (p y ≡ true) × (q y ≡ true)
found_in p q [] y all h = cc
found_in p q (x ∷ xs) y all h = found_by p q x xs y (p x) refl all (λ z. found_in p q xs z (and_parts (q x) (list_all q xs) all).1) h

-- a number of an option
abbrev has_three_digits : ℕ → Bool
has_three_digits n = nat_le (length (decimal n)) 3

three_digits : list_all has_three_digits (range_with_len 1 254) ≡ true
unfolding digits
three_digits = refl

number_short : (text : List ℕ) (n : ℕ) → number_read text ≡ Some n → length text ≤ 3
unfolding number_read
number_short text n h =
    let found = found_in (λ m. bytes_eq text (decimal m)) has_three_digits (range_with_len 1 254) n three_digits h in
    let is : text ≡ decimal n = (bytes_eq-Decides text (decimal n)).0 found.0 in
    omega (arith, ap length is, leb-true (length (decimal n)) 3 found.1)

-- a kind's name
abbrev has_nine_letters : Kind → Bool
has_nine_letters kind = nat_le (length (kind_name kind)) 9

nine_letters : list_all has_nine_letters all_kinds ≡ true
nine_letters = refl

kind_short : (text : List ℕ) (kind : Kind) → kind_named text ≡ Some kind → length text ≤ 9
unfolding kind_named
kind_short text kind h =
    let found = found_in (λ k. bytes_eq text (kind_name k)) has_nine_letters all_kinds kind nine_letters h in
    let is : text ≡ kind_name kind = (bytes_eq-Decides text (kind_name kind)).0 found.0 in
    omega (arith, ap length is, leb-true (length (kind_name kind)) 9 found.1)

-- steps that gave something
step_then : {A B : Type 0} (o : Option A) (f : A → Option B) (y : B) → option_and_then f o ≡ Some y → (x : A) × (o ≡ Some x) × (f x ≡ Some y)
step_then None f y h = cc
step_then (Some x) f y h = (x, refl, h)

step_map : {A B : Type 0} (o : Option A) (f : A → B) (y : B) → option_map f o ≡ Some y → (x : A) × (o ≡ Some x)
step_map None f y h = cc
step_map (Some x) f y h = (x, refl)

-- a key
word_key : (test : Bool) (text : List ℕ) (v : OwnedKey) (key : OwnedKey) → is_word text ≡ test → cond test (Some v) None ≡ Some key → length text ≤ 63
word_key true text v key e h = word_short text e
word_key false text v key e h = cc

undotted_short : (number : Option ℕ) (text : List ℕ) (key : OwnedKey) → number_read text ≡ number → tag_or_word number text ≡ Some key → length text ≤ 63
undotted_short None text key e h = word_key (is_word text) text _ key refl h
undotted_short (Some n) text key e h = omega (arith, number_short text n e)

key_by : (cut : Option (List ℕ × List ℕ)) (text : List ℕ) (key : OwnedKey) → cut_at 46 text ≡ cut → undotted_or_sub cut text ≡ Some key → length text ≤ 63
key_by None text key e h = undotted_short (number_read text) text key refl h
key_by (Some cut) text key e h =
    let outer = step_then (number_read cut.0) _ key h in
    let inner = step_map (number_read cut.1) _ key outer.2 in
    omega (arith, cut_adds 46 text cut e, number_short cut.0 outer.0 outer.1, number_short cut.1 inner.0 inner.1)

key_short : (text : List ℕ) (key : OwnedKey) → key_read text ≡ Some key → length text ≤ 63
unfolding key_read
key_short text key h = key_by (cut_at 46 text) text key refl h

-- a name after its block, and a name
tail_by : (block : Option (List ℕ)) (cut : Option (List ℕ × List ℕ)) (text : List ℕ) (name : SettingName) → cut_at 58 text ≡ cut → kind_cut block cut text ≡ Some name → length text ≤ 73
tail_by block None text name e h =
    let key = step_map (key_read text) _ name h in
    omega (arith, key_short text key.0 key.1)
tail_by block (Some cut) text name e h =
    let key = step_then (key_read cut.0) _ name h in
    let kind = step_map (kind_named cut.1) _ name key.2 in
    omega (arith, cut_adds 58 text cut e, key_short cut.0 key.0 key.1, kind_short cut.1 kind.0 kind.1)

tail_short : (block : Option (List ℕ)) (text : List ℕ) (name : SettingName) → tail_read block text ≡ Some name → length text ≤ 73
unfolding tail_read
tail_short block text name h = tail_by block (cut_at 58 text) text name refl h

block_then : (test : Bool) (cut : List ℕ × List ℕ) (name : SettingName) → is_block_name cut.0 ≡ test → cond test (tail_read (Some cut.0) cut.1) None ≡ Some name → length cut.0 + length cut.1 ≤ 200
block_then true cut name e h = omega (arith, block_short cut.0 e, tail_short (Some cut.0) cut.1 name h)
block_then false cut name e h = cc

block_cut-short : (cut : Option (List ℕ × List ℕ)) (text : List ℕ) (name : SettingName) → cut_at 47 text ≡ cut → block_cut cut text ≡ Some name → length text ≤ 201
block_cut-short None text name e h = omega (arith, tail_short None text name h)
block_cut-short (Some cut) text name e h = omega (arith, cut_adds 47 text cut e, block_then (is_block_name cut.0) cut name refl h)

nothing : {A : Type 0} (o : Option A) → ((x : A) → o ≡ Some x → ⊥) → o ≡ None
nothing None never = refl
nothing (Some x) never = absurd (never x refl)

-- a name is short
pub name_short : (text : List ℕ) (name : SettingName) → name_read text ≡ Some name → length text ≤ 201
unfolding name_read
name_short text name h = block_cut-short (cut_at 47 text) text name refl h

-- a longer text is no name
read_none : (text : List ℕ) → 201 < length text → name_read text ≡ None
read_none text long = nothing (name_read text) (λ name h. omega (arith, long, name_short text name h))

pub named_text-knows : (table : TableLists) → KnowsNames (named_text table)
unfolding named_text
named_text-knows table text long = ap (option_map (text_of_name table)) (read_none text long)
