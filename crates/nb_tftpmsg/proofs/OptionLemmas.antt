-- Laws of an OACK's options.
use Rattle.std.proofs.Common.{◌≡◌, ℕ, ◌^◌, ◌<◌, List, [], ◌∷◌, ◌++◌, Option, Some, None, Bool, true, false, ◌&&◌, refl, ap, ◌∙◌, sym, subst, arith, eqb, length, get_or, append_assoc}
use Rattle.std.specs.Prelude.{codes}
use Rattle.std.specs.Str.{str_to_ascii_lowercase}
use Rattle.std.proofs.lemmas.Slice.Eq.{bytes_eq-Decides}
use Rattle.std.specs.List.{AllByRecursion, flat_map}
use Rattle.std.specs.Option.{option_map, option_and_then, is_none}
use Rattle.std.proofs.lemmas.Bool.{ne_eqb, eqb-true, eqb-false, false≢true}
use Rattle.std.proofs.lemmas.Option.{none-some, same_Some, option_and_then_some}
use Rattle.nb_tftpmsg.specs.Texts.{HasNoZero, ended, text_at, decimal}
use Rattle.nb_tftpmsg.specs.Options.{TftpOption, IsOption, options_text, is_option_name, first_number, OackOptionsSay}
use Rattle.nb_tftpmsg.specs.Reading.{FoundValues, nothing_found, with_option, with_first, in_front, texts, pairs_reading, options_reading}
use Rattle.nb_tftpmsg.proofs.TextLemmas.{either_way, cut, text_at-stands, text_at-shorter}

-- names and values in turn
abbrev pub names : List TftpOption → List (List ℕ)
names [] = []
names (o ∷ os) = o.name ∷ o.value ∷ names os

front_of_all : (byte : ℕ) (text : List ℕ) (found : Option (List (List ℕ))) → option_and_then (in_front byte) (option_map (λ ts. text ∷ ts) found) ≡ option_map (λ ts. (byte ∷ text) ∷ ts) found
front_of_all byte text None = refl
front_of_all byte text (Some ts) = refl

-- a text and its zero byte in front
pub texts-ended : (text rest : List ℕ) → HasNoZero text → texts (ended text ++ rest) ≡ option_map (λ ts. text ∷ ts) (texts rest)
texts-ended [] rest clean = refl
texts-ended (byte ∷ bytes) rest clean =
    let off : eqb byte 0 ≡ false = ne_eqb byte 0 (λ zero. omega (arith, clean.0)) in
    rw (off, texts-ended bytes rest clean.1) (front_of_all byte bytes (texts rest))

nothing_in_front : (byte : ℕ) (found : Option (List ℕ × List ℕ)) → option_map (λ f. cut (byte ∷ f.0) f.1) found ≡ None → found ≡ None
nothing_in_front byte None is = refl
nothing_in_front byte (Some f) is = absurd cc

-- where no zero byte stands there are no texts
pub texts-none : (byte : ℕ) (bytes : List ℕ) → text_at (byte ∷ bytes) ≡ None → texts (byte ∷ bytes) ≡ None
texts-none byte [] none = either_way (eqb byte 0)
    (λ on. absurd (none-some (cut [] []) (sym (rw on at none))))
    (λ off. rw off refl)
texts-none byte (b ∷ bs) none = either_way (eqb byte 0)
    (λ on. absurd (none-some (cut [] (b ∷ bs)) (sym (rw on at none))))
    (λ off. rw off (ap (λ found. option_and_then (in_front byte) found) (texts-none b bs (nothing_in_front byte (text_at (b ∷ bs)) (rw off at none)))))

-- a text at the front is the first of the texts
texts-front : (bytes text rest : List ℕ) → text_at bytes ≡ Some (text, rest) → texts bytes ≡ option_map (λ ts. text ∷ ts) (texts rest)
texts-front bytes text rest is =
    let stands = text_at-stands bytes text rest is in
    ap texts stands.1 ∙ texts-ended text rest stands.0

two_texts : (found more : FoundValues) (name value : List ℕ) (rest : Option (List (List ℕ))) → with_option found name value ≡ Some more → option_and_then (pairs_reading found) (option_map (λ ts. name ∷ ts) (option_map (λ ts. value ∷ ts) rest)) ≡ option_and_then (pairs_reading more) rest
two_texts found more name value None is = refl
two_texts found more name value (Some ts) is = rw is refl

refused_texts : (found : FoundValues) (name value : List ℕ) (rest : Option (List (List ℕ))) → with_option found name value ≡ None → option_and_then (pairs_reading found) (option_map (λ ts. name ∷ ts) (option_map (λ ts. value ∷ ts) rest)) ≡ None
refused_texts found name value None is = refl
refused_texts found name value (Some ts) is = rw is refl

half_option : (found : FoundValues) (name behind : List ℕ) → text_at behind ≡ None → option_and_then (pairs_reading found) (option_map (λ ts. name ∷ ts) (texts behind)) ≡ None
half_option found name [] none = refl
half_option found name (byte ∷ bytes) none = rw (texts-none byte bytes none) refl

pub option_map_some : {A B : Type 0} (f : A → B) (o : Option A) (y : B) → option_map f o ≡ Some y → (x : A) × (o ≡ Some x) × (f x ≡ y)
option_map_some f None y is = absurd (none-some y is)
option_map_some f (Some x) y is = (x, refl, same_Some (f x) y is)

option_map_none : {A B : Type 0} (f : A → B) (o : Option A) → option_map f o ≡ None → o ≡ None
option_map_none f None is = refl
option_map_none f (Some x) is = absurd (none-some (f x) (sym is))

option_and_then_none : {A B P : Type 0} (f : A → Option B) (o : Option A) → option_and_then f o ≡ None → (o ≡ None → P) → ((x : A) → o ≡ Some x → f x ≡ None → P) → P
option_and_then_none f None is none some = none refl
option_and_then_none f (Some x) is none some = some x refl is

abbrev with_rest : FoundValues → List ℕ → FoundValues × List ℕ
with_rest found rest = (found, rest)

abbrev behind_value : FoundValues → List ℕ → List ℕ × List ℕ → Option (FoundValues × List ℕ)
behind_value found name value = option_map (λ more. with_rest more value.1) (with_option found name value.0)

abbrev behind_name : FoundValues → List ℕ × List ℕ → Option (FoundValues × List ℕ)
behind_name found name = option_and_then (behind_value found name.0) (text_at name.1)

-- what reading the bytes from some values on gives
abbrev pub reading_from : FoundValues → List ℕ → Option FoundValues
reading_from found bytes = option_and_then (pairs_reading found) (texts bytes)

-- an option at the front is read first, and less is left after it
pub with_first-reads : (found more : FoundValues) (bytes rest : List ℕ) → with_first found bytes ≡ Some (more, rest) → (reading_from found bytes ≡ reading_from more rest) × (length rest < length bytes)
with_first-reads found more bytes rest is =
    option_and_then_some (behind_name found) (text_at bytes) (more, rest) is (λ name at_name then_value.
    option_and_then_some (behind_value found name.0) (text_at name.1) (more, rest) then_value (λ value at_value then_more.
    let done = option_map_some (λ (m : FoundValues). with_rest m value.1) (with_option found name.0 value.0) (more, rest) then_more in
    let same_more : done.0 ≡ more = ap (λ p. p.0) done.2 in
    let same_rest : value.1 ≡ rest = ap (λ p. p.1) done.2 in
    let step : with_option found name.0 value.0 ≡ Some more = done.1 ∙ ap (λ m. Some m) same_more in
    let texts_are : texts bytes ≡ option_map (λ ts. name.0 ∷ ts) (option_map (λ ts. value.0 ∷ ts) (texts value.1)) =
    texts-front bytes name.0 name.1 at_name ∙ ap (λ t. option_map (λ ts. name.0 ∷ ts) t) (texts-front name.1 value.0 value.1 at_value) in
    let first : length name.1 < length bytes = text_at-shorter bytes name.0 name.1 at_name in
    let second : length value.1 < length name.1 = text_at-shorter name.1 value.0 value.1 at_value in
    let last : length value.1 ≡ length rest = ap length same_rest in (
      ap (λ t. option_and_then (pairs_reading found) t) texts_are ∙ two_texts found more name.0 value.0 (texts value.1) step ∙ ap (λ r. reading_from more r) same_rest,
      omega arith,
    )))

pub with_first-refuses : (found : FoundValues) (bytes : List ℕ) → eqb (length bytes) 0 ≡ false → with_first found bytes ≡ None → reading_from found bytes ≡ None
with_first-refuses found [] some is = absurd (false≢true (sym some))
with_first-refuses found (byte ∷ bytes) some is =
    option_and_then_none (behind_name found) (text_at (byte ∷ bytes)) is
    (λ none. ap (λ t. option_and_then (pairs_reading found) t) (texts-none byte bytes none))
    (λ name at_name then_none.
    ap (λ t. option_and_then (pairs_reading found) t) (texts-front (byte ∷ bytes) name.0 name.1 at_name)
    ∙ option_and_then_none (behind_value found name.0) (text_at name.1) then_none
    (λ none. half_option found name.0 name.1 none)
    (λ value at_value refused.
    ap (λ t. option_and_then (pairs_reading found) (option_map (λ ts. name.0 ∷ ts) t)) (texts-front name.1 value.0 value.1 at_value)
    ∙ refused_texts found name.0 value.0 (texts value.1) (option_map_none (λ (m : FoundValues). with_rest m value.1) (with_option found name.0 value.0) refused)))

-- what was found, or what the options say
abbrev pub kept : Option ℕ → Option (Option ℕ) → Option (Option ℕ)
kept None said = said
kept (Some n) said = Some (Some n)

abbrev pub both : Option (Option ℕ) → Option (Option ℕ) → Option FoundValues
both (Some blksize) (Some tsize) = Some (record { blksize = blksize; tsize = tsize })
both (Some blksize) None = None
both None tsize = None

-- what options say after values that were found
abbrev pub said_by : FoundValues → List TftpOption → Option FoundValues
said_by found options =
    both (kept found.blksize (first_number (codes "blksize") (2 ^ 16) options)) (kept found.tsize (first_number (codes "tsize") (2 ^ 32) options))

-- no name is both
apart : (name : List ℕ) → is_option_name (codes "blksize") name ≡ true → is_option_name (codes "tsize") name ≡ false
apart name is = either_way (is_option_name (codes "tsize") name)
    (λ on.
    let one : str_to_ascii_lowercase name ≡ str_to_ascii_lowercase (codes "blksize") = (bytes_eq-Decides (str_to_ascii_lowercase name) (str_to_ascii_lowercase (codes "blksize"))).0 is in
    let other : str_to_ascii_lowercase name ≡ str_to_ascii_lowercase (codes "tsize") = (bytes_eq-Decides (str_to_ascii_lowercase name) (str_to_ascii_lowercase (codes "tsize"))).0 on in
    let heads : 98 ≡ 116 = ap (λ t. get_or t 0 0) (sym one ∙ other) in
    absurd (omega arith))
    (λ off. off)

kept-skips : (found : Option ℕ) (wanted : List ℕ) (bound : ℕ) (o : TftpOption) (os : List TftpOption) → (is_none found && is_option_name wanted o.name) ≡ false → kept found (first_number wanted bound (o ∷ os)) ≡ kept found (first_number wanted bound os)
kept-skips None wanted bound o os other = rw other refl
kept-skips (Some n) wanted bound o os other = refl

kept-takes : (found : Option ℕ) (wanted : List ℕ) (bound : ℕ) (o : TftpOption) (os : List TftpOption) → (is_none found && is_option_name wanted o.name) ≡ true → kept found (first_number wanted bound (o ∷ os)) ≡ option_map (λ n. Some n) (decimal bound o.value)
kept-takes None wanted bound o os named = rw named refl
kept-takes (Some n) wanted bound o os named = absurd (false≢true named)

kept_nothing : (found : Option ℕ) → kept found (Some None) ≡ Some found
kept_nothing None = refl
kept_nothing (Some n) = refl

nothing_more : (found : FoundValues) → said_by found [] ≡ Some found
nothing_more found = rw (kept_nothing found.blksize, kept_nothing found.tsize) refl

and_false : (a b : Bool) → b ≡ false → (a && b) ≡ false
and_false true b is = is
and_false false b is = refl

and_right : (a b : Bool) → (a && b) ≡ true → b ≡ true
and_right true b is = is
and_right false b is = absurd (false≢true is)

both_none : (said : Option (Option ℕ)) → both said None ≡ None
both_none None = refl
both_none (Some n) = refl

blksize_value : (found : FoundValues) (os : List TftpOption) (value : Option ℕ) → ((more : FoundValues) → pairs_reading more (names os) ≡ said_by more os) → option_and_then (λ more. pairs_reading more (names os)) (option_map (λ n. record found { blksize = Some n }) value) ≡ both (option_map (λ n. Some n) value) (kept found.tsize (first_number (codes "tsize") (2 ^ 32) os))
blksize_value found os None later = refl
blksize_value found os (Some n) later = later (record found { blksize = Some n })

tsize_value : (found : FoundValues) (os : List TftpOption) (value : Option ℕ) → ((more : FoundValues) → pairs_reading more (names os) ≡ said_by more os) → option_and_then (λ more. pairs_reading more (names os)) (option_map (λ n. record found { tsize = Some n }) value) ≡ both (kept found.blksize (first_number (codes "blksize") (2 ^ 16) os)) (option_map (λ n. Some n) value)
tsize_value found os None later = sym (both_none (kept found.blksize (first_number (codes "blksize") (2 ^ 16) os)))
tsize_value found os (Some n) later = later (record found { tsize = Some n })

says_blksize : (found : FoundValues) (o : TftpOption) (os : List TftpOption) → (is_none found.blksize && is_option_name (codes "blksize") o.name) ≡ true → ((more : FoundValues) → pairs_reading more (names os) ≡ said_by more os) → option_and_then (λ more. pairs_reading more (names os)) (with_option found o.name o.value) ≡ said_by found (o ∷ os)
says_blksize found o os named later =
    let step : with_option found o.name o.value ≡ option_map (λ n. record found { blksize = Some n }) (decimal (2 ^ 16) o.value) = rw named refl in
    let size = kept-takes found.blksize (codes "blksize") (2 ^ 16) o os named in
    let no_tsize : (is_none found.tsize && is_option_name (codes "tsize") o.name) ≡ false = and_false (is_none found.tsize) (is_option_name (codes "tsize") o.name) (apart o.name (and_right (is_none found.blksize) (is_option_name (codes "blksize") o.name) named)) in
    let skipped = kept-skips found.tsize (codes "tsize") (2 ^ 32) o os no_tsize in
    ap (λ more. option_and_then (λ m. pairs_reading m (names os)) more) step
    ∙ blksize_value found os (decimal (2 ^ 16) o.value) later
    ∙ ap (λ s. both s (kept found.tsize (first_number (codes "tsize") (2 ^ 32) os))) (sym size)
    ∙ ap (λ s. both (kept found.blksize (first_number (codes "blksize") (2 ^ 16) (o ∷ os))) s) (sym skipped)

says_tsize : (found : FoundValues) (o : TftpOption) (os : List TftpOption) → (is_none found.blksize && is_option_name (codes "blksize") o.name) ≡ false → (is_none found.tsize && is_option_name (codes "tsize") o.name) ≡ true → ((more : FoundValues) → pairs_reading more (names os) ≡ said_by more os) → option_and_then (λ more. pairs_reading more (names os)) (with_option found o.name o.value) ≡ said_by found (o ∷ os)
says_tsize found o os other named later =
    let step : with_option found o.name o.value ≡ option_map (λ n. record found { tsize = Some n }) (decimal (2 ^ 32) o.value) = rw (other, named) refl in
    let size = kept-takes found.tsize (codes "tsize") (2 ^ 32) o os named in
    let skipped = kept-skips found.blksize (codes "blksize") (2 ^ 16) o os other in
    ap (λ more. option_and_then (λ m. pairs_reading m (names os)) more) step
    ∙ tsize_value found os (decimal (2 ^ 32) o.value) later
    ∙ ap (λ s. both (kept found.blksize (first_number (codes "blksize") (2 ^ 16) os)) s) (sym size)
    ∙ ap (λ s. both s (kept found.tsize (first_number (codes "tsize") (2 ^ 32) (o ∷ os)))) (sym skipped)

says_other : (found : FoundValues) (o : TftpOption) (os : List TftpOption) → (is_none found.blksize && is_option_name (codes "blksize") o.name) ≡ false → (is_none found.tsize && is_option_name (codes "tsize") o.name) ≡ false → pairs_reading found (names os) ≡ said_by found os → option_and_then (λ more. pairs_reading more (names os)) (with_option found o.name o.value) ≡ said_by found (o ∷ os)
says_other found o os no_blksize no_tsize later =
    let step : with_option found o.name o.value ≡ Some found = rw (no_blksize, no_tsize) refl in
    let size = kept-skips found.blksize (codes "blksize") (2 ^ 16) o os no_blksize in
    let length = kept-skips found.tsize (codes "tsize") (2 ^ 32) o os no_tsize in
    ap (λ more. option_and_then (λ m. pairs_reading m (names os)) more) step
    ∙ later
    ∙ ap (λ s. both s (kept found.tsize (first_number (codes "tsize") (2 ^ 32) os))) (sym size)
    ∙ ap (λ s. both (kept found.blksize (first_number (codes "blksize") (2 ^ 16) (o ∷ os))) s) (sym length)

pairs_step : (found : FoundValues) (o : TftpOption) (os : List TftpOption) → pairs_reading found (names (o ∷ os)) ≡ option_and_then (λ more. pairs_reading more (names os)) (with_option found o.name o.value)
pairs_step found o os = refl

-- reading names and values in turn is what the options say
pub pairs-say : (found : FoundValues) (options : List TftpOption) → pairs_reading found (names options) ≡ said_by found options
pairs-say found [] = sym (nothing_more found)
pairs-say found (o ∷ os) = pairs_step found o os ∙
    either_way (is_none found.blksize && is_option_name (codes "blksize") o.name)
    (λ blksize. says_blksize found o os blksize (λ more. pairs-say more os))
    (λ no_blksize. either_way (is_none found.tsize && is_option_name (codes "tsize") o.name)
    (λ tsize. says_tsize found o os no_blksize tsize (λ more. pairs-say more os))
    (λ no_tsize. says_other found o os no_blksize no_tsize (pairs-say found os)))

abbrev Stand : List ℕ → List (List ℕ) → Type 0
Stand bytes found = AllByRecursion HasNoZero found × (bytes ≡ flat_map ended found)

empty_stands : (byte : ℕ) (bytes : List ℕ) (found : List (List ℕ)) → byte ≡ 0 → ((inner : List (List ℕ)) → texts bytes ≡ Some inner → Stand bytes inner) → option_map (λ ts. [] ∷ ts) (texts bytes) ≡ Some found → Stand (byte ∷ bytes) found
empty_stands byte bytes found zero stand is =
    let inner = option_map_some (λ (ts : List (List ℕ)). [] ∷ ts) (texts bytes) found is in
    let there = stand inner.0 inner.1 in
    subst (λ (ts : List (List ℕ)). Stand (byte ∷ bytes) ts) inner.2 ((tt, there.0), ap (λ b. b ∷ bytes) zero ∙ ap (λ bs. 0 ∷ bs) there.1)

front_stands : (byte : ℕ) (bytes : List ℕ) (found : List (List ℕ)) → (byte ≡ 0 → ⊥) → (inner : List (List ℕ)) → Stand bytes inner → in_front byte inner ≡ Some found → Stand (byte ∷ bytes) found
front_stands byte bytes found other [] stand is = absurd (none-some found is)
front_stands byte bytes found other (t ∷ ts) stand is =
    subst (λ (f : List (List ℕ)). Stand (byte ∷ bytes) f) (same_Some ((byte ∷ t) ∷ ts) found is)
    (((omega arith, stand.0.0), stand.0.1), ap (λ bs. byte ∷ bs) stand.1)

longer_stands : (byte : ℕ) (bytes : List ℕ) (found : List (List ℕ)) → (byte ≡ 0 → ⊥) → ((inner : List (List ℕ)) → texts bytes ≡ Some inner → Stand bytes inner) → option_and_then (in_front byte) (texts bytes) ≡ Some found → Stand (byte ∷ bytes) found
longer_stands byte bytes found other stand is =
    option_and_then_some (in_front byte) (texts bytes) found is (λ inner at front. front_stands byte bytes found other inner (stand inner at) front)

-- texts that are read stand in the bytes, one after the other
texts-stand : (bytes : List ℕ) (found : List (List ℕ)) → texts bytes ≡ Some found → AllByRecursion HasNoZero found × (bytes ≡ flat_map ended found)
texts-stand [] found is =
    let same : [] ≡ found = same_Some [] found is in
    (subst (λ (ts : List (List ℕ)). AllByRecursion HasNoZero ts) same tt, ap (λ ts. flat_map ended ts) same)
texts-stand (byte ∷ bytes) found is = either_way (eqb byte 0)
    (λ on. empty_stands byte bytes found (eqb-true byte 0 on) (λ inner at. texts-stand bytes inner at) (rw on at is))
    (λ off. longer_stands byte bytes found (eqb-false byte 0 off) (λ inner at. texts-stand bytes inner at) (rw off at is))

-- names and values that are read are those of some options
names-are : (found done : FoundValues) (given : List (List ℕ)) → pairs_reading found given ≡ Some done → (options : List TftpOption) × (given ≡ names options)
names-are found done [] is = ([], refl)
names-are found done (name ∷ []) is = absurd (none-some done is)
names-are found done (name ∷ value ∷ rest) is =
    option_and_then_some (λ more. pairs_reading more rest) (with_option found name value) done is (λ more at later.
    let options = names-are more done rest later in
    (record { name = name; value = value } ∷ options.0, ap (λ ts. name ∷ value ∷ ts) options.1))

both_is : (size length : Option (Option ℕ)) (found : FoundValues) → both size length ≡ Some found → (size ≡ Some found.blksize) × (length ≡ Some found.tsize)
both_is None length found is = absurd (none-some found is)
both_is (Some size) None found is = absurd (none-some found is)
both_is (Some size) (Some length) found is =
    let same : record { blksize = size; tsize = length } ≡ found = same_Some (record { blksize = size; tsize = length }) found is in
    (ap (λ f. Some f.blksize) same, ap (λ f. Some f.tsize) same)

names-clean : (options : List TftpOption) → AllByRecursion HasNoZero (names options) → AllByRecursion IsOption options
names-clean [] clean = tt
names-clean (o ∷ os) clean = (record { name = clean.0; value = clean.1.0 }, names-clean os clean.1.1)

names-text : (options : List TftpOption) → flat_map ended (names options) ≡ options_text options
names-text [] = refl
names-text (o ∷ os) = ap (λ rest. ended o.name ++ (ended o.value ++ rest)) (names-text os) ∙ sym (append_assoc (ended o.name) (ended o.value) (options_text os))

names-read : (options : List TftpOption) → AllByRecursion IsOption options → texts (options_text options) ≡ Some (names options)
names-read [] clean = refl
names-read (o ∷ os) clean =
    ap texts (append_assoc (ended o.name) (ended o.value) (options_text os))
    ∙ texts-ended o.name (ended o.value ++ options_text os) clean.0.name
    ∙ ap (λ found. option_map (λ ts. o.name ∷ ts) found) (texts-ended o.value (options_text os) clean.0.value)
    ∙ ap (λ found. option_map (λ ts. o.name ∷ ts) (option_map (λ ts. o.value ∷ ts) found)) (names-read os clean.1)

-- what is read stands in the bytes
pub options_stand : (bytes : List ℕ) (found : FoundValues) → options_reading bytes ≡ Some found → (options : List TftpOption) × AllByRecursion IsOption options × (bytes ≡ options_text options) × OackOptionsSay options found.blksize found.tsize
options_stand bytes found is =
    option_and_then_some (pairs_reading nothing_found) (texts bytes) found is (λ given at then_pairs.
    let stand = texts-stand bytes given at in
    let options = names-are nothing_found found given then_pairs in
    let clean = subst (λ (ts : List (List ℕ)). AllByRecursion HasNoZero ts) options.1 stand.0 in
    let said = both_is (first_number (codes "blksize") (2 ^ 16) options.0) (first_number (codes "tsize") (2 ^ 32) options.0) found
    (sym (pairs-say nothing_found options.0) ∙ ap (λ ts. pairs_reading nothing_found ts) (sym options.1) ∙ then_pairs) in
    (options.0, names-clean options.0 clean, stand.1 ∙ ap (λ ts. flat_map ended ts) options.1 ∙ names-text options.0, record { blksize = said.0; tsize = said.1 }))

-- what stands in the bytes is read
pub options_read : (options : List TftpOption) (size length : Option ℕ) → AllByRecursion IsOption options → OackOptionsSay options size length → options_reading (options_text options) ≡ Some (record { blksize = size; tsize = length })
options_read options size length clean say =
    ap (λ found. option_and_then (pairs_reading nothing_found) found) (names-read options clean)
    ∙ pairs-say nothing_found options
    ∙ ap (λ s. both s (first_number (codes "tsize") (2 ^ 32) options)) say.blksize
    ∙ ap (λ l. both (Some size) l) say.tsize
