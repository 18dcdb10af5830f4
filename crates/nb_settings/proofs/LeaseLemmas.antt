-- The settings of a lease: how they are gathered, and that they fit into a block.
use Rattle.std.proofs.Common.{◌≡◌, ◌∙◌, ap, sym, subst, refl, arith, ℕ, zero, suc, ◌+◌, ◌≤◌, List, [], ◌∷◌, ◌++◌, length, take, drop, Bool, true, false, ◌&&◌, Some, None, Option}
use Rattle.std.specs.Prelude.{nat_le, nat_lt, ◌==◌, if◌then◌else◌, position, unwrap_or}
use Rattle.std.specs.List.{flat_map, list_all, range_with_len}
use Rattle.std.specs.Str.{bytes_eq}
use Rattle.std.specs.Option.{option_map_or}
use Rattle.std.proofs.lemmas.Bool.Decides.{nat_tests}
use Rattle.std.proofs.lemmas.Grind.{flat_map-append}
use Rattle.std.proofs.lemmas.List.Folds.{list_all-append}
use Rattle.std.proofs.lemmas.Slice.Eq.{bytes_eq-Decides}
use Rattle.nb_dhcpmsg.specs.Options.{TagValue, is_there, joined}
use Rattle.nb_dhcpmsg.specs.Messages.{MessageParts, IsMessage, HasOptions, is_value, field, has_file}
use Rattle.nb_dhcpmsg.specs.Fields.{file_name, overload_in}
use Rattle.nb_dhcpmsg.proofs.ReadingLemmas.{have_options}
use Rattle.nb_settings.specs.declared.error.SetError.{SetError}
use Rattle.nb_settings.specs.declared.error.SetError.TheVariants.{TooMany}
use Rattle.nb_settings.specs.declared.setting.OwnedKey.{OwnedKey}
use Rattle.nb_settings.specs.declared.setting.OwnedKey.TheVariants.{Tag, Sub}
use Rattle.nb_settings.specs.declared.setting.Setting.{Setting}
use Rattle.nb_settings.specs.Tables.{TableLists, is_of, register_refusal}
use Rattle.nb_settings.specs.LeaseSettings.{numbered, fill_refusal, is_text_kind, option_kind, option_bytes, option_setting, value_settings, options_in, tag_settings, is_left_out, is_named_file, inner_settings, options_within, address_settings, address_setting, address_at, lease_settings}
use Rattle.nb_settings.proofs.FindLemmas.{either_way}
use Rattle.nb_settings.proofs.NullLemmas.{nulls_fewer}

-- the options of a message that was read
pub have_options_in : (bytes : List ℕ) (m : MessageParts) → IsMessage bytes m → HasOptions bytes (options_in bytes)
unfolding options_in
have_options_in bytes m is =
    subst (HasOptions bytes) (sym (ap (λ (o : Option (List TagValue)). unwrap_or o []) (have_options bytes is.options is.has_options))) is.has_options

range_more : (a n : ℕ) → range_with_len a (suc n) ≡ range_with_len a n ++ (a + n) ∷ []
range_more a zero = ap (λ (k : ℕ). k ∷ []) (omega arith)
range_more a (suc n) =
    let at : (a + 1) + n ≡ a + suc n = omega arith in
    ap (λ (ks : List ℕ). a ∷ ks) (range_more (a + 1) n ∙ ap (λ (k : ℕ). range_with_len (a + 1) n ++ k ∷ []) at)

pub no_more : {A : Type 0} (xs : List A) → xs ++ [] ≡ xs
no_more [] = refl
no_more (x ∷ xs) = ap (λ ys. x ∷ ys) (no_more xs)

pub numbered_none : (f : ℕ → List Setting) → numbered f 0 ≡ []
unfolding numbered
numbered_none f = refl

-- one number more
pub numbered_more : (f : ℕ → List Setting) (n : ℕ) → numbered f (n + 1) ≡ numbered f n ++ f (n + 1)
unfolding numbered
numbered_more f n =
    let next : n + 1 ≡ suc n = omega arith in
    let turned : 1 + n ≡ n + 1 = omega arith in
    ap (λ (k : ℕ). flat_map f (range_with_len 1 k)) next
    ∙ ap (flat_map f) (range_more 1 n)
    ∙ flat_map-append f (range_with_len 1 n) ((1 + n) ∷ [])
    ∙ ap (λ (ss : List Setting). flat_map f (range_with_len 1 n) ++ ss) (no_more (f (1 + n)))
    ∙ ap (λ (k : ℕ). flat_map f (range_with_len 1 n) ++ f k) turned

-- a setting of the block whose value isn't too long
abbrev pub fits_in : List ℕ → Setting → Bool
fits_in block s = is_of block s && nat_le (length s.bytes) 1024

its_own : (block : List ℕ) → bytes_eq block block ≡ true
its_own block = (bytes_eq-Decides block block).1 refl

option_fits : (block : List ℕ) (key : OwnedKey) (bytes : List ℕ) → length bytes ≤ 1024 → fits_in block (option_setting block key bytes) ≡ true
unfolding option_setting
option_fits block key bytes few =
    let kept : length (option_bytes (option_kind key) bytes) ≤ 1024 =
    either_way (is_text_kind (option_kind key))
    (λ on. rw on (let less = nulls_fewer bytes in omega arith))
    (λ off. rw off few) in
    let short : nat_le (length (option_bytes (option_kind key) bytes)) 1024 ≡ true = grind (arith, nat_tests) in
    rw (its_own block, short) refl

both_true : (a b : Bool) → (a && b) ≡ true → b ≡ true
both_true true b h = h
both_true false b h = absurd cc

value_fits : (block : List ℕ) (key : OwnedKey) (tag : ℕ) (os : List TagValue) → list_all (fits_in block) (value_settings block key tag os) ≡ true
unfolding value_settings
value_fits block key tag os = either_way (is_value tag os)
    (λ on.
    let short : nat_le (length (joined tag os)) 1024 ≡ true = both_true (is_there tag os) (nat_le (length (joined tag os)) 1024) on in
    let few : length (joined tag os) ≤ 1024 = grind (arith, nat_tests) in
    rw on (rw (option_fits block key (joined tag os) few) refl))
    (λ off. rw off refl)

take_few : {A : Type 0} (n : ℕ) (xs : List A) → length (take n xs) ≤ n
take_few zero xs = omega arith
take_few (suc n) [] = omega arith
take_few (suc n) (x ∷ xs) = let ih = take_few n xs in omega arith

take_less : {A : Type 0} (n : ℕ) (xs : List A) → length (take n xs) ≤ length xs
take_less zero xs = omega arith
take_less (suc n) [] = omega arith
take_less (suc n) (x ∷ xs) = let ih = take_less n xs in omega arith

up_to_less : (bytes : List ℕ) (end : Option ℕ) → length (option_map_or (λ i. take i bytes) end bytes) ≤ length bytes
up_to_less bytes None = omega arith
up_to_less bytes (Some i) = take_less i bytes

-- a file's name has at most 128 bytes
file_few : (ack : List ℕ) → length (file_name ack) ≤ 128
file_few ack =
    let name = field 108 128 ack in
    let less = up_to_less name (position (λ byte. byte == 0) name) in
    let few = take_few 128 (drop 108 ack) in
    either_way (has_file (overload_in ack))
    (λ on. rw on (omega arith))
    (λ off. rw off (omega arith))

tag_fits : (block ack : List ℕ) (tag : ℕ) → list_all (fits_in block) (tag_settings block ack tag) ≡ true
unfolding tag_settings
tag_fits block ack tag = either_way (is_left_out tag)
    (λ out. rw out refl)
    (λ kept. either_way (is_named_file ack tag)
    (λ named.
    let short = file_few ack in
    let few : length (file_name ack) ≤ 1024 = omega arith in
    rw (kept, named) (rw (option_fits block (Tag tag) (file_name ack) few) refl))
    (λ other. rw (kept, other) (value_fits block (Tag tag) tag (options_in ack))))

inner_fits : (block ack : List ℕ) (inner : ℕ) → list_all (fits_in block) (inner_settings block ack inner) ≡ true
unfolding inner_settings
inner_fits block ack inner = value_fits block (Sub 175 inner) inner (options_within ack)

and_both : (a b : Bool) → a ≡ true → b ≡ true → (a && b) ≡ true
and_both true true x y = refl
and_both true false x y = absurd cc
and_both false b x y = absurd cc

pub all_both : (p : Setting → Bool) (ss ts : List Setting) → list_all p ss ≡ true → list_all p ts ≡ true → list_all p (ss ++ ts) ≡ true
all_both p ss ts one other = list_all-append p ss ts ∙ and_both (list_all p ss) (list_all p ts) one other

all_of_each : (p : Setting → Bool) (f : ℕ → List Setting) (ns : List ℕ) → ((n : ℕ) → list_all p (f n) ≡ true) → list_all p (flat_map f ns) ≡ true
all_of_each p f [] each = refl
all_of_each p f (n ∷ ns) each =
    all_both p (f n) (flat_map f ns) (each n) (all_of_each p f ns each)

address_fits : (block name : List ℕ) (address : ℕ) → fits_in block (address_setting block name address) ≡ true
address_fits block name address = rw (its_own block) refl

addresses_fit : (block : List ℕ) (yours next : ℕ) → list_all (fits_in block) (address_settings block yours next) ≡ true
unfolding address_settings
addresses_fit block yours next = either_way (next == 0)
    (λ none. rw (none, its_own block) refl)
    (λ some. rw (some, its_own block) refl)

numbered_fit : (p : Setting → Bool) (f : ℕ → List Setting) (n : ℕ) → ((k : ℕ) → list_all p (f k) ≡ true) → list_all p (numbered f n) ≡ true
unfolding numbered
numbered_fit p f n each = all_of_each p f (range_with_len 1 n) each

-- the settings of a lease fit into its block, each by itself
pub lease_fits : (block ack : List ℕ) → list_all (fits_in block) (lease_settings block ack) ≡ true
unfolding lease_settings
lease_fits block ack =
    let tags = numbered (tag_settings block ack) 254 in
    let inner = numbered (inner_settings block ack) 254 in
    let addresses = address_settings block (address_at 16 ack) (address_at 20 ack) in
    all_both (fits_in block) (tags ++ inner) addresses
    (all_both (fits_in block) tags inner
    (numbered_fit (fits_in block) (tag_settings block ack) 254 (tag_fits block ack))
    (numbered_fit (fits_in block) (inner_settings block ack) 254 (inner_fits block ack)))
    (addresses_fit block (address_at 16 ack) (address_at 20 ack))

fill_none : (a : Bool) (rest : Option SetError) → (if a then Some TooMany else rest) ≡ None → (a ≡ false) × (rest ≡ None)
fill_none true rest none = absurd cc
fill_none false rest none = (refl, none)

pub fill_tests : (block : List ℕ) (settings : List Setting) (table : TableLists) → fill_refusal block settings table ≡ None → (nat_lt 128 (length settings) ≡ false) × (register_refusal block table ≡ None)
fill_tests block settings table none = fill_none (nat_lt 128 (length settings)) (register_refusal block table) none
