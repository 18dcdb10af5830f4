-- No two settings of a lease have one key.
use Rattle.std.proofs.Common.{◌≡◌, ◌∙◌, ap, sym, refl, arith, ℕ, zero, suc, ◌+◌, ◌≤◌, List, [], ◌∷◌, ◌++◌, length, Bool, true, false}
use Rattle.std.specs.Prelude.{codes, ◌==◌, if◌then◌else◌}
use Rattle.std.specs.List.{All, AllPairs, flat_map, range_with_len}
use Rattle.std.proofs.lemmas.List.Elements.{All-nil, All-cons, All-append, All-weaker}
use Rattle.std.proofs.lemmas.List.Kept.{AllPairs-cons}
use Rattle.nb_dhcpmsg.specs.Options.{TagValue, joined}
use Rattle.nb_dhcpmsg.specs.Messages.{is_value}
use Rattle.nb_dhcpmsg.specs.Fields.{file_name}
use Rattle.nb_settings.specs.declared.setting.OwnedKey.{OwnedKey}
use Rattle.nb_settings.specs.declared.setting.OwnedKey.TheVariants.{Tag, Sub, Free}
use Rattle.nb_settings.specs.declared.setting.Setting.{Setting}
use Rattle.nb_settings.specs.Keys.{same_key}
use Rattle.nb_settings.specs.LeaseSettings.{numbered, option_setting, value_settings, options_in, tag_settings, is_left_out, is_named_file, inner_settings, options_within, address_settings, address_setting, address_at, lease_settings}
use Rattle.nb_settings.proofs.FindLemmas.{either_way}
use Rattle.nb_settings.proofs.OneKeyLemmas.{same_as_itself}
use Rattle.nb_settings.proofs.DoublesLemmas.{OtherKey, pairs-append}

-- at most one setting, and of this key
abbrev pub AreOf : OwnedKey → List Setting → Type 0
AreOf key ss = (length ss ≤ 1) × All (λ (s : Setting). s.key ≡ key) ss

none_of : (key : OwnedKey) → AreOf key []
none_of key = (omega arith, All-nil (λ (s : Setting). s.key ≡ key))

its_key : (block : List ℕ) (key : OwnedKey) (bytes : List ℕ) → (option_setting block key bytes).key ≡ key
unfolding option_setting
its_key block key bytes = refl

one_of : (block : List ℕ) (key : OwnedKey) (bytes : List ℕ) → AreOf key (option_setting block key bytes ∷ [])
one_of block key bytes =
    (omega arith, All-cons (λ (s : Setting). s.key ≡ key) (option_setting block key bytes) [] (its_key block key bytes) (All-nil (λ (s : Setting). s.key ≡ key)))

value_of_key : (block : List ℕ) (key : OwnedKey) (tag : ℕ) (os : List TagValue) → AreOf key (value_settings block key tag os)
unfolding value_settings
value_of_key block key tag os = either_way (is_value tag os)
    (λ on. rw on (one_of block key (joined tag os)))
    (λ off. rw off (none_of key))

pub tag_of_key : (block ack : List ℕ) (tag : ℕ) → AreOf (Tag tag) (tag_settings block ack tag)
unfolding tag_settings
tag_of_key block ack tag = either_way (is_left_out tag)
    (λ out. rw out (none_of (Tag tag)))
    (λ kept. either_way (is_named_file ack tag)
    (λ named. rw (kept, named) (one_of block (Tag tag) (file_name ack)))
    (λ other. rw (kept, other) (value_of_key block (Tag tag) tag (options_in ack))))

pub inner_of_key : (block ack : List ℕ) (inner : ℕ) → AreOf (Sub 175 inner) (inner_settings block ack inner)
unfolding inner_settings
inner_of_key block ack inner = value_of_key block (Sub 175 inner) inner (options_within ack)

-- its key is of a number from this one on
abbrev pub From : (ℕ → OwnedKey) → ℕ → Setting → Type 0
From key a s = (n : ℕ) × (a ≤ n) × (s.key ≡ key n)

range_from : (key : ℕ → OwnedKey) (f : ℕ → List Setting) → ((n : ℕ) → AreOf (key n) (f n)) → (a count : ℕ) → All (From key a) (flat_map f (range_with_len a count))
range_from key f of a zero = All-nil (From key a)
range_from key f of a (suc count) =
    All-append (From key a) (f a) (flat_map f (range_with_len (a + 1) count))
    (All-weaker (λ (s : Setting). s.key ≡ key a) (From key a) (λ s is. (a, omega arith, is)) (f a) (of a).1)
    (All-weaker (From key (a + 1)) (From key a) (λ s later. (later.0, omega (arith, later.1), later.2)) (flat_map f (range_with_len (a + 1) count)) (range_from key f of (a + 1) count))

few_apart : (ss : List Setting) → length ss ≤ 1 → AllPairs OtherKey ss
few_apart ss few = λ i j d less within. absurd (omega arith)

range_apart : (key : ℕ → OwnedKey) (f : ℕ → List Setting) → ((m n : ℕ) → key m ≡ key n → m ≡ n) → ((n : ℕ) → AreOf (key n) (f n)) → (a count : ℕ) → AllPairs OtherKey (flat_map f (range_with_len a count))
range_apart key f one of a zero = few_apart [] (omega arith)
range_apart key f one of a (suc count) =
    let rest = flat_map f (range_with_len (a + 1) count) in
    let across = λ (x : Setting) (is : x.key ≡ key a).
    All-weaker (From key (a + 1)) (OtherKey x)
    (λ s later. λ block same. (let number : a ≡ later.0 = one a later.0 (sym is ∙ same ∙ later.2) in absurd (omega (arith, later.1)))) rest (range_from key f of (a + 1) count) in
    pairs-append OtherKey (f a) rest (few_apart (f a) (of a).0) (range_apart key f one of (a + 1) count)
    (All-weaker (λ (s : Setting). s.key ≡ key a) (λ (x : Setting). All (OtherKey x) rest) across (f a) (of a).1)

-- a key's form
abbrev form : OwnedKey → ℕ
form (Tag n) = 0
form (Sub outer inner) = 1
form (Free name) = 2

abbrev Has : ℕ → Setting → Type 0
Has n s = form s.key ≡ n

forms_apart : (m n : ℕ) → (m ≡ n → ⊥) → (xs ys : List Setting) → All (Has m) xs → All (Has n) ys → All (λ (x : Setting). All (OtherKey x) ys) xs
forms_apart m n other xs ys one two =
    All-weaker (Has m) (λ (x : Setting). All (OtherKey x) ys)
    (λ x is. All-weaker (Has n) (OtherKey x) (λ y its. λ block same. other (sym is ∙ ap form same ∙ its)) ys two) xs one

tag_number : (m n : ℕ) → Tag m ≡ Tag n → m ≡ n
tag_number m n same = cc

inner_number : (m n : ℕ) → Sub 175 m ≡ Sub 175 n → m ≡ n
inner_number m n same = cc

numbered_apart : (key : ℕ → OwnedKey) (f : ℕ → List Setting) → ((m n : ℕ) → key m ≡ key n → m ≡ n) → ((n : ℕ) → AreOf (key n) (f n)) → (count : ℕ) → AllPairs OtherKey (numbered f count)
unfolding numbered
numbered_apart key f one of count = range_apart key f one of 1 count

pub numbered_from : (key : ℕ → OwnedKey) (f : ℕ → List Setting) → ((n : ℕ) → AreOf (key n) (f n)) → (count : ℕ) → All (From key 1) (numbered f count)
unfolding numbered
numbered_from key f of count = range_from key f of 1 count

numbered_form : (key : ℕ → OwnedKey) (f : ℕ → List Setting) (k : ℕ) → ((n : ℕ) → form (key n) ≡ k) → ((n : ℕ) → AreOf (key n) (f n)) → (count : ℕ) → All (Has k) (numbered f count)
numbered_form key f k is of count =
    All-weaker (From key 1) (Has k) (λ s from. ap form from.2 ∙ is from.0) (numbered f count) (numbered_from key f of count)

ip_alone : Free (codes "ip") ≡ Free (codes "next-server") → ⊥
ip_alone same =
    let wrong : true ≡ false = sym (same_as_itself (Free (codes "ip"))) ∙ ap (same_key (Free (codes "ip"))) same in
    absurd cc

one_or_two_apart : (ip server : Setting) (alone : Bool) → OtherKey ip server → AllPairs OtherKey (ip ∷ (if alone then [] else server ∷ []))
one_or_two_apart ip server true other = few_apart (ip ∷ []) (omega arith)
one_or_two_apart ip server false other =
    AllPairs-cons OtherKey ip (server ∷ []) (All-cons (OtherKey ip) server [] other (All-nil (OtherKey ip))) (few_apart (server ∷ []) (omega arith))

one_or_two_form : (ip server : Setting) (alone : Bool) → Has 2 ip → Has 2 server → All (Has 2) (ip ∷ (if alone then [] else server ∷ []))
one_or_two_form ip server true one two = All-cons (Has 2) ip [] one (All-nil (Has 2))
one_or_two_form ip server false one two =
    All-cons (Has 2) ip (server ∷ []) one (All-cons (Has 2) server [] two (All-nil (Has 2)))

addresses_apart : (block : List ℕ) (yours next : ℕ) → AllPairs OtherKey (address_settings block yours next)
unfolding address_settings
addresses_apart block yours next =
    one_or_two_apart (address_setting block (codes "ip") yours) (address_setting block (codes "next-server") next) (next == 0) (λ _ same. ip_alone same)

addresses_form : (block : List ℕ) (yours next : ℕ) → All (Has 2) (address_settings block yours next)
unfolding address_settings
addresses_form block yours next =
    one_or_two_form (address_setting block (codes "ip") yours) (address_setting block (codes "next-server") next) (next == 0) refl refl

-- the settings of a lease have each a key of its own
pub lease_apart : (block ack : List ℕ) → AllPairs OtherKey (lease_settings block ack)
unfolding lease_settings
lease_apart block ack =
    let tags = numbered (tag_settings block ack) 254 in
    let inner = numbered (inner_settings block ack) 254 in
    let addresses = address_settings block (address_at 16 ack) (address_at 20 ack) in
    let tag_key = λ (n : ℕ). Tag n in
    let inner_key = λ (n : ℕ). Sub 175 n in
    let tags_are = numbered_form tag_key (tag_settings block ack) 0 (λ n. refl) (tag_of_key block ack) 254 in
    let inner_are = numbered_form inner_key (inner_settings block ack) 1 (λ n. refl) (inner_of_key block ack) 254 in
    let addresses_are = addresses_form block (address_at 16 ack) (address_at 20 ack) in
    let others : All (λ (x : Setting). All (OtherKey x) addresses) (tags ++ inner) =
    All-append (λ (x : Setting). All (OtherKey x) addresses) tags inner
    (forms_apart 0 2 (λ wrong. absurd cc) tags addresses tags_are addresses_are)
    (forms_apart 1 2 (λ wrong. absurd cc) inner addresses inner_are addresses_are) in
    pairs-append OtherKey (tags ++ inner) addresses
    (pairs-append OtherKey tags inner
    (numbered_apart tag_key (tag_settings block ack) tag_number (tag_of_key block ack) 254)
    (numbered_apart inner_key (inner_settings block ack) inner_number (inner_of_key block ack) 254)
    (forms_apart 0 1 (λ wrong. absurd cc) tags inner tags_are inner_are))
    (addresses_apart block (address_at 16 ack) (address_at 20 ack)) others
