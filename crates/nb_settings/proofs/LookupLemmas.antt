-- The first of the settings in the order of the blocks.
use Rattle.std.proofs.Common.{◌≡◌, ℕ, Bool, true, false, List, [], ◌∷◌, ◌++◌, map, Option, Some, None, refl, ap, ◌∙◌}
use Rattle.std.specs.Prelude.{find, filter, slice_get, option_map, option_and_then, unwrap_or}
use Rattle.std.specs.Borrow.{Bor}
use Rattle.std.specs.List.{list_any}
use Rattle.std.specs.Option.{option_copied}
use Rattle.nb_settings.specs.declared.block.Block.{Block}
use Rattle.nb_settings.specs.declared.setting.OwnedKey.{OwnedKey}
use Rattle.nb_settings.specs.declared.setting.Setting.{Setting}
use Rattle.nb_settings.specs.Tables.{TableLists, setting_value, is_setting, is_behind, by_priority, settings_in, look, own_value}
use Rattle.nb_settings.specs.Order.{has_behind, value_behind}
use Rattle.nb_settings.proofs.FindLemmas.{either_way}

-- the first of two values that is there
abbrev pub first_of : {A : Type 0} → Option A → Option A → Option A
first_of None other = other
first_of (Some x) other = Some x

first-append : {A : Type 0} (xs ys : List A) → slice_get (xs ++ ys) 0 ≡ first_of (slice_get xs 0) (slice_get ys 0)
first-append [] ys = refl
first-append (x ∷ xs) ys = refl

first-filter : {A : Type 0} (p : A → Bool) (xs : List A) → slice_get (filter p xs) 0 ≡ find p xs
first-filter p [] = refl
first-filter p (x ∷ xs) = either_way (p x) (λ on. rw on refl) (λ off. rw off (first-filter p xs))

first-settings_in : (name : List ℕ) (names : List (List ℕ)) (key : OwnedKey) (settings : List Setting) → slice_get (settings_in (name ∷ names) key settings) 0 ≡ first_of (find (is_setting name key) settings) (slice_get (settings_in names key settings) 0)
first-settings_in name names key settings =
    first-append (filter (is_setting name key) settings) (settings_in names key settings)
    ∙ ap (λ o. first_of o (slice_get (settings_in names key settings) 0)) (first-filter (is_setting name key) settings)

first_of-map : {A B : Type 0} (f : A → B) (a b : Option A) → option_map f (first_of a b) ≡ first_of (option_map f a) (option_map f b)
first_of-map f None b = refl
first_of-map f (Some x) b = refl

-- look-up: in the block itself, and then in those after it
pub look_is : (block : Option (List ℕ)) (key : OwnedKey) (table : TableLists) → look block key table ≡ first_of (own_value (unwrap_or block []) key table) (value_behind block key table)
unfolding look own_value value_behind
look_is block key table =
    let names = map (λ (other : Block). other.name) (filter (is_behind block) (by_priority table.blocks)) in
    ap (option_map setting_value) (first-settings_in (unwrap_or block []) names key table.settings)
    ∙ first_of-map setting_value (find (is_setting (unwrap_or block []) key) table.settings) (slice_get (settings_in names key table.settings) 0)

any-first : {A : Type 0} (p : A → Bool) (xs : List A) (other : Option A) → list_any p xs ≡ true → first_of (find p xs) other ≡ find p xs
any-first p [] other some = absurd cc
any-first p (x ∷ xs) other some = either_way (p x) (λ on. rw on refl) (λ off. rw off (any-first p xs other (rw off at some)))

none-first : {A : Type 0} (p : A → Bool) (xs : List A) (other : Option A) → list_any p xs ≡ false → first_of (find p xs) other ≡ other
none-first p [] other none = refl
none-first p (x ∷ xs) other none = either_way (p x)
    (λ on. let wrong : true ≡ false = rw on at none in absurd cc)
    (λ off. rw off (none-first p xs other (rw off at none)))

-- the setting in the first block after that has the key
abbrev setting_behind : Option (List ℕ) → OwnedKey → List Setting → List Block → Option Setting
setting_behind block key settings blocks =
    option_and_then (λ (b : Block). find (is_setting b.name key) settings) (find (has_behind block key settings) blocks)

behind_is : (block : Option (List ℕ)) (key : OwnedKey) (settings : List Setting) (blocks : List Block) → slice_get (settings_in (map (λ (b : Block). b.name) (filter (is_behind block) blocks)) key settings) 0 ≡ setting_behind block key settings blocks
behind_is block key settings [] = refl
behind_is block key settings (b ∷ bs) =
    let ih = behind_is block key settings bs in
    let names = map (λ (c : Block). c.name) (filter (is_behind block) bs) in
    either_way (is_behind block b)
    (λ on. either_way (list_any (is_setting b.name key) settings)
    (λ some. rw (on, some) (first-settings_in b.name names key settings ∙ any-first (is_setting b.name key) settings (slice_get (settings_in names key settings) 0) some))
    (λ none. rw (on, none) (first-settings_in b.name names key settings ∙ none-first (is_setting b.name key) settings (slice_get (settings_in names key settings) 0) none ∙ ih)))
    (λ off. rw off ih)

map-and_then : {A B C : Type 0} (f : B → C) (g : A → Option B) (o : Option A) → option_map f (option_and_then g o) ≡ option_and_then (λ x. option_map f (g x)) o
map-and_then f g None = refl
map-and_then f g (Some x) = refl

-- the value after a block is that of the first block after it that has the key
pub value_behind_is : (block : Option (List ℕ)) (key : OwnedKey) (table : TableLists) → value_behind block key table ≡ option_and_then (λ (b : Block). own_value b.name key table) (find (has_behind block key table.settings) (by_priority table.blocks))
unfolding value_behind own_value
value_behind_is block key table =
    ap (option_map setting_value) (behind_is block key table.settings (by_priority table.blocks))
    ∙ map-and_then setting_value (λ (b : Block). find (is_setting b.name key) table.settings) (find (has_behind block key table.settings) (by_priority table.blocks))

-- the block that is named, or the root
pub named_or_root : (block : Option (Bor (List ℕ))) (root : Bor (List ℕ)) → root.now ≡ [] → (unwrap_or block root).now ≡ unwrap_or (option_copied block) []
named_or_root None root empty = empty
named_or_root (Some name) root empty = refl
