-- Nothing stands twice in a table.
use Rattle.std.proofs.Common.{◌≡◌, ◌∙◌, ap, sym, refl, arith, ℕ, zero, suc, ◌+◌, ◌<◌, List, [], ◌∷◌, ◌++◌, length, get_or, set, Bool, true, false, not, Option, Some, None}
use Rattle.std.specs.Prelude.{◌≢◌, filter}
use Rattle.std.specs.List.{All, AllPairs, list_all, position_from}
use Rattle.std.specs.Str.{bytes_eq}
use Rattle.std.proofs.lemmas.Iterator.Adapters.{position_from-zero}
use Rattle.std.proofs.lemmas.List.{length-set}
use Rattle.std.proofs.lemmas.List.Elements.{All-nil, All-cons, All-head, All-tail, All-append, All-push, All-filter, All-weaker, filter_passes}
use Rattle.std.proofs.lemmas.List.Kept.{AllPairs-cons, AllPairs-filter}
use Rattle.std.proofs.lemmas.List.Quantifiers.{all_pairs_push, position-Some}
use Rattle.std.proofs.lemmas.Slice.Eq.{bytes_eq-Decides}
use Rattle.nb_settings.specs.declared.block.Block.{Block}
use Rattle.nb_settings.specs.declared.setting.Setting.{Setting}
use Rattle.nb_settings.specs.Keys.{same_key}
use Rattle.nb_settings.specs.Tables.{is_of, is_setting, is_root, is_named, place_of, put_at, with_block, without_block}
use Rattle.nb_settings.proofs.FindLemmas.{either_way, both}
use Rattle.nb_settings.proofs.OneKeyLemmas.{one_key, same_as_itself}

-- two blocks have two names
abbrev pub OtherName : Block → Block → Type 0
OtherName one other = one.name ≢ other.name

-- two settings aren't of one block and key
abbrev pub OtherKey : Setting → Setting → Type 0
OtherKey one other = one.block ≡ other.block → one.key ≢ other.key

pub all_pass : {A : Type 0} (p : A → Bool) (xs : List A) → list_all p xs ≡ true → All (λ x. p x ≡ true) xs
all_pass p [] all = All-nil (λ x. p x ≡ true)
all_pass p (x ∷ xs) all = either_way (p x)
    (λ on. All-cons (λ y. p y ≡ true) x xs on (all_pass p xs (rw on at all)))
    (λ off. let wrong : false ≡ true = rw off at all in absurd cc)

-- BLOCKS

not_same : (a b : List ℕ) → not (bytes_eq a b) ≡ true → a ≢ b
not_same a b other = λ same.
    let on = (bytes_eq-Decides a b).1 same in
    let wrong : false ≡ true = rw on at other in
    absurd cc

named_block : (name : List ℕ) → is_root name ≡ false → name ≢ []
named_block name named = λ empty. let wrong : true ≡ false = ap is_root (sym empty) ∙ named in absurd cc

-- also with a block more
pub names_kept : (b : Block) (blocks : List Block) → AllPairs OtherName blocks → AllPairs OtherName (with_block b blocks)
names_kept b blocks names = either_way (is_root b.name)
    (λ root. rw root names)
    (λ named.
    let q = λ (other : Block). not (is_named b.name other) in
    rw named (all_pairs_push OtherName (filter q blocks) b (AllPairs-filter OtherName q blocks names)
    (λ k d within. not_same (get_or (filter q blocks) k d).name b.name (filter_passes q blocks k d within))))

pub root_kept : (b : Block) (blocks : List Block) → All (λ (x : Block). x.name ≢ []) blocks → All (λ (x : Block). x.name ≢ []) (with_block b blocks)
root_kept b blocks one = either_way (is_root b.name)
    (λ root. rw root one)
    (λ named.
    let q = λ (other : Block). not (is_named b.name other) in
    rw named (All-push (λ (x : Block). x.name ≢ []) (filter q blocks) b (All-filter q (λ (x : Block). x.name ≢ []) blocks one) (named_block b.name named)))

-- SETTINGS

pub keys_filtered : (q : Setting → Bool) (ss : List Setting) → AllPairs OtherKey ss → AllPairs OtherKey (filter q ss)
keys_filtered q ss keys = AllPairs-filter OtherKey q ss keys

found_none : {A : Type 0} (p : A → Bool) (n : ℕ) (xs : List A) → position_from p n xs ≡ None → All (λ x. p x ≡ false) xs
found_none p n [] none = All-nil (λ x. p x ≡ false)
found_none p n (x ∷ xs) none = either_way (p x)
    (λ on. let wrong : Some n ≡ None = rw on at none in absurd cc)
    (λ off. All-cons (λ y. p y ≡ false) x xs off (found_none p (n + 1) xs (rw off at none)))

not_its : (s x : Setting) → is_setting s.block s.key x ≡ false → OtherKey x s
not_its s x off = λ block key.
    let one = (bytes_eq-Decides x.block s.block).1 block in
    let two : same_key x.key s.key ≡ true = ap (same_key x.key) (sym key) ∙ same_as_itself x.key in
    let wrong : true ≡ false = rw (one, two) at off in
    absurd cc

-- a value in the place of one with the same answer changes no answer
put_same : {A B : Type 0} (f : A → B) (xs : List A) (i k : ℕ) (x d : A) → f (get_or xs i x) ≡ f x → k < length xs → f (get_or (set xs i x) k d) ≡ f (get_or xs k d)
put_same f [] i k x d same within = absurd (omega arith)
put_same f (y ∷ ys) zero zero x d same within = sym same
put_same f (y ∷ ys) zero (suc k) x d same within = refl
put_same f (y ∷ ys) (suc i) zero x d same within = refl
put_same f (y ∷ ys) (suc i) (suc k) x d same within = put_same f ys i k x d same (omega arith)

-- also with a setting in place of the one of its block and key, or after all where there is none
pub keys_put : (s : Setting) (ss : List Setting) (place : Option ℕ) → place_of s.block s.key ss ≡ place → AllPairs OtherKey ss → AllPairs OtherKey (put_at place s ss)
keys_put s ss None at keys =
    let test = is_setting s.block s.key in
    let others = found_none test 0 ss (sym (position_from-zero test ss) ∙ at) in
    all_pairs_push OtherKey ss s keys (λ k d within. not_its s (get_or ss k d) (others k d within))
keys_put s ss (Some i) at keys =
    let there = position-Some (is_setting s.block s.key) ss i s at in
    let old = get_or ss i s in
    let its = both (is_of s.block old) (same_key old.key s.key) there.1 in
    let block : old.block ≡ s.block = (bytes_eq-Decides old.block s.block).0 its.0 in
    let key : old.key ≡ s.key = one_key old.key s.key its.1 in
    λ a b d less within.
    let long = length-set ss i s in
    let first : a < length ss = omega arith in
    let second : b < length ss = omega arith in
    let block_at = λ (k : ℕ) (w : k < length ss). put_same (λ (x : Setting). x.block) ss i k s d block w in
    let key_at = λ (k : ℕ) (w : k < length ss). put_same (λ (x : Setting). x.key) ss i k s d key w in
    λ same_block same_key.
    keys a b d less second
    (sym (block_at a first) ∙ same_block ∙ block_at b second)
    (sym (key_at a first) ∙ same_key ∙ key_at b second)

-- LISTS BEHIND ONE ANOTHER

pairs-head : {A : Type 0} (R : A → A → Type 0) (x : A) (xs : List A) → AllPairs R (x ∷ xs) → All (R x) xs
pairs-head R x xs pairs = λ k d within. pairs 0 (suc k) d (omega arith) (omega arith)

pairs-tail : {A : Type 0} (R : A → A → Type 0) (x : A) (xs : List A) → AllPairs R (x ∷ xs) → AllPairs R xs
pairs-tail R x xs pairs = λ i j d less within. pairs (suc i) (suc j) d (omega arith) (omega arith)

pub pairs-append : {A : Type 0} (R : A → A → Type 0) (xs ys : List A) → AllPairs R xs → AllPairs R ys → All (λ x. All (R x) ys) xs → AllPairs R (xs ++ ys)
pairs-append R [] ys one other across = other
pairs-append R (x ∷ xs) ys one other across =
    let here = All-append (R x) xs ys (pairs-head R x xs one) (All-head (λ z. All (R z) ys) x xs across) in
    AllPairs-cons R x (xs ++ ys) here (pairs-append R xs ys (pairs-tail R x xs one) other (All-tail (λ z. All (R z) ys) x xs across))

-- the settings of other blocks, and those of this one
pub keys_filled : (block : List ℕ) (old new : List Setting) → AllPairs OtherKey old → AllPairs OtherKey new → All (λ (s : Setting). s.block ≡ block) new → AllPairs OtherKey (without_block block old ++ new)
keys_filled block old new one other its =
    let q = λ (s : Setting). not (is_of block s) in
    let across = λ (x : Setting) (on : q x ≡ true).
    All-weaker (λ (s : Setting). s.block ≡ block) (OtherKey x) (λ s is. λ same key. not_same x.block block on (same ∙ is)) new its in
    pairs-append OtherKey (filter q old) new (AllPairs-filter OtherKey q old one) other
    (All-weaker (λ (x : Setting). q x ≡ true) (λ (x : Setting). All (OtherKey x) new) across (filter q old) (filter_passes q old))
