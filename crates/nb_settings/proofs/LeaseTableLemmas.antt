-- A table stays one with the settings of a lease.
use Rattle.std.proofs.Common.{◌≡◌, ◌∙◌, ap, sym, subst, refl, arith, ℕ, ◌+◌, ◌≤◌, List, [], ◌∷◌, ◌++◌, length, Bool, true, false, not, ◌&&◌, Some, None}
use Rattle.std.specs.Prelude.{filter, nat_le}
use Rattle.std.specs.List.{All, AllPairs, list_all, list_any}
use Rattle.std.specs.Str.{bytes_eq}
use Rattle.std.proofs.lemmas.List.Elements.{All-weaker}
use Rattle.std.proofs.lemmas.Slice.Eq.{bytes_eq-Decides}
use Rattle.nb_settings.specs.declared.block.Block.{Block}
use Rattle.nb_settings.specs.declared.setting.Setting.{Setting}
use Rattle.nb_settings.specs.Tables.{TableLists, IsTable, is_of, is_root, is_named, has_block, count_of, count_in, with_block, without_block, registered, register_refusal}
use Rattle.nb_settings.proofs.FindLemmas.{either_way}
use Rattle.nb_settings.proofs.TableLemmas.{count, count_is, fewer, kept_register}
use Rattle.nb_settings.proofs.DoublesLemmas.{OtherKey, all_pass, keys_filled}
use Rattle.nb_settings.proofs.LeaseLemmas.{all_both, fits_in}

count-append : {A : Type 0} (p : A → Bool) (xs ys : List A) → count p (xs ++ ys) ≡ count p xs + count p ys
unfolding count
count-append p [] ys = omega arith
count-append p (x ∷ xs) ys =
    let ih = count-append p xs ys in
    either_way (p x) (λ on. rw (on, ih) (omega arith)) (λ off. rw (off, ih) refl)

count-few : {A : Type 0} (p : A → Bool) (xs : List A) → count p xs ≤ length xs
unfolding count
count-few p [] = omega arith
count-few p (x ∷ xs) =
    let ih = count-few p xs in
    either_way (p x) (λ on. rw on (omega arith)) (λ off. rw off (omega arith))

count-none : {A : Type 0} (p q : A → Bool) (xs : List A) → ((x : A) → q x ≡ true → p x ≡ false) → list_all q xs ≡ true → count p xs ≡ 0
unfolding count
count-none p q [] other all = refl
count-none p q (x ∷ xs) other all = either_way (q x)
    (λ on. let off = other x on in rw off (count-none p q xs other (rw on at all)))
    (λ off. let wrong : false ≡ true = rw off at all in absurd cc)

count-left : {A : Type 0} (p : A → Bool) (xs : List A) → count p (filter (λ x. not (p x)) xs) ≡ 0
unfolding count
count-left p [] = refl
count-left p (x ∷ xs) =
    let ih = count-left p xs in
    either_way (p x) (λ on. rw on ih) (λ off. rw (off, off) ih)

first_true : (a b : Bool) → (a && b) ≡ true → a ≡ true
first_true true b h = refl
first_true false b h = absurd cc

second_true : (a b : Bool) → (a && b) ≡ true → b ≡ true
second_true true b h = h
second_true false b h = absurd cc

all_weaker : (p q : Setting → Bool) (ss : List Setting) → ((s : Setting) → p s ≡ true → q s ≡ true) → list_all p ss ≡ true → list_all q ss ≡ true
all_weaker p q [] weak all = refl
all_weaker p q (s ∷ ss) weak all = either_way (p s)
    (λ on. rw (weak s on, all_weaker p q ss weak (rw on at all)) refl)
    (λ off. let wrong : false ≡ true = rw off at all in absurd cc)

any_last : (name : List ℕ) (b : Block) (blocks : List Block) → bytes_eq b.name name ≡ true → list_any (is_named name) (blocks ++ b ∷ []) ≡ true
any_last name b [] same = rw same refl
any_last name b (c ∷ blocks) same =
    let ih = any_last name b blocks same in
    either_way (is_named name c) (λ on. rw on refl) (λ off. rw off ih)

-- a block that was registered is there
there_now : (b : Block) (blocks : List Block) → has_block b.name (with_block b blocks) ≡ true
there_now b blocks = either_way (is_root b.name)
    (λ root. rw root refl)
    (λ named. rw named (any_last b.name b (filter (λ other. not (is_named b.name other)) blocks) ((bytes_eq-Decides b.name b.name).1 refl)))

-- and has no settings
pub emptied_now : (b : Block) (table : TableLists) → count_in b.name (registered b table) ≡ Some 0
emptied_now b table =
    let none : count_of b.name (without_block b.name table.settings) ≡ 0 =
    sym (count_is (is_of b.name) (without_block b.name table.settings)) ∙ count-left (is_of b.name) table.settings in
    rw (there_now b table.blocks) (ap (λ (n : ℕ). Some n) none)

-- the settings of other blocks, and at most 128 of this one
at_most_filled : (x block : List ℕ) (settings new : List Setting) → count_of x settings ≤ 128 → list_all (fits_in block) new ≡ true → length new ≤ 128 → count_of x (without_block block settings ++ new) ≤ 128
at_most_filled x block settings new most fits few =
    let both = sym (count_is (is_of x) (without_block block settings ++ new)) ∙ count-append (is_of x) (without_block block settings) new in
    either_way (bytes_eq block x)
    (λ on.
    let same : block ≡ x = (bytes_eq-Decides block x).0 on in
    let none : count (is_of x) (without_block block settings) ≡ 0 = subst (λ (n : List ℕ). count (is_of n) (without_block block settings) ≡ 0) same (count-left (is_of block) settings) in
    let less = count-few (is_of x) new in
    omega arith)
    (λ off.
    let none : count (is_of x) new ≡ 0 =
    count-none (is_of x) (fits_in block) new
    (λ s on. ap (λ (n : List ℕ). bytes_eq n x) ((bytes_eq-Decides s.block block).0 (first_true (is_of block s) (nat_le (length s.bytes) 1024) on)) ∙ off) fits in
    let less = fewer (λ s. not (is_of block s)) x settings most in
    let kept = count_is (is_of x) (without_block block settings) in
    omega arith)

all_filled : (p : Setting → Bool) (old new : List Setting) → list_all p old ≡ true → list_all p new ≡ true → list_all p (old ++ new) ≡ true
all_filled p old new one other = all_both p old new one other

-- each is of the block
all_its : (block : List ℕ) (ss : List Setting) → list_all (fits_in block) ss ≡ true → All (λ (s : Setting). s.block ≡ block) ss
all_its block ss fits =
    All-weaker (λ (s : Setting). fits_in block s ≡ true) (λ (s : Setting). s.block ≡ block)
    (λ s on. (bytes_eq-Decides s.block block).0 (first_true (is_of block s) (nat_le (length s.bytes) 1024) on)) ss (all_pass (fits_in block) ss fits)

-- a table stays one with a block that was registered, and at most 128 settings in it, each with a key of its own
pub kept_filled : (table : TableLists) (b : Block) (new : List Setting) → IsTable table → register_refusal b.name table ≡ None → list_all (fits_in b.name) new ≡ true → AllPairs OtherKey new → length new ≤ 128 → IsTable (record { blocks = with_block b table.blocks; settings = without_block b.name table.settings ++ new })
kept_filled table b new is none fits apart few =
    let emptied = kept_register table b is none in
    record {
      few = emptied.few;
      at_most = λ x. at_most_filled x b.name table.settings new (is.at_most x) fits few;
      short = all_filled (λ (x : Setting). nat_le (length x.bytes) 1024) (without_block b.name table.settings) new emptied.short (all_weaker (fits_in b.name) (λ (x : Setting). nat_le (length x.bytes) 1024) new (λ s on. second_true (is_of b.name s) (nat_le (length s.bytes) 1024) on) fits);
      no_doubles = record {
        names = emptied.no_doubles.names;
        one_root = emptied.no_doubles.one_root;
        keys = keys_filled b.name table.settings new is.no_doubles.keys apart (all_its b.name new fits);
        within = all_filled (λ (x : Setting). has_block x.block (with_block b table.blocks)) (without_block b.name table.settings) new emptied.no_doubles.within
            (all_weaker (fits_in b.name) (λ (x : Setting). has_block x.block (with_block b table.blocks)) new
            (λ s on. ap (λ (n : List ℕ). has_block n (with_block b table.blocks)) ((bytes_eq-Decides s.block b.name).0 (first_true (is_of b.name s) (nat_le (length s.bytes) 1024) on)) ∙ there_now b table.blocks) fits);
      };
    }
