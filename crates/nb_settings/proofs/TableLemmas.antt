-- What the calls keep of a table.
use Rattle.std.proofs.Common.{◌≡◌, ℕ, zero, suc, ◌+◌, ◌<◌, ◌≤◌, Bool, true, false, not, cond, ◌&&◌, List, [], ◌∷◌, ◌++◌, length, get_or, set, Option, Some, None, Ok, Err, refl, ap, ◌∙◌, sym, subst, arith, length-append}
use Rattle.std.specs.Prelude.{filter, count_by, find, nat_lt, nat_le, is_none, if◌then◌else◌, ◌==◌, OnOk, OnErr}
use Rattle.std.specs.List.{list_all, list_any}
use Rattle.std.specs.declared.result.Result.{Result}
use Rattle.std.specs.Str.{bytes_eq}
use Rattle.std.proofs.lemmas.Bool.Decides.{nat_tests}
use Rattle.std.proofs.lemmas.List.Recursion.{is_count_by}
use Rattle.std.proofs.lemmas.List.Quantifiers.{position-Some}
use Rattle.std.proofs.lemmas.Option.{same_Some}
use Rattle.std.proofs.lemmas.Slice.Eq.{bytes_eq-Decides}
use Rattle.nb_settings.specs.declared.block.Block.{Block}
use Rattle.nb_settings.specs.declared.error.SetError.TheVariants.{BadName, TooMany, TooLong}
use Rattle.nb_settings.specs.declared.setting.OwnedKey.{OwnedKey}
use Rattle.nb_settings.specs.declared.setting.Setting.{Setting}
use Rattle.nb_settings.specs.Keys.{same_key}
use Rattle.nb_settings.specs.Tables.{TableLists, IsTable, is_of, is_setting, is_root, is_named, has_block, count_of, place_of, put_at, with_setting, with_value, with_block, registered, is_full, put_refusal, register_refusal}
use Rattle.nb_settings.proofs.FindLemmas.{either_way, find-passes, both}
use Rattle.nb_settings.proofs.DoublesLemmas.{keys_put, keys_filtered, names_kept, root_kept}

-- counting, head by head
unfoldable pub count : {A : Type 0} → (A → Bool) → List A → ℕ
count p [] = 0
count p (x ∷ xs) = cond (p x) (1 + count p xs) (count p xs)

pub count_is : {A : Type 0} (p : A → Bool) (xs : List A) → count p xs ≡ count_by p xs
unfolding count
count_is p xs = is_count_by (count p) p refl (λ x xs. refl) xs

count-filter : {A : Type 0} (p q : A → Bool) (xs : List A) → count p (filter q xs) ≤ count p xs
unfolding count
count-filter p q [] = omega arith
count-filter p q (x ∷ xs) =
    let ih = count-filter p q xs in
    either_way (q x)
    (λ on. either_way (p x) (λ px. rw (on, px) (omega arith)) (λ px. rw (on, px) ih))
    (λ off. either_way (p x) (λ px. rw (off, px) (omega arith)) (λ px. rw (off, px) ih))

count-push : {A : Type 0} (p : A → Bool) (xs : List A) (x : A) → count p (xs ++ x ∷ []) ≡ count p xs + cond (p x) 1 0
unfolding count
count-push p [] x = either_way (p x) (λ on. rw on refl) (λ off. rw off refl)
count-push p (y ∷ ys) x =
    let ih = count-push p ys x in
    either_way (p y) (λ on. rw (on, ih) (omega arith)) (λ off. rw off ih)

count-set : {A : Type 0} (p : A → Bool) (xs : List A) (i : ℕ) (x : A) → p (get_or xs i x) ≡ p x → count p (set xs i x) ≡ count p xs
unfolding count
count-set p [] i x same = refl
count-set p (y ∷ ys) zero x same = ap (λ b. cond b (1 + count p ys) (count p ys)) (sym same)
count-set p (y ∷ ys) (suc i) x same = ap (λ n. cond (p y) (1 + n) n) (count-set p ys i x same)

all-filter : {A : Type 0} (p q : A → Bool) (xs : List A) → list_all p xs ≡ true → list_all p (filter q xs) ≡ true
all-filter p q [] all = refl
all-filter p q (x ∷ xs) all = either_way (p x)
    (λ px.
    let ih = all-filter p q xs (rw px at all) in
    either_way (q x) (λ on. rw on (rw (px, ih) refl)) (λ off. rw off ih))
    (λ px. let wrong : false ≡ true = rw px at all in absurd cc)

all-put : {A : Type 0} (p : A → Bool) (xs : List A) (i : ℕ) (x : A) → list_all p xs ≡ true → p x ≡ true → list_all p (set xs i x) ≡ true
all-put p [] i x all on = refl
all-put p (y ∷ ys) zero x all on = either_way (p y)
    (λ py. let rest : list_all p ys ≡ true = rw py at all in rw (on, rest) refl)
    (λ py. let wrong : false ≡ true = rw py at all in absurd cc)
all-put p (y ∷ ys) (suc i) x all on = either_way (p y)
    (λ py. let ih = all-put p ys i x (rw py at all) on in rw (py, ih) refl)
    (λ py. let wrong : false ≡ true = rw py at all in absurd cc)

all-push : {A : Type 0} (p : A → Bool) (xs : List A) (x : A) → list_all p xs ≡ true → p x ≡ true → list_all p (xs ++ x ∷ []) ≡ true
all-push p [] x all on = rw on refl
all-push p (y ∷ ys) x all on = either_way (p y)
    (λ py. let ih = all-push p ys x (rw py at all) on in rw (py, ih) refl)
    (λ py. let wrong : false ≡ true = rw py at all in absurd cc)

all-put_at : (p : Setting → Bool) (place : Option ℕ) (s : Setting) (settings : List Setting) → list_all p settings ≡ true → p s ≡ true → list_all p (put_at place s settings) ≡ true
all-put_at p None s settings all on = all-push p settings s all on
all-put_at p (Some i) s settings all on = all-put p settings i s all on

-- where the tests of a refusal stand
three_tests : (a b c : Bool) → (if not a then Some BadName else (if b then Some TooLong else (if c then Some TooMany else None))) ≡ None → (a ≡ true) × (b ≡ false) × (c ≡ false)
three_tests true false false none = (refl, refl, refl)
three_tests true false true none = absurd cc
three_tests true true c none = absurd cc
three_tests false b c none = absurd cc

pub put_tests : (block : List ℕ) (key : OwnedKey) (bytes : List ℕ) (table : TableLists) → put_refusal block key bytes table ≡ None → (has_block block table.blocks ≡ true) × (nat_lt 1024 (length bytes) ≡ false) × (is_full block key table.settings ≡ false)
put_tests block key bytes table none =
    three_tests (has_block block table.blocks) (nat_lt 1024 (length bytes)) (is_full block key table.settings) none

not_both : (a b : Bool) → (a && b) ≡ false → a ≡ true → b ≡ false
not_both true b h on = h
not_both false b h on = absurd cc

-- the place of a setting holds one of its block
place_same : (s : Setting) (settings : List Setting) (i : ℕ) → place_of s.block s.key settings ≡ Some i → (get_or settings i s).block ≡ s.block
place_same s settings i at =
    let there = position-Some (is_setting s.block s.key) settings i s at in
    let old = get_or settings i s in
    (bytes_eq-Decides old.block s.block).0 (both (is_of s.block old) (same_key old.key s.key) there.1).0

at_most_put : (b : List ℕ) (s : Setting) (settings : List Setting) (place : Option ℕ) → place_of s.block s.key settings ≡ place → (nat_le 128 (count_of s.block settings) && is_none place) ≡ false → ((x : List ℕ) → count_of x settings ≤ 128) → count_of b (put_at place s settings) ≤ 128
at_most_put b s settings None at room most =
    let few : nat_le 128 (count_of s.block settings) ≡ false = either_way (nat_le 128 (count_of s.block settings)) (λ on. (let wrong : true ≡ false = rw on at room in absurd cc)) (λ off. off) in
    let less : count_of s.block settings < 128 = grind (arith, nat_tests) in
    let pushed : count_of b (settings ++ s ∷ []) ≡ count_of b settings + cond (is_of b s) 1 0 =
    sym (count_is (is_of b) (settings ++ s ∷ [])) ∙ count-push (is_of b) settings s ∙ ap (λ n. n + cond (is_of b s) 1 0) (count_is (is_of b) settings) in
    either_way (is_of b s)
    (λ on.
    let same : s.block ≡ b = (bytes_eq-Decides s.block b).0 on in
    let equal : count_of s.block settings ≡ count_of b settings = ap (λ (x : List ℕ). count_of x settings) same in
    let one : count_of b (settings ++ s ∷ []) ≡ count_of b settings + 1 = rw on at pushed in
    omega arith)
    (λ off.
    let none : count_of b (settings ++ s ∷ []) ≡ count_of b settings + 0 = rw off at pushed in
    omega (arith, most b))
at_most_put b s settings (Some i) at room most =
    let same : is_of b (get_or settings i s) ≡ is_of b s = ap (λ (x : List ℕ). bytes_eq x b) (place_same s settings i at) in
    let kept : count_of b (set settings i s) ≡ count_of b settings =
    sym (count_is (is_of b) (set settings i s)) ∙ count-set (is_of b) settings i s same ∙ count_is (is_of b) settings in
    omega (arith, most b)

-- a table stays one with a setting that isn't refused
pub kept_put : (table : TableLists) (s : Setting) → IsTable table → put_refusal s.block s.key s.bytes table ≡ None → IsTable (with_value s table)
kept_put table s is none =
    let tests = put_tests s.block s.key s.bytes table none in
    let place = place_of s.block s.key table.settings in
    let short : nat_le (length s.bytes) 1024 ≡ true = grind (arith, nat_tests, tests.1) in
    record {
      few = is.few;
      at_most = λ b. at_most_put b s table.settings place refl tests.2 is.at_most;
      short = all-put_at (λ (x : Setting). nat_le (length x.bytes) 1024) place s table.settings is.short short;
      no_doubles = record {
        names = is.no_doubles.names;
        one_root = is.no_doubles.one_root;
        keys = keys_put s table.settings place refl is.no_doubles.keys;
        within = all-put_at (λ (x : Setting). has_block x.block table.blocks) place s table.settings is.no_doubles.within tests.0;
      };
    }

-- also where memory runs out, and nothing is put
pub kept_put_or : {E : Type 0} (table : TableLists) (s : Setting) (place : Option ℕ) (new : List Setting) (r : Result (Unit {0}) E) → IsTable table → put_refusal s.block s.key s.bytes table ≡ None → place ≡ place_of s.block s.key table.settings → OnOk r (new ≡ put_at place s table.settings) → OnErr r (new ≡ table.settings) → IsTable (record { blocks = table.blocks; settings = new })
kept_put_or table s place new (Ok x) is none at ok err =
    let same : new ≡ with_setting s table.settings = ok ∙ ap (λ (i : Option ℕ). put_at i s table.settings) at in
    subst (λ (xs : List Setting). IsTable (record { blocks = table.blocks; settings = xs })) (sym same) (kept_put table s is none)
kept_put_or table s place new (Err e) is none at ok err =
    subst (λ (xs : List Setting). IsTable (record { blocks = table.blocks; settings = xs })) (sym err) is

pub fewer : (q : Setting → Bool) (b : List ℕ) (settings : List Setting) → count_of b settings ≤ 128 → count_of b (filter q settings) ≤ 128
fewer q b settings most =
    let less = count-filter (is_of b) q settings in
    omega (arith, count_is (is_of b) (filter q settings), count_is (is_of b) settings)

-- and without some settings
pub kept_filter : (table : TableLists) (q : Setting → Bool) → IsTable table → IsTable (record { blocks = table.blocks; settings = filter q table.settings })
kept_filter table q is = record {
  few = is.few;
  at_most = λ b. fewer q b table.settings (is.at_most b);
  short = all-filter (λ (x : Setting). nat_le (length x.bytes) 1024) q table.settings is.short;
  no_doubles = record {
    names = is.no_doubles.names;
    one_root = is.no_doubles.one_root;
    keys = keys_filtered q table.settings is.no_doubles.keys;
    within = all-filter (λ (x : Setting). has_block x.block table.blocks) q table.settings is.no_doubles.within;
  };
}

filter-le : {A : Type 0} (q : A → Bool) (xs : List A) → length (filter q xs) ≤ length xs
filter-le q [] = omega arith
filter-le q (x ∷ xs) =
    let ih = filter-le q xs in
    either_way (q x) (λ on. rw on (omega arith)) (λ off. rw off (omega arith))

shorter : {A : Type 0} (p : A → Bool) (xs : List A) → list_any p xs ≡ true → length (filter (λ x. not (p x)) xs) < length xs
shorter p [] some = absurd cc
shorter p (x ∷ xs) some = either_way (p x)
    (λ on. let less = filter-le (λ y. not (p y)) xs in rw on (omega arith))
    (λ off. let ih = shorter p xs (rw off at some) in rw off (omega arith))

any-kept : {A : Type 0} (p q : A → Bool) (xs ys : List A) → ((x : A) → p x ≡ true → q x ≡ true) → list_any p xs ≡ true → list_any p (filter q xs ++ ys) ≡ true
any-kept p q [] ys keeps some = absurd cc
any-kept p q (x ∷ xs) ys keeps some = either_way (p x)
    (λ on. let kept = keeps x on in rw kept (rw on refl))
    (λ off.
    let ih = any-kept p q xs ys keeps (rw off at some) in
    either_way (q x) (λ qx. rw qx (rw (off, ih) refl)) (λ qx. rw qx ih))

-- another block stays where one is registered
still_there : (name : List ℕ) (b : Block) (blocks : List Block) → not (bytes_eq name b.name) ≡ true → has_block name blocks ≡ true → has_block name (with_block b blocks) ≡ true
still_there name b blocks other there = either_way (is_root name)
    (λ root. rw root refl)
    (λ named. rw named (either_way (is_root b.name)
    (λ root. rw root (rw named at there))
    (λ not_root. rw not_root (any-kept (is_named name) (λ c. not (is_named b.name c)) blocks (b ∷ []) (λ c same. ap (λ (x : List ℕ). not (bytes_eq x b.name)) ((bytes_eq-Decides c.name name).0 same) ∙ other) (rw named at there)))))

all-filter_then : {A : Type 0} (p r q : A → Bool) (xs : List A) → ((x : A) → q x ≡ true → p x ≡ true → r x ≡ true) → list_all p xs ≡ true → list_all r (filter q xs) ≡ true
all-filter_then p r q [] gives all = refl
all-filter_then p r q (x ∷ xs) gives all = either_way (p x)
    (λ px.
    let ih = all-filter_then p r q xs gives (rw px at all) in
    either_way (q x) (λ on. let given = gives x on px in rw on (rw (given, ih) refl)) (λ off. rw off ih))
    (λ px. let wrong : false ≡ true = rw px at all in absurd cc)

no_refusal : (t : Bool) → (if t then Some TooMany else None) ≡ None → t ≡ false
no_refusal true none = absurd cc
no_refusal false none = refl

and_true : (a : Bool) → (a && true) ≡ false → a ≡ false
and_true true h = h
and_true false h = refl

few_with : (b : Block) (blocks : List Block) → length blocks ≤ 15 → (nat_le 16 (1 + length blocks) && not (has_block b.name blocks)) ≡ false → length (with_block b blocks) ≤ 15
few_with b blocks few room = either_way (is_root b.name)
    (λ root. rw root few)
    (λ named. rw named (either_way (list_any (is_named b.name) blocks)
    (λ some.
    let less = shorter (is_named b.name) blocks some in
    omega (arith, length-append (filter (λ other. not (is_named b.name other)) blocks) (b ∷ [])))
    (λ none.
    let full : nat_le 16 (1 + length blocks) ≡ false = and_true (nat_le 16 (1 + length blocks)) (rw (named, none) at room) in
    let space : length blocks < 15 = grind (arith, nat_tests) in
    let less = filter-le (λ other. not (is_named b.name other)) blocks in
    omega (arith, length-append (filter (λ other. not (is_named b.name other)) blocks) (b ∷ [])))))

-- a table stays one with a block that isn't refused
pub kept_register : (table : TableLists) (b : Block) → IsTable table → register_refusal b.name table ≡ None → IsTable (registered b table)
kept_register table b is none =
    let room = no_refusal (nat_le 16 (1 + length table.blocks) && not (has_block b.name table.blocks)) none in
    let others = λ (x : Setting). not (is_of b.name x) in
    record {
      few = few_with b table.blocks is.few room;
      at_most = λ x. fewer others x table.settings (is.at_most x);
      short = all-filter (λ (x : Setting). nat_le (length x.bytes) 1024) others table.settings is.short;
      no_doubles = record {
        names = names_kept b table.blocks is.no_doubles.names;
        one_root = root_kept b table.blocks is.no_doubles.one_root;
        keys = keys_filtered others table.settings is.no_doubles.keys;
        within =
            all-filter_then (λ (x : Setting). has_block x.block table.blocks) (λ (x : Setting). has_block x.block (with_block b table.blocks)) others table.settings
            (λ x other there. still_there x.block b table.blocks other there) is.no_doubles.within;
      };
    }

-- what is found passes a test that all pass
pub found-all : {A : Type 0} (p q : A → Bool) (xs : List A) (x : A) → list_all p xs ≡ true → find q xs ≡ Some x → p x ≡ true
found-all p q [] x all is = absurd cc
found-all p q (y ∷ ys) x all is = either_way (p y)
    (λ py. either_way (q y)
    (λ on. ap p (sym (same_Some y x (rw on at is))) ∙ py)
    (λ off. found-all p q ys x (rw py at all) (rw off at is)))
    (λ py. let wrong : false ≡ true = rw py at all in absurd cc)

pub found_short : (table : TableLists) (q : Setting → Bool) (s : Setting) → IsTable table → find q table.settings ≡ Some s → length s.bytes ≤ 1024
found_short table q s is found =
    let short = found-all (λ (x : Setting). nat_le (length x.bytes) 1024) q table.settings s is.short found in
    grind (arith, nat_tests)

-- no setting is found in a block that isn't there
pub absent_none : (table : TableLists) (block : List ℕ) (key : OwnedKey) (s : Setting) → IsTable table → has_block block table.blocks ≡ false → find (is_setting block key) table.settings ≡ Some s → ⊥
absent_none table block key s is absent found =
    let there = found-all (λ (x : Setting). has_block x.block table.blocks) (is_setting block key) table.settings s is.no_doubles.within found in
    let same = (bytes_eq-Decides s.block block).0 (both (is_of block s) (same_key s.key key) (find-passes (is_setting block key) table.settings s found)).0 in
    let wrong : true ≡ false = sym there ∙ ap (λ (x : List ℕ). has_block x table.blocks) same ∙ absent in
    absurd cc

pub with_block_is : (name : List ℕ) (b : Block) (blocks new : List Block) → (length name == 0) ≡ false → b.name ≡ name → new ≡ filter (λ other. not (is_named name other)) blocks ++ b ∷ [] → new ≡ with_block b blocks
with_block_is name b blocks new named same is =
    let root : is_root b.name ≡ false = ap (λ (n : List ℕ). length n == 0) same ∙ named in
    rw root (subst (λ (n : List ℕ). new ≡ filter (λ other. not (is_named n other)) blocks ++ b ∷ []) (sym same) is)
