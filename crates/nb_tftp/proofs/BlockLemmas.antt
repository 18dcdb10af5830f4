-- The blocks among datagrams, when one datagram more comes.
use Rattle.std.proofs.Common.{◌≡◌, ℕ, zero, suc, ◌<◌, ◌≤◌, List, [], ◌∷◌, ◌++◌, length, Option, Some, None, Bool, true, false, cond, ◌&&◌, refl, ap, ◌∙◌, sym, subst, arith, leb, ⊎_elim}
use Rattle.std.specs.Option.{option_map, option_and_then, option_to_list}
use Rattle.std.proofs.lemmas.Bool.{cases_lt}
use Rattle.std.proofs.lemmas.List.{append-nil}
use Rattle.std.proofs.lemmas.Option.{none-some, same_Some, option_and_then_some}
use Rattle.nb_tftp.specs.Received.{Received, block_bytes}
use Rattle.nb_tftp.specs.Blocks.{FoundBlock, first_passing, is_block_from, if_fitting, next_block, behind_block, block_at, blocks_to, last_block}

-- either answer of a test
pub either_way : {P : Type 0} (b : Bool) → (b ≡ true → P) → (b ≡ false → P) → P
either_way true on off = on refl
either_way false on off = off refl

-- a find with more datagrams after
abbrev pub with_more : List Received → FoundBlock → FoundBlock
with_more more found = record { one = found.one; behind = found.behind ++ more }

pub first_passing-some : (test : Received → Bool) (ms more : List Received) (found : FoundBlock) → first_passing test ms ≡ Some found → first_passing test (ms ++ more) ≡ Some (with_more more found)
first_passing-some test [] more found is = absurd (none-some found is)
first_passing-some test (m ∷ ms) more found is = either_way (test m)
    (λ on. rw on (ap (λ f. Some (with_more more f)) (same_Some (record { one = m; behind = ms }) found (rw on at is))))
    (λ off. rw off (first_passing-some test ms more found (rw off at is)))

pub first_passing-none : (test : Received → Bool) (ms more : List Received) → first_passing test ms ≡ None → first_passing test (ms ++ more) ≡ first_passing test more
first_passing-none test [] more is = refl
first_passing-none test (m ∷ ms) more is = either_way (test m)
    (λ on. absurd (none-some (record { one = m; behind = ms }) (sym (rw on at is))))
    (λ off. rw off (first_passing-none test ms more (rw off at is)))

pub fitting_same : (size : ℕ) (found done : FoundBlock) → if_fitting size found ≡ Some done → found ≡ done
fitting_same size found done is = either_way (leb (length (block_bytes found.one)) size)
    (λ on. same_Some found done (rw on at is))
    (λ off. absurd (none-some done (rw off at is)))

fitting_more : (size : ℕ) (found done : FoundBlock) (more : List Received) → if_fitting size found ≡ Some done → if_fitting size (with_more more found) ≡ Some (with_more more done)
fitting_more size found done more is = either_way (leb (length (block_bytes found.one)) size)
    (λ on. rw on (ap (λ f. Some (with_more more f)) (same_Some found done (rw on at is))))
    (λ off. absurd (none-some done (rw off at is)))

next_block-some : (size port n : ℕ) (ms more : List Received) (found : FoundBlock) → next_block size port n ms ≡ Some found → next_block size port n (ms ++ more) ≡ Some (with_more more found)
next_block-some size port n ms more found is =
    option_and_then_some (if_fitting size) (first_passing (is_block_from port n) ms) found is (λ first at fits.
    ap (λ f. option_and_then (if_fitting size) f) (first_passing-some (is_block_from port n) ms more first at) ∙ fitting_more size first found more fits)

-- the find of block n
abbrev pub found_at : (size : ℕ) → ℕ → List Received → ℕ → Option FoundBlock
found_at size port got n = option_and_then (next_block size port (suc n)) (behind_block size port got n)

pub map_some : {A B P : Type 0} (f : A → B) (o : Option A) (y : B) → option_map f o ≡ Some y → ((x : A) → o ≡ Some x → f x ≡ y → P) → P
map_some f None y is then = absurd (none-some y is)
map_some f (Some x) y is then = then x refl (same_Some (f x) y is)

found_at_by : (size port : ℕ) (got more : List Received) (n : ℕ) (found : FoundBlock) → ((ms : List Received) → behind_block size port got n ≡ Some ms → behind_block size port (got ++ more) n ≡ Some (ms ++ more)) → found_at size port got n ≡ Some found → found_at size port (got ++ more) n ≡ Some (with_more more found)
found_at_by size port got more n found behind is =
    option_and_then_some (next_block size port (suc n)) (behind_block size port got n) found is (λ ms at next.
    ap (λ m. option_and_then (next_block size port (suc n)) m) (behind ms at) ∙ next_block-some size port (suc n) ms more found next)

-- more datagrams stand after each block that there is
pub behind_block-more : (size port : ℕ) (got more : List Received) (n : ℕ) (ms : List Received) → behind_block size port got n ≡ Some ms → behind_block size port (got ++ more) n ≡ Some (ms ++ more)
behind_block-more size port got more zero ms is = ap (λ m. Some (m ++ more)) (same_Some got ms is)
behind_block-more size port got more (suc n) ms is =
    map_some (λ (f : FoundBlock). f.behind) (found_at size port got n) ms is (λ found at same.
    ap (λ f. option_map (λ (x : FoundBlock). x.behind) f) (found_at_by size port got more n found (λ rest before. behind_block-more size port got more n rest before) at) ∙ ap (λ m. Some (m ++ more)) same)

pub found_at-more : (size port : ℕ) (got more : List Received) (n : ℕ) (found : FoundBlock) → found_at size port got n ≡ Some found → found_at size port (got ++ more) n ≡ Some (with_more more found)
found_at-more size port got more n found is = found_at_by size port got more n found (λ rest before. behind_block-more size port got more n rest before) is

-- the blocks up to one that there is stay as they are
pub blocks_to-more : (size port : ℕ) (got more : List Received) (n : ℕ) (ms : List Received) → behind_block size port got n ≡ Some ms → blocks_to size port (got ++ more) n ≡ blocks_to size port got n
blocks_to-more size port got more zero ms is = refl
blocks_to-more size port got more (suc n) ms is =
    map_some (λ (f : FoundBlock). f.behind) (found_at size port got n) ms is (λ found at same.
    option_and_then_some (next_block size port (suc n)) (behind_block size port got n) found at (λ rest before next.
    ap (λ bs. bs ++ option_to_list (block_at size port (got ++ more) (suc n))) (blocks_to-more size port got more n rest before)
    ∙ ap (λ b. blocks_to size port got n ++ option_to_list b)
    (ap (λ f. option_map (λ (x : FoundBlock). block_bytes x.one) f) (found_at-more size port got more n found at)
    ∙ sym (ap (λ f. option_map (λ (x : FoundBlock). block_bytes x.one) f) at))))

none_from : (size port : ℕ) (got : List Received) (n k : ℕ) → found_at size port got n ≡ None → (n < k → behind_block size port got k ≡ None) → n ≤ k → found_at size port got k ≡ None
none_from size port got n k none behind below = ⊎_elim
    (λ less. ap (λ b. option_and_then (next_block size port (suc k)) b) (behind less))
    (λ above. let same : n ≡ k = omega arith in subst (λ (x : ℕ). found_at size port got x ≡ None) same none)
    (cases_lt n k)

-- after the last block there is none
pub nothing_behind : (size port : ℕ) (got : List Received) (n k : ℕ) → found_at size port got n ≡ None → n < k → behind_block size port got k ≡ None
nothing_behind size port got n zero none below = absurd (omega arith)
nothing_behind size port got n (suc k) none below =
    ap (λ f. option_map (λ (x : FoundBlock). x.behind) f) (none_from size port got n k none (λ less. nothing_behind size port got n k none less) (omega arith))

pub nothing_found : (size port : ℕ) (got : List Received) (n k : ℕ) → found_at size port got n ≡ None → n ≤ k → found_at size port got k ≡ None
nothing_found size port got n k none below = none_from size port got n k none (λ less. nothing_behind size port got n k none less) below

pub blocks_to-past : (size port : ℕ) (got : List Received) (n k : ℕ) → found_at size port got n ≡ None → n ≤ k → blocks_to size port got k ≡ blocks_to size port got n
blocks_to-past size port got n zero none below = let same : n ≡ 0 = omega arith in sym (ap (λ k. blocks_to size port got k) same)
blocks_to-past size port got n (suc k) none below = ⊎_elim
    (λ less. ap (λ b. blocks_to size port got k ++ option_to_list (option_map (λ (x : FoundBlock). block_bytes x.one) b)) (nothing_found size port got n k none (omega arith))
    ∙ append-nil (blocks_to size port got k) ∙ blocks_to-past size port got n k none (omega arith))
    (λ above. let same : n ≡ suc k = omega arith in sym (ap (λ k. blocks_to size port got k) same))
    (cases_lt n (suc k))

-- what the last datagram does to the search for the next block, where none came before it
next_one : (size port n : ℕ) (m : Received) (ms : List Received) → first_passing (is_block_from port n) ms ≡ None → next_block size port n (ms ++ m ∷ []) ≡ cond (is_block_from port n m && leb (length (block_bytes m)) size) (Some (record { one = m; behind = [] })) None
next_one size port n m ms none = ap (λ f. option_and_then (if_fitting size) f) (first_passing-none (is_block_from port n) ms (m ∷ []) none) ∙ either_way (is_block_from port n m) (λ on. rw on refl) (λ off. rw off refl)

-- a datagram that isn't the next block: there is still no later block
pub no_block : (size port : ℕ) (got ms : List Received) (n : ℕ) (m : Received) → behind_block size port got n ≡ Some ms → first_passing (is_block_from port (suc n)) ms ≡ None → (is_block_from port (suc n) m && leb (length (block_bytes m)) size) ≡ false → found_at size port (got ++ m ∷ []) n ≡ None
no_block size port got ms n m behind none other =
    ap (λ b. option_and_then (next_block size port (suc n)) b) (behind_block-more size port got (m ∷ []) n ms behind)
    ∙ next_one size port (suc n) m ms none ∙ rw other refl

-- the next block
pub next_found : (size port : ℕ) (got ms : List Received) (n : ℕ) (m : Received) → behind_block size port got n ≡ Some ms → first_passing (is_block_from port (suc n)) ms ≡ None → (is_block_from port (suc n) m && leb (length (block_bytes m)) size) ≡ true → found_at size port (got ++ m ∷ []) n ≡ Some (record { one = m; behind = [] })
next_found size port got ms n m behind none fits =
    ap (λ b. option_and_then (next_block size port (suc n)) b) (behind_block-more size port got (m ∷ []) n ms behind)
    ∙ next_one size port (suc n) m ms none ∙ rw fits refl

pub last_block-append : (bs : List (List ℕ)) (b : List ℕ) → last_block (bs ++ b ∷ []) ≡ Some b
last_block-append [] b = refl
last_block-append (x ∷ []) b = refl
last_block-append (x ∷ y ∷ bs) b = last_block-append (y ∷ bs) b
