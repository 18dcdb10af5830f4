-- What is known of the datagrams among which the blocks are found, and of how many there are.
use Rattle.std.proofs.Common.{◌≡◌, ◌≤◌, ℕ, zero, suc, ◌+◌, ◌*◌, List, [], ◌∷◌, ◌++◌, length, Option, Some, None, true, refl, ap, ◌∙◌, sym, subst, arith, leb, ⊎_elim, lit≤, Bool}
use Rattle.std.specs.List.{AllByRecursion, flat_map}
use Rattle.std.specs.Option.{option_map, option_to_list}
use Rattle.std.proofs.Math.Nat.{mul-suc}
use Rattle.std.proofs.lemmas.Bool.{leb-true, cases_lt}
use Rattle.std.proofs.lemmas.List.{append-nil, length-append}
use Rattle.std.proofs.lemmas.List.Concat.{flat_map-append}
use Rattle.std.proofs.lemmas.Option.{none-some, same_Some, option_and_then_some}
use Rattle.nb_tftp.specs.Received.{Received, block_bytes, port_with, size_with}
use Rattle.nb_tftp.specs.Blocks.{FoundBlock, first_passing, is_block_from, if_fitting, next_block, behind_block, blocks_to, count_with, file_with, last_block}
use Rattle.nb_tftp.proofs.BlockLemmas.{either_way, fitting_same, map_some, found_at, blocks_to-past}
use Rattle.nb_tftp.proofs.ReceivedLemmas.{by_option, no_blocks, blocks_at}

-- the block of a number that is found, and the datagrams after it, where each datagram has a property
pub record IsFound (P : Received → Type 0) (size port n : ℕ) (found : FoundBlock) : Type 0 where
  pub one : P found.one
  pub behind : AllByRecursion P found.behind
  pub number : is_block_from port n found.one ≡ true
  pub short : length (block_bytes found.one) ≤ size

first_found : (size : ℕ) (P : Received → Type 0) (port n : ℕ) (ms : List Received) (found : FoundBlock) → AllByRecursion P ms → first_passing (is_block_from port n) ms ≡ Some found → length (block_bytes found.one) ≤ size → IsFound P size port n found
first_found size P port n [] found all is short = absurd (none-some found is)
first_found size P port n (m ∷ ms) found all is short = either_way (is_block_from port n m)
    (λ on.
    let same : record { one = m; behind = ms } ≡ found = same_Some (record { one = m; behind = ms }) found (rw on at is) in
    record {
      one = subst (λ (f : FoundBlock). P f.one) same all.0;
      behind = subst (λ (f : FoundBlock). AllByRecursion P f.behind) same all.1;
      number = subst (λ (f : FoundBlock). is_block_from port n f.one ≡ true) same on;
      short = short;
    })
    (λ off. first_found size P port n ms found all.1 (rw off at is) short)

fitting : (size : ℕ) (found done : FoundBlock) → if_fitting size found ≡ Some done → length (block_bytes done.one) ≤ size
fitting size found done is =
    let same = fitting_same size found done is in
    either_way (leb (length (block_bytes found.one)) size)
    (λ on. subst (λ (f : FoundBlock). length (block_bytes f.one) ≤ size) same (leb-true (length (block_bytes found.one)) size on))
    (λ off. absurd (none-some done (rw off at is)))

next_found_by : (size : ℕ) (P : Received → Type 0) (port n : ℕ) (ms : List Received) (found : FoundBlock) → AllByRecursion P ms → next_block size port n ms ≡ Some found → IsFound P size port n found
next_found_by size P port n ms found all is =
    option_and_then_some (if_fitting size) (first_passing (is_block_from port n) ms) found is (λ first at fit.
    first_found size P port n ms found all (at ∙ ap Some (fitting_same size first found fit)) (fitting size first found fit))

found_by : (size : ℕ) (P : Received → Type 0) (port : ℕ) (got : List Received) (n : ℕ) (found : FoundBlock) → ((ms : List Received) → behind_block size port got n ≡ Some ms → AllByRecursion P ms) → found_at size port got n ≡ Some found → IsFound P size port (suc n) found
found_by size P port got n found behind is =
    option_and_then_some (next_block size port (suc n)) (behind_block size port got n) found is (λ ms at next.
    next_found_by size P port (suc n) ms found (behind ms at) next)

-- what all datagrams have, those after a block have
pub behind_all : (size : ℕ) (P : Received → Type 0) (port : ℕ) (got : List Received) (n : ℕ) (ms : List Received) → AllByRecursion P got → behind_block size port got n ≡ Some ms → AllByRecursion P ms
behind_all size P port got zero ms all is = subst (λ (x : List Received). AllByRecursion P x) (same_Some got ms is) all
behind_all size P port got (suc n) ms all is =
    map_some (λ (f : FoundBlock). f.behind) (found_at size port got n) ms is (λ found at same.
    subst (λ (x : List Received). AllByRecursion P x) same (found_by size P port got n found (λ rest before. behind_all size P port got n rest all before) at).behind)

-- and the block that is found next
pub found_all : (size : ℕ) (P : Received → Type 0) (port : ℕ) (got : List Received) (n : ℕ) (found : FoundBlock) → AllByRecursion P got → found_at size port got n ≡ Some found → IsFound P size port (suc n) found
found_all size P port got n found all is = found_by size P port got n found (λ ms at. behind_all size P port got n ms all at) is

anything : (got : List Received) → AllByRecursion (λ m. Unit {0}) got
anything [] = tt
anything (m ∷ ms) = (tt, anything ms)

-- each block has at most size bytes
pub found_short : (size port : ℕ) (got : List Received) (n : ℕ) (found : FoundBlock) → found_at size port got n ≡ Some found → length (block_bytes found.one) ≤ size
found_short size port got n found is = (found_all size (λ m. Unit {0}) port got n found (anything got) is).short

abbrev pub joined : List (List ℕ) → List ℕ
joined bs = flat_map (λ block. block) bs

abbrev pub bytes_found : Option FoundBlock → List (List ℕ)
bytes_found o = option_to_list (option_map (λ f. block_bytes f.one) o)

none_fit : (k : ℕ) → 0 ≤ k * 0
none_fit k = omega arith

full_more : (size a b k n : ℕ) → a ≤ size * k → b ≤ size → n ≡ suc k → a + b ≤ size * n
full_more size a b k n all last is = rw (is, mul-suc size k) (omega arith)

one_more : (size : ℕ) (bs : List (List ℕ)) (o : Option FoundBlock) → length (joined bs) ≤ size * length bs → ((f : FoundBlock) → o ≡ Some f → length (block_bytes f.one) ≤ size) → length (joined (bs ++ bytes_found o)) ≤ size * length (bs ++ bytes_found o)
one_more size bs None so_far short = rw (append-nil bs) so_far
one_more size bs (Some f) so_far short =
    let all : length (joined (bs ++ block_bytes f.one ∷ [])) ≡ length (joined bs) + length (block_bytes f.one) =
    ap length (flat_map-append (λ (b : List ℕ). b) bs (block_bytes f.one ∷ []) ∙ ap (λ x. joined bs ++ x) (append-nil (block_bytes f.one))) ∙ length-append (joined bs) (block_bytes f.one) in
    let many = length-append bs (block_bytes f.one ∷ []) in
    rw all (full_more size (length (joined bs)) (length (block_bytes f.one)) (length bs) (length (bs ++ block_bytes f.one ∷ [])) so_far (short f refl) (omega arith))

blocks_to_fit : (size port : ℕ) (got : List Received) (n : ℕ) → length (joined (blocks_to size port got n)) ≤ size * length (blocks_to size port got n)
blocks_to_fit size port got zero = none_fit size
blocks_to_fit size port got (suc n) = one_more size (blocks_to size port got n) (found_at size port got n) (blocks_to_fit size port got n) (λ f is. found_short size port got n f is)

-- the file has at most the agreed size for each block
pub file_fits : (opts : Bool) (got : List Received) → length (file_with opts got) ≤ size_with opts got * count_with opts got
file_fits opts got = by_option (port_with opts got)
    (λ none. let empty = no_blocks opts got none in rw empty (none_fit (size_with opts got)))
    (λ port some. let same = blocks_at opts got port some in subst (λ (bs : List (List ℕ)). length (joined bs) ≤ size_with opts got * length bs) (sym same) (blocks_to_fit (size_with opts got) port got (length got)))

at_most_one : (bs : List (List ℕ)) (o : Option FoundBlock) (n : ℕ) → length bs ≤ n → length (bs ++ bytes_found o) ≤ suc n
at_most_one bs None n few = rw (append-nil bs) (omega arith)
at_most_one bs (Some f) n few = let many = length-append bs (block_bytes f.one ∷ []) in omega arith

few_blocks : (size port : ℕ) (got : List Received) (n : ℕ) → length (blocks_to size port got n) ≤ n
few_blocks size port got zero = lit≤ tt
few_blocks size port got (suc n) = at_most_one (blocks_to size port got n) (found_at size port got n) n (few_blocks size port got n)

-- where no block has a number above a bound, there are no more blocks than that
pub bounded_blocks : (size port : ℕ) (got : List Received) (bound k : ℕ) → ((n : ℕ) (found : FoundBlock) → found_at size port got n ≡ Some found → suc n ≤ bound) → length (blocks_to size port got k) ≤ bound
bounded_blocks size port got bound k small =
    let none : found_at size port got bound ≡ None = by_option (found_at size port got bound) (λ is. is) (λ found is. let above = small bound found is in absurd (omega arith)) in
    ⊎_elim
    (λ less. let few = few_blocks size port got k in omega arith)
    (λ above. let few = few_blocks size port got bound in rw (blocks_to-past size port got bound k none above) few)
    (cases_lt k bound)

-- no last block, no blocks
pub no_last : (bs : List (List ℕ)) → last_block bs ≡ None → length bs ≡ 0
no_last [] is = refl
no_last (b ∷ []) is = absurd (none-some b (sym is))
no_last (b ∷ c ∷ bs) is = let none : length (c ∷ bs) ≡ 0 = no_last (c ∷ bs) is in absurd (omega arith)
