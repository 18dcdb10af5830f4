-- What comes of an honest server's file.
use Rattle.std.proofs.Common.{◌≡◌, ◌≤◌, ◌<◌, ℕ, zero, suc, ◌+◌, ◌-◌, ◌*◌, ◌/◌, List, [], ◌∷◌, ◌++◌, length, take, drop, Option, Some, None, true, false, refl, ap, ◌∙◌, sym, subst, arith, ltb, Bool}
use Rattle.std.proofs.Math.Nat.{mul-zero, mul-suc, lt-mul-div-succ}
use Rattle.std.specs.List.{AllByRecursion}
use Rattle.std.specs.Option.{option_map_or}
use Rattle.std.proofs.lemmas.Bool.{false≢true, ltb-true, lt-ltb}
use Rattle.std.proofs.lemmas.List.{append-nil, length-append, length-take, length-drop, take-append-drop, take-take, drop-take, take_all}
use Rattle.std.proofs.lemmas.List.Concat.{flat_map-append}
use Rattle.std.proofs.lemmas.Option.{none-some, same_Some, option_and_then_some}
use Rattle.nb_tftp.specs.Received.{Received, block_bytes, port_with, size_with}
use Rattle.nb_tftp.specs.Blocks.{FoundBlock, behind_block, next_block, blocks_to, blocks_with, count_with, file_with, whole_with, last_block}
use Rattle.nb_tftp.specs.Cuts.{cuts, file_block, IsCut, CarriesCut, CarriesFileWith}
use Rattle.nb_tftp.proofs.BlockLemmas.{map_some, found_at, last_block-append}
use Rattle.nb_tftp.proofs.ReceivedLemmas.{by_option, no_blocks, blocks_at}
use Rattle.nb_tftp.proofs.FoundLemmas.{found_all, bytes_found, joined, bounded_blocks, no_last}

take_add : (n m : ℕ) (xs : List ℕ) → take n xs ++ take m (drop n xs) ≡ take (n + m) xs
take_add n m xs =
    ap (λ ys. ys ++ take m (drop n xs)) (sym (take-take n (n + m) xs (omega arith)))
    ∙ ap (λ ys. take n (take (n + m) xs) ++ ys) (sym (drop-take n m xs))
    ∙ take-append-drop n (take (n + m) xs)

cut_is : (size : ℕ) (bytes : List ℕ) (n : ℕ) → file_block size bytes (suc n) ≡ take size (drop (size * n) bytes)
cut_is size bytes n = let same : suc n - 1 ≡ n = omega arith in ap (λ k. take size (drop (size * k) bytes)) same

found_cut : (size : ℕ) (bytes : List ℕ) (port : ℕ) (received : List Received) → AllByRecursion (CarriesCut size bytes port) received → (n : ℕ) (found : FoundBlock) → found_at size port received n ≡ Some found → IsCut size bytes (suc n) found.one
found_cut size bytes port received all n found is =
    let at = found_all size (CarriesCut size bytes port) port received n found all is in
    at.one (suc n) (omega arith) at.number

one_longer : (bs : List (List ℕ)) (b : List ℕ) → length (bs ++ b ∷ []) ≡ suc (length bs)
one_longer bs b = let all = length-append bs (b ∷ []) in omega arith

-- up to a block that there is, none is missing
none_missing : (size port : ℕ) (received : List Received) (n : ℕ) (ms : List Received) → behind_block size port received n ≡ Some ms → length (blocks_to size port received n) ≡ n
none_missing size port received zero ms is = refl
none_missing size port received (suc n) ms is =
    map_some (λ (f : FoundBlock). f.behind) (found_at size port received n) ms is (λ found at same.
    option_and_then_some (next_block size port (suc n)) (behind_block size port received n) found at (λ rest before next.
    ap (λ o. length (blocks_to size port received n ++ bytes_found o)) at ∙ one_longer (blocks_to size port received n) (block_bytes found.one) ∙ ap suc (none_missing size port received n rest before)))

before_found : (size port : ℕ) (received : List Received) (n : ℕ) (found : FoundBlock) → found_at size port received n ≡ Some found → length (blocks_to size port received n) ≡ n
before_found size port received n found at =
    option_and_then_some (next_block size port (suc n)) (behind_block size port received n) found at (λ rest before next. none_missing size port received n rest before)

front_more : (size : ℕ) (bytes : List ℕ) (bs : List (List ℕ)) (n : ℕ) (o : Option FoundBlock) → joined bs ≡ take (size * length bs) bytes → ((f : FoundBlock) → o ≡ Some f → (length bs ≡ n) × (block_bytes f.one ≡ file_block size bytes (suc n)))
    → joined (bs ++ bytes_found o) ≡ take (size * length (bs ++ bytes_found o)) bytes
front_more size bytes bs n None so_far more = rw (append-nil bs) so_far
front_more size bytes bs n (Some f) so_far more =
    let here = more f refl in
    let place : size * length bs ≡ size * n = ap (λ k. size * k) here.0 in
    let longer = one_longer bs (block_bytes f.one) in
    let all : size * n + size ≡ size * length (bs ++ block_bytes f.one ∷ []) = sym (mul-suc size n) ∙ ap (λ k. size * k) (sym (longer ∙ ap suc here.0)) in
    flat_map-append (λ (b : List ℕ). b) bs (block_bytes f.one ∷ [])
    ∙ ap (λ x. joined bs ++ x) (append-nil (block_bytes f.one) ∙ here.1 ∙ cut_is size bytes n)
    ∙ ap (λ x. x ++ take size (drop (size * n) bytes)) (so_far ∙ ap (λ k. take k bytes) place)
    ∙ take_add (size * n) size bytes
    ∙ ap (λ k. take k bytes) all

none_taken : (size : ℕ) (bytes : List ℕ) → [] ≡ take (size * 0) bytes
none_taken size bytes = sym (ap (λ k. take k bytes) (mul-zero size))

front_to : (size : ℕ) (bytes : List ℕ) (port : ℕ) (received : List Received) → AllByRecursion (CarriesCut size bytes port) received → (n : ℕ) → joined (blocks_to size port received n) ≡ take (size * length (blocks_to size port received n)) bytes
front_to size bytes port received all zero = none_taken size bytes
front_to size bytes port received all (suc n) =
    front_more size bytes (blocks_to size port received n) n (found_at size port received n) (front_to size bytes port received all n)
    (λ f is. (before_found size port received n f is, (found_cut size bytes port received all n f is).carried))

-- what has come is a prefix of the file
pub front_of_file : (opts : Bool) (bytes : List ℕ) (received : List Received) → CarriesFileWith opts bytes received → file_with opts received ≡ take (size_with opts received * count_with opts received) bytes
front_of_file opts bytes received carries = by_option (port_with opts received)
    (λ none. rw (no_blocks opts received none) (none_taken (size_with opts received) bytes))
    (λ port some. subst (λ (bs : List (List ℕ)). joined bs ≡ take (size_with opts received * length bs) bytes) (sym (blocks_at opts received port some)) (front_to (size_with opts received) bytes port received (carries port some) (length received)))

last_more : (size : ℕ) (bytes : List ℕ) (bs : List (List ℕ)) (n : ℕ) (o : Option FoundBlock) (last : List ℕ) → (last_block bs ≡ Some last → last ≡ file_block size bytes (length bs)) → ((f : FoundBlock) → o ≡ Some f → (length bs ≡ n) × (block_bytes f.one ≡ file_block size bytes (suc n)))
    → last_block (bs ++ bytes_found o) ≡ Some last → last ≡ file_block size bytes (length (bs ++ bytes_found o))
last_more size bytes bs n None last so_far more is = rw (append-nil bs) (so_far (rw (append-nil bs) at is))
last_more size bytes bs n (Some f) last so_far more is =
    let here = more f refl in
    let same : last ≡ block_bytes f.one = sym (same_Some (block_bytes f.one) last (sym (last_block-append bs (block_bytes f.one)) ∙ is)) in
    same ∙ here.1 ∙ ap (file_block size bytes) (sym (one_longer bs (block_bytes f.one) ∙ ap suc here.0))

last_to : (size : ℕ) (bytes : List ℕ) (port : ℕ) (received : List Received) → AllByRecursion (CarriesCut size bytes port) received → (n : ℕ) (last : List ℕ) → last_block (blocks_to size port received n) ≡ Some last → last ≡ file_block size bytes (length (blocks_to size port received n))
last_to size bytes port received all zero last is = absurd (none-some last is)
last_to size bytes port received all (suc n) last is =
    last_more size bytes (blocks_to size port received n) n (found_at size port received n) last (last_to size bytes port received all n last)
    (λ f at. (before_found size port received n f at, (found_cut size bytes port received all n f at).carried)) is

last_is_cut : (opts : Bool) (bytes : List ℕ) (received : List Received) → CarriesFileWith opts bytes received → (last : List ℕ) → last_block (blocks_with opts received) ≡ Some last → last ≡ file_block (size_with opts received) bytes (count_with opts received)
last_is_cut opts bytes received carries last is = by_option (port_with opts received)
    (λ none. absurd (none-some last (sym (ap last_block (no_blocks opts received none)) ∙ is)))
    (λ port some.
    let same = blocks_at opts received port some in
    last_to (size_with opts received) bytes port received (carries port some) (length received) last (sym (ap last_block same) ∙ is) ∙ ap (λ bs. file_block (size_with opts received) bytes (length bs)) (sym same))

some_last : (bs : List (List ℕ)) (last : List ℕ) → last_block bs ≡ Some last → 1 ≤ length bs
some_last [] last is = absurd (none-some last is)
some_last (b ∷ bs) last is = omega arith

cut_length : (size x : ℕ) (bytes : List ℕ) → (length (take size (drop x bytes)) < size → length bytes < x + size) × (length bytes < x + size → 0 < size → length (take size (drop x bytes)) < size)
cut_length size x bytes =
    let taken = length-take size (drop x bytes) in
    let left = length-drop x bytes in
    (λ short. omega arith, λ few some. omega arith)

-- after the last block but one stand as many bytes again as one more makes
last_place : (size n : ℕ) → 1 ≤ n → size * (n - 1) + size ≡ size * n
last_place size zero some = absurd (omega arith)
last_place size (suc n) some = let same : suc n - 1 ≡ n = omega arith in ap (λ k. size * k + size) same ∙ sym (mul-suc size n)

-- where a short block has come, it is the whole file
pub whole_file : (opts : Bool) (bytes : List ℕ) (received : List Received) → CarriesFileWith opts bytes received → whole_with opts received ≡ true → file_with opts received ≡ bytes
whole_file opts bytes received carries whole = by_option (last_block (blocks_with opts received))
    (λ none. absurd (false≢true (sym (ap (λ (o : Option (List ℕ)). option_map_or (λ block. ltb (length block) (size_with opts received)) o false) none) ∙ whole)))
    (λ last is.
    let short = ltb-true (length last) (size_with opts received) (sym (ap (λ (o : Option (List ℕ)). option_map_or (λ block. ltb (length block) (size_with opts received)) o false) is) ∙ whole) in
    let same : length last ≡ length (file_block (size_with opts received) bytes (count_with opts received)) = ap length (last_is_cut opts bytes received carries last is) in
    let some = some_last (blocks_with opts received) last is in
    let few = (cut_length (size_with opts received) (size_with opts received * (count_with opts received - 1)) bytes).0 (subst (λ k. k < size_with opts received) same short) in
    let place = last_place (size_with opts received) (count_with opts received) some in
    front_of_file opts bytes received carries ∙ take_all (size_with opts received * count_with opts received) bytes (subst (λ k. length bytes ≤ k) place (omega arith)))

-- no more blocks come than the file has
none_few : (k : ℕ) → 0 ≤ k + 1
none_few k = omega arith

pub few_cuts : (opts : Bool) (bytes : List ℕ) (received : List Received) → CarriesFileWith opts bytes received → count_with opts received ≤ cuts (size_with opts received) bytes
few_cuts opts bytes received carries = by_option (port_with opts received)
    (λ none. rw (no_blocks opts received none) (none_few (length bytes / size_with opts received)))
    (λ port some. rw (blocks_at opts received port some) (bounded_blocks (size_with opts received) port received (cuts (size_with opts received) bytes) (length received) (λ n f is. (found_cut (size_with opts received) bytes port received (carries port some) n f is).within)))

-- where as many have come, the file is whole
pub all_cuts : (opts : Bool) (bytes : List ℕ) (received : List Received) → CarriesFileWith opts bytes received → 0 < size_with opts received → count_with opts received ≡ cuts (size_with opts received) bytes → whole_with opts received ≡ true
all_cuts opts bytes received carries positive all = by_option (last_block (blocks_with opts received))
    (λ none. let empty : count_with opts received ≡ 0 = no_last (blocks_with opts received) none in absurd (omega arith))
    (λ last is.
    let same : length last ≡ length (file_block (size_with opts received) bytes (count_with opts received)) = ap length (last_is_cut opts bytes received carries last is) in
    let some = some_last (blocks_with opts received) last is in
    let place = last_place (size_with opts received) (count_with opts received) some in
    let less : length bytes < size_with opts received * (length bytes / size_with opts received + 1) = lt-mul-div-succ (length bytes) positive in
    let few : length bytes < size_with opts received * (count_with opts received - 1) + size_with opts received = subst (λ k. length bytes < k) (ap (λ k. size_with opts received * k) (sym all) ∙ sym place) less in
    let short = (cut_length (size_with opts received) (size_with opts received * (count_with opts received - 1)) bytes).1 few positive in
    ap (λ (o : Option (List ℕ)). option_map_or (λ block. ltb (length block) (size_with opts received)) o false) is ∙ lt-ltb (length last) (size_with opts received) (subst (λ k. k < size_with opts received) (sym same) short))
