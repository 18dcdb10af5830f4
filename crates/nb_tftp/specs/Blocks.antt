-- RFC 1350, section 2, and RFC 2348: the blocks among the datagrams that were received, by their numbers, and the file
use Rattle.std.specs.Prelude.{ℕ, zero, suc, ◌==◌, ◌&&◌, Bool, true, false, List, [], ◌∷◌, ◌++◌, length, Option, Some, None, nat_le, nat_lt, if◌then◌else◌}
use Rattle.std.specs.List.{flat_map}
use Rattle.std.specs.Option.{option_map, option_map_or, option_and_then, option_to_list}
use Rattle.nb_tftp.specs.Received.{Received, is_block, block_bytes, port_with, size_with}

-- a datagram, and those that came after it
pub record FoundBlock : Type 0 where
  pub one : Received
  pub behind : List Received

-- the first datagram that passes a test
abbrev pub first_passing : (Received → Bool) → List Received → Option FoundBlock
first_passing test [] = None
first_passing test (m ∷ ms) = if test m then Some (record { one = m; behind = ms }) else first_passing test ms

-- it is the block of this number, from this port
abbrev pub is_block_from : ℕ → ℕ → Received → Bool
is_block_from port n m = is_block n m && port == m.port

-- a block has at most the agreed size
abbrev pub if_fitting : ℕ → FoundBlock → Option FoundBlock
if_fitting size found = if nat_le (length (block_bytes found.one)) size then Some found else None

-- the first block of this number from this port, unless it is longer than this size
abbrev pub next_block : ℕ → ℕ → ℕ → List Received → Option FoundBlock
next_block size port n ms = option_and_then (if_fitting size) (first_passing (is_block_from port n) ms)

-- what came after block n: block n is the first of its number from the port after block n - 1
abbrev pub behind_block : ℕ → ℕ → List Received → ℕ → Option (List Received)
behind_block size port got zero = Some got
behind_block size port got (suc n) =
    option_map (λ found. found.behind) (option_and_then (next_block size port (suc n)) (behind_block size port got n))

-- the bytes of block n
abbrev pub block_at : ℕ → ℕ → List Received → ℕ → Option (List ℕ)
block_at size port got zero = None
block_at size port got (suc n) =
    option_map (λ found. block_bytes found.one) (option_and_then (next_block size port (suc n)) (behind_block size port got n))

-- the blocks 1 to n, as far as there are any
abbrev pub blocks_to : ℕ → ℕ → List Received → ℕ → List (List ℕ)
blocks_to size port got zero = []
blocks_to size port got (suc n) = blocks_to size port got n ++ option_to_list (block_at size port got (suc n))

-- all blocks of a transfer with or without options: each is another datagram, so there are no more of them
-- than datagrams
abbrev pub blocks_with : Bool → List Received → List (List ℕ)
blocks_with options got =
    option_map_or (λ port. blocks_to (size_with options got) port got (length got)) (port_with options got) []

-- the number of the last block
abbrev pub count_with : Bool → List Received → ℕ
count_with options got = length (blocks_with options got)

-- the file, as far as it has come
abbrev pub file_with : Bool → List Received → List ℕ
file_with options got = flat_map (λ block. block) (blocks_with options got)

abbrev pub last_block : List (List ℕ) → Option (List ℕ)
last_block [] = None
last_block (b ∷ []) = Some b
last_block (b ∷ c ∷ bs) = last_block (c ∷ bs)

-- the file is whole where its last block has fewer bytes than was agreed
abbrev pub whole_with : Bool → List Received → Bool
whole_with options got =
    option_map_or (λ block. nat_lt (length block) (size_with options got)) (last_block (blocks_with options got)) false

-- the same where options were asked for
abbrev pub blocks : List Received → List (List ℕ)
blocks got = blocks_with true got

abbrev pub count : List Received → ℕ
count got = count_with true got

abbrev pub file : List Received → List ℕ
file got = file_with true got

abbrev pub is_whole_transfer : List Received → Bool
is_whole_transfer got = whole_with true got
