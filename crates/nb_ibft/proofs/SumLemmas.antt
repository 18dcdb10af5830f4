-- The bytes of each table sum to 0 modulo 256.
use Rattle.std.proofs.Common.{◌≡◌, ℕ, ◌+◌, ◌%◌, List, ◌∷◌, ◌++◌, codes, replicate, ap, ◌∙◌, sym, arith}
use Rattle.std.specs.Prelude.{sum}
use Rattle.std.specs.Int.{to_le_bytes, w32}
use Rattle.std.proofs.lemmas.List.Sums.{sum_by-append}
use Rattle.nb_ibft.specs.Infos.{Info}
use Rattle.nb_ibft.specs.Tables.{ibft, table_text, table_header_text, parts_text, texts_text, total_length, check_of, check_byte}

sum-append : (a b : List ℕ) → sum (a ++ b) ≡ sum a + sum b
sum-append a b = sum_by-append (λ x. x) a b

-- what stands in a header after its checksum
abbrev rest : List ℕ
rest = codes "NETBT NETBOOT " ++ replicate 24 0

-- a header's sum counts its checksum once
header_sum : (total check : ℕ) → sum (table_header_text total check) ≡ sum (codes "iBFT") + (sum (to_le_bytes w32 total) + (1 + (check + sum rest)))
header_sum total check =
    let first = sum-append (codes "iBFT") (to_le_bytes w32 total ++ (1 ∷ check ∷ rest)) in
    let second = sum-append (to_le_bytes w32 total) (1 ∷ check ∷ rest) in
    let third : sum (1 ∷ check ∷ rest) ≡ 1 + (check + sum rest) = omega arith in
    omega arith

-- and so does a table's
table_sum : (i : Info) (check : ℕ) → sum (table_text i check) ≡ sum (table_text i 0) + check
unfolding table_text
table_sum i check =
    let after = parts_text i ++ texts_text i in
    omega (
      arith,
      header_sum (total_length i) check,
      header_sum (total_length i) 0,
      sum-append (table_header_text (total_length i) check) after,
      sum-append (table_header_text (total_length i) 0) after,
    )

closes : (n : ℕ) → (n + check_of (n % 256)) % 256 ≡ 0
closes n = omega arith

pub sums_to_zero : (i : Info) → sum (ibft i) % 256 ≡ 0
unfolding ibft
sums_to_zero i =
    ap (λ n. n % 256) (table_sum i (check_byte (table_text i 0))) ∙ closes (sum (table_text i 0))
