-- A query, by its bytes.
use Rattle.std.proofs.Common.{◌≡◌, ℕ, ◌+◌, ◌-◌, List, ◌++◌, length, take, drop, refl, sym, ◌∙◌, ap, subst, arith, length-append}
use Rattle.std.specs.Int.{to_be_bytes, from_be_bytes, w16}
use Rattle.std.proofs.lemmas.List.{take_at, drop_at, append_cancel_right}
use Rattle.std.proofs.lemmas.Nat.{from_be_bytes-to_be_bytes_2}
use Rattle.nb_dnsmsg.specs.Names.{IsDnsName}
use Rattle.nb_dnsmsg.specs.Records.{number_at}
use Rattle.nb_dnsmsg.specs.Messages.{query_fields, address_fields, IsQuestion}
use Rattle.nb_dnsmsg.specs.Views.{IsAroundName, IsNoQuery}

-- the name in a query
same_name : (bytes a b number : List ℕ) → length number ≡ 2 → bytes ≡ number ++ (query_fields ++ (b ++ address_fields)) → IsAroundName bytes a → a ≡ b
same_name bytes a b number size text around =
    let numbers : take 2 bytes ≡ number = ap (take 2) text ∙ take_at number (query_fields ++ (b ++ address_fields)) 2 size in
    let rest : query_fields ++ (a ++ address_fields) ≡ query_fields ++ (b ++ address_fields) =
    sym (drop_at (take 2 bytes) (query_fields ++ (a ++ address_fields)) 2 around.number) ∙ ap (drop 2) (sym around.text ∙ text) ∙ drop_at number (query_fields ++ (b ++ address_fields)) 2 size in
    append_cancel_right a b address_fields (ap (drop 10) rest)

pub query_is : (bytes name : List ℕ) (id : ℕ) (named : List ℕ) (n : ℕ) → id ≡ number_at 0 bytes → IsAroundName bytes name → IsQuestion bytes n named → (id ≡ n) × (name ≡ named)
query_is bytes name id named n is around q =
    let numbers : take 2 bytes ≡ to_be_bytes w16 n = ap (take 2) q.text ∙ take_at (to_be_bytes w16 n) (query_fields ++ (named ++ address_fields)) 2 refl in (
      is ∙ ap (from_be_bytes w16) numbers ∙ from_be_bytes-to_be_bytes_2 n q.small,
      same_name bytes name named (to_be_bytes w16 n) refl q.text around,
    )

pub no_query : (bytes name : List ℕ) (id : ℕ) → IsNoQuery bytes → IsQuestion bytes id name → ⊥
no_query bytes name id none q = none (to_be_bytes w16 id) name refl q.text

pub nameless : (bytes name named : List ℕ) (id : ℕ) → IsAroundName bytes name → (IsDnsName name → ⊥) → IsQuestion bytes id named → ⊥
nameless bytes name named id around none q = none (subst IsDnsName (sym (same_name bytes name named (to_be_bytes w16 id) refl q.text around)) q.name_is)

-- what stands before and after the name, as it is cut off
pub query_cut : (bytes number name rest query : List ℕ) → length number ≡ 2 → bytes ≡ number ++ (query_fields ++ (name ++ address_fields)) → rest ≡ drop 2 bytes → query ≡ take 10 rest → query ≡ query_fields
query_cut bytes number name rest query size text cut is =
    is ∙ ap (take 10) (cut ∙ ap (drop 2) text ∙ drop_at number (query_fields ++ (name ++ address_fields)) 2 size)

pub address_cut : (bytes number name rest more address : List ℕ) → length number ≡ 2 → bytes ≡ number ++ (query_fields ++ (name ++ address_fields)) → rest ≡ drop 2 bytes → more ≡ drop 10 rest → address ≡ drop (length more - 4) more → address ≡ address_fields
address_cut bytes number name rest more address size text cut behind is =
    let all : more ≡ name ++ address_fields = behind ∙ ap (drop 10) (cut ∙ ap (drop 2) text ∙ drop_at number (query_fields ++ (name ++ address_fields)) 2 size) in
    let len : length more ≡ length name + 4 = ap length all ∙ length-append name address_fields in
    is ∙ ap (λ x. drop (length more - 4) x) all ∙ drop_at name address_fields (length more - 4) (omega (arith, len))
