-- The bytes that ask for something are read back.
use Rattle.std.proofs.Common.{◌≡◌, ℕ, ◌<◌, ◌^◌, ◌+◌, ◌==◌, List, [], ◌∷◌, ◌++◌, length, take, drop, Some, None, ap, sym, ◌∙◌, subst, get_or, append_assoc, length-append, if◌then◌else◌}
use Rattle.std.proofs.Math.Seq.{take-append_seam, drop-append_seam}
use Rattle.std.specs.Int.{w16, w32, to_be_bytes, from_be_bytes}
use Rattle.std.proofs.lemmas.Nat.{from_be_bytes-to_be_bytes_2, from_be_bytes-to_be_bytes_4}
use Rattle.nb_ping.specs.Pings.{pinged}
use Rattle.nb_dhcp.specs.declared.asker.Asker.{Asker}
use Rattle.nb_nodes.specs.EchoExchanges.{ping_asked}
use Rattle.nb_nodes.specs.LeaseExchanges.{lease_bytes, lease_ask_at, lease_asked}

abbrev pub two_of : List ℕ → List ℕ
two_of xs = get_or xs 0 0 ∷ get_or xs 1 0 ∷ []

pub ping_read_back : (host ident : ℕ) (h i : List ℕ) → h ≡ to_be_bytes w32 host → i ≡ to_be_bytes w16 ident → host < 2 ^ 32 → ident < 2 ^ 16
    → ping_asked (get_or h 0 0 ∷ get_or h 1 0 ∷ get_or h 2 0 ∷ get_or h 3 0 ∷ two_of i) ≡ Some (pinged (record { 0 = host }) ident)
ping_read_back host ident h i eh ei sh si =
    subst (λ (z : List ℕ). ping_asked (get_or z 0 0 ∷ get_or z 1 0 ∷ get_or z 2 0 ∷ get_or z 3 0 ∷ two_of i) ≡ Some (pinged (record { 0 = host }) ident)) (sym eh)
    (subst (λ (z : List ℕ). ping_asked (get_or (to_be_bytes w32 host) 0 0 ∷ get_or (to_be_bytes w32 host) 1 0 ∷ get_or (to_be_bytes w32 host) 2 0 ∷ get_or (to_be_bytes w32 host) 3 0 ∷ two_of z) ≡ Some (pinged (record { 0 = host }) ident)) (sym ei)
    (ap (λ n. Some (pinged (record { 0 = n }) (from_be_bytes w16 (to_be_bytes w16 ident)))) (from_be_bytes-to_be_bytes_4 host sh) ∙ ap (λ n. Some (pinged (record { 0 = host }) n)) (from_be_bytes-to_be_bytes_2 ident si)))

-- the four parts of what asks for a lease
abbrev lease_rest : Asker → List ℕ
lease_rest a = to_be_bytes w16 a.arch ++ to_be_bytes w32 a.xid

lease_parts : (a : Asker) → lease_bytes a ≡ a.mac.0 ++ (a.uuid ++ lease_rest a)
lease_parts a = append_assoc (a.mac.0 ++ a.uuid) (to_be_bytes w16 a.arch) (to_be_bytes w32 a.xid) ∙ append_assoc a.mac.0 a.uuid (lease_rest a)

lease_size : (a : Asker) → length a.mac.0 ≡ 6 → length a.uuid ≡ 16 → length (a.mac.0 ++ (a.uuid ++ lease_rest a)) ≡ 28
lease_size a m u =
    length-append a.mac.0 (a.uuid ++ lease_rest a) ∙ ap (λ n. n + length (a.uuid ++ lease_rest a)) m
    ∙ ap (λ n. 6 + n) (length-append a.uuid (lease_rest a) ∙ ap (λ n. n + length (lease_rest a)) u)

take_seam : (n : ℕ) (xs ys : List ℕ) → length xs ≡ n → take n (xs ++ ys) ≡ xs
take_seam n xs ys e = ap (λ k. take k (xs ++ ys)) (sym e) ∙ take-append_seam xs ys

drop_seam : (n : ℕ) (xs ys : List ℕ) → length xs ≡ n → drop n (xs ++ ys) ≡ ys
drop_seam n xs ys e = ap (λ k. drop k (xs ++ ys)) (sym e) ∙ drop-append_seam xs ys

-- what stands after the hardware address and the identifier
lease_after : (mac uuid : List ℕ) (rest : List ℕ) → length mac ≡ 6 → length uuid ≡ 16 → drop 16 (drop 6 (mac ++ (uuid ++ rest))) ≡ rest
lease_after mac uuid rest m u = ap (drop 16) (drop_seam 6 mac (uuid ++ rest) m) ∙ drop_seam 16 uuid rest u

abbrev lease_of : List ℕ → List ℕ → List ℕ → Asker
lease_of mac uuid rest = record { mac = record { 0 = mac }; uuid = uuid; arch = from_be_bytes w16 (take 2 rest); xid = from_be_bytes w32 (drop 2 rest) }

lease_read : (a : Asker) → length a.mac.0 ≡ 6 → length a.uuid ≡ 16 → a.arch < 2 ^ 16 → a.xid < 2 ^ 32 → lease_ask_at (a.mac.0 ++ (a.uuid ++ lease_rest a)) ≡ a
lease_read a m u arch xid =
    ap (λ z. lease_of z (take 16 (drop 6 (a.mac.0 ++ (a.uuid ++ lease_rest a)))) (drop 16 (drop 6 (a.mac.0 ++ (a.uuid ++ lease_rest a))))) (take_seam 6 a.mac.0 (a.uuid ++ lease_rest a) m)
    ∙ ap (λ z. lease_of a.mac.0 (take 16 z) (drop 16 (drop 6 (a.mac.0 ++ (a.uuid ++ lease_rest a))))) (drop_seam 6 a.mac.0 (a.uuid ++ lease_rest a) m)
    ∙ ap (λ z. lease_of a.mac.0 z (drop 16 (drop 6 (a.mac.0 ++ (a.uuid ++ lease_rest a))))) (take_seam 16 a.uuid (lease_rest a) u)
    ∙ ap (lease_of a.mac.0 a.uuid) (lease_after a.mac.0 a.uuid (lease_rest a) m u)
    ∙ ap (λ n. record a { arch = n; xid = from_be_bytes w32 (to_be_bytes w32 a.xid) }) (from_be_bytes-to_be_bytes_2 a.arch arch)
    ∙ ap (λ n. record a { xid = n }) (from_be_bytes-to_be_bytes_4 a.xid xid)

pub lease_read_back : (a : Asker) (bytes : List ℕ) → bytes ≡ lease_bytes a → length a.mac.0 ≡ 6 → length a.uuid ≡ 16 → a.arch < 2 ^ 16 → a.xid < 2 ^ 32 → lease_asked bytes ≡ Some a
lease_read_back a bytes e m u arch xid =
    ap lease_asked (e ∙ lease_parts a)
    ∙ ap (λ n. if n == 28 then Some (lease_ask_at (a.mac.0 ++ (a.uuid ++ lease_rest a))) else None) (lease_size a m u)
    ∙ ap Some (lease_read a m u arch xid)
