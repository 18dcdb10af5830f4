-- A START's fields, read from their places in a whole record, are its bytes, and what they say is valid.
use Rattle.std.proofs.Common.{◌≡◌, ℕ, ◌+◌, ◌^◌, ◌<◌, ◌≤◌, List, ◌∷◌, ◌++◌, length, get_or, take, drop, refl, sym, ap, ◌∙◌, arith, lit<}
use Rattle.std.specs.Int.{w16, w32, to_be_bytes, from_be_bytes}
use Rattle.std.proofs.lemmas.List.{length-take, length-drop, take-append-drop, drop-drop, drop_more, get_or-drop, get_or-take}
use Rattle.std.proofs.lemmas.Nat.{be_bytes_2, be_bytes_4}
use Rattle.nb_defs.specs.Records.{Start, IsStart, start_body}
use Rattle.nb_defs.proofs.StartLaws.{start_at, fields, start_body-is, make, make-same}
use Rattle.nb_record.proofs.KnownLemmas.{IsBytes, IsBytes-drop, IsBytes-take}

split : (bytes : List ℕ) (n m : ℕ) → take m (drop n bytes) ++ drop (n + m) bytes ≡ drop n bytes
split bytes n m = ap (λ (x : List ℕ). take m (drop n bytes) ++ x) (sym (drop-drop m n bytes)) ∙ take-append-drop m (drop n bytes)

nine : (a b c d e f g h i j r1 r2 r3 r4 r5 r6 r7 r8 r9 : List ℕ)
    → a ++ r2 ≡ r1 → b ++ r3 ≡ r2 → c ++ r4 ≡ r3 → d ++ r5 ≡ r4 → e ++ r6 ≡ r5 → f ++ r7 ≡ r6 → g ++ r8 ≡ r7 → h ++ r9 ≡ r8 → i ++ j ≡ r9
    → a ++ (b ++ (c ++ (d ++ (e ++ (f ++ (g ++ (h ++ (i ++ j)))))))) ≡ r1
nine a b c d e f g h i j r1 r2 r3 r4 r5 r6 r7 r8 r9 e1 e2 e3 e4 e5 e6 e7 e8 e9 = cc

six : (a b c j d e f g h i d' e' f' g' h' i' : List ℕ) → d ≡ d' → e ≡ e' → f ≡ f' → g ≡ g' → h ≡ h' → i ≡ i'
    → a ++ (b ++ (c ++ (d ++ (e ++ (f ++ (g ++ (h ++ (i ++ j)))))))) ≡ a ++ (b ++ (c ++ (d' ++ (e' ++ (f' ++ (g' ++ (h' ++ (i' ++ j))))))))
six a b c j d e f g h i d' e' f' g' h' i' e1 e2 e3 e4 e5 e6 = cc

pub back2 : (bytes : List ℕ) (n : ℕ) → IsBytes bytes → n + 2 ≤ length bytes → to_be_bytes w16 (from_be_bytes w16 (take 2 (drop n bytes))) ≡ take 2 (drop n bytes)
back2 bytes n fits h =
    be_bytes_2 (take 2 (drop n bytes)) _ (omega (arith, length-take 2 (drop n bytes), length-drop n bytes)) (IsBytes-take 2 (drop n bytes) (IsBytes-drop n bytes fits)) refl

back4 : (bytes : List ℕ) (n : ℕ) → IsBytes bytes → n + 4 ≤ length bytes → to_be_bytes w32 (from_be_bytes w32 (take 4 (drop n bytes))) ≡ take 4 (drop n bytes)
back4 bytes n fits h =
    be_bytes_4 (take 4 (drop n bytes)) _ (omega (arith, length-take 4 (drop n bytes), length-drop n bytes)) (IsBytes-take 4 (drop n bytes) (IsBytes-drop n bytes fits)) refl

-- the fields that are read are the bytes after the version
fields-at : (bytes : List ℕ) → IsBytes bytes → 80 ≤ length bytes → fields (start_at bytes) ≡ drop 6 bytes
unfolding fields start_at
fields-at bytes fits h =
    six (take 6 (drop 6 bytes)) (take 16 (drop 12 bytes)) (take 32 (drop 28 bytes)) (drop 80 bytes) _ _ _ _ _ _
    (take 2 (drop 60 bytes)) (take 2 (drop 62 bytes)) (take 4 (drop 64 bytes)) (take 4 (drop 68 bytes)) (take 4 (drop 72 bytes)) (take 4 (drop 76 bytes))
    (back2 bytes 60 fits (omega arith)) (back2 bytes 62 fits (omega arith))
    (back4 bytes 64 fits (omega arith)) (back4 bytes 68 fits (omega arith)) (back4 bytes 72 fits (omega arith)) (back4 bytes 76 fits (omega arith))
    ∙ nine (take 6 (drop 6 bytes)) (take 16 (drop 12 bytes)) (take 32 (drop 28 bytes)) (take 2 (drop 60 bytes)) (take 2 (drop 62 bytes)) (take 4 (drop 64 bytes))
    (take 4 (drop 68 bytes)) (take 4 (drop 72 bytes)) (take 4 (drop 76 bytes)) (drop 80 bytes)
    (drop 6 bytes) (drop 12 bytes) (drop 28 bytes) (drop 60 bytes) (drop 62 bytes) (drop 64 bytes) (drop 68 bytes) (drop 72 bytes) (drop 76 bytes)
    (split bytes 6 6) (split bytes 12 16) (split bytes 28 32) (split bytes 60 2) (split bytes 62 2)
    (split bytes 64 4) (split bytes 68 4) (split bytes 72 4) (split bytes 76 4)

pub below2 : (bytes : List ℕ) (n : ℕ) → IsBytes bytes → from_be_bytes w16 (take 2 (drop n bytes)) < 2 ^ 16
below2 bytes n fits = let f = IsBytes-take 2 (drop n bytes) (IsBytes-drop n bytes fits) in omega (arith, f 0, f 1)

below4 : (bytes : List ℕ) (n : ℕ) → IsBytes bytes → from_be_bytes w32 (take 4 (drop n bytes)) < 2 ^ 32
below4 bytes n fits = let f = IsBytes-take 4 (drop n bytes) (IsBytes-drop n bytes fits) in omega (arith, f 0, f 1, f 2, f 3)

w-below : (bytes : List ℕ) → IsBytes bytes → get_or bytes 62 0 < 64 → from_be_bytes w16 (take 2 (drop 62 bytes)) < 2 ^ 14
w-below bytes fits high =
    let f = IsBytes-take 2 (drop 62 bytes) (IsBytes-drop 62 bytes fits) in
    let e : get_or (take 2 (drop 62 bytes)) 0 0 ≡ get_or bytes 62 0 = get_or-take 2 (drop 62 bytes) 0 0 (lit< tt) ∙ get_or-drop 62 bytes 0 0 in
    omega (arith, f 1, e, high)

part_len : (bytes : List ℕ) (n m : ℕ) → n + m ≤ length bytes → length (take m (drop n bytes)) ≡ m
part_len bytes n m h = omega (arith, length-take m (drop n bytes), length-drop n bytes)

pub start_at-valid : (bytes : List ℕ) → IsBytes bytes → 80 ≤ length bytes → length bytes ≤ 131076 → get_or bytes 62 0 < 64 → IsStart (start_at bytes)
unfolding start_at
start_at-valid bytes fits h short high = record {
  mac_len = part_len bytes 6 6 (omega arith);
  uuid_len = part_len bytes 12 16 (omega arith);
  key_len = part_len bytes 28 32 (omega arith);
  arch_fits = below2 bytes 60 fits;
  w_fits = w-below bytes fits high;
  ip_fits = below4 bytes 64 fits;
  mask_fits = below4 bytes 68 fits;
  gateway_fits = below4 bytes 72 fits;
  dns_fits = below4 bytes 76 fits;
  script_fits = omega (arith, length-drop 80 bytes);
}

-- the body is the bytes after the type
pub start_body-at : (bytes : List ℕ) → IsBytes bytes → 80 ≤ length bytes → get_or bytes 5 1 ≡ 1 → start_body (start_at bytes) ≡ drop 5 bytes
start_body-at bytes fits h version =
    start_body-is (start_at bytes) ∙ ap (λ (x : List ℕ). 1 ∷ x) (fields-at bytes fits h)
    ∙ ap (λ (x : ℕ). x ∷ drop 6 bytes) (sym version) ∙ sym (drop_more bytes 5 1 (omega arith))

-- a START whose fields are read from their places
pub record FieldsFrom (bytes : List ℕ) (s : Start) : Type 0 where
  pub mac : s.mac ≡ take 6 (drop 6 bytes)
  pub uuid : s.uuid ≡ take 16 (drop 12 bytes)
  pub key : s.key ≡ take 32 (drop 28 bytes)
  pub arch : s.arch ≡ from_be_bytes w16 (take 2 (drop 60 bytes))
  pub w : s.w ≡ from_be_bytes w16 (take 2 (drop 62 bytes))
  pub ip : s.ip ≡ from_be_bytes w32 (take 4 (drop 64 bytes))
  pub mask : s.mask ≡ from_be_bytes w32 (take 4 (drop 68 bytes))
  pub gateway : s.gateway ≡ from_be_bytes w32 (take 4 (drop 72 bytes))
  pub dns : s.dns ≡ from_be_bytes w32 (take 4 (drop 76 bytes))
  pub script : s.script ≡ drop 80 bytes

pub start_at-from : (bytes : List ℕ) (s : Start) → FieldsFrom bytes s → s ≡ start_at bytes
unfolding start_at make
start_at-from bytes s f =
    make-same (start_at bytes) s.mac s.uuid s.key s.arch s.w s.ip s.mask s.gateway s.dns s.script
    f.mac f.uuid f.key f.arch f.w f.ip f.mask f.gateway f.dns f.script
