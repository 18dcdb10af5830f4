-- What is read from the fields of a part.
use Rattle.std.proofs.Common.{◌≡◌, ℕ, ◌+◌, ◌<◌, ◌^◌, List, [], ◌∷◌, ◌++◌, length, slice_index, sym, ap, ◌∙◌}
use Rattle.std.specs.Int.{w16, w32, to_be_bytes, from_be_bytes, to_le_bytes, from_le_bytes}
use Rattle.std.proofs.lemmas.Nat.{from_be_bytes-to_be_bytes_4, from_le_bytes-to_le_bytes_2}
use Rattle.nb_wire.proofs.BytesLaws.{Splits, append_one}
use Rattle.nb_ibft.specs.Infos.{Target, target_texts}
use Rattle.nb_ibft.specs.Places.{slots}

-- an address that stands at a place of a part
pub address_read : (part text : List ℕ) (at n read : ℕ) → part ≡ text → slots text at ≡ to_be_bytes w32 n → n < 2 ^ 32 → read ≡ from_be_bytes w32 (slots part at) → read ≡ n
address_read part text at n read is stands fits r = r ∙ ap (λ l. from_be_bytes w32 (slots l at)) is ∙ ap (λ l. from_be_bytes w32 l) stands ∙ from_be_bytes-to_be_bytes_4 n fits

-- a number of two bytes that stands there
pub number_read : (part text : List ℕ) (at n read : ℕ) → part ≡ text → slice_index text at ∷ slice_index text (at + 1) ∷ [] ≡ to_le_bytes w16 n → n < 2 ^ 16 → read ≡ from_le_bytes w16 (slice_index part at ∷ slice_index part (at + 1) ∷ []) → read ≡ n
number_read part text at n read is stands fits r = r ∙ ap (λ l. from_le_bytes w16 (slice_index l at ∷ slice_index l (at + 1) ∷ [])) is ∙ ap (λ l. from_le_bytes w16 l) stands ∙ from_le_bytes-to_le_bytes_2 n fits

-- a part of a known length that the bytes begin with
pub part_cut : (n : ℕ) (bytes front rest text more : List ℕ) → Splits n bytes front rest → length text ≡ n → bytes ≡ text ++ more → (front ≡ text) × (rest ≡ more)
part_cut n bytes front rest text more s len e = append_one front rest text more (s.len ∙ sym len) (sym s.parts ∙ e)

abbrev made : ℕ → ℕ → List ℕ → ℕ → List ℕ → List ℕ → List ℕ → List ℕ → List ℕ → Target
made address port lun chap name user secret reverse_user reverse_secret = record { address = address; port = port; lun = lun; chap = chap; name = name; user = user; secret = secret; reverse_user = reverse_user; reverse_secret = reverse_secret }

-- disks that say the same
pub target_same : (s t : Target) → s.address ≡ t.address → s.port ≡ t.port → s.lun ≡ t.lun → s.chap ≡ t.chap → target_texts s ≡ target_texts t → s ≡ t
target_same s t address port lun chap texts =
    let name : s.name ≡ t.name = cc in
    let user : s.user ≡ t.user = cc in
    let secret : s.secret ≡ t.secret = cc in
    let reverse_user : s.reverse_user ≡ t.reverse_user = cc in
    let reverse_secret : s.reverse_secret ≡ t.reverse_secret = cc in
    ap (λ x. made x s.port s.lun s.chap s.name s.user s.secret s.reverse_user s.reverse_secret) address
    ∙ ap (λ x. made t.address x s.lun s.chap s.name s.user s.secret s.reverse_user s.reverse_secret) port
    ∙ ap (λ x. made t.address t.port x s.chap s.name s.user s.secret s.reverse_user s.reverse_secret) lun
    ∙ ap (λ x. made t.address t.port t.lun x s.name s.user s.secret s.reverse_user s.reverse_secret) chap
    ∙ ap (λ x. made t.address t.port t.lun t.chap x s.user s.secret s.reverse_user s.reverse_secret) name
    ∙ ap (λ x. made t.address t.port t.lun t.chap t.name x s.secret s.reverse_user s.reverse_secret) user
    ∙ ap (λ x. made t.address t.port t.lun t.chap t.name t.user x s.reverse_user s.reverse_secret) secret
    ∙ ap (λ x. made t.address t.port t.lun t.chap t.name t.user t.secret x s.reverse_secret) reverse_user
    ∙ ap (λ x. made t.address t.port t.lun t.chap t.name t.user t.secret t.reverse_user x) reverse_secret
