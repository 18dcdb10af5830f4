-- Laws of a START's spelling: every field is read again from its place.
use Rattle.std.proofs.Common.{◌≡◌, ℕ, ◌+◌, ◌^◌, ◌<◌, List, [], ◌∷◌, ◌++◌, length, take, drop, refl, sym, ap, subst, ◌∙◌, append_assoc, arith}
use Rattle.std.specs.Int.{w16, w32, to_be_bytes, from_be_bytes}
use Rattle.std.proofs.lemmas.List.{append-nil, length-append, take_at, drop_at, drop-drop}
use Rattle.std.proofs.lemmas.Nat.{from_be_bytes-to_be_bytes_2, from_be_bytes-to_be_bytes_4}
use Rattle.nb_defs.specs.Records.{Start, start, IsStart, record_text, start_body, in_text}

-- what a START says, each field read from its place in the record
unfoldable pub start_at : List ℕ → Start
start_at bytes = record {
  mac = take 6 (drop 6 bytes);
  uuid = take 16 (drop 12 bytes);
  key = take 32 (drop 28 bytes);
  arch = from_be_bytes w16 (take 2 (drop 60 bytes));
  w = from_be_bytes w16 (take 2 (drop 62 bytes));
  ip = from_be_bytes w32 (take 4 (drop 64 bytes));
  mask = from_be_bytes w32 (take 4 (drop 68 bytes));
  gateway = from_be_bytes w32 (take 4 (drop 72 bytes));
  dns = from_be_bytes w32 (take 4 (drop 76 bytes));
  script = drop 80 bytes;
}

-- the fields after the version
unfoldable pub fields : Start → List ℕ
fields s = s.mac ++ (s.uuid ++ (s.key ++ (to_be_bytes w16 s.arch ++ (to_be_bytes w16 s.w
    ++ (to_be_bytes w32 s.ip ++ (to_be_bytes w32 s.mask ++ (to_be_bytes w32 s.gateway ++ (to_be_bytes w32 s.dns ++ s.script))))))))

pub start_body-is : (s : Start) → start_body s ≡ 1 ∷ fields s
unfolding start_body fields
start_body-is s = simp append_assoc

-- the length, the type, and the body
pub start_text-is : (s : Start) → in_text (start s) ≡ to_be_bytes w32 (length (start_body s) + 1) ++ (1 ∷ start_body s)
unfolding record_text
start_text-is s = refl

pub length-fields : (s : Start) → IsStart s → length (fields s) ≡ 74 + length s.script
unfolding fields
length-fields s ok = simp length-append (omega arith)

-- a START has 75 bytes before its script
pub length-start_body : (s : Start) → IsStart s → length (start_body s) ≡ 75 + length s.script
length-start_body s ok = rw (start_body-is s) (omega (arith, length-fields s ok))

-- where a part stands, it is read, and after it stands what follows it
pub record Stands (bytes part rest : List ℕ) (place len : ℕ) : Type 0 where
  pub is_read : take len (drop place bytes) ≡ part
  pub then : drop (place + len) bytes ≡ rest

stands : (bytes part rest : List ℕ) (place len : ℕ) → drop place bytes ≡ part ++ rest → length part ≡ len → Stands bytes part rest place len
stands bytes part rest place len e l = record {
  is_read = ap (λ (x : List ℕ). take len x) e ∙ take_at part rest len l;
  then = sym (drop-drop len place bytes) ∙ ap (λ (x : List ℕ). drop len x) e ∙ drop_at part rest len l;
}

-- what stands at the places of a record's fields
pub record StandsAt (bytes rest : List ℕ) (s : Start) : Type 0 where
  pub mac : take 6 (drop 6 bytes) ≡ s.mac
  pub uuid : take 16 (drop 12 bytes) ≡ s.uuid
  pub key : take 32 (drop 28 bytes) ≡ s.key
  pub arch : take 2 (drop 60 bytes) ≡ to_be_bytes w16 s.arch
  pub w : take 2 (drop 62 bytes) ≡ to_be_bytes w16 s.w
  pub ip : take 4 (drop 64 bytes) ≡ to_be_bytes w32 s.ip
  pub mask : take 4 (drop 68 bytes) ≡ to_be_bytes w32 s.mask
  pub gateway : take 4 (drop 72 bytes) ≡ to_be_bytes w32 s.gateway
  pub dns : take 4 (drop 76 bytes) ≡ to_be_bytes w32 s.dns
  pub script : drop 80 bytes ≡ s.script ++ rest

fields-then : (s : Start) (rest : List ℕ) → fields s ++ rest ≡ s.mac ++ (s.uuid ++ (s.key ++ (to_be_bytes w16 s.arch ++ (to_be_bytes w16 s.w
    ++ (to_be_bytes w32 s.ip ++ (to_be_bytes w32 s.mask ++ (to_be_bytes w32 s.gateway ++ (to_be_bytes w32 s.dns ++ (s.script ++ rest)))))))))
unfolding fields
fields-then s rest = simp append_assoc

-- A two-byte or four-byte number as bytes, kept closed: its bytes are quotients.
two : ℕ → List ℕ
two n = to_be_bytes w16 n

four : ℕ → List ℕ
four n = to_be_bytes w32 n

chain : (bytes mac uuid key arch w ip mask gateway dns tail : List ℕ)
    → drop 6 bytes ≡ mac ++ (uuid ++ (key ++ (arch ++ (w ++ (ip ++ (mask ++ (gateway ++ (dns ++ tail))))))))
    → length mac ≡ 6 → length uuid ≡ 16 → length key ≡ 32 → length arch ≡ 2 → length w ≡ 2
    → length ip ≡ 4 → length mask ≡ 4 → length gateway ≡ 4 → length dns ≡ 4
    → (take 6 (drop 6 bytes) ≡ mac) × (take 16 (drop 12 bytes) ≡ uuid) × (take 32 (drop 28 bytes) ≡ key)
    × (take 2 (drop 60 bytes) ≡ arch) × (take 2 (drop 62 bytes) ≡ w) × (take 4 (drop 64 bytes) ≡ ip)
    × (take 4 (drop 68 bytes) ≡ mask) × (take 4 (drop 72 bytes) ≡ gateway) × (take 4 (drop 76 bytes) ≡ dns)
    × (drop 80 bytes ≡ tail)
chain bytes mac uuid key arch w ip mask gateway dns tail e l1 l2 l3 l4 l5 l6 l7 l8 l9 =
    let s1 = stands bytes mac _ 6 6 e l1 in
    let s2 = stands bytes uuid _ 12 16 s1.then l2 in
    let s3 = stands bytes key _ 28 32 s2.then l3 in
    let s4 = stands bytes arch _ 60 2 s3.then l4 in
    let s5 = stands bytes w _ 62 2 s4.then l5 in
    let s6 = stands bytes ip _ 64 4 s5.then l6 in
    let s7 = stands bytes mask _ 68 4 s6.then l7 in
    let s8 = stands bytes gateway _ 72 4 s7.then l8 in
    let s9 = stands bytes dns tail 76 4 s8.then l9 in
    (s1.is_read, s2.is_read, s3.is_read, s4.is_read, s5.is_read, s6.is_read, s7.is_read, s8.is_read, s9.is_read, s9.then)

-- each field of a record stands at its place, whatever follows the record
pub record_stands : (s : Start) (rest : List ℕ) → IsStart s → StandsAt (in_text (start s) ++ rest) rest s
record_stands s rest ok =
    let front : drop 6 (in_text (start s) ++ rest) ≡ fields s ++ rest =
    ap (λ (x : List ℕ). drop 6 (x ++ rest)) (start_text-is s ∙ ap (λ (x : List ℕ). to_be_bytes w32 (length (start_body s) + 1) ++ (1 ∷ x)) (start_body-is s)) in
    let c = chain (in_text (start s) ++ rest) s.mac s.uuid s.key (to_be_bytes w16 s.arch) (to_be_bytes w16 s.w) (to_be_bytes w32 s.ip)
    (to_be_bytes w32 s.mask) (to_be_bytes w32 s.gateway) (to_be_bytes w32 s.dns) (s.script ++ rest) (front ∙ fields-then s rest)
    ok.mac_len ok.uuid_len ok.key_len refl refl refl refl refl refl in
    record { mac = c.0; uuid = c.1; key = c.2; arch = c.3; w = c.4; ip = c.5; mask = c.6; gateway = c.7; dns = c.8; script = c.9 }

unfoldable pub make : (mac uuid key : List ℕ) (arch w ip mask gateway dns : ℕ) (script : List ℕ) → Start
make mac uuid key arch w ip mask gateway dns script = record {
  mac = mac;
  uuid = uuid;
  key = key;
  arch = arch;
  w = w;
  ip = ip;
  mask = mask;
  gateway = gateway;
  dns = dns;
  script = script;
}

pub make-same : (s : Start) (mac uuid key : List ℕ) (arch w ip mask gateway dns : ℕ) (script : List ℕ)
    → mac ≡ s.mac → uuid ≡ s.uuid → key ≡ s.key → arch ≡ s.arch → w ≡ s.w → ip ≡ s.ip → mask ≡ s.mask
    → gateway ≡ s.gateway → dns ≡ s.dns → script ≡ s.script
    → make mac uuid key arch w ip mask gateway dns script ≡ make s.mac s.uuid s.key s.arch s.w s.ip s.mask s.gateway s.dns s.script
make-same s mac uuid key arch w ip mask gateway dns script e0 e1 e2 e3 e4 e5 e6 e7 e8 e9 = cc

make-is : (s : Start) → make s.mac s.uuid s.key s.arch s.w s.ip s.mask s.gateway s.dns s.script ≡ s
unfolding make
make-is s = refl

pub number2 : (bytes : List ℕ) (n : ℕ) → n < 2 ^ 16 → bytes ≡ to_be_bytes w16 n → from_be_bytes w16 bytes ≡ n
number2 bytes n lt e = ap (λ (x : List ℕ). from_be_bytes w16 x) e ∙ from_be_bytes-to_be_bytes_2 n lt

pub number4 : (bytes : List ℕ) (n : ℕ) → n < 2 ^ 32 → bytes ≡ to_be_bytes w32 n → from_be_bytes w32 bytes ≡ n
number4 bytes n lt e = ap (λ (x : List ℕ). from_be_bytes w32 x) e ∙ from_be_bytes-to_be_bytes_4 n lt

start_at-stands : (bytes : List ℕ) (s : Start) → IsStart s → StandsAt bytes [] s → start_at bytes ≡ s
unfolding start_at make
start_at-stands bytes s ok at =
    let e : start_at bytes ≡ make s.mac s.uuid s.key s.arch s.w s.ip s.mask s.gateway s.dns s.script =
    make-same s _ _ _ _ _ _ _ _ _ _ at.mac at.uuid at.key
    (number2 _ s.arch ok.arch_fits at.arch)
    (number2 _ s.w (omega (arith, ok.w_fits)) at.w)
    (number4 _ s.ip ok.ip_fits at.ip)
    (number4 _ s.mask ok.mask_fits at.mask)
    (number4 _ s.gateway ok.gateway_fits at.gateway)
    (number4 _ s.dns ok.dns_fits at.dns)
    (at.script ∙ append-nil s.script) in
    e ∙ make-is s

-- the record is read from its spelling
pub start_at-in_text : (s : Start) → IsStart s → start_at (in_text (start s)) ≡ s
start_at-in_text s ok =
    start_at-stands (in_text (start s)) s ok (subst (λ (x : List ℕ). StandsAt x [] s) (append-nil (in_text (start s))) (record_stands s [] ok))
