-- An ARP message has one spelling, and bytes are at most one message.
use Rattle.std.proofs.Common.{◌≡◌, ℕ, ◌≤◌, List, [], ◌∷◌, ◌++◌, length, get_or, take, refl, sym, ap, ◌∙◌, append_assoc, arith}
use Rattle.std.specs.Int.{w16, w32, to_be_bytes, from_be_bytes}
use Rattle.std.proofs.lemmas.List.{take_at, take_all, length-append, length-take}
use Rattle.std.proofs.lemmas.Nat.{be_bytes_2, be_bytes_4}
use Rattle.nb_wire.proofs.BytesLaws.{IsBytes}
use Rattle.nb_ether.specs.declared.arp.Arp.{Arp}
use Rattle.nb_ether.specs.ArpText.{HasForm, arp_text}
use Rattle.nb_wire.proofs.BytesLaws.{Splits, append_one, be16_one, be32_one, IsBytes-rest, IsBytes-front, six, length_join}

right : (a b c d e f : List ℕ) → a ++ b ++ c ++ d ++ e ++ f ≡ a ++ (b ++ (c ++ (d ++ (e ++ f))))
right a b c d e f = simp append_assoc

abbrev kinds_text : List ℕ
kinds_text = 0 ∷ 1 ∷ 8 ∷ 0 ∷ 6 ∷ 4 ∷ []

length-arp_text : (a : Arp) → length a.sha.0 ≡ 6 → length a.tha.0 ≡ 6 → length (arp_text a) ≡ 28
length-arp_text a sha tha =
    ap length (right kinds_text (to_be_bytes w16 a.op) a.sha.0 (to_be_bytes w32 a.spa.0) a.tha.0 (to_be_bytes w32 a.tpa.0))
    ∙ omega (arith, length-append a.sha.0 (to_be_bytes w32 a.spa.0 ++ (a.tha.0 ++ to_be_bytes w32 a.tpa.0)), length-append a.tha.0 (to_be_bytes w32 a.tpa.0))

pub form_long : (bytes : List ℕ) (a : Arp) → HasForm bytes a → 28 ≤ length bytes
form_long bytes a form =
    let e : length (take 28 bytes) ≡ 28 = ap length form.spelled ∙ length-arp_text a form.sha form.tha in
    omega (arith, e, length-take 28 bytes)

pub form_read : (bytes kinds r0 op r1 sha r2 spa r3 tha r4 tpa padding : List ℕ) (o s t : ℕ) → IsBytes bytes → Splits 6 bytes kinds r0 → Splits 2 r0 op r1 → Splits 6 r1 sha r2 → Splits 4 r2 spa r3 → Splits 6 r3 tha r4 → Splits 4 r4 tpa padding → kinds ≡ kinds_text → o ≡ from_be_bytes w16 op → s ≡ from_be_bytes w32 spa → t ≡ from_be_bytes w32 tpa → HasForm bytes (record { op = o; sha = record { 0 = sha }; spa = record { 0 = s }; tha = record { 0 = tha }; tpa = record { 0 = t } })
form_read bytes kinds r0 op r1 sha r2 spa r3 tha r4 tpa padding o s t fits p0 p1 p2 p3 p4 p5 kinds-is op-is spa-is tpa-is =
    let f0 = IsBytes-rest 6 bytes kinds r0 p0 fits in
    let f1 = IsBytes-rest 2 r0 op r1 p1 f0 in
    let f2 = IsBytes-rest 6 r1 sha r2 p2 f1 in
    let f3 = IsBytes-rest 4 r2 spa r3 p3 f2 in
    let f4 = IsBytes-rest 6 r3 tha r4 p4 f3 in
    let op_fits = IsBytes-front 2 r0 op r1 p1 f0 in
    let spa_fits = IsBytes-front 4 r2 spa r3 p3 f2 in
    let tpa_fits = IsBytes-front 4 r4 tpa padding p5 f4 in
    let op_back : to_be_bytes w16 o ≡ op = be_bytes_2 op o p1.len op_fits op-is in
    let spa_back : to_be_bytes w32 s ≡ spa = be_bytes_4 spa s p3.len spa_fits spa-is in
    let tpa_back : to_be_bytes w32 t ≡ tpa = be_bytes_4 tpa t p5.len tpa_fits tpa-is in
    let whole : bytes ≡ (kinds ++ op ++ sha ++ spa ++ tha ++ tpa) ++ padding =
    p0.parts ∙ ap (λ (x : List ℕ). kinds ++ x) (p1.parts ∙ ap (λ (x : List ℕ). op ++ x) (p2.parts ∙ ap (λ (x : List ℕ). sha ++ x) (p3.parts ∙ ap (λ (x : List ℕ). spa ++ x) (p4.parts ∙ ap (λ (x : List ℕ). tha ++ x) p5.parts))))
    ∙ sym (simp append_assoc) in
    let long : length (kinds ++ op ++ sha ++ spa ++ tha ++ tpa) ≡ 28 =
    length_join (kinds ++ op ++ sha ++ spa ++ tha) tpa 24 4 (length_join (kinds ++ op ++ sha ++ spa) tha 18 6 (length_join (kinds ++ op ++ sha) spa 14 4 (length_join (kinds ++ op) sha 8 6 (length_join kinds op 6 2 p0.len p1.len) p2.len) p3.len) p4.len) p5.len in
    record {
      op = omega (arith, op-is, op_fits 0, op_fits 1);
      sha = p2.len;
      spa = omega (arith, spa-is, spa_fits 0, spa_fits 1, spa_fits 2, spa_fits 3);
      tha = p4.len;
      tpa = omega (arith, tpa-is, tpa_fits 0, tpa_fits 1, tpa_fits 2, tpa_fits 3);
      spelled =
          ap (λ (x : List ℕ). take 28 x) whole
          ∙ take_at (kinds ++ op ++ sha ++ spa ++ tha ++ tpa) padding 28 long
          ∙ ap (λ (x : List ℕ). x ++ op ++ sha ++ spa ++ tha ++ tpa) kinds-is
          ∙ ap (λ (x : List ℕ). kinds_text ++ x ++ sha ++ spa ++ tha ++ tpa) (sym op_back)
          ∙ ap (λ (x : List ℕ). kinds_text ++ to_be_bytes w16 o ++ sha ++ x ++ tha ++ tpa) (sym spa_back)
          ∙ ap (λ (x : List ℕ). kinds_text ++ to_be_bytes w16 o ++ sha ++ to_be_bytes w32 s ++ tha ++ x) (sym tpa_back);
    }

abbrev made : ℕ → List ℕ → ℕ → List ℕ → ℕ → Arp
made op sha spa tha tpa = record { op = op; sha = record { 0 = sha }; spa = record { 0 = spa }; tha = record { 0 = tha }; tpa = record { 0 = tpa } }

arp_same : (a b : Arp) → a.op ≡ b.op → a.sha.0 ≡ b.sha.0 → a.spa.0 ≡ b.spa.0 → a.tha.0 ≡ b.tha.0 → a.tpa.0 ≡ b.tpa.0 → a ≡ b
arp_same a b op sha spa tha tpa =
    ap (λ (x : ℕ). made x a.sha.0 a.spa.0 a.tha.0 a.tpa.0) op
    ∙ ap (λ (x : List ℕ). made b.op x a.spa.0 a.tha.0 a.tpa.0) sha
    ∙ ap (λ (x : ℕ). made b.op b.sha.0 x a.tha.0 a.tpa.0) spa
    ∙ ap (λ (x : List ℕ). made b.op b.sha.0 b.spa.0 x a.tpa.0) tha
    ∙ ap (λ (x : ℕ). made b.op b.sha.0 b.spa.0 b.tha.0 x) tpa

pub form_one : (bytes : List ℕ) (a b : Arp) → HasForm bytes a → HasForm bytes b → a ≡ b
form_one bytes a b p q =
    let nest : (x : Arp) → arp_text x ≡ kinds_text ++ (to_be_bytes w16 x.op ++ (x.sha.0 ++ (to_be_bytes w32 x.spa.0 ++ (x.tha.0 ++ to_be_bytes w32 x.tpa.0)))) =
    λ x. right kinds_text (to_be_bytes w16 x.op) x.sha.0 (to_be_bytes w32 x.spa.0) x.tha.0 (to_be_bytes w32 x.tpa.0) in
    let e = sym (nest a) ∙ sym p.spelled ∙ q.spelled ∙ nest b in
    let first = append_one kinds_text _ kinds_text _ refl e in
    let second = append_one (to_be_bytes w16 a.op) _ (to_be_bytes w16 b.op) _ refl first.1 in
    let third = append_one a.sha.0 _ b.sha.0 _ (p.sha ∙ sym q.sha) second.1 in
    let fourth = append_one (to_be_bytes w32 a.spa.0) _ (to_be_bytes w32 b.spa.0) _ refl third.1 in
    let fifth = append_one a.tha.0 _ b.tha.0 _ (p.tha ∙ sym q.tha) fourth.1 in
    arp_same a b
    (be16_one a.op b.op p.op q.op second.0)
    third.0
    (be32_one a.spa.0 b.spa.0 p.spa q.spa fourth.0)
    fifth.0
    (be32_one a.tpa.0 b.tpa.0 p.tpa q.tpa fifth.1)

-- the 28 bytes that are written
pub arp_bytes : (a : Arp) (op spa tpa : List ℕ) → length a.sha.0 ≡ 6 → length a.tha.0 ≡ 6 → op ≡ to_be_bytes w16 a.op → spa ≡ to_be_bytes w32 a.spa.0 → tpa ≡ to_be_bytes w32 a.tpa.0 → 0 ∷ 1 ∷ 8 ∷ 0 ∷ 6 ∷ 4 ∷ get_or op 0 0 ∷ get_or op 1 0 ∷ get_or a.sha.0 0 0 ∷ get_or a.sha.0 1 0 ∷ get_or a.sha.0 2 0 ∷ get_or a.sha.0 3 0 ∷ get_or a.sha.0 4 0 ∷ get_or a.sha.0 5 0 ∷ get_or spa 0 0 ∷ get_or spa 1 0 ∷ get_or spa 2 0 ∷ get_or spa 3 0 ∷ get_or a.tha.0 0 0 ∷ get_or a.tha.0 1 0 ∷ get_or a.tha.0 2 0 ∷ get_or a.tha.0 3 0 ∷ get_or a.tha.0 4 0 ∷ get_or a.tha.0 5 0 ∷ get_or tpa 0 0 ∷ get_or tpa 1 0 ∷ get_or tpa 2 0 ∷ get_or tpa 3 0 ∷ [] ≡ arp_text a
arp_bytes a op spa tpa sha tha op-is spa-is tpa-is =
    let s : List ℕ = get_or a.sha.0 0 0 ∷ get_or a.sha.0 1 0 ∷ get_or a.sha.0 2 0 ∷ get_or a.sha.0 3 0 ∷ get_or a.sha.0 4 0 ∷ get_or a.sha.0 5 0 ∷ [] in
    let t : List ℕ = get_or a.tha.0 0 0 ∷ get_or a.tha.0 1 0 ∷ get_or a.tha.0 2 0 ∷ get_or a.tha.0 3 0 ∷ get_or a.tha.0 4 0 ∷ get_or a.tha.0 5 0 ∷ [] in
    let as_two : List ℕ → List ℕ = λ x. get_or x 0 0 ∷ get_or x 1 0 ∷ [] in
    let as_four : List ℕ → List ℕ = λ x. get_or x 0 0 ∷ get_or x 1 0 ∷ get_or x 2 0 ∷ get_or x 3 0 ∷ [] in
    ap (λ (x : List ℕ). kinds_text ++ as_two x ++ s ++ as_four spa ++ t ++ as_four tpa) op-is
    ∙ ap (λ (x : List ℕ). kinds_text ++ to_be_bytes w16 a.op ++ x ++ as_four spa ++ t ++ as_four tpa) (six a.sha.0 sha)
    ∙ ap (λ (x : List ℕ). kinds_text ++ to_be_bytes w16 a.op ++ a.sha.0 ++ as_four x ++ t ++ as_four tpa) spa-is
    ∙ ap (λ (x : List ℕ). kinds_text ++ to_be_bytes w16 a.op ++ a.sha.0 ++ to_be_bytes w32 a.spa.0 ++ x ++ as_four tpa) (six a.tha.0 tha)
    ∙ ap (λ (x : List ℕ). kinds_text ++ to_be_bytes w16 a.op ++ a.sha.0 ++ to_be_bytes w32 a.spa.0 ++ a.tha.0 ++ as_four x) tpa-is

pub arp_text-whole : (a : Arp) → length a.sha.0 ≡ 6 → length a.tha.0 ≡ 6 → take 28 (arp_text a) ≡ arp_text a
arp_text-whole a sha tha = take_all 28 (arp_text a) (omega (arith, length-arp_text a sha tha))
