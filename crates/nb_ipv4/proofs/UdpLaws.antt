-- A datagram's fields stand at their places, bytes whose fields are right are a datagram, and one that is sent is read again.
use Rattle.std.proofs.Common.{◌≡◌, ℕ, ◌+◌, ◌*◌, ◌≤◌, ◌⊎◌, inl, inr, List, [], ◌∷◌, ◌++◌, length, get_or, take, drop, refl, sym, ap, ◌∙◌, append_assoc, arith}
use Rattle.std.specs.Int.{w16, to_be_bytes}
use Rattle.std.proofs.lemmas.List.{take_at, drop_at, take-append-drop, length-append, length-take}
use Rattle.nb_wire.specs.declared.address.Ip4.{Ip4}
use Rattle.nb_wire.specs.Checksum.{checksum}
use Rattle.nb_wire.proofs.BytesLaws.{IsBytes, Splits, append_one, IsBytes-front}
use Rattle.nb_ipv4.specs.UdpText.{UdpParts, IsUdp, udp_header, udp_text, pseudo_header}
use Rattle.nb_ipv4.proofs.NumberLaws.{be16_bytes, elements-drop}

pub length-udp_header : (d : UdpParts) (field : ℕ) → length (udp_header d field) ≡ 8
unfolding udp_header
length-udp_header d field = refl

-- where the fields of a datagram stand in its first eight bytes, and where its body does
pub record IsUdpPlaced (src dst : Ip4) (fixed bytes : List ℕ) (d : UdpParts) : Type 0 where
  pub long : 8 + length d.body ≤ length bytes
  pub src_port : d.src_port ≡ 256 * get_or fixed 0 0 + get_or fixed 1 0
  pub dst_port : d.dst_port ≡ 256 * get_or fixed 2 0 + get_or fixed 3 0
  pub total : 256 * get_or fixed 4 0 + get_or fixed 5 0 ≡ 8 + length d.body
  pub body : d.body ≡ drop 8 (take (8 + length d.body) bytes)
  pub checked : (256 * get_or fixed 6 0 + get_or fixed 7 0 ≡ 0) ⊎ (checksum (pseudo_header src dst (8 + length d.body) ++ take (8 + length d.body) bytes) ≡ 0)

pub udp_placed : (src dst : Ip4) (fixed bytes : List ℕ) (d : UdpParts) → fixed ≡ take 8 bytes → IsUdp src dst bytes d → IsUdpPlaced src dst fixed bytes d
unfolding udp_header
udp_placed src dst fixed bytes d front is =
    let text : List ℕ = udp_text d is.field ++ is.padding in
    let e : fixed ≡ take 8 text = front ∙ ap (λ (b : List ℕ). take 8 b) is.spelled in
    let at : (k : ℕ) → get_or fixed k 0 ≡ get_or (take 8 text) k 0 = λ k. ap (λ (b : List ℕ). get_or b k 0) e in
    let len : length (udp_text d is.field) ≡ 8 + length d.body = omega (arith, length-append (udp_header d is.field) d.body, length-udp_header d is.field) in
    let whole : take (8 + length d.body) bytes ≡ udp_text d is.field = ap (λ (b : List ℕ). take (8 + length d.body) b) is.spelled ∙ take_at (udp_text d is.field) is.padding (8 + length d.body) len in
    let field_at : 256 * get_or fixed 6 0 + get_or fixed 7 0 ≡ is.field = omega (arith, at 6, at 7, is.field_fits) in
    record {
      long = omega (arith, ap length is.spelled, length-append (udp_text d is.field) is.padding, len);
      src_port = omega (arith, at 0, at 1, is.src_port);
      dst_port = omega (arith, at 2, at 3, is.dst_port);
      total = omega (arith, at 4, at 5, is.total);
      body = sym (ap (λ (b : List ℕ). drop 8 b) whole ∙ drop_at (udp_header d is.field) d.body 8 (length-udp_header d is.field));
      checked = elim is.checked [
        | inl none ↦ inl (field_at ∙ none)
        | inr sum ↦ inr (ap (λ (b : List ℕ). checksum (pseudo_header src dst (8 + length d.body) ++ b)) whole ∙ sum)
      ];
    }

abbrev pub made : ℕ → ℕ → List ℕ → UdpParts
made src_port dst_port body = record { src_port = src_port; dst_port = dst_port; body = body }

udp_same : (d e : UdpParts) → d.src_port ≡ e.src_port → d.dst_port ≡ e.dst_port → d.body ≡ e.body → d ≡ e
udp_same d e src_port dst_port body =
    ap (λ (x : ℕ). made x d.dst_port d.body) src_port
    ∙ ap (λ (x : ℕ). made e.src_port x d.body) dst_port
    ∙ ap (λ (x : List ℕ). made e.src_port e.dst_port x) body

-- bytes are at most one datagram
pub udp_one : (src dst : Ip4) (bytes : List ℕ) (d e : UdpParts) → IsUdp src dst bytes d → IsUdp src dst bytes e → d ≡ e
udp_one src dst bytes d e first second =
    let a = udp_placed src dst (take 8 bytes) bytes d refl first in
    let b = udp_placed src dst (take 8 bytes) bytes e refl second in
    let len : 8 + length d.body ≡ 8 + length e.body = sym a.total ∙ b.total in
    udp_same d e (a.src_port ∙ sym b.src_port) (a.dst_port ∙ sym b.dst_port)
    (a.body ∙ ap (λ (n : ℕ). drop 8 (take n bytes)) len ∙ sym b.body)

-- the eight bytes of a header, by its pieces
abbrev pub header_form : List ℕ → List ℕ → List ℕ → List ℕ → List ℕ
header_form src_port dst_port total field = src_port ++ dst_port ++ total ++ field

header_spelled : (fixed : List ℕ) (d : UdpParts) → IsBytes fixed → length fixed ≡ 8 → d.src_port ≡ 256 * get_or fixed 0 0 + get_or fixed 1 0 → d.dst_port ≡ 256 * get_or fixed 2 0 + get_or fixed 3 0 → 8 + length d.body ≡ 256 * get_or fixed 4 0 + get_or fixed 5 0 → udp_header d (256 * get_or fixed 6 0 + get_or fixed 7 0) ≡ fixed
unfolding udp_header
header_spelled fixed d fits len src_port dst_port total =
    let at : ℕ → ℕ = λ k. get_or fixed k 0 in
    let field = 256 * at 6 + at 7 in
    ap (λ (x : List ℕ). header_form x (to_be_bytes w16 d.dst_port) (to_be_bytes w16 (8 + length d.body)) (to_be_bytes w16 field)) (be16_bytes _ (at 0) (at 1) (fits 0) (fits 1) src_port)
    ∙ ap (λ (x : List ℕ). header_form (at 0 ∷ at 1 ∷ []) x (to_be_bytes w16 (8 + length d.body)) (to_be_bytes w16 field)) (be16_bytes _ (at 2) (at 3) (fits 2) (fits 3) dst_port)
    ∙ ap (λ (x : List ℕ). header_form (at 0 ∷ at 1 ∷ []) (at 2 ∷ at 3 ∷ []) x (to_be_bytes w16 field)) (be16_bytes _ (at 4) (at 5) (fits 4) (fits 5) total)
    ∙ ap (λ (x : List ℕ). header_form (at 0 ∷ at 1 ∷ []) (at 2 ∷ at 3 ∷ []) (at 4 ∷ at 5 ∷ []) x) (be16_bytes _ (at 6) (at 7) (fits 6) (fits 7) refl)
    ∙ elements-drop 8 0 fixed len

-- bytes of which these are the first eight and the body are the datagram with these ports
pub udp_made : (src dst : Ip4) (fixed rest bytes body : List ℕ) (src_port dst_port total field : ℕ) → IsBytes bytes → Splits 8 bytes fixed rest → src_port ≡ 256 * get_or fixed 0 0 + get_or fixed 1 0 → dst_port ≡ 256 * get_or fixed 2 0 + get_or fixed 3 0 → total ≡ 256 * get_or fixed 4 0 + get_or fixed 5 0 → field ≡ 256 * get_or fixed 6 0 + get_or fixed 7 0 → 8 ≤ total → total ≤ length bytes → body ≡ drop 8 (take total bytes) → (field ≡ 0) ⊎ (checksum (pseudo_header src dst total ++ take total bytes) ≡ 0) → IsUdp src dst bytes (made src_port dst_port body)
udp_made src dst fixed rest bytes body src_port dst_port total field fits front src_is dst_is total_is field_is least enough body_is checked =
    let d = made src_port dst_port body in
    let fixed_fits : IsBytes fixed = IsBytes-front 8 bytes fixed rest front fits in
    let whole = take total bytes in
    let whole_len : length whole ≡ total = omega (arith, length-take total bytes) in
    let cut : whole ≡ take 8 whole ++ body = sym (take-append-drop 8 whole) ∙ ap (λ (x : List ℕ). take 8 whole ++ x) (sym body_is) in
    let eight : length (take 8 whole) ≡ 8 = omega (arith, length-take 8 whole, whole_len) in
    let split : bytes ≡ whole ++ drop total bytes = sym (take-append-drop total bytes) in
    let same : take 8 whole ≡ fixed = (append_one (take 8 whole) (body ++ drop total bytes) fixed rest (eight ∙ sym front.len)
    (sym (append_assoc (take 8 whole) body (drop total bytes)) ∙ ap (λ (x : List ℕ). x ++ drop total bytes) (sym cut) ∙ sym split ∙ front.parts)).0 in
    let body_len : 8 + length body ≡ total = omega (arith, ap length cut, length-append (take 8 whole) body, eight, whole_len) in
    let text : udp_header d (256 * get_or fixed 6 0 + get_or fixed 7 0) ≡ fixed = header_spelled fixed d fixed_fits front.len src_is dst_is (body_len ∙ total_is) in
    let is : udp_text d field ≡ whole = ap (λ (n : ℕ). udp_header d n ++ body) field_is ∙ ap (λ (x : List ℕ). x ++ body) (text ∙ sym same) ∙ sym cut in
    record {
      field = field;
      padding = drop total bytes;
      src_port = omega (arith, src_is, fixed_fits 0, fixed_fits 1);
      dst_port = omega (arith, dst_is, fixed_fits 2, fixed_fits 3);
      total = omega (arith, body_len, total_is, fixed_fits 4, fixed_fits 5);
      field_fits = omega (arith, field_is, fixed_fits 6, fixed_fits 7);
      spelled = split ∙ ap (λ (x : List ℕ). x ++ drop total bytes) (sym is);
      checked = elim checked [
        | inl none ↦ inl none
        | inr sum ↦ inr (ap (λ (n : ℕ). checksum (pseudo_header src dst n ++ udp_text d field)) body_len ∙ ap (λ (x : List ℕ). checksum (pseudo_header src dst total ++ x)) is ∙ sum)
      ];
    }

-- what is covered where the datagram is a prefix of these bytes
pub covered_front : (src dst : Ip4) (n : ℕ) (bytes datagram : List ℕ) → datagram ≡ take n bytes → n ≤ length bytes → pseudo_header src dst (length datagram) ++ datagram ≡ pseudo_header src dst n ++ take n bytes
covered_front src dst n bytes datagram is enough =
    let len : length (take n bytes) ≡ n = omega (arith, length-take n bytes) in
    ap (λ (x : List ℕ). pseudo_header src dst (length x) ++ x) is ∙ ap (λ (k : ℕ). pseudo_header src dst k ++ take n bytes) len
