-- A packet's fields stand at their places, and bytes whose fields are right are a packet.
use Rattle.std.proofs.Common.{◌≡◌, ℕ, ◌+◌, ◌-◌, ◌*◌, ◌/◌, ◌%◌, ◌≤◌, List, [], ◌∷◌, ◌++◌, length, get_or, take, drop, refl, sym, ap, subst, ◌∙◌, append_assoc, arith}
use Rattle.std.specs.Int.{w16, w32, to_be_bytes, from_be_bytes}
use Rattle.std.proofs.lemmas.List.{take_at, drop_at, take-append-drop, take-append-le, length-append, length-take}
use Rattle.std.proofs.lemmas.Nat.{from_be_bytes-to_be_bytes_4}
use Rattle.nb_wire.specs.Checksum.{checksum}
use Rattle.nb_wire.proofs.BytesLaws.{IsBytes, Splits, append_one, IsBytes-front}
use Rattle.nb_ipv4.specs.PacketText.{PacketParts, Header, IsPacket, header_text}
use Rattle.nb_ipv4.proofs.NumberLaws.{be16_bytes, be32_bytes, elements-drop}

-- where the fields of a packet stand in its first twenty bytes, and where its body does
pub record IsPlaced (fixed bytes : List ℕ) (p : PacketParts) : Type 0 where
  pub words : ℕ
  pub words_fit : words ≤ 10
  pub long : 20 + 4 * words + length p.body ≤ length bytes
  pub first : get_or fixed 0 0 ≡ 69 + words
  pub total : 256 * get_or fixed 2 0 + get_or fixed 3 0 ≡ 20 + 4 * words + length p.body
  pub unbroken : get_or fixed 6 0 % 64 ≡ 0
  pub at_start : get_or fixed 7 0 ≡ 0
  pub proto : p.proto ≡ get_or fixed 9 0
  pub src : p.src.0 ≡ from_be_bytes w32 (get_or fixed 12 0 ∷ get_or fixed 13 0 ∷ get_or fixed 14 0 ∷ get_or fixed 15 0 ∷ [])
  pub dst : p.dst.0 ≡ from_be_bytes w32 (get_or fixed 16 0 ∷ get_or fixed 17 0 ∷ get_or fixed 18 0 ∷ get_or fixed 19 0 ∷ [])
  pub checked : checksum (take (20 + 4 * words) bytes) ≡ 0
  pub body : p.body ≡ drop (20 + 4 * words) (take (20 + 4 * words + length p.body) bytes)

length-header_text : (h : Header) (p : PacketParts) → length (header_text h p) ≡ 20 + length h.options
unfolding header_text
length-header_text h p = omega arith

-- the bytes up to the end of the body, and those of the header
whole_of : (bytes : List ℕ) (p : PacketParts) (is : IsPacket bytes p) → take (20 + 4 * is.option_words + length p.body) bytes ≡ header_text is.header p ++ p.body
whole_of bytes p is =
    let text = header_text is.header p in
    let len : length (text ++ p.body) ≡ 20 + 4 * is.option_words + length p.body = omega (arith, length-append text p.body, length-header_text is.header p, is.options.0) in
    ap (λ (b : List ℕ). take (20 + 4 * is.option_words + length p.body) b) is.spelled ∙ take_at (text ++ p.body) is.padding (20 + 4 * is.option_words + length p.body) len

header_of : (bytes : List ℕ) (p : PacketParts) (is : IsPacket bytes p) → take (20 + 4 * is.option_words) bytes ≡ header_text is.header p
header_of bytes p is =
    let text = header_text is.header p in
    let len : length text ≡ 20 + 4 * is.option_words = omega (arith, length-header_text is.header p, is.options.0) in
    ap (λ (b : List ℕ). take (20 + 4 * is.option_words) b) (is.spelled ∙ append_assoc text p.body is.padding) ∙ take_at text (p.body ++ is.padding) (20 + 4 * is.option_words) len

long_of : (bytes : List ℕ) (p : PacketParts) (is : IsPacket bytes p) → 20 + 4 * is.option_words + length p.body ≤ length bytes
long_of bytes p is =
    let text = header_text is.header p in
    omega (arith, ap length is.spelled, length-append (text ++ p.body) is.padding, length-append text p.body, length-header_text is.header p, is.options.0)

pub packet_placed : (fixed bytes : List ℕ) (p : PacketParts) → fixed ≡ take 20 bytes → IsPacket bytes p → IsPlaced fixed bytes p
unfolding header_text
packet_placed fixed bytes p front is =
    let text : List ℕ = header_text is.header p ++ p.body ++ is.padding in
    let e : fixed ≡ take 20 text = front ∙ ap (λ (b : List ℕ). take 20 b) is.spelled in
    let at : (k : ℕ) → get_or fixed k 0 ≡ get_or (take 20 text) k 0 = λ k. ap (λ (b : List ℕ). get_or b k 0) e in
    let words = is.option_words in
    let len : length (header_text is.header p) ≡ 20 + 4 * words = omega (arith, length-header_text is.header p, is.options.0) in
    record {
      words = words;
      words_fit = is.options.1;
      long = long_of bytes p is;
      first = omega (arith, at 0, is.options.0);
      total = omega (arith, at 2, at 3, is.options.0, is.total);
      unbroken = omega (arith, at 6, is.flags);
      at_start = omega (arith, at 7, is.flags);
      proto = sym (at 9);
      src = sym (ap (λ (b : List ℕ). from_be_bytes w32 (get_or b 12 0 ∷ get_or b 13 0 ∷ get_or b 14 0 ∷ get_or b 15 0 ∷ [])) e ∙ from_be_bytes-to_be_bytes_4 p.src.0 is.src);
      dst = sym (ap (λ (b : List ℕ). from_be_bytes w32 (get_or b 16 0 ∷ get_or b 17 0 ∷ get_or b 18 0 ∷ get_or b 19 0 ∷ [])) e ∙ from_be_bytes-to_be_bytes_4 p.dst.0 is.dst);
      checked = ap checksum (header_of bytes p is) ∙ is.checked;
      body = sym (ap (λ (b : List ℕ). drop (20 + 4 * words) b) (whole_of bytes p is) ∙ drop_at (header_text is.header p) p.body (20 + 4 * words) len);
    }

-- the pieces of a header, each as its bytes
abbrev pub header_form : ℕ → ℕ → List ℕ → List ℕ → List ℕ → ℕ → ℕ → List ℕ → List ℕ → List ℕ → List ℕ → List ℕ
header_form first service total identification flags time proto sum src dst options =
    first ∷ service ∷ total ++ identification ++ flags ++ time ∷ proto ∷ sum ++ src ++ dst ++ options

twenty : (xs : List ℕ) → length xs ≡ 20 → get_or xs 0 0 ∷ get_or xs 1 0 ∷ get_or xs 2 0 ∷ get_or xs 3 0 ∷ get_or xs 4 0 ∷ get_or xs 5 0 ∷ get_or xs 6 0 ∷ get_or xs 7 0 ∷ get_or xs 8 0 ∷ get_or xs 9 0 ∷ get_or xs 10 0 ∷ get_or xs 11 0 ∷ get_or xs 12 0 ∷ get_or xs 13 0 ∷ get_or xs 14 0 ∷ get_or xs 15 0 ∷ get_or xs 16 0 ∷ get_or xs 17 0 ∷ get_or xs 18 0 ∷ get_or xs 19 0 ∷ [] ≡ xs
twenty xs len = elements-drop 20 0 xs len

-- the header that these first twenty bytes and options say
abbrev header_at : List ℕ → List ℕ → Header
header_at fixed options = record { service = get_or fixed 1 0; identification = 256 * get_or fixed 4 0 + get_or fixed 5 0; flags = get_or fixed 6 0 / 64; time_to_live = get_or fixed 8 0; checksum = 256 * get_or fixed 10 0 + get_or fixed 11 0; options = options }

abbrev pub parts_at : List ℕ → List ℕ → PacketParts
parts_at fixed body = record { src = record { 0 = from_be_bytes w32 (get_or fixed 12 0 ∷ get_or fixed 13 0 ∷ get_or fixed 14 0 ∷ get_or fixed 15 0 ∷ []) }; dst = record { 0 = from_be_bytes w32 (get_or fixed 16 0 ∷ get_or fixed 17 0 ∷ get_or fixed 18 0 ∷ get_or fixed 19 0 ∷ []) }; proto = get_or fixed 9 0; body = body }

header_spelled : (fixed options body : List ℕ) → IsBytes fixed → length fixed ≡ 20 → 64 + (20 + length options) / 4 ≡ get_or fixed 0 0 → 20 + length options + length body ≡ 256 * get_or fixed 2 0 + get_or fixed 3 0 → get_or fixed 6 0 % 64 ≡ 0 → get_or fixed 7 0 ≡ 0 → header_text (header_at fixed options) (parts_at fixed body) ≡ fixed ++ options
unfolding header_text
header_spelled fixed options body fits len first total unbroken start =
    let h = header_at fixed options in
    let p = parts_at fixed body in
    let at : ℕ → ℕ = λ k. get_or fixed k 0 in
    let total_is : to_be_bytes w16 (20 + length options + length body) ≡ at 2 ∷ at 3 ∷ [] = be16_bytes _ (at 2) (at 3) (fits 2) (fits 3) total in
    let identification_is : to_be_bytes w16 h.identification ≡ at 4 ∷ at 5 ∷ [] = be16_bytes _ (at 4) (at 5) (fits 4) (fits 5) refl in
    let flags_is : to_be_bytes w16 (16384 * h.flags) ≡ at 6 ∷ at 7 ∷ [] = be16_bytes _ (at 6) (at 7) (fits 6) (fits 7) (omega (arith, unbroken, start)) in
    let sum_is : to_be_bytes w16 h.checksum ≡ at 10 ∷ at 11 ∷ [] = be16_bytes _ (at 10) (at 11) (fits 10) (fits 11) refl in
    let src_is : to_be_bytes w32 p.src.0 ≡ at 12 ∷ at 13 ∷ at 14 ∷ at 15 ∷ [] = be32_bytes _ (at 12) (at 13) (at 14) (at 15) (fits 12) (fits 13) (fits 14) (fits 15) refl in
    let dst_is : to_be_bytes w32 p.dst.0 ≡ at 16 ∷ at 17 ∷ at 18 ∷ at 19 ∷ [] = be32_bytes _ (at 16) (at 17) (at 18) (at 19) (fits 16) (fits 17) (fits 18) (fits 19) refl in
    ap (λ (x : ℕ). header_form x (at 1) (to_be_bytes w16 (20 + length options + length body)) (to_be_bytes w16 h.identification) (to_be_bytes w16 (16384 * h.flags)) (at 8) (at 9) (to_be_bytes w16 h.checksum) (to_be_bytes w32 p.src.0) (to_be_bytes w32 p.dst.0) options) first
    ∙ ap (λ (x : List ℕ). header_form (at 0) (at 1) x (to_be_bytes w16 h.identification) (to_be_bytes w16 (16384 * h.flags)) (at 8) (at 9) (to_be_bytes w16 h.checksum) (to_be_bytes w32 p.src.0) (to_be_bytes w32 p.dst.0) options) total_is
    ∙ ap (λ (x : List ℕ). header_form (at 0) (at 1) (at 2 ∷ at 3 ∷ []) x (to_be_bytes w16 (16384 * h.flags)) (at 8) (at 9) (to_be_bytes w16 h.checksum) (to_be_bytes w32 p.src.0) (to_be_bytes w32 p.dst.0) options) identification_is
    ∙ ap (λ (x : List ℕ). header_form (at 0) (at 1) (at 2 ∷ at 3 ∷ []) (at 4 ∷ at 5 ∷ []) x (at 8) (at 9) (to_be_bytes w16 h.checksum) (to_be_bytes w32 p.src.0) (to_be_bytes w32 p.dst.0) options) flags_is
    ∙ ap (λ (x : List ℕ). header_form (at 0) (at 1) (at 2 ∷ at 3 ∷ []) (at 4 ∷ at 5 ∷ []) (at 6 ∷ at 7 ∷ []) (at 8) (at 9) x (to_be_bytes w32 p.src.0) (to_be_bytes w32 p.dst.0) options) sum_is
    ∙ ap (λ (x : List ℕ). header_form (at 0) (at 1) (at 2 ∷ at 3 ∷ []) (at 4 ∷ at 5 ∷ []) (at 6 ∷ at 7 ∷ []) (at 8) (at 9) (at 10 ∷ at 11 ∷ []) x (to_be_bytes w32 p.dst.0) options) src_is
    ∙ ap (λ (x : List ℕ). header_form (at 0) (at 1) (at 2 ∷ at 3 ∷ []) (at 4 ∷ at 5 ∷ []) (at 6 ∷ at 7 ∷ []) (at 8) (at 9) (at 10 ∷ at 11 ∷ []) (at 12 ∷ at 13 ∷ at 14 ∷ at 15 ∷ []) x options) dst_is
    ∙ ap (λ (x : List ℕ). x ++ options) (twenty fixed len)

-- bytes that begin with these twenty, whose fields are right, are a packet
pub packet_read : (fixed rest bytes header body padding : List ℕ) → IsBytes bytes → Splits 20 bytes fixed rest → bytes ≡ header ++ body ++ padding → 69 ≤ get_or fixed 0 0 → get_or fixed 0 0 ≤ 79 → length header ≡ 4 * (get_or fixed 0 0 - 64) → length header + length body ≡ 256 * get_or fixed 2 0 + get_or fixed 3 0 → get_or fixed 6 0 % 64 ≡ 0 → get_or fixed 7 0 ≡ 0 → checksum header ≡ 0 → IsPacket bytes (parts_at fixed body)
packet_read fixed rest bytes header body padding fits front whole least most len total unbroken start checked =
    let fixed_fits : IsBytes fixed = IsBytes-front 20 bytes fixed rest front fits in
    let options = drop 20 header in
    let cut : header ≡ take 20 header ++ options = sym (take-append-drop 20 header) in
    let same : take 20 header ≡ fixed = (append_one (take 20 header) (options ++ (body ++ padding)) fixed rest (omega (arith, length-take 20 header, len, front.len))
    (sym (append_assoc (take 20 header) options (body ++ padding)) ∙ ap (λ (x : List ℕ). x ++ (body ++ padding)) (sym cut) ∙ sym (append_assoc header body padding) ∙ sym whole ∙ front.parts)).0 in
    let is : header ≡ fixed ++ options = cut ∙ ap (λ (x : List ℕ). x ++ options) same in
    let options_len : length header ≡ 20 + length options = omega (arith, ap length is, length-append fixed options, front.len) in
    let text : header_text (header_at fixed options) (parts_at fixed body) ≡ header = header_spelled fixed options body fixed_fits front.len (omega (arith, options_len, len)) (omega (arith, options_len, total)) unbroken start ∙ sym is in
    record {
      header = header_at fixed options;
      padding = padding;
      option_words = get_or fixed 0 0 - 69;
      options = (omega (arith, options_len, len), omega arith);
      flags = omega (arith, fixed_fits 6);
      total = omega (arith, options_len, total, fixed_fits 2, fixed_fits 3);
      src = omega (arith, fixed_fits 12, fixed_fits 13, fixed_fits 14, fixed_fits 15);
      dst = omega (arith, fixed_fits 16, fixed_fits 17, fixed_fits 18, fixed_fits 19);
      spelled = whole ∙ ap (λ (x : List ℕ). x ++ body ++ padding) (sym text);
      checked = ap checksum text ∙ checked;
    }

abbrev pub made : ℕ → ℕ → ℕ → List ℕ → PacketParts
made a b proto body = record { src = record { 0 = a }; dst = record { 0 = b }; proto = proto; body = body }

packet_same : (p q : PacketParts) → p.src.0 ≡ q.src.0 → p.dst.0 ≡ q.dst.0 → p.proto ≡ q.proto → p.body ≡ q.body → p ≡ q
packet_same p q src dst proto body =
    ap (λ (x : ℕ). made x p.dst.0 p.proto p.body) src
    ∙ ap (λ (x : ℕ). made q.src.0 x p.proto p.body) dst
    ∙ ap (λ (x : ℕ). made q.src.0 q.dst.0 x p.body) proto
    ∙ ap (λ (x : List ℕ). made q.src.0 q.dst.0 q.proto x) body

-- bytes are at most one packet
pub packet_one : (bytes : List ℕ) (p q : PacketParts) → IsPacket bytes p → IsPacket bytes q → p ≡ q
packet_one bytes p q first second =
    let a = packet_placed (take 20 bytes) bytes p refl first in
    let b = packet_placed (take 20 bytes) bytes q refl second in
    let words : a.words ≡ b.words = omega (arith, a.first, b.first) in
    let len : length p.body ≡ length q.body = omega (arith, a.total, b.total, words) in
    let body : p.body ≡ q.body =
    a.body ∙ ap (λ (n : ℕ). drop (20 + 4 * n) (take (20 + 4 * n + length p.body) bytes)) words ∙ ap (λ (n : ℕ). drop (20 + 4 * b.words) (take (20 + 4 * b.words + n) bytes)) len ∙ sym b.body in
    packet_same p q (a.src ∙ sym b.src) (a.dst ∙ sym b.dst) (a.proto ∙ sym b.proto) body

-- a prefix of a prefix
pub take_take : (m n : ℕ) (xs : List ℕ) → m ≤ n → n ≤ length xs → take m (take n xs) ≡ take m xs
take_take m n xs le fits =
    let enough : m ≤ length (take n xs) = omega (arith, length-take n xs) in
    sym (ap (λ (b : List ℕ). take m b) (sym (take-append-drop n xs)) ∙ take-append-le m (take n xs) (drop n xs) enough)

-- bytes of which these are the first twenty, the header and the body, are the packet with these addresses
pub packet_made : (fixed rest bytes header body : List ℕ) (src dst total len : ℕ) → IsBytes bytes → Splits 20 bytes fixed rest → src ≡ from_be_bytes w32 (get_or fixed 12 0 ∷ get_or fixed 13 0 ∷ get_or fixed 14 0 ∷ get_or fixed 15 0 ∷ []) → dst ≡ from_be_bytes w32 (get_or fixed 16 0 ∷ get_or fixed 17 0 ∷ get_or fixed 18 0 ∷ get_or fixed 19 0 ∷ []) → total ≡ 256 * get_or fixed 2 0 + get_or fixed 3 0 → total ≤ length bytes → len ≤ total → (len ≡ 4 * (get_or fixed 0 0 - 64)) × (69 ≤ get_or fixed 0 0) × (get_or fixed 0 0 ≤ 79) → header ≡ take len (take total bytes) → body ≡ drop len (take total bytes) → (get_or fixed 6 0 % 64 ≡ 0) × (get_or fixed 7 0 ≡ 0) → checksum header ≡ 0 → IsPacket bytes (made src dst (get_or fixed 9 0) body)
packet_made fixed rest bytes header body src dst total len fits front src_is dst_is total_is enough fit first header_is body_is unbroken checked =
    let inner : take total bytes ≡ header ++ body = sym (take-append-drop len (take total bytes)) ∙ ap (λ (x : List ℕ). x ++ drop len (take total bytes)) (sym header_is) ∙ ap (λ (x : List ℕ). header ++ x) (sym body_is) in
    let parts : bytes ≡ header ++ body ++ drop total bytes = sym (take-append-drop total bytes) ∙ ap (λ (x : List ℕ). x ++ drop total bytes) inner in
    let whole_len : length (take total bytes) ≡ total = omega (arith, length-take total bytes) in
    let header_len : length header ≡ len = ap length header_is ∙ omega (arith, length-take len (take total bytes), whole_len) in
    let both : length header + length body ≡ total = omega (arith, length-append header body, ap length inner, whole_len) in
    let is : IsPacket bytes (parts_at fixed body) = packet_read fixed rest bytes header body (drop total bytes) fits front parts first.1 first.2 (header_len ∙ first.0) (both ∙ total_is) unbroken.0 unbroken.1 checked in
    let src_back = sym src_is in
    let dst_back = sym dst_is in
    subst (λ (x : ℕ). IsPacket bytes (made x dst (get_or fixed 9 0) body)) src_back (subst (λ (x : ℕ). IsPacket bytes (made (from_be_bytes w32 (get_or fixed 12 0 ∷ get_or fixed 13 0 ∷ get_or fixed 14 0 ∷ get_or fixed 15 0 ∷ [])) x (get_or fixed 9 0) body)) dst_back is)
