-- A segment's fields stand at their places, and bytes whose fields are right are a segment.
use Rattle.std.proofs.Common.{◌≡◌, ℕ, ◌+◌, ◌*◌, ◌/◌, ◌^◌, ◌≤◌, ◌<◌, List, [], ◌∷◌, ◌++◌, length, get_or, take, drop, Option, refl, sym, ap, subst, ◌∙◌, append_assoc, arith}
use Rattle.std.specs.Int.{w16, w32, to_be_bytes, from_be_bytes}
use Rattle.std.proofs.lemmas.List.{take_at, drop_at, take-append-drop, length-append, length-take}
use Rattle.std.proofs.lemmas.Nat.{from_be_bytes-to_be_bytes_4}
use Rattle.nb_wire.specs.declared.address.Ip4.{Ip4}
use Rattle.nb_wire.proofs.BytesLaws.{IsBytes, Splits, IsBytes-front}
use Rattle.nb_ipv4.proofs.NumberLaws.{be16_bytes, be32_bytes, elements-drop}
use Rattle.nb_ipv4.proofs.PacketLaws.{take_take}
use Rattle.nb_tcpseg.specs.Options.{OptionsSay}
use Rattle.nb_tcpseg.proofs.OptionLemmas.{says_one}
use Rattle.nb_tcpseg.specs.SegmentText.{SegmentParts, IsLaidOut, IsSegment, IsIntact, tcp_header}

pub length-tcp_header : (s : SegmentParts) (offset sum urgent : ℕ) → length (tcp_header s offset sum urgent) ≡ 20
unfolding tcp_header
length-tcp_header s offset sum urgent = refl

abbrev pub number_at : List ℕ → ℕ → ℕ → ℕ
number_at fixed i j = 256 * get_or fixed i 0 + get_or fixed j 0

abbrev pub word_at : List ℕ → ℕ → ℕ → ℕ → ℕ → ℕ
word_at fixed a b c d = from_be_bytes w32 (get_or fixed a 0 ∷ get_or fixed b 0 ∷ get_or fixed c 0 ∷ get_or fixed d 0 ∷ [])

-- where the fields stand in the first twenty bytes, and where the options and the body do
pub record IsSegmentPlaced (fixed bytes : List ℕ) (s : SegmentParts) : Type 0 where
  pub len : ℕ
  pub len_is : len ≡ 4 * (get_or fixed 12 0 / 16)
  pub least : 20 ≤ len
  pub long : len + length s.body ≡ length bytes
  pub src_port : s.src_port ≡ number_at fixed 0 1
  pub dst_port : s.dst_port ≡ number_at fixed 2 3
  pub seq : s.seq ≡ word_at fixed 4 5 6 7
  pub ack : s.ack ≡ word_at fixed 8 9 10 11
  pub flags : s.flags ≡ get_or fixed 13 0
  pub window : s.window ≡ number_at fixed 14 15
  pub mss : OptionsSay (drop 20 (take len bytes)) s.mss
  pub body : s.body ≡ drop len bytes
  pub short : length bytes < 2 ^ 16

pub segment_placed : (fixed bytes : List ℕ) (s : SegmentParts) → fixed ≡ take 20 bytes → IsLaidOut bytes s → IsSegmentPlaced fixed bytes s
unfolding tcp_header
segment_placed fixed bytes s front is =
    let head : List ℕ = tcp_header s is.offset is.sum is.urgent in
    let text : List ℕ = head ++ (is.options ++ s.body) in
    let e : fixed ≡ take 20 text = front ∙ ap (λ (b : List ℕ). take 20 b) is.spelled in
    let at : (k : ℕ) → get_or fixed k 0 ≡ get_or (take 20 text) k 0 = λ k. ap (λ (b : List ℕ). get_or b k 0) e in
    let len : ℕ = 20 + length is.options in
    let twenty : length head ≡ 20 = length-tcp_header s is.offset is.sum is.urgent in
    let header_len : length (head ++ is.options) ≡ len = omega (arith, length-append head is.options, twenty) in
    let apart : bytes ≡ head ++ is.options ++ s.body = is.spelled ∙ sym (append_assoc head is.options s.body) in
    let header_is : take len bytes ≡ head ++ is.options = ap (λ (b : List ℕ). take len b) apart ∙ take_at (head ++ is.options) s.body len header_len in
    let options_are : drop 20 (take len bytes) ≡ is.options = ap (λ (b : List ℕ). drop 20 b) header_is ∙ drop_at head is.options 20 twenty in
    record {
      len = len;
      len_is = omega (arith, at 12, is.words);
      least = omega arith;
      long = omega (arith, ap length apart, length-append (head ++ is.options) s.body, header_len);
      src_port = omega (arith, at 0, at 1, is.fits);
      dst_port = omega (arith, at 2, at 3, is.fits);
      seq = sym (ap (λ (b : List ℕ). word_at b 4 5 6 7) e ∙ from_be_bytes-to_be_bytes_4 s.seq is.fits.2);
      ack = sym (ap (λ (b : List ℕ). word_at b 8 9 10 11) e ∙ from_be_bytes-to_be_bytes_4 s.ack is.fits.3);
      flags = sym (at 13);
      window = omega (arith, at 14, at 15, is.fits);
      mss = subst (λ (o : List ℕ). OptionsSay o s.mss) (sym options_are) is.mss;
      body = sym (ap (λ (b : List ℕ). drop len b) apart ∙ drop_at (head ++ is.options) s.body len header_len);
      short = is.short;
    }

abbrev pub made : ℕ → ℕ → ℕ → ℕ → ℕ → ℕ → Option ℕ → List ℕ → SegmentParts
made src_port dst_port seq ack flags window mss body = record { src_port = src_port; dst_port = dst_port; seq = seq; ack = ack; flags = flags; window = window; mss = mss; body = body }

-- what was read at these places is that segment
pub segment_found : (fixed bytes body : List ℕ) (s : SegmentParts) (src_port dst_port seq ack window len : ℕ) (mss : Option ℕ) → IsSegmentPlaced fixed bytes s → src_port ≡ number_at fixed 0 1 → dst_port ≡ number_at fixed 2 3 → seq ≡ word_at fixed 4 5 6 7 → ack ≡ word_at fixed 8 9 10 11 → window ≡ number_at fixed 14 15 → mss ≡ s.mss → len ≡ 4 * (get_or fixed 12 0 / 16) → body ≡ drop len bytes → made src_port dst_port seq ack (get_or fixed 13 0) window mss body ≡ s
segment_found fixed bytes body s src_port dst_port seq ack window len mss placed src_is dst_is seq_is ack_is window_is mss_is len_is body_is =
    let lens : len ≡ placed.len = len_is ∙ sym placed.len_is in
    let flags = get_or fixed 13 0 in
    ap (λ (x : ℕ). made x dst_port seq ack flags window mss body) (src_is ∙ sym placed.src_port)
    ∙ ap (λ (x : ℕ). made s.src_port x seq ack flags window mss body) (dst_is ∙ sym placed.dst_port)
    ∙ ap (λ (x : ℕ). made s.src_port s.dst_port x ack flags window mss body) (seq_is ∙ sym placed.seq)
    ∙ ap (λ (x : ℕ). made s.src_port s.dst_port s.seq x flags window mss body) (ack_is ∙ sym placed.ack)
    ∙ ap (λ (x : ℕ). made s.src_port s.dst_port s.seq s.ack x window mss body) (sym placed.flags)
    ∙ ap (λ (x : ℕ). made s.src_port s.dst_port s.seq s.ack s.flags x mss body) (window_is ∙ sym placed.window)
    ∙ ap (λ (x : Option ℕ). made s.src_port s.dst_port s.seq s.ack s.flags s.window x body) mss_is
    ∙ ap (λ (x : List ℕ). made s.src_port s.dst_port s.seq s.ack s.flags s.window s.mss x) (body_is ∙ ap (λ (n : ℕ). drop n bytes) lens ∙ sym placed.body)

-- a segment is laid out as one
pub laid_out : (src dst : Ip4) (bytes : List ℕ) (s : SegmentParts) → IsSegment src dst bytes s → IsLaidOut bytes s
laid_out src dst bytes s is =
    record { offset = is.offset; sum = is.sum; urgent = is.urgent; options = is.options; fits = is.fits; sum_fits = is.sum_fits; urgent_fits = is.urgent_fits; words = is.words; spelled = is.spelled; mss = is.mss; short = is.intact.0 }

-- and one whose checksum is right is a segment
pub laid_intact : (src dst : Ip4) (bytes : List ℕ) (s : SegmentParts) → IsLaidOut bytes s → IsIntact src dst bytes → IsSegment src dst bytes s
laid_intact src dst bytes s is intact =
    record { offset = is.offset; sum = is.sum; urgent = is.urgent; options = is.options; fits = is.fits; sum_fits = is.sum_fits; urgent_fits = is.urgent_fits; words = is.words; spelled = is.spelled; mss = is.mss; intact = intact }

-- bytes are laid out as at most one
pub laid_one : (bytes : List ℕ) (s t : SegmentParts) → IsLaidOut bytes s → IsLaidOut bytes t → s ≡ t
laid_one bytes s t first second =
    let a = segment_placed (take 20 bytes) bytes s refl first in
    let b = segment_placed (take 20 bytes) bytes t refl second in
    let lens : b.len ≡ a.len = b.len_is ∙ sym a.len_is in
    let mss : s.mss ≡ t.mss = says_one _ s.mss t.mss a.mss (subst (λ (n : ℕ). OptionsSay (drop 20 (take n bytes)) t.mss) lens b.mss) in
    ap (λ (x : ℕ). made s.src_port s.dst_port s.seq s.ack x s.window s.mss s.body) a.flags
    ∙ segment_found (take 20 bytes) bytes s.body t s.src_port s.dst_port s.seq s.ack s.window a.len s.mss b a.src_port a.dst_port a.seq a.ack a.window mss a.len_is a.body

-- so are at most one segment
pub segment_one : (src dst : Ip4) (bytes : List ℕ) (s t : SegmentParts) → IsSegment src dst bytes s → IsSegment src dst bytes t → s ≡ t
segment_one src dst bytes s t first second = laid_one bytes s t (laid_out src dst bytes s first) (laid_out src dst bytes t second)

-- the twenty bytes, by their pieces
abbrev pub header_form : List ℕ → List ℕ → List ℕ → List ℕ → ℕ → ℕ → List ℕ → List ℕ → List ℕ → List ℕ
header_form src_port dst_port seq ack offset flags window sum urgent = src_port ++ dst_port ++ seq ++ ack ++ offset ∷ flags ∷ window ++ sum ++ urgent

header_spelled : (fixed : List ℕ) (s : SegmentParts) → IsBytes fixed → length fixed ≡ 20 → s.src_port ≡ number_at fixed 0 1 → s.dst_port ≡ number_at fixed 2 3 → s.seq ≡ word_at fixed 4 5 6 7 → s.ack ≡ word_at fixed 8 9 10 11 → s.flags ≡ get_or fixed 13 0 → s.window ≡ number_at fixed 14 15 → tcp_header s (get_or fixed 12 0) (number_at fixed 16 17) (number_at fixed 18 19) ≡ fixed
unfolding tcp_header
header_spelled fixed s fits len src_is dst_is seq_is ack_is flags_is window_is =
    let at : ℕ → ℕ = λ k. get_or fixed k 0 in
    let two : ℕ → ℕ → List ℕ = λ i j. at i ∷ at j ∷ [] in
    let seq4 : List ℕ = at 4 ∷ at 5 ∷ at 6 ∷ at 7 ∷ [] in
    let ack4 : List ℕ = at 8 ∷ at 9 ∷ at 10 ∷ at 11 ∷ [] in
    let window2 = to_be_bytes w16 s.window in
    let sum2 = to_be_bytes w16 (number_at fixed 16 17) in
    let urgent2 = to_be_bytes w16 (number_at fixed 18 19) in
    ap (λ (x : List ℕ). header_form x (to_be_bytes w16 s.dst_port) (to_be_bytes w32 s.seq) (to_be_bytes w32 s.ack) (at 12) s.flags window2 sum2 urgent2) (be16_bytes _ (at 0) (at 1) (fits 0) (fits 1) src_is)
    ∙ ap (λ (x : List ℕ). header_form (two 0 1) x (to_be_bytes w32 s.seq) (to_be_bytes w32 s.ack) (at 12) s.flags window2 sum2 urgent2) (be16_bytes _ (at 2) (at 3) (fits 2) (fits 3) dst_is)
    ∙ ap (λ (x : List ℕ). header_form (two 0 1) (two 2 3) x (to_be_bytes w32 s.ack) (at 12) s.flags window2 sum2 urgent2) (be32_bytes _ (at 4) (at 5) (at 6) (at 7) (fits 4) (fits 5) (fits 6) (fits 7) seq_is)
    ∙ ap (λ (x : List ℕ). header_form (two 0 1) (two 2 3) seq4 x (at 12) s.flags window2 sum2 urgent2) (be32_bytes _ (at 8) (at 9) (at 10) (at 11) (fits 8) (fits 9) (fits 10) (fits 11) ack_is)
    ∙ ap (λ (x : ℕ). header_form (two 0 1) (two 2 3) seq4 ack4 (at 12) x window2 sum2 urgent2) flags_is
    ∙ ap (λ (x : List ℕ). header_form (two 0 1) (two 2 3) seq4 ack4 (at 12) (at 13) x sum2 urgent2) (be16_bytes _ (at 14) (at 15) (fits 14) (fits 15) window_is)
    ∙ ap (λ (x : List ℕ). header_form (two 0 1) (two 2 3) seq4 ack4 (at 12) (at 13) (two 14 15) x urgent2) (be16_bytes _ (at 16) (at 17) (fits 16) (fits 17) refl)
    ∙ ap (λ (x : List ℕ). header_form (two 0 1) (two 2 3) seq4 ack4 (at 12) (at 13) (two 14 15) (two 16 17) x) (be16_bytes _ (at 18) (at 19) (fits 18) (fits 19) refl)
    ∙ elements-drop 20 0 fixed len

-- bytes of which these are the first twenty, the options and the body are laid out as the segment with these fields
pub segment_made : (fixed rest bytes options body : List ℕ) (mss : Option ℕ) (src_port dst_port seq ack window len : ℕ) → IsBytes bytes → Splits 20 bytes fixed rest → fixed ≡ take 20 bytes → src_port ≡ number_at fixed 0 1 → dst_port ≡ number_at fixed 2 3 → seq ≡ word_at fixed 4 5 6 7 → ack ≡ word_at fixed 8 9 10 11 → window ≡ number_at fixed 14 15 → len ≡ 4 * (get_or fixed 12 0 / 16) → 20 ≤ len → len ≤ length bytes → options ≡ drop 20 (take len bytes) → body ≡ drop len bytes → OptionsSay options mss → length bytes < 2 ^ 16 → IsLaidOut bytes (made src_port dst_port seq ack (get_or fixed 13 0) window mss body)
segment_made fixed rest bytes options body mss src_port dst_port seq ack window len fits front fixed_is src_is dst_is seq_is ack_is window_is len_is least enough options_are body_is says short =
    let s = made src_port dst_port seq ack (get_or fixed 13 0) window mss body in
    let fixed_fits : IsBytes fixed = IsBytes-front 20 bytes fixed rest front fits in
    let head : tcp_header s (get_or fixed 12 0) (number_at fixed 16 17) (number_at fixed 18 19) ≡ fixed = header_spelled fixed s fixed_fits front.len src_is dst_is seq_is ack_is refl window_is in
    let first : take 20 (take len bytes) ≡ fixed = take_take 20 len bytes least enough ∙ sym fixed_is in
    let header : take len bytes ≡ fixed ++ options = sym (take-append-drop 20 (take len bytes)) ∙ ap (λ (x : List ℕ). x ++ drop 20 (take len bytes)) first ∙ ap (λ (x : List ℕ). fixed ++ x) (sym options_are) in
    let whole : bytes ≡ fixed ++ options ++ body = sym (take-append-drop len bytes) ∙ ap (λ (x : List ℕ). x ++ drop len bytes) header ∙ ap (λ (x : List ℕ). fixed ++ options ++ x) (sym body_is) in
    record {
      offset = get_or fixed 12 0;
      sum = number_at fixed 16 17;
      urgent = number_at fixed 18 19;
      options = options;
      fits = (omega (arith, src_is, fixed_fits 0, fixed_fits 1), omega (arith, dst_is, fixed_fits 2, fixed_fits 3), omega (arith, seq_is, fixed_fits 4, fixed_fits 5, fixed_fits 6, fixed_fits 7), omega (arith, ack_is, fixed_fits 8, fixed_fits 9, fixed_fits 10, fixed_fits 11), omega (arith, window_is, fixed_fits 14, fixed_fits 15));
      sum_fits = omega (arith, fixed_fits 16, fixed_fits 17);
      urgent_fits = omega (arith, fixed_fits 18, fixed_fits 19);
      words = omega (arith, ap length header, length-append fixed options, length-take len bytes, front.len, len_is, enough);
      spelled = whole ∙ append_assoc fixed options body ∙ ap (λ (x : List ℕ). x ++ (options ++ body)) (sym head);
      mss = says;
      short = short;
    }
