-- A segment that is sent is read again.
use Rattle.std.proofs.Common.{◌≡◌, ℕ, ◌+◌, ◌*◌, ◌/◌, ◌%◌, ◌<◌, ◌≤◌, ◌^◌, List, [], ◌∷◌, ◌++◌, length, get_or, take, Option, Some, None, refl, sym, ap, subst, ◌∙◌, append_assoc, append-nil, arith}
use Rattle.std.specs.Option.{unwrap_or}
use Rattle.std.specs.Int.{w16, w32, to_be_bytes}
use Rattle.std.proofs.lemmas.List.{take_at, length-append}
use Rattle.std.proofs.Math.Seq.{take-append-add}
use Rattle.nb_wire.specs.declared.address.Ip4.{Ip4}
use Rattle.nb_wire.specs.Checksum.{checksum}
use Rattle.nb_wire.proofs.BytesLaws.{IsBytes}
use Rattle.nb_wire.proofs.ChecksumLaws.{checksum-zero, checksum-closes}
use Rattle.nb_ipv4.proofs.NumberLaws.{bytes_onto, elements-drop}
use Rattle.nb_tcpseg.specs.SegmentText.{SegmentParts, IsSegment, Fits, tcp_header, tcp_pseudo_header, mss_option, sent_options, sent_header_len, segment_text, sent_sum, sent_segment}
use Rattle.nb_tcpseg.proofs.OptionLemmas.{sent_says}
use Rattle.nb_tcpseg.proofs.HeaderLemmas.{header_form, length-tcp_header}

abbrev as_two : List ℕ → List ℕ
as_two x = get_or x 0 0 ∷ get_or x 1 0 ∷ []

abbrev as_four : List ℕ → List ℕ
as_four x = get_or x 0 0 ∷ get_or x 1 0 ∷ get_or x 2 0 ∷ get_or x 3 0 ∷ []

-- the twelve bytes before a segment are its pseudo-header
pub pseudo_written : (src dst : Ip4) (len : ℕ) (src_bytes dst_bytes total : List ℕ) → src_bytes ≡ to_be_bytes w32 src.0 → dst_bytes ≡ to_be_bytes w32 dst.0 → total ≡ to_be_bytes w16 len → as_four src_bytes ++ as_four dst_bytes ++ 0 ∷ 6 ∷ as_two total ≡ tcp_pseudo_header src dst len
unfolding tcp_pseudo_header
pseudo_written src dst len src_bytes dst_bytes total src_is dst_is total_is =
    ap (λ (x : List ℕ). as_four x ++ as_four dst_bytes ++ 0 ∷ 6 ∷ as_two total) src_is
    ∙ ap (λ (x : List ℕ). to_be_bytes w32 src.0 ++ as_four x ++ 0 ∷ 6 ∷ as_two total) dst_is
    ∙ ap (λ (x : List ℕ). to_be_bytes w32 src.0 ++ to_be_bytes w32 dst.0 ++ 0 ∷ 6 ∷ as_two x) total_is

-- the bytes that are written are the header and the option
pub header_written : (s : SegmentParts) (offset len sum mss : ℕ) (src_port dst_port seq ack window field option : List ℕ) → src_port ≡ to_be_bytes w16 s.src_port → dst_port ≡ to_be_bytes w16 s.dst_port → seq ≡ to_be_bytes w32 s.seq → ack ≡ to_be_bytes w32 s.ack → offset ≡ len → window ≡ to_be_bytes w16 s.window → field ≡ to_be_bytes w16 sum → option ≡ to_be_bytes w16 mss → header_form (as_two src_port) (as_two dst_port) (as_four seq) (as_four ack) offset s.flags (as_two window) (as_two field) (0 ∷ 0 ∷ []) ++ 2 ∷ 4 ∷ as_two option ≡ tcp_header s len sum 0 ++ mss_option mss
unfolding tcp_header
header_written s offset len sum mss src_port dst_port seq ack window field option src_is dst_is seq_is ack_is offset_is window_is field_is option_is =
    let zeros : List ℕ = 0 ∷ 0 ∷ [] in
    let rest : List ℕ = 2 ∷ 4 ∷ as_two option in
    let src2 = to_be_bytes w16 s.src_port in
    let dst2 = to_be_bytes w16 s.dst_port in
    let seq4 = to_be_bytes w32 s.seq in
    let ack4 = to_be_bytes w32 s.ack in
    let window2 = to_be_bytes w16 s.window in
    ap (λ (x : List ℕ). header_form (as_two x) (as_two dst_port) (as_four seq) (as_four ack) offset s.flags (as_two window) (as_two field) zeros ++ rest) src_is
    ∙ ap (λ (x : List ℕ). header_form src2 (as_two x) (as_four seq) (as_four ack) offset s.flags (as_two window) (as_two field) zeros ++ rest) dst_is
    ∙ ap (λ (x : List ℕ). header_form src2 dst2 (as_four x) (as_four ack) offset s.flags (as_two window) (as_two field) zeros ++ rest) seq_is
    ∙ ap (λ (x : List ℕ). header_form src2 dst2 seq4 (as_four x) offset s.flags (as_two window) (as_two field) zeros ++ rest) ack_is
    ∙ ap (λ (x : ℕ). header_form src2 dst2 seq4 ack4 x s.flags (as_two window) (as_two field) zeros ++ rest) offset_is
    ∙ ap (λ (x : List ℕ). header_form src2 dst2 seq4 ack4 len s.flags (as_two x) (as_two field) zeros ++ rest) window_is
    ∙ ap (λ (x : List ℕ). header_form src2 dst2 seq4 ack4 len s.flags window2 (as_two x) zeros ++ rest) field_is
    ∙ ap (λ (x : List ℕ). header_form src2 dst2 seq4 ack4 len s.flags window2 (to_be_bytes w16 sum) zeros ++ 2 ∷ 4 ∷ as_two x) option_is

-- a header without the room for an option that isn't there
pub header_taken : (mss : Option ℕ) (header : List ℕ) → length header ≡ 20 → take (sent_header_len mss) (header ++ mss_option (unwrap_or mss 0)) ≡ header ++ sent_options mss
header_taken None header twenty = take_at header (mss_option 0) 20 twenty ∙ sym (append-nil header)
header_taken (Some m) header twenty =
    let whole : length (header ++ mss_option m) ≡ 24 = omega (arith, length-append header (mss_option m), twenty) in
    ap (λ (x : List ℕ). take 24 x) (sym (append-nil (header ++ mss_option m))) ∙ take_at (header ++ mss_option m) [] 24 whole

abbrev before_sum : Ip4 → Ip4 → SegmentParts → ℕ → List ℕ
before_sum src dst s total =
    to_be_bytes w32 src.0 ++ to_be_bytes w32 dst.0 ++ 0 ∷ 6 ∷ to_be_bytes w16 total
    ++ to_be_bytes w16 s.src_port ++ to_be_bytes w16 s.dst_port ++ to_be_bytes w32 s.seq ++ to_be_bytes w32 s.ack
    ++ (4 * sent_header_len s.mss) ∷ s.flags ∷ to_be_bytes w16 s.window

abbrev after_sum : SegmentParts → List ℕ
after_sum s = 0 ∷ 0 ∷ (sent_options s.mss ++ s.body)

text_around : (src dst : Ip4) (s : SegmentParts) (total field : ℕ) → tcp_pseudo_header src dst total ++ segment_text s field ≡ before_sum src dst s total ++ field / 256 % 256 ∷ field % 256 ∷ after_sum s
unfolding tcp_header tcp_pseudo_header
text_around src dst s total field = refl

options_onto : (mss : Option ℕ) (body : List ℕ) → IsBytes body → IsBytes (sent_options mss ++ body)
options_onto None body fits = fits
options_onto (Some m) body fits = bytes_onto (sent_options (Some m)) body (omega arith, (omega arith, (omega arith, (omega arith, tt)))) fits

header_small : (mss : Option ℕ) → 4 * sent_header_len mss < 256
header_small None = omega arith
header_small (Some m) = omega arith

text_fits : (src dst : Ip4) (s : SegmentParts) (total high low : ℕ) → IsBytes s.body → s.flags < 256 → high < 256 → low < 256 → IsBytes (before_sum src dst s total ++ high ∷ low ∷ after_sum s)
text_fits src dst s total high low body flags h l =
    bytes_onto (before_sum src dst s total ++ high ∷ low ∷ 0 ∷ 0 ∷ []) (sent_options s.mss ++ s.body) (omega arith, (omega arith, (omega arith, (omega arith, (omega arith, (omega arith, (omega arith, (omega arith, (omega arith, (omega arith, (omega arith, (omega arith, (omega arith, (omega arith, (omega arith, (omega arith, (omega arith, (omega arith, (omega arith, (omega arith, (omega arith, (omega arith, (omega arith, (omega arith, (header_small s.mss, (flags, (omega arith, (omega arith, (h, (l, (omega arith, (omega arith, tt)))))))))))))))))))))))))))))))) (options_onto s.mss s.body body)

sum_small : (src dst : Ip4) (s : SegmentParts) → IsBytes s.body → s.flags < 256 → sent_sum src dst s < 2 ^ 16
sum_small src dst s body flags =
    let total = sent_header_len s.mss + length s.body in
    let unsummed = before_sum src dst s total ++ 0 ∷ 0 ∷ after_sum s in
    omega (arith, ap checksum (text_around src dst s total 0), checksum-zero unsummed (text_fits src dst s total 0 0 body flags (omega arith) (omega arith)))

sum_closed : (src dst : Ip4) (s : SegmentParts) → IsBytes s.body → s.flags < 256 → checksum (tcp_pseudo_header src dst (sent_header_len s.mss + length s.body) ++ segment_text s (sent_sum src dst s)) ≡ 0
sum_closed src dst s body flags =
    let total = sent_header_len s.mss + length s.body in
    let sum = sent_sum src dst s in
    let unsummed = before_sum src dst s total ++ 0 ∷ 0 ∷ after_sum s in
    let zeros : IsBytes unsummed = text_fits src dst s total 0 0 body flags (omega arith) (omega arith) in
    let small : sum < 2 ^ 16 = sum_small src dst s body flags in
    let is : sum ≡ checksum unsummed = ap checksum (text_around src dst s total 0) in
    let field : 256 * (sum / 256 % 256) + sum % 256 ≡ checksum unsummed = omega (arith, small, is) in
    ap checksum (text_around src dst s total sum)
    ∙ checksum-closes (before_sum src dst s total) (after_sum s) (sum / 256 % 256) (sum % 256) refl (text_fits src dst s total (sum / 256 % 256) (sum % 256) body flags (omega arith) (omega arith)) zeros field

length-segment_text : (s : SegmentParts) (sum : ℕ) → length (segment_text s sum) ≡ sent_header_len s.mss + length s.body
length-segment_text s sum =
    let header = tcp_header s (4 * sent_header_len s.mss) sum 0 in
    omega (arith, length-append header (sent_options s.mss ++ s.body), length-append (sent_options s.mss) s.body, length-tcp_header s (4 * sent_header_len s.mss) sum 0)

words_of : (mss : Option ℕ) → 20 + length (sent_options mss) ≡ 4 * (4 * sent_header_len mss / 16)
words_of None = refl
words_of (Some m) = refl

mss_fits : (mss : Option ℕ) → unwrap_or mss 0 < 2 ^ 16 → (m : ℕ) → mss ≡ Some m → m < 2 ^ 16
mss_fits None small m e = cc
mss_fits (Some n) small m e = let same : n ≡ m = cc in subst (λ (k : ℕ). k < 2 ^ 16) same small

pub sent_readable : (src dst : Ip4) (s : SegmentParts) → IsBytes s.body → sent_header_len s.mss + length s.body < 2 ^ 16 → Fits s × (s.flags < 256) × (unwrap_or s.mss 0 < 2 ^ 16) → IsSegment src dst (sent_segment src dst s) s
unfolding sent_segment
sent_readable src dst s body room fits =
    let sum = sent_sum src dst s in
    let len : length (segment_text s sum) ≡ sent_header_len s.mss + length s.body = length-segment_text s sum in
    record {
      offset = 4 * sent_header_len s.mss;
      sum = sum;
      urgent = 0;
      options = sent_options s.mss;
      fits = fits.0;
      sum_fits = sum_small src dst s body fits.1;
      urgent_fits = omega arith;
      words = words_of s.mss;
      spelled = refl;
      mss = sent_says s.mss (mss_fits s.mss fits.2);
      intact = (omega (arith, len, room), ap (λ (n : ℕ). checksum (tcp_pseudo_header src dst n ++ segment_text s sum)) len ∙ sum_closed src dst s body fits.1);
    }

-- the header with checksum 0 and the body are the segment's text with that checksum
pub unsummed_whole : (s : SegmentParts) (header : List ℕ) → header ≡ tcp_header s (4 * sent_header_len s.mss) 0 0 ++ mss_option (unwrap_or s.mss 0) → take (sent_header_len s.mss) header ++ s.body ≡ segment_text s 0
unsummed_whole s header is =
    ap (λ (x : List ℕ). take (sent_header_len s.mss) x ++ s.body) is
    ∙ ap (λ (x : List ℕ). x ++ s.body) (header_taken s.mss (tcp_header s (4 * sent_header_len s.mss) 0 0) (length-tcp_header s (4 * sent_header_len s.mss) 0 0))
    ∙ append_assoc (tcp_header s (4 * sent_header_len s.mss) 0 0) (sent_options s.mss) s.body

-- what is put is the segment as it is sent
pub sent_whole : (src dst : Ip4) (s : SegmentParts) (pseudo unsummed closed : List ℕ) (len total sum : ℕ) → len ≡ sent_header_len s.mss → total ≡ len + length s.body → pseudo ≡ tcp_pseudo_header src dst total → unsummed ≡ tcp_header s (4 * sent_header_len s.mss) 0 0 ++ mss_option (unwrap_or s.mss 0) → sum ≡ checksum (pseudo ++ take len unsummed ++ s.body) → closed ≡ tcp_header s (4 * sent_header_len s.mss) sum 0 ++ mss_option (unwrap_or s.mss 0) → take len closed ++ s.body ≡ sent_segment src dst s
unfolding sent_segment
sent_whole src dst s pseudo unsummed closed len total sum len_is total_is pseudo_is unsummed_is sum_is closed_is =
    let most = sent_header_len s.mss in
    let text : (field : ℕ) (header : List ℕ) → header ≡ tcp_header s (4 * most) field 0 ++ mss_option (unwrap_or s.mss 0) → take len header ++ s.body ≡ segment_text s field =
    λ field header is.
    ap (λ (n : ℕ). take n header ++ s.body) len_is
    ∙ ap (λ (x : List ℕ). take most x ++ s.body) is
    ∙ ap (λ (x : List ℕ). x ++ s.body) (header_taken s.mss (tcp_header s (4 * most) field 0) (length-tcp_header s (4 * most) field 0))
    ∙ append_assoc (tcp_header s (4 * most) field 0) (sent_options s.mss) s.body in
    let whole_total : total ≡ sent_header_len s.mss + length s.body = total_is ∙ ap (λ (n : ℕ). n + length s.body) len_is in
    let sum_of : sum ≡ sent_sum src dst s =
    sum_is
    ∙ ap checksum (append_assoc pseudo (take len unsummed) s.body ∙ ap (λ (x : List ℕ). pseudo ++ x) (text 0 unsummed unsummed_is) ∙ ap (λ (x : List ℕ). x ++ segment_text s 0) (pseudo_is ∙ ap (λ (n : ℕ). tcp_pseudo_header src dst n) whole_total)) in
    text sum closed closed_is ∙ ap (λ (n : ℕ). segment_text s n) sum_of

-- a list of twelve and as much of one of twenty-four, element by element
pub joined : (pseudo header : List ℕ) (n : ℕ) → length pseudo ≡ 12 → length header ≡ 24 → take (12 + n) (get_or pseudo 0 0 ∷ get_or pseudo 1 0 ∷ get_or pseudo 2 0 ∷ get_or pseudo 3 0 ∷ get_or pseudo 4 0 ∷ get_or pseudo 5 0 ∷ get_or pseudo 6 0 ∷ get_or pseudo 7 0 ∷ get_or pseudo 8 0 ∷ get_or pseudo 9 0 ∷ get_or pseudo 10 0 ∷ get_or pseudo 11 0 ∷ get_or header 0 0 ∷ get_or header 1 0 ∷ get_or header 2 0 ∷ get_or header 3 0 ∷ get_or header 4 0 ∷ get_or header 5 0 ∷ get_or header 6 0 ∷ get_or header 7 0 ∷ get_or header 8 0 ∷ get_or header 9 0 ∷ get_or header 10 0 ∷ get_or header 11 0 ∷ get_or header 12 0 ∷ get_or header 13 0 ∷ get_or header 14 0 ∷ get_or header 15 0 ∷ get_or header 16 0 ∷ get_or header 17 0 ∷ get_or header 18 0 ∷ get_or header 19 0 ∷ get_or header 20 0 ∷ get_or header 21 0 ∷ get_or header 22 0 ∷ get_or header 23 0 ∷ []) ≡ pseudo ++ take n header
joined pseudo header n twelve twenty_four =
    let tail : List ℕ = get_or header 0 0 ∷ get_or header 1 0 ∷ get_or header 2 0 ∷ get_or header 3 0 ∷ get_or header 4 0 ∷ get_or header 5 0 ∷ get_or header 6 0 ∷ get_or header 7 0 ∷ get_or header 8 0 ∷ get_or header 9 0 ∷ get_or header 10 0 ∷ get_or header 11 0 ∷ get_or header 12 0 ∷ get_or header 13 0 ∷ get_or header 14 0 ∷ get_or header 15 0 ∷ get_or header 16 0 ∷ get_or header 17 0 ∷ get_or header 18 0 ∷ get_or header 19 0 ∷ get_or header 20 0 ∷ get_or header 21 0 ∷ get_or header 22 0 ∷ get_or header 23 0 ∷ [] in
    ap (λ (x : List ℕ). take (12 + n) (x ++ tail)) (elements-drop 12 0 pseudo twelve)
    ∙ ap (λ (x : List ℕ). take (12 + n) (pseudo ++ x)) (elements-drop 24 0 header twenty_four)
    ∙ ap (λ (k : ℕ). take (k + n) (pseudo ++ header)) (sym twelve)
    ∙ take-append-add pseudo header n
