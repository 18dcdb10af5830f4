-- RFC 9293, section 3.1: a TCP segment between two IPv4 addresses
use Rattle.std.specs.Prelude.{◌≡◌, ℕ, ◌+◌, ◌*◌, ◌/◌, ◌<◌, ◌^◌, List, [], ◌∷◌, ◌++◌, length, Option, Some, None}
use Rattle.std.specs.Int.{w16, w32, to_be_bytes}
use Rattle.nb_wire.specs.Checksum.{checksum}
use Rattle.nb_wire.specs.declared.address.Ip4.{Ip4}
use Rattle.nb_tcpseg.specs.declared.segment.Segment.{Segment}
use Rattle.nb_tcpseg.specs.Options.{OptionsSay}

-- a segment without where its body lies in memory
pub record SegmentParts : Type 0 where
  pub src_port : ℕ
  pub dst_port : ℕ
  pub seq : ℕ
  pub ack : ℕ
  pub flags : ℕ
  pub window : ℕ
  pub mss : Option ℕ
  pub body : List ℕ

abbrev pub segment_parts : Segment → SegmentParts
segment_parts s = record { src_port = s.src_port; dst_port = s.dst_port; seq = s.seq; ack = s.ack; flags = s.flags; window = s.window; mss = s.mss; body = s.body.now }

-- the twenty bytes before the options, with this data offset (and reserved bits), checksum and urgent pointer
unfoldable pub tcp_header : SegmentParts → ℕ → ℕ → ℕ → List ℕ
tcp_header s offset sum urgent =
    to_be_bytes w16 s.src_port ++ to_be_bytes w16 s.dst_port ++ to_be_bytes w32 s.seq ++ to_be_bytes w32 s.ack
    ++ offset ∷ s.flags ∷ to_be_bytes w16 s.window ++ to_be_bytes w16 sum ++ to_be_bytes w16 urgent

-- what the checksum covers before the segment: both addresses, the protocol and the length
unfoldable pub tcp_pseudo_header : Ip4 → Ip4 → ℕ → List ℕ
tcp_pseudo_header src dst total = to_be_bytes w32 src.0 ++ to_be_bytes w32 dst.0 ++ 0 ∷ 6 ∷ to_be_bytes w16 total

-- bytes whose checksum between these addresses is right
abbrev pub IsIntact : Ip4 → Ip4 → List ℕ → Type 0
IsIntact src dst bytes = (length bytes < 2 ^ 16) × (checksum (tcp_pseudo_header src dst (length bytes) ++ bytes) ≡ 0)

abbrev pub Fits : SegmentParts → Type 0
Fits s = (s.src_port < 2 ^ 16) × (s.dst_port < 2 ^ 16) × (s.seq < 2 ^ 32) × (s.ack < 2 ^ 32) × (s.window < 2 ^ 16)

-- these bytes are laid out as the segment, whatever their checksum says; the data offset counts words of four bytes in the high half of its byte
pub record IsLaidOut (bytes : List ℕ) (s : SegmentParts) : Type 0 where
  pub offset : ℕ
  pub sum : ℕ
  pub urgent : ℕ
  pub options : List ℕ
  pub fits : Fits s
  pub sum_fits : sum < 2 ^ 16
  pub urgent_fits : urgent < 2 ^ 16
  pub words : 20 + length options ≡ 4 * (offset / 16)
  pub spelled : bytes ≡ tcp_header s offset sum urgent ++ (options ++ s.body)
  pub mss : OptionsSay options s.mss
  pub short : length bytes < 2 ^ 16

-- these bytes are the segment: they are laid out so, and their checksum is right
pub record IsSegment (src dst : Ip4) (bytes : List ℕ) (s : SegmentParts) : Type 0 where
  pub offset : ℕ
  pub sum : ℕ
  pub urgent : ℕ
  pub options : List ℕ
  pub fits : Fits s
  pub sum_fits : sum < 2 ^ 16
  pub urgent_fits : urgent < 2 ^ 16
  pub words : 20 + length options ≡ 4 * (offset / 16)
  pub spelled : bytes ≡ tcp_header s offset sum urgent ++ (options ++ s.body)
  pub mss : OptionsSay options s.mss
  pub intact : IsIntact src dst bytes

-- the options that are sent: the maximum segment size, where there is one
abbrev pub mss_option : ℕ → List ℕ
mss_option mss = 2 ∷ 4 ∷ to_be_bytes w16 mss

abbrev pub sent_options : Option ℕ → List ℕ
sent_options None = []
sent_options (Some mss) = mss_option mss

abbrev pub sent_header_len : Option ℕ → ℕ
sent_header_len mss = 20 + length (sent_options mss)

-- a segment's spelling with this checksum
abbrev pub segment_text : SegmentParts → ℕ → List ℕ
segment_text s sum = tcp_header s (4 * sent_header_len s.mss) sum 0 ++ (sent_options s.mss ++ s.body)

-- the checksum that is sent: that of the segment with 0 in its place
abbrev pub sent_sum : Ip4 → Ip4 → SegmentParts → ℕ
sent_sum src dst s = checksum (tcp_pseudo_header src dst (sent_header_len s.mss + length s.body) ++ segment_text s 0)

-- a segment as it is sent
unfoldable pub sent_segment : Ip4 → Ip4 → SegmentParts → List ℕ
sent_segment src dst s = segment_text s (sent_sum src dst s)
