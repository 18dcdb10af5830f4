-- RFC 7143, section 11.1: which bytes spell which PDU
use Rattle.std.specs.Prelude.{◌≡◌, ◌≤◌, ℕ, ◌+◌, ◌-◌, List, ◌++◌, length, replicate}
use Rattle.nb_iscsipdu.specs.declared.pdu.Pdu.{Pdu}
use Rattle.nb_iscsipdu.specs.Heads.{lengths, padded_len}

-- a PDU without where its data lies in memory: the head, and the data segment without its padding
pub record PduParts : Type 0 where
  pub head : List ℕ
  pub seg : List ℕ

abbrev pub pdu_parts : Pdu → PduParts
pdu_parts p = record { head = p.head; seg = p.seg.now }

-- a PDU that has a spelling: no additional header segments, and at most 8,192 bytes of data
pub record IsPdu (p : PduParts) : Type 0 where
  pub head : length p.head ≡ 48
  pub len : lengths p.head ≡ length p.seg
  pub short : length p.seg ≤ 8192

-- the bytes spell the PDU: after the data stands padding up to a multiple of 4, which may be any bytes
pub record IsPduText (text : List ℕ) (p : PduParts) : Type 0 where
  pub is : IsPdu p
  pub padding : List ℕ
  pub padded : length p.seg + length padding ≡ padded_len (length p.seg)
  pub spelled : text ≡ p.head ++ (p.seg ++ padding)

-- the padding that is sent
abbrev pub padding_for : ℕ → List ℕ
padding_for n = replicate (padded_len n - n) 0

-- the text that is written for a PDU
unfoldable pub pdu_text : PduParts → List ℕ
pdu_text p = p.head ++ (p.seg ++ padding_for (length p.seg))
