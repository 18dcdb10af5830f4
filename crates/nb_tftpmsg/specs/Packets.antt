-- RFC 1350, section 5, and RFC 2347 to 2349: which bytes spell which packet
use Rattle.std.specs.Prelude.{◌≡◌, ℕ, ◌^◌, ◌<◌, Bool, true, false, List, [], ◌∷◌, ◌++◌, Option, codes}
use Rattle.std.specs.Int.{to_be_bytes, w16}
use Rattle.std.specs.List.{AllByRecursion}
use Rattle.std.specs.Option.{option_map_or}
use Rattle.nb_tftpmsg.specs.Texts.{HasNoZero, EndsText, ended, decimal_text}
use Rattle.nb_tftpmsg.specs.Options.{TftpOption, IsOption, options_text, OackOptionsSay}

-- a packet, without where it lies in memory
pub data Message : Type 0 where
  rrq : (path : List ℕ) (options : Bool) → Message
  block : (n : ℕ) (bytes : List ℕ) → Message
  ack : (n : ℕ) → Message
  error : (code : ℕ) (text : List ℕ) → Message
  oack : (blksize tsize : Option ℕ) → Message

-- what follows the path in a request: the mode, and with options blksize 1432 and tsize 0
abbrev pub request_tail : Bool → List ℕ
request_tail false = ended (codes "octet")
request_tail true = ended (codes "octet") ++ (ended (codes "blksize") ++ (ended (codes "1432") ++ (ended (codes "tsize") ++ ended (codes "0"))))

-- an option with a number, where there is one
abbrev pub number_option : List ℕ → Option ℕ → List ℕ
number_option name value = option_map_or (λ number. ended name ++ ended (decimal_text number)) value []

-- the text that is written for a packet; an ERROR and an OACK have others, which are read too
abbrev pub packet_text : Message → List ℕ
packet_text (rrq path options) = 0 ∷ 1 ∷ (path ++ 0 ∷ request_tail options)
packet_text (block n bytes) = 0 ∷ 3 ∷ (to_be_bytes w16 n ++ bytes)
packet_text (ack n) = 0 ∷ 4 ∷ to_be_bytes w16 n
packet_text (error code text) = 0 ∷ 5 ∷ (to_be_bytes w16 code ++ ended text)
packet_text (oack blksize tsize) = 0 ∷ 6 ∷ (number_option (codes "blksize") blksize ++ number_option (codes "tsize") tsize)

-- the bytes spell the packet. Servers leave out the zero byte after an error's text, or put more than one.
abbrev pub IsTftpPacket : List ℕ → Message → Type 0
IsTftpPacket bytes (rrq path options) = HasNoZero path × (bytes ≡ packet_text (rrq path options))
IsTftpPacket bytes (block n data_bytes) = (n < 2 ^ 16) × (bytes ≡ packet_text (block n data_bytes))
IsTftpPacket bytes (ack n) = (n < 2 ^ 16) × (bytes ≡ packet_text (ack n))
IsTftpPacket bytes (error code text) =
    (code < 2 ^ 16) × HasNoZero text × (rest : List ℕ) × EndsText rest × (bytes ≡ 0 ∷ 5 ∷ (to_be_bytes w16 code ++ (text ++ rest)))
IsTftpPacket bytes (oack blksize tsize) =
    (options : List TftpOption) × AllByRecursion IsOption options × (bytes ≡ 0 ∷ 6 ∷ options_text options) × OackOptionsSay options blksize tsize

-- a packet that has a spelling: its texts hold no zero byte
abbrev pub IsWritable : Message → Type 0
IsWritable (rrq path options) = HasNoZero path
IsWritable (block n bytes) = Unit {0}
IsWritable (ack n) = Unit {0}
IsWritable (error code text) = HasNoZero text
IsWritable (oack blksize tsize) = Unit {0}
