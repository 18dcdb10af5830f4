-- RFC 1350, RFC 2347 and 2348: the datagrams that a transfer was handed, and the port and size that they fix
use Rattle.std.specs.Prelude.{ℕ, ◌==◌, ◌&&◌, ◌||◌, Bool, true, false, List, [], Option, unwrap_or, if◌then◌else◌}
use Rattle.std.specs.List.{find}
use Rattle.std.specs.Option.{option_map, option_map_or}
use Rattle.nb_tftpmsg.specs.Packets.{Message, rrq, block, ack, error, oack}
use Rattle.nb_tftpmsg.specs.Reading.{packet_read}

-- a datagram: its record, the port that it came from, and its body
pub record Received : Type 0 where
  pub rec : ℕ
  pub port : ℕ
  pub body : List ℕ

abbrev pub received : ℕ → ℕ → List ℕ → Received
received rec port body = record { rec = rec; port = port; body = body }

-- the packet that it is, if it is one
abbrev pub packet_in : Received → Option Message
packet_in m = packet_read m.body

-- a packet is the block of this number
abbrev pub has_block_number : ℕ → Message → Bool
has_block_number number (block n bytes) = n == number
has_block_number number (rrq path options) = false
has_block_number number (ack n) = false
has_block_number number (error code text) = false
has_block_number number (oack blksize tsize) = false

abbrev pub block_bytes_of : Message → List ℕ
block_bytes_of (block n bytes) = bytes
block_bytes_of (rrq path options) = []
block_bytes_of (ack n) = []
block_bytes_of (error code text) = []
block_bytes_of (oack blksize tsize) = []

abbrev pub is_error : Message → Bool
is_error (error code text) = true
is_error (block n bytes) = false
is_error (rrq path options) = false
is_error (ack n) = false
is_error (oack blksize tsize) = false

abbrev pub is_oack : Message → Bool
is_oack (oack blksize tsize) = true
is_oack (block n bytes) = false
is_oack (rrq path options) = false
is_oack (ack n) = false
is_oack (error code text) = false

-- the size of blocks that an OACK states (RFC 2348); 512 where a packet states none
abbrev pub stated_size : Message → ℕ
stated_size (oack blksize tsize) = unwrap_or blksize 512
stated_size (block n bytes) = 512
stated_size (rrq path options) = 512
stated_size (ack n) = 512
stated_size (error code text) = 512

-- it is the block of this number, whatever its bytes
abbrev pub is_block : ℕ → Received → Bool
is_block n m = option_map_or (has_block_number n) (packet_in m) false

-- the bytes of the block that it is
abbrev pub block_bytes : Received → List ℕ
block_bytes m = option_map_or block_bytes_of (packet_in m) []

-- it refuses
abbrev pub is_refusal : Received → Bool
is_refusal m = option_map_or is_error (packet_in m) false

-- it grants options
abbrev pub is_grant : Received → Bool
is_grant m = option_map_or is_oack (packet_in m) false

-- the size of blocks that it states
abbrev pub size_in : Received → ℕ
size_in m = option_map_or stated_size (packet_in m) 512

-- it can be what a transfer agrees on, with or without options: an OACK where options were asked for, or block 1
abbrev pub is_agreement : Bool → Received → Bool
is_agreement options m = (options && is_grant m) || is_block 1 m

-- The agreement of a transfer, with or without options: the first such datagram. Its port is the server's
-- from then on, and its size that of the blocks.
abbrev pub agreement : Bool → List Received → Option Received
agreement options got = find (is_agreement options) got

abbrev pub port_with : Bool → List Received → Option ℕ
port_with options got = option_map (λ m. m.port) (agreement options got)

-- 512 without options, and as long as there is no agreement
abbrev pub size_with : Bool → List Received → ℕ
size_with options got = if options then option_map_or size_in (agreement options got) 512 else 512

-- the server's port where options were asked for: the one that the first OACK or block 1 came from
abbrev pub fixed_port : List Received → Option ℕ
fixed_port got = port_with true got
