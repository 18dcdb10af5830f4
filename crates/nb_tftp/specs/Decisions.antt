-- RFC 1350, 2347 and 2348: what a packet calls for, by the port and size that are agreed and the number of the last block taken
use Rattle.std.specs.Prelude.{ℕ, ◌+◌, ◌==◌, ◌&&◌, Bool, true, false, List, length, Option, Some, None, nat_le, nat_lt, unwrap_or, if◌then◌else◌}
use Rattle.std.specs.Option.{option_map_or, is_some}
use Rattle.nb_terms.specs.declared.cause.Cause.{Cause}
use Rattle.nb_tftpmsg.specs.Packets.{Message, rrq, block, ack, error, oack}
use Rattle.nb_tftp.specs.declared.answer.Answer.{Answer}
use Rattle.nb_tftp.specs.declared.answer.Answer.TheVariants.{Ignored, Stranger, Again, Agreed, Declined, Taken, Ended}
use Rattle.nb_tftp.specs.declared.answer.Phase.{Phase}
use Rattle.nb_tftp.specs.declared.answer.Phase.TheVariants.{Asking, Taking, Over}
use Rattle.nb_tftp.specs.Ends.{ok_cause, refused_by, broken_block, too_many_blocks}

-- the server's port, once it is agreed
abbrev pub fixed_of : Phase → Option ℕ
fixed_of Asking = None
fixed_of (Taking port size last) = Some port
fixed_of Over = None

-- the size of blocks
abbrev pub block_size_of : Phase → ℕ
block_size_of Asking = 512
block_size_of (Taking port size last) = size
block_size_of Over = 512

-- the number of the last block taken
abbrev pub last_of : Phase → ℕ
last_of Asking = 0
last_of (Taking port size last) = last
last_of Over = 0

abbrev pub transfer_has_ended : Phase → Bool
transfer_has_ended Asking = false
transfer_has_ended (Taking port size last) = false
transfer_has_ended Over = true

-- before a port is fixed, each is the server's
abbrev pub from_server : Option ℕ → ℕ → Bool
from_server fixed port = option_map_or (λ p. p == port) fixed true

-- the sizes that can be agreed: 8 is the least of RFC 2348, 1,432 is what is asked for
abbrev pub is_block_size : ℕ → Bool
is_block_size size = nat_le 8 size && nat_le size 1432

-- the end that a block makes: a short one is the last, and no block follows number 65,535
abbrev pub end_of_block : ℕ → ℕ → ℕ → Option Cause
end_of_block size n len = if nat_lt len size then Some ok_cause else (if n == 65535 then Some too_many_blocks else None)

-- the next block comes from this port in its full size, and more can follow it
abbrev pub awaits_full : Phase → ℕ → ℕ → ℕ → Bool
awaits_full Asking from n len = false
awaits_full (Taking port size last) from n len = port == from && (size == len && (nat_lt n 65535 && n == last + 1))
awaits_full Over from n len = false

-- a block from the server: the next one is taken, unless it is too long, the last one is acknowledged again;
-- there is no block 0
abbrev pub block_decided : Option ℕ → ℕ → ℕ → ℕ → ℕ → List ℕ → Answer
block_decided fixed size last rec n bytes =
    if n == last + 1
    then (if nat_lt size (length bytes) then Ended (broken_block rec) else Taken n (length bytes) (end_of_block size n (length bytes)))
    else (if nat_lt 0 n && (is_some fixed && last == n) then Again n else Ignored)

-- an OACK from the server that states a size: the first is agreed to or declined, a later one is acknowledged again
-- before block 1
abbrev pub grant_decided : Option ℕ → ℕ → ℕ → ℕ → Answer
grant_decided fixed last rec size =
    if is_some fixed
    then (if last == 0 then Again 0 else Ignored)
    else (if is_block_size size then Agreed size else Declined rec)

-- a packet that isn't the server's is told so; where no option was asked for, an OACK is nobody's
abbrev pub packet_decided : Bool → Option ℕ → ℕ → ℕ → ℕ → ℕ → Message → Answer
packet_decided options fixed size last rec port (block n bytes) = if from_server fixed port then block_decided fixed size last rec n bytes else Stranger
packet_decided options fixed size last rec port (error code text) = if from_server fixed port then Ended (refused_by rec code) else Stranger
packet_decided options fixed size last rec port (rrq path asked) = if from_server fixed port then Ignored else Stranger
packet_decided options fixed size last rec port (ack n) = if from_server fixed port then Ignored else Stranger
packet_decided options fixed size last rec port (oack blksize tsize) =
    if options
    then (if from_server fixed port then grant_decided fixed last rec (unwrap_or blksize 512) else Stranger)
    else Ignored
