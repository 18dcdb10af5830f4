-- What a transfer asks of its caller
use Rattle.std.specs.Prelude.{ℕ, ◌+◌, ◌==◌, Bool, true, false, List, [], ◌∷◌, Option, Some, None, if◌then◌else◌}
use Rattle.std.specs.Option.{option_map_or, is_none}
use Rattle.arrayvec.specs.ArrayVec.{ArrayVec}
use Rattle.nb_terms.specs.declared.acts.Acts.{Acts}
use Rattle.nb_terms.specs.declared.acts.SendTo.{SendTo}
use Rattle.nb_terms.specs.declared.cause.Cause.{Cause}
use Rattle.nb_wire.specs.declared.address.Ip4.{Ip4}
use Rattle.nb_tftpmsg.specs.Packets.{rrq, ack, error, packet_text}
use Rattle.nb_tftp.specs.declared.answer.Answer.{Answer}
use Rattle.nb_tftp.specs.declared.answer.Answer.TheVariants.{Ignored, Stranger, Again, Agreed, Declined, Taken, Ended}
use Rattle.nb_retry.specs.declared.retry.Due.{Due}
use Rattle.nb_retry.specs.declared.retry.Due.TheVariants.{Not, Again as TryAgain, Over as PlanOver}
use Rattle.nb_tftp.specs.Ends.{broken_block, timed_out}

-- what a transfer was begun with: the server, the port that is asked, our own port, and the request's packet
pub record Begun : Type 0 where
  pub server : Ip4
  pub port : ℕ
  pub own_port : ℕ
  pub request : List ℕ

-- with a request for a path, with or without options
abbrev pub begun_asking : Bool → Ip4 → ℕ → ℕ → List ℕ → Begun
begun_asking options server port own_port path =
    record { server = server; port = port; own_port = own_port; request = packet_text (rrq path options) }

-- with options
abbrev pub begun : Ip4 → ℕ → ℕ → List ℕ → Begun
begun server port own_port path = begun_asking true server port own_port path

-- a UDP datagram to a port of the server
abbrev pub datagram : Begun → ℕ → List ℕ → SendTo
datagram b port body = record { proto = 17; to = b.server; to_port = port; own_port = b.own_port; body = record { items = body } }

abbrev pub ack_of : Begun → ℕ → ℕ → SendTo
ack_of b port n = datagram b port (packet_text (ack n))

-- "unknown transfer ID", with an empty text
abbrev pub stranger : Begun → ℕ → SendTo
stranger b port = datagram b port (packet_text (error 5 []))

-- "options refused", with an empty text (RFC 2347)
abbrev pub declining : Begun → ℕ → SendTo
declining b port = datagram b port (packet_text (error 8 []))

-- the request, or the last block's acknowledgement, which has number 0 before there is one
abbrev pub last_message : Begun → Option ℕ → ℕ → SendTo
last_message b fixed last = option_map_or (λ port. ack_of b port last) fixed (datagram b b.port b.request)

abbrev pub one_send : SendTo → ArrayVec SendTo
one_send send = record { items = send ∷ [] }

abbrev pub nothing : Acts
nothing = record { sends = record { items = [] }; tried = None; advance = None; give = None; ready = false; over = None }

abbrev pub sending : SendTo → Option ℕ → Acts
sending send tried = record { sends = one_send send; tried = tried; advance = None; give = None; ready = false; over = None }

abbrev pub ended_by : Cause → Acts
ended_by cause = record { sends = record { items = [] }; tried = None; advance = None; give = None; ready = false; over = Some cause }

-- an error is sent, and the transfer ends
abbrev pub ended_with : SendTo → Cause → Acts
ended_with send cause = record { sends = one_send send; tried = None; advance = None; give = None; ready = false; over = Some cause }

-- where a block's bytes stand in its packet, if there are any
abbrev pub range_of_block : ℕ → Option (ℕ × ℕ)
range_of_block len = if len == 0 then None else Some (4, 4 + len)

-- a block is taken: it is acknowledged, under a timer where more come, and its bytes go up
abbrev pub taken : SendTo → ℕ → ℕ → Option Cause → Acts
taken send n len over =
    record { sends = one_send send; tried = if is_none over then Some 1 else None; advance = Some n; give = range_of_block len; ready = false; over = over }

-- what an answer to a packet from a port asks
abbrev pub acts_of : Begun → ℕ → Answer → Acts
acts_of b port Ignored = nothing
acts_of b port Stranger = sending (stranger b port) None
acts_of b port (Again n) = sending (ack_of b port n) None
acts_of b port (Agreed size) = sending (ack_of b port 0) (Some 1)
acts_of b port (Declined rec) = ended_with (declining b port) (broken_block rec)
acts_of b port (Taken n len over) = taken (ack_of b port n) n len over
acts_of b port (Ended cause) = ended_by cause

-- what the timer's answer asks: the last message again, or the end
abbrev pub due_acts : Begun → Option ℕ → ℕ → Due → Acts
due_acts b fixed last Not = nothing
due_acts b fixed last (TryAgain n) = sending (last_message b fixed last) (Some n)
due_acts b fixed last PlanOver = ended_by timed_out
