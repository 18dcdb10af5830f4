-- RFC 9293, section 3.3.1: what a segment makes of a connection's variables, and what is sent of them
use Rattle.std.specs.Prelude.{ℕ, ◌+◌, ◌-◌, ◌%◌, ◌^◌, ◌==◌, ◌&&◌, ◌||◌, min, max, Bool, List, [], length, take, drop, Option, Some, None, nat_lt, nat_le, if◌then◌else◌}
use Rattle.std.specs.Option.{option_map_or, unwrap_or}
use Rattle.nb_streams.specs.Segments.{Incoming, ahead}
use Rattle.nb_streams.specs.Streams.{HeldBytes, nothing_held, first_stop, is_stop}
use Rattle.nb_streams.specs.Flows.{Flow, full_window, is_beyond, is_current, advance_of, is_other}
use Rattle.nb_streams.specs.Sending.{Outgoing, wrapped}
use Rattle.nb_tcp.specs.declared.variables.Variables.{Variables}
use Rattle.nb_tcp.specs.declared.variables.Verdict.{Verdict}
use Rattle.nb_tcp.specs.declared.variables.Verdict.TheVariants as verdict
use Rattle.nb_tcp.specs.declared.variables.Breach.{Breach}
use Rattle.nb_tcp.specs.declared.variables.Breach.TheVariants as breach

-- the connection that has these variables, what is held and the whole text
abbrev pub flow_of : Variables → HeldBytes → List ℕ → Flow
flow_of v h text = record { ours = v.iss + 1; theirs = v.irs + 1; held = h; text = text; acked = v.acked; upto = v.upto; sent = v.sent; mss = v.mss; room = v.room }

-- what doesn't depend on the bytes is the same without them
abbrev pub bare_flow : Variables → Flow
bare_flow v = flow_of v nothing_held []

abbrev pub opened_variables : ℕ → Incoming → Variables
opened_variables iss s = record { iss = iss; irs = s.number; next = 0; stop = None; acked = 0; upto = 0; sent = 0; mss = option_map_or (λ m. m) s.mss 536; room = s.window }

-- how far a number is ahead of the next place of the peer's stream
abbrev pub distance_of : Variables → ℕ → ℕ
distance_of v number = ahead (v.irs + 1 + v.next) number

-- a reset counts at the next place alone
abbrev pub judged_reset : ℕ → Verdict
judged_reset distance = if distance == 0 then verdict.Reset else (if nat_lt distance full_window then verdict.Answered else verdict.Dropped)

abbrev pub judged : Variables → Incoming → Verdict
judged v s =
    if s.rst then judged_reset (distance_of v s.number)
    else (if s.syn then verdict.Answered else (if s.ack then (if is_beyond (bare_flow v) s then verdict.Answered else verdict.Taken) else verdict.Dropped))

-- the place of the segment's FIN; no place is above the greatest number
abbrev pub found_stop : Variables → Incoming → Option ℕ
found_stop v s =
    if s.fin
    then (if nat_le (distance_of v (s.number + length s.body)) full_window then Some (min (v.next + distance_of v (s.number + length s.body)) (2 ^ 32 - 1)) else None)
    else None

abbrev pub with_stop : Variables → Incoming → Variables
with_stop v s = record v { stop = first_stop v.stop (found_stop v s) }

abbrev pub upto_stop : Option ℕ → ℕ → ℕ
upto_stop None n = n
upto_stop (Some stop) n = min n stop

abbrev pub with_next : Variables → ℕ → Variables
with_next v n = record v { next = upto_stop v.stop n }

abbrev pub with_ack : Variables → Incoming → Variables
with_ack v s = record v {
  acked = if is_current (bare_flow v) s then (v.acked + advance_of (bare_flow v) s) % 2 ^ 32 else v.acked;
  room = if is_current (bare_flow v) s then s.window else v.room;
}

-- the segment's bytes without those before the window, and the place of the first of them
abbrev pub piece_place : Variables → Incoming → ℕ
piece_place v s = if nat_lt (distance_of v s.number) full_window then min (v.next + distance_of v s.number) (2 ^ 32 - 1) else v.next

abbrev pub piece_bytes : Variables → Incoming → List ℕ
piece_bytes v s = if nat_lt (distance_of v s.number) full_window then s.body else drop (2 ^ 32 - distance_of v s.number) s.body

-- the places below the limit and the end count
abbrev pub counted_upto : Variables → ℕ
counted_upto v = min (unwrap_or v.stop (2 ^ 31 - 1)) (2 ^ 31 - 1)

abbrev pub kept_bytes : Variables → ℕ → List ℕ → List ℕ
kept_bytes v place bytes = take (counted_upto v - place) bytes

-- one of the segment's bytes in the window has no place below the limit
abbrev pub passes_limit : Variables → Incoming → Bool
passes_limit v s = nat_lt 0 (length (piece_bytes v s)) && nat_lt (2 ^ 31 - 1) (min (piece_place v s + length (piece_bytes v s)) (v.next + full_window))

abbrev pub breached : Variables → Incoming → Breach
breached v s = if passes_limit v s then breach.TooLong else (if is_other v.stop (found_stop v s) then breach.OtherStop else breach.None)

abbrev pub sends_more : Bool → ℕ → Variables → Bool
sends_more advanced given v = (advanced && nat_lt v.acked v.sent) || (v.acked == v.sent && nat_lt v.acked given)

abbrev pub segment_size : Variables → ℕ
segment_size v = min (min (max v.mss 1) (max v.room 1)) 1460

abbrev pub next_sending : ℕ → Variables → Variables
next_sending given v = record v { upto = min (v.acked + segment_size v) given; sent = max v.sent (min (v.acked + segment_size v) given) }

-- a FIN that was reached counts one
abbrev pub ack_number : Variables → ℕ
ack_number v = wrapped ((v.irs + 1) + (v.next + (if is_stop v.stop v.next then 1 else 0)))

-- a segment with a place of ours, and its flags
abbrev pub outgoing_at : ℕ → ℕ → List ℕ → ℕ → Variables → Outgoing
outgoing_at flags width bytes place v = record { number = wrapped (v.iss + 1 + place); acknowledges = ack_number v; flags = flags; window = width; mss = None; body = bytes }

-- one below the next number
abbrev pub probe_at : Variables → Outgoing
probe_at v = record (outgoing_at 16 full_window [] v.sent v) { number = ((v.iss + 1) + v.sent + (2 ^ 32 - 1)) % 2 ^ 32 }
