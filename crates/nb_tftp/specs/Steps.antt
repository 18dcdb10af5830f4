-- One call of a transfer: what it asks, and what it is afterwards. What this amounts to over all calls
-- is said in Sentences.
use Rattle.std.specs.Prelude.{ℕ, Bool, List, if◌then◌else◌}
use Rattle.std.specs.Option.{option_map_or, is_none}
use Rattle.nb_retry.specs.declared.plan.Plan.TheVariants.{Common}
use Rattle.nb_retry.specs.declared.retry.Due.{Due}
use Rattle.nb_retry.specs.declared.retry.Due.TheVariants.{Not, Again as TryAgain, Over as PlanOver}
use Rattle.nb_retry.specs.Timer.{started, due_at, after}
use Rattle.nb_terms.specs.declared.acts.Acts.{Acts}
use Rattle.nb_tftpmsg.specs.Packets.{Message}
use Rattle.nb_tftpmsg.specs.Reading.{packet_read}
use Rattle.nb_tftp.specs.declared.answer.Answer.{Answer}
use Rattle.nb_tftp.specs.declared.answer.Answer.TheVariants.{Ignored, Stranger, Again, Agreed, Declined, Taken, Ended}
use Rattle.nb_tftp.specs.declared.answer.Phase.TheVariants.{Asking, Taking, Over}
use Rattle.nb_tftp.specs.declared.state.State.{State}
use Rattle.nb_tftp.specs.Asks.{Begun, nothing, acts_of, due_acts}
use Rattle.nb_tftp.specs.Decisions.{fixed_of, block_size_of, last_of, transfer_has_ended, packet_decided}

abbrev pub begun_of : State → Begun
begun_of state = record { server = state.server; port = state.port; own_port = state.own_port; request = state.request.items }

abbrev pub first_state : Bool → Begun → ℕ → State
first_state options b now =
    record { server = b.server; port = b.port; own_port = b.own_port; options = options; request = record { items = b.request }; phase = Asking; retry = started now Common }

-- the state after an answer to a packet from a port
abbrev pub state_after_answer : State → ℕ → Answer → ℕ → State
state_after_answer state port (Agreed size) now = record state { phase = Taking port size 0; retry = started now Common }
state_after_answer state port (Declined rec) now = record state { phase = Over }
state_after_answer state port (Taken n len over) now =
    if is_none over
    then record state { phase = Taking port (block_size_of state.phase) n; retry = started now Common }
    else record state { phase = Over }
state_after_answer state port (Ended cause) now = record state { phase = Over }
state_after_answer state port Ignored now = state
state_after_answer state port Stranger now = state
state_after_answer state port (Again n) now = state

abbrev pub answer_of : State → ℕ → ℕ → Message → Answer
answer_of state rec port packet =
    packet_decided state.options (fixed_of state.phase) (block_size_of state.phase) (last_of state.phase) rec port packet

-- a packet
abbrev pub packet_acts : State → ℕ → ℕ → Message → Acts
packet_acts state rec port packet = if transfer_has_ended state.phase then nothing else acts_of (begun_of state) port (answer_of state rec port packet)

abbrev pub after_packet : State → ℕ → ℕ → Message → ℕ → State
after_packet state rec port packet now = if transfer_has_ended state.phase then state else state_after_answer state port (answer_of state rec port packet) now

-- any datagram's bytes; what is no packet is ignored
abbrev pub bytes_acts : State → ℕ → ℕ → List ℕ → Acts
bytes_acts state rec port bytes = option_map_or (packet_acts state rec port) (packet_read bytes) nothing

abbrev pub after_bytes : State → ℕ → ℕ → List ℕ → ℕ → State
after_bytes state rec port bytes now = option_map_or (λ packet. after_packet state rec port packet now) (packet_read bytes) state

-- the state after the timer's answer
abbrev pub after_due : State → Due → State
after_due state Not = state
after_due state (TryAgain n) = state
after_due state PlanOver = record state { phase = Over }

-- a time
abbrev pub tick_acts : State → ℕ → Acts
tick_acts state now = if transfer_has_ended state.phase then nothing else due_acts (begun_of state) (fixed_of state.phase) (last_of state.phase) (due_at state.retry now)

abbrev pub after_tick : State → ℕ → State
after_tick state now = if transfer_has_ended state.phase then state else after_due (record state { retry = after state.retry now }) (due_at state.retry now)
