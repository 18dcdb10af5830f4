-- What a call of a transfer asks, whatever came before it: at most one message, by UDP, and a range of the body.
use Rattle.std.proofs.Common.{◌≡◌, ◌≤◌, ℕ, suc, ◌+◌, ◌==◌, List, length, Option, Some, None, false, refl, arith, lit≤, Bool}
use Rattle.std.specs.Option.{option_map_or}
use Rattle.nb_retry.specs.declared.retry.Due.{Due}
use Rattle.nb_retry.specs.declared.retry.Due.TheVariants.{Not, Again as TryAgain, Over as PlanOver}
use Rattle.nb_tftpmsg.specs.Packets.{Message}
use Rattle.nb_tftpmsg.specs.Reading.{packet_read}
use Rattle.nb_tftp.specs.declared.answer.Answer.{Answer}
use Rattle.nb_tftp.specs.declared.answer.Answer.TheVariants.{Ignored, Stranger, Again, Agreed, Declined, Taken, Ended}
use Rattle.nb_tftp.specs.declared.state.State.{State}
use Rattle.nb_tftp.specs.Asks.{Begun, nothing, acts_of, due_acts, range_of_block}
use Rattle.nb_tftp.specs.Steps.{begun_of, packet_acts, bytes_acts, tick_acts}
use Rattle.nb_tftp.specs.Decisions.{fixed_of, block_size_of, last_of, transfer_has_ended, from_server, packet_decided}
use Rattle.nb_tftp.specs.Received.{Received, received, packet_in, has_block_number}
use Rattle.nb_tftp.specs.Sound.{AreSoundActs, IsRange}
use Rattle.nb_tftp.proofs.BlockLemmas.{either_way}
use Rattle.nb_tftp.proofs.ReceivedLemmas.{and_left}
use Rattle.nb_tftp.proofs.AnswerLemmas.{Means, means}
use Rattle.nb_tftp.proofs.PlainLaws.{block_length}
use Rattle.nb_retry.specs.Timer.{due_at}

pub nothing_sound : (k : ℕ) → AreSoundActs k nothing
nothing_sound k = record { few = lit≤ tt; udp = tt; range = tt }

range_sound : (len k : ℕ) → 4 + len ≤ k → IsRange (range_of_block len) k
range_sound len k h = either_way (len == 0) (λ none. rw none tt) (λ some. rw some (omega arith, h))

answer_sound : (opts : Bool) (b : Begun) (fixed : Option ℕ) (size last : ℕ) (m : Received) (a : Answer) → Means opts fixed size last m.port (packet_in m) a → AreSoundActs (length m.body) (acts_of b m.port a)
answer_sound opts b fixed size last m Ignored means = nothing_sound (length m.body)
answer_sound opts b fixed size last m Stranger means = record { few = lit≤ tt; udp = (refl, tt); range = tt }
answer_sound opts b fixed size last m (Again n) means = record { few = lit≤ tt; udp = (refl, tt); range = tt }
answer_sound opts b fixed size last m (Ended cause) means = record { few = lit≤ tt; udp = tt; range = tt }
answer_sound opts b fixed size last m (Agreed granted) means = record { few = lit≤ tt; udp = (refl, tt); range = tt }
answer_sound opts b fixed size last m (Declined rec) means = record { few = lit≤ tt; udp = (refl, tt); range = tt }
answer_sound opts b fixed size last m (Taken n len over) means =
    let all = block_length m (suc last) (and_left (option_map_or (has_block_number (suc last)) (packet_in m) false) (from_server fixed m.port) means.2) in
    let many = means.1 in
    record { few = lit≤ tt; udp = (refl, tt); range = range_sound len (length m.body) (omega arith) }

-- a packet's acts are those of the answer to it
decided_sound : (s : State) (m : Received) (p : Option Message) → p ≡ packet_in m →
    AreSoundActs (length m.body) (acts_of (begun_of s) m.port (option_map_or (packet_decided s.options (fixed_of s.phase) (block_size_of s.phase) (last_of s.phase) m.rec m.port) p Ignored)) →
    AreSoundActs (length m.body) (option_map_or (packet_acts s m.rec m.port) p nothing)
decided_sound s m None is sound = nothing_sound (length m.body)
decided_sound s m (Some packet) is sound =
    either_way (transfer_has_ended s.phase) (λ over. rw over (nothing_sound (length m.body))) (λ lives. rw lives sound)

pub bytes_sound : (s : State) (rec port : ℕ) (body : List ℕ) → AreSoundActs (length body) (bytes_acts s rec port body)
bytes_sound s rec port body =
    let m = received rec port body in
    decided_sound s m (packet_read body) refl (answer_sound s.options (begun_of s) (fixed_of s.phase) (block_size_of s.phase) (last_of s.phase) m _ (means s.options (fixed_of s.phase) (block_size_of s.phase) (last_of s.phase) rec port (packet_read body)))

due_sound : (b : Begun) (fixed : Option ℕ) (last : ℕ) (due : Due) → AreSoundActs 0 (due_acts b fixed last due)
due_sound b fixed last Not = nothing_sound 0
due_sound b None last (TryAgain n) = record { few = lit≤ tt; udp = (refl, tt); range = tt }
due_sound b (Some port) last (TryAgain n) = record { few = lit≤ tt; udp = (refl, tt); range = tt }
due_sound b fixed last PlanOver = record { few = lit≤ tt; udp = tt; range = tt }

pub tick_sound : (s : State) (now : ℕ) → AreSoundActs 0 (tick_acts s now)
tick_sound s now =
    either_way (transfer_has_ended s.phase) (λ over. rw over (nothing_sound 0))
    (λ lives. rw lives (due_sound (begun_of s) (fixed_of s.phase) (last_of s.phase) (due_at s.retry now)))
