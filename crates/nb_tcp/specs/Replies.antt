-- RFC 9293, section 3.10: what each call of a connection asks and leaves, by its variables
use Rattle.std.specs.Prelude.{ℕ, ◌+◌, ◌-◌, ◌==◌, not, ◌&&◌, min, Bool, true, false, List, [], ◌∷◌, ◌++◌, take, Some, None, nat_lt, if◌then◌else◌}
use Rattle.nb_retry.specs.declared.plan.Plan.TheVariants.{Common, Probe}
use Rattle.nb_retry.specs.declared.retry.Retry.{Retry}
use Rattle.nb_retry.specs.Timer.{started}
use Rattle.nb_terms.specs.declared.acts.Acts.{Acts}
use Rattle.nb_terms.specs.declared.cause.Cause.{Cause}
use Rattle.nb_streams.specs.Segments.{Incoming}
use Rattle.nb_streams.specs.Streams.{is_stop}
use Rattle.nb_streams.specs.Flows.{full_window, advances, answers_syn}
use Rattle.nb_streams.specs.Sending.{Outgoing, wrapped, brings_more, syn, rst_asking, rst_for, has_stop}
use Rattle.nb_streams.specs.Endings.{end_cause}
use Rattle.nb_tcp.specs.declared.link.Link.{Link}
use Rattle.nb_tcp.specs.declared.variables.Variables.{Variables}
use Rattle.nb_tcp.specs.declared.variables.Breach.{Breach}
use Rattle.nb_tcp.specs.declared.variables.Breach.TheVariants as breach
use Rattle.nb_tcp.specs.declared.syn_answer.SynAnswer.{SynAnswer}
use Rattle.nb_tcp.specs.declared.syn_answer.SynAnswer.TheVariants as syn_answer
use Rattle.nb_tcp.specs.declared.conn.ConnState.{ConnState}
use Rattle.nb_tcp.specs.declared.conn.ConnState.TheVariants.{SynSent, Established, Ended}
use Rattle.nb_tcp.specs.Numbers.{bare_flow, sends_more, next_sending, outgoing_at, probe_at, breached, opened_variables}
use Rattle.nb_tcp.specs.Messages.{outgoing_message}

-- nothing is asked, but that what waits is to be lent
abbrev pub only_ready : Bool → Acts
only_ready ready = record { sends = record { items = [] }; tried = None; advance = None; give = None; ready = ready; over = None }

abbrev pub also_sending : Link → Outgoing → Acts → Acts
also_sending l o acts = record acts { sends = record { items = acts.sends.items ++ outgoing_message l o ∷ [] } }

abbrev pub also_over : Cause → Acts → Acts
also_over cause acts = record acts { over = Some cause }

abbrev pub first_tried : Acts → Acts
first_tried acts = record acts { tried = Some 1 }

-- the segment that waits to be acknowledged
abbrev pub unacked_text : Variables → List ℕ → Outgoing
unacked_text v unacked = outgoing_at 24 full_window (take (min (v.upto - v.acked) 1460) unacked) v.acked v

abbrev pub ack_of_variables : Variables → Outgoing
ack_of_variables v = outgoing_at 16 full_window [] v.sent v

-- what has come is acknowledged, without the one for a FIN
abbrev pub conn_reset : Variables → Outgoing
conn_reset v = record (outgoing_at 20 0 [] v.sent v) { acknowledges = wrapped (v.irs + 1 + v.next) }

-- the text goes on, where a new segment is to begin
abbrev pub went_on : Bool → ℕ → Variables → Variables
went_on advanced given v = if sends_more advanced given v then next_sending given v else v

abbrev pub ongoing_acts : Link → Bool → ℕ → Variables → List ℕ → Acts → Acts
ongoing_acts l advanced given v unacked acts = if sends_more advanced given v then first_tried (also_sending l (unacked_text (next_sending given v) unacked) acts) else acts

abbrev pub ongoing_retry : Bool → ℕ → Variables → ℕ → Retry → Retry
ongoing_retry advanced given v now r = if sends_more advanced given v then started now Common else (if v.acked == v.sent then started now Probe else r)

-- the place, where it grew, and that bytes wait
abbrev pub grown_acts : ℕ → ℕ → Acts
grown_acts before after = record (only_ready (not (before == after))) { advance = if before == after then None else Some after }

abbrev pub acknowledging : Link → Variables → Incoming → Acts → Acts
acknowledging l after s acts = if brings_more s then also_sending l (ack_of_variables after) acts else acts

-- a taken segment, with the variables before and after it, and what of the text isn't acknowledged then
abbrev pub breach_acts : Link → Variables → Variables → ℕ → List ℕ → ℕ → Incoming → Breach → Acts → Acts
breach_acts l v after given unacked rec s breach.TooLong acts = also_over (end_cause 5 3 0) (also_sending l (conn_reset after) acts)
breach_acts l v after given unacked rec s breach.OtherStop acts = also_over (end_cause 3 rec 0) (ongoing_acts l (advances (bare_flow v) s) given after unacked acts)
breach_acts l v after given unacked rec s breach.None acts = ongoing_acts l (advances (bare_flow v) s) given after unacked acts

abbrev pub taken_acts : Link → Variables → Variables → ℕ → List ℕ → ℕ → Incoming → Acts
taken_acts l v after given unacked rec s = breach_acts l v after given unacked rec s (breached v s) (acknowledging l after s (grown_acts v.next after.next))

abbrev pub ended_at : Variables → ConnState
ended_at v = Ended (is_stop v.stop v.next)

abbrev pub breach_state : Variables → Variables → ℕ → Incoming → Breach → ConnState
breach_state v after given s breach.TooLong = ended_at after
breach_state v after given s breach.OtherStop = ended_at after
breach_state v after given s breach.None = Established (went_on (advances (bare_flow v) s) given after)

abbrev pub breach_retry : Variables → Variables → ℕ → Incoming → ℕ → Breach → Retry → Retry
breach_retry v after given s now breach.TooLong r = r
breach_retry v after given s now breach.OtherStop r = ongoing_retry (advances (bare_flow v) s) given after now r
breach_retry v after given s now breach.None r = ongoing_retry (advances (bare_flow v) s) given after now r

-- a segment before the connection is established
abbrev pub refused_in : ℕ → Cause
refused_in rec = end_cause 1 rec 65535

-- what a segment means before the connection is established
abbrev pub syn_answered : ℕ → Incoming → SynAnswer
syn_answered isn s =
    if answers_syn isn s then (if s.rst then syn_answer.Refuses else (if s.syn then syn_answer.Establishes else syn_answer.Nothing))
    else (if s.ack && not s.rst then syn_answer.Wrong else syn_answer.Nothing)

abbrev pub established_acts : Link → ℕ → List ℕ → Incoming → Acts
established_acts l given unacked s =
    ongoing_acts l false given (opened_variables l.isn s) unacked (also_sending l (ack_of_variables (opened_variables l.isn s)) (only_ready false))

abbrev pub syn_answer_acts : Link → ℕ → List ℕ → ℕ → Incoming → SynAnswer → Acts
syn_answer_acts l given unacked rec s syn_answer.Establishes = established_acts l given unacked s
syn_answer_acts l given unacked rec s syn_answer.Refuses = also_over (refused_in rec) (only_ready false)
syn_answer_acts l given unacked rec s syn_answer.Wrong = also_sending l (rst_for s) (only_ready false)
syn_answer_acts l given unacked rec s syn_answer.Nothing = only_ready false

abbrev pub syn_answer_state : Link → ℕ → Incoming → SynAnswer → ConnState
syn_answer_state l given s syn_answer.Establishes = Established (went_on false given (opened_variables l.isn s))
syn_answer_state l given s syn_answer.Refuses = Ended false
syn_answer_state l given s syn_answer.Wrong = SynSent
syn_answer_state l given s syn_answer.Nothing = SynSent

abbrev pub syn_answer_retry : Link → ℕ → Incoming → ℕ → SynAnswer → Retry → Retry
syn_answer_retry l given s now syn_answer.Establishes r = ongoing_retry false given (opened_variables l.isn s) now r
syn_answer_retry l given s now syn_answer.Refuses r = r
syn_answer_retry l given s now syn_answer.Wrong r = r
syn_answer_retry l given s now syn_answer.Nothing r = r

-- what is sent again when a try is due, and what a close sends
abbrev pub sent_again : Link → List ℕ → ConnState → List Outgoing
sent_again l unacked SynSent = syn l.isn ∷ []
sent_again l unacked (Established v) = (if nat_lt v.acked v.sent then unacked_text v unacked else probe_at v) ∷ []
sent_again l unacked (Ended at_end) = []

abbrev pub closing_sends : Link → ConnState → List Outgoing
closing_sends l SynSent = rst_asking l.isn ∷ []
closing_sends l (Established v) = (if has_stop v.stop then outgoing_at 17 full_window [] v.sent v else conn_reset v) ∷ []
closing_sends l (Ended at_end) = []

abbrev pub all_sending : Link → List Outgoing → Acts → Acts
all_sending l [] acts = acts
all_sending l (o ∷ os) acts = all_sending l os (also_sending l o acts)

abbrev pub has_come_all : ConnState → Bool
has_come_all SynSent = false
has_come_all (Established v) = is_stop v.stop v.next
has_come_all (Ended at_end) = at_end

abbrev pub has_finished : ConnState → Bool
has_finished SynSent = false
has_finished (Established v) = false
has_finished (Ended at_end) = true

-- more text was given
abbrev pub given_acts : Link → ℕ → List ℕ → ConnState → Acts → Acts
given_acts l given unacked SynSent acts = acts
given_acts l given unacked (Established v) acts = if sends_more false given v then first_tried (also_sending l (unacked_text (next_sending given v) unacked) acts) else acts
given_acts l given unacked (Ended at_end) acts = acts

abbrev pub given_state : ℕ → ConnState → ConnState
given_state given SynSent = SynSent
given_state given (Established v) = Established (went_on false given v)
given_state given (Ended at_end) = Ended at_end

abbrev pub given_retry : ℕ → ℕ → ConnState → Retry → Retry
given_retry given now SynSent r = r
given_retry given now (Established v) r = if sends_more false given v then started now Common else r
given_retry given now (Ended at_end) r = r
