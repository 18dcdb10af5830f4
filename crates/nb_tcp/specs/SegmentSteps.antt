-- RFC 9293, section 3.10.7: what a segment makes of a connection
use Rattle.std.specs.Prelude.{◌≡◌, ◌<◌, ℕ, ◌+◌, ◌^◌, true, false, drop, length, Some}
use Rattle.nb_retry.specs.declared.plan.Plan.TheVariants.{Probe}
use Rattle.nb_retry.specs.Timer.{started}
use Rattle.nb_terms.specs.declared.acts.Acts.{Acts}
use Rattle.nb_reasm.specs.declared.held.Held.{Held}
use Rattle.nb_reasm.specs.HeldWindows.{window}
use Rattle.nb_streams.specs.Segments.{Incoming, ahead}
use Rattle.nb_tcp.specs.declared.conn.Conn.{Conn}
use Rattle.nb_tcp.specs.declared.conn.ConnState.{ConnState}
use Rattle.nb_tcp.specs.declared.conn.ConnState.TheVariants.{SynSent, Established, Ended}
use Rattle.nb_tcp.specs.declared.variables.Variables.{Variables}
use Rattle.nb_tcp.specs.declared.variables.Verdict.{Verdict}
use Rattle.nb_tcp.specs.declared.variables.Verdict.TheVariants as verdict
use Rattle.nb_tcp.specs.InOrder.{is_next}
use Rattle.nb_tcp.specs.Numbers.{with_ack, breached, judged}
use Rattle.nb_tcp.specs.Receiving.{Receives, IsBareAt, WindowMovesOn}
use Rattle.nb_tcp.specs.Replies.{syn_answered, syn_answer_acts, syn_answer_state, syn_answer_retry, only_ready, also_sending, also_over, refused_in, ack_of_variables, ended_at, acknowledging, grown_acts, taken_acts, breach_state, breach_retry}

-- a taken segment: its bytes are held, what it acknowledges is forgotten, and it is answered
pub record TakesSegment (old : Conn) (v : Variables) (rec : ℕ) (s : Incoming) (now : ℕ) (new : Conn) (acts : Acts) : Type 0 where
  pub received : Variables
  pub receives : Receives v s old.held new.held received
  pub unacked : new.unacked.items ≡ drop (ahead v.acked (with_ack received s).acked) old.unacked.items
  pub acts_are : acts ≡ taken_acts old.link v (with_ack received s) old.given new.unacked.items rec s
  pub state : new.state ≡ breach_state v (with_ack received s) old.given s (breached v s)
  pub retry : new.retry ≡ breach_retry v (with_ack received s) old.given s now (breached v s) old.retry
  pub link : new.link ≡ old.link
  pub given : new.given ≡ old.given

abbrev pub FollowsVerdict : Conn → Variables → ℕ → Incoming → ℕ → Verdict → Conn → Acts → Type 0
FollowsVerdict old v rec s now verdict.Reset new acts = (new ≡ record old { state = ended_at v }) × (acts ≡ also_over (refused_in rec) (only_ready false))
FollowsVerdict old v rec s now verdict.Taken new acts = TakesSegment old v rec s now new acts
FollowsVerdict old v rec s now verdict.Answered new acts = (new ≡ old) × (acts ≡ also_sending old.link (ack_of_variables v) (only_ready false))
FollowsVerdict old v rec s now verdict.Dropped new acts = (new ≡ old) × (acts ≡ only_ready false)

-- by how far the connection is
abbrev pub FollowsState : Conn → ConnState → ℕ → Incoming → ℕ → Conn → Acts → Type 0
FollowsState old SynSent rec s now new acts =
    (new ≡ record old { state = syn_answer_state old.link old.given s (syn_answered old.link.isn s); retry = syn_answer_retry old.link old.given s now (syn_answered old.link.isn s) old.retry })
    × (acts ≡ syn_answer_acts old.link old.given old.unacked.items rec s (syn_answered old.link.isn s))
FollowsState old (Established v) rec s now new acts = FollowsVerdict old v rec s now (judged v s) new acts
FollowsState old (Ended at_end) rec s now new acts = (new ≡ old) × (acts ≡ only_ready false)

-- a segment whose bytes come next, while nothing is held: it is taken, and the window moves on over its bytes
pub record HandsBodyOn (old : Conn) (s : Incoming) (now : ℕ) (new : Conn) (acts : Acts) : Type 0 where
  pub variables : Variables
  pub state_was : old.state ≡ Established variables
  pub next : is_next variables old.given s ≡ true
  pub low : old.given < 2 ^ 32
  pub some : 0 < length s.body
  pub was : Held
  pub held_was : old.held ≡ Some was
  pub bare : IsBareAt (window was) variables.next
  pub left : Held
  pub held : new.held ≡ Some left
  pub moves : WindowMovesOn (window was) (length s.body) (window left)
  pub state : new.state ≡ Established (record variables { next = variables.next + length s.body; room = s.window })
  pub unacked : new.unacked.items ≡ old.unacked.items
  pub acts_are : acts ≡ acknowledging old.link (record variables { next = variables.next + length s.body; room = s.window }) s (grown_acts variables.next (variables.next + length s.body))
  pub retry : new.retry ≡ started now Probe
  pub link : new.link ≡ old.link
  pub given : new.given ≡ old.given
