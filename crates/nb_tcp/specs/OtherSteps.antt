-- RFC 9293, section 3.10: what a time, more text and a close make of a connection
use Rattle.std.specs.Prelude.{◌≡◌, ℕ, ◌+◌, ◌^◌, ◌<◌, Bool, true, false, List, ◌++◌, length, Some, if◌then◌else◌}
use Rattle.nb_retry.specs.declared.plan.Plan.{Plan}
use Rattle.nb_retry.specs.declared.retry.Due.{Due}
use Rattle.nb_retry.specs.declared.retry.Due.TheVariants.{Not, Again, Over}
use Rattle.nb_retry.specs.Timer.{due_at, after as timer_after_asking}
use Rattle.nb_terms.specs.declared.acts.Acts.{Acts}
use Rattle.nb_streams.specs.Endings.{end_cause, plan_tries}
use Rattle.nb_tcp.specs.declared.link.Link.{Link}
use Rattle.nb_tcp.specs.declared.conn.Conn.{Conn}
use Rattle.nb_tcp.specs.declared.conn.ConnState.{ConnState}
use Rattle.nb_tcp.specs.declared.conn.ConnState.TheVariants.{Ended}
use Rattle.nb_tcp.specs.Replies.{only_ready, also_over, all_sending, sent_again, closing_sends, has_come_all, has_finished, given_acts, given_state, given_retry}
use Rattle.nb_tcp.specs.ConnStanding.{waits_in}

-- a time
abbrev pub conn_timer_acts : Link → List ℕ → ConnState → Plan → Acts → Due → Acts
conn_timer_acts l unacked state plan acts Not = acts
conn_timer_acts l unacked state plan acts (Again n) = record (all_sending l (sent_again l unacked state) acts) { tried = Some n }
conn_timer_acts l unacked state plan acts Over = also_over (end_cause 2 (plan_tries plan) 0) acts

abbrev pub timer_state : ConnState → Due → ConnState
timer_state state Not = state
timer_state state (Again n) = state
timer_state state Over = Ended (has_come_all state)

abbrev pub ticked_acts : Conn → ℕ → Acts
ticked_acts c now = if has_finished c.state then only_ready (waits_in c.held) else conn_timer_acts c.link c.unacked.items c.state c.retry.plan (only_ready (waits_in c.held)) (due_at c.retry now)

abbrev pub ticked_conn : Conn → ℕ → Conn
ticked_conn c now = if has_finished c.state then c else record c { retry = timer_after_asking c.retry now; state = timer_state c.state (due_at c.retry now) }

-- more text
pub record GivesText (old : Conn) (bytes : List ℕ) (now : ℕ) (new : Conn) (acts : Acts) : Type 0 where
  pub few : old.given + length bytes < 2 ^ 31
  pub unacked : new.unacked.items ≡ old.unacked.items ++ bytes
  pub given : new.given ≡ old.given + length bytes
  pub link : new.link ≡ old.link
  pub held : new.held ≡ old.held
  pub state : new.state ≡ given_state new.given old.state
  pub retry : new.retry ≡ given_retry new.given now old.state old.retry
  pub acts_are : acts ≡ given_acts old.link new.given new.unacked.items old.state (only_ready (waits_in old.held))

-- nothing changes but how much memory is taken
pub record SameConn (old : Conn) (new : Conn) : Type 0 where
  pub unacked : new.unacked.items ≡ old.unacked.items
  pub given : new.given ≡ old.given
  pub link : new.link ≡ old.link
  pub held : new.held ≡ old.held
  pub state : new.state ≡ old.state
  pub retry : new.retry ≡ old.retry

abbrev pub FollowsGiven : Bool → Conn → List ℕ → ℕ → Conn → Acts → Type 0
FollowsGiven true old bytes now new acts = SameConn old new × (acts ≡ only_ready (waits_in old.held))
FollowsGiven false old bytes now new acts = GivesText old bytes now new acts

-- a close from above
abbrev pub closed_acts : Conn → Acts
closed_acts c = all_sending c.link (closing_sends c.link c.state) (only_ready (waits_in c.held))

abbrev pub closed_conn : Conn → Conn
closed_conn c = record c { state = Ended (has_come_all c.state) }
