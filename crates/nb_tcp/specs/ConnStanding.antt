-- What a connection stands for: all the calls since its start
use Rattle.std.specs.Prelude.{◌≡◌, ◌≤◌, ◌<◌, ℕ, ◌+◌, ◌^◌, Bool, true, false, List, [], ◌∷◌, ◌++◌, length, take, drop, map, Option, Some, None, nat_lt, slice_index, ◌-◌}
use Rattle.std.specs.Option.{is_some}
use Rattle.nb_retry.specs.Calls.{TimerStands}
use Rattle.nb_retry.specs.Plans.{Asked}
use Rattle.nb_retry.specs.declared.plan.Plan.TheVariants.{Common}
use Rattle.nb_retry.specs.declared.retry.Retry.{Retry}
use Rattle.nb_retry.specs.Timer.{started}
use Rattle.nb_reasm.specs.declared.held.Held.{Held}
use Rattle.nb_reasm.specs.HeldWindows.{window}
use Rattle.nb_reasm.specs.Windows.{HeldWindow, NextIsLeast}
use Rattle.nb_streams.specs.Streams.{HeldBytes, byte_at, before_stop, front, next, has_ended}
use Rattle.nb_streams.specs.Flows.{full_window, ConnPhase, asking, flowing, conn_phase, held_after}
use Rattle.nb_streams.specs.Trying.{TryTimer, timer_after}
use Rattle.nb_tcp.specs.declared.link.Link.{Link}
use Rattle.nb_tcp.specs.declared.conn.Conn.{Conn}
use Rattle.nb_tcp.specs.declared.conn.ConnState.{ConnState}
use Rattle.nb_tcp.specs.declared.conn.ConnState.TheVariants.{SynSent, Established, Ended}
use Rattle.nb_tcp.specs.declared.variables.Variables.{Variables}
use Rattle.nb_tcp.specs.Numbers.{flow_of, upto_stop}
use Rattle.nb_tcp.specs.Replies.{only_ready, has_finished, has_come_all}
use Rattle.nb_tcp.specs.ConnHistory.{ConnEntry, conn_entry, lends_out, tcp_calls, advanced_to, delivered, is_waiting_after, is_lent_after, has_ended_after}
use Rattle.nb_tcp.specs.ConnPromises.{ConnKeeps}

-- the window holds what has come from its base on, as far as it counts
pub record WindowStands (w : HeldWindow) (h : HeldBytes) : Type 0 where
  pub size : w.size ≡ full_window
  pub least : NextIsLeast w
  pub most : w.next < 2 ^ 31
  pub next : next h ≡ upto_stop h.stop w.next
  pub at : (p : ℕ) → w.base ≤ p → p < 2 ^ 31 - 1 → before_stop h.stop p ≡ true → w.at p ≡ byte_at p h.pairs
  pub above : (p : ℕ) → 2 ^ 31 - 1 ≤ p → w.at p ≡ None

abbrev pub waits_in : Option Held → Bool
waits_in None = false
waits_in (Some h) = nat_lt (window h).base (window h).next

-- The bytes of a lent window that go up: those from its base on that lie below a place.
pub record GoesUp (w : HeldWindow) (place : ℕ) (bytes : List ℕ) : Type 0 where
  pub len : length bytes ≡ place - w.base
  pub each : (k : ℕ) → k < length bytes → w.at (w.base + k) ≡ Some (slice_index bytes k)

-- it isn't lent, and all of its front was delivered
abbrev pub IsDelivered : Option Held → Type 0
IsDelivered None = ⊥
IsDelivered (Some h) = (window h).base ≡ (window h).next

-- what is before the window's base was delivered; while it is lent, all that has come
abbrev pub HoldsRest : Option Held → HeldBytes → List ℕ → Bool → Type 0
HoldsRest None h bytes lent = (lent ≡ true) × (bytes ≡ front h)
HoldsRest (Some w) h bytes lent = (lent ≡ false) × WindowStands (window w) h × (bytes ≡ take (window w).base (front h))

-- the variables are those of a connection with these held bytes and this text
pub record FlowStands (v : Variables) (h : HeldBytes) (text : List ℕ) (given : ℕ) (unacked : List ℕ) : Type 0 where
  pub next : v.next ≡ next h
  pub stop : v.stop ≡ h.stop
  pub in_all : given ≡ length text
  pub small : given < 2 ^ 31
  pub rest : unacked ≡ drop v.acked text
  pub few : v.upto ≤ v.acked + 1460

pub record FlowsSo (v : Variables) (given : ℕ) (unacked : List ℕ) (p : ConnPhase) : Type 0 where
  pub held : HeldBytes
  pub text : List ℕ
  pub phase : p ≡ flowing (flow_of v held text)
  pub stands : FlowStands v held text given unacked

pub record AsksSoFar (given : ℕ) (unacked : List ℕ) (p : ConnPhase) : Type 0 where
  pub phase : p ≡ asking unacked
  pub in_all : given ≡ length unacked
  pub small : given < 2 ^ 31

abbrev pub StateStands : ConnState → ℕ → List ℕ → ConnPhase → Type 0
StateStands SynSent given unacked p = AsksSoFar given unacked p
StateStands (Established v) given unacked p = FlowsSo v given unacked p
StateStands (Ended at_end) given unacked p = Unit {0}

-- the timer has run since the plan was started last
pub record TimerStandsFor (retry : Retry) (w : TryTimer) : Type 0 where
  pub calls : List Asked
  pub stands : TimerStands retry calls
  pub times : map (λ call. call.at) calls ≡ w.times
  pub since : retry.since ≡ w.since
  pub plan : retry.plan ≡ w.plan

-- A connection with these ends that was begun at a time stands for these calls with what they asked: they keep its
-- promises, it has ended exactly where one of them told so, and else it is what came made of it.
pub record ConnStands (l : Link) (start : ℕ) (c : Conn) (entries : List ConnEntry) : Type 0 where
  pub keeps : ConnKeeps l start entries
  pub link : c.link ≡ l
  pub over : has_finished c.state ≡ has_ended_after entries
  pub at_end : has_come_all c.state ≡ has_ended (held_after l.isn (tcp_calls entries))
  pub held : HoldsRest c.held (held_after l.isn (tcp_calls entries)) (delivered entries) (is_lent_after entries)
  pub waits : waits_in c.held ≡ is_waiting_after entries
  pub state : StateStands c.state c.given c.unacked.items (conn_phase l.isn (tcp_calls entries))
  pub timer : has_finished c.state ≡ false → TimerStandsFor c.retry (timer_after l.isn start (tcp_calls entries))

-- the next segment may come: nothing is lent, and all that waited was delivered
abbrev pub HasDelivered : Conn → Type 0
HasDelivered c = IsDelivered c.held

-- its window isn't lent
abbrev pub has_window : Conn → Bool
has_window c = is_some c.held

-- A call that brings nothing leaves the window as it was: lent or not, and delivered if it was.
pub record KeepsWindow (old new : Conn) : Type 0 where
  pub window : has_window new ≡ has_window old
  pub delivered : HasDelivered old → HasDelivered new

-- The window was lent by a connection that stood for these calls, and these bytes of it go up.
pub record IsLent (l : Link) (start : ℕ) (entries : List ConnEntry) (w : HeldWindow) (after : Conn) : Type 0 where
  pub bytes : List ℕ
  pub up : GoesUp w (advanced_to entries) bytes
  pub window_is : WindowStands w (held_after l.isn (tcp_calls entries))
  pub stands : ConnStands l start after (entries ++ conn_entry (lends_out bytes) (only_ready false) ∷ [])

-- a connection whose SYN was sent at a time, with this window
pub record IsConnAsking (l : Link) (w : Held) (now : ℕ) (c : Conn) : Type 0 where
  pub link : c.link ≡ l
  pub state : c.state ≡ SynSent
  pub unacked : c.unacked.items ≡ []
  pub given : c.given ≡ 0
  pub held : c.held ≡ Some w
  pub retry : c.retry ≡ started now Common
