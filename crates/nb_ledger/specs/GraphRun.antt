-- In which order events may happen to counted objects: a relation over the list of events alone.
use Rattle.std.specs.Prelude.{◌≡◌, ℕ, ◌+◌, ◌-◌, ◌<◌, ◌≤◌, ◌==◌, ◌⊎◌, nat_lt, Bool, true, false, List, [], ◌∷◌, min, max, if◌then◌else◌}
use Rattle.nb_terms.specs.declared.cause.Cause.{Cause}
use Rattle.nb_ledger.specs.declared.port.Port.{Port}
use Rattle.nb_ledger.specs.declared.port.PortState.{PortState}
use Rattle.nb_ledger.specs.declared.port.PortState.TheVariants as port
use Rattle.nb_ledger.specs.declared.event.Way.{Way}
use Rattle.nb_ledger.specs.declared.event.Way.TheVariants.{Up, Down, Close, Time}
use Rattle.nb_ledger.specs.declared.event.GraphEvent.{GraphEvent}
use Rattle.nb_ledger.specs.declared.event.GraphEvent.TheVariants.{Made, Held, LetGo, Plugged, Entered, Left, Dropped, Closed, Unplugged, Freed}

-- What stands on the stack: an entry that runs, or what has to happen next, before anything else.
pub data OnStack : Type 0 where
  Running : (at : Port) (way : Way) → OnStack
  MustClose : (at : Port) (cause : Cause) → OnStack
  MustEnter : (at : Port) → OnStack
  MustUnplug : (first other : Port) → OnStack
  MustFree : (object : ℕ) → OnStack

-- The state: how many objects were made, which live, their holds and ports, and the stack.
pub record GraphState : Type 0 where
  pub made : ℕ
  pub live : ℕ → Bool
  pub holds : ℕ → ℕ
  pub port : ℕ → ℕ → PortState
  pub stack : List OnStack

-- f, but v at x
abbrev pub but_at : {A : Type 0} → ℕ → A → (ℕ → A) → ℕ → A
but_at x v f y = if y == x then v else f y

-- the state of a port
abbrev pub port_of : GraphState → Port → PortState
port_of s p = s.port p.obj.0 p.slot

-- the ports, but this one is v
abbrev pub port_but : Port → PortState → (ℕ → ℕ → PortState) → ℕ → ℕ → PortState
port_but p v f x k = if x == p.obj.0 then (if k == p.slot then v else f x k) else f x k

-- the ports, but those of y are so
abbrev pub ports_but : ℕ → (ℕ → PortState) → (ℕ → ℕ → PortState) → ℕ → ℕ → PortState
ports_but y g f x k = if x == y then g k else f x k

-- s, but with this port so
abbrev pub with_port_state : Port → PortState → GraphState → GraphState
with_port_state p v s = record s { port = port_but p v s.port }

-- s, but with this stack
abbrev pub with_stack : List OnStack → GraphState → GraphState
with_stack st s = record s { stack = st }

-- nothing has to happen next: no entry runs, or the innermost one goes on
abbrev pub IsIdle : List OnStack → Type 0
IsIdle [] = Unit {0}
IsIdle (Running p way ∷ st) = Unit {0}
IsIdle (MustClose p cause ∷ st) = ⊥
IsIdle (MustEnter p ∷ st) = ⊥
IsIdle (MustUnplug p q ∷ st) = ⊥
IsIdle (MustFree x ∷ st) = ⊥

-- an open port may be linked
abbrev pub IsOpen : PortState → Type 0
IsOpen port.Open = Unit {0}
IsOpen (port.Linked peer) = Unit {0}
IsOpen (port.Leaving peer) = ⊥
IsOpen port.Closed = ⊥

-- 1 for a port that has a link which isn't unplugged
abbrev pub link_count : PortState → ℕ
link_count port.Open = 0
link_count (port.Linked peer) = 1
link_count (port.Leaving peer) = 1
link_count port.Closed = 0

-- the links of an object, of its four slots
abbrev pub links : GraphState → ℕ → ℕ
links s x = link_count (s.port x 0) + link_count (s.port x 1) + link_count (s.port x 2) + link_count (s.port x 3)

-- the running entries of an object
abbrev pub running_entries : List OnStack → ℕ → ℕ
running_entries [] x = 0
running_entries (Running p way ∷ st) x = (if x == p.obj.0 then 1 else 0) + running_entries st x
running_entries (MustClose p cause ∷ st) x = running_entries st x
running_entries (MustEnter p ∷ st) x = running_entries st x
running_entries (MustUnplug p q ∷ st) x = running_entries st x
running_entries (MustFree y ∷ st) x = running_entries st x

-- the count of an object: its holds, its links and its running entries
unfoldable pub object_count : GraphState → ℕ → ℕ
object_count s x = s.holds x + links s x + running_entries s.stack x

-- s after something that x counted fell away: at 0 it has to be freed next
unfoldable pub owed : ℕ → GraphState → GraphState
owed x s = if object_count s x == 0 then with_stack (MustFree x ∷ s.stack) s else s

-- the ports of a new object: four, all open
abbrev pub new_ports : ℕ → PortState
new_ports k = if nat_lt k 4 then port.Open else port.Closed

-- an object without what made it live
abbrev pub freed : ℕ → GraphState → GraphState
freed x s = record s { live = but_at x false s.live; holds = but_at x 0 s.holds; port = ports_but x (λ _. port.Closed) s.port }

-- the innermost entry that runs is one of this object
abbrev pub RunsIn : List OnStack → ℕ → Type 0
RunsIn [] x = ⊥
RunsIn (Running p way ∷ st) x = x ≡ p.obj.0
RunsIn (MustClose p cause ∷ st) x = ⊥
RunsIn (MustEnter p ∷ st) x = ⊥
RunsIn (MustUnplug p q ∷ st) x = ⊥
RunsIn (MustFree y ∷ st) x = ⊥

-- A message may be dropped at a port that is closed or dead; at a linked one only outside all entries,
-- or where a make of the innermost running entry's own object wasn't run.
abbrev pub MayDrop : GraphState → ℕ → PortState → Type 0
MayDrop s x port.Open = ⊥
MayDrop s x (port.Linked peer) = (s.stack ≡ []) ⊎ RunsIn s.stack x
MayDrop s x (port.Leaving peer) = Unit {0}
MayDrop s x port.Closed = Unit {0}

-- An entry by a message names an open port, from below a slot 1 to 3, from above slot 0. One by time
-- names slot 4 of a live object. One by close stands only where a peer was closed.
abbrev pub MayEnter : GraphState → Port → Way → Type 0
MayEnter s p Up = (1 ≤ p.slot) × (p.slot ≤ 3) × IsOpen (port_of s p)
MayEnter s p Down = (p.slot ≡ 0) × IsOpen (port_of s p)
MayEnter s p Close = ⊥
MayEnter s p Time = (p.slot ≡ 4) × (s.live p.obj.0 ≡ true)

-- A port is closed by itself; or a linked one, and then its peer has to be closed with the same cause,
-- entered, and unplugged; or a peer is closed.
pub data ClosesPort (s : GraphState) (p : Port) (cause : Cause) (t : GraphState) : Type 0 where
  alone : IsIdle s.stack → port_of s p ≡ port.Open → t ≡ with_port_state p port.Closed s → ClosesPort s p cause t
  linked : (q : Port) → IsIdle s.stack → port_of s p ≡ port.Linked q → t ≡ with_stack (MustClose q cause ∷ MustEnter q ∷ MustUnplug p q ∷ s.stack) (with_port_state p (port.Leaving q) s) → ClosesPort s p cause t
  peer : (q : Port) (st : List OnStack) → s.stack ≡ MustClose p cause ∷ st → port_of s p ≡ port.Linked q → t ≡ with_stack st (with_port_state p (port.Leaving q) s) → ClosesPort s p cause t

-- What one event does.
abbrev pub Step : GraphState → GraphEvent → GraphState → Type 0
-- the next serial
Step s (Made x kind) t =
    IsIdle s.stack × (x.0 ≡ s.made + 1) × (t ≡ record s { made = x.0; live = but_at x.0 true s.live; holds = but_at x.0 0 s.holds; port = ports_but x.0 new_ports s.port })
Step s (Held x) t =
    IsIdle s.stack × (s.live x.0 ≡ true) × (t ≡ record s { holds = but_at x.0 (s.holds x.0 + 1) s.holds })
-- a hold that is there
Step s (LetGo x) t =
    IsIdle s.stack × (0 < s.holds x.0) × (t ≡ owed x.0 (record s { holds = but_at x.0 (s.holds x.0 - 1) s.holds }))
-- two open ports without a link, a slot 1 to 3 with slot 0
Step s (Plugged p q) t =
    IsIdle s.stack × (port_of s p ≡ port.Open) × (port_of s q ≡ port.Open) × (1 ≤ p.slot) × (q.slot ≡ 0) × (t ≡ with_port_state q (port.Linked p) (with_port_state p (port.Linked q) s))
Step s (Entered p way) t =
    (IsIdle s.stack × MayEnter s p way × (t ≡ with_stack (Running p way ∷ s.stack) s))
    ⊎ ((st : List OnStack) × (way ≡ Close) × (s.stack ≡ MustEnter p ∷ st) × (t ≡ with_stack (Running p Close ∷ st) s))
-- the innermost entry ends
Step s (Left p) t =
    (way : Way) × (st : List OnStack) × (s.stack ≡ Running p way ∷ st) × (t ≡ owed p.obj.0 (with_stack st s))
Step s (Dropped p) t = IsIdle s.stack × MayDrop s p.obj.0 (port_of s p) × (t ≡ s)
Step s (Closed p cause) t = ClosesPort s p cause t
-- once for each link; of two that are to be freed the lower serial goes first
Step s (Unplugged p q) t =
    (st : List OnStack) × (s.stack ≡ MustUnplug p q ∷ st) × (t ≡ owed (min p.obj.0 q.obj.0) (owed (max p.obj.0 q.obj.0) (with_port_state q port.Closed (with_port_state p port.Closed (with_stack st s)))))
-- directly after the event that took the count to 0
Step s (Freed x) t = (st : List OnStack) × (s.stack ≡ MustFree x.0 ∷ st) × (t ≡ freed x.0 (with_stack st s))

-- Events one after another lead from one state to another.
abbrev pub GraphRunOf : GraphState → List GraphEvent → GraphState → Type 0
GraphRunOf s [] t = s ≡ t
GraphRunOf s (e ∷ es) t = (mid : GraphState) × Step s e mid × GraphRunOf mid es t
