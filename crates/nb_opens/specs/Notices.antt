-- What the outside is told in a call on the two objects of an open: the Fetch f and the Tftp t plugged to it. Our own.
use Rattle.std.specs.Prelude.{ℕ, ◌==◌, if◌then◌else◌, List, [], ◌∷◌, ◌++◌, map, Option, Some, None}
use Rattle.nb_terms.specs.declared.cause.Cause.{Cause}
use Rattle.nb_terms.specs.declared.acts.Acts.{Acts}
use Rattle.nb_ledger.specs.declared.port.Port.{Port}
use Rattle.nb_ledger.specs.declared.port.ObjId.{ObjId}
use Rattle.nb_ledger.specs.declared.event.Way.{Way}
use Rattle.nb_ledger.specs.declared.event.Way.TheVariants as way
use Rattle.nb_ledger.specs.declared.event.GraphEvent.{GraphEvent}
use Rattle.nb_ledger.specs.declared.event.GraphEvent.TheVariants.{Made, Held, LetGo, Plugged, Entered, Left, Dropped, Closed, Unplugged, Freed}
use Rattle.nb_ledger.specs.Flat.{Notice, event, message, flat}
use Rattle.nb_graph.specs.Whole.{port_at}
use Rattle.nb_graph.specs.Trace.{Said}
use Rattle.nb_nodes.specs.Carried.{downs_of}
use Rattle.nb_nodes.specs.Fetches.{body_too_large}

-- an event, as the outside is told of it
abbrev pub tells : GraphEvent → Notice
tells e = event (flat e)

abbrev pub serial : ℕ → ObjId
serial x = record { 0 = x }

-- a message that leaves by a port
abbrev pub sent_from : Port → Said → Notice
sent_from p m = message p m.tag m.rec m.a m.b m.bytes

-- the Tftp is made below a Fetch that waits, and plugged
abbrev pub completed_notices : ℕ → ℕ → List Notice
completed_notices f t = tells (Made (serial t) 4) ∷ tells (Held (serial t)) ∷ tells (Plugged (port_at f 1) (port_at t 0)) ∷ []

-- what goes down of what a transfer asks: the place to which it has come, and then its datagram
abbrev pub down_notices : ℕ → ℕ → Acts → List Notice
down_notices t rec acts = map (sent_from (port_at t 1)) (downs_of rec acts)

-- bytes of the file go up
abbrev pub up_notices : ℕ → Option (ℕ × ℕ) → List Notice
up_notices f None = []
up_notices f (Some range) = tells (Entered (port_at f 1) way.Up) ∷ tells (Left (port_at f 1)) ∷ []

-- the transfer ends
abbrev pub end_notices : ℕ → ℕ → Option Cause → List Notice
end_notices f t None = []
end_notices f t (Some c) =
    tells (Closed (port_at t 0) c) ∷ tells (Closed (port_at f 1) c) ∷ tells (Entered (port_at f 1) way.Close)
    ∷ tells (Closed (port_at f 0) c) ∷ tells (Left (port_at f 1)) ∷ tells (Unplugged (port_at t 0) (port_at f 1))
    ∷ tells (Closed (port_at t 1) c) ∷ []

-- a datagram or a time comes to the Tftp by p, in the record rec, and its transfer asks this
abbrev pub call_notices : ℕ → ℕ → Port → Way → ℕ → Acts → List Notice
call_notices f t p by rec acts =
    (tells (Entered p by) ∷ []) ++ (down_notices t rec acts ++ (up_notices f acts.give ++ (end_notices f t acts.over ++ (tells (Left p) ∷ []))))

-- The body has grown too large: the bytes go up, the Fetch closes both ports, and the Tftp hears of it.
abbrev pub too_many_notices : ℕ → ℕ → List Notice
too_many_notices f t =
    tells (Entered (port_at f 1) way.Up) ∷ tells (Closed (port_at f 0) body_too_large) ∷ tells (Closed (port_at f 1) body_too_large)
    ∷ tells (Closed (port_at t 0) body_too_large) ∷ tells (Entered (port_at t 0) way.Close) ∷ []

-- It passes the close on if its transfer goes on; else it closes its port below with the transfer's cause afterwards.
abbrev pub passed_on : ℕ → Option Cause → List Notice
passed_on t None = tells (Closed (port_at t 1) body_too_large) ∷ []
passed_on t (Some c) = []

abbrev pub closed_late : ℕ → Option Cause → List Notice
closed_late t None = []
closed_late t (Some c) = tells (Closed (port_at t 1) c) ∷ []

-- the two are unplugged, and what is left of the message to the Fetch is dropped
abbrev pub parted_notices : ℕ → ℕ → List Notice
parted_notices f t = tells (Left (port_at t 0)) ∷ tells (Unplugged (port_at f 1) (port_at t 0)) ∷ tells (Dropped (port_at f 1)) ∷ tells (Left (port_at f 1)) ∷ []

-- such a call
abbrev pub large_notices : ℕ → ℕ → Port → Way → ℕ → Acts → List Notice
large_notices f t p by rec acts =
    (tells (Entered p by) ∷ []) ++ (down_notices t rec acts
    ++ (too_many_notices f t ++ (passed_on t acts.over ++ (parted_notices f t ++ (closed_late t acts.over ++ (tells (Left p) ∷ []))))))

-- the user asks, and the request leaves
abbrev pub begun_notices : ℕ → ℕ → ℕ → Acts → List Notice
begun_notices f t rec acts =
    (tells (Entered (port_at f 0) way.Down) ∷ tells (Entered (port_at t 0) way.Down) ∷ [])
    ++ (down_notices t rec acts ++ (tells (Left (port_at t 0)) ∷ tells (Left (port_at f 0)) ∷ []))

-- the user closes both ports of the Fetch
abbrev pub closed_notices : ℕ → ℕ → Cause → List Notice
closed_notices f t c =
    tells (Closed (port_at f 0) c) ∷ tells (Closed (port_at f 1) c) ∷ tells (Closed (port_at t 0) c) ∷ tells (Entered (port_at t 0) way.Close)
    ∷ tells (Closed (port_at t 1) c) ∷ tells (Left (port_at t 0)) ∷ tells (Unplugged (port_at f 1) (port_at t 0)) ∷ []

-- both are let go, and freed
abbrev pub freed_notices : ℕ → ℕ → List Notice
freed_notices f t = tells (LetGo (serial f)) ∷ tells (Freed (serial f)) ∷ tells (LetGo (serial t)) ∷ tells (Freed (serial t)) ∷ []

-- the end of the graph: all ports are closed by rising serial and slot, and then both are let go
abbrev pub shut_notices : ℕ → ℕ → Cause → List Notice
shut_notices f t c =
    closed_notices f t c
    ++ ((tells (Closed (port_at f 2) c) ∷ tells (Closed (port_at f 3) c) ∷ tells (Closed (port_at t 2) c) ∷ tells (Closed (port_at t 3) c) ∷ [])
    ++ freed_notices f t)

-- the cause of a close
abbrev pub close_of : Notice → Option Cause
close_of (event e) = if e.event == 8 then Some e.cause else None
close_of (message p tag rec a b bytes) = None

abbrev pub or_else : Option Cause → Option Cause → Option Cause
or_else None b = b
or_else (Some c) b = Some c

-- that of the first close that is told
abbrev pub first_close : List Notice → Option Cause
first_close [] = None
first_close (n ∷ ns) = or_else (close_of n) (first_close ns)
