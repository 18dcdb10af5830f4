-- What the outside is told in a call on the one object x of an open: a Resolver, a Dhcp or a Ping. Our own.
use Rattle.std.specs.Prelude.{ℕ, List, [], ◌∷◌, ◌++◌, map, Option, Some, None}
use Rattle.nb_terms.specs.declared.cause.Cause.{Cause}
use Rattle.nb_terms.specs.declared.acts.Acts.{Acts}
use Rattle.nb_ledger.specs.declared.port.Port.{Port}
use Rattle.nb_ledger.specs.declared.event.Way.{Way}
use Rattle.nb_ledger.specs.declared.event.GraphEvent.TheVariants.{Made, Held, LetGo, Entered, Left, Closed, Freed}
use Rattle.nb_ledger.specs.Flat.{Notice}
use Rattle.nb_graph.specs.Whole.{port_at}
use Rattle.nb_graph.specs.Trace.{Said}
use Rattle.nb_nodes.specs.Carried.{downs_of}
use Rattle.nb_opens.specs.Notices.{tells, serial, sent_from}

-- it is made, of a kind
abbrev pub alone_made : ℕ → ℕ → List Notice
alone_made x kind = tells (Made (serial x) kind) ∷ tells (Held (serial x)) ∷ []

-- its core ends
abbrev pub alone_end : ℕ → Option Cause → List Notice
alone_end x None = []
alone_end x (Some c) = tells (Closed (port_at x 0) c) ∷ tells (Closed (port_at x 1) c) ∷ []

-- It is entered by p in the record rec, and its core asks this: the place and the datagram leave by slot 1, then what was
-- found goes up by slot 0, and then the core ends. Neither slot has a link, so these are messages to the outside.
abbrev pub alone_call : ℕ → Port → Way → ℕ → Acts → List Said → List Notice
alone_call x p by rec acts given =
    (tells (Entered p by) ∷ []) ++ (map (sent_from (port_at x 1)) (downs_of rec acts) ++ (map (sent_from (port_at x 0)) given ++ (alone_end x acts.over ++ (tells (Left p) ∷ []))))

-- it is entered by what doesn't concern its core
abbrev pub alone_ignored : Port → Way → List Notice
alone_ignored p by = tells (Entered p by) ∷ tells (Left p) ∷ []

-- the user closes its ports to above and below
abbrev pub alone_closed : ℕ → Cause → List Notice
alone_closed x c = tells (Closed (port_at x 0) c) ∷ tells (Closed (port_at x 1) c) ∷ []

-- all its ports are closed, by rising slot
abbrev pub all_closed : ℕ → Cause → List Notice
all_closed x c = alone_closed x c ++ (tells (Closed (port_at x 2) c) ∷ tells (Closed (port_at x 3) c) ∷ [])

-- it is let go, and freed
abbrev pub alone_freed : ℕ → List Notice
alone_freed x = tells (LetGo (serial x)) ∷ tells (Freed (serial x)) ∷ []

-- the end of the graph
abbrev pub alone_shut : ℕ → Cause → List Notice
alone_shut x c = all_closed x c ++ alone_freed x
