-- Objects of an open on a graph, the top one first, each plugged to the next: the ports between its user and the network
-- are all open, or all closed. Our own.
use Rattle.std.specs.Prelude.{◌≡◌, ◌≤◌, ◌||◌, ℕ, Bool, true, false, List, [], ◌∷◌}
use Rattle.nb_terms.specs.declared.cause.Cause.{Cause}
use Rattle.nb_ledger.specs.declared.event.GraphEvent.{GraphEvent}
use Rattle.nb_ledger.specs.declared.event.GraphEvent.TheVariants.{Made, Held, LetGo, Plugged, Entered, Left, Dropped, Closed as IsClosed, Unplugged, Freed}
use Rattle.nb_ledger.specs.declared.port.Port.{Port}
use Rattle.nb_ledger.specs.declared.port.PortState.{PortState}
use Rattle.nb_ledger.specs.declared.port.PortState.TheVariants.{Open, Linked, Closed}
use Rattle.nb_ledger.specs.GraphRun.{link_count}
use Rattle.nb_ledger.specs.Ledger.{port, rank}
use Rattle.nb_ledger.specs.Flat.{Heard}
use Rattle.nb_frames.specs.Frames.{is_one_of, IsOwnCall}
use Rattle.nb_graph.specs.Deeds.{Closes, Deed, Offers, Stage, Ticks, events_of}
use Rattle.nb_graph.specs.Lived.{ObjectStands}
use Rattle.nb_graph.specs.Trace.{NodeEntry, Said}
use Rattle.nb_graph.specs.Went.{all_of, WentOne}
use Rattle.nb_graph.specs.Whole.{IsLinked, Objects, port_at}
use Rattle.nb_nodes.specs.declared.load.Load.{Load}
use Rattle.nb_nodes.specs.declared.obj.Obj.{Obj}
use Rattle.nb_nodes.specs.Objects.{obj_nature}
use Rattle.nb_nodes.specs.Standing.{ObjStands}
use Rattle.nb_closings.specs.Passing.{object_has_ended}

-- x is plugged to the first of these, that to the next, and the port of the last one to the network is open
abbrev pub IsPluggedDown : (ℕ → ℕ → PortState) → ℕ → List ℕ → Type 0
IsPluggedDown f x [] = f x 1 ≡ Open
IsPluggedDown f x (y ∷ ys) = (f x 1 ≡ Linked (port_at y 0)) × (f y 0 ≡ Linked (port_at x 1)) × IsPluggedDown f y ys

-- and the port of the first one to its user is open
abbrev pub IsOpenThrough : (ℕ → ℕ → PortState) → List ℕ → Type 0
IsOpenThrough f [] = Unit {0}
IsOpenThrough f (x ∷ xs) = (f x 0 ≡ Open) × IsPluggedDown f x xs

-- all these ports are closed
abbrev pub IsShutThrough : (ℕ → ℕ → PortState) → List ℕ → Type 0
IsShutThrough f [] = Unit {0}
IsShutThrough f (x ∷ xs) = (f x 0 ≡ Closed) × (f x 1 ≡ Closed) × IsShutThrough f xs

-- no other slot of theirs has a link
abbrev pub HaveNoOthers : (ℕ → ℕ → PortState) → List ℕ → Type 0
HaveNoOthers f ids = (x k : ℕ) → is_one_of ids x ≡ true → 2 ≤ k → link_count (f x k) ≡ 0

-- x stands for a trace by which it hasn't ended
abbrev pub GoesOnStill : Objects Obj → ℕ → Type 0
GoesOnStill g x = (t : List (NodeEntry Obj Load)) × ObjectStands ObjStands g x t × (object_has_ended t ≡ false)

-- The objects of an open that goes on: all these ports are open, and none has ended.
pub record AreThrough (g : Objects Obj) (ids : List ℕ) : Type 0 where
  pub ports : IsOpenThrough (port g.book) ids
  pub loose : HaveNoOthers (port g.book) ids
  pub going : (x : ℕ) → is_one_of ids x ≡ true → GoesOnStill g x

-- Those of one that has ended: all these ports are closed, and none has a link.
pub record AreShutThrough (g : Objects Obj) (ids : List ℕ) : Type 0 where
  pub ports : IsShutThrough (port g.book) ids
  pub loose : HaveNoOthers (port g.book) ids

-- a port is closed
abbrev pub is_closing : GraphEvent → Bool
is_closing (Made x kind) = false
is_closing (Held x) = false
is_closing (LetGo x) = false
is_closing (Plugged p q) = false
is_closing (Entered p by) = false
is_closing (Left p) = false
is_closing (Dropped p) = false
is_closing (IsClosed p cause) = true
is_closing (Unplugged p q) = false
is_closing (Freed x) = false

abbrev pub have_closing : List GraphEvent → Bool
have_closing [] = false
have_closing (e ∷ es) = is_closing e || have_closing es

-- What comes of a call: no port was closed, and the open goes on; or one was, and then all are.
pub data ComesOfAll (ids : List ℕ) (g : Objects Obj) (es : List GraphEvent) : Type 0 where
  goes_through : have_closing es ≡ false → AreThrough g ids → ComesOfAll ids g es
  shuts_through : have_closing es ≡ true → AreShutThrough g ids → ComesOfAll ids g es

-- a message from outside or a time is what is asked for
pub data IsArrival : List (Stage Obj Load) → Type 0 where
  offers_it : (p : Port) (m : Said) → IsArrival (Offers p m ∷ [])
  ticks_it : (x : ℕ) → IsArrival (Ticks x ∷ [])

-- So it is with each message and each time.
abbrev pub ChainsEndWhole : Type 0
ChainsEndWhole = (ids : List ℕ) (now : ℕ) (asks : List (Stage Obj Load)) (g h : Objects Obj) (m n : Heard) → IsLinked (port g.book) (rank g.book)
    → (k : WentOne ObjStands obj_nature now asks g h m n) → IsOwnCall ids asks g h (all_of k.deeds) → IsArrival asks → AreThrough g ids
    → ComesOfAll ids h (events_of (all_of k.deeds))

-- Where the user closes the top object's ports, one after the other, all are closed.
abbrev pub ChainsAreShut : Type 0
ChainsAreShut = (x : ℕ) (xs : List ℕ) (now : ℕ) (c : Cause) (g mid h : Objects Obj) (m k n : Heard) → IsLinked (port g.book) (rank g.book)
    → (first : WentOne ObjStands obj_nature now (Closes (port_at x 0) c ∷ []) g mid m k) → IsOwnCall (x ∷ xs) (Closes (port_at x 0) c ∷ []) g mid (all_of first.deeds)
    → (other : WentOne ObjStands obj_nature now (Closes (port_at x 1) c ∷ []) mid h k n) → IsOwnCall (x ∷ xs) (Closes (port_at x 1) c ∷ []) mid h (all_of other.deeds)
    → AreThrough g (x ∷ xs) → AreShutThrough h (x ∷ xs)
