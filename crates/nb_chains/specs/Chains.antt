-- The objects of an open on a graph, whatever else lives there: the top one first, each plugged to the next. What an
-- open's objects are and do is said of the graph of these objects alone (graph_of). Our own.
use Rattle.std.specs.Prelude.{◌≡◌, ◌+◌, ◌≤◌, ℕ, true, false, List, [], ◌∷◌, length, Option, Some, None}
use Rattle.nb_ledger.specs.declared.port.ObjId.{ObjId}
use Rattle.nb_ledger.specs.GraphRun.{new_ports}
use Rattle.nb_ledger.specs.Ledger.{object_lives, holds, port, rank}
use Rattle.nb_ledger.specs.Flat.{Notice}
use Rattle.nb_opens.specs.AloneNotices.{alone_freed, alone_made}
use Rattle.nb_opens.specs.Alones.{IsUnasked, IsShutLone}
use Rattle.nb_opens.specs.Notices.{completed_notices, freed_notices}
use Rattle.nb_opens.specs.Marks.{IsOfKind}
use Rattle.nb_opens.specs.Pairs.{AreMade, AreShut}
use Rattle.nb_graph.specs.Lived.{ObjectStands}
use Rattle.nb_graph.specs.Trace.{NodeEntry}
use Rattle.nb_graph.specs.Whole.{Objects}
use Rattle.nb_frames.specs.Frames.{is_one_of, graph_of, KeepsObject, KeepsOthers}
use Rattle.nb_frames.specs.Within.{AreLinkedWithin}
use Rattle.nb_nodes.specs.declared.load.Load.{Load}
use Rattle.nb_nodes.specs.declared.obj.Obj.{Obj}
use Rattle.nb_nodes.specs.Standing.{ObjStands}
use Rattle.nb_chains.specs.declared.chain.Chain.{Chain}
use Rattle.nb_chains.specs.declared.kind.ChainKind.{ChainKind}
use Rattle.nb_chains.specs.declared.kind.ChainKind.TheVariants.{File, Name, Lease, Echo, Drive}
use Rattle.nb_chains.specs.Kinds.{top_mark, top_number, top_rank}

-- the serials of a chain, the top one first
abbrev pub below_ids : Option ObjId → List ℕ
below_ids None = []
below_ids (Some x) = x.0 ∷ []

abbrev pub last_below : ℕ → Option ObjId → ℕ
last_below x None = x
last_below x (Some y) = y.0

abbrev pub chain_ids : Chain → List ℕ
chain_ids c = c.top.0 ∷ below_ids c.below

-- its objects as a graph of their own
abbrev pub own_graph : Chain → Objects Obj → Objects Obj
own_graph c g = graph_of (chain_ids c) g

-- x stands for some trace, and all loads that it lent came back
abbrev pub StandsForSome : Objects Obj → ℕ → Type 0
StandsForSome g x = (t : List (NodeEntry Obj Load)) × ObjectStands ObjStands g x t

-- Each of these lives by its one hold, and no link leaves them. Nothing is said of what else lives.
pub record AreChained (g : Objects Obj) (ids : List ℕ) : Type 0 where
  pub given : (x : ℕ) → is_one_of ids x ≡ true → x ≤ g.book.made
  pub lives : (x : ℕ) → is_one_of ids x ≡ true → object_lives g.book x ≡ true
  pub held : (x : ℕ) → is_one_of ids x ≡ true → holds g.book x ≡ 1
  pub stands : (x : ℕ) → is_one_of ids x ≡ true → StandsForSome g x
  pub links : AreLinkedWithin (is_one_of ids) (port g.book)

-- They still are after a call, and all else on the graph is as it was.
pub record AreStillChained (ids : List ℕ) (g h : Objects Obj) : Type 0 where
  pub chained : AreChained h ids
  pub others : KeepsOthers (is_one_of ids) g h
  pub same_number : length h.book.objects ≡ length g.book.objects
  pub same_room : h.book.room ≡ g.book.room

-- the serial of its last object, which talks to the network
abbrev pub last_serial : Chain → ℕ
last_serial c = last_below c.top.0 c.below

-- the address that the last object gets with what comes: one that asks by itself does, and a Tftp doesn't
abbrev pub source_for : Option ObjId → ℕ → ℕ
source_for None source = source
source_for (Some x) source = 0

-- Nothing was asked of x: it lives by its one hold, and all its ports are open.
pub record IsFresh (g : Objects Obj) (x at_rank mark : ℕ) : Type 0 where
  pub given : x ≤ g.book.made
  pub lives : object_lives g.book x ≡ true
  pub held : holds g.book x ≡ 1
  pub ports : (k : ℕ) → port g.book x k ≡ new_ports k
  pub ranked : rank g.book x ≡ at_rank
  pub stands : ObjectStands ObjStands g x []
  pub of_kind : IsOfKind g x mark

-- So it is of the top object of such an open, alone: it waits for the others.
pub record Awaits (kind : ChainKind) (c : Chain) (g : Objects Obj) : Type 0 where
  pub alone : c.below ≡ None
  pub fresh : IsFresh g c.top.0 (top_rank kind) (top_mark kind)

-- So many objects of the chain were made, with the next serials, and all else on the graph is as it was.
pub record GrowsBy (count : ℕ) (c : Chain) (g h : Objects Obj) : Type 0 where
  pub chained : AreChained h (chain_ids c)
  pub made : h.book.made ≡ g.book.made + count
  pub number : length h.book.objects ≡ length g.book.objects + count
  pub same_room : h.book.room ≡ g.book.room
  pub others : (y : ℕ) → y ≤ g.book.made → is_one_of (chain_ids c) y ≡ false → KeepsObject g h y

-- All objects of such an open are there, and nothing was asked of them.
abbrev pub IsReadyChain : ChainKind → Chain → Objects Obj → Type 0
IsReadyChain File c g = (t : ObjId) × (c.below ≡ Some t) × AreMade (own_graph c g) c.top.0 t.0
IsReadyChain Name c g = (c.below ≡ None) × IsUnasked (own_graph c g) c.top.0 (top_mark Name)
IsReadyChain Lease c g = (c.below ≡ None) × IsUnasked (own_graph c g) c.top.0 (top_mark Lease)
IsReadyChain Echo c g = (c.below ≡ None) × IsUnasked (own_graph c g) c.top.0 (top_mark Echo)
IsReadyChain Drive c g = (c.below ≡ None) × IsUnasked (own_graph c g) c.top.0 (top_mark Drive)

-- what the outside is given where the top object is made, and where the others are
abbrev pub waits_notices : ChainKind → ℕ → List Notice
waits_notices kind x = alone_made x (top_number kind)

abbrev pub completes_notices : ChainKind → Chain → List Notice
completes_notices File c = completed_notices c.top.0 (last_serial c)
completes_notices Name c = []
completes_notices Lease c = []
completes_notices Echo c = []
completes_notices Drive c = []

-- The chain is let go: none of its objects lives any more, and all else is as it was.
pub record IsReleased (c : Chain) (g h : Objects Obj) : Type 0 where
  pub gone : (x : ℕ) → is_one_of (chain_ids c) x ≡ true → object_lives h.book x ≡ false
  pub others : KeepsOthers (is_one_of (chain_ids c)) g h
  pub number : length h.book.objects + length (chain_ids c) ≡ length g.book.objects
  pub same_room : h.book.room ≡ g.book.room

-- its ports to the user, to the network and between its objects are closed
abbrev pub IsShutBy : Option ObjId → ℕ → Objects Obj → Type 0
IsShutBy None x g = IsShutLone g x
IsShutBy (Some t) x g = AreShut g x t.0

abbrev pub IsShutChain : Chain → Objects Obj → Type 0
IsShutChain c g = IsShutBy c.below c.top.0 (own_graph c g)

-- what the outside is given where they are let go
abbrev pub released_by : ℕ → Option ObjId → List Notice
released_by x None = alone_freed x
released_by x (Some t) = freed_notices x t.0

abbrev pub released_notices : Chain → List Notice
released_notices c = released_by c.top.0 c.below

-- no object of the others is one of these
abbrev pub AreOthers : List ℕ → List ℕ → Type 0
AreOthers ids others = (x : ℕ) → is_one_of others x ≡ true → is_one_of ids x ≡ false

-- these still are as they were, and their graph is the same
pub record StaysChained (ids : List ℕ) (g h : Objects Obj) : Type 0 where
  pub chained : AreChained h ids
  pub same_graph : graph_of ids h ≡ graph_of ids g
