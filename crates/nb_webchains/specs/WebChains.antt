-- The objects of an open by HTTP on a graph, whatever else lives there: a Fetch, a fetch by HTTP plugged below it, and a
-- connection below that. Our own.
use Rattle.std.specs.Prelude.{◌≡◌, ◌+◌, ◌<◌, ◌≤◌, ℕ, true, false, List, [], ◌∷◌, length}
use Rattle.nb_frames.specs.Frames.{graph_of, is_one_of, KeepsObject, KeepsOthers}
use Rattle.nb_graph.specs.Lived.{ObjectStands}
use Rattle.nb_graph.specs.Whole.{Objects}
use Rattle.nb_ledger.specs.GraphRun.{new_ports}
use Rattle.nb_ledger.specs.Ledger.{object_lives, port, rank}
use Rattle.nb_nodes.specs.declared.obj.Obj.{Obj}
use Rattle.nb_nodes.specs.Standing.{ObjStands}
use Rattle.nb_opens.specs.Marks.{IsOfKind}
use Rattle.nb_chains.specs.Chains.{AreChained}
use Rattle.nb_closings.specs.Chained.{AreShutThrough, AreThrough, IsOpenThrough}
use Rattle.nb_webchains.specs.declared.web_chain.WebChain.{WebChain}

-- the serials of the three, the top one first
abbrev pub web_ids : WebChain → List ℕ
web_ids c = c.fetch.0 ∷ c.web.0 ∷ c.conn.0 ∷ []

-- they as a graph of their own
abbrev pub web_graph : WebChain → Objects Obj → Objects Obj
web_graph c g = graph_of (web_ids c) g

-- each was made before the next
pub record IsInOrder (c : WebChain) : Type 0 where
  pub web_later : c.fetch.0 < c.web.0
  pub conn_later : c.web.0 < c.conn.0

-- They are a Fetch that hasn't handed out anything, a fetch by HTTP and a connection.
pub record AreOfWeb (c : WebChain) (g : Objects Obj) : Type 0 where
  pub fetch_rank : rank g.book c.fetch.0 ≡ 5
  pub fetch : IsOfKind g c.fetch.0 0
  pub web : IsOfKind g c.web.0 2
  pub conn : IsOfKind g c.conn.0 3

-- Each of these has the rank and the mark that it had.
pub record KeepKinds (ids : List ℕ) (g h : Objects Obj) : Type 0 where
  pub ranks : (x : ℕ) → is_one_of ids x ≡ true → rank h.book x ≡ rank g.book x
  pub marks : (x mark : ℕ) → is_one_of ids x ≡ true → IsOfKind g x mark → IsOfKind h x mark

-- All ports between the user and the network are open, and none of the three has ended.
pub record IsOpenWeb (c : WebChain) (g : Objects Obj) : Type 0 where
  pub order : IsInOrder c
  pub through : AreThrough g (web_ids c)

-- All these ports are closed, and none has a link.
pub record IsShutWeb (c : WebChain) (g : Objects Obj) : Type 0 where
  pub order : IsInOrder c
  pub through : AreShutThrough g (web_ids c)

-- Nothing was asked of these: each is plugged to the next, and all their other ports are open.
pub record AreReady (g : Objects Obj) (ids : List ℕ) : Type 0 where
  pub chained : AreChained g ids
  pub ports : IsOpenThrough (port g.book) ids
  pub rest : (x k : ℕ) → is_one_of ids x ≡ true → 2 ≤ k → port g.book x k ≡ new_ports k
  pub stands : (x : ℕ) → is_one_of ids x ≡ true → ObjectStands ObjStands g x []

-- All three are there, and nothing was asked of them.
pub record IsReadyWeb (c : WebChain) (g : Objects Obj) : Type 0 where
  pub order : IsInOrder c
  pub ready : AreReady g (web_ids c)
  pub kinds : AreOfWeb c g

-- So many of these were made, with the next serials, and all else on the graph is as it was.
pub record GrowsTo (count : ℕ) (ids : List ℕ) (g h : Objects Obj) : Type 0 where
  pub made : h.book.made ≡ g.book.made + count
  pub number : length h.book.objects ≡ length g.book.objects + count
  pub same_room : h.book.room ≡ g.book.room
  pub others : (y : ℕ) → y ≤ g.book.made → is_one_of ids y ≡ false → KeepsObject g h y

-- These were let go: none of them lives any more, and all else is as it was.
pub record AreReleased (ids : List ℕ) (g h : Objects Obj) : Type 0 where
  pub gone : (x : ℕ) → is_one_of ids x ≡ true → object_lives h.book x ≡ false
  pub others : KeepsOthers (is_one_of ids) g h
  pub number : length h.book.objects + length ids ≡ length g.book.objects
  pub same_room : h.book.room ≡ g.book.room
