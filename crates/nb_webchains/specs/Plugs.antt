-- A new object is plugged below the last of some. Our own.
use Rattle.std.specs.Prelude.{◌≡◌, ℕ, true, List, [], ◌∷◌, ◌++◌}
use Rattle.nb_frames.specs.Frames.{is_one_of}
use Rattle.nb_graph.specs.Whole.{Objects, port_at}
use Rattle.nb_ledger.specs.declared.event.GraphEvent.TheVariants.{Plugged}
use Rattle.nb_ledger.specs.Flat.{Heard, Notice}
use Rattle.nb_ledger.specs.Ledger.{rank}
use Rattle.nb_nodes.specs.declared.obj.Obj.{Obj}
use Rattle.nb_nodes.specs.Objects.{kind_of_obj, mark_of_obj, rank_of_obj}
use Rattle.nb_nodes.specs.Standing.{ObjStands}
use Rattle.nb_opens.specs.AloneNotices.{alone_made}
use Rattle.nb_opens.specs.Marks.{IsOfKind}
use Rattle.nb_opens.specs.Notices.{tells}
use Rattle.nb_chains.specs.Giving.{CallGives, IsMakeWithin}
use Rattle.nb_webchains.specs.declared.web_chain.WebChain.{WebChain}
use Rattle.nb_webchains.specs.WebChains.{AreReady, GrowsTo}

-- the last of these, after the first
abbrev pub last_from : ℕ → List ℕ → ℕ
last_from x [] = x
last_from x (y ∷ ys) = last_from y ys

-- what the outside is given where an object of this kind is made, and plugged below z
abbrev pub plugged_notices : ℕ → ℕ → ℕ → List Notice
plugged_notices z y kind = alone_made y kind ++ (tells (Plugged (port_at z 1) (port_at y 0)) ∷ [])

-- So it is: the node y is one of them.
pub record Extends (ids : List ℕ) (z y : ℕ) (node : Obj) (g h : Objects Obj) (before after : Heard) : Type 0 where
  pub ready : AreReady h (ids ++ y ∷ [])
  pub grows : GrowsTo 1 (ids ++ y ∷ []) g h
  pub ranks : (x : ℕ) → is_one_of ids x ≡ true → rank h.book x ≡ rank g.book x
  pub kinds : (x mark : ℕ) → is_one_of ids x ≡ true → IsOfKind g x mark → IsOfKind h x mark
  pub gives : CallGives (IsMakeWithin (is_one_of (ids ++ y ∷ []))) g h before after (plugged_notices z y (kind_of_obj node))

-- an object of this kind, rank and mark of which nothing was asked
pub record IsNewNode (kind at_rank at_mark : ℕ) (n : Obj) : Type 0 where
  pub stands : ObjStands n []
  pub number : kind_of_obj n ≡ kind
  pub ranked : rank_of_obj n ≡ at_rank
  pub mark : mark_of_obj n ≡ at_mark

-- what the outside is given where the two below a Fetch that waits are made
abbrev pub web_notices : WebChain → List Notice
web_notices c = plugged_notices c.fetch.0 c.web.0 2 ++ plugged_notices c.web.0 c.conn.0 3
