-- Objects without links, which are to be let go. Our own.
use Rattle.std.specs.Prelude.{◌≡◌, ◌<◌, ◌≤◌, ℕ, true, List, [], ◌∷◌}
use Rattle.nb_terms.specs.declared.cause.Cause.{Cause}
use Rattle.nb_frames.specs.Frames.{is_one_of}
use Rattle.nb_frames.specs.Within.{IsEventWithin}
use Rattle.nb_graph.specs.Whole.{Objects}
use Rattle.nb_ledger.specs.declared.event.GraphEvent.TheVariants.{Closed}
use Rattle.nb_ledger.specs.declared.port.Port.{Port}
use Rattle.nb_ledger.specs.Flat.{Heard, Notice, event, flat, message}
use Rattle.nb_ledger.specs.Ledger.{open_count, port}
use Rattle.nb_nodes.specs.declared.obj.Obj.{Obj}
use Rattle.nb_chains.specs.Chains.{AreStillChained}
use Rattle.nb_chains.specs.Ends.{LivesUnlinked}
use Rattle.nb_chains.specs.Giving.{CallGives}

-- ports are closed, and nothing else is told
abbrev pub AreCloses : List Notice → Type 0
AreCloses [] = Unit {0}
AreCloses (event e ∷ ns) = ((p : Port) × (z : Cause) × (e ≡ flat (Closed p z))) × AreCloses ns
AreCloses (message from tag rec a b bytes ∷ ns) = ⊥

-- each of these lives by its one hold, without a link
abbrev pub AreLoose : List ℕ → Objects Obj → Type 0
AreLoose ids g = (x : ℕ) → is_one_of ids x ≡ true → LivesUnlinked g x

-- all ports of these are closed
abbrev pub AreShutWhole : List ℕ → Objects Obj → Type 0
AreShutWhole ids g = (x k : ℕ) → is_one_of ids x ≡ true → k < 4 → open_count (port g.book x k) ≡ 0

-- They have no link still; the two slots of x that nothing is plugged to are closed, and so is each port that was.
pub record StayLoose (ids : List ℕ) (x : ℕ) (g h : Objects Obj) : Type 0 where
  pub loose : AreLoose ids h
  pub slots : (k : ℕ) → 2 ≤ k → k < 4 → open_count (port h.book x k) ≡ 0
  pub still : (y k : ℕ) → is_one_of ids y ≡ true → open_count (port g.book y k) ≡ 0 → open_count (port h.book y k) ≡ 0

-- A call that closes those slots of x, one of these, leaves them so.
pub record GoesLoose (ids : List ℕ) (x : ℕ) (g h : Objects Obj) (before after : Heard) : Type 0 where
  pub ns : List Notice
  pub on : AreStillChained ids g h
  pub gives : CallGives (IsEventWithin (is_one_of ids)) g h before after ns
  pub closes : AreLoose ids g → AreCloses ns
  pub loose : AreLoose ids g → StayLoose ids x g h
