-- The end of a run: all ports of a chain's objects are closed, by rising serial and slot, and its objects are let go as
-- they were made. Our own.
use Rattle.std.specs.Prelude.{◌≡◌, ◌<◌, ◌≤◌, ◌==◌, ℕ, true, List, [], ◌∷◌, ◌++◌, Option, Some, None, if◌then◌else◌}
use Rattle.nb_ledger.specs.declared.event.GraphEvent.TheVariants.{Closed}
use Rattle.nb_ledger.specs.declared.port.PortState.TheVariants.{Open}
use Rattle.nb_ledger.specs.declared.port.ObjId.{ObjId}
use Rattle.nb_ledger.specs.Flat.{Heard, Notice, event, message}
use Rattle.nb_ledger.specs.GraphRun.{link_count}
use Rattle.nb_ledger.specs.Ledger.{holds, object_lives, port}
use Rattle.nb_graph.specs.Whole.{Objects, port_at}
use Rattle.nb_frames.specs.Frames.{is_one_of}
use Rattle.nb_frames.specs.Within.{IsEventWithin}
use Rattle.nb_nodes.specs.declared.obj.Obj.{Obj}
use Rattle.nb_opens.specs.Notices.{or_else, tells}
use Rattle.nb_terms.specs.declared.cause.Cause.{Cause}
use Rattle.nb_chains.specs.Chains.{AreStillChained, StandsForSome}
use Rattle.nb_chains.specs.Giving.{CallGives}

-- x lives by its one hold, without a link
pub record LivesUnlinked (g : Objects Obj) (x : ℕ) : Type 0 where
  pub given : x ≤ g.book.made
  pub lives : object_lives g.book x ≡ true
  pub held : holds g.book x ≡ 1
  pub unlinked : (k : ℕ) → k < 4 → link_count (port g.book x k) ≡ 0
  pub stands : StandsForSome g x

-- two that do
pub record AreUnlinked (g : Objects Obj) (f t : ℕ) : Type 0 where
  pub different : t ≡ f → ⊥
  pub first : LivesUnlinked g f
  pub other : LivesUnlinked g t

-- slots 2 and 3 of x, to which nothing is plugged, are open
abbrev pub HasFreeSlots : Objects Obj → ℕ → Type 0
HasFreeSlots g x = (port g.book x 2 ≡ Open) × (port g.book x 3 ≡ Open)

-- what the outside is given where they are closed
abbrev pub free_slot_notices : ℕ → Cause → List Notice
free_slot_notices x c = tells (Closed (port_at x 2) c) ∷ tells (Closed (port_at x 3) c) ∷ []

-- They were closed: a slot of x that had no link has none, and all ports of the others are as they were.
pub record ClosesFreeSlots (ids : List ℕ) (g h : Objects Obj) (before after : Heard) (x : ℕ) (c : Cause) : Type 0 where
  pub unlinked : (k : ℕ) → link_count (port g.book x k) ≡ 0 → link_count (port h.book x k) ≡ 0
  pub others : (y k : ℕ) → (y ≡ x → ⊥) → port h.book y k ≡ port g.book y k
  pub gives : CallGives (IsEventWithin (is_one_of ids)) g h before after (free_slot_notices x c)

-- So they are of one of a chain's objects, which goes on.
pub record FreesSlots (ids : List ℕ) (g h : Objects Obj) (before after : Heard) (x : ℕ) (c : Cause) : Type 0 where
  pub on : AreStillChained ids g h
  pub free : HasFreeSlots g x → ClosesFreeSlots ids g h before after x c

-- of a chain, by what it has below its top object: none of its objects has a link
abbrev pub HasNoLinks : Option ObjId → ℕ → Objects Obj → Type 0
HasNoLinks None x g = LivesUnlinked g x
HasNoLinks (Some t) x g = AreUnlinked g x t.0

-- what the outside is given where the free slots of all its objects are closed
abbrev pub free_notices : ℕ → Option ObjId → Cause → List Notice
free_notices x None c = free_slot_notices x c
free_notices x (Some t) c = free_slot_notices x c ++ free_slot_notices t.0 c

-- the cause of a close of a port of one of these, and that of the first among what is given
abbrev pub close_among : List ℕ → Notice → Option Cause
close_among ids (event e) = if e.event == 8 then (if is_one_of ids e.object then Some e.cause else None) else None
close_among ids (message from tag rec a b bytes) = None

abbrev pub first_close_among : List ℕ → List Notice → Option Cause
first_close_among ids [] = None
first_close_among ids (n ∷ ns) = or_else (close_among ids n) (first_close_among ids ns)
