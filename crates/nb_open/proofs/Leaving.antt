-- The objects of an open are let go, also after the user closed them: what is told, and what is left.
use Rattle.std.proofs.Common.{◌≡◌, ℕ, List, [], ◌∷◌, ◌++◌, Option, Some, None, subst, ◌∙◌, ap, refl}
use Rattle.nb_terms.specs.declared.cause.Cause.{Cause}
use Rattle.nb_ledger.specs.declared.event.GraphEvent.{GraphEvent}
use Rattle.nb_ledger.specs.declared.event.GraphEvent.TheVariants.{LetGo, Freed}
use Rattle.nb_ledger.specs.GraphRun.{GraphRunOf}
use Rattle.nb_ledger.specs.Flat.{Heard, Notice}
use Rattle.nb_ledger.specs.Ledger.{Ledger, run_state}
use Rattle.nb_graph.specs.Whole.{Objects}
use Rattle.nb_frames.specs.Frames.{is_one_of}
use Rattle.nb_frames.specs.Within.{IsEventWithin}
use Rattle.nb_nodes.specs.declared.obj.Obj.{Obj}
use Rattle.nb_opens.specs.Notices.{first_close, or_else, serial}
use Rattle.nb_opens.proofs.CloseLemmas.{first_close-append}
use Rattle.nb_ledger.specs.declared.port.ObjId.{ObjId}
use Rattle.nb_chains.specs.declared.chain.Chain.{Chain}
use Rattle.nb_chains.specs.Calls.{ClosesChain, IsOpenChain}
use Rattle.nb_chains.specs.Chains.{last_serial, released_by, released_notices}
use Rattle.nb_chains.specs.Giving.{CallGives}
use Rattle.nb_chains.specs.Shapes.{SendsNone}
use Rattle.nb_chains.proofs.GivingLemmas.{gives_both}
use Rattle.nb_webchains.specs.WebCalls.{freed_each}
use Rattle.nb_webchains.specs.WebChains.{AreOfWeb, web_ids}
use Rattle.nb_drivechains.specs.DriveChains.{drive_ids}
use Rattle.nb_open.specs.declared.ended.Ended.{Ended}
use Rattle.nb_open.specs.declared.objects.OpenObjects.{OpenObjects}
use Rattle.nb_open.specs.declared.objects.OpenObjects.TheVariants as objects
use Rattle.nb_open.specs.Objects.{AreObjectsOpen, AreObjectsReleased, AreObjectsStill, ClosesObjects, ReleasesObjects, objects_ids}
use Rattle.nb_open.specs.Settling.{LetsObjectsGo}
use Rattle.nb_open.proofs.Callings.{AreInOrder, above_order, order_more, web_order}
use Rattle.nb_open.proofs.Delivering.{AreEvents}
use Rattle.nb_open.proofs.DriveOrders.{IsDriveAt, drive_closing_order}
use Rattle.nb_open.proofs.Quiet.{AreQuiet, quiet_above}
use Rattle.nb_open.proofs.Endings.{ObjectsGive, closed_first, last_object, released_after, released_chain, released_events}

-- the same graph but for what its nodes have
pub gives_from : (may : GraphEvent → Type 0) (g a h : Objects Obj) (m n : Heard) (ns : List Notice) → a.book ≡ g.book → CallGives may a h m n ns → CallGives may g h m n ns
gives_from may g a h m n ns same k = record {
  given = k.given;
  events = k.events;
  are = k.are;
  run = subst (λ (l : Ledger). GraphRunOf (run_state l []) k.events (run_state h.book [])) same k.run;
  within = k.within;
}

-- what is told where objects are let go
abbrev pub leaving_notices : OpenObjects → List Notice
leaving_notices (objects.Chain kind chain) = released_notices chain
leaving_notices (objects.Web port own chain) = freed_each (web_ids chain)
leaving_notices (objects.Drive port own chain) = freed_each (drive_ids chain)

pub leaving_events : (o : OpenObjects) → AreEvents (leaving_notices o)
leaving_events (objects.Chain kind chain) = released_events chain.top.0 chain.below
leaving_events (objects.Web port own chain) = (tt, (tt, (tt, (tt, (tt, (tt, tt))))))
leaving_events (objects.Drive port own chain) = (tt, (tt, (tt, (tt, (tt, (tt, tt))))))

pub freed_above : (x : ℕ) (ids : List ℕ) → SendsNone x (freed_each ids)
freed_above x [] = tt
freed_above x (y ∷ ys) = ((LetGo (serial y), refl, tt), ((Freed (serial y), refl, tt), freed_above x ys))

released_above : (x y : ℕ) (below : Option ObjId) → SendsNone x (released_by y below)
released_above x y None = ((LetGo (serial y), refl, tt), ((Freed (serial y), refl, tt), tt))
released_above x y (Some t) = ((LetGo (serial y), refl, tt), ((Freed (serial y), refl, tt), ((LetGo (serial t.0), refl, tt), ((Freed (serial t.0), refl, tt), tt))))

-- nothing goes to the network then
leaving_above : (o : OpenObjects) → SendsNone (last_object o) (leaving_notices o)
leaving_above (objects.Chain kind chain) = released_above (last_object (objects.Chain kind chain)) chain.top.0 chain.below
leaving_above (objects.Web port own chain) = freed_above chain.conn.0 (web_ids chain)
leaving_above (objects.Drive port own chain) = freed_above chain.conn.0 (drive_ids chain)

pub leaving_quiet : (o : OpenObjects) → AreQuiet (leaving_notices o)
leaving_quiet o = quiet_above (last_object o) (leaving_notices o) (leaving_above o)

-- Objects are let go: what was told of it, and what is left.
pub record Leaves (o : OpenObjects) (old new : Objects Obj) (m n : Heard) (more : List Notice) : Type 0 where
  pub gives : ObjectsGive o old new m n more
  pub order : AreInOrder (last_object o) None more
  pub released : AreObjectsReleased o old new

pub releases_leave : (o : OpenObjects) (old new : Objects Obj) (m n : Heard) → ReleasesObjects o old new m n → Leaves o old new m n (leaving_notices o)
releases_leave (objects.Chain kind chain) old new m n r = record {
  gives = r.gives;
  order = above_order (last_object (objects.Chain kind chain)) (released_notices chain) (leaving_above (objects.Chain kind chain));
  released = released_chain chain old new r.released;
}
releases_leave (objects.Web port own chain) old new m n r = record {
  gives = r.gives;
  order = above_order chain.conn.0 (freed_each (web_ids chain)) (leaving_above (objects.Web port own chain));
  released = r.released;
}
releases_leave (objects.Drive port own chain) old new m n r = record {
  gives = r.gives;
  order = above_order chain.conn.0 (freed_each (drive_ids chain)) (leaving_above (objects.Drive port own chain));
  released = r.released;
}

-- also after what they brought is handed out
pub leaves_by : (o : OpenObjects) (e : Ended) (old new : Objects Obj) (m n : Heard) → LetsObjectsGo o e old new m n → Leaves o old new m n (leaving_notices o)
leaves_by o e old new m n l =
    let left = releases_leave o l.mid new m n l.releases in
    record {
      gives = gives_from (IsEventWithin (is_one_of (objects_ids o))) old l.mid new m n (leaving_notices o) l.same_book left.gives;
      order = left.order;
      released = released_after (objects_ids o) old l.mid new l.on left.released;
    }

-- AFTER THE USER CLOSED THEM

-- the three are a Fetch, a fetch by HTTP and a connection, or those of a drive that goes on
abbrev pub AreOfTheirKinds : OpenObjects → Objects Obj → Type 0
AreOfTheirKinds (objects.Chain kind chain) g = Unit {0}
AreOfTheirKinds (objects.Web port own chain) g = AreOfWeb chain g
AreOfTheirKinds (objects.Drive port own chain) g = IsDriveAt chain g

-- what is told where the user closes them
abbrev pub closing_told : (o : OpenObjects) (cause : Cause) (old new : Objects Obj) (m n : Heard) → ClosesObjects o old new cause m n → List Notice
closing_told (objects.Chain kind chain) cause old new m n k = k.ns
closing_told (objects.Web port own chain) cause old new m n k = k.ns
closing_told (objects.Drive port own chain) cause old new m n k = k.ns

-- of a chain nothing goes to the network
pub closing_quiet : (c : Chain) (cause : Cause) (old new : Objects Obj) (m n : Heard) (k : ClosesChain c old new cause m n) → IsOpenChain c old → AreQuiet k.ns
closing_quiet c cause old new m n k is_open = quiet_above (last_serial c) k.ns (k.shape is_open)

-- it is a call on these objects, and its first close has the cause
pub record ClosesFirst (o : OpenObjects) (cause : Cause) (old new : Objects Obj) (m n : Heard) (ns : List Notice) : Type 0 where
  pub gives : ObjectsGive o old new m n ns
  pub order : AreInOrder (last_object o) None ns
  pub close : first_close ns ≡ Some cause

pub closes_first : (o : OpenObjects) (cause : Cause) (old new : Objects Obj) (m n : Heard) → AreObjectsOpen o old → AreOfTheirKinds o old → (k : ClosesObjects o old new cause m n) → ClosesFirst o cause old new m n (closing_told o cause old new m n k)
closes_first (objects.Chain kind chain) cause old new m n is_open are k = record {
  gives = k.gives;
  order = above_order (last_object (objects.Chain kind chain)) k.ns (k.shape is_open);
  close = ap first_close (k.are is_open) ∙ closed_first chain.top.0 chain.below cause;
}
closes_first (objects.Web port own chain) cause old new m n is_open are k = record {
  gives = k.gives;
  order = web_order chain.conn.0 None k.ns (k.order is_open are);
  close = ap first_close (k.first is_open).1;
}
closes_first (objects.Drive port own chain) cause old new m n is_open are k = record {
  gives = k.gives;
  order = drive_closing_order chain old new m n cause is_open are k;
  close = ap first_close (k.first is_open).1;
}

-- so they are let go, and what was told is a call that closes them
pub record ClosesAndLeaves (o : OpenObjects) (cause : Cause) (old new : Objects Obj) (m n : Heard) (ns : List Notice) : Type 0 where
  pub left : Leaves o old new m n (ns ++ leaving_notices o)
  pub close : first_close (ns ++ leaving_notices o) ≡ Some cause

pub closes_then : (o : OpenObjects) (cause : Cause) (old mid new : Objects Obj) (m k n : Heard) → AreObjectsOpen o old → AreOfTheirKinds o old → AreObjectsStill o old mid → (closes : ClosesObjects o old mid cause m k) →
    Leaves o mid new k n (leaving_notices o) → ClosesAndLeaves o cause old new m n (closing_told o cause old mid m k closes)
closes_then o cause old mid new m k n is_open are on closes rest =
    let ns = closing_told o cause old mid m k closes in
    let first = closes_first o cause old mid m k is_open are closes in
    record {
      left = record {
        gives = gives_both (IsEventWithin (is_one_of (objects_ids o))) old mid new m k n ns (leaving_notices o) first.gives rest.gives;
        order = order_more (last_object o) None ns (leaving_notices o) first.order rest.order;
        released = released_after (objects_ids o) old mid new on rest.released;
      };
      close = first_close-append ns (leaving_notices o) ∙ ap (λ z. or_else z (first_close (leaving_notices o))) first.close;
    }

pub closes_leave : (o : OpenObjects) (e : Ended) (cause : Cause) (old mid new : Objects Obj) (m k n : Heard) → AreObjectsOpen o old → AreOfTheirKinds o old → AreObjectsStill o old mid → (closes : ClosesObjects o old mid cause m k) →
    LetsObjectsGo o e mid new k n → ClosesAndLeaves o cause old new m n (closing_told o cause old mid m k closes)
closes_leave o e cause old mid new m k n is_open are on closes lets = closes_then o cause old mid new m k n is_open are on closes (leaves_by o e mid new k n lets)
