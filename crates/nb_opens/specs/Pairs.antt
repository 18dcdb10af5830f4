-- The two objects of an open, a Fetch f and the Tftp t plugged to it, on a graph on which nothing else lives. Our own.
use Rattle.std.specs.Prelude.{◌≡◌, ◌⊎◌, ◌<◌, ◌≤◌, ℕ, ◌==◌, true, false, List, [], ◌∷◌, ◌++◌, length, Option, Some, None, IfSome, if◌then◌else◌}
use Rattle.std.specs.Option.{is_some}
use Rattle.nb_terms.specs.declared.acts.Acts.{Acts}
use Rattle.nb_terms.specs.declared.cause.Cause.{Cause}
use Rattle.nb_ledger.specs.declared.port.Port.{Port}
use Rattle.nb_ledger.specs.declared.port.PortState.TheVariants.{Open, Linked, Closed}
use Rattle.nb_ledger.specs.declared.event.Way.{Way}
use Rattle.nb_ledger.specs.Flat.{Notice}
use Rattle.nb_ledger.specs.Ledger.{port, holds, rank, object_lives}
use Rattle.nb_graph.specs.Deeds.{no_memory}
use Rattle.nb_graph.specs.Lived.{ObjectStands}
use Rattle.nb_graph.specs.Trace.{NodeEntry}
use Rattle.nb_graph.specs.Whole.{Objects, port_at}
use Rattle.nb_tftp.specs.Asks.{Begun}
use Rattle.nb_tftp.specs.History.{Call, Entry, entry, given_of}
use Rattle.nb_tftp.specs.Sentences.{Meets}
use Rattle.nb_nodes.specs.declared.load.Load.{Load}
use Rattle.nb_nodes.specs.declared.load.Load.TheVariants as load
use Rattle.nb_nodes.specs.declared.obj.Obj.{Obj}
use Rattle.nb_nodes.specs.Conversations.{unbegun, under_way, RunsTo, first_acts}
use Rattle.nb_nodes.specs.Fetches.{gathers, closed_well, taken_below}
use Rattle.nb_nodes.specs.Objects.{kind_of_obj, rank_of_obj, mark_of_obj}
use Rattle.nb_nodes.specs.Standing.{ObjStands}
use Rattle.nb_opens.specs.Marks.{IsOfKind}
use Rattle.nb_opens.specs.Notices.{call_notices, large_notices, begun_notices, first_close}

-- both live, of which the Tftp was made last of all, with a hold each, and nothing else does; their slots 2 and 3 are open
pub record AreTwo (g : Objects Obj) (f t : ℕ) : Type 0 where
  pub older : f < t
  pub last : g.book.made ≡ t
  pub fetch_lives : object_lives g.book f ≡ true
  pub tftp_lives : object_lives g.book t ≡ true
  pub alone : (x : ℕ) → (x ≡ f → ⊥) → (x ≡ t → ⊥) → object_lives g.book x ≡ false
  pub fetch_held : holds g.book f ≡ 1
  pub tftp_held : holds g.book t ≡ 1
  pub fetch_rank : rank g.book f ≡ 5
  pub tftp_rank : rank g.book t ≡ 2
  pub fetch_2 : port g.book f 2 ≡ Open
  pub fetch_3 : port g.book f 3 ≡ Open
  pub tftp_2 : port g.book t 2 ≡ Open
  pub tftp_3 : port g.book t 3 ≡ Open

-- the Tftp is plugged to the Fetch, and the outer ports are open
pub record ArePlugged (g : Objects Obj) (f t : ℕ) : Type 0 where
  pub two : AreTwo g f t
  pub user : port g.book f 0 ≡ Open
  pub link : port g.book f 1 ≡ Linked (port_at t 0)
  pub back : port g.book t 0 ≡ Linked (port_at f 1)
  pub below : port g.book t 1 ≡ Open

-- nothing was handed out by the two
abbrev pub AreUnharvested : Objects Obj → ℕ → ℕ → Type 0
AreUnharvested g f t = IsOfKind g f 0 × IsOfKind g t 0

-- nothing was asked of them yet
pub record AreMade (g : Objects Obj) (f t : ℕ) : Type 0 where
  pub joined : ArePlugged g f t
  pub fetch : ObjectStands ObjStands g f []
  pub tftp : ObjectStands ObjStands g t []
  pub unharvested : AreUnharvested g f t

-- a Tftp of which nothing was asked, by its kind, rank and mark
abbrev pub IsNewTftp : Obj → Type 0
IsNewTftp n = (kind_of_obj n ≡ 4) × (rank_of_obj n ≡ 2) × (mark_of_obj n ≡ 0)

-- an image has at most 268,435,456 bytes
abbrev pub BodyFits : List ℕ → Type 0
BodyFits body = length body ≤ 268435456

-- the body in what an object hands out
abbrev pub body_in : Option Load → Option (List ℕ)
body_in None = None
body_in (Some (load.Body body)) = Some body
body_in (Some (load.Datagram acts)) = None
body_in (Some (load.Conn c)) = None
body_in (Some (load.Text text)) = None

-- A transfer is under way: it was begun so, at a time; these calls were made of it, with what it asked; and these bytes
-- of the file have come.
pub record Downloads (g : Objects Obj) (f t : ℕ) (b : Begun) (start : ℕ) (calls : List Entry) (body : List ℕ) : Type 0 where
  pub joined : ArePlugged g f t
  pub above : List (NodeEntry Obj Load)
  pub below : List (NodeEntry Obj Load)
  pub fetch : ObjectStands ObjStands g f above
  pub tftp : ObjectStands ObjStands g t below
  pub gathering : gathers above ≡ true
  pub taken : taken_below above ≡ body
  pub fits : BodyFits body
  pub talk : RunsTo unbegun below (under_way b start calls)
  pub meets : Meets b start calls
  pub unharvested : AreUnharvested g f t

-- the four ports between the user and what is below are closed
pub record AreShut (g : Objects Obj) (f t : ℕ) : Type 0 where
  pub two : AreTwo g f t
  pub user : port g.book f 0 ≡ Closed
  pub link : port g.book f 1 ≡ Closed
  pub back : port g.book t 0 ≡ Closed
  pub below : port g.book t 1 ≡ Closed

-- The open has ended, and the Fetch has this body to hand out, or none.
pub record HasHandedOut (g : Objects Obj) (f t : ℕ) (body : Option (List ℕ)) : Type 0 where
  pub shut : AreShut g f t
  pub above : List (NodeEntry Obj Load)
  pub fetch : ObjectStands ObjStands g f above
  pub well : closed_well above ≡ is_some body
  pub taken : IfSome body (λ bytes. taken_below above ≡ bytes)
  pub unharvested : AreUnharvested g f t

-- the body of an open that ended with this cause
abbrev pub body_at_end : Cause → List ℕ → Option (List ℕ)
body_at_end c body = if c.code == 0 then Some body else None

-- What a datagram or a time does to the two, by what the transfer asks then, and what the outside is told. Out of
-- memory shows in the first close.
pub data CallDoes (g : Objects Obj) (f t : ℕ) (b : Begun) (start : ℕ) (calls : List Entry) (body : List ℕ) (p : Port) (by : Way) (rec : ℕ) (call : Call) (ns : List Notice) : Type 0 where
  goes_on : (acts : Acts) → Meets b start (calls ++ entry call acts ∷ []) → acts.over ≡ None → BodyFits (body ++ given_of call acts.give) →
      ns ≡ call_notices f t p by rec acts → Downloads g f t b start (calls ++ entry call acts ∷ []) (body ++ given_of call acts.give) →
      CallDoes g f t b start calls body p by rec call ns
  is_over : (acts : Acts) (c : Cause) → Meets b start (calls ++ entry call acts ∷ []) → acts.over ≡ Some c → BodyFits (body ++ given_of call acts.give) →
      ns ≡ call_notices f t p by rec acts → HasHandedOut g f t (body_at_end c (body ++ given_of call acts.give)) →
      CallDoes g f t b start calls body p by rec call ns
  is_too_large : (acts : Acts) → Meets b start (calls ++ entry call acts ∷ []) → 268435456 < length (body ++ given_of call acts.give) →
      ns ≡ large_notices f t p by rec acts → HasHandedOut g f t None →
      CallDoes g f t b start calls body p by rec call ns
  fails : first_close ns ≡ Some no_memory → CallDoes g f t b start calls body p by rec call ns

-- some transfer is under way
abbrev pub IsDownloading : Objects Obj → ℕ → ℕ → Type 0
IsDownloading g f t = (b : Begun) × (start : ℕ) × (calls : List Entry) × (body : List ℕ) × Downloads g f t b start calls body

-- two that were made, or of which a transfer is under way
abbrev pub AreGoing : Objects Obj → ℕ → ℕ → Type 0
AreGoing g f t = AreMade g f t ⊎ IsDownloading g f t

-- what the user's asking does, by what the outside is told: the request leaves, or memory runs out
pub data BeginDoes (g : Objects Obj) (f t : ℕ) (b : Begun) (now rec : ℕ) (ns : List Notice) : Type 0 where
  begins : ns ≡ begun_notices f t rec (first_acts b) → Downloads g f t b now [] [] → BeginDoes g f t b now rec ns
  fails_at_once : first_close ns ≡ Some no_memory → BeginDoes g f t b now rec ns
