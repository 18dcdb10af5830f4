-- The one object x of an open that asks and is answered, a Resolver, a Dhcp or a Ping, on a graph on which nothing else
-- lives. Our own.
use Rattle.std.specs.Prelude.{◌≡◌, ℕ, true, false, List, [], ◌∷◌, ◌++◌, Some, None}
use Rattle.nb_terms.specs.declared.acts.Acts.{Acts}
use Rattle.nb_terms.specs.declared.cause.Cause.{Cause}
use Rattle.nb_ledger.specs.declared.port.Port.{Port}
use Rattle.nb_ledger.specs.declared.port.PortState.{PortState}
use Rattle.nb_ledger.specs.declared.port.PortState.TheVariants.{Closed}
use Rattle.nb_ledger.specs.declared.event.Way.{Way}
use Rattle.nb_ledger.specs.declared.event.Way.TheVariants as way
use Rattle.nb_ledger.specs.Flat.{Notice}
use Rattle.nb_ledger.specs.GraphRun.{but_at, new_ports}
use Rattle.nb_ledger.specs.Ledger.{port, holds, object_lives}
use Rattle.nb_graph.specs.Deeds.{no_memory}
use Rattle.nb_graph.specs.Lived.{ObjectStands}
use Rattle.nb_graph.specs.Trace.{NodeEntry, Said}
use Rattle.nb_graph.specs.Whole.{Objects, port_at}
use Rattle.nb_nodes.specs.declared.load.Load.{Load}
use Rattle.nb_nodes.specs.declared.obj.Obj.{Obj}
use Rattle.nb_nodes.specs.Exchanges.{Service, not_begun, asking, AskerLeadsTo}
use Rattle.nb_nodes.specs.Standing.{ObjStands}
use Rattle.nb_opens.specs.Notices.{first_close}
use Rattle.nb_opens.specs.AloneNotices.{alone_call, alone_ignored}
use Rattle.nb_opens.specs.Marks.{IsOfKind}

-- It was made last and lives, with a hold; nothing else does; and its ports are so.
pub record IsLone (g : Objects Obj) (x : ℕ) (slots : ℕ → PortState) : Type 0 where
  pub last : g.book.made ≡ x
  pub lives : object_lives g.book x ≡ true
  pub others : (y : ℕ) → (y ≡ x → ⊥) → object_lives g.book y ≡ false
  pub held : holds g.book x ≡ 1
  pub ports : (k : ℕ) → port g.book x k ≡ slots k

-- all its ports are open
abbrev pub IsOpenLone : Objects Obj → ℕ → Type 0
IsOpenLone g x = IsLone g x new_ports

-- the ports to what is above and below are closed
abbrev pub shut_slots : ℕ → PortState
shut_slots k = but_at 1 Closed (but_at 0 Closed new_ports) k

abbrev pub IsShutLone : Objects Obj → ℕ → Type 0
IsShutLone g x = IsLone g x shut_slots

-- nothing was asked of it yet
pub record IsUnasked (g : Objects Obj) (x kind : ℕ) : Type 0 where
  pub lone : IsOpenLone g x
  pub stands : ObjectStands ObjStands g x []
  pub of_kind : IsOfKind g x kind

-- Its core asks: it was begun so, at a time, and these calls were made of it, which meet its promises.
pub record Talks {S B C : Type 0} (s : Service S B C) (kind : ℕ) (g : Objects Obj) (x : ℕ) (b : B) (start : ℕ) (calls : List C) : Type 0 where
  pub lone : IsOpenLone g x
  pub trace : List (NodeEntry Obj Load)
  pub stands : ObjectStands ObjStands g x trace
  pub run : AskerLeadsTo s not_begun trace (asking b start calls)
  pub meets : s.meets b start calls
  pub of_kind : IsOfKind g x kind

-- What one call more of the core does, in the record rec, and what the outside is told. Out of memory shows in the first
-- close.
pub data AsksMore {S B C : Type 0} (s : Service S B C) (kind : ℕ) (g : Objects Obj) (x : ℕ) (b : B) (start : ℕ) (calls : List C) (p : Port) (by : Way) (rec : ℕ) (call : Acts → C) (ns : List Notice) : Type 0 where
  asks_on : (acts : Acts) → s.meets b start (calls ++ call acts ∷ []) → acts.over ≡ None → ns ≡ alone_call x p by rec acts []
      → Talks s kind g x b start (calls ++ call acts ∷ []) → AsksMore s kind g x b start calls p by rec call ns
  comes_to_end : (acts : Acts) (c : Cause) (given : List Said) → s.meets b start (calls ++ call acts ∷ []) → acts.over ≡ Some c → s.gives rec b (calls ++ call acts ∷ []) given
      → ns ≡ alone_call x p by rec acts given → IsShutLone g x → AsksMore s kind g x b start calls p by rec call ns
  runs_out : first_close ns ≡ Some no_memory → AsksMore s kind g x b start calls p by rec call ns

-- What a message from below does: it is a call of the core, or is none and changes nothing.
pub data AsksOrIgnores {S B C : Type 0} (s : Service S B C) (kind : ℕ) (g : Objects Obj) (x : ℕ) (b : B) (start : ℕ) (calls : List C) (m : Said) (now : ℕ) (ns : List Notice) : Type 0 where
  is_taken : s.takes 1 m ≡ true → AsksMore s kind g x b start calls (port_at x 1) way.Up m.rec (s.received m now) ns → AsksOrIgnores s kind g x b start calls m now ns
  is_ignored : s.takes 1 m ≡ false → ns ≡ alone_ignored (port_at x 1) way.Up → Talks s kind g x b start calls → AsksOrIgnores s kind g x b start calls m now ns
  fails_before : first_close ns ≡ Some no_memory → AsksOrIgnores s kind g x b start calls m now ns

-- the same for each exchange that may be under way, and what a time does
abbrev pub ReceivesEach : {S B C : Type 0} → Service S B C → ℕ → Objects Obj → Objects Obj → ℕ → Said → ℕ → List Notice → Type 0
ReceivesEach {S} {B} {C} s kind old new x m now ns =
    (b : B) (start : ℕ) (calls : List C) → Talks s kind old x b start calls → AsksOrIgnores s kind new x b start calls m now ns

abbrev pub TicksEach : {S B C : Type 0} → Service S B C → ℕ → Objects Obj → Objects Obj → ℕ → ℕ → List Notice → Type 0
TicksEach {S} {B} {C} s kind old new x now ns =
    (b : B) (start : ℕ) (calls : List C) → Talks s kind old x b start calls → AsksMore s kind new x b start calls (port_at x 4) way.Time 0 (s.timed now) ns

-- What the user's asking does, of an object of which nothing was asked: what it asks at first is sent, or memory runs out.
pub data Begins {S B C : Type 0} (s : Service S B C) (kind : ℕ) (g : Objects Obj) (x : ℕ) (b : B) (now rec : ℕ) (ns : List Notice) : Type 0 where
  starts : ns ≡ alone_call x (port_at x 0) way.Down rec (s.opening b) [] → Talks s kind g x b now [] → Begins s kind g x b now rec ns
  fails_at_once : first_close ns ≡ Some no_memory → Begins s kind g x b now rec ns
