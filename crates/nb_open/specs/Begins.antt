-- How an open begins: its objects are made, or those that are missing of what waits, and the user asks; or there is no way to its server, and it
-- has ended.
use Rattle.std.specs.Prelude.{◌≡◌, ◌<◌, ◌≤◌, ℕ, ◌+◌, false, true, List, [], ◌++◌, length, Option, Some, None}
use Rattle.std.specs.List.{AllByRecursion}
use Rattle.nb_terms.specs.declared.cause.Cause.{Cause}
use Rattle.nb_defs.specs.Records.{Out, out_texts}
use Rattle.nb_ledger.specs.declared.event.GraphEvent.{GraphEvent}
use Rattle.nb_ledger.specs.GraphRun.{GraphState, GraphRunOf}
use Rattle.nb_ledger.specs.Ledger.{object_lives, run_state}
use Rattle.nb_graph.specs.Whole.{Objects}
use Rattle.nb_nodes.specs.declared.obj.Obj.{Obj}
use Rattle.nb_traced.specs.Plain.{without_graph}
use Rattle.nb_frames.specs.Frames.{KeepsObject, is_one_of}
use Rattle.nb_stack.specs.Client.{Client}
use Rattle.nb_machine.specs.CommandRecords.{no_route}
use Rattle.nb_machine.specs.Kinds.{first_records}
use Rattle.nb_traced.specs.Holdings.{AreJoined, GraphObject, lowest_of, objects_for, kinds}
use Rattle.nb_machine.specs.Lives.{kind_number}
use Rattle.nb_traced.specs.Outputs.{CallsOpen, IsNewest, own_serials}
use Rattle.nb_traced.specs.Pieces.{AreGone, IsMaking, event_records, first_close_of, pieces_made}
use Rattle.nb_chains.specs.declared.chain.Chain.{Chain}
use Rattle.nb_chains.specs.declared.kind.ChainKind.{ChainKind}
use Rattle.nb_chains.specs.Chains.{Awaits}
use Rattle.nb_teller.specs.Spelling.{Spelling}
use Rattle.nb_open.specs.declared.open.Open.{Open}
use Rattle.nb_open.specs.declared.opening.Opening.{Opening}
use Rattle.nb_open.specs.declared.beginning.Begun.{Begun}
use Rattle.nb_open.specs.Opening.{chain_kind, kind_by, live_by, server_by, speaker_for}
use Rattle.nb_open.specs.Objects.{IsAskedFrom, objects_ids}
use Rattle.nb_open.specs.Open.{IsOpenOf, kin_of_open, objects_pieces, pieces_of}

-- what waits for an open of this kind, if anything does, was made for it
abbrev pub AwaitsFor : ChainKind → Option Chain → Objects Obj → Type 0
AwaitsFor kind None g = Unit {0}
AwaitsFor kind (Some c) g = Awaits kind c g

-- no object that lives was made after what waits
abbrev pub IsLatest : Option Chain → Objects Obj → Type 0
IsLatest None g = Unit {0}
IsLatest (Some c) g = (y : ℕ) → object_lives g.book y ≡ true → y ≤ c.top.0

abbrev pub waiting_pieces : ChainKind → Option Chain → List GraphObject
waiting_pieces kind None = []
waiting_pieces kind (Some c) = pieces_of kind c

-- What is missing of its objects was made and plugged, after these pieces.
pub record MakesObjects (first : List GraphObject) (kind : ChainKind) (number : ℕ) (waits : Option Chain) (o : Open) (old : Objects Obj) (s : Spelling) (mid : GraphState) : Type 0 where
  pub events : List GraphEvent
  pub text : s.text ≡ out_texts (event_records events)
  pub makes : AllByRecursion IsMaking events
  pub run : GraphRunOf (run_state old.book []) events mid
  pub pieces : first ++ objects_pieces o.objects ≡ waiting_pieces kind waits ++ pieces_made events
  pub kinds_are : kinds (objects_pieces o.objects) ≡ objects_for number
  pub joined : AreJoined mid (own_serials (kin_of_open o))
  pub newest : IsLatest waits old → IsNewest mid (lowest_of (own_serials (kin_of_open o)))

-- The user asks, and the first message leaves.
pub record SetsOut (a : Opening) (number now : ℕ) (link : Client) (o : Open) (mid : GraphState) (new : Objects Obj) (records : List Out) : Type 0 where
  pub first : first_records (kind_by a) (live_by a number now) link ≡ Some (without_graph records)
  pub lives : IsOpenOf new o (live_by a number now)
  pub call : CallsOpen (kin_of_open o) None records mid (run_state new.book [])
  pub no_close : first_close_of (own_serials (kin_of_open o)) records ≡ None

-- There is no way to its server: the user closes it, and its objects are let go.
pub record TurnsBackAt (a : Opening) (number now : ℕ) (link : Client) (o : Open) (mid : GraphState) (new : Objects Obj) (records : List Out) : Type 0 where
  pub first : first_records (kind_by a) (live_by a number now) link ≡ None
  pub silent : without_graph records ≡ []
  pub call : CallsOpen (kin_of_open o) None records mid (run_state new.book [])
  pub close : first_close_of (own_serials (kin_of_open o)) records ≡ Some (no_route (server_by a))
  pub gone : AreGone (own_serials (kin_of_open o)) (run_state new.book [])

abbrev pub SetsOutOr : Option Cause → Opening → ℕ → ℕ → Client → Open → GraphState → Objects Obj → List Out → Type 0
SetsOutOr None a number now link o mid new records = SetsOut a number now link o mid new records
SetsOutOr (Some cause) a number now link o mid new records = (cause ≡ no_route (server_by a)) × TurnsBackAt a number now link o mid new records

-- how many objects of the open live afterwards
abbrev pub count_after : Option Cause → Open → ℕ
count_after None o = length (objects_ids o.objects)
count_after (Some cause) o = 0

abbrev pub count_waiting : Option Chain → ℕ
count_waiting None = 0
count_waiting (Some c) = 1

-- All else on the graph is as it was, and the objects of the open are new, but for what waited.
pub record LeavesElse (waits : Option Chain) (b : Begun) (old new : Objects Obj) : Type 0 where
  pub same_room : new.book.room ≡ old.book.room
  pub few : new.book.made ≤ old.book.made + 3
  pub later : old.book.made ≤ new.book.made
  pub number : length new.book.objects + count_waiting waits ≡ length old.book.objects + count_after b.ended b.open
  pub others : (y : ℕ) → y ≤ old.book.made → is_one_of (objects_ids b.open.objects) y ≡ false → KeepsObject old new y
  pub fresh : (y : ℕ) → is_one_of (objects_ids b.open.objects) y ≡ true → y ≤ old.book.made → (c : Chain) × (waits ≡ Some c) × (y ≡ c.top.0)

-- The open begins, or has ended at once.
pub record BeginsOpen (a : Opening) (number now : ℕ) (waits : Option Chain) (link : Client) (old new : Objects Obj) (made told : Spelling) (b : Begun) : Type 0 where
  pub speaker : b.open.speaker ≡ speaker_for a number
  pub asked : IsAskedFrom a b.open.objects
  pub mid : GraphState
  pub makes : MakesObjects [] (chain_kind a) (kind_number (kind_by a)) waits b.open old made mid
  pub records : List Out
  pub text : told.text ≡ out_texts records
  pub sets_out : SetsOutOr b.ended a number now link b.open mid new records
  pub leaves : LeavesElse waits b old new

-- The top object of another open was made before the open's own, and waits.
pub record LeavesBeside (kind : ChainKind) (c : Chain) (b : Begun) (old new : Objects Obj) : Type 0 where
  pub waits : Awaits kind c new
  pub first : c.top.0 ≡ old.book.made + 1
  pub after : (y : ℕ) → is_one_of (objects_ids b.open.objects) y ≡ true → c.top.0 < y
  pub same_room : new.book.room ≡ old.book.room
  pub few : new.book.made ≤ old.book.made + 4
  pub later : old.book.made ≤ new.book.made
  pub number : length new.book.objects ≡ length old.book.objects + (1 + count_after b.ended b.open)
  pub others : (y : ℕ) → y ≤ old.book.made → KeepsObject old new y

-- The same of an open beside which the top object of another, of this kind, waits for that.
pub record BeginsBeside (kind : ChainKind) (a : Opening) (number now : ℕ) (link : Client) (old new : Objects Obj) (made told : Spelling) (c : Chain) (b : Begun) : Type 0 where
  pub speaker : b.open.speaker ≡ speaker_for a number
  pub asked : IsAskedFrom a b.open.objects
  pub mid : GraphState
  pub makes : MakesObjects (pieces_of kind c) (chain_kind a) (kind_number (kind_by a)) None b.open old made mid
  pub records : List Out
  pub text : told.text ≡ out_texts records
  pub sets_out : SetsOutOr b.ended a number now link b.open mid new records
  pub leaves : LeavesBeside kind c b old new
