-- The objects of an open are made, or what is missing of them below what waits.
use Rattle.std.specs.Prelude.{◌≡◌, ℕ, ◌+◌, ◌<◌, ◌≤◌, ◌^◌, false, true, List, [], ◌++◌, length, Option, Some, None}
use Rattle.nb_ledger.specs.Flat.{Heard, Notice}
use Rattle.nb_ledger.specs.Ledger.{run_state}
use Rattle.nb_graph.specs.Noded.{AreNoded}
use Rattle.nb_graph.specs.Whole.{Objects}
use Rattle.nb_frames.specs.Frames.{KeepsObject, is_one_of}
use Rattle.nb_nodes.specs.declared.obj.Obj.{Obj}
use Rattle.nb_nodes.specs.Asking.{ask_in, ask_value}
use Rattle.nb_nodes.specs.Objects.{rank_of_obj}
use Rattle.nb_nodes.specs.EchoExchanges.{ping_asked, pinged_by}
use Rattle.nb_nodes.specs.LeaseExchanges.{asker_of, lease_asked}
use Rattle.nb_nodes.specs.LookupExchanges.{lookup_ask_value, lookup_asked, lookup_for}
use Rattle.nb_stack.specs.Client.{Client}
use Rattle.nb_defs.specs.Records.{Out, out_texts}
use Rattle.nb_terms.specs.declared.cause.Cause.{Cause}
use Rattle.nb_traced.specs.Outputs.{IsNewest}
use Rattle.nb_chains.specs.declared.chain.Chain.{Chain}
use Rattle.nb_chains.specs.declared.kind.ChainKind.{ChainKind}
use Rattle.nb_chains.specs.Calls.{BeginsChain}
use Rattle.nb_chains.specs.Chains.{AreChained, Awaits, GrowsBy, IsReadyChain, chain_ids, completes_notices, last_serial, waits_notices}
use Rattle.nb_chains.specs.Giving.{MakingGives}
use Rattle.nb_chains.specs.Kinds.{count_below}
use Rattle.nb_teller.specs.Spelling.{Spelling}
use Rattle.nb_open.specs.declared.open.Open.{Open}
use Rattle.nb_open.specs.declared.opening.Opening.{Opening}
use Rattle.nb_open.specs.declared.opening.Opening.TheVariants as asked
use Rattle.nb_open.specs.Begins.{IsLatest, SetsOutOr}
use Rattle.nb_chains.specs.declared.kind.ChainKind.TheVariants.{File}
use Rattle.nb_drivechains.specs.declared.drive_chain.DriveChain.{DriveChain}
use Rattle.nb_drivechains.specs.DriveChains.{IsReadyDrive, drive_ids, drive_notices, three_of, unit_notices}
use Rattle.nb_drivenodes.specs.DriveAsks.{ask_parts_of, drive_ask_in}
use Rattle.nb_webchains.specs.declared.web_chain.WebChain.{WebChain}
use Rattle.nb_webchains.specs.Plugs.{web_notices}
use Rattle.nb_webchains.specs.WebChains.{GrowsTo, IsReadyWeb, web_ids}
use Rattle.nb_webchains.specs.WebCalls.{DoesWeb, WebMakes, begins_web}
use Rattle.nb_webnodes.specs.WebAsks.{ask_parts, web_ask_in}
use Rattle.nb_open.specs.declared.objects.OpenObjects.{OpenObjects}
use Rattle.nb_open.specs.declared.objects.OpenObjects.TheVariants as objects
use Rattle.nb_open.specs.Objects.{AreObjectsReleased, AreObjectsStill}
use Rattle.nb_open.specs.Opening.{address_by, chain_kind, is_drive_opening, is_joined, is_web, port_by}

-- how many are made
abbrev pub count_made : Option Chain → ChainKind → ℕ
count_made None kind = 1 + count_below kind
count_made (Some w) kind = count_below kind

-- what is told then
abbrev pub making_notices : Option Chain → ChainKind → Chain → List Notice
making_notices None kind c = waits_notices kind c.top.0 ++ completes_notices kind c
making_notices (Some w) kind c = completes_notices kind c

-- the top object is new, or is what waits
abbrev pub IsTopOf : Option Chain → Objects Obj → Chain → Type 0
IsTopOf None old c = c.top.0 ≡ old.book.made + 1
IsTopOf (Some w) old c = c.top ≡ w.top

-- They were made for an open of this kind, and nothing was asked of them.
pub record MakesChain (kind : ChainKind) (waits : Option Chain) (c : Chain) (old new : Objects Obj) (before after : Heard) : Type 0 where
  pub ready : IsReadyChain kind c new
  pub chained : AreChained new (chain_ids c)
  pub gives : MakingGives c old new before after (making_notices waits kind c)
  pub top : IsTopOf waits old c
  pub made : new.book.made ≡ old.book.made + count_made waits kind
  pub number : length new.book.objects ≡ length old.book.objects + count_made waits kind
  pub same_room : new.book.room ≡ old.book.room
  pub others : (y : ℕ) → y ≤ old.book.made → is_one_of (chain_ids c) y ≡ false → KeepsObject old new y
  pub noded : AreNoded rank_of_obj new
  pub newest : IsLatest waits old → IsNewest (run_state new.book []) (last_serial c)

-- The top object of such an open was made alone, and waits.
pub record WaitsNew (kind : ChainKind) (c : Chain) (old new : Objects Obj) (before after : Heard) : Type 0 where
  pub serial : c.top.0 ≡ old.book.made + 1
  pub waits : Awaits kind c new
  pub grows : GrowsBy 1 c old new
  pub gives : MakingGives c old new before after (waits_notices kind c.top.0)

-- The same of an open by HTTP: three, or the two below a Fetch that waits.
abbrev pub count_made_web : Option Chain → ℕ
count_made_web None = 3
count_made_web (Some w) = 2

abbrev pub making_web_notices : Option Chain → WebChain → List Notice
making_web_notices None c = waits_notices File c.fetch.0 ++ web_notices c
making_web_notices (Some w) c = web_notices c

abbrev pub IsFetchOf : Option Chain → Objects Obj → WebChain → Type 0
IsFetchOf None old c = c.fetch.0 ≡ old.book.made + 1
IsFetchOf (Some w) old c = c.fetch ≡ w.top

-- They are there, and nothing was asked of them.
pub record WebMade (waits : Option Chain) (c : WebChain) (old new : Objects Obj) (before after : Heard) : Type 0 where
  pub ready : IsReadyWeb c new
  pub gives : WebMakes c old new before after (making_web_notices waits c)
  pub top : IsFetchOf waits old c
  pub grows : GrowsTo (count_made_web waits) (web_ids c) old new

-- and no object that lives is newer
pub record MakesWeb (waits : Option Chain) (c : WebChain) (old new : Objects Obj) (before after : Heard) : Type 0 where
  pub made : WebMade waits c old new before after
  pub noded : AreNoded rank_of_obj new
  pub newest : IsLatest waits old → IsNewest (run_state new.book []) c.conn.0

-- The same of a drive: three, or the two below a unit that waits.
abbrev pub making_drive_notices : Option Chain → DriveChain → List Notice
making_drive_notices None c = unit_notices c.unit ++ drive_notices c
making_drive_notices (Some w) c = drive_notices c

pub record DriveMade (waits : Option Chain) (c : DriveChain) (old new : Objects Obj) (before after : Heard) : Type 0 where
  pub ready : IsReadyDrive c new
  pub gives : WebMakes (three_of c) old new before after (making_drive_notices waits c)
  pub top : IsFetchOf waits old (three_of c)
  pub grows : GrowsTo (count_made_web waits) (drive_ids c) old new

pub record MakesDrive (waits : Option Chain) (c : DriveChain) (old new : Objects Obj) (before after : Heard) : Type 0 where
  pub made : DriveMade waits c old new before after
  pub noded : AreNoded rank_of_obj new
  pub newest : IsLatest waits old → IsNewest (run_state new.book []) c.conn.0

-- They were made for what is asked.
abbrev pub MakesObjectsOf : Opening → Option Chain → OpenObjects → Objects Obj → Objects Obj → Heard → Heard → Type 0
MakesObjectsOf a waits (objects.Chain kind chain) old new before after =
    (is_joined a ≡ false) × (kind ≡ chain_kind a) × MakesChain kind waits chain old new before after
MakesObjectsOf a waits (objects.Web port own chain) old new before after =
    (is_web a ≡ true) × (port ≡ port_by a) × (own ≡ address_by a) × MakesWeb waits chain old new before after
MakesObjectsOf a waits (objects.Drive port own chain) old new before after =
    (is_drive_opening a ≡ true) × (port ≡ port_by a) × (own ≡ address_by a) × MakesDrive waits chain old new before after

-- these bytes ask for what the open does
abbrev pub IsAskOf : Opening → List ℕ → Type 0
IsAskOf (asked.File a) bytes = ask_in bytes ≡ Some (ask_value a)
IsAskOf (asked.Web a) bytes = web_ask_in (length a.ask.host.now) bytes ≡ Some (ask_parts a.ask)
IsAskOf (asked.Drive a) bytes = drive_ask_in bytes ≡ Some (ask_parts_of a.ask)
IsAskOf (asked.Name a) bytes = lookup_asked bytes ≡ Some (lookup_for (lookup_ask_value a))
IsAskOf (asked.Lease a) bytes = lease_asked bytes ≡ Some (asker_of a)
IsAskOf (asked.Echo a) bytes = ping_asked bytes ≡ Some (pinged_by a)

-- of an open by HTTP so many of them are the host
abbrev pub host_length : Opening → ℕ
host_length (asked.File a) = 0
host_length (asked.Web a) = length a.ask.host.now
host_length (asked.Drive a) = 0
host_length (asked.Name a) = 0
host_length (asked.Lease a) = 0
host_length (asked.Echo a) = 0

-- the user asks by such bytes
pub record AsksChain (a : Opening) (c : Chain) (old new : Objects Obj) (now rec : ℕ) (before after : Heard) : Type 0 where
  pub bytes : List ℕ
  pub asks : IsAskOf a bytes
  pub begins : BeginsChain c old new bytes now rec before after

-- and so of an open by HTTP, which is told how many of them are the host
pub record AsksWeb (a : Opening) (c : WebChain) (old new : Objects Obj) (now rec : ℕ) (before after : Heard) : Type 0 where
  pub bytes : List ℕ
  pub asks : IsAskOf a bytes
  pub short : length bytes < 2 ^ 32
  pub does : DoesWeb c now (begins_web c rec (host_length a) bytes) None old new before after

-- and so of a drive
abbrev pub AsksDrive : Opening → DriveChain → Objects Obj → Objects Obj → ℕ → ℕ → Heard → Heard → Type 0
AsksDrive a c old new now rec before after = AsksWeb a (three_of c) old new now rec before after

abbrev pub AsksObjects : Opening → OpenObjects → Objects Obj → Objects Obj → ℕ → ℕ → Heard → Heard → Type 0
AsksObjects a (objects.Chain kind chain) old new now rec before after = AsksChain a chain old new now rec before after
AsksObjects a (objects.Web port own chain) old new now rec before after = AsksWeb a chain old new now rec before after
AsksObjects a (objects.Drive port own chain) old new now rec before after = AsksDrive a chain old new now rec before after

-- its objects live on, or are gone
abbrev pub GoesOnOr : Option Cause → Open → Objects Obj → Objects Obj → Type 0
GoesOnOr None o g h = AreObjectsStill o.objects g h
GoesOnOr (Some cause) o g h = AreObjectsReleased o.objects g h

-- The open sets out, or there is no way to its server.
pub record StartsOpen (a : Opening) (number now : ℕ) (link : Client) (o : Open) (old new : Objects Obj) (s : Spelling) (ended : Option Cause) : Type 0 where
  pub records : List Out
  pub text : s.text ≡ out_texts records
  pub sets_out : SetsOutOr ended a number now link o (run_state old.book []) new records
  pub leaves : GoesOnOr ended o old new
