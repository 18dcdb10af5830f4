-- What a Fetch has gathered over its trace, or where its file is instead, and what it asks for: our own.
use Rattle.std.specs.Prelude.{◌≡◌, ◌<◌, ◌≤◌, ◌^◌, ◌+◌, ◌-◌, ℕ, ◌==◌, ◌&&◌, ◌||◌, Bool, true, false, not, List, [], ◌∷◌, ◌++◌, length, min, nat_lt, Option, Some, None, if◌then◌else◌}
use Rattle.std.specs.List.{flat_map, find}
use Rattle.std.specs.Option.{option_map_or, option_and_then, is_none}
use Rattle.nb_terms.specs.declared.cause.Cause.{Cause}
use Rattle.nb_terms.specs.declared.reason.Large.TheVariants as large
use Rattle.nb_terms.specs.declared.reason.Plain.TheVariants as plain
use Rattle.nb_terms.specs.declared.reason.Reason.TheVariants as reason
use Rattle.nb_terms.specs.Reasons.{as_cause}
use Rattle.nb_effects.specs.declared.effects.Emit.{Emit}
use Rattle.nb_effects.specs.declared.effects.Fx.{Fx}
use Rattle.nb_graph.specs.Trace.{Said, NodeEntry, up, down, closed, time, regain}
use Rattle.nb_graph.specs.Accounts.{taken_by}
use Rattle.nb_nodes.specs.declared.fetch.Fetch.{Fetch}
use Rattle.nb_nodes.specs.declared.fetch.Fetch.TheVariants.{Gathering, Whole, HandedOut, Moved, Failed}
use Rattle.nb_nodes.specs.declared.fetch.Gathered.{Gathered}
use Rattle.nb_nodes.specs.declared.fetch.Gathered.TheVariants.{Taken, TooLarge, Ended, NoMemory}
use Rattle.nb_nodes.specs.declared.load.Load.{Load}
use Rattle.nb_nodes.specs.declared.load.Load.TheVariants as load
use Rattle.nb_nodes.specs.declared.obj.Obj.{Obj}
use Rattle.nb_nodes.specs.declared.tag.Tag.TheVariants.{Begin}
use Rattle.nb_nodes.specs.Tags.{tag_number}
use Rattle.nb_nodes.specs.Carried.{CarriesNothing, AsksNone, both_closes}

-- the causes that a Fetch itself closes with: a body is too large, its file is elsewhere, and its end has come already
abbrev pub body_too_large : Cause
body_too_large = as_cause (reason.TooLarge large.Image)

abbrev pub moved_cause : Cause
moved_cause = as_cause (reason.Plain plain.Ok)

abbrev pub stop_cause : Cause
stop_cause = as_cause (reason.Plain plain.Stopped)

abbrev pub is_gathering : Fetch → Bool
is_gathering (Gathering body alloc) = true
is_gathering (Whole body) = false
is_gathering HandedOut = false
is_gathering (Moved text) = false
is_gathering Failed = false

-- its body is whole, or was and is handed out
abbrev pub is_complete : Fetch → Bool
is_complete (Gathering body alloc) = false
is_complete (Whole body) = true
is_complete HandedOut = true
is_complete (Moved text) = false
is_complete Failed = false

-- its body, while it has one, is this
abbrev pub HasBody : Fetch → List ℕ → Type 0
HasBody (Gathering body alloc) bytes = body ≡ bytes
HasBody (Whole body) bytes = body ≡ bytes
HasBody HandedOut bytes = Unit {0}
HasBody (Moved text) bytes = Unit {0}
HasBody Failed bytes = Unit {0}

-- the URI of its file where that is elsewhere
abbrev pub moved_uri : Fetch → Option (List ℕ)
moved_uri (Gathering body alloc) = None
moved_uri (Whole body) = None
moved_uri HandedOut = None
moved_uri (Moved text) = Some text
moved_uri Failed = None

-- a message from below has the text of a move
abbrev pub brings_move : ℕ → Said → Bool
brings_move slot m = (slot == 1) && (m.tag == 10)

-- nothing is gathered after it: the port above or below was closed, it asks to close one, or it ran out of memory
abbrev pub ends_fetch : NodeEntry Obj Load → Bool
ends_fetch (up slot m now done fx) = not done || nat_lt 0 (length fx.closes.items)
ends_fetch (down m now done fx) = not done
ends_fetch (closed slot cause now fx) = nat_lt slot 2
ends_fetch (time now done fx) = not done
ends_fetch (regain load) = false

-- the first such entry
abbrev pub first_end : List (NodeEntry Obj Load) → Option (NodeEntry Obj Load)
first_end t = find ends_fetch t

-- it is the closing of the port below with Ok
abbrev pub is_ok_close : NodeEntry Obj Load → Bool
is_ok_close (up slot m now done fx) = false
is_ok_close (down m now done fx) = false
is_ok_close (closed slot cause now fx) = (slot == 1) && (cause.code == 0)
is_ok_close (time now done fx) = false
is_ok_close (regain load) = false

abbrev pub closed_well : List (NodeEntry Obj Load) → Bool
closed_well t = option_map_or is_ok_close (first_end t) false

-- it is a move, with this text
abbrev pub moved_by_entry : NodeEntry Obj Load → Option (List ℕ)
moved_by_entry (up slot m now done fx) = if done && brings_move slot m then Some m.bytes else None
moved_by_entry (down m now done fx) = None
moved_by_entry (closed slot cause now fx) = None
moved_by_entry (time now done fx) = None
moved_by_entry (regain load) = None

abbrev pub moved_in : List (NodeEntry Obj Load) → Option (List ℕ)
moved_in t = option_and_then moved_by_entry (first_end t)

-- nothing has ended it
abbrev pub gathers : List (NodeEntry Obj Load) → Bool
gathers t = is_none (first_end t)

-- all that it took by slot 1
abbrev pub taken_below : List (NodeEntry Obj Load) → List ℕ
taken_below t = flat_map (taken_by 1) t

-- a message begins the open, and can be handed down whole
abbrev pub is_handed_down : Said → Bool
is_handed_down m = (m.tag == tag_number Begin) && nat_lt (length m.bytes) (2 ^ 32)

abbrev pub same_down : Said → Emit Load
same_down m = record { slot = 1; tag = m.tag; a = m.a; b = m.b; from = 0; to = length m.bytes; load = None }

-- a Begin goes down as it is, by slot 1, as long as it gathers
abbrev pub handed_down : Bool → Said → Option (Emit Load)
handed_down going m = if going && is_handed_down m then Some (same_down m) else None

-- a port was closed: the one on the other side is closed with that cause, as long as it gathers
abbrev pub passed_close : Bool → ℕ → Cause → List (ℕ × Cause)
passed_close going slot cause = if going && nat_lt slot 2 then (1 - slot, cause) ∷ [] else []

-- What a message from below makes it close: both ports where the body would have more than 268,435,456 bytes, and
-- its port where nothing is gathered any more.
abbrev pub closes_below : Bool → ℕ → List (ℕ × Cause)
closes_below going len = if going then (if nat_lt 268435456 len then both_closes body_too_large else []) else (1, stop_cause) ∷ []

-- where that closes nothing, all of the message is taken, and else nothing
abbrev pub takes_below : Bool → ℕ → ℕ → ℕ
takes_below going before len = if going then (if nat_lt 268435456 (before + len) then 0 else len) else 0

-- what comes by another slot than 1 is taken, and is nothing
abbrev pub up_closes : Bool → ℕ → ℕ → ℕ → List (ℕ × Cause)
up_closes going slot before len = if slot == 1 then closes_below going (before + len) else []

abbrev pub up_takes : Bool → ℕ → ℕ → ℕ → ℕ
up_takes going slot before len = if slot == 1 then takes_below going before len else min len 4294967295

-- what an entry by bytes from below asks for, by those before it
pub record AsksUp (going : Bool) (before slot len : ℕ) (fx : Fx Obj Load) : Type 0 where
  pub sends : CarriesNothing fx
  pub closes : fx.closes.items ≡ up_closes going slot before len
  pub takes : fx.took ≡ up_takes going slot before len

-- Where it gathers, a move is taken whole, and both ports are closed with Ok: the file isn't there, and that is its end. Else
-- its port is closed, as by bytes.
abbrev pub move_closes : Bool → List (ℕ × Cause)
move_closes going = if going then both_closes moved_cause else (1, stop_cause) ∷ []

pub record AsksMove (going : Bool) (len : ℕ) (fx : Fx Obj Load) : Type 0 where
  pub sends : CarriesNothing fx
  pub closes : fx.closes.items ≡ move_closes going
  pub takes : fx.took ≡ (if going then len else 0)

-- what a message from below asks for: a move, or bytes
abbrev pub AsksOfUp : Bool → Bool → ℕ → ℕ → Said → Fx Obj Load → Type 0
AsksOfUp true going before slot m fx = AsksMove going (length m.bytes) fx
AsksOfUp false going before slot m fx = AsksUp going before slot (length m.bytes) fx

pub record AsksHandDown (going : Bool) (m : Said) (fx : Fx Obj Load) : Type 0 where
  pub no_make : fx.makes ≡ None
  pub down : fx.downs.first ≡ handed_down going m
  pub one : fx.downs.second ≡ None
  pub no_up : fx.ups.first ≡ None
  pub no_ups : fx.ups.second ≡ None
  pub no_close : fx.closes.items ≡ []

abbrev pub AsksOfFetch : List (NodeEntry Obj Load) → NodeEntry Obj Load → Type 0
AsksOfFetch before (up slot m now done fx) = done ≡ true → AsksOfUp (brings_move slot m) (gathers before) (length (taken_below before)) slot m fx
AsksOfFetch before (down m now done fx) = done ≡ true → AsksHandDown (gathers before) m fx
AsksOfFetch before (closed slot cause now fx) = CarriesNothing fx × (fx.closes.items ≡ passed_close (gathers before) slot cause)
AsksOfFetch before (time now done fx) = AsksNone fx
AsksOfFetch before (regain load) = Unit {0}

-- a fact of each entry, with those before it
abbrev pub EachOf : (List (NodeEntry Obj Load) → NodeEntry Obj Load → Type 0) → List (NodeEntry Obj Load) → List (NodeEntry Obj Load) → Type 0
EachOf P before [] = Unit {0}
EachOf P before (e ∷ t) = P before e × EachOf P (before ++ e ∷ []) t

-- What a Fetch stands for: its body is what it took by slot 1; it gathers until something ends it, and its body is
-- whole, or was, exactly where slot 1 was closed with Ok before anything else did. Where a move did, it has the text of that.
pub record FetchStands (f : Fetch) (t : List (NodeEntry Obj Load)) : Type 0 where
  pub body : HasBody f (taken_below t)
  pub gathering : is_gathering f ≡ gathers t
  pub whole : is_complete f ≡ closed_well t
  pub moved : moved_uri f ≡ moved_in t
  pub asks : EachOf AsksOfFetch [] t

-- a whole body is handed out once
abbrev pub FetchHarvests : Fetch → Option Load → Fetch → Type 0
FetchHarvests (Gathering body alloc) r new = (r ≡ None) × (new ≡ Gathering body alloc)
FetchHarvests (Whole body) r new = (r ≡ Some (load.Body body)) × (new ≡ HandedOut)
FetchHarvests HandedOut r new = (r ≡ None) × (new ≡ HandedOut)
FetchHarvests (Moved text) r new = (r ≡ None) × (new ≡ Moved text)
FetchHarvests Failed r new = (r ≡ None) × (new ≡ Failed)

-- after bytes from below, after a move, after either, and after a close, each as code
abbrev pub after_bytes_up : Fetch → ℕ → List ℕ → Fetch
after_bytes_up (Gathering body alloc) slot bytes = if slot == 1 then (if nat_lt 268435456 (length body + length bytes) then Failed else Gathering (body ++ bytes) alloc) else Gathering body alloc
after_bytes_up (Whole body) slot bytes = Whole body
after_bytes_up HandedOut slot bytes = HandedOut
after_bytes_up (Moved text) slot bytes = Moved text
after_bytes_up Failed slot bytes = Failed

abbrev pub after_move : Fetch → List ℕ → Fetch
after_move (Gathering body alloc) bytes = Moved bytes
after_move (Whole body) bytes = Whole body
after_move HandedOut bytes = HandedOut
after_move (Moved text) bytes = Moved text
after_move Failed bytes = Failed

abbrev pub after_up : Fetch → ℕ → Said → Fetch
after_up f slot m = if brings_move slot m then after_move f m.bytes else after_bytes_up f slot m.bytes

abbrev pub after_closing : Fetch → ℕ → Cause → Fetch
after_closing (Gathering body alloc) slot cause = if nat_lt slot 2 then (if (slot == 1) && (cause.code == 0) then Whole body else Failed) else Gathering body alloc
after_closing (Whole body) slot cause = Whole body
after_closing HandedOut slot cause = HandedOut
after_closing (Moved text) slot cause = Moved text
after_closing Failed slot cause = Failed

-- how many bytes its body has, 0 where it has none
abbrev pub gathered_len : Fetch → ℕ
gathered_len (Gathering body alloc) = length body
gathered_len (Whole body) = length body
gathered_len HandedOut = 0
gathered_len (Moved text) = 0
gathered_len Failed = 0

-- at an end, with Ok or not
abbrev pub ended_fetch : Fetch → Bool → Fetch
ended_fetch (Gathering body alloc) well = if well then Whole body else Failed
ended_fetch (Whole body) well = Failed
ended_fetch HandedOut well = Failed
ended_fetch (Moved text) well = Failed
ended_fetch Failed well = Failed

-- what became of bytes from below, and of the Fetch
abbrev pub GathersBytes : Fetch → List ℕ → Gathered → Fetch → Type 0
GathersBytes f bytes (Taken len) new = (is_gathering f ≡ true) × (gathered_len f + length bytes ≤ 268435456) × (len ≡ length bytes) × (new ≡ after_bytes_up f 1 bytes)
GathersBytes f bytes TooLarge new = (is_gathering f ≡ true) × (268435456 < gathered_len f + length bytes) × (new ≡ Failed)
GathersBytes f bytes Ended new = (is_gathering f ≡ false) × (new ≡ f)
GathersBytes f bytes NoMemory new = (is_gathering f ≡ true) × (new ≡ Failed)
