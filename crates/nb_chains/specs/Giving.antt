-- What a call on a chain's objects gives the outside: one list of notices, whose events are a run of the whole graph. Our own.
use Rattle.std.specs.Prelude.{◌≡◌, ℕ, Bool, true, List, [], map}
use Rattle.std.specs.List.{AllByRecursion}
use Rattle.nb_ledger.specs.declared.event.GraphEvent.{GraphEvent}
use Rattle.nb_ledger.specs.declared.event.GraphEvent.TheVariants.{Made, Held, LetGo, Plugged, Entered, Left, Dropped, Closed, Unplugged, Freed}
use Rattle.nb_ledger.specs.Flat.{Given, Heard, Notice, events_part, flat}
use Rattle.nb_ledger.specs.GraphRun.{GraphRunOf}
use Rattle.nb_ledger.specs.Ledger.{run_state}
use Rattle.nb_graph.specs.Whole.{Objects}
use Rattle.nb_frames.specs.Frames.{is_one_of}
use Rattle.nb_frames.specs.Within.{IsEventWithin}
use Rattle.nb_nodes.specs.declared.obj.Obj.{Obj}
use Rattle.nb_chains.specs.declared.chain.Chain.{Chain}
use Rattle.nb_chains.specs.Chains.{chain_ids}

-- The outside was given these notices. The events among them are a legal run of the whole graph, from what it was to what
-- it is, and each of them is one that may be.
pub record CallGives (may : GraphEvent → Type 0) (old new : Objects Obj) (before after : Heard) (ns : List Notice) : Type 0 where
  pub given : Given before after ns
  pub events : List GraphEvent
  pub are : events_part ns ≡ map flat events
  pub run : GraphRunOf (run_state old.book []) events (run_state new.book [])
  pub within : AllByRecursion may events

-- no event names another object than the chain's, and none is made
abbrev pub ChainGives : Chain → Objects Obj → Objects Obj → Heard → Heard → List Notice → Type 0
ChainGives c old new before after ns = CallGives (IsEventWithin (is_one_of (chain_ids c))) old new before after ns

-- an event of these objects, by which one of them may be made
abbrev pub IsMakeWithin : (ℕ → Bool) → GraphEvent → Type 0
IsMakeWithin own (Made x kind) = own x.0 ≡ true
IsMakeWithin own (Held x) = IsEventWithin own (Held x)
IsMakeWithin own (LetGo x) = IsEventWithin own (LetGo x)
IsMakeWithin own (Plugged p q) = IsEventWithin own (Plugged p q)
IsMakeWithin own (Entered p by) = IsEventWithin own (Entered p by)
IsMakeWithin own (Left p) = IsEventWithin own (Left p)
IsMakeWithin own (Dropped p) = IsEventWithin own (Dropped p)
IsMakeWithin own (Closed p cause) = IsEventWithin own (Closed p cause)
IsMakeWithin own (Unplugged p q) = IsEventWithin own (Unplugged p q)
IsMakeWithin own (Freed x) = IsEventWithin own (Freed x)

-- no event names another object than the chain's, of which some are made
abbrev pub MakingGives : Chain → Objects Obj → Objects Obj → Heard → Heard → List Notice → Type 0
MakingGives c old new before after ns = CallGives (IsMakeWithin (is_one_of (chain_ids c))) old new before after ns
