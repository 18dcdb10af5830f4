-- What a Tftp has done over its trace (RFC 1350), in terms of nb_tftp's history: our own.
use Rattle.std.specs.Prelude.{◌≡◌, ◌^◌, ◌-◌, ℕ, ◌==◌, ◌&&◌, Bool, true, false, not, List, [], ◌∷◌, ◌++◌, length, min, nat_lt, Some, None, if◌then◌else◌}
use Rattle.std.specs.Option.{is_some}
use Rattle.nb_terms.specs.declared.acts.Acts.{Acts}
use Rattle.nb_effects.specs.declared.effects.Fx.{Fx}
use Rattle.nb_graph.specs.Trace.{Said, NodeEntry, up, down, closed, time, regain, silence}
use Rattle.nb_tftp.specs.Asks.{Begun, sending, last_message}
use Rattle.nb_tftp.specs.Received.{received}
use Rattle.nb_tftp.specs.History.{Entry as Step, entry, came, ticked, is_ended}
use Rattle.nb_tftp.specs.Sentences.{Meets}
use Rattle.nb_tftp.specs.Stands.{Stands}
use Rattle.nb_tftp.specs.declared.state.State.{State}
use Rattle.nb_nodes.specs.declared.load.Load.{Load}
use Rattle.nb_nodes.specs.declared.obj.Obj.{Obj}
use Rattle.nb_nodes.specs.declared.tag.Tag.TheVariants.{Begin, Datagram}
use Rattle.nb_nodes.specs.declared.tftp.Tftp.{Tftp}
use Rattle.nb_nodes.specs.declared.tftp.Work.{Work}
use Rattle.nb_nodes.specs.declared.tftp.Work.TheVariants.{Waiting, Running, Over}
use Rattle.nb_nodes.specs.Tags.{tag_number}
use Rattle.nb_nodes.specs.Asking.{AskValue, ask_in, begun_with}
use Rattle.nb_nodes.specs.Carried.{EffectsOf, CarriesNothing, AsksNone}

-- How far a transfer is: it hasn't begun; it was begun so, at a time, and these calls were made of it with what
-- they asked; it has ended after them; or it ended before it began.
pub data Conversation : Type 0 where
  unbegun : Conversation
  under_way : (b : Begun) (start : ℕ) (calls : List Step) → Conversation
  over : (b : Begun) (start : ℕ) (calls : List Step) → Conversation
  cancelled : Conversation

abbrev pub is_unbegun : Conversation → Bool
is_unbegun unbegun = true
is_unbegun (under_way b start calls) = false
is_unbegun (over b start calls) = false
is_unbegun cancelled = false

abbrev pub is_under_way : Conversation → Bool
is_under_way unbegun = false
is_under_way (under_way b start calls) = true
is_under_way (over b start calls) = false
is_under_way cancelled = false

abbrev pub talk_has_ended : Conversation → Bool
talk_has_ended unbegun = false
talk_has_ended (under_way b start calls) = false
talk_has_ended (over b start calls) = true
talk_has_ended cancelled = true

-- at its end
abbrev pub conversation_ended : Conversation → Conversation
conversation_ended unbegun = cancelled
conversation_ended (under_way b start calls) = over b start calls
conversation_ended (over b start calls) = over b start calls
conversation_ended cancelled = cancelled

-- after these calls, of which the last asked this
abbrev pub talk_went_on : Begun → ℕ → List Step → Acts → Conversation
talk_went_on b start calls acts = if is_some acts.over then over b start calls else under_way b start calls

-- a message by slot 1 is a datagram from some port
abbrev pub is_datagram : ℕ → Said → Bool
is_datagram slot m = (slot == 1) && (m.tag == tag_number Datagram) && nat_lt m.a (2 ^ 16)

-- a message from above begins the open
abbrev pub is_begin : Said → Bool
is_begin m = (m.tag == tag_number Begin) && is_some (ask_in m.bytes)

-- a transfer's first message, as its first try
abbrev pub first_acts : Begun → Acts
first_acts b = sending (last_message b None 0) (Some 1)

-- an entry that calls nothing of the transfer
abbrev pub is_idle : Conversation → NodeEntry Obj Load → Bool
is_idle v (up slot m now done fx) = done && not (is_under_way v && is_datagram slot m)
is_idle v (down m now done fx) = done && not (is_unbegun v && is_begin m)
is_idle v (closed slot cause now fx) = not (not (talk_has_ended v) && nat_lt slot 2)
is_idle v (time now done fx) = done && not (is_under_way v)
is_idle v (regain load) = true

-- it ran out of memory, or the port above or below was closed
abbrev pub is_fatal : Conversation → NodeEntry Obj Load → Bool
is_fatal v (up slot m now done fx) = not done
is_fatal v (down m now done fx) = not done
is_fatal v (closed slot cause now fx) = not (talk_has_ended v) && nat_lt slot 2
is_fatal v (time now done fx) = not done
is_fatal v (regain load) = false

-- an entry by a message from below takes all of it
abbrev pub TakesWhole : Said → Fx Obj Load → Type 0
TakesWhole m fx = fx.took ≡ min (length m.bytes) 4294967295

-- one that calls nothing asks for nothing
abbrev pub AsksOfIdle : NodeEntry Obj Load → Type 0
AsksOfIdle (up slot m now done fx) = AsksNone fx × TakesWhole m fx
AsksOfIdle (down m now done fx) = AsksNone fx
AsksOfIdle (closed slot cause now fx) = AsksNone fx
AsksOfIdle (time now done fx) = AsksNone fx
AsksOfIdle (regain load) = Unit {0}

-- where a port was closed, the other one is closed with that cause
abbrev pub PassesClose : NodeEntry Obj Load → Type 0
PassesClose (up slot m now done fx) = Unit {0}
PassesClose (down m now done fx) = Unit {0}
PassesClose (closed slot cause now fx) = CarriesNothing fx × (fx.closes.items ≡ (1 - slot, cause) ∷ [])
PassesClose (time now done fx) = Unit {0}
PassesClose (regain load) = Unit {0}

-- One entry of a Tftp. A close above or below is passed on to the other side.
pub data Continues : Conversation → NodeEntry Obj Load → Conversation → Type 0 where
  begins : (v : AskValue) (m : Said) (now : ℕ) (fx : Fx Obj Load) → m.tag ≡ tag_number Begin → ask_in m.bytes ≡ Some v
      → EffectsOf m (first_acts (begun_with v)) fx → Continues unbegun (down m now true fx) (under_way (begun_with v) now [])
  receives : (b : Begun) (start : ℕ) (calls : List Step) (slot : ℕ) (m : Said) (now : ℕ) (fx : Fx Obj Load) (acts : Acts) → is_datagram slot m ≡ true
      → EffectsOf m acts fx → TakesWhole m fx → Continues (under_way b start calls) (up slot m now true fx) (talk_went_on b start (calls ++ entry (came (received m.rec m.a m.bytes) now) acts ∷ []) acts)
  ticks : (b : Begun) (start : ℕ) (calls : List Step) (now : ℕ) (fx : Fx Obj Load) (acts : Acts)
      → EffectsOf silence acts fx → Continues (under_way b start calls) (time now true fx) (talk_went_on b start (calls ++ entry (ticked now) acts ∷ []) acts)
  ends : (v : Conversation) (e : NodeEntry Obj Load) → is_fatal v e ≡ true → PassesClose e → Continues v e (conversation_ended v)
  rests : (v : Conversation) (e : NodeEntry Obj Load) → is_idle v e ≡ true → AsksOfIdle e → Continues v e v

-- the entries lead from one to the other
abbrev pub RunsTo : Conversation → List (NodeEntry Obj Load) → Conversation → Type 0
RunsTo v [] w = v ≡ w
RunsTo v (e ∷ t) w = (u : Conversation) × Continues v e u × RunsTo u t w

abbrev pub is_waiting : Work → Bool
is_waiting Waiting = true
is_waiting (Running state) = false
is_waiting Over = false

abbrev pub talk_is_done : Work → Bool
talk_is_done Waiting = false
talk_is_done (Running state) = false
talk_is_done Over = true

-- what the transfer itself is meanwhile
pub data WorksAt : Work → Conversation → Type 0 where
  waits : WorksAt Waiting unbegun
  runs : (b : Begun) (start : ℕ) (calls : List Step) (state : State) → Stands b start state calls → is_ended calls ≡ false → WorksAt (Running state) (under_way b start calls)
  stays : (b : Begun) (start : ℕ) (calls : List Step) → Meets b start calls → WorksAt Over (over b start calls)
  never : WorksAt Over cancelled

-- A Tftp stands for a trace whose entries lead from the beginning to where its transfer is.
pub record TftpStands (p : Tftp) (t : List (NodeEntry Obj Load)) : Type 0 where
  pub conversation : Conversation
  pub run : RunsTo unbegun t conversation
  pub works : WorksAt p.work conversation

-- wherever the transfer was before an entry, it is afterwards where the entry leads
abbrev pub ContinuesAs : Work → Work → NodeEntry Obj Load → Type 0
ContinuesAs old new e = (v : Conversation) → WorksAt old v → (w : Conversation) × Continues v e w × WorksAt new w
