-- What an object has done over its trace that asks and is answered, in terms of its core's history: our own.
use Rattle.std.specs.Prelude.{◌≡◌, ◌≤◌, ℕ, ◌==◌, ◌&&◌, Bool, true, false, not, List, [], ◌∷◌, ◌++◌, length, nat_lt, map, Option, Some, None, IfSome, if◌then◌else◌}
use Rattle.std.specs.Option.{is_some}
use Rattle.std.specs.List.{AllByRecursion}
use Rattle.nb_terms.specs.declared.acts.Acts.{Acts}
use Rattle.nb_terms.specs.declared.cause.Cause.{Cause}
use Rattle.nb_effects.specs.declared.effects.Emit.{Emit}
use Rattle.nb_effects.specs.declared.effects.Fx.{Fx}
use Rattle.nb_graph.specs.Trace.{Said, NodeEntry, up, down, closed, time, regain, silence, in_list}
use Rattle.nb_graph.specs.Deeds.{said_of}
use Rattle.nb_graph.specs.Effects.{IsUp}
use Rattle.nb_nodes.specs.declared.load.Load.{Load}
use Rattle.nb_nodes.specs.declared.obj.Obj.{Obj}
use Rattle.nb_nodes.specs.declared.stage.Stage.{Stage}
use Rattle.nb_nodes.specs.declared.stage.Stage.TheVariants.{Waiting, Running, Over}
use Rattle.nb_nodes.specs.declared.tag.Tag.TheVariants.{Begin}
use Rattle.nb_nodes.specs.Tags.{tag_number}
use Rattle.nb_nodes.specs.Objects.{obj_nature}
use Rattle.nb_nodes.specs.Carried.{said_all, emits, downs_of, end_closes, LeavesByOne}
use Rattle.nb_nodes.specs.Conversations.{TakesWhole, AsksOfIdle, PassesClose}

-- A kind of object that asks and is answered, by its core: what the bytes of a Begin ask for, what is asked at first,
-- which messages are handed to the core, and its calls with what they asked; what goes up at its end by a message or a
-- time of a record; and what the core promises of its calls.
pub record Service (S B C : Type 0) : Type 1 where
  pub asked : List ℕ → Option B
  pub opening : B → Acts
  pub takes : ℕ → Said → Bool
  pub received : Said → ℕ → Acts → C
  pub timed : ℕ → Acts → C
  pub gives : ℕ → B → List C → List Said → Type 0
  pub stands : B → ℕ → S → List C → Type 0
  pub meets : B → ℕ → List C → Type 0
  pub has_ended : List C → Bool

-- How far such an object is: it hasn't begun; it was begun so, at a time, and these calls were made of its core; it has
-- ended after them; or it ended before it began.
pub data AskerState (B C : Type 0) : Type 0 where
  not_begun : AskerState B C
  asking : (b : B) (start : ℕ) (calls : List C) → AskerState B C
  finished : (b : B) (start : ℕ) (calls : List C) → AskerState B C
  called_off : AskerState B C

abbrev pub is_not_begun : {B C : Type 0} → AskerState B C → Bool
is_not_begun not_begun = true
is_not_begun (asking b start calls) = false
is_not_begun (finished b start calls) = false
is_not_begun called_off = false

abbrev pub is_asking : {B C : Type 0} → AskerState B C → Bool
is_asking not_begun = false
is_asking (asking b start calls) = true
is_asking (finished b start calls) = false
is_asking called_off = false

abbrev pub exchange_has_ended : {B C : Type 0} → AskerState B C → Bool
exchange_has_ended not_begun = false
exchange_has_ended (asking b start calls) = false
exchange_has_ended (finished b start calls) = true
exchange_has_ended called_off = true

-- at its end
abbrev pub at_end : {B C : Type 0} → AskerState B C → AskerState B C
at_end not_begun = called_off
at_end (asking b start calls) = finished b start calls
at_end (finished b start calls) = finished b start calls
at_end called_off = called_off

-- after these calls, of which the last asked this
abbrev pub after_calls : {B C : Type 0} → B → ℕ → List C → Acts → AskerState B C
after_calls b start calls acts = if is_some acts.over then finished b start calls else asking b start calls

-- a message from above begins it
abbrev pub begins_service : {S B C : Type 0} → Service S B C → Said → Bool
begins_service s m = (m.tag == tag_number Begin) && is_some (s.asked m.bytes)

-- an entry that calls nothing of the core
abbrev pub calls_nothing : {S B C : Type 0} → Service S B C → AskerState B C → NodeEntry Obj Load → Bool
calls_nothing s v (up slot m now done fx) = done && not (is_asking v && s.takes slot m)
calls_nothing s v (down m now done fx) = done && not (is_not_begun v && begins_service s m)
calls_nothing s v (closed slot cause now fx) = not (not (exchange_has_ended v) && nat_lt slot 2)
calls_nothing s v (time now done fx) = done && not (is_asking v)
calls_nothing s v (regain load) = true

-- it ran out of memory, or the port above or below was closed
abbrev pub ends_exchange : {B C : Type 0} → AskerState B C → NodeEntry Obj Load → Bool
ends_exchange v (up slot m now done fx) = not done
ends_exchange v (down m now done fx) = not done
ends_exchange v (closed slot cause now fx) = not (exchange_has_ended v) && nat_lt slot 2
ends_exchange v (time now done fx) = not done
ends_exchange v (regain load) = false

abbrev pub LeavesByZero : Emit Load → Type 0
LeavesByZero e = e.slot ≡ 0

-- what goes up by this, if it is anything
abbrev pub said_up : Said → Option (Emit Load) → List Said
said_up m given = map (said_of obj_nature m) (in_list given)

-- The effects of an entry with the message m are what a core's call asks for: downs by slot 1, and at its end the closes
-- of slots 0 and 1 with its cause; and this goes up by slot 0.
pub record AsksAndGives (m : Said) (acts : Acts) (given : List Said) (fx : Fx Obj Load) : Type 0 where
  pub no_make : fx.makes ≡ None
  pub downs : said_all m fx.downs ≡ downs_of m.rec acts
  pub by_one : AllByRecursion LeavesByOne (emits fx.downs)
  pub ups : said_all m fx.ups ≡ given
  pub by_zero : AllByRecursion LeavesByZero (emits fx.ups)
  pub closes : fx.closes.items ≡ end_closes acts.over

-- what goes up after these calls: at the end what the kind gives, and else nothing
abbrev pub GivesAtEnd : {S B C : Type 0} → Service S B C → ℕ → B → List C → Option Cause → List Said → Type 0
GivesAtEnd s rec b calls None given = given ≡ []
GivesAtEnd s rec b calls (Some cause) given = s.gives rec b calls given

-- One entry of such an object. A close above or below is passed on to the other side.
pub data AskerTakes {S B C : Type 0} (s : Service S B C) : AskerState B C → NodeEntry Obj Load → AskerState B C → Type 0 where
  is_begun : (b : B) (m : Said) (now : ℕ) (fx : Fx Obj Load) → m.tag ≡ tag_number Begin → s.asked m.bytes ≡ Some b
      → AsksAndGives m (s.opening b) [] fx → AskerTakes s not_begun (down m now true fx) (asking b now [])
  takes_message : (b : B) (start : ℕ) (calls : List C) (slot : ℕ) (m : Said) (now : ℕ) (fx : Fx Obj Load) (acts : Acts) (given : List Said) → s.takes slot m ≡ true
      → AsksAndGives m acts given fx → TakesWhole m fx → GivesAtEnd s m.rec b (calls ++ s.received m now acts ∷ []) acts.over given
      → AskerTakes s (asking b start calls) (up slot m now true fx) (after_calls b start (calls ++ s.received m now acts ∷ []) acts)
  takes_time : (b : B) (start : ℕ) (calls : List C) (now : ℕ) (fx : Fx Obj Load) (acts : Acts) (given : List Said)
      → AsksAndGives silence acts given fx → GivesAtEnd s 0 b (calls ++ s.timed now acts ∷ []) acts.over given
      → AskerTakes s (asking b start calls) (time now true fx) (after_calls b start (calls ++ s.timed now acts ∷ []) acts)
  is_ended : (v : AskerState B C) (e : NodeEntry Obj Load) → ends_exchange v e ≡ true → PassesClose e → AskerTakes s v e (at_end v)
  stays_idle : (v : AskerState B C) (e : NodeEntry Obj Load) → calls_nothing s v e ≡ true → AsksOfIdle e → AskerTakes s v e v

-- the entries lead from one to the other
abbrev pub AskerLeadsTo : {S B C : Type 0} → Service S B C → AskerState B C → List (NodeEntry Obj Load) → AskerState B C → Type 0
AskerLeadsTo s v [] w = v ≡ w
AskerLeadsTo {S} {B} {C} s v (e ∷ t) w = (u : AskerState B C) × AskerTakes s v e u × AskerLeadsTo s u t w

abbrev pub stage_is_waiting : {S : Type 0} → Stage S → Bool
stage_is_waiting Waiting = true
stage_is_waiting (Running core) = false
stage_is_waiting Over = false

abbrev pub stage_is_over : {S : Type 0} → Stage S → Bool
stage_is_over Waiting = false
stage_is_over (Running core) = false
stage_is_over Over = true

-- what the core itself is meanwhile
pub data AskerIsAt {S B C : Type 0} (s : Service S B C) : Stage S → AskerState B C → Type 0 where
  before_it : AskerIsAt s Waiting not_begun
  during_it : (b : B) (start : ℕ) (calls : List C) (core : S) → s.stands b start core calls → s.has_ended calls ≡ false → AskerIsAt s (Running core) (asking b start calls)
  after_it : (b : B) (start : ℕ) (calls : List C) → s.meets b start calls → AskerIsAt s Over (finished b start calls)
  without_it : AskerIsAt s Over called_off

-- An object at this stage stands for a trace whose entries lead from the beginning to where its core is.
pub record StandsBy {S B C : Type 0} (s : Service S B C) (stage : Stage S) (t : List (NodeEntry Obj Load)) : Type 0 where
  pub exchange : AskerState B C
  pub run : AskerLeadsTo s not_begun t exchange
  pub at : AskerIsAt s stage exchange

-- wherever the exchange was before an entry, it is afterwards where the entry leads
abbrev pub GoesOnAs : {S B C : Type 0} → Service S B C → Stage S → Stage S → NodeEntry Obj Load → Type 0
GoesOnAs {S} {B} {C} s old new e = (v : AskerState B C) → AskerIsAt s old v → (w : AskerState B C) × AskerTakes s v e w × AskerIsAt s new w

-- a core that stands for its calls keeps its promise of them
abbrev pub StandsMeets : {S B C : Type 0} → Service S B C → Type 0
StandsMeets {S} {B} {C} s = (b : B) (start : ℕ) (core : S) (calls : List C) → s.stands b start core calls → s.meets b start calls

-- A core that was started asks at first what these bytes ask for, and stands for no call yet.
pub record IsStarted {S B C : Type 0} (s : Service S B C) (bytes : List ℕ) (start : ℕ) (core : S) (acts : Acts) : Type 0 where
  pub asked : B
  pub asks : s.asked bytes ≡ Some asked
  pub opening : acts ≡ s.opening asked
  pub stands : s.stands asked start core []
  pub opened : s.has_ended [] ≡ false
  pub goes_on : is_some acts.over ≡ false

-- a core stands for these calls, of which the last asked this and gave this up
pub record CoreCalled {S B C : Type 0} (s : Service S B C) (core : S) (b : B) (start : ℕ) (calls : List C) (acts : Acts) (rec : ℕ) (given : List Said) : Type 0 where
  pub stands : s.stands b start core calls
  pub ends : s.has_ended calls ≡ is_some acts.over
  pub gives : GivesAtEnd s rec b calls acts.over given

-- the core stands for one call more, and this goes up
abbrev pub CallsMore : {S B C : Type 0} → Service S B C → S → S → (Acts → C) → Acts → ℕ → List Said → Type 0
CallsMore {S} {B} {C} s old core call acts rec given = (b : B) (start : ℕ) (before : List C) → s.stands b start old before → s.has_ended before ≡ false → CoreCalled s core b start (before ++ call acts ∷ []) acts rec given

-- A call asks for at most one message down, and gives nothing up but this, by slot 0 and within so many bytes.
pub record GivesOnly (len : ℕ) (acts : Acts) (given : Option (Emit Load)) : Type 0 where
  pub few : length acts.sends.items ≤ 1
  pub no_range : acts.give ≡ None
  pub above : IfSome given LeavesByZero
  pub within : IfSome given (IsUp len)
