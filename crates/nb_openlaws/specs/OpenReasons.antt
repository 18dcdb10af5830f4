-- Why the records stand that opens put when a record is used, however many opens live.
use Rattle.std.specs.Prelude.{◌≡◌, List, [], ◌∷◌, ◌++◌, map}
use Rattle.std.specs.List.{AllByRecursion}
use Rattle.nb_defs.specs.Records.{In, Out}
use Rattle.nb_machine.specs.Lives.{Live}
use Rattle.nb_machine.specs.Kinds.{Keeps}
use Rattle.nb_machine.specs.States.{State}
use Rattle.nb_laws.specs.Events.{Event, puts, used_by, EachEvent, EachThen}
use Rattle.nb_laws.specs.Frames.{TriesSo}
use Rattle.nb_laws.specs.Progress.{AdvancesSo, IsAdvanced}
use Rattle.nb_openlaws.specs.Standings.{live_opening, AgreesState, AgreesDevice}
use Rattle.nb_openlaws.specs.Sessions.{SessionsAgree}
use Rattle.nb_laws.specs.Endings.{HadWay}
use Rattle.nb_openlaws.specs.OpenEndings.{OpensEndSo, FramesSo}

-- when each of these was made there was a way to its server
abbrev pub HaveWays : List Event → List Live → Type 0
HaveWays es ls = AllByRecursion (λ l. HadWay l.number es (live_opening l)) ls

-- The history says of a state's opens all of `AgreesState` and `SessionsAgree`, and the device is its client. Each open keeps its kind's
-- promises, and was made with a way to its server; no ADVANCE is missing.
pub record OpensAgree (es : List Event) (s : State) : Type 0 where
  pub base : AgreesState es s
  pub sessions : SessionsAgree es s.live
  pub device : AgreesDevice es s
  pub kept : AllByRecursion Keeps s.live
  pub ways : HaveWays es s.live
  pub advanced : IsAdvanced es

-- of these records each ENDED, FRAME and ADVANCE has its reason in what stands before it, each TRY has its FRAME after it, and after
-- them no ADVANCE is missing
pub record OpenReasons (es : List Event) (outs : List Out) : Type 0 where
  pub ends : EachEvent OpensEndSo es (map puts outs)
  pub frames : EachEvent FramesSo es (map puts outs)
  pub advances : EachEvent AdvancesSo es (map puts outs)
  pub tries : EachThen TriesSo es (map puts outs)
  pub after : IsAdvanced (es ++ map puts outs)

-- a record is used, and so it is of what is put then
pub record GivesReasons (es : List Event) (r : In) (put : List Out) : Type 0 where
  pub event : Event
  pub is_record : used_by event ≡ r ∷ []
  pub reasons : OpenReasons (es ++ event ∷ []) put
