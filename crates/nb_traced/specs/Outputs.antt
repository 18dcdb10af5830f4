-- In which order the records of the graph stand among the others in an output, for opens of any kind and any number of them that live. Our own.
use Rattle.std.specs.Prelude.{◌≡◌, ◌⊎◌, ◌≤◌, ◌+◌, ℕ, Bool, true, List, [], ◌∷◌, ◌++◌, fold, Option, Some, None}
use Rattle.std.specs.List.{AllByRecursion}
use Rattle.nb_terms.specs.declared.cause.Cause.{Cause}
use Rattle.nb_defs.specs.Records.{Out, step, sent, command, opened, ended}
use Rattle.nb_ledger.specs.declared.event.Way.{Way}
use Rattle.nb_ledger.specs.declared.event.GraphEvent.{GraphEvent}
use Rattle.nb_ledger.specs.GraphRun.{GraphState, GraphRunOf}
use Rattle.nb_frames.specs.Frames.{is_one_of}
use Rattle.nb_frames.specs.Within.{IsEventWithin}
use Rattle.nb_traced.specs.Holdings.{Holdings, Kin, GraphObject, AreJoined, kinds, lowest_of, no_holdings, objects_for, serials}
use Rattle.nb_traced.specs.Pieces.{AreGone, AreInner, IsApart, IsCallOn, IsMaking, event_records, first_close_of, pieces_made}

-- a message or a time entered the lowest object of this open from outside, in the step of this number
pub record Arrived : Type 0 where
  pub whose : ℕ
  pub way : Way
  pub number : ℕ

-- the number of the last STEP
abbrev pub step_by : ℕ → Out → ℕ
step_by n (step number) = number
step_by n (sent bytes) = n
step_by n _ = n

unfoldable pub last_step : List Out → ℕ
last_step outs = fold step_by 0 outs

abbrev pub arrived_by_way : List Out → ℕ → Option Way → List Arrived
arrived_by_way outs k None = []
arrived_by_way outs k (Some way) = record { whose = k; way = way; number = last_step outs } ∷ []

-- no object that lives was made later
abbrev pub IsNewest : GraphState → ℕ → Type 0
IsNewest s x = (y : ℕ) → s.live y ≡ true → y ≤ x

abbrev pub own_serials : Kin → List ℕ
own_serials o = serials o.pieces

-- a call on the objects of this open
abbrev pub CallsOpen : Kin → Option Way → List Out → GraphState → GraphState → Type 0
CallsOpen o by records s t = IsCallOn o.number (own_serials o) (lowest_of (own_serials o)) by records s t

abbrev pub ShutsOpen : Kin → List GraphObject → List Out → GraphState → GraphState → Type 0
ShutsOpen o waits records s t = IsCallOn o.number (own_serials o ++ serials waits) (lowest_of (own_serials o)) None records s t

-- What waits on where an open of this kind begins: nothing; or, beside the look-up of a name (4), one object that has a server, a Fetch (1), a
-- Ping (7) or a logical unit (9).
abbrev pub MayWaitOn : ℕ → List GraphObject → Type 0
MayWaitOn kind [] = Unit {0}
MayWaitOn kind (p ∷ []) = (kind ≡ 4) × ((p.kind ≡ 1) ⊎ ((p.kind ≡ 7) ⊎ (p.kind ≡ 9)))
MayWaitOn kind (p ∷ (q ∷ ps)) = ⊥

-- The output has led the graph here, and these came to the opens from outside, each with its way, in this order.
pub data Traced : List Out → Holdings → List Arrived → Type 0 where
  -- before any record
  at_first : Traced [] no_holdings []
  -- records that say nothing of opens
  apart : (outs added : List Out) (h : Holdings) (came : List Arrived) → Traced outs h came → AllByRecursion IsApart added → Traced (outs ++ added) h came
  -- a frame is replied to, directly after its STEP
  replies : (outs : List Out) (n : ℕ) (bytes : List ℕ) (h : Holdings) (came : List Arrived) → Traced (outs ++ (step n ∷ [])) h came → Traced (outs ++ (step n ∷ sent bytes ∷ [])) h came
  -- a command begins: no object waits, so that each that lives is one of an open that lives
  commands : (outs : List Out) (depth line place : ℕ) (expanded : Bool) (words : List (List ℕ)) (h : Holdings) (came : List Arrived) → Traced outs h came → h.waits ≡ [] →
      Traced (outs ++ (command depth line place expanded words ∷ [])) h came
  -- An open begins: what is missing of its objects is made and plugged, directly before its OPEN. They are all that have waited, as its kind has
  -- them, each plugged to the next, and the lowest is the newest of all; beside a look-up alone another was made, which waits on. No earlier open had
  -- its number or a greater one.
  opens : (outs : List Out) (h : Holdings) (came : List Arrived) (es : List GraphEvent) (s : GraphState) (first : List GraphObject) (o : Kin) (kind server port own : ℕ) (target : List ℕ) → Traced outs h came →
      AllByRecursion IsMaking es → GraphRunOf h.state es s → h.waits ++ pieces_made es ≡ first ++ o.pieces → MayWaitOn kind first → (first ≡ []) ⊎ (h.waits ≡ []) →
      kinds o.pieces ≡ objects_for kind → (o.pieces ≡ [] → ⊥) → AreJoined s (own_serials o) → IsNewest s (lowest_of (own_serials o)) → h.begun ≤ o.number →
      Traced (outs ++ (event_records es ++ (opened o.number kind server port own target ∷ []))) (record { state = s; living = h.living ++ o ∷ []; waits = first; begun = o.number + 1 }) came
  -- a call on the objects of an open that goes on: no port of theirs is closed
  calls : (outs added : List Out) (h : Holdings) (came : List Arrived) (before after : List Kin) (o : Kin) (way : Option Way) (s : GraphState) → Traced outs h came → h.living ≡ before ++ o ∷ after →
      CallsOpen o way added h.state s → first_close_of (own_serials o) added ≡ None →
      Traced (outs ++ added) (record h { state = s }) (came ++ arrived_by_way outs o.number way)
  -- calls on the objects of an open that ends: the first close of a port of theirs has its cause, and they are gone
  ends : (outs added : List Out) (h : Holdings) (came : List Arrived) (before after : List Kin) (o : Kin) (way : Option Way) (s : GraphState) (cause : Cause) → Traced outs h came → h.living ≡ before ++ o ∷ after →
      CallsOpen o way added h.state s → first_close_of (own_serials o) added ≡ Some cause → AreGone (own_serials o) s →
      Traced (outs ++ (added ++ (ended o.number cause ∷ []))) (record h { state = s; living = before ++ after }) (came ++ arrived_by_way outs o.number way)
  -- the run ends with an open beside which objects wait: all are gone
  ends_with_all : (outs added : List Out) (h : Holdings) (came : List Arrived) (before after : List Kin) (o : Kin) (s : GraphState) (cause : Cause) → Traced outs h came → h.living ≡ before ++ o ∷ after →
      ShutsOpen o h.waits added h.state s → first_close_of (own_serials o) added ≡ Some cause → AreGone (own_serials o ++ serials h.waits) s →
      Traced (outs ++ (added ++ (ended o.number cause ∷ []))) (record { state = s; living = before ++ after; waits = []; begun = h.begun }) came
  -- no open comes of what waits: it is gone, and no entry runs
  gives_up : (outs : List Out) (h : Holdings) (came : List Arrived) (es : List GraphEvent) (s : GraphState) → Traced outs h came → GraphRunOf h.state es s →
      AllByRecursion (IsEventWithin (is_one_of (serials h.waits))) es → ((x : ℕ) → AreInner x es) → AreGone (serials h.waits) s → s.stack ≡ [] →
      Traced (outs ++ event_records es) (record h { state = s; waits = [] }) came
