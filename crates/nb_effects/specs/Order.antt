-- In which order the end of a graph closes ports and lets holds go: over the events of each close.
use Rattle.nb_ledger.specs.Flat.{Heard}
use Rattle.std.specs.Prelude.{◌≡◌, ℕ, ◌+◌, ◌<◌, ◌≤◌, ◌⊎◌, List, [], ◌∷◌, ◌++◌, Option, map}
use Rattle.nb_terms.specs.declared.cause.Cause.{Cause}
use Rattle.nb_ledger.specs.declared.port.ObjId.{ObjId}
use Rattle.nb_ledger.specs.declared.port.Port.{Port}
use Rattle.nb_ledger.specs.declared.event.GraphEvent.{GraphEvent}
use Rattle.nb_ledger.specs.declared.event.GraphEvent.TheVariants.{LetGo, Left, Closed, Unplugged, Freed}
use Rattle.nb_ledger.specs.Ledger.{Ledger, port, open_count}
use Rattle.nb_effects.specs.Whole.{Runs}
use Rattle.nb_effects.specs.Calm.{Starts}

-- these objects are freed
abbrev pub frees : List ObjId → List GraphEvent
frees ids = map Freed ids

-- One port is closed: alone; or with its link, from its Closed to its Unplugged, and what that frees. In a run of
-- events all that stands between belongs to that close.
pub data OneClose (p : Port) (cause : Cause) (es : List GraphEvent) : Type 0 where
  alone : es ≡ Closed p cause ∷ [] → OneClose p cause es
  linked : (q : Port) (nested : List GraphEvent) (gone : List ObjId) → es ≡ Closed p cause ∷ nested ++ Unplugged p q ∷ frees gone → OneClose p cause es

-- what happens is one close of this port
abbrev pub ClosesOnePort : Cause → Port → Ledger → Ledger → Heard → Heard → Type 0
ClosesOnePort cause p old new before after = (es : List GraphEvent) × Runs old new before after es × OneClose p cause es

-- slot j of the object y is slot k of x, or comes later: it has a higher serial, or the same and a higher slot
abbrev pub IsFrom : ℕ → ℕ → ℕ → ℕ → Type 0
IsFrom x k y j = (x < y) ⊎ ((x ≡ y) × (k ≤ j))

-- an open port, and from slot k of x on the first that is open
pub record IsNextPort (l : Ledger) (x k : ℕ) (p : Port) : Type 0 where
  pub from : IsFrom x k p.obj.0 p.slot
  pub opened : 0 < open_count (port l p.obj.0 p.slot)
  pub first : (y j : ℕ) → IsFrom x k y j → 0 < open_count (port l y j) → IsFrom p.obj.0 p.slot y j

-- These ports are closed one after another, each the first that is open then, until from slot k of x on none is.
abbrev pub ClosesInOrder : Cause → ℕ → ℕ → Ledger → Ledger → Heard → Heard → List Port → Type 0
ClosesInOrder cause x k old new before after [] =
    ((y j : ℕ) → IsFrom x k y j → 0 < open_count (port old y j) → ⊥) × (new ≡ old) × (after ≡ before)
ClosesInOrder cause x k old new before after (p ∷ ps) =
    (mid : Ledger) × (told : Heard) × IsNextPort old x k p × ClosesOnePort cause p old mid before told × ClosesInOrder cause p.obj.0 (p.slot + 1) mid new told after ps

-- holds are let go, one after another, and objects freed by that; nothing else happens
pub data LetsHoldsGo : List GraphEvent → Type 0 where
  none : LetsHoldsGo []
  one : (x : ObjId) (gone : List ObjId) (more : List GraphEvent) → LetsHoldsGo more → LetsHoldsGo (LetGo x ∷ frees gone ++ more)

-- what happens is that one hold of x goes, and what that frees
abbrev pub LetsOneGo : ObjId → Ledger → Ledger → Heard → Heard → Type 0
LetsOneGo x old new before after = (gone : List ObjId) × Runs old new before after (LetGo x ∷ frees gone)

-- All open ports are closed by rising serial and slot, and then holds are let go. Serials begin with 1.
pub record EndsInOrder (cause : Cause) (old new : Ledger) (before after : Heard) : Type 0 where
  pub mid : Ledger
  pub told : Heard
  pub ports : List Port
  pub closes : ClosesInOrder cause 1 0 old mid before told ports
  pub lets : List GraphEvent
  pub runs : Runs mid new told after lets
  pub order : LetsHoldsGo lets

-- in mid-call too, the events are one close of this port
pub record ClosesOnce (old new : Ledger) (before after : Heard) (p : Port) (cause : Cause) : Type 0 where
  pub starts : Starts old new before after (Closed p cause)
  pub one : OneClose p cause (Closed p cause ∷ starts.rest)

-- the entry of a peer that was closed ends, and its link
abbrev pub EndsLink : Port → Port → List GraphEvent → Type 0
EndsLink p q es = (gone : List ObjId) × (es ≡ Left q ∷ Unplugged p q ∷ frees gone)

-- what closes in order from the object after x on, does so from x on with what closed x before it
abbrev pub ShutsObject : Cause → ℕ → Ledger → Ledger → Heard → Heard → Type 0
ShutsObject cause x old mid before told =
    (new : Ledger) (after : Heard) (ps : List Port) → ClosesInOrder cause (x + 1) 0 mid new told after ps → (qs : List Port) × ClosesInOrder cause x 0 old new before after qs
