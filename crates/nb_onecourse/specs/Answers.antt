-- What comes to an open that lives has one answer.
use Rattle.std.specs.Prelude.{◌≡◌, ℕ, List, None}
use Rattle.std.specs.List.{AllByRecursion}
use Rattle.nb_defs.specs.Records.{Out}
use Rattle.nb_stack.specs.Client.{Client}
use Rattle.nb_machine.specs.Lives.{OpenInput, Exchange, exchange, Live, continued}
use Rattle.nb_machine.specs.Kinds.{Keeps}
use Rattle.nb_machine.specs.Takings.{end_among}
use Rattle.nb_machine.specs.Courses.{Standing, ready, running, waiting, reaching, yielded, handing, left, handed_off, stopped}

-- the exchange has not put the end of the open of this number
abbrev pub PutsNoEnd : ℕ → Exchange → Type 0
PutsNoEnd number x = end_among number x.put ≡ None

-- none of its exchanges has ended it
abbrev pub IsUnended : Live → Type 0
IsUnended l = AllByRecursion (PutsNoEnd l.number) l.exchanges

-- so is each of these
abbrev pub AreUnended : List Live → Type 0
AreUnended live = AllByRecursion IsUnended live

-- so is each that lives where a course stands
abbrev pub StandsUnended : Standing → Type 0
StandsUnended ready = Unit {0}
StandsUnended (running s inner outer) = AreUnended s.live
StandsUnended (waiting s w) = AreUnended s.live
StandsUnended (reaching s inner outer next) = AreUnended s.live
StandsUnended (yielded s inner outer) = AreUnended s.live
StandsUnended (handing s rest) = AreUnended s.live
StandsUnended (left s outer cause) = AreUnended s.live
StandsUnended (handed_off s) = AreUnended s.live
StandsUnended (stopped s) = AreUnended s.live

-- an open that has come so far, and to which this comes over this client, puts one list of records so that its promises are kept
abbrev pub HasOneAnswer : Live → OpenInput → Client → Type 0
HasOneAnswer l came link = (put put' : List Out) → Keeps (continued l (exchange came link put)) → Keeps (continued l (exchange came link put')) → put ≡ put'
