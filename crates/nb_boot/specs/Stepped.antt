-- What of the object graph stands first in the step of each record, by the two lists alone.
use Rattle.std.specs.Prelude.{◌≡◌, ℕ, List, [], ◌∷◌, ◌++◌}
use Rattle.nb_defs.specs.Records.{In, Out, step, graph}
use Rattle.nb_ledger.specs.Flat.{flat}
use Rattle.nb_ledger.specs.declared.port.Port.{Port}
use Rattle.nb_ledger.specs.declared.event.Way.{Way}
use Rattle.nb_ledger.specs.declared.event.Way.TheVariants as way
use Rattle.nb_ledger.specs.declared.event.GraphEvent.TheVariants.{Entered}
use Rattle.nb_traced.specs.Plain.{without_graph}
use Rattle.nb_traced.specs.Entries.{EntryArrival}
use Rattle.nb_boot.specs.Entries.{arrival_at}
use Rattle.nb_machine.specs.CommandRecords.{stopped_cause}
use Rattle.nb_network.specs.Takes.{ClosesFirst}
use Rattle.nb_laws.specs.Events.{Event, starts, hears, waits, stops, puts, used_by, written_by}
use Rattle.nb_laws.specs.Histories.{IsHistory, IsRead}
use Rattle.nb_laws.specs.Hookings.{OnlyDrivesLive}
use Rattle.nb_laws.specs.Lists.{Opening, live}

-- the first of these records says that an object is entered so
pub record BeginsByEntry (by : Way) (outs : List Out) : Type 0 where
  pub port : Port
  pub more : List Out
  pub all : outs ≡ graph (flat (Entered port by)) ∷ more

-- Where this comes to an open, the records of a step begin with an entry by this way, whatever comes of it; and where nothing
-- comes to any, none of them is the graph's.
pub record EntersWith (by : Way) (comes : ℕ → List EntryArrival) (more : List Out) : Type 0 where
  pub enters : (k : ℕ) (arrival : EntryArrival) (rest : List EntryArrival) → comes k ≡ arrival ∷ rest → BeginsByEntry by more
  pub still : ((k : ℕ) → comes k ≡ []) → without_graph more ≡ more

-- where an open lives, these records begin with the first close of the graph's end
abbrev pub ShutsLive : List Event → List Out → Type 0
ShutsLive es outs = (k : ℕ) (o : Opening) → live k es ≡ o ∷ [] → ClosesFirst stopped_cause outs

-- What stands after a STEP, by the events before it: nothing of the graph's in that of START; a datagram, an echo reply or a segment
-- that an open receives enters from below, a time that passes while an open lives enters as a time, and OFF shuts the graph.
abbrev pub StartsSo : List Event → Event → List Out → Type 0
StartsSo before (starts n s) more = without_graph more ≡ more
StartsSo before (hears n bytes m) more = EntersWith way.Up (λ k. arrival_at k before (hears n bytes m)) more
StartsSo before (waits n ms) more = EntersWith way.Time (λ k. arrival_at k before (waits n ms)) more
StartsSo before (stops n) more = ShutsLive before more
StartsSo before (puts o) more = ⊥

-- The records used and all the records written, those of the graph among them: each record's STEP has its number, and the step begins so; more comes in a
-- step only where no open lives but those of hooked drives. So after the beginning of a step in which an open of a command goes on the next STEP stands.
pub data AreStepped : List In → List Out → Type 0 where
  nothing : AreStepped [] []
  uses : (ins : List In) (outs : List Out) (before : List Event) (r : In) (e : Event) (number : ℕ) (more : List Out) →
      AreStepped ins outs → IsHistory ins (without_graph outs) before → used_by e ≡ r ∷ [] → written_by e ≡ step number → IsRead before e → StartsSo before e more →
      AreStepped (ins ++ r ∷ []) (outs ++ (step number ∷ more))
  goes_on : (ins : List In) (outs : List Out) (before : List Event) (added : List Out) →
      AreStepped ins outs → IsHistory ins (without_graph outs) before → OnlyDrivesLive before → AreStepped ins (outs ++ added)
