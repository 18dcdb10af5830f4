-- Whether a port was closed, by the events and by what the outside is given.
use Rattle.std.proofs.Common.{◌≡◌, true, false, List, [], ◌∷◌, Some, None, refl}
use Rattle.nb_terms.specs.declared.cause.Cause.{Cause}
use Rattle.nb_ledger.specs.declared.event.GraphEvent.TheVariants.{Made, Held, LetGo, Plugged, Entered, Left, Dropped, Closed, Unplugged, Freed}
use Rattle.nb_graph.specs.Deeds.{Deed, writes, begins, calls, turns, events_of, told_of, is_shut, is_full, comes_to, is_reached, is_dead, arrives, goes_out, stays, lets_go, none_held}
use Rattle.nb_opens.specs.Notices.{first_close}
use Rattle.nb_closings.specs.Chained.{have_closing}

-- where none was, nothing tells of a close
pub none_closed : {N L : Type 0} (ds : List (Deed N L)) → have_closing (events_of ds) ≡ false → first_close (told_of ds) ≡ None
none_closed [] h = refl
none_closed (writes (Made x kind) ∷ ds) h = none_closed ds h
none_closed (writes (Held x) ∷ ds) h = none_closed ds h
none_closed (writes (LetGo x) ∷ ds) h = none_closed ds h
none_closed (writes (Plugged p q) ∷ ds) h = none_closed ds h
none_closed (writes (Entered p by) ∷ ds) h = none_closed ds h
none_closed (writes (Left p) ∷ ds) h = none_closed ds h
none_closed (writes (Dropped p) ∷ ds) h = none_closed ds h
none_closed (writes (Closed p c) ∷ ds) h = absurd (let z = h in cc)
none_closed (writes (Unplugged p q) ∷ ds) h = none_closed ds h
none_closed (writes (Freed x) ∷ ds) h = none_closed ds h
none_closed (begins x n ∷ ds) h = none_closed ds h
none_closed (calls x i ∷ ds) h = none_closed ds h
none_closed (turns (is_shut p) ∷ ds) h = none_closed ds h
none_closed (turns (is_full p) ∷ ds) h = none_closed ds h
none_closed (turns (comes_to x) ∷ ds) h = none_closed ds h
none_closed (turns is_reached ∷ ds) h = none_closed ds h
none_closed (turns (is_dead x) ∷ ds) h = none_closed ds h
none_closed (turns (arrives p q) ∷ ds) h = none_closed ds h
none_closed (turns (goes_out p m) ∷ ds) h = none_closed ds h
none_closed (turns (stays x) ∷ ds) h = none_closed ds h
none_closed (turns (lets_go x) ∷ ds) h = none_closed ds h
none_closed (turns none_held ∷ ds) h = none_closed ds h

-- where one was, the first has a cause
pub some_closed : {N L : Type 0} (ds : List (Deed N L)) → have_closing (events_of ds) ≡ true → (c : Cause) × (first_close (told_of ds) ≡ Some c)
some_closed [] h = absurd (let z = h in cc)
some_closed (writes (Made x kind) ∷ ds) h = some_closed ds h
some_closed (writes (Held x) ∷ ds) h = some_closed ds h
some_closed (writes (LetGo x) ∷ ds) h = some_closed ds h
some_closed (writes (Plugged p q) ∷ ds) h = some_closed ds h
some_closed (writes (Entered p by) ∷ ds) h = some_closed ds h
some_closed (writes (Left p) ∷ ds) h = some_closed ds h
some_closed (writes (Dropped p) ∷ ds) h = some_closed ds h
some_closed (writes (Closed p c) ∷ ds) h = (c, refl)
some_closed (writes (Unplugged p q) ∷ ds) h = some_closed ds h
some_closed (writes (Freed x) ∷ ds) h = some_closed ds h
some_closed (begins x n ∷ ds) h = some_closed ds h
some_closed (calls x i ∷ ds) h = some_closed ds h
some_closed (turns (is_shut p) ∷ ds) h = some_closed ds h
some_closed (turns (is_full p) ∷ ds) h = some_closed ds h
some_closed (turns (comes_to x) ∷ ds) h = some_closed ds h
some_closed (turns is_reached ∷ ds) h = some_closed ds h
some_closed (turns (is_dead x) ∷ ds) h = some_closed ds h
some_closed (turns (arrives p q) ∷ ds) h = some_closed ds h
some_closed (turns (goes_out p m) ∷ ds) h = some_closed ds h
some_closed (turns (stays x) ∷ ds) h = some_closed ds h
some_closed (turns (lets_go x) ∷ ds) h = some_closed ds h
some_closed (turns none_held ∷ ds) h = some_closed ds h
