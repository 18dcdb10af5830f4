-- What one object did within what happened: our own.
use Rattle.std.specs.Prelude.{ℕ, ◌==◌, List, [], ◌∷◌, if◌then◌else◌}
use Rattle.nb_graph.specs.Trace.{NodeEntry}
use Rattle.nb_graph.specs.Deeds.{Deed, writes, begins, calls, turns}

-- the entries of x, and the loads that came back to it
abbrev pub entries_of : {N L : Type 0} → ℕ → List (Deed N L) → List (NodeEntry N L)
entries_of x [] = []
entries_of x (writes e ∷ ds) = entries_of x ds
entries_of x (begins y n ∷ ds) = entries_of x ds
entries_of x (calls y i ∷ ds) = if x == y then i ∷ entries_of x ds else entries_of x ds
entries_of x (turns u ∷ ds) = entries_of x ds
