-- What is told in a call on a drive: what goes down to the network, and what its unit hands up. Our own.
use Rattle.std.specs.Prelude.{ℕ, ◌==◌, ◌&&◌, Bool, List, [], ◌∷◌, if◌then◌else◌}
use Rattle.nb_graph.specs.Trace.{Said}
use Rattle.nb_ledger.specs.declared.port.Port.{Port}
use Rattle.nb_ledger.specs.Flat.{Notice, event, message}

-- a message leaves by the port to the user, of the unit x
abbrev pub goes_up : ℕ → Port → Bool
goes_up x from = (from.obj.0 == x) && (from.slot == 0)

-- all that is told but what goes up
abbrev pub told_below : ℕ → List Notice → List Notice
told_below x [] = []
told_below x (event e ∷ ns) = event e ∷ told_below x ns
told_below x (message from tag rec a b bytes ∷ ns) = if goes_up x from then told_below x ns else message from tag rec a b bytes ∷ told_below x ns

-- what goes up
abbrev pub told_above : ℕ → List Notice → List Said
told_above x [] = []
told_above x (event e ∷ ns) = told_above x ns
told_above x (message from tag rec a b bytes ∷ ns) = if goes_up x from then (record { tag = tag; rec = rec; a = a; b = b; bytes = bytes }) ∷ told_above x ns else told_above x ns
