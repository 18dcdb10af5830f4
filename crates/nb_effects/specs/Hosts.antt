-- Which node each object has through what happens, and what its entries rely on: our own.
use Rattle.std.specs.Prelude.{◌≡◌, ℕ, List, [], ◌∷◌, ◌++◌, Option, Some}
use Rattle.nb_ledger.specs.GraphRun.{but_at}
use Rattle.nb_effects.specs.Trace.{Nature, NodeEntry, up, down, closed, time, regain, LacksLoad, IsSettled}
use Rattle.nb_effects.specs.Deeds.{Deed, writes, begins, calls, turns, trace_after}

-- What an entry relies on of the trace before it: at one from below or by time all lent loads came back, and a load
-- that comes back is one that is lent.
abbrev pub Suits : {N L : Type 0} → List (NodeEntry N L) → NodeEntry N L → Type 0
Suits t (up slot msg now done fx) = IsSettled t
Suits t (down msg now done fx) = Unit {0}
Suits t (closed slot cause now fx) = Unit {0}
Suits t (time now done fx) = IsSettled t
Suits t (regain load) = LacksLoad t load

-- the node n is called, answers this entry, and is m then: m has the mark of n, and stands for each trace that n stood
-- for, with the entry
abbrev pub Performs : {N L : Type 0} → Nature N L → (N → List (NodeEntry N L) → Type 0) → N → NodeEntry N L → N → Type 0
Performs {N} {L} known stands n e m = (known.mark m ≡ known.mark n) × ((t : List (NodeEntry N L)) → stands n t → Suits t e → stands m (t ++ e ∷ []))

-- From f, the node of each object before, to g, that of each that lives then: an object that is made has the node that
-- it begins with, each call is one of the node that the object has, and nothing else changes a node.
abbrev pub Hosts : {N L : Type 0} → Nature N L → (N → List (NodeEntry N L) → Type 0) → (ℕ → Option N) → List (Deed N L) → (ℕ → Option N) → Type 0
Hosts {N} known stands f [] g = (x : ℕ) (n : N) → g x ≡ Some n → f x ≡ Some n
Hosts known stands f (writes e ∷ ds) g = Hosts known stands f ds g
Hosts known stands f (begins x n ∷ ds) g = stands n [] × Hosts known stands (but_at x (Some n) f) ds g
Hosts {N} known stands f (calls x e ∷ ds) g = (n : N) × (m : N) × (f x ≡ Some n) × Performs known stands n e m × Hosts known stands (but_at x (Some m) f) ds g
Hosts known stands f (turns u ∷ ds) g = Hosts known stands f ds g

-- each entry of the object x, whose trace is t before, has what it relies on
abbrev pub Suited : {N L : Type 0} → ℕ → List (NodeEntry N L) → List (Deed N L) → Type 0
Suited x t [] = Unit {0}
Suited x t (writes e ∷ ds) = Suited x t ds
Suited x t (begins y n ∷ ds) = Suited x (trace_after x t (begins y n ∷ [])) ds
Suited x t (calls y e ∷ ds) = (x ≡ y → Suits t e) × Suited x (trace_after x t (calls y e ∷ [])) ds
Suited x t (turns u ∷ ds) = Suited x t ds

-- each call of x is one of its node, which stands for its trace so far, and then for that with the entry
abbrev pub Stood : {N L : Type 0} → (N → List (NodeEntry N L) → Type 0) → ℕ → List (NodeEntry N L) → List (Deed N L) → Type 0
Stood stands x t [] = Unit {0}
Stood stands x t (writes e ∷ ds) = Stood stands x t ds
Stood stands x t (begins y n ∷ ds) = (x ≡ y → stands n []) × Stood stands x (trace_after x t (begins y n ∷ [])) ds
Stood {N} stands x t (calls y e ∷ ds) = (x ≡ y → (n : N) × (m : N) × stands n t × stands m (t ++ e ∷ [])) × Stood stands x (trace_after x t (calls y e ∷ [])) ds
Stood stands x t (turns u ∷ ds) = Stood stands x t ds
