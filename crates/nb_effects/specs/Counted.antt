-- How often a trace has an entry of a kind: our own, for a node that counts.
use Rattle.std.specs.Prelude.{Bool, true, false, ℕ, List, count_by}
use Rattle.nb_effects.specs.Trace.{NodeEntry, up, down, closed, time, regain}

-- an entry by a message from below
abbrev pub is_up_entry : {N L : Type 0} → NodeEntry N L → Bool
is_up_entry (up slot msg now done fx) = true
is_up_entry (down msg now done fx) = false
is_up_entry (closed slot cause now fx) = false
is_up_entry (time now done fx) = false
is_up_entry (regain load) = false

-- a load that came back
abbrev pub is_regain : {N L : Type 0} → NodeEntry N L → Bool
is_regain (up slot msg now done fx) = false
is_regain (down msg now done fx) = false
is_regain (closed slot cause now fx) = false
is_regain (time now done fx) = false
is_regain (regain load) = true

-- how often the trace has one from below, and how many loads came back
abbrev pub ups : {N L : Type 0} → List (NodeEntry N L) → ℕ
ups t = count_by is_up_entry t

abbrev pub regains : {N L : Type 0} → List (NodeEntry N L) → ℕ
regains t = count_by is_regain t
