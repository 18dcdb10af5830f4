use Rattle.std.proofs.Common.{◌≡◌, ℕ, ◌<◌, get_or}
use Rattle.nb_network.specs.declared.living.Living.{Living}
use Rattle.nb_network.proofs.opens.Opens.place_of.Given as goal

-- none of those before has the number
abbrev pub invariant-loop-place : goal.invariant-loop-place
invariant-loop-place l = (d : Living) (k : ℕ) → k < l.place → (get_or l.self.list k d).speaker.number ≡ l.number → ⊥
