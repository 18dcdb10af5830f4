use Rattle.std.proofs.Common.{◌≡◌, ◌≤◌, ℕ, length, take, vec_len}
use Rattle.nb_image.specs.Pages.{all_bytes, IsPaged}
use Rattle.nb_image.proofs.pages.Pages.cut.Given as goal

abbrev pub invariant-loop-self : goal.invariant-loop-self
invariant-loop-self l = IsPaged l.self × (l.len ≤ length (all_bytes l.self)) × (take l.len (all_bytes l.self) ≡ take l.len (all_bytes l.initial.self))

abbrev pub decreases-loop-self : goal.decreases-loop-self
decreases-loop-self l = vec_len l.self.full
