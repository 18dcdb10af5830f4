use Rattle.std.proofs.Common.{◌≡◌, ◌+◌, ◌≤◌, ℕ, ◌++◌, length}
use Rattle.nb_image.specs.Pages.{all_bytes, IsPaged}
use Rattle.nb_image.proofs.pages.Pages.append.Given as goal

abbrev pub invariant-loop-rest : goal.invariant-loop-rest
invariant-loop-rest l = IsPaged l.self × (length (all_bytes l.self) + length l.rest ≤ 268435456) × (all_bytes l.self ++ l.rest ≡ all_bytes l.initial.self ++ l.bytes) × (length (all_bytes l.initial.self) ≤ length (all_bytes l.self))

abbrev pub decreases-loop-rest : goal.decreases-loop-rest
decreases-loop-rest l = length l.rest + length l.self.last.items
