use Rattle.std.proofs.Common.{◌≡◌, ℕ, ◌+◌, ◌<◌, length, get_or}
use Rattle.nb_lab.specs.Images.{image_byte}
use Rattle.nb_lab.proofs.image.Image.fill.Given as goal

-- the bytes so far, at each place
abbrev pub invariant-loop-at : goal.invariant-loop-at
invariant-loop-at l =
    (length l.piece ≡ length l.initial.piece) × ((k : ℕ) → k < l.at → get_or l.piece k 0 ≡ image_byte l.self.0 (l.from + k))
