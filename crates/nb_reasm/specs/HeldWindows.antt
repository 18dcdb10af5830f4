-- What a held window is to its users.
use Rattle.std.specs.Prelude.{ℕ, ◌+◌, ◌-◌, List}
use Rattle.nb_reasm.specs.declared.held.Held.{Held}
use Rattle.nb_reasm.specs.Rings.{front_split}
use Rattle.nb_reasm.specs.Windows.{HeldWindow, window_of, bytes_from}

abbrev pub window : Held → HeldWindow
window h = window_of h.ring

-- the bytes from the base to next lie in two parts, of which the first has so many
abbrev pub front_seam : Held → ℕ
front_seam h = front_split h.ring

abbrev pub front_first : Held → List ℕ
front_first h = bytes_from (window h) (window h).base (front_seam h)

abbrev pub front_second : Held → List ℕ
front_second h = bytes_from (window h) ((window h).base + front_seam h) ((window h).next - ((window h).base + front_seam h))
