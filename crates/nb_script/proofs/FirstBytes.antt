-- A text that doesn't begin as a script's first line does is no script.
use Rattle.std.proofs.Common.{◌≡◌, ℕ, zero, suc, Bool, true, false, ◌&&◌, List, [], ◌∷◌, take, Option, Some, None, refl, ◌∙◌, nat_eq}
use Rattle.std.specs.Prelude.{position, codes}
use Rattle.std.specs.List.{starts_with}
use Rattle.nb_defs.specs.ScriptText.{is_line_feed, pieces, is_first_line, begins_script}
use Rattle.nb_script.proofs.LinesLemmas.{begins_some, begins_none}

and_keeps : (a b c : Bool) → (b ≡ false → c ≡ false) → (a && b) ≡ false → (a && c) ≡ false
and_keeps true b c keeps h = keeps h
and_keeps false b c keeps h = refl

-- what a text doesn't begin with, no prefix of it does
front_begins : (needle text : List ℕ) (n : ℕ) → starts_with nat_eq text needle ≡ false → starts_with nat_eq (take n text) needle ≡ false
front_begins [] text n h = h
front_begins (k ∷ ks) [] zero h = refl
front_begins (k ∷ ks) [] (suc n) h = refl
front_begins (k ∷ ks) (x ∷ xs) zero h = refl
front_begins (k ∷ ks) (x ∷ xs) (suc n) h = and_keeps (nat_eq k x) (starts_with nat_eq xs ks) (starts_with nat_eq (take n xs) ks) (front_begins ks xs n) h

other_line : (line : List ℕ) → starts_with nat_eq line (codes "#!ipxe") ≡ false → is_first_line line ≡ false
unfolding is_first_line
other_line line h = rw h refl

other_by : (text : List ℕ) (feed : Option ℕ) → position is_line_feed text ≡ feed → starts_with nat_eq text (codes "#!ipxe") ≡ false → begins_script (pieces is_line_feed text) ≡ false
other_by text None at h = begins_none text at ∙ other_line text h
other_by text (Some n) at h = begins_some text n at ∙ other_line (take n text) (front_begins (codes "#!ipxe") text n h)

-- a text with other first bytes is no script
pub other_text : (text : List ℕ) → starts_with nat_eq text (codes "#!ipxe") ≡ false → begins_script (pieces is_line_feed text) ≡ false
other_text text h = other_by text (position is_line_feed text) refl h
