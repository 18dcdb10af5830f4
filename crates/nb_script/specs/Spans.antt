-- Own: places in a text.
use Rattle.std.specs.Prelude.{ℕ, ◌≤◌, List, length, slice_range, All}
use Rattle.nb_script.specs.declared.span.Span.{Span}

-- the bytes that stand at a place in a text
abbrev pub spanned : List ℕ → Span → List ℕ
spanned text span = slice_range text span.from span.to

-- each place is one in the text
abbrev pub IsWithin : List ℕ → List Span → Type 0
IsWithin text spans = All (λ (span : Span). (span.from ≤ span.to) × (span.to ≤ length text)) spans
