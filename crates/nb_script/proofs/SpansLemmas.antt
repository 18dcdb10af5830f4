-- Places in a text: how long the lines there are, and that they stay where bytes are added after.
use Rattle.std.proofs.Common.{◌≡◌, ℕ, suc, ◌-◌, ◌≤◌, List, [], ◌∷◌, ◌++◌, length, drop, map, refl, arith, nat_le, length-append, length-drop}
use Rattle.std.specs.List.{list_all}
use Rattle.std.proofs.lemmas.List.{length-take-le, take-append-le, drop-append-le}
use Rattle.std.proofs.lemmas.List.Elements.{All-push}
use Rattle.nb_defs.specs.ScriptText.{is_short_line}
use Rattle.nb_script.specs.declared.span.Span.{Span}
use Rattle.nb_script.specs.Spans.{spanned, IsWithin}

pub within_first : (text : List ℕ) (span : Span) (spans : List Span) → IsWithin text (span ∷ spans) → (span.from ≤ span.to) × (span.to ≤ length text)
within_first text span spans h = h 0 span (omega arith)

pub within_rest : (text : List ℕ) (spans : List Span) → IsWithin text spans → IsWithin text (drop 1 spans)
within_rest text [] h = h
within_rest text (span ∷ spans) h = λ k d l. h (suc k) d (omega arith)

-- whether no line is too long, by the places
pub shorts : (text : List ℕ) (spans : List Span) → IsWithin text spans → list_all (λ (span : Span). nat_le (span.to - span.from) 4096) spans ≡ list_all is_short_line (map (spanned text) spans)
shorts text [] h = refl
shorts text (span ∷ spans) h =
    let in_text = within_first text span spans h in
    let left = length-drop span.from text in
    let size = length-take-le (span.to - span.from) (drop span.from text) (omega (arith, in_text.0, in_text.1)) in
    rw (size, shorts text spans (within_rest text (span ∷ spans) h)) refl

-- what stands at a place stays there where bytes are added after
spanned-append : (text more : List ℕ) (span : Span) → span.from ≤ span.to → span.to ≤ length text → spanned (text ++ more) span ≡ spanned text span
spanned-append text more span ordered fits =
    let left = length-drop span.from text in
    rw (drop-append-le span.from text more (omega arith)) (take-append-le (span.to - span.from) (drop span.from text) more (omega arith))

pub spans-append : (text more : List ℕ) (spans : List Span) → IsWithin text spans → map (spanned (text ++ more)) spans ≡ map (spanned text) spans
spans-append text more [] h = refl
spans-append text more (span ∷ spans) h =
    let here = within_first text span spans h in
    rw (spanned-append text more span here.0 here.1, spans-append text more spans (within_rest text (span ∷ spans) h)) refl

pub within-append : (text more : List ℕ) (spans : List Span) → IsWithin text spans → IsWithin (text ++ more) spans
within-append text more spans h = λ k d l. let at = h k d l in (at.0, omega (arith, at.1, length-append text more))

-- one more place
pub within_push : (text : List ℕ) (spans : List Span) (span : Span) → IsWithin text spans → span.from ≤ span.to → span.to ≤ length text → IsWithin text (spans ++ span ∷ [])
within_push text spans span h a b = All-push (λ (s : Span). (s.from ≤ s.to) × (s.to ≤ length text)) spans span h (a, b)
