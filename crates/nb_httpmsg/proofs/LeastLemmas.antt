-- What is shorter than a size line, or than what breaks one, may still become one.
use Rattle.std.proofs.Common.{◌≡◌, ◌≤◌, ◌<◌, ℕ, ◌+◌, ◌-◌, List, [], ◌++◌, length, take, drop, true, refl, ap, ◌∙◌, sym, subst, arith, leb, append-nil, append_assoc, length-append}
use Rattle.std.proofs.lemmas.Bool.{leb-true, leb-false}
use Rattle.std.proofs.lemmas.List.{take_all, length-take, drop-append-le, take-append-le, take-append-drop}
use Rattle.httparse.specs.Grammar.{ChunkLine, print_chunk_line, HasNoChunkLine, NeverHasChunkLine, MayBecomeChunkLine, ReadsChunkLine}
use Rattle.httparse.proofs.ChunkLemmas.{chunk_line_unique}
use Rattle.nb_responses.specs.Lines.{first_block, unfinished, limit}
use Rattle.nb_responses.proofs.BlockLaws.{unfinished_shorter}
use Rattle.nb_responses.proofs.Cases.{either}
use Rattle.nb_responses.proofs.Decisions.{Decided, reads, begun, never}
use Rattle.nb_responses.proofs.LineLaws.{take_front}
use Rattle.nb_responses.proofs.SizeLines.{Line, line_decided}
use Rattle.nb_httpmsg.specs.Reader.{IsOpenLine, IsOpenTrailer}
use Rattle.nb_httpmsg.specs.Feeding.{InChunk}
use Rattle.nb_httpmsg.specs.Leasts.{IsBrokenAt}
use Rattle.nb_httpmsg.proofs.BlockLemmas.{take_within}

pub less : (before later : List ℕ) (xs : List ℕ) → xs ≡ before ++ later → 0 < length later → length before < length xs
less before later xs e some = omega (arith, ap length e, length-append before later, some)

none_shorter : (text later : List ℕ) → HasNoChunkLine (text ++ later) → HasNoChunkLine text
none_shorter text later none = λ l rest is. none l (rest ++ later) (is.0, ap (λ t. t ++ later) is.1 ∙ append_assoc (print_chunk_line l) rest later)

never_longer : (text later : List ℕ) → NeverHasChunkLine text → NeverHasChunkLine (text ++ later)
never_longer text later none = λ more l rest is. none (later ++ more) l rest (subst (λ t. ReadsChunkLine t l rest) (append_assoc text later more) is)

-- the beginning of what may become a size line
pub open_shorter : (line before later : List ℕ) → HasNoChunkLine line → MayBecomeChunkLine line → length line ≤ limit → line ≡ before ++ later → 0 < length later → IsOpenLine before
open_shorter line before later none may short e some = record {
  none = none_shorter before later (subst HasNoChunkLine e none);
  may = (later ++ may.0, may.1, subst (λ t. ReadsChunkLine t may.1 []) (ap (λ t. t ++ may.0) e ∙ append_assoc before later may.0) may.2);
  short = omega (arith, short, less before later line e some);
}

-- the beginning of a size line
pub line_shorter : (l : ChunkLine) (before later : List ℕ) → InChunk l → print_chunk_line l ≡ before ++ later → 0 < length later → IsOpenLine before
line_shorter l before later c e some = record {
  none = λ k rest is.
      let same : (l ≡ k) × ([] ≡ rest ++ later) = chunk_line_unique (print_chunk_line l) l k [] (rest ++ later) (c.is, sym (append-nil (print_chunk_line l)))
      (is.0, e ∙ ap (λ t. t ++ later) is.1 ∙ append_assoc (print_chunk_line k) rest later) in
      none_left (length rest) (length later) (ap length same.1 ∙ length-append rest later) some;
  may = (later, l, (c.is, sym e ∙ sym (append-nil (print_chunk_line l))));
  short = omega (arith, c.short, less before later (print_chunk_line l) e some);
}
  where
    none_left : (a b : ℕ) → 0 ≡ a + b → 0 < b → ⊥
    none_left a b e some = omega (arith, e, some)

-- the beginning of the least that breaks one
pub broken_shorter : (line before later : List ℕ) (len : ℕ) → IsBrokenAt line len → length line ≤ limit → take len line ≡ before ++ later → 0 < length later → IsOpenLine before
broken_shorter line before later len at few e some = by (line_decided before)
  where
    size : length (take len line) ≡ len
    size = omega (arith, at.within, length-take len line)

    short : length before < len
    short = omega (arith, size, less before later (take len line) e some)

    front : take (len - 1) line ≡ before ++ take (len - 1 - length before) later
    front = sym (take_within (len - 1) len line (omega arith)) ∙ ap (take (len - 1)) e ∙ take_front (len - 1) before later (omega (arith, short))

    none : HasNoChunkLine before
    none = none_shorter before later (subst HasNoChunkLine (append-nil (take len line) ∙ e) (at.never []))

    by : Decided Line before → IsOpenLine before
    by (reads l rest is) = absurd (none l rest is)
    by (begun nothing more l is) = record { none = none; may = (more, l, is); short = omega (arith, short, at.within, few) }
    by (never nothing) = absurd (at.before (subst NeverHasChunkLine (sym front) (never_longer before (take (len - 1 - length before) later) (λ more l rest is. nothing more l rest is))))

-- what may become a size line is shorter than what breaks it
pub broken_longer : (line before added : List ℕ) (len : ℕ) → IsBrokenAt line len → line ≡ before ++ added → IsOpenLine before → length before < len
broken_longer line before added len at e unread = either (leb len (length before))
    (λ on.
    let front : take len line ≡ take len before = ap (take len) e ∙ take-append-le len before added (leb-true len (length before) on) in
    let lost : NeverHasChunkLine before = subst NeverHasChunkLine (take-append-drop len before) (never_longer (take len before) (drop len before) (subst NeverHasChunkLine front at.never)) in
    absurd (lost unread.may.0 unread.may.1 [] unread.may.2))
    (λ off. leb-false len (length before) off)

-- the beginning of a trailer without an empty line
pub trailer_shorter : (used : ℕ) (line before later : List ℕ) → line ≡ before ++ later → first_block (limit - used + 1) (drop used line) ≡ unfinished → length line ≤ limit
    → 0 < length later → used ≤ length before → IsOpenTrailer used before
trailer_shorter used line before later e unended short some within = record {
  within = within;
  unended = unfinished_shorter (limit - used + 1) (drop used before) later (ap (first_block (limit - used + 1)) (sym (ap (drop used) e ∙ drop-append-le used before later within)) ∙ unended);
  short = omega (arith, short, less before later line e some);
}
