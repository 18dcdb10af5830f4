-- RFC 9112, section 5: the fields that spans cover in a block
use Rattle.std.specs.Prelude.{ℕ, List, map, filter}
use Rattle.httparse.specs.declared.spans.HeaderSpan.{HeaderSpan}
use Rattle.httparse.specs.Spans.{header_bytes}
use Rattle.nb_responses.specs.Heads.{is_same_word}

-- their names and values
abbrev pub covered : List ℕ → List HeaderSpan → List (List ℕ × List ℕ)
covered block spans = map (header_bytes block) spans

-- the values of those with this name, in order
abbrev pub named : List ℕ → List (List ℕ × List ℕ) → List (List ℕ)
named name pairs = map (λ p. p.1) (filter (λ p. is_same_word name p.0) pairs)
