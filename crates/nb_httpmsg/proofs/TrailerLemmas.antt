-- What a trailer so far is read as.
use Rattle.std.proofs.Common.{◌≡◌, ◌≤◌, ◌<◌, ℕ, ◌+◌, ◌-◌, List, [], ◌++◌, length, take, drop, Some, true, false, refl, ap, ◌∙◌, sym, subst, arith, ltb, leb, append_assoc, length-append, length-drop}
use Rattle.std.proofs.lemmas.Bool.{le-leb, ltb-true, ltb-false}
use Rattle.std.proofs.lemmas.List.{take_all, take_at, drop_at, length-take, drop-append-le}
use Rattle.httparse.specs.Grammar.{ChunkLine, print_chunk_line, chunk_size}
use Rattle.nb_responses.specs.Lines.{first_block, whole, unfinished, crowded, limit, found_by}
use Rattle.nb_responses.specs.Chunks.{Verdict, body, broken, long, response, trailer_verdict, Tail, after_line}
use Rattle.nb_responses.proofs.BlockLaws.{whole_shorter, crowded_long}
use Rattle.nb_responses.proofs.LineLaws.{block_alone, block_longer}
use Rattle.nb_responses.proofs.Cases.{either}
use Rattle.nb_httpmsg.specs.declared.place.Place.TheVariants.{Trailer, Whole, Broken}
use Rattle.nb_httpmsg.specs.Reader.{Reader, IsOpenTrailer}
use Rattle.nb_httpmsg.specs.declared.line.LineRead.{LineRead}
use Rattle.nb_httpmsg.specs.Feeding.{InChunk, InTrailer, StandsAt, kept_within, Feeds, IsLast, IsTrailerRead}
use Rattle.nb_httpmsg.proofs.BlockLemmas.{take_plus}
use Rattle.nb_httpmsg.proofs.LeastLemmas.{less, trailer_shorter}
use Rattle.nb_httpmsg.proofs.FeedLemmas.{line_of, ending_last, goes_on_without, no_longer, kept_front}

trailer_ends : (l : ChunkLine) (text rest : List ℕ) (verdict : Verdict) → InChunk l → chunk_size l ≡ 0 → text ≡ print_chunk_line l ++ rest → length text ≤ limit
    → trailer_verdict (found_by (limit - length (print_chunk_line l)) rest (first_block (limit - length (print_chunk_line l) + 1) rest)) ≡ verdict → Tail text (response verdict [])
trailer_ends l text rest verdict c nothing e short is =
    let exact : length text ≡ length (print_chunk_line l) + length rest = ap length e ∙ length-append (print_chunk_line l) rest in
    after_line l rest (response verdict []) (line_of text l rest e c)
    (ending_last (length (print_chunk_line l)) (chunk_size l) rest nothing (omega (arith, exact, short)) ∙ ap (λ v. Some (response v [])) is)

last_rest : (used : ℕ) (line : List ℕ) (t : IsLast used line) → drop used line ≡ t.rest
last_rest used line t = ap (drop used) t.is_line ∙ drop_at (print_chunk_line t.last) t.rest used (sym t.is_used)

last_block : (used : ℕ) (line : List ℕ) (t : IsLast used line) → first_block (limit - length (print_chunk_line t.last) + 1) t.rest ≡ first_block (limit - used + 1) (drop used line)
last_block used line t = ap (λ n. first_block (limit - n + 1) t.rest) (sym t.is_used) ∙ ap (first_block (limit - used + 1)) (sym (last_rest used line t))

block_in_trailer : (used : ℕ) (before added : List ℕ) → used ≤ length before → drop used (before ++ added) ≡ drop used before ++ added
block_in_trailer used before added l = drop-append-le used before added l

-- a trailer that isn't whole
pub trailer_open : (used : ℕ) (line : List ℕ) → used ≤ length line → length line ≤ limit → first_block (limit - used + 1) (drop used line) ≡ unfinished
    → IsTrailerRead used line (record { len = length line; place = kept_within (length line) (Trailer used) })
trailer_open used line within short unended =
    let all : take (length line) line ≡ line = take_all (length line) line (omega arith) in
    either (ltb (length line) limit)
    (λ on. rw on (record {
      within = omega arith;
      stands = λ t. subst (λ ys. StandsAt (Trailer used) ys ys []) (sym all) (record {
        last = t.last;
        rest = t.rest;
        chunk = t.chunk;
        is_line = t.is_line;
        is_tail = refl;
        is_part = refl;
        is_used = t.is_used;
        size = t.size;
        unended = ap (first_block (limit - used + 1)) (sym (last_rest used line t)) ∙ unended;
        short = ltb-true (length line) limit on;
      });
      fits = subst (IsOpenTrailer used) (sym all) (record { within = within; unended = unended; short = ltb-true (length line) limit on });
      longer = λ before added e l _. no_longer line before added e l;
      least = λ before later e some. trailer_shorter used line before later (sym all ∙ e) unended short some;
    }))
    (λ off. rw off (record {
      within = omega arith;
      stands = λ t.
          let exact : length line ≡ length (print_chunk_line t.last) + length t.rest = ap length t.is_line ∙ length-append (print_chunk_line t.last) t.rest in
          let enough : leb (limit - length (print_chunk_line t.last)) (length t.rest) ≡ true = le-leb _ _ (omega (arith, exact, ltb-false (length line) limit off)) in
          subst (λ ys. Tail ys (response long [])) (sym all)
          (trailer_ends t.last line t.rest long t.chunk t.size t.is_line short
          (ap (λ b. trailer_verdict (found_by (limit - length (print_chunk_line t.last)) t.rest b)) (last_block used line t ∙ unended) ∙ (rw enough refl)));
      fits = tt;
      longer = λ before added e l _. no_longer line before added e l;
      least = λ before later e some. trailer_shorter used line before later (sym all ∙ e) unended short some;
    }))

pub trailer_crowded : (used : ℕ) (line : List ℕ) → length line ≤ limit → first_block (limit - used + 1) (drop used line) ≡ crowded
    → IsTrailerRead used line (record { len = length line; place = Broken })
trailer_crowded used line short full =
    let all : take (length line) line ≡ line = take_all (length line) line (omega arith) in
    record {
      within = omega arith;
      stands = λ t. subst (λ ys. Tail ys (response broken [])) (sym all)
          (trailer_ends t.last line t.rest broken t.chunk t.size t.is_line short
          (ap (λ b. trailer_verdict (found_by (limit - length (print_chunk_line t.last)) t.rest b)) (last_block used line t ∙ full)));
      fits = tt;
      longer = λ before added e l _. no_longer line before added e l;
      least = λ before later e some within. absurd (too_many (limit - used + 1) (length (drop used line)) (length line) (crowded_long (limit - used + 1) (drop used line) full) (length-drop used line) short refl);
    }
  where
    too_many : (n d l : ℕ) → n ≤ d → d ≡ l - used → l ≤ limit → n ≡ limit - used + 1 → ⊥
    too_many n d l many e few is = omega (arith, many, e, few, is)

-- a whole one
pub trailer_whole : (used len : ℕ) (line : List ℕ) → used ≤ length line → length line ≤ limit → len ≤ length (drop used line)
    → first_block (limit - used + 1) (drop used line) ≡ whole (take len (drop used line)) (drop len (drop used line))
    → IsTrailerRead used line (record { len = used + len; place = Whole })
trailer_whole used len line within short reach is =
    let behind_it : length (drop used line) + used ≡ length line = omega (arith, length-drop used line, within) in
    let alone : first_block (limit - used + 1) (take len (drop used line)) ≡ whole (take len (drop used line)) [] = block_alone (limit - used + 1) (drop used line) (take len (drop used line)) (drop len (drop used line)) is in
    record {
      within = omega (arith, behind_it, reach);
      stands = λ t.
          let rest_is : drop used line ≡ t.rest = last_rest used line t in
          let spelled : take (used + len) line ≡ print_chunk_line t.last ++ take len t.rest = take_plus used len line ∙ ap (λ ys. take used line ++ take len ys) rest_is
          ∙ ap (λ ys. ys ++ take len t.rest) (ap (take used) t.is_line ∙ take_at (print_chunk_line t.last) t.rest used (sym t.is_used)) in
          let ends : first_block (limit - length (print_chunk_line t.last) + 1) (take len t.rest) ≡ whole (take len (drop used line)) [] =
          ap (λ n. first_block (limit - n + 1) (take len t.rest)) (sym t.is_used) ∙ ap (λ ys. first_block (limit - used + 1) (take len ys)) (sym rest_is) ∙ alone in
          trailer_ends t.last (take (used + len) line) (take len t.rest) body t.chunk t.size spelled (omega (arith, short, length-take (used + len) line))
          (ap (λ b. trailer_verdict (found_by (limit - length (print_chunk_line t.last)) (take len t.rest) b)) ends);
      fits = tt;
      longer = λ before added e l open_one.
          let there : drop used line ≡ drop used before ++ added = ap (drop used) e ∙ block_in_trailer used before added open_one.within in
          let here : first_block (limit - used + 1) (drop used before ++ added) ≡ whole (take len (drop used line)) (drop len (drop used line)) = ap (first_block (limit - used + 1)) (sym there) ∙ is in
          omega (arith, block_longer (limit - used + 1) (drop used before) added (take len (drop used line)) (drop len (drop used line)) open_one.unended here, length-take len (drop used line), length-drop used before, open_one.within);
      least = λ before later e some reach_one. record {
        within = reach_one;
        unended = whole_shorter (limit - used + 1) (drop used line) (drop used before) later (take len (drop used line)) (drop len (drop used line)) is
            (sym (ap (drop used) (take_plus used len line) ∙ drop_at (take used line) (take len (drop used line)) used (omega (arith, within, length-take used line))) ∙ ap (drop used) e ∙ block_in_trailer used before later reach_one) some;
        short = omega (arith, short, length-take (used + len) line, less before later (take (used + len) line) e some);
      };
    }

pub trailer_comes : (used : ℕ) (old new : Reader) (line bytes : List ℕ) (taken : ℕ) (r : LineRead) → old.place ≡ Trailer used → line ≡ old.line ++ take taken bytes → IsTrailerRead used line r → length old.line < r.len
    → new.place ≡ r.place → new.line ≡ take r.len line → new.block ≡ old.block → Feeds old new (take (r.len - length old.line) bytes)
trailer_comes used old new line bytes taken r at spelled read far after kept same = goes_on_without old new (take (r.len - length old.line) bytes) same (λ tail part s.
    let here : InTrailer used old.line tail part = subst (λ p. StandsAt p old.line tail part) at s in
    let whole_line : IsLast used line = record {
      last = here.last;
      rest = here.rest ++ take taken bytes;
      chunk = here.chunk;
      is_line = spelled ∙ ap (λ t. t ++ take taken bytes) here.is_line ∙ append_assoc (print_chunk_line here.last) here.rest (take taken bytes);
      is_used = here.is_used;
      size = here.size;
    } in
    let e : take r.len line ≡ tail ++ take (r.len - length old.line) bytes = kept_front line old.line bytes taken r.len spelled read.within (omega (arith, far)) ∙ ap (λ t. t ++ take (r.len - length old.line) bytes) (sym here.is_tail) in
    subst (λ p. StandsAt p new.line (tail ++ take (r.len - length old.line) bytes) part) (sym after)
    (subst (λ t. StandsAt r.place t (tail ++ take (r.len - length old.line) bytes) part) (sym kept)
    (subst (λ t. StandsAt r.place (take r.len line) t part) e
    (subst (λ q. StandsAt r.place (take r.len line) (take r.len line) q) (sym here.is_part) (read.stands whole_line)))))
