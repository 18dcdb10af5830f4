-- How a reader of a chunked body goes on to stand for the bytes that it takes.
use Rattle.std.proofs.Common.{◌≡◌, ◌≤◌, ◌<◌, ℕ, zero, suc, ◌+◌, ◌-◌, List, [], ◌∷◌, ◌++◌, length, take, drop, Some, None, Bool, true, false, cond, refl, ap, ◌∙◌, sym, subst, arith, eqb, ltb, leb, append-nil, append_assoc, length-append, add-one, lit<, get_or, length-drop}
use Rattle.std.specs.List.{AllByRecursion, flat_map}
use Rattle.std.specs.Char.{is_ascii_hexdigit}
use Rattle.std.proofs.lemmas.Bool.{ne_eqb, eq-eqb, lt-ltb, le-ltb, le-leb, lt-leb, leb-true, leb-false, ltb-true, ltb-false, eqb-true, eqb-false, true≢false, false≢true}
use Rattle.std.proofs.lemmas.List.{take_all, take_at, drop_at, take-append-le, take-append-drop, length-take, drop_all, drop-append-le}
use Rattle.std.proofs.lemmas.Grind.{flat_map-append}
use Rattle.httparse.specs.Ascii.{carriage_return, line_feed}
use Rattle.httparse.specs.Grammar.{ChunkLine, print_chunk_line, chunk_size, HasNoChunkLine, NeverHasChunkLine, MayBecomeChunkLine, ReadsChunkLine, print_extension, print_end, crlf, AllPass}
use Rattle.httparse.specs.Spans.{IsChunkLineAt}
use Rattle.nb_responses.specs.Lines.{first_block, whole, unfinished, crowded, limit, found_by}
use Rattle.nb_responses.specs.Chunks.{Verdict, more, body, broken, long, response, Chunk, chunk_bytes, print_chunk, IsChunk, ending, tail_ending, trailer_verdict, IsLineOf, short_line, long_line, bad_line, Tail, no_line, after_line}
use Rattle.nb_responses.proofs.LineLaws.{take_front, block_alone, block_longer}
use Rattle.nb_responses.proofs.Cases.{either}
use Rattle.nb_readings.proofs.ReadingLemmas.{chunked_only}
use Rattle.nb_httpmsg.specs.declared.place.Place.{Place}
use Rattle.nb_httpmsg.specs.declared.place.Place.TheVariants.{Size, Bytes, End, Trailer, Whole, Broken, TooLong}
use Rattle.nb_httpmsg.specs.Reader.{Reader, IsOpenLine, IsOpenTrailer, FitsPlace}
use Rattle.nb_httpmsg.specs.declared.line.LineRead.{LineRead}
use Rattle.nb_httpmsg.proofs.BlockLemmas.{take_within}
use Rattle.nb_httpmsg.proofs.LeastLemmas.{line_shorter, open_shorter, broken_shorter, broken_longer}
use Rattle.nb_httpmsg.specs.Leasts.{IsBrokenAt}
use Rattle.nb_httpmsg.specs.Feeding.{InChunk, InSize, InBytes, InEnd, InTrailer, StandsAt, verdict_of, place_after_size, kept_within, place_after_bytes, place_after_end, StandsForBody, Feeds, IsSizeRead, IsLast, IsTrailerRead}

pub line_of : (text : List ℕ) (l : ChunkLine) (rest : List ℕ) → text ≡ print_chunk_line l ++ rest → InChunk l → IsLineOf text l rest
line_of text l rest e c = record { reads = (c.is, e); short = c.short }

size_tail : (line tail part : List ℕ) → InSize line tail part → Tail tail (response more part)
size_tail line tail part s =
    let here : Tail line (response more []) = no_line more (λ l rest is. s.unread.none l rest is.reads) (short_line s.unread.may s.unread.short) in
    subst (λ p. Tail tail (response more p)) (sym s.is_part) (subst (λ t. Tail t (response more [])) (sym s.is_tail) here)

bytes_ending : (used size left : ℕ) (part : List ℕ) → size ≡ length part + left → 0 < left → ending used size part ≡ Some (response more part)
bytes_ending used size left part e l =
    let some : eqb size 0 ≡ false = ne_eqb size 0 (λ z. apart (length part) left size e l z) in
    let short : ltb (length part) size ≡ true = lt-ltb (length part) size (omega (arith, e, l)) in
    rw (some, short) refl
  where
    apart : (a b size : ℕ) → size ≡ a + b → 0 < b → size ≡ 0 → ⊥
    apart a b size e l z = omega (arith, e, l, z)

bytes_tail : (left : ℕ) (tail part : List ℕ) → InBytes left tail part → Tail tail (response more part)
bytes_tail left tail part s = after_line s.line part (response more part) (line_of tail s.line part s.is_tail s.chunk) (bytes_ending (length (print_chunk_line s.line)) (chunk_size s.line) left part s.size s.more)

-- what stands after a chunk's bytes decides
pub ending_after : (used size : ℕ) (part later : List ℕ) → size ≡ length part → 0 < length part → ending used size (part ++ later) ≡ tail_ending part later
ending_after used size part later e l =
    let some : eqb size 0 ≡ false = ne_eqb size 0 (λ z. apart (length part) size e l z) in
    let enough : ltb (length (part ++ later)) size ≡ false = le-ltb (length (part ++ later)) size (omega (arith, e, length-append part later)) in
    rw (some, enough) (ap (λ xs. tail_ending xs (drop size (part ++ later))) (take_at part later size (sym e)) ∙ ap (tail_ending part) (drop_at part later size (sym e)))
  where
    apart : (a size : ℕ) → size ≡ a → 0 < a → size ≡ 0 → ⊥
    apart a size e l z = omega (arith, e, l, z)

end_ending : (cr : Bool) (part : List ℕ) → tail_ending part (cond cr (carriage_return ∷ []) []) ≡ Some (response more part)
end_ending true part = refl
end_ending false part = refl

end_tail : (cr : Bool) (tail part : List ℕ) → InEnd cr tail part → Tail tail (response more part)
end_tail cr tail part s =
    let later : List ℕ = cond cr (carriage_return ∷ []) [] in
    after_line s.line (part ++ later) (response more part) (line_of tail s.line (part ++ later) s.is_tail s.chunk)
    (ending_after (length (print_chunk_line s.line)) (chunk_size s.line) part later s.size s.some ∙ end_ending cr part)

-- how an ending is at a last size line
pub ending_last : (used size : ℕ) (rest : List ℕ) → size ≡ 0 → length rest ≤ limit - used
    → ending used size rest ≡ Some (response (trailer_verdict (found_by (limit - used) rest (first_block (limit - used + 1) rest))) [])
ending_last used size rest e l =
    let last : eqb size 0 ≡ true = eq-eqb size 0 e in
    rw last (ap (λ t. Some (response (trailer_verdict (found_by (limit - used) rest (first_block (limit - used + 1) t))) [])) (take_all (limit - used) rest l))

trailer_tail : (used : ℕ) (line tail part : List ℕ) → InTrailer used line tail part → Tail tail (response more part)
trailer_tail used line tail part s =
    let size : length line ≡ length (print_chunk_line s.last) + length s.rest = ap length s.is_line ∙ length-append (print_chunk_line s.last) s.rest in
    let room : length s.rest < limit - used = omega (arith, size, s.is_used, s.short) in
    let few : leb (limit - used) (length s.rest) ≡ false = lt-leb (limit - used) (length s.rest) room in
    let ends : ending used (chunk_size s.last) s.rest ≡ Some (response more []) =
    ending_last used (chunk_size s.last) s.rest s.size (omega (arith, room))
    ∙ ap (λ k. Some (response (trailer_verdict (found_by (limit - used) s.rest k)) [])) s.unended ∙ (rw few refl) in
    let here : Tail tail (response more []) = after_line s.last s.rest (response more []) (line_of tail s.last s.rest (s.is_tail ∙ s.is_line) s.chunk)
    (ap (λ n. ending n (chunk_size s.last) s.rest) (sym s.is_used) ∙ ends) in
    subst (λ p. Tail tail (response more p)) (sym s.is_part) here

tail_at : (place : Place) (line tail part : List ℕ) → StandsAt place line tail part → Tail tail (response (verdict_of place) part)
tail_at Size line tail part s = size_tail line tail part s
tail_at (Bytes left) line tail part s = bytes_tail left tail part s
tail_at (End cr) line tail part s = end_tail cr tail part s
tail_at (Trailer used) line tail part s = trailer_tail used line tail part s
tail_at Whole line tail part s = s
tail_at Broken line tail part s = s
tail_at TooLong line tail part s = s

pub standing : (place : Place) (line text bytes : List ℕ) (chunks : List Chunk) (tail part : List ℕ) → AllByRecursion IsChunk chunks
    → text ≡ flat_map print_chunk chunks ++ tail → bytes ≡ flat_map chunk_bytes chunks ++ part → StandsAt place line tail part → StandsForBody place line text bytes
standing place line text bytes chunks tail part all e f s = record {
  chunks = chunks;
  tail = tail;
  part = part;
  all = all;
  is_text = e;
  is_bytes = f;
  at = s;
  reads = sym (chunked_only text (response (verdict_of place) bytes)
      (record { chunks = chunks; tail = tail; last = response (verdict_of place) part; all = all; stands = e; ends = tail_at place line tail part s; is = ap (response (verdict_of place)) f }));
}

-- a step within a chunk, a size line or a trailer
pub goes_on : (old new : Reader) (taken gathered : List ℕ) → new.block ≡ old.block ++ gathered
    → ((tail part : List ℕ) → StandsAt old.place old.line tail part → StandsAt new.place new.line (tail ++ taken) (part ++ gathered)) → Feeds old new taken
goes_on old new taken gathered e step = λ text before s. standing new.place new.line (text ++ taken) (before ++ new.block) s.chunks (s.tail ++ taken) (s.part ++ gathered) s.all
    (ap (λ t. t ++ taken) s.is_text ∙ append_assoc (flat_map print_chunk s.chunks) s.tail taken)
    (ap (λ b. before ++ b) e ∙ sym (append_assoc before old.block gathered) ∙ ap (λ b. b ++ gathered) s.is_bytes ∙ append_assoc (flat_map chunk_bytes s.chunks) s.part gathered)
    (step s.tail s.part s.at)

-- the same without bytes of the body
pub goes_on_without : (old new : Reader) (taken : List ℕ) → new.block ≡ old.block
    → ((tail part : List ℕ) → StandsAt old.place old.line tail part → StandsAt new.place new.line (tail ++ taken) part) → Feeds old new taken
goes_on_without old new taken e step = goes_on old new taken [] (e ∙ sym (append-nil old.block)) (λ tail part s. subst (λ p. StandsAt new.place new.line (tail ++ taken) p) (sym (append-nil part)) (step tail part s))

all_one_more : (cs : List Chunk) (c : Chunk) → AllByRecursion IsChunk cs → IsChunk c → AllByRecursion IsChunk (cs ++ c ∷ [])
all_one_more [] c all is = (is, tt)
all_one_more (d ∷ ds) c all is = (all.0, all_one_more ds c all.1 is)

none_empty : (l : ChunkLine) (rest : List ℕ) → ReadsChunkLine [] l rest → ⊥
unfolding print_chunk_line
none_empty l rest is =
    let size : length (print_chunk_line l) ≡ length (l.digits ++ l.pad ++ print_extension l.extension) + 2 = length-append (l.digits ++ l.pad ++ print_extension l.extension) (print_end crlf) in
    empty (length (l.digits ++ l.pad ++ print_extension l.extension)) (length rest) (ap length is.1 ∙ length-append (print_chunk_line l) rest ∙ ap (λ n. n + length rest) size)
  where
    empty : (a b : ℕ) → 0 ≡ a + 2 + b → ⊥
    empty a b e = omega (arith, e)

zero_line : ChunkLine
zero_line = record { digits = 48 ∷ []; pad = []; extension = None }

-- an empty size line may become one
pub open_at_first : IsOpenLine []
unfolding print_chunk_line zero_line
open_at_first = record {
  none = none_empty;
  may = (print_chunk_line zero_line, zero_line, (record { digits = (omega arith, omega arith, all_digits); pad = λ k d l. absurd (none_below k l); extension = tt }, sym (append-nil (print_chunk_line zero_line))));
  short = lit< tt;
}
  where
    none_below : (k : ℕ) → k < 0 → ⊥
    none_below k l = omega (arith, l)

    all_digits : AllPass is_ascii_hexdigit (48 ∷ [])
    all_digits zero d l = refl
    all_digits (suc k) d l = absurd (none_below k (omega (arith, l)))

-- a whole chunk: its line end's LF comes
pub chunk_ends : (old new : Reader) → old.place ≡ End true → new.place ≡ Size → new.line ≡ [] → new.block ≡ old.block → Feeds old new (line_feed ∷ [])
chunk_ends old new at after empty same = λ text before s.
    let here : InEnd true s.tail s.part = subst (λ p. StandsAt p old.line s.tail s.part) at s.at in
    let c : Chunk = record { line = here.line; bytes = s.part } in
    let apart : s.tail ++ line_feed ∷ [] ≡ print_chunk c = ap (λ t. t ++ line_feed ∷ []) here.is_tail ∙ append_assoc (print_chunk_line here.line) (s.part ++ carriage_return ∷ []) (line_feed ∷ []) ∙ ap (λ t. print_chunk_line here.line ++ t) (append_assoc s.part (carriage_return ∷ []) (line_feed ∷ [])) in
    standing new.place new.line (text ++ line_feed ∷ []) (before ++ new.block) (s.chunks ++ c ∷ []) [] [] (all_one_more s.chunks c s.all (record { line = here.chunk.is; short = here.chunk.short; some = here.some; size = here.size }))
    (ap (λ t. t ++ line_feed ∷ []) s.is_text ∙ append_assoc (flat_map print_chunk s.chunks) s.tail (line_feed ∷ []) ∙ ap (λ t. flat_map print_chunk s.chunks ++ t) (apart ∙ sym (append-nil (print_chunk c))) ∙ sym (flat_map-append print_chunk s.chunks (c ∷ [])) ∙ sym (append-nil (flat_map print_chunk (s.chunks ++ c ∷ []))))
    (ap (λ b. before ++ b) same ∙ s.is_bytes ∙ ap (λ t. flat_map chunk_bytes s.chunks ++ t) (sym (append-nil s.part)) ∙ sym (flat_map-append chunk_bytes s.chunks (c ∷ [])) ∙ sym (append-nil (flat_map chunk_bytes (s.chunks ++ c ∷ []))))
    (subst (λ p. StandsAt p new.line [] []) (sym after) (record { is_tail = sym empty; is_part = refl; unread = subst IsOpenLine (sym empty) open_at_first }))

-- the CR of a line end
pub chunk_goes_on : (old new : Reader) → old.place ≡ End false → new.place ≡ End true → new.block ≡ old.block → Feeds old new (carriage_return ∷ [])
chunk_goes_on old new at after same = goes_on_without old new (carriage_return ∷ []) same (λ tail part s.
    let here : InEnd false tail part = subst (λ p. StandsAt p old.line tail part) at s in
    subst (λ p. StandsAt p new.line (tail ++ carriage_return ∷ []) part) (sym after) (record {
      line = here.line;
      chunk = here.chunk;
      is_tail = ap (λ t. t ++ carriage_return ∷ []) here.is_tail ∙ append_assoc (print_chunk_line here.line) (part ++ []) (carriage_return ∷ []) ∙ ap (λ t. print_chunk_line here.line ++ (t ++ carriage_return ∷ [])) (append-nil part);
      size = here.size;
      some = here.some;
    }))

bad_end : (cr : Bool) (byte : ℕ) (part : List ℕ) → (cr ≡ true → byte ≡ line_feed → ⊥) → (cr ≡ false → byte ≡ carriage_return → ⊥)
    → tail_ending part (cond cr (carriage_return ∷ []) [] ++ byte ∷ []) ≡ Some (response broken part)
bad_end true byte part first second = let off : eqb byte 10 ≡ false = ne_eqb byte 10 (first refl) in rw off refl
bad_end false byte part first second = let off : eqb byte 13 ≡ false = ne_eqb byte 13 (second refl) in rw off refl

-- another byte there
pub chunk_breaks : (cr : Bool) (byte : ℕ) (old new : Reader) → old.place ≡ End cr → new.place ≡ Broken → new.block ≡ old.block
    → (cr ≡ true → byte ≡ line_feed → ⊥) → (cr ≡ false → byte ≡ carriage_return → ⊥) → Feeds old new (byte ∷ [])
chunk_breaks cr byte old new at after same first second = goes_on_without old new (byte ∷ []) same (λ tail part s.
    let here : InEnd cr tail part = subst (λ p. StandsAt p old.line tail part) at s in
    let later : List ℕ = cond cr (carriage_return ∷ []) [] in
    let apart : tail ++ byte ∷ [] ≡ print_chunk_line here.line ++ (part ++ (later ++ byte ∷ [])) = ap (λ t. t ++ byte ∷ []) here.is_tail ∙ append_assoc (print_chunk_line here.line) (part ++ later) (byte ∷ []) ∙ ap (λ t. print_chunk_line here.line ++ t) (append_assoc part later (byte ∷ [])) in
    subst (λ p. StandsAt p new.line (tail ++ byte ∷ []) part) (sym after)
    (after_line here.line (part ++ (later ++ byte ∷ [])) (response broken part) (line_of (tail ++ byte ∷ []) here.line (part ++ (later ++ byte ∷ [])) apart here.chunk)
    (ending_after (length (print_chunk_line here.line)) (chunk_size here.line) part (later ++ byte ∷ []) here.size here.some ∙ bad_end cr byte part first second)))

-- a byte of a chunk's line end
pub end_comes : (cr : Bool) (byte : ℕ) (old new : Reader) → old.place ≡ End cr → new.place ≡ place_after_end cr byte → new.line ≡ [] → new.block ≡ old.block → Feeds old new (byte ∷ [])
end_comes true byte old new at after empty same = either (eqb byte 10)
    (λ on. subst (λ b. Feeds old new (b ∷ [])) (sym (eqb-true byte 10 on)) (chunk_ends old new at (after ∙ (rw on refl)) empty same))
    (λ off. chunk_breaks true byte old new at (after ∙ (rw off refl)) same (λ _ is. eqb-false byte 10 off is) (λ e. absurd (true≢false e)))
end_comes false byte old new at after empty same = either (eqb byte 13)
    (λ on. subst (λ b. Feeds old new (b ∷ [])) (sym (eqb-true byte 13 on)) (chunk_goes_on old new at (after ∙ (rw on refl)) same))
    (λ off. chunk_breaks false byte old new at (after ∙ (rw off refl)) same (λ e. absurd (false≢true e)) (λ _ is. eqb-false byte 13 off is))

pub end_fits : (cr : Bool) (byte : ℕ) → FitsPlace (place_after_end cr byte) []
end_fits true byte = either (eqb byte 10) (λ on. rw on open_at_first) (λ off. rw off tt)
end_fits false byte = either (eqb byte 13) (λ on. rw on tt) (λ off. rw off tt)

pub one_taken : (bytes : List ℕ) (d : ℕ) → 0 < length bytes → take 1 bytes ≡ get_or bytes 0 d ∷ []
one_taken [] d l = absurd (none_below l)
  where
    none_below : 0 < 0 → ⊥
    none_below l = omega (arith, l)
one_taken (b ∷ bytes) d l = refl

-- bytes of a chunk
pub bytes_come : (left : ℕ) (old new : Reader) (taken : List ℕ) → old.place ≡ Bytes left → length taken ≤ left → new.place ≡ place_after_bytes (left - length taken) → new.block ≡ old.block ++ taken → Feeds old new taken
bytes_come left old new taken at few after same = goes_on old new taken taken same (λ tail part s.
    let here : InBytes left tail part = subst (λ p. StandsAt p old.line tail part) at s in
    let spelled : tail ++ taken ≡ print_chunk_line here.line ++ (part ++ taken) = ap (λ t. t ++ taken) here.is_tail ∙ append_assoc (print_chunk_line here.line) part taken in
    subst (λ p. StandsAt p new.line (tail ++ taken) (part ++ taken)) (sym after)
    (either (ltb 0 (left - length taken))
    (λ on. rw on (record {
      line = here.line;
      chunk = here.chunk;
      is_tail = spelled;
      size = omega (arith, here.size, few, length-append part taken);
      more = ltb-true 0 (left - length taken) on;
    }))
    (λ off. rw off (record {
      line = here.line;
      chunk = here.chunk;
      is_tail = spelled ∙ ap (λ t. print_chunk_line here.line ++ t) (sym (append-nil (part ++ taken)));
      size = omega (arith, here.size, few, length-append part taken, ltb-false 0 (left - length taken) off);
      some = omega (arith, here.size, here.more, few, length-append part taken, ltb-false 0 (left - length taken) off);
    }))))

pub bytes_fit : (left : ℕ) (line : List ℕ) → FitsPlace (place_after_bytes left) line
bytes_fit left line = either (ltb 0 left) (λ on. rw on (ltb-true 0 left on)) (λ off. rw off tt)

-- a list that is longer than the first of two that it begins with
longer_front : (xs ys us vs : List ℕ) → xs ++ ys ≡ us ++ vs → length xs ≤ length us → us ≡ xs ++ take (length us - length xs) ys
longer_front xs ys us vs e l = sym (take_at us vs (length us) refl) ∙ ap (take (length us)) (sym e) ∙ take_front (length us) xs ys l

shorter_front : (xs ys us vs : List ℕ) → xs ++ ys ≡ us ++ vs → length us ≤ length xs → xs ≡ us ++ drop (length us) xs
shorter_front xs ys us vs e l =
    let front : take (length us) xs ≡ us = sym (take-append-le (length us) xs ys l) ∙ ap (take (length us)) e ∙ take_at us vs (length us) refl in
    sym (take-append-drop (length us) xs) ∙ ap (λ zs. zs ++ drop (length us) xs) front

-- a size line that becomes whole is longer than what was there
pub line_longer : (line added : List ℕ) (l : ChunkLine) (rest : List ℕ) → HasNoChunkLine line → ReadsChunkLine (line ++ added) l rest → length line < length (print_chunk_line l)
line_longer line added l rest none reads = either (leb (length (print_chunk_line l)) (length line))
    (λ on. absurd (none l (drop (length (print_chunk_line l)) line) (reads.0, shorter_front line added (print_chunk_line l) rest reads.1 (leb-true _ _ on))))
    (λ off. leb-false _ _ off)

line_ends : (line added : List ℕ) (l : ChunkLine) (rest : List ℕ) → HasNoChunkLine line → ReadsChunkLine (line ++ added) l rest
    → print_chunk_line l ≡ line ++ take (length (print_chunk_line l) - length line) added
line_ends line added l rest none reads = longer_front line added (print_chunk_line l) rest reads.1 (omega (arith, line_longer line added l rest none reads))

no_lines_yet : (k : ℕ) → first_block (k + 1) [] ≡ unfinished
no_lines_yet k = ap (λ n. first_block n []) (add-one k)

-- a whole size line
after_size_line : (len size : ℕ) (l : ChunkLine) → InChunk l → len ≡ length (print_chunk_line l) → size ≡ chunk_size l → StandsAt (place_after_size len size) (print_chunk_line l) (print_chunk_line l) []
after_size_line len size l c exact says = either (ltb 0 size)
    (λ on. rw on (record { line = l; chunk = c; is_tail = sym (append-nil (print_chunk_line l)); size = omega (arith, says); more = ltb-true 0 size on }))
    (λ off.
    let nothing : chunk_size l ≡ 0 = omega (arith, says, ltb-false 0 size off) in
    either (ltb len limit)
    (λ on. rw (off, on) (record {
      last = l;
      rest = [];
      chunk = c;
      is_line = sym (append-nil (print_chunk_line l));
      is_tail = refl;
      is_part = refl;
      is_used = exact;
      size = nothing;
      unended = no_lines_yet (limit - len);
      short = omega (arith, exact, ltb-true len limit on);
    }))
    (λ far.
    let full : limit - length (print_chunk_line l) ≡ 0 = omega (arith, exact, ltb-false len limit far) in
    let ends : ending (length (print_chunk_line l)) (chunk_size l) [] ≡ Some (response long []) =
    ending_last (length (print_chunk_line l)) (chunk_size l) [] nothing (omega arith) ∙ ap (λ n. Some (response (trailer_verdict (found_by n [] (first_block (n + 1) []))) [])) full in
    rw (off, far) (after_line l [] (response long []) (line_of (print_chunk_line l) l [] (sym (append-nil (print_chunk_line l))) c) ends)))

pub after_size_fits : (len size : ℕ) (l : ChunkLine) → len ≡ length (print_chunk_line l) → FitsPlace (place_after_size len size) (print_chunk_line l)
after_size_fits len size l exact = either (ltb 0 size)
    (λ on. rw on (ltb-true 0 size on))
    (λ off. either (ltb len limit)
    (λ on. rw (off, on) (record {
      within = omega (arith, exact);
      unended = ap (first_block (limit - len + 1)) (ap (λ n. drop n (print_chunk_line l)) exact ∙ drop_all (length (print_chunk_line l)) (print_chunk_line l) (omega arith)) ∙ no_lines_yet (limit - len);
      short = omega (arith, exact, ltb-true len limit on);
    }))
    (λ far. rw (off, far) tt))

pub no_longer : (line before added : List ℕ) → line ≡ before ++ added → 0 < length added → length before < length line
no_longer line before added e l = omega (arith, ap length e, length-append before added, l)

-- a whole size line
pub size_whole : (line : List ℕ) (len size : ℕ) (l : ChunkLine) → IsChunkLineAt line len size l → length line ≤ limit → IsSizeRead line (record { len = len; place = place_after_size len size })
size_whole line len size l is short =
    let whole_line : length line ≡ length (print_chunk_line l) + length (drop len line) = ap length is.reads.1 ∙ length-append (print_chunk_line l) (drop len line) in
    let c : InChunk l = record { is = is.reads.0; short = omega (arith, short, whole_line) } in
    let kept : take len line ≡ print_chunk_line l = ap (λ n. take n line) is.len_is ∙ ap (take (length (print_chunk_line l))) is.reads.1 ∙ take_at (print_chunk_line l) (drop len line) (length (print_chunk_line l)) refl in
    record {
      within = omega (arith, is.len_is, whole_line);
      stands = subst (λ t. StandsAt (place_after_size len size) t t []) (sym kept) (after_size_line len size l c is.len_is is.size_is);
      fits = subst (FitsPlace (place_after_size len size)) (sym kept) (after_size_fits len size l is.len_is);
      longer = λ before added e l' unread. omega (arith, is.len_is, line_longer before added l (drop len line) unread.none (is.reads.0, sym e ∙ is.reads.1));
      least = λ before later e some. line_shorter l before later c (sym kept ∙ e) some;
    }

-- one that may become whole
pub size_open : (line : List ℕ) → HasNoChunkLine line → MayBecomeChunkLine line → length line ≤ limit → IsSizeRead line (record { len = length line; place = kept_within (length line) Size })
size_open line none may short =
    let all : take (length line) line ≡ line = take_all (length line) line (omega arith) in
    either (ltb (length line) limit)
    (λ on.
    let unread : IsOpenLine line = record { none = none; may = may; short = ltb-true (length line) limit on } in
    rw on (record {
      within = omega arith;
      stands = subst (λ t. StandsAt Size t t []) (sym all) (record { is_tail = refl; is_part = refl; unread = unread });
      fits = subst IsOpenLine (sym all) unread;
      longer = λ before added e l _. no_longer line before added e l;
      least = λ before later e some. open_shorter line before later none may short (sym all ∙ e) some;
    }))
    (λ off.
    let full : limit ≤ length line = ltb-false (length line) limit off in
    let most : take limit line ≡ line = take_all limit line short in
    rw off (record {
      within = omega arith;
      stands = subst (λ t. Tail t (response long [])) (sym all) (no_line long (λ l rest is. none l rest is.reads) (long_line (subst MayBecomeChunkLine (sym most) may) full));
      fits = tt;
      longer = λ before added e l _. no_longer line before added e l;
      least = λ before later e some. open_shorter line before later none may short (sym all ∙ e) some;
    }))

-- one that can't
pub size_bad : (line : List ℕ) (len : ℕ) → IsBrokenAt line len → length line ≤ limit → IsSizeRead line (record { len = len; place = Broken })
size_bad line len at short =
    let few : length (take len line) ≤ limit = omega (arith, short, length-take len line) in
    let most : take limit (take len line) ≡ take len line = take_all limit (take len line) few in
    record {
      within = at.within;
      stands = no_line broken (λ l rest is. subst HasNoChunkLine (append-nil (take len line)) (at.never []) l rest is.reads) (bad_line (subst NeverHasChunkLine (sym most) at.never));
      fits = tt;
      longer = λ before added e some unread. broken_longer line before added len at e unread;
      least = λ before later e some. broken_shorter line before later len at short e some;
    }

-- a line of which a reader keeps what it read
pub kept_front : (line before bytes : List ℕ) (taken len : ℕ) → line ≡ before ++ take taken bytes → len ≤ length line → length before ≤ len → take len line ≡ before ++ take (len - length before) bytes
kept_front line before bytes taken len e l far =
    ap (take len) e ∙ take_front len before (take taken bytes) far
    ∙ ap (λ t. before ++ t) (take_within (len - length before) taken bytes (omega (arith, l, ap length e, length-append before (take taken bytes), length-take taken bytes)))

pub size_comes : (old new : Reader) (line bytes : List ℕ) (taken : ℕ) (r : LineRead) → old.place ≡ Size → line ≡ old.line ++ take taken bytes → IsSizeRead line r → length old.line < r.len
    → new.place ≡ r.place → new.line ≡ take r.len line → new.block ≡ old.block → Feeds old new (take (r.len - length old.line) bytes)
size_comes old new line bytes taken r at spelled read far after kept same = goes_on_without old new (take (r.len - length old.line) bytes) same (λ tail part s.
    let here : InSize old.line tail part = subst (λ p. StandsAt p old.line tail part) at s in
    let e : take r.len line ≡ tail ++ take (r.len - length old.line) bytes = kept_front line old.line bytes taken r.len spelled read.within (omega (arith, far)) ∙ ap (λ t. t ++ take (r.len - length old.line) bytes) (sym here.is_tail) in
    subst (λ p. StandsAt p new.line (tail ++ take (r.len - length old.line) bytes) part) (sym after)
    (subst (λ t. StandsAt r.place t (tail ++ take (r.len - length old.line) bytes) part) (sym kept)
    (subst (λ t. StandsAt r.place (take r.len line) t part) e
    (subst (λ q. StandsAt r.place (take r.len line) (take r.len line) q) (sym here.is_part) read.stands))))

pub both_taken : (a b : ℕ) (xs ys : List ℕ) → a ≡ length xs → take a xs ++ take b ys ≡ take (a + b) (xs ++ ys)
both_taken a b xs ys e =
    let left : b ≡ (a + b) - length xs = omega (arith, e) in
    ap (λ t. t ++ take b ys) (take_all a xs (omega (arith, e))) ∙ ap (λ n. xs ++ take n ys) left ∙ sym (take_front (a + b) xs ys (omega (arith, e)))

-- no bytes, and bytes after others
pub feeds_nothing : (r : Reader) → Feeds r r []
feeds_nothing r = λ text before s. subst (λ t. StandsForBody r.place r.line t (before ++ r.block)) (sym (append-nil text)) s

pub feeds_both : (a b c : Reader) (xs ys : List ℕ) → Feeds a b xs → Feeds b c ys → Feeds a c (xs ++ ys)
feeds_both a b c xs ys first second = λ text before s. subst (λ t. StandsForBody c.place c.line t (before ++ c.block)) (append_assoc text xs ys) (second (text ++ xs) before (first text before s))

-- a reader at a body's first byte
pub at_first : StandsForBody Size [] [] []
at_first = standing Size [] [] [] [] [] [] tt refl refl (record { is_tail = refl; is_part = refl; unread = open_at_first })

-- of two takings, the second after none of the first
pub both_some : (a b n m : ℕ) → a ≤ n → n ≤ a → 0 < n + m → (a ≡ 0 → 0 < m → 0 < b) → 0 < a + b
both_some a b n m l k some later = either (eqb a 0)
    (λ on. let none : a ≡ 0 = eqb-true a 0 on in omega (arith, later none (omega (arith, none, l, k, some))))
    (λ off. positive a b (eqb-false a 0 off))
  where
    positive : (a b : ℕ) → (a ≡ 0 → ⊥) → 0 < a + b
    positive a b apart = omega (arith, apart)
