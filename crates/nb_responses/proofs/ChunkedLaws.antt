-- Each text is read as a chunked body, and a longer one goes on from it.
use Rattle.std.proofs.Common.{◌≡◌, ◌≢◌, ◌≤◌, ◌<◌, ℕ, zero, suc, ◌+◌, ◌-◌, List, [], ◌∷◌, ◌++◌, length, take, drop, Some, None, false, cond, refl, ap, ◌∙◌, sym, subst, arith, eqb, ltb, append-nil, append_assoc}
use Rattle.std.specs.List.{AllByRecursion, flat_map}
use Rattle.std.proofs.lemmas.Bool.{le-ltb, ltb-true, ltb-false, eqb-true, eqb-false}
use Rattle.std.proofs.lemmas.Option.{none-some, same_Some}
use Rattle.std.proofs.lemmas.List.{take_all, length-append, length-take, take-append-drop, take-append-le, drop-append-le}
use Rattle.httparse.specs.Ascii.{crlf_bytes}
use Rattle.httparse.specs.Grammar.{ChunkLine, print_chunk_line, chunk_size, ReadsChunkLine, NeverHasChunkLine, MayBecomeChunkLine}
use Rattle.nb_responses.specs.Lines.{limit, trailer_block}
use Rattle.nb_responses.specs.Chunks.{Verdict, more, broken, long, Response, response, with_chunk, Chunk, chunk_bytes, print_chunk, IsChunk, ending, tail_ending, trailer_verdict, IsLineOf, LineVerdict, short_line, long_line, bad_line, Tail, no_line, after_line, Chunked}
use Rattle.nb_responses.proofs.LineLaws.{take_front}
use Rattle.nb_responses.proofs.BlockLaws.{take_longer, trailer_stays}
use Rattle.nb_responses.proofs.Decisions.{Decided, reads, begun, never}
use Rattle.nb_responses.proofs.SizeLines.{Line, line_decided}
use Rattle.nb_responses.proofs.Cases.{either, by_option}

-- a size line of a text, or why there is none
data SizeLine (text : List ℕ) : Type 0 where
  there : (l : ChunkLine) (rest : List ℕ) → IsLineOf text l rest → SizeLine text
  none : (v : Verdict) → ((l : ChunkLine) (rest : List ℕ) → ¬ (IsLineOf text l rest)) → LineVerdict text v → SizeLine text

-- a line that is short enough stands among the first bytes
line_in_front : (text : List ℕ) (l : ChunkLine) (rest : List ℕ) → IsLineOf text l rest → (x : List ℕ) × Line l (take limit text) x
line_in_front text l rest is =
    (take (limit - length (print_chunk_line l)) rest, (is.reads.0, ap (take limit) is.reads.1 ∙ take_front limit (print_chunk_line l) rest is.short))

in_front : (text : List ℕ) (l : ChunkLine) (rest : List ℕ) → Line l (take limit text) rest → IsLineOf text l (rest ++ drop limit text)
in_front text l rest is = record {
  reads = (is.0, sym (take-append-drop limit text) ∙ ap (λ t. t ++ drop limit text) is.1 ∙ append_assoc (print_chunk_line l) rest (drop limit text));
  short = omega (arith, ap length is.1, length-append (print_chunk_line l) rest, length-take limit text);
}

size_line_by : (text : List ℕ) → Decided Line (take limit text) → SizeLine text
size_line_by text (reads l rest is) = there l (rest ++ drop limit text) (in_front text l rest is)
size_line_by text (begun nothing later l is) =
    let absent : (k : ChunkLine) (rest : List ℕ) → ¬ (IsLineOf text k rest) = λ k rest x. let f = line_in_front text k rest x in nothing k f.0 f.1 in
    either (ltb (length text) limit)
    (λ on.
    let short : length text < limit = ltb-true (length text) limit on in
    let all : take limit text ≡ text = take_all limit text (omega (arith, short)) in
    none more absent (short_line (later, l, subst (λ t. ReadsChunkLine (t ++ later) l []) all is) short))
    (λ off. none long absent (long_line (later, l, is) (ltb-false (length text) limit off)))
size_line_by text (never nothing) =
    none broken (λ k rest x. let f = line_in_front text k rest x in nothing [] k f.0 (subst (λ t. Line k t f.0) (sym (append-nil (take limit text))) f.1)) (bad_line (λ later l rest is. nothing later l rest is))

size_line : (text : List ℕ) → SizeLine text
size_line text = size_line_by text (line_decided (take limit text))

-- a whole chunk after its size line
record WholeChunk (size : ℕ) (rest : List ℕ) : Type 0 where
  some : 0 < size
  enough : size ≤ length rest
  later : List ℕ
  line_end : drop size rest ≡ crlf_bytes ++ later

tail_none : (bytes rest : List ℕ) → tail_ending bytes rest ≡ None → (later : List ℕ) × (rest ≡ crlf_bytes ++ later)
tail_none bytes [] is = absurd (none-some (response more bytes) (sym is))
tail_none bytes (b ∷ []) is = absurd (none-some (response (cond (eqb b 13) more broken) bytes) (sym is))
tail_none bytes (b ∷ c ∷ rest) is = either (eqb b 13)
    (λ on. either (eqb c 10)
    (λ also. (rest, ap (λ x. x ∷ c ∷ rest) (eqb-true b 13 on) ∙ ap (λ x. 13 ∷ x ∷ rest) (eqb-true c 10 also)))
    (λ off. absurd (none-some (response broken bytes) (sym (rw (on, off) at is)))))
    (λ off. absurd (none-some (response broken bytes) (sym (rw off at is))))

whole_chunk : (used size : ℕ) (rest : List ℕ) → ending used size rest ≡ None → WholeChunk size rest
whole_chunk used size rest is = either (eqb size 0)
    (λ on. absurd (none-some (response (trailer_verdict (trailer_block (limit - used) rest)) []) (sym (rw on at is))))
    (λ off. either (ltb (length rest) size)
    (λ few. absurd (none-some (response more rest) (sym (rw (off, few) at is))))
    (λ enough.
    let t : (later : List ℕ) × (drop size rest ≡ crlf_bytes ++ later) = tail_none (take size rest) (drop size rest) (rw (off, enough) at is) in
    record { some = positive size (eqb-false size 0 off); enough = ltb-false (length rest) size enough; later = t.0; line_end = t.1 }))
  where
    positive : (n : ℕ) → (n ≡ 0 → ⊥) → 0 < n
    positive n apart = omega (arith, apart)

-- a chunk before a chunked body
pub chunk_before : (c : Chunk) (text rest : List ℕ) (r : Response) → IsChunk c → text ≡ print_chunk c ++ rest → Chunked rest r → Chunked text (with_chunk c.bytes r)
chunk_before c text rest r is e x = record {
  chunks = c ∷ x.chunks;
  tail = x.tail;
  last = x.last;
  all = (is, x.all);
  stands = e ∙ ap (λ t. print_chunk c ++ t) x.stands ∙ sym (append_assoc (print_chunk c) (flat_map print_chunk x.chunks) x.tail);
  ends = x.ends;
  is = ap (with_chunk c.bytes) x.is ∙ ap (response x.last.verdict) (sym (append_assoc c.bytes (flat_map chunk_bytes x.chunks) x.last.bytes));
}

-- the chunk of a line that a whole one follows
chunk_of : ChunkLine → List ℕ → Chunk
chunk_of l rest = record { line = l; bytes = take (chunk_size l) rest }

record ChunkThere (text : List ℕ) (c : Chunk) (later : List ℕ) : Type 0 where
  is : IsChunk c
  stands : text ≡ print_chunk c ++ later
  less : length later < length text

chunk_there : (text : List ℕ) (l : ChunkLine) (rest : List ℕ) → IsLineOf text l rest → (w : WholeChunk (chunk_size l) rest) → ChunkThere text (chunk_of l rest) w.later
unfolding chunk_of
chunk_there text l rest is w =
    let size : ℕ = chunk_size l in
    let enough : chunk_size l ≤ length rest = w.enough in
    let exact : length (take (chunk_size l) rest) ≡ chunk_size l = omega (arith, length-take (chunk_size l) rest, enough) in
    let apart : rest ≡ take (chunk_size l) rest ++ (crlf_bytes ++ w.later) = sym (take-append-drop (chunk_size l) rest) ∙ ap (λ t. take (chunk_size l) rest ++ t) w.line_end in
    let some : 0 < chunk_size l = w.some in
    let text_long : length text ≡ length (print_chunk_line l) + length rest = ap length is.reads.1 ∙ length-append (print_chunk_line l) rest in
    let rest_long : length rest ≡ length (take (chunk_size l) rest) + (2 + length w.later) = ap length apart ∙ length-append (take (chunk_size l) rest) (crlf_bytes ++ w.later) ∙ ap (λ n. length (take (chunk_size l) rest) + n) (omega arith) in
    record {
      is = record { line = is.reads.0; short = is.short; some = omega (arith, exact, some); size = sym exact };
      stands = is.reads.1 ∙ ap (λ t. print_chunk_line l ++ t) (apart ∙ sym (append_assoc (take (chunk_size l) rest) crlf_bytes w.later)) ∙ sym (append_assoc (print_chunk_line l) (take (chunk_size l) rest ++ crlf_bytes) w.later);
      less = omega (arith, text_long, rest_long);
    }

pub by_tail : (text : List ℕ) (r : Response) → Tail text r → Chunked text r
by_tail text r t = record { chunks = []; tail = text; last = r; all = tt; stands = refl; ends = t; is = refl }

by_line : (text : List ℕ) → ((later : List ℕ) → length later < length text → (r : Response) × Chunked later r) → SizeLine text → (r : Response) × Chunked text r
by_line text go_on (none v nothing why) = (response v [], by_tail text (response v []) (no_line v nothing why))
by_line text go_on (there k rest is) = by_option (ending (length (print_chunk_line k)) (chunk_size k) rest)
    (λ nothing.
    let w : WholeChunk (chunk_size k) rest = whole_chunk (length (print_chunk_line k)) (chunk_size k) rest nothing in
    let c : ChunkThere text (chunk_of k rest) w.later = chunk_there text k rest is w in
    let later : (r : Response) × Chunked w.later r = go_on w.later c.less in
    (with_chunk (chunk_of k rest).bytes later.0, chunk_before (chunk_of k rest) text w.later later.0 c.is c.stands later.1))
    (λ r some. (r, by_tail text r (after_line k rest r is some)))

chunked_within : (n : ℕ) (text : List ℕ) → length text < n → (r : Response) × Chunked text r
chunked_within zero text l = absurd (none_below (length text) l)
  where
    none_below : (k : ℕ) → k < 0 → ⊥
    none_below k l = omega (arith, l)
chunked_within (suc n) text l = by_line text (λ later less. chunked_within n later (omega (arith, l, less))) (size_line text)

-- Each text is read as a chunked body.
pub chunked_total : (text : List ℕ) → (r : Response) × Chunked text r
chunked_total text = chunked_within (suc (length text)) text (omega arith)

-- ---- what follows

-- a longer text is read so: its body goes on from that of the shorter one, and what was decided stays
pub record Grown (text later : List ℕ) (r : Response) : Type 0 where
  pub longer : Response
  pub reads : Chunked (text ++ later) longer
  pub rest : List ℕ
  pub bytes : longer.bytes ≡ r.bytes ++ rest
  pub stays : r.verdict ≢ more → longer ≡ r

still : (text later : List ℕ) (r : Response) → Tail (text ++ later) r → Grown text later r
still text later r t = record { longer = r; reads = by_tail (text ++ later) r t; rest = []; bytes = sym (append-nil r.bytes); stays = λ _. refl }

line_longer : (text later : List ℕ) (l : ChunkLine) (rest : List ℕ) → IsLineOf text l rest → IsLineOf (text ++ later) l (rest ++ later)
line_longer text later l rest is = record {
  reads = (is.reads.0, ap (λ t. t ++ later) is.reads.1 ∙ append_assoc (print_chunk_line l) rest later);
  short = is.short;
}

-- no size line where the first bytes can't have one
never_line : (text : List ℕ) → NeverHasChunkLine (take limit text) → (l : ChunkLine) (rest : List ℕ) → ¬ (IsLineOf text l rest)
never_line text nothing l rest is =
    let f = line_in_front text l rest is in nothing [] l f.0 (subst (λ t. Line l t f.0) (sym (append-nil (take limit text))) f.1)

none_grown : (text later : List ℕ) (v : Verdict) → ((l : ChunkLine) (rest : List ℕ) → ¬ (IsLineOf text l rest)) → LineVerdict text v → Grown text later (response v [])
none_grown text later _ nothing (short_line may short) =
    let all : (r : Response) × Chunked (text ++ later) r = chunked_total (text ++ later) in
    record { longer = all.0; reads = all.1; rest = all.0.bytes; bytes = refl; stays = λ decided. absurd (decided refl) }
none_grown text later _ nothing (long_line may enough) =
    let same : take limit (text ++ later) ≡ take limit text = take-append-le limit text later enough in
    still text later (response long []) (no_line long
    (λ l rest is. let f = line_in_front (text ++ later) l rest is in nothing l (f.0 ++ drop limit text) (in_front text l f.0 (subst (λ t. Line l t f.0) same f.1)))
    (long_line (subst MayBecomeChunkLine (sym same) may) (omega (arith, enough, length-append text later))))
none_grown text later _ nothing (bad_line never_one) =
    let front : (x : List ℕ) × (take limit (text ++ later) ≡ take limit text ++ x) = take_longer limit text later in
    let longer : NeverHasChunkLine (take limit (text ++ later)) = subst NeverHasChunkLine (sym front.1) (λ more_bytes l rest is.
    never_one (front.0 ++ more_bytes) l rest (subst (λ t. ReadsChunkLine t l rest) (append_assoc (take limit text) front.0 more_bytes) is)) in
    still text later (response broken []) (no_line broken (never_line (text ++ later) longer) (bad_line longer))

-- the bytes of an ending are those of the chunk so far
tail_bytes : (bytes rest : List ℕ) (r : Response) → tail_ending bytes rest ≡ Some r → r.bytes ≡ bytes
tail_bytes bytes [] r is = ap (λ (k : Response). k.bytes) (sym (same_Some (response more bytes) r is))
tail_bytes bytes (b ∷ []) r is = ap (λ (k : Response). k.bytes) (sym (same_Some (response (cond (eqb b 13) more broken) bytes) r is))
tail_bytes bytes (b ∷ c ∷ rest) r is = either (eqb b 13)
    (λ on. either (eqb c 10)
    (λ also. absurd (none-some r (rw (on, also) at is)))
    (λ off. ap (λ (k : Response). k.bytes) (sym (same_Some (response broken bytes) r (rw (on, off) at is)))))
    (λ off. ap (λ (k : Response). k.bytes) (sym (same_Some (response broken bytes) r (rw off at is))))

ending_bytes : (used size : ℕ) (rest : List ℕ) (r : Response) → ending used size rest ≡ Some r → r.bytes ≡ take size rest
ending_bytes used size rest r is = either (eqb size 0)
    (λ on. ap (λ (k : Response). k.bytes) (sym (same_Some (response (trailer_verdict (trailer_block (limit - used) rest)) []) r (rw on at is))) ∙ ap (λ n. take n rest) (sym (eqb-true size 0 on)))
    (λ off. either (ltb (length rest) size)
    (λ few. ap (λ (k : Response). k.bytes) (sym (same_Some (response more rest) r (rw (off, few) at is))) ∙ sym (take_all size rest (omega (arith, ltb-true (length rest) size few))))
    (λ enough. tail_bytes (take size rest) (drop size rest) r (rw (off, enough) at is)))

tail_stays : (bytes rest later : List ℕ) (r : Response) → tail_ending bytes rest ≡ Some r → r.verdict ≢ more → tail_ending bytes (rest ++ later) ≡ Some r
tail_stays bytes [] later r is decided = absurd (decided (ap (λ (k : Response). k.verdict) (sym (same_Some (response more bytes) r is))))
tail_stays bytes (b ∷ []) [] r is decided = is
tail_stays bytes (b ∷ []) (c ∷ later) r is decided = either (eqb b 13)
    (λ on. absurd (decided (ap (λ (k : Response). k.verdict) (sym (same_Some (response more bytes) r (rw on at is))))))
    (λ off. rw off (rw off at is))
tail_stays bytes (b ∷ c ∷ rest) later r is decided = is

ending_stays : (used size : ℕ) (rest later : List ℕ) (r : Response) → ending used size rest ≡ Some r → r.verdict ≢ more → ending used size (rest ++ later) ≡ Some r
ending_stays used size rest later r is decided = either (eqb size 0)
    (λ on.
    let same : response (trailer_verdict (trailer_block (limit - used) rest)) [] ≡ r = same_Some (response (trailer_verdict (trailer_block (limit - used) rest)) []) r (rw on at is) in
    let undecided : trailer_verdict (trailer_block (limit - used) rest) ≢ more = λ no. decided (ap (λ (k : Response). k.verdict) (sym same) ∙ no) in
    rw on (ap (λ v. Some (response v [])) (trailer_stays (limit - used) rest later undecided) ∙ ap (λ k. Some k) same))
    (λ off. either (ltb (length rest) size)
    (λ few. absurd (decided (ap (λ (k : Response). k.verdict) (sym (same_Some (response more rest) r (rw (off, few) at is))))))
    (λ enough.
    let l : size ≤ length rest = ltb-false (length rest) size enough in
    let enough_too : ltb (length (rest ++ later)) size ≡ false = le-ltb (length (rest ++ later)) size (omega (arith, l, length-append rest later)) in
    let ends : tail_ending (take size rest) (drop size rest) ≡ Some r = rw (off, enough) at is in
    rw (off, enough_too) (ap (λ t. tail_ending t (drop size (rest ++ later))) (take-append-le size rest later l) ∙ ap (tail_ending (take size rest)) (drop-append-le size rest later l)
    ∙ tail_stays (take size rest) (drop size rest) later r ends decided)))

after_grown : (text later : List ℕ) (l : ChunkLine) (rest : List ℕ) (r : Response) → IsLineOf text l rest → ending (length (print_chunk_line l)) (chunk_size l) rest ≡ Some r → Grown text later r
unfolding chunk_of
after_grown text later l rest r is ends =
    let used : ℕ = length (print_chunk_line l) in
    let front : (x : List ℕ) × (take (chunk_size l) (rest ++ later) ≡ take (chunk_size l) rest ++ x) = take_longer (chunk_size l) rest later in
    let so_far : take (chunk_size l) (rest ++ later) ≡ r.bytes ++ front.0 = front.1 ∙ ap (λ t. t ++ front.0) (sym (ending_bytes (length (print_chunk_line l)) (chunk_size l) rest r ends)) in
    let longer_line : IsLineOf (text ++ later) l (rest ++ later) = line_longer text later l rest is in
    by_option (ending (length (print_chunk_line l)) (chunk_size l) (rest ++ later))
    (λ nothing.
    let w : WholeChunk (chunk_size l) (rest ++ later) = whole_chunk (length (print_chunk_line l)) (chunk_size l) (rest ++ later) nothing in
    let c : ChunkThere (text ++ later) (chunk_of l (rest ++ later)) w.later = chunk_there (text ++ later) l (rest ++ later) longer_line w in
    let next : (k : Response) × Chunked w.later k = chunked_total w.later in
    record {
      longer = with_chunk (chunk_of l (rest ++ later)).bytes next.0;
      reads = chunk_before (chunk_of l (rest ++ later)) (text ++ later) w.later next.0 c.is c.stands next.1;
      rest = front.0 ++ next.0.bytes;
      bytes = chunk_bytes_grow l (rest ++ later) r front.0 next.0 so_far;
      stays = λ decided. absurd (none-some r (sym nothing ∙ ending_stays (length (print_chunk_line l)) (chunk_size l) rest later r ends decided));
    })
    (λ k some. record {
      longer = k;
      reads = by_tail (text ++ later) k (after_line l (rest ++ later) k longer_line some);
      rest = front.0;
      bytes = ending_bytes (length (print_chunk_line l)) (chunk_size l) (rest ++ later) k some ∙ so_far;
      stays = λ decided. same_Some k r (sym some ∙ ending_stays (length (print_chunk_line l)) (chunk_size l) rest later r ends decided);
    })
  where
    chunk_bytes_grow : (l : ChunkLine) (after : List ℕ) (r : Response) (x : List ℕ) (k : Response) → take (chunk_size l) after ≡ r.bytes ++ x → (with_chunk (chunk_of l after).bytes k).bytes ≡ r.bytes ++ (x ++ k.bytes)
    chunk_bytes_grow l after r x k e = ap (λ t. t ++ k.bytes) e ∙ append_assoc r.bytes x k.bytes

tail_grown : (text later : List ℕ) (r : Response) → Tail text r → Grown text later r
tail_grown text later _ (no_line v nothing why) = none_grown text later v nothing why
tail_grown text later _ (after_line l rest r is ends) = after_grown text later l rest r is ends

chunks_grown : (text later : List ℕ) (cs : List Chunk) (tail : List ℕ) (r : Response) → AllByRecursion IsChunk cs → text ≡ flat_map print_chunk cs ++ tail → Tail tail r
    → Grown text later (with_chunk (flat_map chunk_bytes cs) r)
chunks_grown text later [] tail r all e t = tail_grown text later r (subst (λ x. Tail x r) (sym e) t)
chunks_grown text later (c ∷ cs) tail r all e t =
    let g : Grown (flat_map print_chunk cs ++ tail) later (with_chunk (flat_map chunk_bytes cs) r) = chunks_grown (flat_map print_chunk cs ++ tail) later cs tail r all.1 refl t in
    let apart : text ++ later ≡ print_chunk c ++ ((flat_map print_chunk cs ++ tail) ++ later) =
    ap (λ x. x ++ later) (e ∙ append_assoc (print_chunk c) (flat_map print_chunk cs) tail) ∙ append_assoc (print_chunk c) (flat_map print_chunk cs ++ tail) later in
    let joined : with_chunk c.bytes (with_chunk (flat_map chunk_bytes cs) r) ≡ with_chunk (c.bytes ++ flat_map chunk_bytes cs) r = ap (response r.verdict) (sym (append_assoc c.bytes (flat_map chunk_bytes cs) r.bytes)) in
    record {
      longer = with_chunk c.bytes g.longer;
      reads = chunk_before c (text ++ later) ((flat_map print_chunk cs ++ tail) ++ later) g.longer all.0 apart g.reads;
      rest = g.rest;
      bytes = ap (λ x. c.bytes ++ x) g.bytes ∙ sym (append_assoc c.bytes (flat_map chunk_bytes cs ++ r.bytes) g.rest) ∙ ap (λ (k : Response). k.bytes ++ g.rest) joined;
      stays = λ decided. ap (with_chunk c.bytes) (g.stays decided) ∙ joined;
    }

pub chunked_grown : (text later : List ℕ) (r : Response) → Chunked text r → Grown text later r
chunked_grown text later r x = subst (Grown text later) (sym x.is) (chunks_grown text later x.chunks x.tail x.last x.all x.stands x.ends)
