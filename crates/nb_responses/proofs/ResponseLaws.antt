-- A stream is read as one response.
use Rattle.std.proofs.Common.{◌≡◌, ◌≤◌, ◌<◌, ℕ, List, [], ◌∷◌, ◌++◌, length, take, drop, Some, None, Bool, true, false, refl, ap, ◌∙◌, sym, subst, arith, ltb, eqb, append-nil}
use Rattle.std.specs.List.{AllByRecursion, flat_map, concat}
use Rattle.std.proofs.lemmas.Bool.{ne_eqb, le-ltb, false≢true}
use Rattle.std.proofs.lemmas.Option.{none-some, same_Some}
use Rattle.std.proofs.lemmas.List.{take_all, take_at, drop_at, length-append, append_assoc, append_cancel_left}
use Rattle.httparse.specs.Ascii.{crlf_bytes}
use Rattle.httparse.specs.Grammar.{print_chunk_line, chunk_size, NeverHasChunkLine, MayBecomeChunkLine, ResponseHead, print_response}
use Rattle.httparse.proofs.ChunkLemmas.{chunk_line_unique}
use Rattle.httparse.proofs.GrammarLemmas.{response_unique}
use Rattle.nb_responses.specs.Lines.{Found, found, missing, too_many, too_long, head_block, limit}
use Rattle.nb_responses.specs.Heads.{IsHead, Framing, sized, chunked, to_end, bad, framing, is_interim}
use Rattle.nb_responses.specs.Chunks.{Verdict, Response, response, with_chunk, Chunk, chunk_bytes, print_chunk, IsChunk, ending, tail_ending, IsLineOf, LineVerdict, short_line, long_line, bad_line, Tail, no_line, after_line, Chunked}
use Rattle.nb_responses.specs.Responses.{within_limit, ReadsBody, Final, no_block, no_head, by_head, by_body, head_verdict, no_block_verdict, IsInterim, ReadsSoFar, ResponseOf, by_end}
use Rattle.nb_responses.proofs.LineLaws.{head_block_more}

never_may : (text : List ℕ) → NeverHasChunkLine text → MayBecomeChunkLine text → ⊥
never_may text never (rest, l, reads) = never rest l [] reads

line_unique : (text : List ℕ) (a b : Verdict) → LineVerdict text a → LineVerdict text b → a ≡ b
line_unique text _ _ (short_line may l) (short_line also k) = refl
line_unique text _ _ (short_line may l) (long_line also k) = absurd (no_less (length text) limit l k)
  where
    no_less : (a b : ℕ) → a < b → b ≤ a → ⊥
    no_less a b l k = omega (arith, l, k)
line_unique text _ _ (short_line may l) (bad_line never) = absurd (never_may text (subst NeverHasChunkLine (take_all limit text (omega (arith, l))) never) may)
line_unique text _ _ (long_line may l) (short_line also k) = absurd (no_less (length text) limit k l)
  where
    no_less : (a b : ℕ) → a < b → b ≤ a → ⊥
    no_less a b l k = omega (arith, l, k)
line_unique text _ _ (long_line may l) (long_line also k) = refl
line_unique text _ _ (long_line may l) (bad_line never) = absurd (never_may (take limit text) never may)
line_unique text _ _ (bad_line never) (short_line may l) = absurd (never_may text (subst NeverHasChunkLine (take_all limit text (omega (arith, l))) never) may)
line_unique text _ _ (bad_line never) (long_line may l) = absurd (never_may (take limit text) never may)
line_unique text _ _ (bad_line never) (bad_line also) = refl

tail_unique : (text : List ℕ) (a b : Response) → Tail text a → Tail text b → a ≡ b
tail_unique text _ _ (no_line verdict none is) (no_line other none' is') = ap (λ r. response r []) (line_unique text verdict other is is')
tail_unique text _ _ (no_line verdict none is) (after_line l rest r there ends) = absurd (none l rest there)
tail_unique text _ _ (after_line l rest r there ends) (no_line verdict none is) = absurd (none l rest there)
tail_unique text _ _ (after_line l rest r there ends) (after_line l' rest' r' there' ends') =
    let same : (l ≡ l') × (rest ≡ rest') = chunk_line_unique text l l' rest rest' there.reads there'.reads in
    same_Some r r' (sym ends ∙ ap (λ k. ending (length (print_chunk_line k)) (chunk_size k) rest) same.0 ∙ ap (λ ys. ending (length (print_chunk_line l')) (chunk_size l') ys) same.1 ∙ ends')

ending_none : (used : ℕ) (bytes rest : List ℕ) → 0 < length bytes → ending used (length bytes) (bytes ++ crlf_bytes ++ rest) ≡ None
ending_none used bytes rest some =
    let not_zero : eqb (length bytes) 0 ≡ false = ne_eqb (length bytes) 0 (λ e. empty (length bytes) some e) in
    let all : List ℕ = bytes ++ crlf_bytes ++ rest in
    let apart : bytes ++ crlf_bytes ++ rest ≡ bytes ++ (crlf_bytes ++ rest) = append_assoc bytes crlf_bytes rest in
    let enough : ltb (length (bytes ++ crlf_bytes ++ rest)) (length bytes) ≡ false = le-ltb _ _ (omega (arith, ap length apart, length-append bytes (crlf_bytes ++ rest))) in
    rw (not_zero, enough)
    (ap (tail_ending (take (length bytes) (bytes ++ crlf_bytes ++ rest))) (ap (drop (length bytes)) apart ∙ drop_at bytes (crlf_bytes ++ rest) (length bytes) refl))
  where
    empty : (n : ℕ) → 0 < n → n ≡ 0 → ⊥
    empty n l e = omega (arith, l, e)

pub chunk_apart : (c : Chunk) (later : List ℕ) → print_chunk c ++ later ≡ print_chunk_line c.line ++ (c.bytes ++ crlf_bytes ++ later)
chunk_apart c later = append_assoc (print_chunk_line c.line) (c.bytes ++ crlf_bytes) later

pub begins : (c : Chunk) (text later : List ℕ) → IsChunk c → text ≡ print_chunk c ++ later → IsLineOf text c.line (c.bytes ++ crlf_bytes ++ later)
begins c text later is e = record { reads = (is.line, e ∙ chunk_apart c later); short = is.short }

no_chunk : (c : Chunk) (text later : List ℕ) (r : Response) → IsChunk c → text ≡ print_chunk c ++ later → Tail text r → ⊥
no_chunk c text later _ is e (no_line verdict none why) = none c.line (c.bytes ++ crlf_bytes ++ later) (begins c text later is e)
no_chunk c text later _ is e (after_line l rest r there ends) =
    let same : (c.line ≡ l) × (c.bytes ++ crlf_bytes ++ later ≡ rest) = chunk_line_unique text c.line l (c.bytes ++ crlf_bytes ++ later) rest (begins c text later is e).reads there.reads in
    none-some r (sym (ending_none (length (print_chunk_line c.line)) c.bytes later is.some)
    ∙ ap (λ k. ending (length (print_chunk_line c.line)) k (c.bytes ++ crlf_bytes ++ later)) (sym is.size)
    ∙ ap (λ k. ending (length (print_chunk_line k)) (chunk_size k) (c.bytes ++ crlf_bytes ++ later)) same.0
    ∙ ap (ending (length (print_chunk_line l)) (chunk_size l)) same.1 ∙ ends)

-- the first of two lists, by its length
same_parts : (xs ys us vs : List ℕ) → xs ++ us ≡ ys ++ vs → length xs ≡ length ys → (xs ≡ ys) × (us ≡ vs)
same_parts xs ys us vs e l = (
  sym (take_at xs us (length ys) l) ∙ ap (take (length ys)) e ∙ take_at ys vs (length ys) refl,
  sym (drop_at xs us (length ys) l) ∙ ap (drop (length ys)) e ∙ drop_at ys vs (length ys) refl,
)

record SameChunk (c d : Chunk) (left right : List ℕ) : Type 0 where
  bytes : c.bytes ≡ d.bytes
  rest : left ≡ right

same_chunk : (c d : Chunk) (text left right : List ℕ) → IsChunk c → IsChunk d → text ≡ print_chunk c ++ left → text ≡ print_chunk d ++ right → SameChunk c d left right
same_chunk c d text left right is also e f =
    let same : (c.line ≡ d.line) × (c.bytes ++ crlf_bytes ++ left ≡ d.bytes ++ crlf_bytes ++ right) = chunk_line_unique text c.line d.line (c.bytes ++ crlf_bytes ++ left) (d.bytes ++ crlf_bytes ++ right) (begins c text left is e).reads (begins d text right also f).reads in
    let long : length c.bytes ≡ length d.bytes = sym is.size ∙ ap chunk_size same.0 ∙ also.size in
    let parts : (c.bytes ≡ d.bytes) × (crlf_bytes ++ left ≡ crlf_bytes ++ right) = same_parts c.bytes d.bytes (crlf_bytes ++ left) (crlf_bytes ++ right) (sym (append_assoc c.bytes crlf_bytes left) ∙ same.1 ∙ append_assoc d.bytes crlf_bytes right) long in
    record { bytes = parts.0; rest = append_cancel_left crlf_bytes left right parts.1 }

more_bytes : (bytes : List ℕ) (cs : List Chunk) (r : Response) → with_chunk (bytes ++ flat_map chunk_bytes cs) r ≡ with_chunk bytes (with_chunk (flat_map chunk_bytes cs) r)
more_bytes bytes cs r = ap (response r.verdict) (append_assoc bytes (flat_map chunk_bytes cs) r.bytes)

chunks_unique : (text : List ℕ) (cs ds : List Chunk) (left right : List ℕ) (a b : Response) → AllByRecursion IsChunk cs → AllByRecursion IsChunk ds
    → text ≡ flat_map print_chunk cs ++ left → text ≡ flat_map print_chunk ds ++ right → Tail left a → Tail right b
    → with_chunk (flat_map chunk_bytes cs) a ≡ with_chunk (flat_map chunk_bytes ds) b
chunks_unique text [] [] left right a b p q e f x y = tail_unique right a b (subst (λ t. Tail t a) (sym e ∙ f) x) y
chunks_unique text [] (d ∷ ds) left right a b p q e f x y =
    absurd (no_chunk d left (flat_map print_chunk ds ++ right) a q.0 (sym e ∙ f ∙ append_assoc (print_chunk d) (flat_map print_chunk ds) right) x)
chunks_unique text (c ∷ cs) [] left right a b p q e f x y =
    absurd (no_chunk c right (flat_map print_chunk cs ++ left) b p.0 (sym f ∙ e ∙ append_assoc (print_chunk c) (flat_map print_chunk cs) left) y)
chunks_unique text (c ∷ cs) (d ∷ ds) left right a b p q e f x y =
    let same : SameChunk c d (flat_map print_chunk cs ++ left) (flat_map print_chunk ds ++ right) = same_chunk c d text (flat_map print_chunk cs ++ left) (flat_map print_chunk ds ++ right) p.0 q.0 (e ∙ append_assoc (print_chunk c) (flat_map print_chunk cs) left) (f ∙ append_assoc (print_chunk d) (flat_map print_chunk ds) right) in
    let later : with_chunk (flat_map chunk_bytes cs) a ≡ with_chunk (flat_map chunk_bytes ds) b = chunks_unique (flat_map print_chunk cs ++ left) cs ds left right a b p.1 q.1 refl same.rest x y in
    more_bytes c.bytes cs a ∙ ap (with_chunk c.bytes) later ∙ ap (λ bytes. with_chunk bytes (with_chunk (flat_map chunk_bytes ds) b)) same.bytes ∙ sym (more_bytes d.bytes ds b)

-- A chunked body is read in one way.
pub chunked_unique : (text : List ℕ) (a b : Response) → Chunked text a → Chunked text b → a ≡ b
chunked_unique text a b x y = x.is ∙ chunks_unique text x.chunks y.chunks x.tail y.tail x.last y.last x.all y.all x.stands y.stands x.ends y.ends ∙ sym y.is

body_unique : (text : List ℕ) (f : Framing) (a b : Response) → ReadsBody text f a → ReadsBody text f b → a ≡ b
body_unique text (sized size) a b x y = x ∙ sym y
body_unique text chunked a b (c, reads, x) (d, also, y) = x ∙ ap within_limit (chunked_unique text c d reads also) ∙ sym y
body_unique text to_end a b x y = x ∙ sym y
body_unique text bad a b x y = x ∙ sym y

head_unique : (block : List ℕ) (h k : ResponseHead) → IsHead block h → IsHead block k → h ≡ k
head_unique block h k x y = (response_unique block h k [] [] (x.valid, x.bytes ∙ sym (append-nil (print_response h))) (y.valid, y.bytes ∙ sym (append-nil (print_response k)))).0

block_in : Found → List ℕ
block_in (found block rest) = block
block_in missing = []
block_in too_many = []
block_in too_long = []

rest_in : Found → List ℕ
rest_in (found block rest) = rest
rest_in missing = []
rest_in too_many = []
rest_in too_long = []

same_found : (b c r s : List ℕ) → found b r ≡ found c s → (b ≡ c) × (r ≡ s)
unfolding block_in rest_in
same_found b c r s e = (ap block_in e, ap rest_in e)

-- a text that begins with a head
record Headed (text : List ℕ) (h : ResponseHead) (rest : List ℕ) : Type 0 where
  block : List ℕ
  whole : head_block text ≡ found block rest
  reads : IsHead block h

headed : (text block rest : List ℕ) (h : ResponseHead) → head_block text ≡ found block rest → IsHead block h → Headed text h rest
headed text block rest h e is = record { block = block; whole = e; reads = is }

same_head : (text : List ℕ) (h k : ResponseHead) (r s : List ℕ) → Headed text h r → Headed text k s → (h ≡ k) × (r ≡ s)
same_head text h k r s x y =
    let same : (x.block ≡ y.block) × (r ≡ s) = same_found x.block y.block r s (sym x.whole ∙ y.whole) in
    (head_unique y.block h k (subst (λ b. IsHead b h) same.0 x.reads) y.reads, same.1)

no_block_headed : (text : List ℕ) (h : ResponseHead) (r : List ℕ) (verdict : Verdict) → Headed text h r → no_block_verdict (head_block text) ≡ Some verdict → ⊥
no_block_headed text h r verdict x e = none-some verdict (sym (ap no_block_verdict x.whole) ∙ e)

no_head_headed : (text block rest : List ℕ) (h : ResponseHead) (r : List ℕ) → Headed text h r → head_block text ≡ found block rest → ((k : ResponseHead) → ¬ (IsHead block k)) → ⊥
no_head_headed text block rest h r x e none = none h (subst (λ b. IsHead b h) (same_found x.block block r rest (sym x.whole ∙ e)).0 x.reads)

final_unique : (text : List ℕ) (a b : Response) → Final text a → Final text b → a ≡ b
final_unique text _ _ (no_block verdict e) (no_block other f) = ap (λ k. response k []) (same_Some verdict other (sym e ∙ f))
final_unique text _ _ (no_block verdict e) (no_head block rest f none) = absurd (none-some verdict (sym (ap no_block_verdict f) ∙ e))
final_unique text _ _ (no_block verdict e) (by_head block rest h k f is interim says) = absurd (no_block_headed text h rest verdict (headed text block rest h f is) e)
final_unique text _ _ (no_block verdict e) (by_body block rest h r f is interim says body) = absurd (no_block_headed text h rest verdict (headed text block rest h f is) e)
final_unique text _ _ (no_head block rest f none) (no_block verdict e) = absurd (none-some verdict (sym (ap no_block_verdict f) ∙ e))
final_unique text _ _ (no_head block rest f none) (no_head block' rest' f' none') = refl
final_unique text _ _ (no_head block rest f none) (by_head block' rest' h k f' is interim says) = absurd (no_head_headed text block rest h rest' (headed text block' rest' h f' is) f none)
final_unique text _ _ (no_head block rest f none) (by_body block' rest' h r f' is interim says body) = absurd (no_head_headed text block rest h rest' (headed text block' rest' h f' is) f none)
final_unique text _ _ (by_head block rest h k f is interim says) (no_block verdict e) = absurd (no_block_headed text h rest verdict (headed text block rest h f is) e)
final_unique text _ _ (by_head block' rest' h k f' is interim says) (no_head block rest f none) = absurd (no_head_headed text block rest h rest' (headed text block' rest' h f' is) f none)
final_unique text _ _ (by_head block rest h k f is interim says) (by_head block' rest' h' k' f' is' interim' says') =
    let same : (h ≡ h') × (rest ≡ rest') = same_head text h h' rest rest' (headed text block rest h f is) (headed text block' rest' h' f' is') in
    ap (λ k. response k []) (same_Some k k' (sym says ∙ ap head_verdict same.0 ∙ says'))
final_unique text _ _ (by_head block rest h k f is interim says) (by_body block' rest' h' r f' is' interim' says' body) =
    let same : (h ≡ h') × (rest ≡ rest') = same_head text h h' rest rest' (headed text block rest h f is) (headed text block' rest' h' f' is') in
    absurd (none-some k (sym says' ∙ sym (ap head_verdict same.0) ∙ says))
final_unique text _ _ (by_body block rest h r f is interim says body) (no_block verdict e) = absurd (no_block_headed text h rest verdict (headed text block rest h f is) e)
final_unique text _ _ (by_body block' rest' h r f' is interim says body) (no_head block rest f none) = absurd (no_head_headed text block rest h rest' (headed text block' rest' h f' is) f none)
final_unique text _ _ (by_body block' rest' h' r f' is' interim' says' body) (by_head block rest h k f is interim says) =
    let same : (h ≡ h') × (rest ≡ rest') = same_head text h h' rest rest' (headed text block rest h f is) (headed text block' rest' h' f' is') in
    absurd (none-some k (sym says' ∙ sym (ap head_verdict same.0) ∙ says))
final_unique text _ _ (by_body block rest h r f is interim says body) (by_body block' rest' h' r' f' is' interim' says' body') =
    let same : (h ≡ h') × (rest ≡ rest') = same_head text h h' rest rest' (headed text block rest h f is) (headed text block' rest' h' f' is') in
    body_unique rest' (framing h') r r' (subst (λ k. ReadsBody rest' (framing k) r) same.0 (subst (λ ys. ReadsBody ys (framing h) r) same.1 body)) body'

interim_headed : (block rest text : List ℕ) (i : IsInterim block) → text ≡ block ++ rest → Headed text i.head rest
interim_headed block rest text i e = headed text block rest i.head (ap head_block e ∙ head_block_more block rest i.whole) i.reads

no_interim : (text : List ℕ) (h : ResponseHead) (r : Response) (rest : List ℕ) → Headed text h rest → is_interim h ≡ true → Final text r → ⊥
no_interim text h _ rest x interim (no_block verdict e) = no_block_headed text h rest verdict x e
no_interim text h _ rest x interim (no_head block rest' f none) = no_head_headed text block rest' h rest x f none
no_interim text h _ rest x interim (by_head block rest' k verdict f is final says) =
    false≢true (sym final ∙ ap is_interim (same_head text k h rest' rest (headed text block rest' k f is) x).0 ∙ interim)
no_interim text h _ rest x interim (by_body block rest' k r f is final says body) =
    false≢true (sym final ∙ ap is_interim (same_head text k h rest' rest (headed text block rest' k f is) x).0 ∙ interim)

heads_unique : (text : List ℕ) (bs cs : List (List ℕ)) (left right : List ℕ) (a b : Response) → AllByRecursion IsInterim bs → AllByRecursion IsInterim cs
    → text ≡ concat bs ++ left → text ≡ concat cs ++ right → Final left a → Final right b → a ≡ b
heads_unique text [] [] left right a b p q e f x y = final_unique right a b (subst (λ t. Final t a) (sym e ∙ f) x) y
heads_unique text [] (c ∷ cs) left right a b p q e f x y =
    absurd (no_interim left q.0.head a (concat cs ++ right) (interim_headed c (concat cs ++ right) left q.0 (sym e ∙ f ∙ append_assoc c (concat cs) right)) q.0.interim x)
heads_unique text (c ∷ cs) [] left right a b p q e f x y =
    absurd (no_interim right p.0.head b (concat cs ++ left) (interim_headed c (concat cs ++ left) right p.0 (sym f ∙ e ∙ append_assoc c (concat cs) left)) p.0.interim y)
heads_unique text (c ∷ cs) (d ∷ ds) left right a b p q e f x y =
    let one : Headed text p.0.head (concat cs ++ left) = interim_headed c (concat cs ++ left) text p.0 (e ∙ append_assoc c (concat cs) left) in
    let other : Headed text q.0.head (concat ds ++ right) = interim_headed d (concat ds ++ right) text q.0 (f ∙ append_assoc d (concat ds) right) in
    let same : (p.0.head ≡ q.0.head) × (concat cs ++ left ≡ concat ds ++ right) = same_head text p.0.head q.0.head (concat cs ++ left) (concat ds ++ right) one other in
    heads_unique (concat cs ++ left) cs ds left right a b p.1 q.1 refl same.1 x y

pub reads_unique : (text : List ℕ) (a b : Response) → ReadsSoFar text a → ReadsSoFar text b → a ≡ b
reads_unique text a b x y = heads_unique text x.skipped y.skipped x.rest y.rest a b x.all y.all x.stands y.stands x.ends y.ends

-- A stream is read as one response.
pub one_response : (stream : List ℕ) (ended : Bool) (a b : Response) → ResponseOf stream ended a → ResponseOf stream ended b → a ≡ b
one_response stream ended a b x y = x.is ∙ ap (by_end ended) (reads_unique stream x.so_far y.so_far x.reads y.reads) ∙ sym y.is
