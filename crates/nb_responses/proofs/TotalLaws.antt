-- Each stream is read as a response.
use Rattle.std.proofs.Common.{◌≡◌, ◌≤◌, ◌<◌, ℕ, zero, suc, List, [], ◌∷◌, ◌++◌, length, take, drop, Bool, false, refl, ap, ◌∙◌, sym, subst, arith, leb, append-nil, append_assoc}
use Rattle.std.specs.List.{concat}
use Rattle.std.proofs.lemmas.Bool.{leb-true, leb-false, false≢true}
use Rattle.std.proofs.lemmas.List.{take_all, drop_at, length-append, length-take, take-append-drop}
use Rattle.httparse.specs.Grammar.{ResponseHead, print_response, ReadsResponse}
use Rattle.httparse.specs.Pieces.{Then, Section, ResponseStart}
use Rattle.httparse.proofs.GrammarLemmas.{response_head, response_pieces, response_from_pieces, response_unique}
use Rattle.nb_responses.specs.Lines.{whole, unfinished, first_block, Found, found, missing, too_many, too_long, found_by, head_block, limit, most_lines}
use Rattle.nb_responses.specs.Heads.{IsHead, Framing, sized, chunked, to_end, bad, framing, is_interim}
use Rattle.nb_responses.specs.Chunks.{more, broken, long, many, open_body, Response, response}
use Rattle.nb_responses.specs.Responses.{within_limit, sized_response, ReadsBody, head_verdict, no_block_verdict, Final, no_block, no_head, by_head, by_body, IsInterim, ReadsSoFar, by_end, ResponseOf}
use Rattle.nb_responses.proofs.LineLaws.{is_whole, by_block, Stays, block_more, block_alone, not_found, is_found, found_in}
use Rattle.nb_responses.proofs.ChunkedLaws.{chunked_total}
use Rattle.nb_responses.proofs.HeadDecisions.{Begun, has, hasnt, head_begun}
use Rattle.nb_responses.proofs.Cases.{either, by_option}

-- a block is a head, or it isn't
data HeadOrNot (block : List ℕ) : Type 0 where
  is_head : (h : ResponseHead) → IsHead block h → HeadOrNot block
  isnt : ((h : ResponseHead) → ¬ (IsHead block h)) → HeadOrNot block

reads_all : (block : List ℕ) (h : ResponseHead) → IsHead block h → ReadsResponse block h []
reads_all block h is = (is.valid, is.bytes ∙ sym (append-nil (print_response h)))

by_begun : (block : List ℕ) → Begun (Then ResponseStart Section) block → HeadOrNot block
by_begun block (hasnt none) = isnt (λ h is. let t = response_pieces block h [] (reads_all block h is) in none t.0 [] t.2)
by_begun block (has t [] x) =
    let reads : ReadsResponse block (response_head t) [] = response_from_pieces block t [] x in
    either (leb (length (response_head t).fields) 64)
    (λ on. is_head (response_head t) (record { valid = reads.0; bytes = reads.1 ∙ append-nil (print_response (response_head t)); fields = leb-true (length (response_head t).fields) 64 on }))
    (λ off. isnt (λ h is.
    let same : (h ≡ response_head t) = (response_unique block h (response_head t) [] [] (reads_all block h is) reads).0 in
    too_few (length h.fields) (length (response_head t).fields) (ap (λ (k : ResponseHead). length k.fields) same) is.fields (leb-false (length (response_head t).fields) 64 off)))
  where
    too_few : (a b : ℕ) → a ≡ b → a ≤ 64 → 64 < b → ⊥
    too_few a b e l k = omega (arith, e, l, k)
by_begun block (has t (b ∷ bs) x) =
    let reads : ReadsResponse block (response_head t) (b ∷ bs) = response_from_pieces block t (b ∷ bs) x in
    isnt (λ h is. let same : [] ≡ b ∷ bs = (response_unique block h (response_head t) [] (b ∷ bs) (reads_all block h is) reads).1 in cc)

head_or_not : (block : List ℕ) → HeadOrNot block
head_or_not block = by_begun block (head_begun block)

-- a block that is found is the beginning, and it stands by itself
record Alone (text block rest : List ℕ) : Type 0 where
  stands : text ≡ block ++ rest
  itself : head_block block ≡ found block []
  less : length rest < length text

rest_in : Found → List ℕ
rest_in (found block rest) = rest
rest_in missing = []
rest_in too_many = []
rest_in too_long = []

some_bytes : (block : List ℕ) → first_block most_lines block ≡ whole block [] → 0 < length block
unfolding is_whole
some_bytes [] is = let no : unfinished ≡ whole [] [] = is in absurd (false≢true (ap is_whole no))
some_bytes (b ∷ bs) is = omega arith

alone : (text block rest : List ℕ) → head_block text ≡ found block rest → Alone text block rest
unfolding is_found found_in rest_in
alone text block rest is = by_block (first_block most_lines (take limit text))
    (λ b r there.
    let here : found b (drop (length b) text) ≡ found block rest = sym (ap (found_by limit text) there) ∙ is in
    let same : b ≡ block = ap found_in here in
    let stays : Stays most_lines (take limit text) [] b r = block_more most_lines (take limit text) [] b r there in
    let short : length block ≤ limit = omega (arith, ap length stays.stands, length-append b r, length-take limit text, ap length same) in
    let apart : text ≡ b ++ (r ++ drop limit text) = sym (take-append-drop limit text) ∙ ap (λ t. t ++ drop limit text) stays.stands ∙ append_assoc b r (drop limit text) in
    let rest_is : rest ≡ r ++ drop limit text = sym (ap rest_in here) ∙ ap (drop (length b)) apart ∙ drop_at b (r ++ drop limit text) (length b) refl in
    let stands : text ≡ block ++ rest = apart ∙ ap (λ x. b ++ x) (sym rest_is) ∙ ap (λ x. x ++ rest) same in
    let itself : first_block most_lines block ≡ whole block [] = subst (λ x. first_block most_lines x ≡ whole x []) same (block_alone most_lines (take limit text) b r there) in
    record {
      stands = stands;
      itself = ap (λ t. found_by limit block (first_block most_lines t)) (take_all limit block short) ∙ ap (found_by limit block) itself
          ∙ ap (found block) (ap (drop (length block)) (sym (append-nil block)) ∙ drop_at block [] (length block) refl);
      less = omega (arith, ap length stands, length-append block rest, some_bytes block itself);
    })
    (λ none. absurd (false≢true (sym (not_found text (first_block most_lines (take limit text)) none) ∙ ap is_found is)))

body_total : (text : List ℕ) (f : Framing) → (r : Response) × ReadsBody text f r
body_total text (sized size) = (sized_response size text, refl)
body_total text chunked = let c = chunked_total text in (within_limit c.0, (c.0, c.1, refl))
body_total text to_end = (within_limit (response open_body text), refl)
body_total text bad = (response broken [], refl)

-- a text after heads that are interim
pub at_once : (text : List ℕ) (r : Response) → Final text r → ReadsSoFar text r
at_once text r ends = record { skipped = []; rest = text; all = tt; stands = refl; ends = ends }

pub after_interim : (text block rest : List ℕ) (r : Response) → IsInterim block → text ≡ block ++ rest → ReadsSoFar rest r → ReadsSoFar text r
after_interim text block rest r is e x = record {
  skipped = block ∷ x.skipped;
  rest = x.rest;
  all = (is, x.all);
  stands = e ∙ ap (λ t. block ++ t) x.stands ∙ sym (append_assoc block (concat x.skipped) x.rest);
  ends = x.ends;
}

abbrev Reading : List ℕ → Type 0
Reading text = (r : Response) × ReadsSoFar text r

final_head : (text block rest : List ℕ) (h : ResponseHead) → head_block text ≡ found block rest → IsHead block h → is_interim h ≡ false → Reading text
final_head text block rest h e is final = by_option (head_verdict h)
    (λ none. let b = body_total rest (framing h) in (b.0, at_once text b.0 (by_body block rest h b.0 e is final none b.1)))
    (λ v says. (response v [], at_once text (response v []) (by_head block rest h v e is final says)))

by_head_or_not : (text block rest : List ℕ) → head_block text ≡ found block rest → ((later : List ℕ) → length later < length text → Reading later) → HeadOrNot block → Reading text
by_head_or_not text block rest e go_on (isnt none) = (response broken [], at_once text (response broken []) (no_head block rest e none))
by_head_or_not text block rest e go_on (is_head h is) =
    let a : Alone text block rest = alone text block rest e in
    either (is_interim h)
    (λ on.
    let later : Reading rest = go_on rest a.less in
    (later.0, after_interim text block rest later.0 (record { head = h; whole = a.itself; reads = is; interim = on }) a.stands later.1))
    (λ off. final_head text block rest h e is off)

by_found : (text : List ℕ) (f : Found) → head_block text ≡ f → ((later : List ℕ) → length later < length text → Reading later) → Reading text
by_found text (found block rest) e go_on = by_head_or_not text block rest e go_on (head_or_not block)
by_found text missing e go_on = (response more [], at_once text (response more []) (no_block more (ap no_block_verdict e)))
by_found text too_many e go_on = (response many [], at_once text (response many []) (no_block many (ap no_block_verdict e)))
by_found text too_long e go_on = (response long [], at_once text (response long []) (no_block long (ap no_block_verdict e)))

reads_within : (n : ℕ) (text : List ℕ) → length text < n → Reading text
reads_within zero text l = absurd (none_below (length text) l)
  where
    none_below : (k : ℕ) → k < 0 → ⊥
    none_below k l = omega (arith, l)
reads_within (suc n) text l = by_found text (head_block text) refl (λ later less. reads_within n later (omega (arith, l, less)))

pub reads_total : (stream : List ℕ) → (r : Response) × ReadsSoFar stream r
reads_total stream = reads_within (suc (length stream)) stream (omega arith)

pub each_is_read : (stream : List ℕ) (ended : Bool) → (r : Response) × ResponseOf stream ended r
each_is_read stream ended =
    let x : Reading stream = reads_total stream in
    (by_end ended x.0, record { so_far = x.0; reads = x.1; is = refl })
