-- Only the last byte that a call takes can decide the response.
use Rattle.std.proofs.Common.{◌≡◌, ◌≤◌, ◌<◌, ℕ, ◌+◌, ◌-◌, List, [], ◌++◌, length, take, min, false, refl, ap, ◌∙◌, sym, subst, arith, append-nil, append_assoc, length-append, leb}
use Rattle.std.specs.List.{concat}
use Rattle.std.proofs.lemmas.Bool.{leb-true, leb-false}
use Rattle.std.proofs.lemmas.List.{length-take, take-append-le, take_all}
use Rattle.nb_responses.specs.Lines.{head_block, missing}
use Rattle.nb_responses.specs.Heads.{sized, chunked}
use Rattle.nb_responses.specs.Chunks.{more, open_body, response}
use Rattle.nb_readings.proofs.ReadingLemmas.{chunked_body}
use Rattle.nb_responses.specs.Responses.{most_bytes, no_block, no_block_verdict, by_end}
use Rattle.nb_responses.proofs.Cases.{either}
use Rattle.nb_responses.proofs.LineLaws.{take_front}
use Rattle.nb_httpmsg.specs.Leasts.{IsNotEnough, TakesLeast}
use Rattle.nb_httpmsg.proofs.FeedLemmas.{kept_front}
use Rattle.nb_httpmsg.proofs.LeastLemmas.{less}
use Rattle.nb_http.specs.declared.state.State.TheVariants.{Head, Sized, Chunked, ToEnd}
use Rattle.nb_http.specs.declared.head_step.HeadStep.{HeadStep}
use Rattle.nb_http.specs.Standing.{Core, AtHead, AtSized, AtChunked, AtToEnd, LiveAt, IsReading, DecidesLast}
use Rattle.nb_http.specs.HeadReading.{IsHeadRead}
use Rattle.nb_http.proofs.StandsLemmas.{Undecided, with_more, body_reads, sized_reads, to_end_reads, unlimited, read_by}

-- the same of what follows the interim heads
abbrev pub StepsLeast : Core → List ℕ → Type 0
StepsLeast old taken = (rest given part later : List ℕ) → LiveAt old.state old rest given → taken ≡ part ++ later → 0 < length later
    → (some : List ℕ) × Undecided (rest ++ part) (given ++ some)

pub decides_last : (old : Core) (taken : List ℕ) → StepsLeast old taken → DecidesLast old taken
decides_last old taken step = λ stream given part later s live e l.
    let at : IsReading old stream given = s.live live in
    let u = step at.rest given part later at.at e l in (
      u.0,
      ap (by_end false) (read_by at.skipped (at.rest ++ part) (stream ++ part) (response u.1.verdict (given ++ u.0)) at.all
          (ap (λ t. t ++ part) at.is_stream ∙ append_assoc (concat at.skipped) at.rest part) u.1.reads)
          ∙ ap (λ v. response v (given ++ u.0)) u.1.goes_on,
    )

-- bytes of a head
pub head_least : (old : Core) (line bytes : List ℕ) (taken rec : ℕ) (r : HeadStep) → old.state ≡ Head → line ≡ old.head ++ take taken bytes → IsHeadRead rec line r → length old.head ≤ r.len
    → StepsLeast old (take (r.len - length old.head) bytes)
head_least old line bytes taken rec r at spelled read far = λ rest given part later live e l.
    let here : AtHead old rest given = subst (λ s. LiveAt s old rest given) at live in
    let front : take r.len line ≡ (old.head ++ part) ++ later = kept_front line old.head bytes taken r.len spelled read.within far ∙ ap (λ t. old.head ++ t) e ∙ sym (append_assoc old.head part later) in
    let open_head : head_block (rest ++ part) ≡ missing = ap (λ t. head_block (t ++ part)) here.is_rest ∙ read.least (old.head ++ part) later front l in
    ([], subst (Undecided (rest ++ part)) (sym (append-nil given ∙ here.none_given)) (with_more (rest ++ part) [] (no_block more (ap no_block_verdict open_head))))

-- bytes of a body of a stated length
pub sized_least : (left : ℕ) (old : Core) (taken : List ℕ) → old.state ≡ Sized left → length taken ≤ left → StepsLeast old taken
sized_least left old taken at few = λ rest given part later live e l.
    let here : AtSized left old rest given = subst (λ s. LiveAt s old rest given) at live in
    let short : length part < length taken = less part later taken e l in
    let all : length given + left ≡ length (given ++ part) + (left - length part) = omega (arith, length-append given part, short, few) in
    let there : AtSized (left - length part) old (rest ++ part) (given ++ part) = record {
      h = here.h;
      head = here.head;
      is_rest = ap (λ t. t ++ part) here.is_rest ∙ append_assoc old.head given part;
      frames = here.frames ∙ ap sized all;
      some = omega (arith, short, few);
      small = omega (arith, all, here.small);
    } in
    (part, with_more (rest ++ part) (given ++ part) (sized_reads (left - length part) old (rest ++ part) (given ++ part) there))

-- bytes of a body to the stream's end
pub open_least : (room : ℕ) (old : Core) (taken : List ℕ) → old.state ≡ ToEnd room → length taken ≤ room + 1 → StepsLeast old taken
open_least room old taken at few = λ rest given part later live e l.
    let here : AtToEnd room old rest given = subst (λ s. LiveAt s old rest given) at live in
    let short : length part < length taken = less part later taken e l in
    let there : AtToEnd (room - length part) old (rest ++ part) (given ++ part) = record {
      h = here.h;
      head = here.head;
      is_rest = ap (λ t. t ++ part) here.is_rest ∙ append_assoc old.head given part;
      frames = here.frames;
      fits = omega (arith, length-append given part, here.fits, short, few);
    } in
    (part, record { verdict = open_body; reads = to_end_reads (room - length part) old (rest ++ part) (given ++ part) there; decided = refl; moves = refl; quiet = λ rec. refl; goes_on = refl })

-- bytes of a chunked body
pub chunks_least : (room : ℕ) (old : Core) (taken : List ℕ) → old.state ≡ Chunked room → length taken ≤ room + 1 → TakesLeast old.chunks taken → StepsLeast old taken
chunks_least room old taken at few least = λ rest given part later live e l.
    let here : AtChunked room old rest given = subst (λ s. LiveAt s old rest given) at live in
    let short : length part < length taken = less part later taken e l in
    let w : IsNotEnough here.body given 0 part = least here.body given part later here.stands e l in
    let fits : length (given ++ w.gathered) ≤ most_bytes = omega (arith, length-append given w.gathered, w.among, short, few, here.fits) in (
      w.gathered,
      with_more (rest ++ part) (given ++ w.gathered)
          (body_reads old.head (rest ++ part) (here.body ++ part) here.h chunked (response more (given ++ w.gathered)) here.head
          (ap (λ t. t ++ part) here.is_rest ∙ append_assoc old.head here.body part) here.frames
          (chunked_body (here.body ++ part) (response more (given ++ w.gathered)) (response more (given ++ w.gathered)) w.reads (unlimited more (given ++ w.gathered) fits))),
    )

-- a list's first, of as many as there are
pub take_min : (n : ℕ) (xs : List ℕ) → take (min n (length xs)) xs ≡ take n xs
take_min n xs = either (leb n (length xs))
    (λ on. let e : min n (length xs) ≡ n = omega (arith, leb-true n (length xs) on) in ap (λ k. take k xs) e)
    (λ off.
    let long : length xs ≤ n = omega (arith, leb-false n (length xs) off) in
    let e : min n (length xs) ≡ length xs = omega (arith, long) in
    ap (λ k. take k xs) e ∙ take_all (length xs) xs (omega arith) ∙ sym (take_all n xs long))

-- the first of two lists
pub take_both : (n : ℕ) (xs ys : List ℕ) → take n xs ++ take (n - length (take n xs)) ys ≡ take n (xs ++ ys)
take_both n xs ys = either (leb n (length xs))
    (λ on.
    let short : n ≤ length xs = leb-true n (length xs) on in
    let none : n - length (take n xs) ≡ 0 = omega (arith, short, length-take n xs) in
    ap (λ k. take n xs ++ take k ys) none ∙ append-nil (take n xs) ∙ sym (take-append-le n xs ys short))
    (λ off.
    let long : length xs ≤ n = omega (arith, leb-false n (length xs) off) in
    ap (λ t. t ++ take (n - length t) ys) (take_all n xs long) ∙ sym (take_front n xs ys long))
