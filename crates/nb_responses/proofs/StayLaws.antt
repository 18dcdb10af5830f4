-- A reading that is decided stays, whatever follows, and the body of a longer stream goes on from that of a shorter one.
use Rattle.std.proofs.Common.{◌≡◌, ◌≢◌, ◌≤◌, ◌<◌, ℕ, List, [], ◌++◌, length, take, Some, Bool, true, false, refl, ap, ◌∙◌, sym, subst, arith, ltb, append-nil, append_assoc}
use Rattle.std.specs.List.{concat}
use Rattle.std.proofs.lemmas.Bool.{lt-ltb, le-ltb, ltb-true, ltb-false}
use Rattle.std.proofs.lemmas.Option.{none-some, same_Some}
use Rattle.std.proofs.lemmas.List.{take_all, length-append, take-append-le}
use Rattle.nb_responses.specs.Lines.{Found, found, missing, too_many, too_long, head_block, limit, most_lines}
use Rattle.nb_responses.specs.Heads.{Framing, sized, chunked, to_end, bad, framing}
use Rattle.nb_responses.specs.Chunks.{Verdict, more, open_body, body, moved, status, broken, large, long, many, Response, response}
use Rattle.nb_responses.specs.Responses.{most_bytes, within_limit, sized_verdict, sized_response, ReadsBody, Final, no_block, no_head, by_head, by_body, no_block_verdict, ReadsSoFar, verdict_at_end, before_end, by_end, ResponseOf}
use Rattle.nb_responses.proofs.BlockLaws.{take_longer, longer_found, found_more}
use Rattle.nb_responses.proofs.ChunkedLaws.{Grown, chunked_grown}
use Rattle.nb_responses.proofs.ResponseLaws.{reads_unique}
use Rattle.nb_responses.proofs.Cases.{either}

within_bytes : (r : Response) → (within_limit r).bytes ≡ take most_bytes r.bytes
within_bytes r = either (ltb most_bytes (length r.bytes))
    (λ on. rw on refl)
    (λ off. let all : r.bytes ≡ take most_bytes r.bytes = sym (take_all most_bytes r.bytes (ltb-false most_bytes (length r.bytes) off)) in rw off all)

within_stays : (r s : Response) (rest : List ℕ) → s.bytes ≡ r.bytes ++ rest → (ltb most_bytes (length r.bytes) ≡ false → s ≡ r) → within_limit s ≡ within_limit r
within_stays r s rest e same = either (ltb most_bytes (length r.bytes))
    (λ on.
    let l : most_bytes < length r.bytes = ltb-true most_bytes (length r.bytes) on in
    let on_too : ltb most_bytes (length s.bytes) ≡ true = lt-ltb most_bytes (length s.bytes) (omega (arith, l, ap length e, length-append r.bytes rest)) in
    rw (on, on_too) (ap (λ t. response large (take most_bytes t)) e ∙ ap (response large) (take-append-le most_bytes r.bytes rest (omega (arith, l)))))
    (λ off. ap within_limit (same off))

-- a longer text after the head is read so
record BodyGrown (text later : List ℕ) (f : Framing) (r : Response) : Type 0 where
  longer : Response
  reads : ReadsBody (text ++ later) f longer
  rest : List ℕ
  bytes : longer.bytes ≡ r.bytes ++ rest
  stays : r.verdict ≢ more → r.verdict ≢ open_body → longer ≡ r

within_grown : (r s : Response) (rest : List ℕ) → s.bytes ≡ r.bytes ++ rest → (x : List ℕ) × ((within_limit s).bytes ≡ (within_limit r).bytes ++ x)
within_grown r s rest e =
    let front : (x : List ℕ) × (take most_bytes (r.bytes ++ rest) ≡ take most_bytes r.bytes ++ x) = take_longer most_bytes r.bytes rest in
    (front.0, within_bytes s ∙ ap (take most_bytes) e ∙ front.1 ∙ ap (λ t. t ++ front.0) (sym (within_bytes r)))

sized_grown : (text later : List ℕ) (size : ℕ) → BodyGrown text later (sized size) (sized_response size text)
sized_grown text later size = either (ltb most_bytes size)
    (λ on.
    let large_one : sized_response size text ≡ response large [] = rw on refl in
    let large_too : sized_response size (text ++ later) ≡ response large [] = rw on refl in
    record {
      longer = sized_response size (text ++ later);
      reads = refl;
      rest = [];
      bytes = ap (λ (k : Response). k.bytes) large_too ∙ ap (λ (k : Response). k.bytes ++ []) (sym large_one);
      stays = λ _ _. large_too ∙ sym large_one;
    })
    (λ off.
    let here : sized_response size text ≡ response (sized_verdict size text) (take size text) = rw off refl in
    let there : sized_response size (text ++ later) ≡ response (sized_verdict size (text ++ later)) (take size (text ++ later)) = rw off refl in
    let front : (x : List ℕ) × (take size (text ++ later) ≡ take size text ++ x) = take_longer size text later in
    record {
      longer = sized_response size (text ++ later);
      reads = refl;
      rest = front.0;
      bytes = ap (λ (k : Response). k.bytes) there ∙ front.1 ∙ ap (λ (k : Response). k.bytes ++ front.0) (sym here);
      stays = λ decided _. either (ltb (length text) size)
          (λ few. absurd (decided (ap (λ (k : Response). k.verdict) here ∙ (rw few refl))))
          (λ enough.
          let l : size ≤ length text = ltb-false (length text) size enough in
          let enough_too : ltb (length (text ++ later)) size ≡ false = le-ltb (length (text ++ later)) size (omega (arith, l, length-append text later)) in
          there ∙ (rw (enough, enough_too) (ap (response body) (take-append-le size text later l))) ∙ sym here);
    })

body_grown : (text later : List ℕ) (f : Framing) (r : Response) → ReadsBody text f r → BodyGrown text later f r
body_grown text later (sized size) r is = subst (BodyGrown text later (sized size)) (sym is) (sized_grown text later size)
body_grown text later chunked r (read, c, is) =
    let g : Grown text later read = chunked_grown text later read c in
    let front : (x : List ℕ) × ((within_limit g.longer).bytes ≡ (within_limit read).bytes ++ x) = within_grown read g.longer g.rest g.bytes in
    subst (BodyGrown text later chunked) (sym is) (record {
      longer = within_limit g.longer;
      reads = (g.longer, g.reads, refl);
      rest = front.0;
      bytes = front.1;
      stays = λ decided _. within_stays read g.longer g.rest g.bytes (λ off. g.stays (λ no. decided (rw off no)));
    })
body_grown text later to_end r is =
    let front : (x : List ℕ) × ((within_limit (response open_body (text ++ later))).bytes ≡ (within_limit (response open_body text)).bytes ++ x) = within_grown (response open_body text) (response open_body (text ++ later)) later refl in
    subst (BodyGrown text later to_end) (sym is) (record {
      longer = within_limit (response open_body (text ++ later));
      reads = refl;
      rest = front.0;
      bytes = front.1;
      stays = λ _ decided. within_stays (response open_body text) (response open_body (text ++ later)) later refl (λ off. absurd (decided (rw off refl)));
    })
body_grown text later bad r is = record { longer = r; reads = is; rest = []; bytes = sym (append-nil r.bytes); stays = λ _ _. refl }

head_found : (text later block rest : List ℕ) → head_block text ≡ found block rest → head_block (text ++ later) ≡ found block (rest ++ later)
unfolding longer_found
head_found text later block rest is = found_more most_lines limit text later (found block rest) is (λ e. cc)

no_block_stays : (text later : List ℕ) (v : Verdict) (f : Found) → head_block text ≡ f → no_block_verdict f ≡ Some v → v ≢ more → Final (text ++ later) (response v [])
unfolding longer_found
no_block_stays text later v (found block rest) is e decided = absurd (none-some v e)
no_block_stays text later v missing is e decided = absurd (decided (sym (same_Some more v e)))
no_block_stays text later v too_many is e decided = no_block v (ap no_block_verdict (found_more most_lines limit text later too_many is (λ e. cc)) ∙ e)
no_block_stays text later v too_long is e decided = no_block v (ap no_block_verdict (found_more most_lines limit text later too_long is (λ e. cc)) ∙ e)

final_stays : (text later : List ℕ) (r : Response) → Final text r → r.verdict ≢ more → r.verdict ≢ open_body → Final (text ++ later) r
final_stays text later _ (no_block v e) decided ended = no_block_stays text later v (head_block text) refl e decided
final_stays text later _ (no_head block rest e none) decided ended = no_head block (rest ++ later) (head_found text later block rest e) none
final_stays text later _ (by_head block rest h v e is final says) decided ended = by_head block (rest ++ later) h v (head_found text later block rest e) is final says
final_stays text later _ (by_body block rest h r e is final says reads) decided ended =
    let g : BodyGrown rest later (framing h) r = body_grown rest later (framing h) r reads in
    by_body block (rest ++ later) h r (head_found text later block rest e) is final says (subst (ReadsBody (rest ++ later) (framing h)) (g.stays decided ended) g.reads)

so_far_longer : (text later : List ℕ) (r s : Response) (x : ReadsSoFar text r) → Final (x.rest ++ later) s → ReadsSoFar (text ++ later) s
so_far_longer text later r s x ends = record {
  skipped = x.skipped;
  rest = x.rest ++ later;
  all = x.all;
  stands = ap (λ t. t ++ later) x.stands ∙ append_assoc (concat x.skipped) x.rest later;
  ends = ends;
}

-- a decided verdict is the same before the stream's end and at it
same_at_end : (v : Verdict) → before_end v ≢ more → verdict_at_end v ≡ before_end v
same_at_end more decided = absurd (decided refl)
same_at_end open_body decided = absurd (decided refl)
same_at_end body decided = refl
same_at_end (moved text) decided = refl
same_at_end (status code) decided = refl
same_at_end broken decided = refl
same_at_end large decided = refl
same_at_end long decided = refl
same_at_end many decided = refl

same_by_end : (ended : Bool) (r : Response) → before_end r.verdict ≢ more → by_end ended r ≡ by_end false r
same_by_end false r decided = refl
same_by_end true r decided = ap (λ v. response v r.bytes) (same_at_end r.verdict decided)

pub stays : (stream later : List ℕ) (ended : Bool) (r : Response) → ResponseOf stream false r → r.verdict ≢ more → ResponseOf (stream ++ later) ended r
stays stream later ended r x decided =
    let so_far : Response = x.so_far in
    let here : before_end x.so_far.verdict ≢ more = λ no. decided (ap (λ (k : Response). k.verdict) x.is ∙ no) in
    let not_more : x.so_far.verdict ≢ more = λ no. here (ap before_end no) in
    let not_open : x.so_far.verdict ≢ open_body = λ no. here (ap before_end no) in
    record {
      so_far = x.so_far;
      reads = so_far_longer stream later x.so_far x.so_far x.reads (final_stays x.reads.rest later x.so_far x.reads.ends not_more not_open);
      is = x.is ∙ sym (same_by_end ended x.so_far here);
    }

-- the body's bytes so far, as far as the heads go
goes_on_by : (stream later : List ℕ) (r s : Response) (x : ReadsSoFar stream r) → Final x.rest r → ReadsSoFar (stream ++ later) s → (rest : List ℕ) × (s.bytes ≡ r.bytes ++ rest)
goes_on_by stream later _ s x (no_block v e) y = (s.bytes, refl)
goes_on_by stream later _ s x (no_head block rest e none) y = (s.bytes, refl)
goes_on_by stream later _ s x (by_head block rest h v e is final says) y = (s.bytes, refl)
goes_on_by stream later r s x (by_body block rest h _ e is final says reads) y =
    let g : BodyGrown rest later (framing h) r = body_grown rest later (framing h) r reads in
    let longer : ReadsSoFar (stream ++ later) g.longer = so_far_longer stream later r g.longer x (by_body block (rest ++ later) h g.longer (head_found x.rest later block rest e) is final says g.reads) in
    (g.rest, ap (λ (k : Response). k.bytes) (reads_unique (stream ++ later) s g.longer y longer) ∙ g.bytes)

pub goes_on : (stream later : List ℕ) (first ended : Bool) (a b : Response) → ResponseOf stream first a → ResponseOf (stream ++ later) ended b → (rest : List ℕ) × (b.bytes ≡ a.bytes ++ rest)
goes_on stream later first ended a b x y =
    let g : (rest : List ℕ) × (y.so_far.bytes ≡ x.so_far.bytes ++ rest) = goes_on_by stream later x.so_far y.so_far x.reads x.reads.ends y.reads in
    (g.0, ap (λ (k : Response). k.bytes) y.is ∙ g.1 ∙ ap (λ (k : Response). k.bytes ++ g.0) (sym x.is))
