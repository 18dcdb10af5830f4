-- What a step of a live core comes to, for each state.
use Rattle.std.proofs.Common.{◌≡◌, ◌≤◌, ◌<◌, inl, inr, ℕ, ◌+◌, ◌-◌, List, [], ◌++◌, length, take, min, Option, None, true, false, refl, ap, ◌∙◌, sym, subst, arith, ltb, append-nil, append_assoc, length-append}
use Rattle.std.proofs.lemmas.Bool.{lt-ltb, le-ltb, ltb-true, ltb-false}
use Rattle.std.proofs.lemmas.List.{take_all, length-take}
use Rattle.httparse.specs.Grammar.{ResponseHead}
use Rattle.nb_terms.specs.declared.cause.Cause.{Cause}
use Rattle.nb_responses.specs.Lines.{head_block}
use Rattle.nb_responses.specs.Heads.{framing, sized, chunked, to_end}
use Rattle.nb_responses.specs.Chunks.{Verdict, open_body, body, broken, large, long, response}
use Rattle.nb_readings.specs.Readings.{chunked_read}
use Rattle.nb_readings.proofs.ReadingLemmas.{chunked_body}
use Rattle.nb_responses.specs.Responses.{most_bytes, within_limit, sized_response}
use Rattle.nb_responses.proofs.Cases.{either}
use Rattle.nb_responses.proofs.LineLaws.{take_front}
use Rattle.nb_httpmsg.specs.Reader.{Reader}
use Rattle.nb_httpmsg.specs.declared.place.Place.{Place}
use Rattle.nb_httpmsg.specs.declared.place.Place.TheVariants as place
use Rattle.nb_httpmsg.specs.declared.chunks.ChunkState.{ChunkState}
use Rattle.nb_httpmsg.specs.Feeding.{StandsForBody, verdict_of, chunk_state, is_open}
use Rattle.nb_httpmsg.proofs.FeedLemmas.{kept_front}
use Rattle.nb_httpmsg.proofs.BlockLemmas.{take_within}
use Rattle.nb_http.specs.declared.state.State.{State}
use Rattle.nb_http.specs.declared.state.State.TheVariants.{Head, Sized, Chunked, ToEnd, Over}
use Rattle.nb_http.specs.declared.head_step.HeadStep.{HeadStep}
use Rattle.nb_readings.specs.Ends.{verdict_end, is_decided, text_of}
use Rattle.nb_http.specs.Standing.{Core, is_over, moved_text, IsBodyHead, AtHead, AtSized, AtChunked, AtToEnd, LiveAt, GoesOnOrEnds, goes_on, skips, ends, StepsBy}
use Rattle.nb_http.specs.HeadReading.{HeadGoes, IsHeadRead}
use Rattle.nb_http.specs.Giving.{sized_next, to_end_next, chunk_next, chunk_next_by}
use Rattle.nb_http.proofs.StandsLemmas.{body_reads, unlimited}

head_outcome : (rec : ℕ) (state : State) (c : Core) (text : List ℕ) (over : Option Cause) → c.state ≡ state → HeadGoes rec state text c.head over
    → StandsForBody c.chunks.place c.chunks.line [] [] → is_open c.chunks.place ≡ true → GoesOnOrEnds rec c text [] over
head_outcome rec Head c text over e goes fresh unread =
    elim goes [
      | inl g ↦ goes_on (subst (λ s. LiveAt s c text []) (sym e) (record { is_rest = sym g.0; none_given = refl; block = ap head_block g.0 ∙ g.1; fresh = fresh; unread = unread })) g.2
      | inr g ↦ skips g.1 (subst (λ s. LiveAt s c [] []) (sym e) (record { is_rest = sym g.0; none_given = refl; block = ap head_block g.0; fresh = fresh; unread = unread })) g.2
    ]
head_outcome rec (Sized left) c text over e goes fresh unread =
    let none : left ≡ 0 + left = omega arith in
    goes_on (subst (λ s. LiveAt s c text []) (sym e) (record {
      h = goes.0;
      head = subst (λ t. IsBodyHead t goes.0) (sym goes.2) goes.1;
      is_rest = sym goes.2 ∙ sym (append-nil c.head);
      frames = goes.3 ∙ ap sized none;
      some = goes.4;
      small = omega (arith, goes.5);
    })) goes.6
head_outcome rec (Chunked room) c text over e goes fresh unread =
    goes_on (subst (λ s. LiveAt s c text []) (sym e) (record {
      h = goes.0;
      body = [];
      head = subst (λ t. IsBodyHead t goes.0) (sym goes.2) goes.1;
      is_rest = sym goes.2 ∙ sym (append-nil c.head);
      frames = goes.3;
      stands = fresh;
      unread = unread;
      fits = omega (arith, goes.4);
    })) goes.5
head_outcome rec (ToEnd room) c text over e goes fresh unread =
    goes_on (subst (λ s. LiveAt s c text []) (sym e) (record {
      h = goes.0;
      head = subst (λ t. IsBodyHead t goes.0) (sym goes.2) goes.1;
      is_rest = sym goes.2 ∙ sym (append-nil c.head);
      frames = goes.3;
      fits = omega (arith, goes.4);
    })) goes.5
head_outcome rec (Over range) c text over e goes fresh unread =
    ends goes.verdict goes.reads goes.decided (ap is_over e) (ap (moved_text c.head) e ∙ goes.moves) goes.ends

-- bytes of a head
pub head_comes : (rec : ℕ) (old new : Core) (line bytes : List ℕ) (taken : ℕ) (r : HeadStep) → old.state ≡ Head → line ≡ old.head ++ take taken bytes → IsHeadRead rec line r → length old.head ≤ r.len
    → new.state ≡ r.state → new.head ≡ take r.kept line → new.chunks ≡ old.chunks → StepsBy rec old new (take (r.len - length old.head) bytes) [] r.over
head_comes rec old new line bytes taken r at spelled read far after kept same = λ rest given live.
    let here : AtHead old rest given = subst (λ s. LiveAt s old rest given) at live in
    let text : take r.len line ≡ rest ++ take (r.len - length old.head) bytes = kept_front line old.head bytes taken r.len spelled read.within far ∙ ap (λ t. t ++ take (r.len - length old.head) bytes) (sym here.is_rest) in
    let comes : GoesOnOrEnds rec new (take r.len line) [] r.over = head_outcome rec r.state new (take r.len line) r.over after
    (subst (λ k. HeadGoes rec r.state (take r.len line) k r.over) (sym kept) read.goes)
    (subst (λ (c : Reader). StandsForBody c.place c.line [] []) (sym same) here.fresh)
    (subst (λ (c : Reader). is_open c.place ≡ true) (sym same) here.unread) in
    subst (λ g. GoesOnOrEnds rec new (rest ++ take (r.len - length old.head) bytes) g r.over) (sym (append-nil given ∙ here.none_given))
    (subst (λ t. GoesOnOrEnds rec new t [] r.over) text comes)

-- bytes of a body of a stated length
pub sized_comes : (rec left : ℕ) (old new : Core) (bytes : List ℕ) (taken : ℕ) (over : Option Cause) → old.state ≡ Sized left → taken ≤ left → taken ≤ length bytes
    → new.state ≡ (sized_next (left - taken)).state → over ≡ (sized_next (left - taken)).over → new.head ≡ old.head → StepsBy rec old new (take taken bytes) (take taken bytes) over
sized_comes rec left old new bytes taken over at few short after is same = λ rest given live.
    let here : AtSized left old rest given = subst (λ s. LiveAt s old rest given) at live in
    let gave : List ℕ = take taken bytes in
    let size : length (given ++ gave) ≡ length given + taken = omega (arith, length-append given gave, length-take taken bytes, short) in
    let text : rest ++ gave ≡ new.head ++ (given ++ gave) = ap (λ t. t ++ gave) here.is_rest ∙ append_assoc old.head given gave ∙ ap (λ t. t ++ (given ++ gave)) (sym same) in
    let head : IsBodyHead new.head here.h = subst (λ t. IsBodyHead t here.h) (sym same) here.head in
    either (ltb 0 (left - taken))
    (λ on.
    let all : length given + left ≡ length (given ++ gave) + (left - taken) = omega (arith, size, few) in
    let state : new.state ≡ Sized (left - taken) = after ∙ (rw on refl) in
    goes_on (subst (λ s. LiveAt s new (rest ++ gave) (given ++ gave)) (sym state) (record {
      h = here.h;
      head = head;
      is_rest = text;
      frames = here.frames ∙ ap sized all;
      some = ltb-true 0 (left - taken) on;
      small = omega (arith, all, here.small);
    })) (is ∙ (rw on refl)))
    (λ off.
    let all : length given + left ≡ length (given ++ gave) = omega (arith, size, few, ltb-false 0 (left - taken) off) in
    let state : new.state ≡ Over None = after ∙ (rw off refl) in
    let small : ltb most_bytes (length (given ++ gave)) ≡ false = le-ltb most_bytes (length (given ++ gave)) (omega (arith, all, here.small)) in
    let enough : ltb (length (given ++ gave)) (length (given ++ gave)) ≡ false = le-ltb (length (given ++ gave)) (length (given ++ gave)) (omega arith) in
    let reads : response body (given ++ gave) ≡ sized_response (length (given ++ gave)) (given ++ gave) = rw (small, enough) (ap (response body) (sym (take_all (length (given ++ gave)) (given ++ gave) (omega arith)))) in
    ends body (body_reads new.head (rest ++ gave) (given ++ gave) here.h (sized (length (given ++ gave))) (response body (given ++ gave)) head text (here.frames ∙ ap sized all) reads)
    refl (ap is_over state) (ap (moved_text new.head) state) (is ∙ (rw off refl)))

-- bytes of a body to the stream's end
pub open_comes : (rec room : ℕ) (old new : Core) (bytes : List ℕ) (over : Option Cause) → old.state ≡ ToEnd room
    → new.state ≡ (to_end_next room (length bytes)).state → over ≡ (to_end_next room (length bytes)).over → new.head ≡ old.head
    → StepsBy rec old new (take (min (length bytes) (room + 1)) bytes) (take (min (length bytes) room) bytes) over
open_comes rec room old new bytes over at after is same = λ rest given live.
    let here : AtToEnd room old rest given = subst (λ s. LiveAt s old rest given) at live in
    let took : List ℕ = take (min (length bytes) (room + 1)) bytes in
    let gave : List ℕ = take (min (length bytes) room) bytes in
    let head : IsBodyHead new.head here.h = subst (λ t. IsBodyHead t here.h) (sym same) here.head in
    let text : rest ++ took ≡ new.head ++ (given ++ took) = ap (λ t. t ++ took) here.is_rest ∙ append_assoc old.head given took ∙ ap (λ t. t ++ (given ++ took)) (sym same) in
    either (ltb room (length bytes))
    (λ on.
    let past : room < length bytes = ltb-true room (length bytes) on in
    let state : new.state ≡ Over None = after ∙ (rw on refl) in
    let count : length (given ++ took) ≡ most_bytes + 1 = omega (arith, length-append given took, length-take (min (length bytes) (room + 1)) bytes, here.fits, past) in
    let too_much : ltb most_bytes (length (given ++ took)) ≡ true = lt-ltb most_bytes (length (given ++ took)) (omega (arith, count)) in
    let exact : most_bytes - length given ≡ min (length bytes) room = omega (arith, here.fits, past) in
    let front : take most_bytes (given ++ took) ≡ given ++ gave = take_front most_bytes given took (omega (arith, here.fits))
    ∙ ap (λ n. given ++ take n took) exact ∙ ap (λ t. given ++ t) (take_within (min (length bytes) room) (min (length bytes) (room + 1)) bytes (omega arith)) in
    let reads : response large (given ++ gave) ≡ within_limit (response open_body (given ++ took)) = rw too_much (ap (response large) (sym front)) in
    ends large (body_reads new.head (rest ++ took) (given ++ took) here.h to_end (response large (given ++ gave)) head text here.frames reads)
    refl (ap is_over state) (ap (moved_text new.head) state) (is ∙ (rw on refl)))
    (λ off.
    let few : length bytes ≤ room = ltb-false room (length bytes) off in
    let state : new.state ≡ ToEnd (room - length bytes) = after ∙ (rw off refl) in
    let all : min (length bytes) (room + 1) ≡ length bytes = omega (arith, few) in
    let all_too : min (length bytes) room ≡ length bytes = omega (arith, few) in
    let same_bytes : took ≡ gave = ap (λ n. take n bytes) (all ∙ sym all_too) in
    goes_on (subst (λ s. LiveAt s new (rest ++ took) (given ++ gave)) (sym state) (record {
      h = here.h;
      head = head;
      is_rest = text ∙ ap (λ t. new.head ++ (given ++ t)) same_bytes;
      frames = here.frames;
      fits = omega (arith, length-append given gave, length-take (min (length bytes) room) bytes, here.fits, few);
    })) (is ∙ (rw off refl)))

chunk_live : (c : Core) (rest given text : List ℕ) (h : ResponseHead) (rec room : ℕ) (over : Option Cause) → IsBodyHead c.head h → rest ≡ c.head ++ text → framing h ≡ chunked
    → StandsForBody c.chunks.place c.chunks.line text given → is_open c.chunks.place ≡ true → length given + room ≡ most_bytes → c.state ≡ Chunked room → over ≡ None → GoesOnOrEnds rec c rest given over
chunk_live c rest given text h rec room over head e frames stands unread fits state none =
    goes_on (subst (λ s. LiveAt s c rest given) (sym state) (record { h = h; body = text; head = head; is_rest = e; frames = frames; stands = stands; unread = unread; fits = fits })) none

chunk_decided : (verdict : Verdict) (c : Core) (rest given text : List ℕ) (h : ResponseHead) (rec room : ℕ) (over : Option Cause) → IsBodyHead c.head h → rest ≡ c.head ++ text → framing h ≡ chunked
    → chunked_read text ≡ response verdict given → length given + room ≡ most_bytes → is_decided verdict ≡ true → text_of verdict ≡ None → c.state ≡ Over None → over ≡ verdict_end rec verdict → GoesOnOrEnds rec c rest given over
chunk_decided verdict c rest given text h rec room over head e frames reads fits decided none state is =
    ends verdict (body_reads c.head rest text h chunked (response verdict given) head e frames (chunked_body text (response verdict given) (response verdict given) reads (unlimited verdict given (omega (arith, fits)))))
    decided (ap is_over state) (ap (moved_text c.head) state ∙ sym none) is

chunks_end : (place : Place) (c : Core) (rest given text : List ℕ) (h : ResponseHead) (rec room : ℕ) (over : Option Cause) → IsBodyHead c.head h → rest ≡ c.head ++ text → framing h ≡ chunked
    → c.chunks.place ≡ place → StandsForBody place c.chunks.line text given → length given + room ≡ most_bytes
    → c.state ≡ (chunk_next_by rec room (chunk_state place)).state → over ≡ (chunk_next_by rec room (chunk_state place)).over → GoesOnOrEnds rec c rest given over
chunks_end place.Size c rest given text h rec room over head e frames at stands fits state is =
    chunk_live c rest given text h rec room over head e frames (subst (λ p. StandsForBody p c.chunks.line text given) (sym at) stands) (ap is_open at) fits state is
chunks_end (place.Bytes left) c rest given text h rec room over head e frames at stands fits state is =
    chunk_live c rest given text h rec room over head e frames (subst (λ p. StandsForBody p c.chunks.line text given) (sym at) stands) (ap is_open at) fits state is
chunks_end (place.End cr) c rest given text h rec room over head e frames at stands fits state is =
    chunk_live c rest given text h rec room over head e frames (subst (λ p. StandsForBody p c.chunks.line text given) (sym at) stands) (ap is_open at) fits state is
chunks_end (place.Trailer used) c rest given text h rec room over head e frames at stands fits state is =
    chunk_live c rest given text h rec room over head e frames (subst (λ p. StandsForBody p c.chunks.line text given) (sym at) stands) (ap is_open at) fits state is
chunks_end place.Whole c rest given text h rec room over head e frames at stands fits state is =
    chunk_decided body c rest given text h rec room over head e frames stands.reads fits refl refl state is
chunks_end place.Broken c rest given text h rec room over head e frames at stands fits state is =
    chunk_decided broken c rest given text h rec room over head e frames stands.reads fits refl refl state is
chunks_end place.TooLong c rest given text h rec room over head e frames at stands fits state is =
    chunk_decided long c rest given text h rec room over head e frames stands.reads fits refl refl state is

-- bytes of a chunked body
pub chunks_come : (rec room : ℕ) (old new : Core) (taken : List ℕ) (fed : ChunkState) (over : Option Cause) → old.state ≡ Chunked room
    → ((text bytes : List ℕ) → StandsForBody old.chunks.place old.chunks.line text bytes → StandsForBody new.chunks.place new.chunks.line (text ++ taken) (bytes ++ new.chunks.block))
    → fed ≡ chunk_state new.chunks.place
    → new.state ≡ (chunk_next rec room (length new.chunks.block) fed).state → over ≡ (chunk_next rec room (length new.chunks.block) fed).over → new.head ≡ old.head
    → StepsBy rec old new taken (take (min (length new.chunks.block) room) new.chunks.block) over
chunks_come rec room old new taken fed over at feeds says after is same = λ rest given live.
    let here : AtChunked room old rest given = subst (λ s. LiveAt s old rest given) at live in
    let block : List ℕ = new.chunks.block in
    let gave : List ℕ = take (min (length block) room) block in
    let stands : StandsForBody new.chunks.place new.chunks.line (here.body ++ taken) (given ++ block) = feeds here.body given here.stands in
    let head : IsBodyHead new.head here.h = subst (λ t. IsBodyHead t here.h) (sym same) here.head in
    let text : rest ++ taken ≡ new.head ++ (here.body ++ taken) = ap (λ t. t ++ taken) here.is_rest ∙ append_assoc old.head here.body taken ∙ ap (λ t. t ++ (here.body ++ taken)) (sym same) in
    let size : length (given ++ block) ≡ length given + length block = length-append given block in
    either (ltb room (length block))
    (λ on.
    let past : room < length block = ltb-true room (length block) on in
    let state : new.state ≡ Over None = after ∙ (rw on refl) in
    let too_much : ltb most_bytes (length (given ++ block)) ≡ true = lt-ltb most_bytes (length (given ++ block)) (omega (arith, size, here.fits, past)) in
    let exact : most_bytes - length given ≡ min (length block) room = omega (arith, here.fits, past) in
    let front : take most_bytes (given ++ block) ≡ given ++ gave = take_front most_bytes given block (omega (arith, here.fits)) ∙ ap (λ n. given ++ take n block) exact in
    let cut : response large (given ++ gave) ≡ within_limit (response (verdict_of new.chunks.place) (given ++ block)) = rw too_much (ap (response large) (sym front)) in
    ends large (body_reads new.head (rest ++ taken) (here.body ++ taken) here.h chunked (response large (given ++ gave)) head text here.frames
    (chunked_body (here.body ++ taken) (response (verdict_of new.chunks.place) (given ++ block)) (response large (given ++ gave)) stands.reads cut))
    refl (ap is_over state) (ap (moved_text new.head) state) (is ∙ (rw on refl)))
    (λ off.
    let few : length block ≤ room = ltb-false room (length block) off in
    let all : min (length block) room ≡ length block = omega (arith, few) in
    let gave_all : gave ≡ block = ap (λ n. take n block) all ∙ take_all (length block) block (omega arith) in
    let state : new.state ≡ (chunk_next_by rec (room - length block) (chunk_state new.chunks.place)).state = after ∙ (rw off (ap (λ s. (chunk_next_by rec (room - length block) s).state) says)) in
    let ending : over ≡ (chunk_next_by rec (room - length block) (chunk_state new.chunks.place)).over = is ∙ (rw off (ap (λ s. (chunk_next_by rec (room - length block) s).over) says)) in
    subst (λ g. GoesOnOrEnds rec new (rest ++ taken) (given ++ g) over) (sym gave_all)
    (chunks_end new.chunks.place new (rest ++ taken) (given ++ block) (here.body ++ taken) here.h rec (room - length block) over head text here.frames refl stands (omega (arith, size, here.fits, few)) state ending))
