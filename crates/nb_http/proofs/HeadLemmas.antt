-- What the bytes of a head so far come to.
use Rattle.std.proofs.Common.{◌≡◌, ◌≤◌, ◌<◌, inl, inr, ℕ, ◌-◌, ◌^◌, ◌&&◌, List, [], ◌++◌, length, take, drop, min, Option, Some, None, Bool, true, false, refl, ap, ◌∙◌, sym, subst, arith, eqb, ltb, leb, length-append, slice_range, if◌then◌else◌, codes}
use Rattle.std.specs.Option.{option_map}
use Rattle.std.proofs.lemmas.Bool.{ne_eqb, eq-eqb, lt-ltb, ltb-true, ltb-false, le-leb, lt-leb, leb-false, false≢true}
use Rattle.std.proofs.lemmas.List.{take_all, drop_all, length-take}
use Rattle.std.specs.Prelude.{IfSome}
use Rattle.std.proofs.lemmas.Option.{none-some, same_Some}
use Rattle.httparse.specs.Grammar.{ResponseHead, status_code}
use Rattle.nb_terms.specs.declared.cause.Cause.{Cause}
use Rattle.nb_responses.specs.Lines.{whole, unfinished, first_block, Found, found, missing, too_many, too_long, found_by, head_block, limit, most_lines}
use Rattle.nb_responses.specs.Heads.{Framing, sized, chunked, to_end, bad, framing, is_interim, is_move, moves_to, moves_to_first, values}
use Rattle.nb_responses.specs.Chunks.{Verdict, body, moved, status, broken, large, long, response}
use Rattle.nb_responses.specs.Responses.{most_bytes, ReadsBody, verdict_by, no_block_verdict, no_block, by_head, by_body}
use Rattle.nb_responses.proofs.Cases.{either}
use Rattle.nb_responses.proofs.LineLaws.{block_alone, block_longer, missing_unfinished}
use Rattle.nb_responses.proofs.BlockLaws.{whole_shorter}
use Rattle.nb_httpmsg.proofs.LeastLemmas.{less}
use Rattle.nb_httpmsg.specs.declared.head.HeadInfo.{HeadInfo}
use Rattle.nb_httpmsg.specs.declared.head.BodyKind.{BodyKind}
use Rattle.nb_httpmsg.specs.declared.head.BodyKind.TheVariants as kind
use Rattle.nb_httpmsg.specs.HeadInfos.{IsInfoOf, body_kind, BeginsWithHead}
use Rattle.nb_httpmsg.proofs.FeedLemmas.{no_longer}
use Rattle.nb_httpmsg.proofs.BlockLemmas.{take_within}
use Rattle.nb_http.specs.declared.state.State.{State}
use Rattle.nb_http.specs.declared.state.State.TheVariants.{Head, Sized, Chunked, ToEnd, Over}
use Rattle.nb_http.specs.declared.head_step.HeadStep.{HeadStep}
use Rattle.nb_readings.specs.Ends.{verdict_end, is_decided, text_of}
use Rattle.nb_http.specs.Standing.{IsBodyHead, state_at_end}
use Rattle.nb_httpmsg.specs.declared.place.Place.{Place}
use Rattle.nb_httpmsg.specs.declared.place.Place.TheVariants as place
use Rattle.nb_httpmsg.specs.Feeding.{is_open, chunk_state}
use Rattle.nb_http.specs.Giving.{KeepsFit, sized_next, to_end_next, chunk_next, chunk_next_by}
use Rattle.nb_http.proofs.DecidedLemmas.{no_shorter, all_of, few_bytes, missing_by, missing_before, stopped}
use Rattle.nb_http.specs.HeadReading.{HeadGoes, IsFinalHead, GoesAfter, IsHeadRead, after_length, unfinished_step}

if_map : (f : ℕ × ℕ → List ℕ) (b : Bool) (x : Option (ℕ × ℕ)) (y : Option (List ℕ)) → option_map f x ≡ y → option_map f (if b then x else None) ≡ (if b then y else None)
if_map f true x y e = e
if_map f false x y e = refl

-- where the text of a move stands
pub target_is : (block : List ℕ) (h : ResponseHead) (info : HeadInfo) → IsFinalHead block h info
    → option_map (λ r. slice_range block r.0 r.1) (if is_move info.status then info.location else None) ≡ moves_to h
target_is block h info is =
    if_map (λ r. slice_range block r.0 r.1) (is_move info.status) info.location (moves_to_first (values (codes "location") h)) is.known.location
    ∙ ap (λ n. if is_move n then moves_to_first (values (codes "location") h) else None) is.known.status

range_fits : (block : List ℕ) (b : Bool) (location : Option (ℕ × ℕ)) (range : ℕ × ℕ) → IfSome location (λ r. (r.0 ≤ r.1) × (r.1 ≤ length block)) → (if b then location else None) ≡ Some range → (range.0 ≤ range.1) × (range.1 ≤ length block)
range_fits block true (Some r) range within e = subst (λ q. (q.0 ≤ q.1) × (q.1 ≤ length block)) (same_Some r range e) within
range_fits block true None range within e = absurd (none-some range e)
range_fits block false location range within e = absurd (none-some range e)

pub moves_goes : (rec : ℕ) (block : List ℕ) (h : ResponseHead) (info : HeadInfo) (range : ℕ × ℕ) → IsFinalHead block h info → (if is_move info.status then info.location else None) ≡ Some range
    → HeadGoes rec (Over (Some range)) block block (Some (record { code = 0; a = 0; b = 0 }))
moves_goes rec block h info range is e =
    let text : List ℕ = slice_range block range.0 range.1 in
    let target : moves_to h ≡ Some text = sym (target_is block h info is) ∙ ap (option_map (λ r. slice_range block r.0 r.1)) e in
    record {
      verdict = moved text;
      reads = by_head block [] h (moved text) is.is_block is.known.head is.final (ap (λ o. verdict_by o (status_code h)) target);
      decided = refl;
      moves = refl;
      ends = refl;
      fits = range_fits block (is_move info.status) info.location range is.known.within e;
    }

pub stays_there : (block : List ℕ) (h : ResponseHead) (info : HeadInfo) → IsFinalHead block h info → (if is_move info.status then info.location else None) ≡ None → moves_to h ≡ None
stays_there block h info is e = sym (target_is block h info is) ∙ ap (option_map (λ r. slice_range block r.0 r.1)) e

pub refused_goes : (rec : ℕ) (block : List ℕ) (h : ResponseHead) (info : HeadInfo) → IsFinalHead block h info → moves_to h ≡ None → (info.status ≡ 200 → ⊥)
    → HeadGoes rec (Over None) block block (verdict_end rec (status info.status))
refused_goes rec block h info is stays other =
    let off : eqb (status_code h) 200 ≡ false = ne_eqb (status_code h) 200 (λ e. other (is.known.status ∙ e)) in
    let says : verdict_by None (status_code h) ≡ Some (status (status_code h)) = rw off refl in
    record {
      verdict = status (status_code h);
      reads = by_head block [] h (status (status_code h)) is.is_block is.known.head is.final (ap (λ o. verdict_by o (status_code h)) stays ∙ says);
      decided = refl;
      moves = refl;
      ends = ap (λ n. verdict_end rec (status n)) is.known.status;
      fits = tt;
    }

-- a head that a body follows
pub body_head : (block : List ℕ) (h : ResponseHead) (info : HeadInfo) → IsFinalHead block h info → moves_to h ≡ None → info.status ≡ 200 → IsBodyHead block h
body_head block h info is stays ok =
    let on : eqb (status_code h) 200 ≡ true = eq-eqb (status_code h) 200 (sym is.known.status ∙ ok) in
    let says : verdict_by None (status_code h) ≡ None = rw on refl in
    record { block = is.is_block; is = is.known.head; final = is.final; next = ap (λ o. verdict_by o (status_code h)) stays ∙ says }

FramingIs : BodyKind → Framing → Type 0
FramingIs (kind.Length size) f = (n : ℕ) × (f ≡ sized n) × (size ≡ min n (2 ^ 64 - 1))
FramingIs kind.Chunked f = f ≡ chunked
FramingIs kind.ToEnd f = f ≡ to_end
FramingIs kind.Bad f = f ≡ bad

framing_is : (f : Framing) → FramingIs (body_kind f) f
unfolding FramingIs
framing_is (sized n) = (n, refl, refl)
framing_is chunked = refl
framing_is to_end = refl
framing_is bad = refl

framed : (block : List ℕ) (h : ResponseHead) (info : HeadInfo) (k : BodyKind) → IsFinalHead block h info → info.body ≡ k → FramingIs k (framing h)
framed block h info k is e = subst (λ b. FramingIs b (framing h)) (sym is.known.body ∙ e) (framing_is (framing h))

pub chunked_goes : (rec : ℕ) (block : List ℕ) (h : ResponseHead) (info : HeadInfo) → IsFinalHead block h info → moves_to h ≡ None → info.status ≡ 200 → info.body ≡ kind.Chunked → HeadGoes rec (Chunked most_bytes) block block None
unfolding FramingIs
chunked_goes rec block h info is stays ok e = (h, body_head block h info is stays ok, refl, framed block h info kind.Chunked is e, refl, refl)

pub to_end_goes : (rec : ℕ) (block : List ℕ) (h : ResponseHead) (info : HeadInfo) → IsFinalHead block h info → moves_to h ≡ None → info.status ≡ 200 → info.body ≡ kind.ToEnd → HeadGoes rec (ToEnd most_bytes) block block None
unfolding FramingIs
to_end_goes rec block h info is stays ok e = (h, body_head block h info is stays ok, refl, framed block h info kind.ToEnd is e, refl, refl)

-- a body that is decided with its head
decided_body : (rec : ℕ) (block : List ℕ) (h : ResponseHead) (f : Framing) (verdict : Verdict) (over : Option Cause) → IsBodyHead block h → framing h ≡ f → ReadsBody [] f (response verdict [])
    → is_decided verdict ≡ true → text_of verdict ≡ None → over ≡ verdict_end rec verdict → HeadGoes rec (Over None) block block over
decided_body rec block h f verdict over is frames reads decided none ends = record {
  verdict = verdict;
  reads = by_body block [] h (response verdict []) is.block is.is is.final is.next (subst (λ k. ReadsBody [] k (response verdict [])) (sym frames) reads);
  decided = decided;
  moves = sym none;
  ends = ends;
  fits = tt;
}

pub bad_goes : (rec : ℕ) (block : List ℕ) (h : ResponseHead) (info : HeadInfo) → IsFinalHead block h info → moves_to h ≡ None → info.status ≡ 200 → info.body ≡ kind.Bad → HeadGoes rec (Over None) block block (verdict_end rec broken)
unfolding FramingIs
bad_goes rec block h info is stays ok e = decided_body rec block h bad broken (verdict_end rec broken) (body_head block h info is stays ok) (framed block h info kind.Bad is e) refl refl refl refl

pub sized_goes : (rec size : ℕ) (block : List ℕ) (h : ResponseHead) (info : HeadInfo) → IsFinalHead block h info → moves_to h ≡ None → info.status ≡ 200 → info.body ≡ kind.Length size
    → HeadGoes rec (after_length size).state block block (after_length size).over
unfolding FramingIs
sized_goes rec size block h info is stays ok e =
    let f : FramingIs (kind.Length size) (framing h) = framed block h info (kind.Length size) is e in
    let n : ℕ = f.0 in
    let head : IsBodyHead block h = body_head block h info is stays ok in
    either (ltb most_bytes size)
    (λ on.
    let too_much : ltb most_bytes n ≡ true = lt-ltb most_bytes n (omega (arith, f.2, ltb-true most_bytes size on)) in
    rw on (decided_body rec block h (sized n) large (verdict_end 0 large) head f.1 (rw too_much refl) refl refl refl))
    (λ off.
    let few : size ≤ most_bytes = ltb-false most_bytes size off in
    let exact : n ≡ size = omega (arith, f.2, few) in
    either (ltb 0 size)
    (λ on. rw (off, on) (h, head, refl, f.1 ∙ ap sized exact, ltb-true 0 size on, few, refl))
    (λ none.
    let nothing : n ≡ 0 = omega (arith, exact, ltb-false 0 size none) in
    rw (off, none) (decided_body rec block h (sized 0) body (verdict_end 0 body) head (f.1 ∙ ap sized nothing) refl refl refl refl)))

-- the block of a whole head
pub alone_block : (bytes : List ℕ) (len : ℕ) → length bytes ≤ limit → first_block most_lines bytes ≡ whole (take len bytes) (drop len bytes) → head_block (take len bytes) ≡ found (take len bytes) []
alone_block bytes len short is =
    let block : List ℕ = take len bytes in
    let all : take limit block ≡ block = take_all limit block (omega (arith, short, length-take len bytes)) in
    ap (λ t. found_by limit block (first_block most_lines t)) all ∙ ap (found_by limit block) (block_alone most_lines bytes block (drop len bytes) is)
    ∙ ap (found block) (drop_all (length block) block (omega arith))

pub interim_by : (block : List ℕ) (h : ResponseHead) (info : HeadInfo) → IsInfoOf block h info → is_interim h ≡ (leb 100 info.status && ltb info.status 200)
interim_by block h info is = ap (λ n. leb 100 n && ltb n 200) (sym is.status)

pub interim_goes : (rec : ℕ) (block : List ℕ) (h : ResponseHead) (info : HeadInfo) → IsInfoOf block h info → head_block block ≡ found block [] → is_interim h ≡ true
    → GoesAfter rec block (record { len = info.len; kept = 0; state = Head; over = None })
interim_goes rec block h info is e interim = record {
  kept = omega arith;
  is_len = is.len;
  goes = inr (refl, record { head = h; whole = e; reads = is.head; interim = interim }, refl);
}

pub final_goes : (rec : ℕ) (block : List ℕ) (len : ℕ) (state : State) (over : Option Cause) → len ≡ length block → HeadGoes rec state block block over → GoesAfter rec block (record { len = len; kept = len; state = state; over = over })
final_goes rec block len state over e goes = record {
  kept = omega arith;
  is_len = e;
  goes = subst (λ k. HeadGoes rec state block k over) (sym (take_all len block (omega (arith, e)))) goes;
}

whole_further : (bytes : List ℕ) (info : HeadInfo) → length bytes ≤ limit → BeginsWithHead bytes info → (before added : List ℕ) → bytes ≡ before ++ added → head_block before ≡ missing → length before < info.len
whole_further bytes info short begins before added e open_head =
    let size : length (take info.len bytes) ≡ info.len = omega (arith, length-take info.len bytes, begins.within) in
    let few : length before ≤ limit = omega (arith, ap length e, length-append before added, short) in
    let left : first_block most_lines before ≡ unfinished = ap (first_block most_lines) (sym (take_all limit before few)) ∙ missing_unfinished before (first_block most_lines (take limit before)) open_head in
    omega (arith, size, block_longer most_lines before added (take info.len bytes) (drop info.len bytes) left (ap (first_block most_lines) (sym e) ∙ begins.block))

pub read_whole : (rec : ℕ) (bytes : List ℕ) (info : HeadInfo) (r : HeadStep) → length bytes ≤ limit → BeginsWithHead bytes info → GoesAfter rec (take info.len bytes) r → IsHeadRead rec bytes r
read_whole rec bytes info r short begins goes =
    let size : length (take info.len bytes) ≡ info.len = omega (arith, length-take info.len bytes, begins.within) in
    let len : r.len ≡ info.len = goes.is_len ∙ size in
    let kept : take r.kept (take info.len bytes) ≡ take r.kept bytes = take_within r.kept info.len bytes (omega (arith, goes.kept, len)) in
    record {
      within = omega (arith, len, begins.within);
      goes = subst (λ n. HeadGoes rec r.state (take n bytes) (take r.kept bytes) r.over) (sym len) (subst (λ k. HeadGoes rec r.state (take info.len bytes) k r.over) kept goes.goes);
      reach = λ before added e open_head. weaker (length before) r.len (exceeds (length before) info.len r.len len (whole_further bytes info short begins before added e open_head));
      longer = λ before added e l open_head. exceeds (length before) info.len r.len len (whole_further bytes info short begins before added e open_head);
      least = λ before later e l.
          let block : take info.len bytes ≡ before ++ later = ap (λ n. take n bytes) (sym len) ∙ e in
          missing_by before (below (length before) (length (take info.len bytes)) info.len (length bytes) (less before later (take info.len bytes) block l) size begins.within short)
          (whole_shorter most_lines bytes before later (take info.len bytes) (drop info.len bytes) begins.block block l);
    }
  where
    weaker : (a b : ℕ) → a < b → a ≤ b
    weaker a b l = omega (arith, l)

    exceeds : (a b c : ℕ) → c ≡ b → a < b → a < c
    exceeds a b c e l = omega (arith, e, l)

    below : (a b c d : ℕ) → a < b → b ≡ c → c ≤ d → d ≤ limit → a < limit
    below a b c d l e m n = omega (arith, l, e, m, n)

pub read_more : (rec : ℕ) (bytes : List ℕ) → length bytes ≤ limit → first_block most_lines bytes ≡ unfinished → IsHeadRead rec bytes (unfinished_step (length bytes))
read_more rec bytes short is = either (ltb (length bytes) limit)
    (λ on.
    let few : leb limit (length bytes) ≡ false = lt-leb limit (length bytes) (ltb-true (length bytes) limit on) in
    let open_head : head_block bytes ≡ missing = few_bytes bytes unfinished short is ∙ (rw few refl) in
    rw on (record {
      within = omega arith;
      goes = inl (refl, ap head_block (all_of bytes) ∙ open_head, refl);
      reach = λ before added e _. no_shorter bytes before added e;
      longer = λ before added e l _. no_longer bytes before added e l;
      least = λ before later e l. missing_before bytes before later (sym (all_of bytes) ∙ e) is short l;
    }))
    (λ off.
    let full : leb limit (length bytes) ≡ true = le-leb limit (length bytes) (ltb-false (length bytes) limit off) in
    let too_many_bytes : head_block bytes ≡ too_long = few_bytes bytes unfinished short is ∙ (rw full refl) in
    rw off (stopped rec bytes long (verdict_end 0 long) (no_block long (ap no_block_verdict too_many_bytes)) refl refl refl short is))

is_too_long : Found → Bool
is_too_long (found block rest) = false
is_too_long missing = false
is_too_long too_many = false
is_too_long too_long = true

too_long_missing : too_long ≡ missing → ⊥
unfolding is_too_long
too_long_missing e = false≢true (sym (ap is_too_long e))

-- what may still become a head is short
pub missing_short : (text : List ℕ) → head_block text ≡ missing → length text < limit
missing_short text is = either (leb limit (length text))
    (λ full.
    let k : first_block most_lines (take limit text) ≡ unfinished = missing_unfinished text (first_block most_lines (take limit text)) is in
    let too : head_block text ≡ too_long = ap (found_by limit text) k ∙ (rw full refl) in
    absurd (too_long_missing (sym too ∙ is)))
    (λ off. leb-false limit (length text) off)

pub goes_fit : (rec : ℕ) (state : State) (text kept : List ℕ) (over : Option Cause) (place : Place) → HeadGoes rec state text kept over → is_open place ≡ true → KeepsFit state kept place
goes_fit rec Head text kept over place goes unread =
    elim goes [
      | inl g ↦ (ap head_block g.0 ∙ g.1, missing_short kept (ap head_block g.0 ∙ g.1), unread)
      | inr g ↦ (ap head_block g.0, omega (arith, ap length g.0), unread)
    ]
goes_fit rec (Sized left) text kept over place goes unread = goes.4
goes_fit rec (Chunked room) text kept over place goes unread = unread
goes_fit rec (ToEnd room) text kept over place goes unread = tt
goes_fit rec (Over range) text kept over place goes unread = goes.fits

pub sized_fit : (left : ℕ) (head : List ℕ) (place : Place) → KeepsFit (sized_next left).state head place
sized_fit left head place = either (ltb 0 left) (λ on. rw on (ltb-true 0 left on)) (λ off. rw off tt)

pub open_fit : (room count : ℕ) (head : List ℕ) (place : Place) → KeepsFit (to_end_next room count).state head place
open_fit room count head place = either (ltb room count) (λ on. rw on tt) (λ off. rw off tt)

chunk_fit_by : (rec room : ℕ) (head : List ℕ) (place : Place) → KeepsFit (chunk_next_by rec room (chunk_state place)).state head place
chunk_fit_by rec room head place.Size = refl
chunk_fit_by rec room head (place.Bytes left) = refl
chunk_fit_by rec room head (place.End cr) = refl
chunk_fit_by rec room head (place.Trailer used) = refl
chunk_fit_by rec room head place.Whole = tt
chunk_fit_by rec room head place.Broken = tt
chunk_fit_by rec room head place.TooLong = tt

pub chunk_fit : (rec room count : ℕ) (head : List ℕ) (place : Place) → KeepsFit (chunk_next rec room count (chunk_state place)).state head place
chunk_fit rec room count head place = either (ltb room count) (λ on. rw on tt) (λ off. rw off (chunk_fit_by rec (room - count) head place))

pub end_fit : (state : State) (head : List ℕ) (place : Place) → KeepsFit state head place → KeepsFit (state_at_end state) head place
end_fit Head head place fits = tt
end_fit (Sized left) head place fits = tt
end_fit (Chunked room) head place fits = tt
end_fit (ToEnd room) head place fits = tt
end_fit (Over range) head place fits = fits
