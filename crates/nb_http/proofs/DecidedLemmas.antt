-- The least bytes that decide a head, and what they come to.
use Rattle.std.proofs.Common.{◌≡◌, ◌≤◌, ◌<◌, ℕ, ◌-◌, List, [], ◌++◌, length, take, drop, Option, None, true, false, refl, ap, ◌∙◌, sym, subst, arith, leb, length-append}
use Rattle.std.proofs.lemmas.Bool.{lt-leb, leb-true, leb-false}
use Rattle.std.proofs.lemmas.List.{take_all, length-take, take-append-le, take-append-drop}
use Rattle.nb_terms.specs.declared.cause.Cause.{Cause}
use Rattle.nb_responses.specs.Lines.{LineBlock, whole, unfinished, crowded, first_block, Found, found, missing, too_many, too_long, found_by, head_block, limit, most_lines}
use Rattle.nb_responses.specs.Chunks.{Verdict, broken, many, response}
use Rattle.nb_responses.specs.Responses.{no_block_verdict, Final, no_block, no_head}
use Rattle.nb_responses.proofs.Cases.{either}
use Rattle.nb_responses.proofs.LineLaws.{take_front, missing_unfinished}
use Rattle.nb_responses.proofs.BlockLaws.{longer_found, found_more, unfinished_shorter}
use Rattle.nb_httpmsg.specs.HeadInfos.{BeginsWithoutHead}
use Rattle.nb_httpmsg.proofs.BlockLemmas.{take_within}
use Rattle.nb_httpmsg.proofs.FeedLemmas.{no_longer}
use Rattle.nb_httpmsg.proofs.LeastLemmas.{less}
use Rattle.nb_http.specs.declared.state.State.TheVariants.{Over}
use Rattle.nb_readings.specs.Ends.{verdict_end, is_decided, text_of}
use Rattle.nb_http.specs.HeadReading.{IsHeadRead, IsDecidedAt}

pub no_shorter : (line before added : List ℕ) → line ≡ before ++ added → length before ≤ length line
no_shorter line before added e = omega (arith, ap length e, length-append before added)

pub all_of : (bytes : List ℕ) → take (length bytes) bytes ≡ bytes
all_of bytes = take_all (length bytes) bytes (omega arith)

-- the block of a head among few bytes
pub few_bytes : (bytes : List ℕ) (k : LineBlock) → length bytes ≤ limit → first_block most_lines bytes ≡ k → head_block bytes ≡ found_by limit bytes k
few_bytes bytes k short is = ap (λ t. found_by limit bytes (first_block most_lines t)) (take_all limit bytes short) ∙ ap (found_by limit bytes) is

-- without an empty line among few bytes it may still come
pub missing_by : (bytes : List ℕ) → length bytes < limit → first_block most_lines bytes ≡ unfinished → head_block bytes ≡ missing
missing_by bytes short is =
    let few : leb limit (length bytes) ≡ false = lt-leb limit (length bytes) short in
    few_bytes bytes unfinished (omega (arith, short)) is ∙ (rw few refl)

pub missing_before : (bytes before later : List ℕ) → bytes ≡ before ++ later → first_block most_lines bytes ≡ unfinished → length bytes ≤ limit → 0 < length later → head_block before ≡ missing
missing_before bytes before later e unended short l =
    missing_by before (omega (arith, less before later bytes e l, short)) (unfinished_shorter most_lines before later (ap (first_block most_lines) (sym e) ∙ unended))

-- what may still come is shorter than what decides
decided_further : (bytes before added : List ℕ) (len : ℕ) → IsDecidedAt bytes len → bytes ≡ before ++ added → length bytes ≤ limit → head_block before ≡ missing → length before < len
decided_further bytes before added len at e short open_head = either (leb len (length before))
    (λ on.
    let few : length before ≤ limit = omega (arith, ap length e, length-append before added, short) in
    let left : first_block most_lines before ≡ unfinished = ap (first_block most_lines) (sym (take_all limit before few)) ∙ missing_unfinished before (first_block most_lines (take limit before)) open_head in
    let front : take len bytes ≡ take len before = ap (take len) e ∙ take-append-le len before added (leb-true len (length before) on) in
    absurd (at.decided (unfinished_shorter most_lines (take len bytes) (drop len before)
    (ap (λ t. first_block most_lines (t ++ drop len before)) front ∙ ap (first_block most_lines) (take-append-drop len before) ∙ left))))
    (λ off. leb-false len (length before) off)

pub stopped : (rec : ℕ) (bytes : List ℕ) (verdict : Verdict) (over : Option Cause) → Final bytes (response verdict []) → is_decided verdict ≡ true → text_of verdict ≡ None → over ≡ verdict_end rec verdict
    → length bytes ≤ limit → first_block most_lines bytes ≡ unfinished → IsHeadRead rec bytes (record { len = length bytes; kept = length bytes; state = Over None; over = over })
stopped rec bytes verdict over reads decided none is short unended = record {
  within = omega arith;
  goes = record { verdict = verdict; reads = subst (λ t. Final t (response verdict [])) (sym (all_of bytes)) reads; decided = decided; moves = sym none; ends = is; fits = tt };
  reach = λ before added e _. no_shorter bytes before added e;
  longer = λ before added e l _. no_longer bytes before added e l;
  least = λ before later e l. missing_before bytes before later (sym (all_of bytes) ∙ e) unended short l;
}

stopped_at : (rec : ℕ) (bytes : List ℕ) (len : ℕ) (verdict : Verdict) (over : Option Cause) → IsDecidedAt bytes len → Final (take len bytes) (response verdict []) → is_decided verdict ≡ true → text_of verdict ≡ None → over ≡ verdict_end rec verdict
    → length bytes ≤ limit → IsHeadRead rec bytes (record { len = len; kept = len; state = Over None; over = over })
stopped_at rec bytes len verdict over at reads decided none is short = record {
  within = at.within;
  goes = record { verdict = verdict; reads = reads; decided = decided; moves = sym none; ends = is; fits = tt };
  reach = λ before added e open_head. weaker (length before) len (decided_further bytes before added len at e short open_head);
  longer = λ before added e l open_head. decided_further bytes before added len at e short open_head;
  least = λ before later e l. missing_by before (few before later e l) (shorter before later e l);
}
  where
    weaker : (a b : ℕ) → a < b → a ≤ b
    weaker a b l = omega (arith, l)

    size : length (take len bytes) ≡ len
    size = omega (arith, at.within, length-take len bytes)

    few : (before later : List ℕ) → take len bytes ≡ before ++ later → 0 < length later → length before < limit
    few before later e l = omega (arith, size, less before later (take len bytes) e l, at.within, short)

    shorter : (before later : List ℕ) → take len bytes ≡ before ++ later → 0 < length later → first_block most_lines before ≡ unfinished
    shorter before later e l =
        let front : take (len - 1) bytes ≡ before ++ take (len - 1 - length before) later = sym (take_within (len - 1) len bytes (omega arith)) ∙ ap (take (len - 1)) e
        ∙ take_front (len - 1) before later (omega (arith, size, less before later (take len bytes) e l)) in
        unfinished_shorter most_lines before (take (len - 1 - length before) later) (ap (first_block most_lines) (sym front) ∙ at.before)

-- what is decided stays so among more bytes
many_stays : (f : Found) (later : List ℕ) → longer_found later f ≡ too_many → f ≡ too_many
unfolding longer_found
many_stays (found block rest) later is = cc
many_stays missing later is = cc
many_stays too_many later is = refl
many_stays too_long later is = cc

found_stays : (f : Found) (later block rest : List ℕ) → longer_found later f ≡ found block rest → (r : List ℕ) × (f ≡ found block r)
unfolding longer_found
found_stays (found b r) later block rest is = let same : b ≡ block = cc in (r, ap (λ k. found k r) same)
found_stays missing later block rest is = cc
found_stays too_many later block rest is = cc
found_stays too_long later block rest is = cc

-- the block of the least bytes that decide is that of all
decided_block : (bytes : List ℕ) (len : ℕ) → IsDecidedAt bytes len → length bytes ≤ limit → head_block bytes ≡ longer_found (drop len bytes) (head_block (take len bytes))
decided_block bytes len at short =
    let all : take len bytes ++ drop len bytes ≡ bytes = take-append-drop len bytes in
    let few : length (take len bytes) ≤ limit = omega (arith, short, length-take len bytes) in
    ap head_block (sym all)
    ∙ found_more most_lines limit (take len bytes) (drop len bytes) (head_block (take len bytes)) refl
    (λ no. at.decided (ap (first_block most_lines) (sym (take_all limit (take len bytes) few)) ∙ missing_unfinished (take len bytes) (first_block most_lines (take limit (take len bytes))) no))

pub read_many : (rec : ℕ) (bytes : List ℕ) (len : ℕ) → IsDecidedAt bytes len → length bytes ≤ limit → first_block most_lines bytes ≡ crowded → IsHeadRead rec bytes (record { len = len; kept = len; state = Over None; over = verdict_end 0 many })
read_many rec bytes len at short is =
    let many_too : head_block (take len bytes) ≡ too_many = many_stays (head_block (take len bytes)) (drop len bytes) (sym (decided_block bytes len at short) ∙ few_bytes bytes crowded short is) in
    stopped_at rec bytes len many (verdict_end 0 many) at (no_block many (ap no_block_verdict many_too)) refl refl refl short

pub read_broken : (rec : ℕ) (bytes : List ℕ) (len : ℕ) → IsDecidedAt bytes len → length bytes ≤ limit → BeginsWithoutHead bytes → IsHeadRead rec bytes (record { len = len; kept = len; state = Over None; over = verdict_end rec broken })
read_broken rec bytes len at short is =
    let block : List ℕ = take is.len bytes in
    let there : (r : List ℕ) × (head_block (take len bytes) ≡ found (take is.len bytes) r) = found_stays (head_block (take len bytes)) (drop len bytes) (take is.len bytes) (drop (length (take is.len bytes)) bytes)
    (sym (decided_block bytes len at short) ∙ few_bytes bytes (whole (take is.len bytes) (drop is.len bytes)) short is.block) in
    stopped_at rec bytes len broken (verdict_end rec broken) at (no_head (take is.len bytes) there.0 there.1 is.none) refl refl refl short
