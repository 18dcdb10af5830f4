-- A live core reads the stream so far, and its steps keep what it stands for.
use Rattle.std.proofs.Common.{◌≡◌, ◌≤◌, ℕ, ◌+◌, ◌-◌, List, [], ◌∷◌, ◌++◌, length, take, Option, None, true, false, refl, ap, ◌∙◌, sym, subst, arith, ltb, append-nil, append_assoc, slice_range}
use Rattle.std.specs.List.{AllByRecursion, concat}
use Rattle.std.specs.Option.{option_map}
use Rattle.std.proofs.lemmas.Bool.{lt-ltb, le-ltb, ltb-false, false≢true}
use Rattle.std.proofs.lemmas.List.{take_all}
use Rattle.httparse.specs.Grammar.{ResponseHead}
use Rattle.nb_terms.specs.declared.cause.Cause.{Cause}
use Rattle.nb_responses.specs.Lines.{head_block}
use Rattle.nb_responses.specs.Heads.{Framing, framing, sized, chunked, to_end}
use Rattle.nb_responses.specs.Chunks.{Verdict, more, open_body, body, broken, Response, response}
use Rattle.nb_responses.specs.Responses.{most_bytes, within_limit, sized_response, ReadsBody, Final, no_block, by_body, no_block_verdict, IsInterim, by_end, before_end}
use Rattle.nb_readings.specs.Readings.{read_so_far, response_read}
use Rattle.nb_readings.proofs.ReadingLemmas.{chunked_body, reading_only}
use Rattle.nb_responses.proofs.LineLaws.{head_block_more}
use Rattle.nb_httpmsg.specs.declared.place.Place.{Place}
use Rattle.nb_httpmsg.specs.declared.place.Place.TheVariants as place
use Rattle.nb_httpmsg.specs.Feeding.{StandsForBody, verdict_of, is_open}
use Rattle.nb_http.specs.declared.state.State.{State}
use Rattle.nb_http.specs.declared.state.State.TheVariants.{Head, Sized, Chunked, ToEnd, Over}
use Rattle.nb_readings.specs.Ends.{verdict_end, is_decided, text_of}
use Rattle.nb_http.specs.Standing.{Core, is_over, range_of, moved_text, IsBodyHead, AtHead, AtSized, AtChunked, AtToEnd, LiveAt, IsReading, HasReadStream, TakesBytes, GoesOnOrEnds, goes_on, skips, ends, StepsBy, EndsStream, end_at, state_at_end}
use Rattle.nb_http.specs.Giving.{range_given, range_to}
use Rattle.nb_responses.proofs.Cases.{either}

-- the reading of a body after its head
pub body_reads : (head rest text : List ℕ) (h : ResponseHead) (f : Framing) (r : Response) → IsBodyHead head h → rest ≡ head ++ text → framing h ≡ f → ReadsBody text f r → Final rest r
body_reads head rest text h f r is e frames reads =
    by_body head text h r (ap head_block e ∙ head_block_more head text is.block) is.is is.final is.next (subst (λ k. ReadsBody text k r) (sym frames) reads)

pub unlimited : (v : Verdict) (given : List ℕ) → length given ≤ most_bytes → response v given ≡ within_limit (response v given)
unlimited v given l = let few : ltb most_bytes (length given) ≡ false = le-ltb most_bytes (length given) l in rw few refl

open_is_more : (p : Place) → is_open p ≡ true → verdict_of p ≡ more
open_is_more place.Size o = refl
open_is_more (place.Bytes left) o = refl
open_is_more (place.End cr) o = refl
open_is_more (place.Trailer used) o = refl
open_is_more place.Whole o = absurd (false≢true o)
open_is_more place.Broken o = absurd (false≢true o)
open_is_more place.TooLong o = absurd (false≢true o)

-- a reading that isn't decided
pub record Undecided (rest given : List ℕ) : Type 0 where
  pub verdict : Verdict
  pub reads : Final rest (response verdict given)
  pub decided : is_decided verdict ≡ false
  pub moves : text_of verdict ≡ None
  pub quiet : (rec : ℕ) → verdict_end rec verdict ≡ None
  pub goes_on : before_end verdict ≡ more

pub with_more : (rest given : List ℕ) → Final rest (response more given) → Undecided rest given
with_more rest given reads = record { verdict = more; reads = reads; decided = refl; moves = refl; quiet = λ rec. refl; goes_on = refl }

pub head_reads : (c : Core) (rest given : List ℕ) → AtHead c rest given → Final rest (response more given)
head_reads c rest given at =
    let here : Final c.head (response more []) = no_block more (ap no_block_verdict at.block) in
    subst (λ g. Final rest (response more g)) (sym at.none_given) (subst (λ t. Final t (response more [])) (sym at.is_rest) here)

pub sized_reads : (left : ℕ) (c : Core) (rest given : List ℕ) → AtSized left c rest given → Final rest (response more given)
sized_reads left c rest given at =
    let size : ℕ = length given + left in
    let small : ltb most_bytes (length given + left) ≡ false = le-ltb most_bytes (length given + left) at.small in
    let short : ltb (length given) (length given + left) ≡ true = lt-ltb (length given) (length given + left) (omega (arith, at.some)) in
    let is : response more given ≡ sized_response (length given + left) given = rw (small, short) (ap (response more) (sym (take_all (length given + left) given (omega arith)))) in
    body_reads c.head rest given at.h (sized (length given + left)) (response more given) at.head at.is_rest at.frames is

chunked_reads : (room : ℕ) (c : Core) (rest given : List ℕ) → AtChunked room c rest given → Final rest (response more given)
chunked_reads room c rest given at =
    body_reads c.head rest at.body at.h chunked (response more given) at.head at.is_rest at.frames
    (chunked_body at.body (response more given) (response more given) (at.stands.reads ∙ ap (λ v. response v given) (open_is_more c.chunks.place at.unread)) (unlimited more given (omega (arith, at.fits))))

pub to_end_reads : (room : ℕ) (c : Core) (rest given : List ℕ) → AtToEnd room c rest given → Final rest (response open_body given)
to_end_reads room c rest given at =
    body_reads c.head rest given at.h to_end (response open_body given) at.head at.is_rest at.frames (unlimited open_body given (omega (arith, at.fits)))

pub undecided : (state : State) (c : Core) (rest given : List ℕ) → LiveAt state c rest given → Undecided rest given
undecided Head c rest given at = with_more rest given (head_reads c rest given at)
undecided (Sized left) c rest given at = with_more rest given (sized_reads left c rest given at)
undecided (Chunked room) c rest given at = with_more rest given (chunked_reads room c rest given at)
undecided (ToEnd room) c rest given at = record { verdict = open_body; reads = to_end_reads room c rest given at; decided = refl; moves = refl; quiet = λ rec. refl; goes_on = refl }
undecided (Over range) c rest given at = absurd at

pub not_over : (state : State) (c : Core) (rest given : List ℕ) → LiveAt state c rest given → (is_over state ≡ false) × (range_of state ≡ None)
not_over Head c rest given at = (refl, refl)
not_over (Sized left) c rest given at = (refl, refl)
not_over (Chunked room) c rest given at = (refl, refl)
not_over (ToEnd room) c rest given at = (refl, refl)
not_over (Over range) c rest given at = absurd at

-- what follows the interim heads is what a stream is read as
pub read_by : (skipped : List (List ℕ)) (rest stream : List ℕ) (r : Response) → AllByRecursion IsInterim skipped → stream ≡ concat skipped ++ rest → Final rest r → read_so_far stream ≡ r
read_by skipped rest stream r all e reads = sym (reading_only stream r (record { skipped = skipped; rest = rest; all = all; stands = e; ends = reads }))

stands_live : (rec : ℕ) (c : Core) (skipped : List (List ℕ)) (rest stream given : List ℕ) (over : Option Cause) → AllByRecursion IsInterim skipped → stream ≡ concat skipped ++ rest
    → LiveAt c.state c rest given → over ≡ None → HasReadStream c stream given × (over ≡ verdict_end rec (read_so_far stream).verdict)
stands_live rec c skipped rest stream given over all e at none =
    let u : Undecided rest given = undecided c.state c rest given at in
    let n : (is_over c.state ≡ false) × (range_of c.state ≡ None) = not_over c.state c rest given at in
    let is : read_so_far stream ≡ response u.verdict given = read_by skipped rest stream (response u.verdict given) all e u.reads in (
      record {
        bytes = ap (λ (k : Response). k.bytes) is;
        decided = n.0 ∙ sym u.decided ∙ ap (λ (k : Response). is_decided k.verdict) (sym is);
        moves = ap (option_map (λ r. slice_range c.head r.0 r.1)) n.1 ∙ sym u.moves ∙ ap (λ (k : Response). text_of k.verdict) (sym is);
        live = λ _. record { skipped = skipped; rest = rest; all = all; is_stream = e; at = at };
      },
      none ∙ sym (u.quiet rec) ∙ ap (λ (k : Response). verdict_end rec k.verdict) (sym is),
    )

all_one_more : (xs : List (List ℕ)) (x : List ℕ) → AllByRecursion IsInterim xs → IsInterim x → AllByRecursion IsInterim (xs ++ x ∷ [])
all_one_more [] x all is = (is, tt)
all_one_more (y ∷ ys) x all is = (all.0, all_one_more ys x all.1 is)

concat_one_more : (xs : List (List ℕ)) (x : List ℕ) → concat (xs ++ x ∷ []) ≡ concat xs ++ x
concat_one_more [] x = append-nil x
concat_one_more (y ∷ ys) x = ap (λ t. y ++ t) (concat_one_more ys x) ∙ sym (append_assoc y (concat ys) x)

outcome_stands : (rec : ℕ) (c : Core) (skipped : List (List ℕ)) (rest stream given : List ℕ) (over : Option Cause) → AllByRecursion IsInterim skipped → stream ≡ concat skipped ++ rest
    → GoesOnOrEnds rec c rest given over → HasReadStream c stream given × (over ≡ verdict_end rec (read_so_far stream).verdict)
outcome_stands rec c skipped rest stream given over all e (goes_on at none) = stands_live rec c skipped rest stream given over all e at none
outcome_stands rec c skipped rest stream given over all e (skips interim at none) =
    stands_live rec c (skipped ++ rest ∷ []) [] stream given over (all_one_more skipped rest all interim)
    (e ∙ sym (concat_one_more skipped rest) ∙ sym (append-nil (concat (skipped ++ rest ∷ [])))) at none
outcome_stands rec c skipped rest stream given over all e (ends verdict reads decided ended moves is) =
    let same : response verdict given ≡ read_so_far stream = sym (read_by skipped rest stream (response verdict given) all e reads) in (
      record {
        bytes = ap (λ (k : Response). k.bytes) (sym same);
        decided = ended ∙ sym decided ∙ ap (λ (k : Response). is_decided k.verdict) same;
        moves = moves ∙ ap (λ (k : Response). text_of k.verdict) same;
        live = λ live. absurd (false≢true (sym live ∙ ended));
      },
      is ∙ ap (λ (k : Response). verdict_end rec k.verdict) same,
    )

-- steps of a live core are what a call takes
pub takes : (rec : ℕ) (old new : Core) (taken gave : List ℕ) (over : Option Cause) → StepsBy rec old new taken gave over → TakesBytes rec old new taken gave over
takes rec old new taken gave over step = λ stream given s live.
    let l : IsReading old stream given = s.live live in
    outcome_stands rec new l.skipped (l.rest ++ taken) (stream ++ taken) (given ++ gave) over l.all
    (ap (λ t. t ++ taken) l.is_stream ∙ append_assoc (concat l.skipped) l.rest taken) (step l.rest given l.at)

-- a core that has taken nothing
pub at_start : (c : Core) → c.head ≡ [] → c.state ≡ Head → StandsForBody c.chunks.place c.chunks.line [] [] → is_open c.chunks.place ≡ true → HasReadStream c [] []
at_start c empty at fresh unread =
    (stands_live 0 c [] [] [] [] None tt refl (subst (λ s. LiveAt s c [] []) (sym at) (record { is_rest = sym empty; none_given = refl; block = ap head_block empty; fresh = fresh; unread = unread })) refl).0

ended_by : (rec : ℕ) (c : Core) (stream given : List ℕ) (before after : Verdict) (over : Option Cause) → (l : IsReading c stream given) → Final l.rest (response before given) → by_end true (response before given) ≡ response after given
    → over ≡ verdict_end rec after → is_decided after ≡ true
    → ((response_read stream true).bytes ≡ given) × (over ≡ verdict_end rec (response_read stream true).verdict) × (is_decided (response_read stream true).verdict ≡ true)
ended_by rec c stream given before after over l reads decides is decided =
    let same : response_read stream true ≡ response after given = ap (by_end true) (read_by l.skipped l.rest stream (response before given) l.all l.is_stream reads) ∙ decides in (
      ap (λ (k : Response). k.bytes) same,
      is ∙ ap (λ (k : Response). verdict_end rec k.verdict) (sym same),
      ap (λ (k : Response). is_decided k.verdict) same ∙ decided,
    )

abbrev pub with_state : Core → State → Core
with_state c state = record { head = c.head; chunks = c.chunks; state = state }

-- the stream's end ends a core, by its state
pub finishes : (rec : ℕ) (state : State) (old new : Core) (over : Option Cause) → old.state ≡ state → new ≡ with_state old (state_at_end state) → over ≡ end_at rec state → EndsStream rec old new over
finishes rec Head old new over at after is = record {
  live = λ stream given s live. let l = s.live live in ended_by rec old stream given more broken over l (head_reads old l.rest given (subst (λ x. LiveAt x old l.rest given) at l.at)) refl is refl;
  silent = λ e. absurd (false≢true (sym (ap is_over at) ∙ e));
  unmoved = λ _. ap (λ (k : Core). moved_text k.head k.state) after;
  ended = ap (λ (k : Core). is_over k.state) after;
}
finishes rec (Sized left) old new over at after is = record {
  live = λ stream given s live. let l = s.live live in ended_by rec old stream given more broken over l (sized_reads left old l.rest given (subst (λ x. LiveAt x old l.rest given) at l.at)) refl is refl;
  silent = λ e. absurd (false≢true (sym (ap is_over at) ∙ e));
  unmoved = λ _. ap (λ (k : Core). moved_text k.head k.state) after;
  ended = ap (λ (k : Core). is_over k.state) after;
}
finishes rec (Chunked room) old new over at after is = record {
  live = λ stream given s live. let l = s.live live in ended_by rec old stream given more broken over l (chunked_reads room old l.rest given (subst (λ x. LiveAt x old l.rest given) at l.at)) refl is refl;
  silent = λ e. absurd (false≢true (sym (ap is_over at) ∙ e));
  unmoved = λ _. ap (λ (k : Core). moved_text k.head k.state) after;
  ended = ap (λ (k : Core). is_over k.state) after;
}
finishes rec (ToEnd room) old new over at after is = record {
  live = λ stream given s live. let l = s.live live in ended_by rec old stream given open_body body over l (to_end_reads room old l.rest given (subst (λ x. LiveAt x old l.rest given) at l.at)) refl is refl;
  silent = λ e. absurd (false≢true (sym (ap is_over at) ∙ e));
  unmoved = λ _. ap (λ (k : Core). moved_text k.head k.state) after;
  ended = ap (λ (k : Core). is_over k.state) after;
}
finishes rec (Over range) old new over at after is = record {
  live = λ stream given s live. absurd (false≢true (sym live ∙ ap is_over at));
  silent = λ _. (is, after ∙ ap (with_state old) (sym at));
  unmoved = λ live. absurd (false≢true (sym live ∙ ap is_over at));
  ended = ap (λ (k : Core). is_over k.state) after;
}

-- what goes up by a range from the first byte
pub range_bytes : (bytes : List ℕ) (given : ℕ) → range_given bytes (range_to given) ≡ take given bytes
range_bytes bytes given = either (ltb 0 given)
    (λ on. let e : given - 0 ≡ given = omega arith in rw on (ap (λ n. take n bytes) e))
    (λ off. let none : given ≡ 0 = omega (arith, ltb-false 0 given off) in rw off (ap (λ n. take n bytes) (sym none)))
