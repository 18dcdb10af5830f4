-- Where a stream is cut changes nothing, and a core reads it as its response.
use Rattle.std.proofs.Common.{◌≡◌, ◌≢◌, ℕ, List, [], ◌++◌, Bool, Option, None, true, false, refl, ap, ◌∙◌, sym}
use Rattle.std.proofs.lemmas.Bool.{false≢true}
use Rattle.nb_terms.specs.declared.cause.Cause.{Cause}
use Rattle.nb_responses.specs.Chunks.{Verdict, more, open_body, body, moved, status, broken, large, long, many, Response, response}
use Rattle.nb_responses.specs.Responses.{verdict_at_end, before_end}
use Rattle.nb_responses.proofs.Cases.{either}
use Rattle.nb_readings.specs.Readings.{read_so_far, response_read}
use Rattle.nb_readings.specs.Ends.{verdict_end, is_decided, text_of}
use Rattle.nb_readings.proofs.EndLemmas.{undecided_ends_nothing}
use Rattle.nb_readings.proofs.ReadingLemmas.{reading_stays, reading_goes_on}
use Rattle.nb_http.specs.Standing.{Core, HasReadStream, EndsStream, is_over}
use Rattle.nb_http.specs.Runs.{Ran, started, took, EndedAlike, Alike, EndsAsRead}

-- what a verdict says before the stream's end
record SaysSo (v w : Verdict) : Type 0 where
  causes : (rec : ℕ) → verdict_end rec v ≡ verdict_end rec w
  decided : is_decided v ≡ is_decided w
  moves : text_of v ≡ text_of w

so_says : (v : Verdict) → SaysSo v (before_end v)
so_says more = record { causes = λ rec. refl; decided = refl; moves = refl }
so_says open_body = record { causes = λ rec. refl; decided = refl; moves = refl }
so_says body = record { causes = λ rec. refl; decided = refl; moves = refl }
so_says (moved text) = record { causes = λ rec. refl; decided = refl; moves = refl }
so_says (status code) = record { causes = λ rec. refl; decided = refl; moves = refl }
so_says broken = record { causes = λ rec. refl; decided = refl; moves = refl }
so_says large = record { causes = λ rec. refl; decided = refl; moves = refl }
so_says long = record { causes = λ rec. refl; decided = refl; moves = refl }
so_says many = record { causes = λ rec. refl; decided = refl; moves = refl }

-- a core that ran stands for what it took and gave
ran_stands : (rec : ℕ) (c : Core) (stream given : List ℕ) (over : Option Cause) → Ran rec c stream given over
    → HasReadStream c stream given × (over ≡ verdict_end rec (read_so_far stream).verdict)
ran_stands _ _ _ _ _ (started rec c s live) = (s, sym (undecided_ends_nothing rec (read_so_far []).verdict (sym s.decided ∙ live)))
ran_stands _ _ _ _ _ (took before rec old new stream given taken gave last over ran live takes) = takes stream given (ran_stands before old stream given last ran).0 live

pub same_bytes : (rec later : ℕ) (a b : Core) (stream given others : List ℕ) (over other : Option Cause) → Ran rec a stream given over → Ran later b stream others other → Alike rec later a b given others over other
same_bytes rec later a b stream given others over other x y =
    let s = ran_stands rec a stream given over x in
    let t = ran_stands later b stream others other y in
    record {
      bytes = sym s.0.bytes ∙ t.0.bytes;
      causes = ((read_so_far stream).verdict, s.1, t.1);
      ended = s.0.decided ∙ sym t.0.decided;
      moves = s.0.moves ∙ sym t.0.moves;
    }

pub same_end : (rec later first second : ℕ) (a b c d : Core) (stream given others : List ℕ) (over other last next : Option Cause)
    → Ran first a stream given over → Ran second b stream others other → EndsStream rec a c last → EndsStream later b d next → EndedAlike rec later last next
same_end rec later first second a b c d stream given others over other last next x y e f =
    let s = ran_stands first a stream given over x in
    let t = ran_stands second b stream others other y in
    let ended : is_over a.state ≡ is_over b.state = s.0.decided ∙ sym t.0.decided in
    either (is_over a.state)
    (λ on. (more, (e.silent on).0, (f.silent (sym ended ∙ on)).0))
    (λ off. ((response_read stream true).verdict, (e.live stream given s.0 off).1, (f.live stream others t.0 (sym ended ∙ off)).1))

pub gives_beginning : (rec : ℕ) (c : Core) (stream given : List ℕ) (over : Option Cause) → Ran rec c stream given over
    → (later : List ℕ) (ended : Bool) → (rest : List ℕ) × ((response_read (stream ++ later) ended).bytes ≡ given ++ rest)
gives_beginning rec c stream given over ran later ended =
    let s = ran_stands rec c stream given over ran in
    let longer = reading_goes_on stream later false ended in
    (longer.0, longer.1 ∙ ap (λ t. t ++ longer.0) s.0.bytes)

decided_before : (v : Verdict) → is_decided v ≡ true → before_end v ≢ more
decided_before more e is = false≢true e
decided_before open_body e is = false≢true e
decided_before body e is = cc
decided_before (moved text) e is = cc
decided_before (status code) e is = cc
decided_before broken e is = cc
decided_before large e is = cc
decided_before long e is = cc
decided_before many e is = cc

undecided_before : (v : Verdict) → is_decided v ≡ false → before_end v ≡ more
undecided_before more e = refl
undecided_before open_body e = refl
undecided_before body e = absurd (false≢true (sym e))
undecided_before (moved text) e = absurd (false≢true (sym e))
undecided_before (status code) e = absurd (false≢true (sym e))
undecided_before broken e = absurd (false≢true (sym e))
undecided_before large e = absurd (false≢true (sym e))
undecided_before long e = absurd (false≢true (sym e))
undecided_before many e = absurd (false≢true (sym e))

pub ends_as_response : (rec : ℕ) (c : Core) (stream given : List ℕ) (over : Option Cause) → Ran rec c stream given over → is_over c.state ≡ true
    → (later : List ℕ) (ended : Bool) → EndsAsRead rec c given over (response_read (stream ++ later) ended)
ends_as_response rec c stream given over ran on later ended =
    let s = ran_stands rec c stream given over ran in
    let decided : is_decided (read_so_far stream).verdict ≡ true = sym s.0.decided ∙ on in
    let same : response_read (stream ++ later) ended ≡ response_read stream false = reading_stays stream later ended (decided_before (read_so_far stream).verdict decided) in
    let says : SaysSo (read_so_far stream).verdict (before_end (read_so_far stream).verdict) = so_says (read_so_far stream).verdict in
    record {
      all = ap (λ (k : Response). k.bytes) same ∙ s.0.bytes;
      decided = ap (λ (k : Response). is_decided k.verdict) same ∙ sym says.decided ∙ decided;
      cause = s.1 ∙ says.causes rec ∙ ap (λ (k : Response). verdict_end rec k.verdict) (sym same);
      moves = s.0.moves ∙ says.moves ∙ ap (λ (k : Response). text_of k.verdict) (sym same);
    }

pub goes_on_undecided : (rec : ℕ) (c : Core) (stream given : List ℕ) (over : Option Cause) → Ran rec c stream given over → is_over c.state ≡ false
    → (response_read stream false ≡ response more given) × (over ≡ None)
goes_on_undecided rec c stream given over ran off =
    let s = ran_stands rec c stream given over ran in
    let undecided : is_decided (read_so_far stream).verdict ≡ false = sym s.0.decided ∙ off in (
      ap (λ v. response v (read_so_far stream).bytes) (undecided_before (read_so_far stream).verdict undecided) ∙ ap (response more) s.0.bytes,
      s.1 ∙ undecided_ends_nothing rec (read_so_far stream).verdict undecided,
    )

-- at the stream's end no move comes to be
no_move_at_end : (v : Verdict) → is_decided v ≡ false → None ≡ text_of (verdict_at_end v)
no_move_at_end more e = refl
no_move_at_end open_body e = refl
no_move_at_end body e = absurd (false≢true (sym e))
no_move_at_end (moved text) e = absurd (false≢true (sym e))
no_move_at_end (status code) e = absurd (false≢true (sym e))
no_move_at_end broken e = absurd (false≢true (sym e))
no_move_at_end large e = absurd (false≢true (sym e))
no_move_at_end long e = absurd (false≢true (sym e))
no_move_at_end many e = absurd (false≢true (sym e))

pub finishes_as_response : (rec later : ℕ) (c new : Core) (stream given : List ℕ) (over last : Option Cause) → Ran rec c stream given over → is_over c.state ≡ false
    → EndsStream later c new last → EndsAsRead later new given last (response_read stream true)
finishes_as_response rec later c new stream given over last ran off ends =
    let s = ran_stands rec c stream given over ran in
    let live = ends.live stream given s.0 off in
    record {
      all = live.0;
      decided = live.2;
      cause = live.1;
      moves = ends.unmoved off ∙ no_move_at_end (read_so_far stream).verdict (sym s.0.decided ∙ off);
    }
