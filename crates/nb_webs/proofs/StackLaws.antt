-- Three cores on one another keep their promise.
use Rattle.std.proofs.Common.{◌≡◌, ℕ, Bool, true, false, List, ◌++◌, refl, ap, ◌∙◌, sym, subst}
use Rattle.std.specs.Prelude.{Option, None}
use Rattle.std.proofs.lemmas.Bool.{false≢true}
use Rattle.nb_terms.specs.declared.cause.Cause.{Cause}
use Rattle.nb_streams.specs.Streams.{IsPrefixOf}
use Rattle.nb_responses.specs.Chunks.{more, Response, response}
use Rattle.nb_readings.specs.Readings.{response_read}
use Rattle.nb_http.specs.Standing.{Core, is_over}
use Rattle.nb_http.specs.Runs.{EndsAsRead}
use Rattle.nb_http.proofs.RunLaws.{ends_as_response, goes_on_undecided}
use Rattle.nb_webs.specs.Stacks.{Stacked, Promised}

prefix_of_same : (a b c : List ℕ) → IsPrefixOf a b → b ≡ c → IsPrefixOf a c
prefix_of_same a b c (rest, is) e = (rest, sym e ∙ is)

-- the reader has ended
by_end : (front : List ℕ) (ended : Bool) (rec : ℕ) (c : Core) (body : List ℕ) (over : Option Cause) (gathers : Bool)
    → Stacked front rec c body over gathers → is_over c.state ≡ true → Promised front ended rec c body over gathers
by_end front ended rec c body over gathers s is =
    let read : EndsAsRead rec c s.given over (response_read front ended) =
    subst (λ x. EndsAsRead rec c s.given over (response_read x ended)) (sym s.below.1) (ends_as_response rec c s.taken s.given over s.runs is s.below.0 ended) in
    record {
      ends = λ _. read.cause;
      decided = λ _. read.decided;
      moves = λ _. read.moves;
      goes_on = λ off. absurd (false≢true (sym off ∙ is));
      prefix = prefix_of_same body s.given (response_read front ended).bytes s.above (sym read.all);
      gathered = λ _ going. s.all_above going ∙ sym read.all;
    }

-- it goes on
by_going : (front : List ℕ) (rec : ℕ) (c : Core) (body : List ℕ) (over : Option Cause) (gathers : Bool)
    → Stacked front rec c body over gathers → is_over c.state ≡ false → Promised front false rec c body over gathers
by_going front rec c body over gathers s is =
    let read = goes_on_undecided rec c s.taken s.given over s.runs is in
    let here : response_read front false ≡ response more s.given = ap (λ x. response_read x false) (sym (s.all_below is)) ∙ read.0 in
    record {
      ends = λ on. absurd (false≢true (sym is ∙ on));
      decided = λ on. absurd (false≢true (sym is ∙ on));
      moves = λ on. absurd (false≢true (sym is ∙ on));
      goes_on = λ _. (ap (λ (r : Response). r.verdict) here, read.1);
      prefix = prefix_of_same body s.given (response_read front false).bytes s.above (sym (ap (λ (r : Response). r.bytes) here));
      gathered = λ on. absurd (false≢true (sym is ∙ on));
    }

by_either : (front : List ℕ) (ended : Bool) (rec : ℕ) (c : Core) (body : List ℕ) (over : Option Cause) (gathers going : Bool) → is_over c.state ≡ going
    → Stacked front rec c body over gathers → (is_over c.state ≡ false → ended ≡ false) → Promised front ended rec c body over gathers
by_either front ended rec c body over gathers true is s still = by_end front ended rec c body over gathers s is
by_either front ended rec c body over gathers false is s still =
    subst (λ e. Promised front e rec c body over gathers) (sym (still is)) (by_going front rec c body over gathers s is)

pub promised : (front : List ℕ) (ended : Bool) (rec : ℕ) (c : Core) (body : List ℕ) (over : Option Cause) (gathers : Bool)
    → Stacked front rec c body over gathers → (is_over c.state ≡ false → ended ≡ false) → Promised front ended rec c body over gathers
promised front ended rec c body over gathers s still = by_either front ended rec c body over gathers (is_over c.state) refl s still
