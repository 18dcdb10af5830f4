-- Three cores that stand on one another: a connection, a reader of its response, and what gathers the body. What the links between
-- them say gives what the three promise together.
use Rattle.std.specs.Prelude.{◌≡◌, ℕ, Bool, true, false, List, Option, None}
use Rattle.nb_terms.specs.declared.cause.Cause.{Cause}
use Rattle.nb_streams.specs.Streams.{IsPrefixOf}
use Rattle.nb_responses.specs.Chunks.{more}
use Rattle.nb_readings.specs.Readings.{response_read}
use Rattle.nb_readings.specs.Ends.{verdict_end, is_decided, text_of}
use Rattle.nb_http.specs.Standing.{Core, is_over, moved_text}
use Rattle.nb_http.specs.Runs.{Ran}

-- Of a connection whose stream has come so far: a reader took a prefix of it, and all of it as long as it goes on; what gathers took
-- a prefix of what the reader gave, and all of it as long as it isn't closed from above.
pub record Stacked (front : List ℕ) (rec : ℕ) (c : Core) (body : List ℕ) (over : Option Cause) (gathers : Bool) : Type 0 where
  pub taken : List ℕ
  pub given : List ℕ
  pub runs : Ran rec c taken given over
  pub below : IsPrefixOf taken front
  pub all_below : is_over c.state ≡ false → taken ≡ front
  pub above : IsPrefixOf body given
  pub all_above : gathers ≡ true → body ≡ given

-- What the three promise, by the stream alone: while the response isn't decided nothing has ended; once it is, the end is its
-- verdict's, and what was gathered is its body.
pub record Promised (front : List ℕ) (ended : Bool) (rec : ℕ) (c : Core) (body : List ℕ) (over : Option Cause)
    (gathers : Bool) : Type 0 where
  pub ends : is_over c.state ≡ true → over ≡ verdict_end rec (response_read front ended).verdict
  pub decided : is_over c.state ≡ true → is_decided (response_read front ended).verdict ≡ true
  pub moves : is_over c.state ≡ true → moved_text c.head c.state ≡ text_of (response_read front ended).verdict
  pub goes_on : is_over c.state ≡ false → ((response_read front ended).verdict ≡ more) × (over ≡ None)
  pub prefix : IsPrefixOf body (response_read front ended).bytes
  pub gathered : is_over c.state ≡ true → gathers ≡ true → body ≡ (response_read front ended).bytes

-- as long as the stream hasn't ended under a reader that goes on
abbrev pub StacksKeepTheirPromise : Type 0
StacksKeepTheirPromise = (front : List ℕ) (ended : Bool) (rec : ℕ) (c : Core) (body : List ℕ) (over : Option Cause) (gathers : Bool)
    → Stacked front rec c body over gathers → (is_over c.state ≡ false → ended ≡ false)
    → Promised front ended rec c body over gathers
