-- A core over a stream that comes in pieces
use Rattle.std.specs.Prelude.{◌≡◌, ℕ, Bool, true, false, List, [], ◌++◌, Option, None}
use Rattle.nb_terms.specs.declared.cause.Cause.{Cause}
use Rattle.nb_responses.specs.Chunks.{Verdict, more, Response, response}
use Rattle.nb_readings.specs.Readings.{response_read}
use Rattle.nb_readings.specs.Ends.{verdict_end, is_decided, text_of}
use Rattle.nb_http.specs.Standing.{Core, HasReadStream, TakesBytes, EndsStream, is_over, moved_text}

-- A core that was started and took a stream, in whatever pieces, has given these bytes of the body, and
-- its last call, which record rec brought, ended so.
pub data Ran : ℕ → Core → List ℕ → List ℕ → Option Cause → Type 0 where
  started : (rec : ℕ) (c : Core) → HasReadStream c [] [] → is_over c.state ≡ false → Ran rec c [] [] None
  took : (before rec : ℕ) (old new : Core) (stream given taken gave : List ℕ)
      (last over : Option Cause) → Ran before old stream given last
      → is_over old.state ≡ false → TakesBytes rec old new taken gave over
      → Ran rec new (stream ++ taken) (given ++ gave) over

-- two calls, which these records brought, have ended alike: by one verdict
abbrev pub EndedAlike : ℕ → ℕ → Option Cause → Option Cause → Type 0
EndedAlike rec later over other = (verdict : Verdict) × (over ≡ verdict_end rec verdict)
    × (other ≡ verdict_end later verdict)

-- two cores that have given the same bytes and have ended alike
pub record Alike (rec later : ℕ) (a b : Core) (given others : List ℕ)
    (over other : Option Cause) : Type 0 where
  pub bytes : given ≡ others
  pub causes : EndedAlike rec later over other
  pub ended : is_over a.state ≡ is_over b.state
  pub moves : moved_text a.head a.state ≡ moved_text b.head b.state

-- where a stream is cut changes nothing
abbrev pub CuttingChangesNothing : Type 0
CuttingChangesNothing = (rec later : ℕ) (a b : Core) (stream given others : List ℕ)
    (over other : Option Cause)
    → Ran rec a stream given over → Ran later b stream others other
    → Alike rec later a b given others over other

-- nor does it change how the stream's end ends them
abbrev pub CuttingChangesNoEnd : Type 0
CuttingChangesNoEnd = (rec later first second : ℕ) (a b c d : Core) (stream given others : List ℕ)
    (over other last next : Option Cause)
    → Ran first a stream given over → Ran second b stream others other → EndsStream rec a c last
    → EndsStream later b d next → EndedAlike rec later last next

-- What a core has given is the beginning of the body, whatever the stream comes to be.
abbrev pub GivesTheBeginning : Type 0
GivesTheBeginning = (rec : ℕ) (c : Core) (stream given : List ℕ) (over : Option Cause)
    → Ran rec c stream given over
    → (later : List ℕ) (ended : Bool) → (rest : List ℕ) × ((response_read (stream ++ later) ended).bytes ≡ given ++ rest)

-- it has given all of the body, and its end is the response's
pub record EndsAsRead (rec : ℕ) (c : Core) (given : List ℕ) (over : Option Cause)
    (r : Response) : Type 0 where
  pub all : r.bytes ≡ given
  pub decided : is_decided r.verdict ≡ true
  pub cause : over ≡ verdict_end rec r.verdict
  pub moves : moved_text c.head c.state ≡ text_of r.verdict

-- A core that has ended did so as the response does, whatever follows.
abbrev pub EndsAsTheResponse : Type 0
EndsAsTheResponse = (rec : ℕ) (c : Core) (stream given : List ℕ) (over : Option Cause)
    → Ran rec c stream given over → is_over c.state ≡ true
    → (later : List ℕ) (ended : Bool) → EndsAsRead rec c given over (response_read (stream ++ later) ended)

-- A core goes on as long as the stream isn't decided.
abbrev pub GoesOnTillDecided : Type 0
GoesOnTillDecided = (rec : ℕ) (c : Core) (stream given : List ℕ) (over : Option Cause)
    → Ran rec c stream given over → is_over c.state ≡ false
    → (response_read stream false ≡ response more given) × (over ≡ None)

-- The stream's end ends such a core as it ends the response.
abbrev pub FinishesAsTheResponse : Type 0
FinishesAsTheResponse = (rec later : ℕ) (c new : Core) (stream given : List ℕ)
    (over last : Option Cause) → Ran rec c stream given over → is_over c.state ≡ false
    → EndsStream later c new last → EndsAsRead later new given last (response_read stream true)
