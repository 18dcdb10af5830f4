-- RFC 9112: what holds of the reading of every stream, and of every stream that is longer
use Rattle.std.specs.Prelude.{◌≡◌, ◌≢◌, ℕ, Bool, false, List, ◌++◌}
use Rattle.nb_responses.specs.Chunks.{Response, more}
use Rattle.nb_responses.specs.Responses.{ResponseOf}

-- a stream is read as one response
abbrev pub IsReadOnce : Type 0
IsReadOnce = (stream : List ℕ) (ended : Bool) (a b : Response) → ResponseOf stream ended a
    → ResponseOf stream ended b → a ≡ b

-- each stream is read as one
abbrev pub EachIsRead : Type 0
EachIsRead = (stream : List ℕ) (ended : Bool) → (r : Response) × ResponseOf stream ended r

-- a response that is decided before the stream's end stays, whatever follows
abbrev pub DecidedStays : Type 0
DecidedStays = (stream later : List ℕ) (ended : Bool) (r : Response) → ResponseOf stream false r
    → r.verdict ≢ more → ResponseOf (stream ++ later) ended r

-- the body of a longer stream begins with that of the shorter one
abbrev pub BodyGoesOn : Type 0
BodyGoesOn = (stream later : List ℕ) (first ended : Bool) (a b : Response) → ResponseOf stream first a
    → ResponseOf (stream ++ later) ended b
    → (rest : List ℕ) × (b.bytes ≡ a.bytes ++ rest)
