-- Which segments carry a stream.
use Rattle.std.specs.Prelude.{◌≡◌, ℕ, ◌+◌, ◌%◌, ◌^◌, ◌⊎◌, true, false, List, [], ◌∷◌, ◌++◌, length, drop, Some}
use Rattle.std.specs.List.{AllByRecursion}
use Rattle.nb_streams.specs.Segments.{Incoming}
use Rattle.nb_streams.specs.Streams.{IsByteOf}
use Rattle.nb_streams.specs.Flows.{TcpCall, segment_came, time_came, text_came, Flow, ConnPhase, asking, flowing, is_taken, window_bytes, stop_of, after_tcp_call}

-- the bytes that count stand in the stream at their places, and a FIN that counts stands at its end
pub record CarriesIn (xs : List ℕ) (f : Flow) (s : Incoming) : Type 0 where
  pub bytes : AllByRecursion (IsByteOf xs) (window_bytes f s)
  pub stop : (place : ℕ) → stop_of f s ≡ Some place → place ≡ length xs

abbrev pub CarriesBy : List ℕ → ConnPhase → TcpCall → Type 0
CarriesBy xs (asking text) c = Unit {0}
CarriesBy xs (flowing f) (segment_came m now) = is_taken f m.segment ≡ true → CarriesIn xs f m.segment
CarriesBy xs (flowing f) (time_came now) = Unit {0}
CarriesBy xs (flowing f) (text_came bytes now) = Unit {0}

-- each segment that is taken does
abbrev pub Carry : List ℕ → ℕ → ConnPhase → List TcpCall → Type 0
Carry xs isn p [] = Unit {0}
Carry xs isn p (c ∷ cs) = CarriesBy xs p c × Carry xs isn (after_tcp_call isn p c) cs

-- A segment by itself: its bytes are some of the stream's, and its number is the one of the first of them. A FIN
-- stands after the last byte.
pub record IsPieceOf (xs : List ℕ) (theirs : ℕ) (s : Incoming) : Type 0 where
  pub place : ℕ
  pub rest : List ℕ
  pub number : s.number ≡ (theirs + place) % 2 ^ 32
  pub within : place + length s.body + length rest ≡ length xs
  pub bytes : drop place xs ≡ s.body ++ rest
  pub fin : s.fin ≡ true → rest ≡ []

-- A segment without bytes and FIN may have any number, as the one that acknowledges something after the peer's own FIN.
pub record BringsNothing (s : Incoming) : Type 0 where
  pub body : s.body ≡ []
  pub fin : s.fin ≡ false

abbrev pub SentBy : List ℕ → ConnPhase → TcpCall → Type 0
SentBy xs (asking text) c = Unit {0}
SentBy xs (flowing f) (segment_came m now) = is_taken f m.segment ≡ true → BringsNothing m.segment ⊎ IsPieceOf xs f.theirs m.segment
SentBy xs (flowing f) (time_came now) = Unit {0}
SentBy xs (flowing f) (text_came bytes now) = Unit {0}

-- Each segment that is taken is a piece of the stream, in any order and number.
abbrev pub AreFrom : List ℕ → ℕ → ConnPhase → List TcpCall → Type 0
AreFrom xs isn p [] = Unit {0}
AreFrom xs isn p (c ∷ cs) = SentBy xs p c × AreFrom xs isn (after_tcp_call isn p c) cs
