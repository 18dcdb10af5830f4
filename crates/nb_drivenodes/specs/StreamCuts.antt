-- What a part of a stream comes to, by the PDUs that the stream is cut into (RFC 7143, section 11.1)
use Rattle.std.specs.Prelude.{◌≡◌, ◌≤◌, ℕ, Bool, true, false, List, [], ◌∷◌, ◌++◌, length, take, if◌then◌else◌}
use Rattle.nb_iscsipdu.specs.PduTexts.{PduParts}
use Rattle.nb_iscsipdu.specs.Streams.{Cut, cut, is_refused, is_whole_pdu, pdu_of, StandsForStream, StaysOpen}

-- no PDU became whole; this one did; or no PDU begins with what stands there
pub data CutOutcome : Type 0 where
  cuts_none : CutOutcome
  cuts_one : (p : PduParts) → CutOutcome
  cuts_off : CutOutcome

-- what is cut of the longer stream, by what was cut of the shorter one
abbrev pub CutsOn : Cut → CutOutcome → Cut → Type 0
CutsOn c cuts_none d = (d.pdus ≡ c.pdus) × (is_refused d.rest ≡ false)
CutsOn c (cuts_one p) d = (d.pdus ≡ c.pdus ++ p ∷ []) × (d.rest ≡ [])
CutsOn c cuts_off d = (d.pdus ≡ c.pdus) × (is_refused d.rest ≡ true)

-- Of these bytes so many are taken, as the next ones of the stream: up to the end of the next PDU, or to the byte that
-- shows that there is none, and no further; else all.
pub record CutsTo (stream bytes : List ℕ) (took : ℕ) (o : CutOutcome) : Type 0 where
  pub within : took ≤ length bytes
  pub comes : CutsOn (cut stream) o (cut (stream ++ take took bytes))
  pub least : StaysOpen (cut stream).rest (take took bytes)
  pub all : o ≡ cuts_none → took ≡ length bytes

-- what a reader has come to that gathered these bytes
abbrev pub outcome_gathered : List ℕ → CutOutcome
outcome_gathered gathered = if is_refused gathered then cuts_off else (if is_whole_pdu gathered then cuts_one (pdu_of gathered) else cuts_none)

abbrev pub outcome_is_off : CutOutcome → Bool
outcome_is_off cuts_none = false
outcome_is_off (cuts_one p) = false
outcome_is_off cuts_off = true

-- a reader that goes on stands for this stream
abbrev pub HasCut : List ℕ → List ℕ → Type 0
HasCut stream gathered = StandsForStream stream gathered × (is_refused gathered ≡ false)

-- a reader took so many of these bytes
abbrev pub FeedsSo : List ℕ → List ℕ → List ℕ → ℕ → CutOutcome → Type 0
FeedsSo old new bytes took o = (stream : List ℕ) → HasCut stream old
    → CutsTo stream bytes took o × StandsForStream (stream ++ take took bytes) new × (is_refused new ≡ outcome_is_off o)
