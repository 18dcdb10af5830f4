-- RFC 7143, section 11.1: a stream is cut into PDUs by their lengths
use Rattle.std.specs.Prelude.{◌≡◌, ◌<◌, ◌≤◌, ◌⊎◌, ℕ, ◌+◌, ◌==◌, ◌&&◌, Bool, true, false, List, [], ◌∷◌, ◌++◌, length, take, drop, fold, nat_le, nat_lt, Option, Some, None, if◌then◌else◌}
use Rattle.nb_iscsipdu.specs.declared.pdus.PduState.{PduState}
use Rattle.nb_iscsipdu.specs.declared.pdus.PduState.TheVariants.{More, One, Broken}
use Rattle.nb_iscsipdu.specs.declared.pdus.Known.{Known}
use Rattle.nb_iscsipdu.specs.declared.pdus.Known.TheVariants.{No, Refused, Len}
use Rattle.nb_iscsipdu.specs.Heads.{lengths, padded_len}
use Rattle.nb_iscsipdu.specs.PduTexts.{PduParts, IsPduText}

-- Bytes with which no PDU begins. Their eighth byte decides it: there are additional header segments, or the
-- data segment has more than 8,192 bytes.
abbrev pub is_refused : List ℕ → Bool
is_refused bytes = nat_le 8 (length bytes) && nat_lt 8192 (lengths bytes)

-- the length of the PDU that begins with these bytes, with its padding
abbrev pub pdu_len : List ℕ → ℕ
pdu_len bytes = 48 + padded_len (lengths bytes)

-- bytes that are one PDU
abbrev pub is_whole_pdu : List ℕ → Bool
is_whole_pdu bytes = length bytes == pdu_len bytes

abbrev pub pdu_of : List ℕ → PduParts
pdu_of bytes = record { head = take 48 bytes; seg = take (lengths bytes) (drop 48 bytes) }

-- a stream's PDUs, and the bytes after them that are none yet
pub record Cut : Type 0 where
  pub pdus : List PduParts
  pub rest : List ℕ

abbrev pub none_cut : Cut
none_cut = record { pdus = []; rest = [] }

abbrev pub with_rest : Cut → List ℕ → Cut
with_rest c bytes = if is_whole_pdu bytes
    then (record { pdus = c.pdus ++ pdu_of bytes ∷ []; rest = [] })
    else (record { pdus = c.pdus; rest = bytes })

-- nothing is read after bytes with which no PDU begins
abbrev pub after_byte : Cut → ℕ → Cut
after_byte c byte = if is_refused c.rest then c else with_rest c (c.rest ++ byte ∷ [])

-- how a stream is cut
abbrev pub cut : List ℕ → Cut
cut stream = fold after_byte none_cut stream

-- a text is these PDUs, one after the other
abbrev pub SpellsPdus : List ℕ → List PduParts → Type 0
SpellsPdus text [] = text ≡ []
SpellsPdus text (p ∷ ps) = (first rest : List ℕ) × (text ≡ first ++ rest) × IsPduText first p × SpellsPdus rest ps

-- bytes that may still become a PDU, or of which the first eight show that they can't
abbrev pub IsUnfinished : List ℕ → Type 0
IsUnfinished bytes = (length bytes < 8) ⊎ ((8192 < lengths bytes) ⊎ (length bytes < pdu_len bytes))

-- a stream is these PDUs and what is left
pub record IsCutInto (stream : List ℕ) (ps : List PduParts) : Type 0 where
  pub spelled : List ℕ
  pub left : List ℕ
  pub all : stream ≡ spelled ++ left
  pub spells : SpellsPdus spelled ps
  pub is_left : IsUnfinished left

-- The reader: what it gathered of the PDU at work, or the PDU that became whole.

-- a PDU that was whole is dropped
abbrev pub open_of : List ℕ → List ℕ
open_of bytes = if is_whole_pdu bytes then [] else bytes

abbrev pub whole_in : List ℕ → List PduParts
whole_in bytes = if is_whole_pdu bytes then pdu_of bytes ∷ [] else []

abbrev pub whole_pdu : List ℕ → Option PduParts
whole_pdu bytes = if is_whole_pdu bytes then Some (pdu_of bytes) else None

-- what a reader gathers is a PDU or a prefix of one, or ends with the byte that shows that it is none
pub record IsGatheredPdu (bytes : List ℕ) : Type 0 where
  pub refused : is_refused bytes ≡ true → length bytes ≡ 8
  pub short : is_refused bytes ≡ false → 8 ≤ length bytes → length bytes ≤ pdu_len bytes

abbrev pub pdu_state_of : List ℕ → PduState
pdu_state_of bytes = if is_refused bytes then Broken else (if is_whole_pdu bytes then One else More)

-- A reader that gathered these bytes stands for all of the stream that it took.
abbrev pub StandsForStream : List ℕ → List ℕ → Type 0
StandsForStream stream bytes = (cut stream).rest ≡ open_of bytes

-- These bytes of the stream, added to all that was taken before, bring the PDU that became whole, if one did.
abbrev pub TakesOn : List ℕ → List ℕ → List ℕ → Type 0
TakesOn old new taken = (stream : List ℕ) → StandsForStream stream old
    → StandsForStream (stream ++ taken) new × ((cut (stream ++ taken)).pdus ≡ (cut stream).pdus ++ whole_in new)

-- of what was added no shorter part makes a PDU whole, or shows that there is none
abbrev pub StaysOpen : List ℕ → List ℕ → Type 0
StaysOpen old added = (part later : List ℕ) → added ≡ part ++ later → 0 < length later
    → pdu_state_of (old ++ part) ≡ More

abbrev pub TakesNoMore : List ℕ → List ℕ → Type 0
TakesNoMore old taken = StaysOpen (open_of old) taken

-- bytes are left over only after a PDU, or where there is none
abbrev pub TakesAllOfPdu : List ℕ → List ℕ → ℕ → Type 0
TakesAllOfPdu new bytes count = pdu_state_of new ≡ More → count ≡ length bytes

-- what is known of the length of the PDU that begins with these bytes
abbrev pub IsKnown : Known → List ℕ → Type 0
IsKnown No bytes = length bytes < 8
IsKnown Refused bytes = is_refused bytes ≡ true
IsKnown (Len len) bytes = (is_refused bytes ≡ false) × (8 ≤ length bytes) × (len ≡ pdu_len bytes) × (len ≤ 8240)

abbrev pub known_of : ℕ → Known
known_of lengths = if nat_lt 8192 lengths then Refused else Len (48 + padded_len lengths)
