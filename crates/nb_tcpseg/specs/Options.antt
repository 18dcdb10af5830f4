-- RFC 9293, section 3.2: what the options of a header say
use Rattle.std.specs.Prelude.{◌≡◌, ℕ, ◌+◌, ◌*◌, ◌≤◌, ◌==◌, List, [], ◌∷◌, ◌++◌, length, Option, Some, None, if◌then◌else◌}
use Rattle.std.specs.Option.{option_or}

abbrev pub two_bytes : List ℕ → Option ℕ
two_bytes [] = None
two_bytes (high ∷ []) = None
two_bytes (high ∷ low ∷ []) = Some (256 * high + low)
two_bytes (high ∷ low ∷ more ∷ rest) = None

-- the maximum segment size is an option of kind 2 whose value has two bytes
abbrev pub mss_value : ℕ → List ℕ → Option ℕ
mss_value kind value = if kind == 2 then two_bytes value else None

-- These bytes are a list of options, and the first maximum segment size in it is this. Kind 0 ends the list, whatever
-- follows; kind 1 is one byte alone; any other has a length that counts the kind and itself.
pub data OptionsSay : List ℕ → Option ℕ → Type 0 where
  by_none : (options : List ℕ) → options ≡ [] → OptionsSay options None
  by_end : (options padding : List ℕ) → options ≡ 0 ∷ padding → OptionsSay options None
  by_no_operation : (options rest : List ℕ) (mss : Option ℕ) → options ≡ 1 ∷ rest → OptionsSay rest mss → OptionsSay options mss
  by_option : (options : List ℕ) (kind : ℕ) (value rest : List ℕ) (later mss : Option ℕ) → options ≡ kind ∷ (2 + length value) ∷ (value ++ rest)
      → 2 ≤ kind → OptionsSay rest later → mss ≡ option_or (mss_value kind value) later → OptionsSay options mss
