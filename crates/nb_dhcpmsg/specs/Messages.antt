-- RFC 2131, section 2: which bytes are which message
use Rattle.std.specs.Prelude.{◌≡◌, ◌≤◌, ◌==◌, ◌&&◌, ◌||◌, nat_le, ℕ, Bool, true, false, List, [], ◌∷◌, ◌++◌, length, take, drop, slice_index, Option, Some, None}
use Rattle.std.specs.Int.{from_be_bytes, w32}
use Rattle.nb_dhcpmsg.specs.Options.{TagValue, AreOptions, joined, is_there}

-- a message, without where it lies in memory
pub record MessageParts : Type 0 where
  pub op : ℕ
  pub xid : ℕ
  pub yiaddr : ℕ
  pub siaddr : ℕ
  pub chaddr : List ℕ
  pub kind : ℕ

-- a field by its place and its length (figure 1)
abbrev pub field : ℕ → ℕ → List ℕ → List ℕ
field at n bytes = take n (drop at bytes)

-- the one byte that a value is
abbrev pub only : List ℕ → Option ℕ
only [] = None
only (byte ∷ []) = Some byte
only (byte ∷ more ∷ bytes) = None

-- what the options field says of the others (RFC 2132, section 9.3)
abbrev pub overload : List TagValue → Option ℕ
overload os = only (joined 52 os)

abbrev pub has_file : Option ℕ → Bool
has_file None = false
has_file (Some n) = (n == 1) || (n == 3)

abbrev pub has_sname : Option ℕ → Bool
has_sname None = false
has_sname (Some n) = (n == 2) || (n == 3)

abbrev pub used_if : Bool → List ℕ → List ℕ
used_if true bytes = bytes
used_if false bytes = []

-- the options of a message, in the order in which values are joined: the options field, file, sname
pub record HasOptions (bytes : List ℕ) (os : List TagValue) : Type 0 where
  pub main : List TagValue
  pub file : List TagValue
  pub sname : List TagValue
  pub in_main : AreOptions (drop 240 bytes) main
  pub in_file : AreOptions (used_if (has_file (overload main)) (field 108 128 bytes)) file
  pub in_sname : AreOptions (used_if (has_sname (overload main)) (field 44 64 bytes)) sname
  pub all : os ≡ main ++ (file ++ sname)

-- what the options begin with
abbrev pub HasCookie : List ℕ → Type 0
HasCookie bytes = field 236 4 bytes ≡ 99 ∷ 130 ∷ 83 ∷ 99 ∷ []

-- the bytes are this message
pub record IsMessage (bytes : List ℕ) (m : MessageParts) : Type 0 where
  pub long : 240 ≤ length bytes
  pub cookie : HasCookie bytes
  pub op : m.op ≡ slice_index bytes 0
  pub xid : m.xid ≡ from_be_bytes w32 (field 4 4 bytes)
  pub yiaddr : m.yiaddr ≡ from_be_bytes w32 (field 16 4 bytes)
  pub siaddr : m.siaddr ≡ from_be_bytes w32 (field 20 4 bytes)
  pub chaddr : m.chaddr ≡ field 28 6 bytes
  pub options : List TagValue
  pub has_options : HasOptions bytes options
  pub kind : joined 53 options ≡ m.kind ∷ []

-- an option has the tag, and its joined value has at most 1,024 bytes
abbrev pub is_value : ℕ → List TagValue → Bool
is_value tag os = is_there tag os && nat_le (length (joined tag os)) 1024
