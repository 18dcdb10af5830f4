-- The options that a cursor has still to come to, and what the program's steps make of them
use Rattle.std.specs.Prelude.{◌≡◌, ◌<◌, ◌+◌, ℕ, List, [], ◌∷◌, ◌++◌, length, drop, Option, None, Some}
use Rattle.nb_dhcpmsg.specs.declared.option.DhcpOption.{DhcpOption}
use Rattle.nb_dhcpmsg.specs.declared.option.First.{First}
use Rattle.nb_dhcpmsg.specs.declared.option.First.TheVariants as first
use Rattle.nb_dhcpmsg.specs.declared.cursor.Cursor.{Cursor}
use Rattle.nb_dhcpmsg.specs.declared.cursor.Next.{Next}
use Rattle.nb_dhcpmsg.specs.declared.cursor.Next.TheVariants as next
use Rattle.nb_dhcpmsg.specs.declared.joined.Joined.{Joined}
use Rattle.nb_dhcpmsg.specs.declared.joined.Joined.TheVariants as length_of
use Rattle.nb_dhcpmsg.specs.declared.joined.Only.{Only}
use Rattle.nb_dhcpmsg.specs.declared.joined.Only.TheVariants as one
use Rattle.nb_dhcpmsg.specs.Options.{TagValue, tag_value, AreOptions, joined}
use Rattle.nb_dhcpmsg.specs.Messages.{field, only, overload, has_file, has_sname, used_if}

abbrev pub parts_of_option : DhcpOption → TagValue
parts_of_option o = tag_value o.tag o.value.now

-- the options are those of these bytes with this one before them
pub record Precedes (o : TagValue) (rest bytes : List ℕ) : Type 0 where
  pub back : (os : List TagValue) → AreOptions rest os → AreOptions bytes (o ∷ os)
  pub forth : (os : List TagValue) → AreOptions bytes os → (more : List TagValue) × (os ≡ o ∷ more) × AreOptions rest more
  pub less : length o.value + length rest < length bytes

abbrev pub IsFirstOption : First → List ℕ → Type 0
IsFirstOption first.End bytes = AreOptions bytes []
IsFirstOption first.Broken bytes = (os : List TagValue) → AreOptions bytes os → ⊥
IsFirstOption (first.Option o rest) bytes = Precedes (parts_of_option o) rest.now bytes

pub record IsLeft (c : Cursor) (os : List TagValue) : Type 0 where
  pub first : List TagValue
  pub second : List TagValue
  pub third : List TagValue
  pub in_field : AreOptions c.field.now first
  pub in_second : AreOptions c.second.now second
  pub in_third : AreOptions c.third.now third
  pub all : os ≡ first ++ (second ++ third)

abbrev pub left_bytes : Cursor → ℕ
left_bytes c = length c.field.now + (length c.second.now + length c.third.now)

-- the options are those of this cursor with this one before them
pub record LeadsToOption (o : TagValue) (a b : Cursor) : Type 0 where
  pub back : (os : List TagValue) → IsLeft b os → IsLeft a (o ∷ os)
  pub forth : (os : List TagValue) → IsLeft a os → (more : List TagValue) × (os ≡ o ∷ more) × IsLeft b more
  pub less : length o.value + left_bytes b < left_bytes a

abbrev pub IsNextOption : Next → Cursor → Cursor → Type 0
IsNextOption next.End a b = IsLeft a []
IsNextOption next.Broken a b = (os : List TagValue) → IsLeft a os → ⊥
IsNextOption (next.Option o) a b = LeadsToOption (parts_of_option o) a b

abbrev pub IsTaken : Next → Cursor → Cursor → Type 0
IsTaken next.End a b = AreOptions a.field.now [] × (b ≡ a)
IsTaken next.Broken a b = (os : List TagValue) → AreOptions a.field.now os → ⊥
IsTaken (next.Option o) a b = Precedes (parts_of_option o) b.field.now a.field.now × (b.second.now ≡ a.second.now) × (b.third.now ≡ a.third.now)

-- the cursor has all options of a message before it
pub record OptionBegun (c : Cursor) (bytes : List ℕ) : Type 0 where
  pub main : c.field.now ≡ drop 240 bytes
  pub file : (os : List TagValue) → AreOptions (drop 240 bytes) os → c.second.now ≡ used_if (has_file (overload os)) (field 108 128 bytes)
  pub sname : (os : List TagValue) → AreOptions (drop 240 bytes) os → c.third.now ≡ used_if (has_sname (overload os)) (field 44 64 bytes)

abbrev pub IsLength : Joined → List ℕ → Type 0
IsLength length_of.Nothing bytes = bytes ≡ []
IsLength (length_of.Byte byte) bytes = bytes ≡ byte ∷ []
IsLength length_of.More bytes = 1 < length bytes

-- whether the joined value of a tag is one byte, over all that is left
abbrev pub IsOnlyByte : Only → ℕ → Cursor → Type 0
IsOnlyByte one.Broken tag c = (os : List TagValue) → IsLeft c os → ⊥
IsOnlyByte one.Other tag c = (os : List TagValue) × IsLeft c os × (only (joined tag os) ≡ None)
IsOnlyByte (one.Byte byte) tag c = (os : List TagValue) × IsLeft c os × (joined tag os ≡ byte ∷ [])

-- this cursor has come by these options from that one
pub record Walks (before : List TagValue) (start now : Cursor) : Type 0 where
  pub back : (os : List TagValue) → IsLeft now os → IsLeft start (before ++ os)
  pub forth : (os : List TagValue) → IsLeft start os → (more : List TagValue) × (os ≡ before ++ more) × IsLeft now more

abbrev pub byte_of_only : Only → Option ℕ
byte_of_only one.Broken = None
byte_of_only one.Other = None
byte_of_only (one.Byte byte) = Some byte
