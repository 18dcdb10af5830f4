-- own, after ipxe.org's settings: the grammar of a setting's name, `[block/]name[:kind]`
use Rattle.std.specs.Prelude.{◌≡◌, ℕ, ◌≤◌, ◌==◌, ◌&&◌, ◌||◌, ◌⊎◌, Bool, true, not, List, [], ◌∷◌, ◌++◌, length, nat_lt, nat_le, Option, Some, None, find, IfSome, if◌then◌else◌}
use Rattle.std.specs.Char.{is_ascii_digit, is_ascii_alphanumeric}
use Rattle.std.specs.Fmt.{decimal}
use Rattle.std.specs.List.{list_all, range_with_len}
use Rattle.std.specs.Option.{option_map, option_and_then, option_copied}
use Rattle.std.specs.Str.{bytes_eq}
use Rattle.nb_settings.specs.declared.kind.Kind.{Kind}
use Rattle.nb_settings.specs.declared.name.Name.{Name}
use Rattle.nb_settings.specs.declared.setting.OwnedKey.{OwnedKey}
use Rattle.nb_settings.specs.declared.setting.OwnedKey.TheVariants.{Tag, Sub, Free}
use Rattle.nb_settings.specs.Kinds.{kind_name, kind_named}
use Rattle.nb_settings.specs.Keys.{key_of}
use Rattle.nb_settings.specs.Listed.{key_named}

-- what a name says: which setting, of which block if it says so, and the kind if it says one
pub record SettingName : Type 0 where
  pub block : Option (List ℕ)
  pub key : OwnedKey
  pub kind : Option Kind

-- a name, without where its bytes lie in memory
abbrev pub name_of : Name → SettingName
name_of name = record { block = option_copied name.block; key = key_of name.key; kind = name.kind }

-- a name of a key, without a block and a kind
abbrev pub key_alone : OwnedKey → SettingName
key_alone key = record { block = None; key = key; kind = None }

-- a letter, a digit, `-` or `_`
abbrev pub is_word_byte : ℕ → Bool
is_word_byte byte = is_ascii_alphanumeric byte || (byte == 45) || (byte == 95)

-- 1 to 63 such bytes, not all of them digits
unfoldable pub is_word : List ℕ → Bool
is_word text = nat_lt 0 (length text) && nat_le (length text) 63 && list_all is_word_byte text && not (list_all is_ascii_digit text)

-- a word, or two joined by a dot
abbrev pub IsBlockName : List ℕ → Type 0
IsBlockName text =
    (is_word text ≡ true)
    ⊎ ((first : List ℕ) × (second : List ℕ) × (is_word first ≡ true) × (is_word second ≡ true) × (text ≡ first ++ 46 ∷ second))

-- a number of an option
abbrev pub IsNumber : ℕ → Type 0
IsNumber n = (1 ≤ n) × (n ≤ 254)

-- one or two numbers, in decimal and joined by a dot
abbrev pub IsTagText : List ℕ → OwnedKey → Type 0
IsTagText text (Tag n) = IsNumber n × (text ≡ decimal n)
IsTagText text (Sub outer inner) = IsNumber outer × IsNumber inner × (text ≡ decimal outer ++ 46 ∷ decimal inner)
IsTagText text (Free name) = ⊥

-- numbers, or a word; a word that is listed with a tag means the tag
abbrev pub IsKeyText : List ℕ → OwnedKey → Type 0
IsKeyText text key = IsTagText text key ⊎ ((is_word text ≡ true) × (key ≡ key_named text))

abbrev pub block_text : Option (List ℕ) → List ℕ
block_text None = []
block_text (Some block) = block ++ 47 ∷ []

abbrev pub kind_text : Option Kind → List ℕ
kind_text None = []
kind_text (Some kind) = 58 ∷ kind_name kind

-- the bytes spell the name: its block and `/` where it has one, its key, and `:` and its kind where it has one
pub record IsName (text : List ℕ) (name : SettingName) : Type 0 where
  pub key_text : List ℕ
  pub is_key : IsKeyText key_text name.key
  pub is_block : IfSome name.block IsBlockName
  pub spelled : text ≡ block_text name.block ++ (key_text ++ kind_text name.kind)

-- the bytes before the first of a byte, and those after it
abbrev pub cut_at : ℕ → List ℕ → Option (List ℕ × List ℕ)
cut_at byte [] = None
cut_at byte (b ∷ bs) = if b == byte then Some ([], bs) else option_map (λ cut. (b ∷ cut.0, cut.1)) (cut_at byte bs)

-- The same as a function of the bytes; that it is the grammar, in both directions, is what `Name::read` promises.

-- the number 1 to 254 whose decimal this is
unfoldable pub number_read : List ℕ → Option ℕ
number_read text = find (λ n. bytes_eq text (decimal n)) (range_with_len 1 254)

abbrev pub two_words : Option (List ℕ × List ℕ) → List ℕ → Bool
two_words None text = is_word text
two_words (Some cut) text = is_word cut.0 && is_word cut.1

unfoldable pub is_block_name : List ℕ → Bool
is_block_name text = two_words (cut_at 46 text) text

abbrev pub word_read : List ℕ → Option OwnedKey
word_read text = if is_word text then Some (key_named text) else None

abbrev pub tag_or_word : Option ℕ → List ℕ → Option OwnedKey
tag_or_word None text = word_read text
tag_or_word (Some n) text = Some (Tag n)

abbrev pub undotted_or_sub : Option (List ℕ × List ℕ) → List ℕ → Option OwnedKey
undotted_or_sub None text = tag_or_word (number_read text) text
undotted_or_sub (Some cut) text =
    option_and_then (λ outer. option_map (λ inner. Sub outer inner) (number_read cut.1)) (number_read cut.0)

unfoldable pub key_read : List ℕ → Option OwnedKey
key_read text = undotted_or_sub (cut_at 46 text) text

abbrev pub kind_cut : Option (List ℕ) → Option (List ℕ × List ℕ) → List ℕ → Option SettingName
kind_cut block None text = option_map (λ key. record { block = block; key = key; kind = None }) (key_read text)
kind_cut block (Some cut) text =
    option_and_then (λ key. option_map (λ kind. record { block = block; key = key; kind = Some kind }) (kind_named cut.1)) (key_read cut.0)

-- a name after its block
unfoldable pub tail_read : Option (List ℕ) → List ℕ → Option SettingName
tail_read block text = kind_cut block (cut_at 58 text) text

abbrev pub block_cut : Option (List ℕ × List ℕ) → List ℕ → Option SettingName
block_cut None text = tail_read None text
block_cut (Some cut) text = if is_block_name cut.0 then tail_read (Some cut.0) cut.1 else None

-- the name that the bytes spell
unfoldable pub name_read : List ℕ → Option SettingName
name_read text = block_cut (cut_at 47 text) text
