-- RFC 2347: the options of an OACK
use Rattle.std.specs.Prelude.{◌≡◌, ℕ, ◌^◌, Bool, List, ◌++◌, Option, Some, None, codes}
use Rattle.std.specs.List.{find, flat_map}
use Rattle.std.specs.Option.{option_map, option_map_or}
use Rattle.std.specs.Str.{str_eq_ignore_ascii_case}
use Rattle.nb_tftpmsg.specs.Texts.{HasNoZero, ended, decimal}

-- an option's name and value
pub record TftpOption : Type 0 where
  pub name : List ℕ
  pub value : List ℕ

-- what has a spelling
pub record IsOption (o : TftpOption) : Type 0 where
  pub name : HasNoZero o.name
  pub value : HasNoZero o.value

-- name and value, each with its zero byte
abbrev pub options_text : List TftpOption → List ℕ
options_text options = flat_map (λ o. ended o.name ++ ended o.value) options

-- names are compared without case
abbrev pub is_option_name : List ℕ → List ℕ → Bool
is_option_name wanted name = str_eq_ignore_ascii_case name wanted

-- what the first option of a name says: a number below a bound, or nothing where no option has that
-- name. None where its value is no such number. A later option of the name is not looked at.
abbrev pub first_number : List ℕ → ℕ → List TftpOption → Option (Option ℕ)
first_number wanted bound options =
    option_map_or (λ o. option_map Some (decimal bound o.value)) (find (λ o. is_option_name wanted o.name) options) (Some None)

-- what the options say of the block size (RFC 2348) and of the file's size (RFC 2349)
pub record OackOptionsSay (options : List TftpOption) (size length : Option ℕ) : Type 0 where
  pub blksize : first_number (codes "blksize") (2 ^ 16) options ≡ Some size
  pub tsize : first_number (codes "tsize") (2 ^ 32) options ≡ Some length
