-- Own: why a text names nothing, each cause in words of its own
use Rattle.std.specs.Prelude.{◌≡◌, ◌≢◌, ◌⊎◌, ℕ, ◌<◌, true, false, List, [], length, drop, Option, Some, None, Result, Err, codes, if◌then◌else◌}
use Rattle.std.specs.Option.{option_map_or}
use Rattle.std.specs.Str.{IsUtf8}
use Rattle.url.specs.Parts.{Parts, has_host}
use Rattle.nb_uri.specs.declared.target.UriTarget.{UriTarget}
use Rattle.nb_uri.specs.declared.target.UriError.{UriError}
use Rattle.nb_uri.specs.declared.target.UriError.TheVariants.{NoMemory}
use Rattle.nb_uri.specs.IscsiNames.{IscsiTarget, is_iscsi, SpellsIscsi}
use Rattle.nb_uri.specs.Resolutions.{url_of, whole_of, tftp_path, has_zero}

-- the text, which isn't the name of an iSCSI disk, names this URL
abbrev pub IsFileUrl : Option (List ℕ) → List ℕ → Parts → Type 0
IsFileUrl base text url = (is_iscsi text ≡ false) × (url_of base text ≡ Some url)

-- what makes a text a bad URI
pub data IsBadUri (base : Option (List ℕ)) (text : List ℕ) : Type 0 where
  not_utf8 : (IsUtf8 text → ⊥) → IsBadUri base text
  -- it begins with `iscsi:`, and the grammar of iSCSI names refuses it
  no_disk : is_iscsi text ≡ true → ((disk : IscsiTarget) → SpellsIscsi (drop 6 text) disk → ⊥) → IsBadUri base text
  -- the URL Standard refuses it, or its base
  no_url : is_iscsi text ≡ false → url_of base text ≡ None → IsBadUri base text
  -- whatever its scheme
  no_host : (url : Parts) → IsFileUrl base text url → has_host url ≡ false → IsBadUri base text
  zero_in_path : (url : Parts) → IsFileUrl base text url → url.scheme ≡ codes "tftp" → has_zero (tftp_path url) ≡ true → IsBadUri base text

-- a URL with a host, of none of the schemes that are read
pub record IsOtherScheme (base : Option (List ℕ)) (text : List ℕ) : Type 0 where
  pub url : Parts
  pub named : IsFileUrl base text url
  pub hosted : has_host url ≡ true
  pub not_tftp : url.scheme ≢ codes "tftp"
  pub not_http : url.scheme ≢ codes "http"

-- the URI that a text stands for, without its fragment
abbrev pub uri_text : Option (List ℕ) → List ℕ → List ℕ
uri_text base text = if is_iscsi text then text else option_map_or whole_of (url_of base text) []

-- neither of these, and the URI has too many bytes
pub record IsLongUri (base : Option (List ℕ)) (text : List ℕ) : Type 0 where
  pub not_bad : IsBadUri base text → ⊥
  pub not_other : IsOtherScheme base text → ⊥
  pub long : 16384 < length (uri_text base text)

-- this refusal comes only where the cause holds, and wherever it holds unless memory ran out
abbrev pub ExactlyWhere : Result UriTarget UriError → UriError → Type 0 → Type 0
ExactlyWhere result why cause = (result ≡ Err why → cause) × (cause → (result ≡ Err why) ⊎ (result ≡ Err NoMemory))
