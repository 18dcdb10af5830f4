-- Laws of what a text names.
use Rattle.std.proofs.Common.{◌≡◌, ℕ, Bool, true, false, List, drop, Option, Some, None, Result, Ok, Err, refl, sym, ap, ◌∙◌}
use Rattle.std.proofs.Math.Logic.{inl}
use Rattle.std.specs.Bool.{if◌then◌else◌}
use Rattle.std.specs.Str.{IsUtf8, is_utf8}
use Rattle.std.proofs.lemmas.Option.{none-some}
use Rattle.std.proofs.lemmas.Str.{is_utf8-from_IsUtf8, IsUtf8-from_is_utf8}
use Rattle.std.specs.Prelude.{IfSome}
use Rattle.url.specs.Parser.{parse_url}
use Rattle.url.specs.Parts.{Parts, IsValid}
use Rattle.url.proofs.ParsedCanonical.{parse_url_canonical}
use Rattle.nb_uri.specs.IscsiNames.{is_iscsi, iscsi_target}
use Rattle.nb_uri.specs.Resolutions.{GivesOrNoMemory, IsReadBack, resolution, disk_target, url_target, url_of}
use Rattle.nb_uri.specs.declared.target.UriTarget.{UriTarget}
use Rattle.nb_uri.specs.declared.target.UriError.{UriError}
use Rattle.nb_uri.specs.declared.target.UriError.TheVariants.{BadUri}

-- a refusal that is the one expected
pub refused : (expected : Result UriTarget UriError) (why : UriError) → expected ≡ Err why → GivesOrNoMemory (Err why) expected
refused expected why same = inl same

not_true : (b : Bool) → (b ≡ true → ⊥) → b ≡ false
not_true true never = absurd (never refl)
not_true false never = refl

pub is_utf8-none : (text : List ℕ) → (IsUtf8 text → ⊥) → is_utf8 text ≡ false
is_utf8-none text never = not_true (is_utf8 text) (λ yes. never (IsUtf8-from_is_utf8 text yes))

pub resolution-none : (base : Option (List ℕ)) (text : List ℕ) → (IsUtf8 text → ⊥) → resolution base text ≡ Err BadUri
unfolding resolution
resolution-none base text never = rw (is_utf8-none text never) refl

-- what follows `iscsi:` in a text, told by its test
abbrev after : Bool → List ℕ → Option (List ℕ)
after b text = if b then Some (drop 6 text) else None

pub after-some : (b : Bool) (text name : List ℕ) → Some name ≡ after b text → (b ≡ true) × (name ≡ drop 6 text)
after-some true text name is = (refl, cc is)
after-some false text name is = absurd (none-some name (sym is))

after-none : (b : Bool) (text : List ℕ) → None ≡ after b text → b ≡ false
after-none true text is = absurd (none-some (drop 6 text) is)
after-none false text is = refl

pub resolution-iscsi : (base : Option (List ℕ)) (text name : List ℕ) → IsUtf8 text → Some name ≡ after (is_iscsi text) text → resolution base text ≡ disk_target text (iscsi_target name)
unfolding resolution
resolution-iscsi base text name utf8 is =
    let found = after-some (is_iscsi text) text name is in
    rw (is_utf8-from_IsUtf8 text utf8, found.0, found.1) refl

pub resolution-url : (base : Option (List ℕ)) (text : List ℕ) → IsUtf8 text → None ≡ after (is_iscsi text) text → resolution base text ≡ url_target (url_of base text)
unfolding resolution
resolution-url base text utf8 is = rw (is_utf8-from_IsUtf8 text utf8, after-none (is_iscsi text) text is) refl

-- a parsed URL is read back from its text, where its base is
pub read_back : (base : Option Parts) (text : List ℕ) (parsed url : Parts) → url ≡ parsed → IsValid url → IfSome base IsReadBack → parse_url base text ≡ Ok parsed → IsReadBack url
read_back base text parsed url same valid back is = (valid, parse_url_canonical base text url back valid (is ∙ ap Ok (sym same)))
