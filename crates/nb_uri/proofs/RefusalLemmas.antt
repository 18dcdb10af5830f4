-- Why a text names nothing, over the definition of what it names.
use Rattle.std.proofs.Common.{◌≡◌, ◌≢◌, ◌↔◌, ℕ, ◌<◌, ◌≤◌, Bool, true, false, not, ◌||◌, eqb, ltb, List, [], ◌∷◌, drop, length, codes, Option, Some, None, Result, Ok, Err, refl, sym, ap, subst, ◌∙◌, arith}
use Rattle.std.proofs.Math.Logic.{inl, inr, ⊎_elim}
use Rattle.std.specs.Prelude.{unwrap_or, IfOk}
use Rattle.std.specs.Option.{option_map, option_and_then}
use Rattle.std.specs.Str.{IsUtf8, is_utf8, bytes_eq}
use Rattle.std.proofs.lemmas.Bool.{true≢false, lt-ltb, le-ltb, cases_lt}
use Rattle.std.proofs.lemmas.Bool.Decides.{nat_tests}
use Rattle.std.proofs.lemmas.Option.{none-some}
use Rattle.std.proofs.lemmas.Slice.Eq.{bytes_eq-Decides}
use Rattle.std.proofs.lemmas.Str.{is_utf8-from_IsUtf8}
use Rattle.url.specs.declared.host.Host.{Host}
use Rattle.url.specs.declared.host.Host.TheVariants.{Domain}
use Rattle.url.specs.Host.{host_text, is_empty_host}
use Rattle.url.specs.Parts.{Parts, has_host, nonempty_host}
use Rattle.nb_tftpmsg.specs.Texts.{HasNoZero}
use Rattle.nb_uri.specs.declared.target.UriTarget.{UriTarget}
use Rattle.nb_uri.specs.declared.target.UriTarget.TheVariants.{Tftp, Http, Iscsi}
use Rattle.nb_uri.specs.declared.target.UriError.{UriError}
use Rattle.nb_uri.specs.declared.target.UriError.TheVariants.{BadUri, NoScheme, TooLong, NoMemory}
use Rattle.nb_uri.specs.IscsiNames.{IscsiTarget, is_iscsi, iscsi_target}
use Rattle.nb_uri.specs.Resolutions.{GivesOrNoMemory, resolution, disk_target, url_target, host_target, scheme_target, url_of, joined_url, whole_of, whole_text, fitted, tftp_path, http_path, has_zero, HasCleanPath}
use Rattle.nb_uri.specs.Refusals.{IsBadUri, IsBadUri.not_utf8, IsBadUri.no_disk, IsBadUri.no_url, IsBadUri.no_host, IsBadUri.zero_in_path, IsFileUrl, IsOtherScheme, IsLongUri, uri_text, ExactlyWhere}
use Rattle.nb_uri.proofs.GrammarLemmas.{iscsi-spelled, iscsi-read}
use Rattle.nb_uri.proofs.PieceLemmas.{either_way}
use Rattle.nb_uri.proofs.ResolutionLemmas.{resolution-none}

-- ---- hosts

-- a URL with a host, and one without
hosted : (host : Option (Host (List ℕ))) → not (is_empty_host (unwrap_or host (Domain []))) ≡ true → (text : List ℕ) × (option_map host_text host ≡ Some text)
hosted None some = absurd (true≢false (sym some))
hosted (Some host) some = (host_text host, refl)

pub host-some : (url : Parts) → has_host url ≡ true → (text : List ℕ) × (option_map host_text (nonempty_host url) ≡ Some text)
host-some url some = let found = hosted url.host some in (found.0, rw some found.1)

pub host-none : (url : Parts) → has_host url ≡ false → option_map host_text (nonempty_host url) ≡ None
host-none url none = rw none refl

-- ---- what a text names, where something is known of it

pub names-disk : (base : Option (List ℕ)) (text : List ℕ) → is_utf8 text ≡ true → is_iscsi text ≡ true → resolution base text ≡ disk_target text (iscsi_target (drop 6 text))
unfolding resolution
names-disk base text utf8 iscsi = rw (utf8, iscsi) refl

pub names-url : (base : Option (List ℕ)) (text : List ℕ) → is_utf8 text ≡ true → is_iscsi text ≡ false → resolution base text ≡ url_target (url_of base text)
unfolding resolution
names-url base text utf8 iscsi = rw (utf8, iscsi) refl

-- a text that isn't UTF-8 is bad whatever else it is
or_bad : (base : Option (List ℕ)) (text : List ℕ) (expected : Result UriTarget UriError) → (is_utf8 text ≡ true → resolution base text ≡ expected) → expected ≡ Err BadUri → resolution base text ≡ Err BadUri
or_bad base text expected names bad = either_way (is_utf8 text) (λ utf8. names utf8 ∙ bad) (λ off. resolution-none base text (λ utf8. true≢false (sym (is_utf8-from_IsUtf8 text utf8) ∙ off)))

disk-none : (name : List ℕ) (found : Option IscsiTarget) → iscsi_target name ≡ found → ((disk : IscsiTarget) → iscsi_target name ≡ Some disk → ⊥) → found ≡ None
disk-none name None is never = refl
disk-none name (Some disk) is never = absurd (never disk is)

pub bad-refused : (base : Option (List ℕ)) (text : List ℕ) → IsBadUri base text → resolution base text ≡ Err BadUri
bad-refused base text (not_utf8 never) = resolution-none base text never
bad-refused base text (no_disk iscsi never) =
    let none = disk-none (drop 6 text) (iscsi_target (drop 6 text)) refl (λ disk is. never disk (iscsi-spelled (drop 6 text) disk is)) in
    or_bad base text (disk_target text (iscsi_target (drop 6 text))) (λ utf8. names-disk base text utf8 iscsi) (ap (disk_target text) none)
bad-refused base text (no_url iscsi none) =
    or_bad base text (url_target (url_of base text)) (λ utf8. names-url base text utf8 iscsi) (ap url_target none)
bad-refused base text (no_host url file none) =
    or_bad base text (url_target (url_of base text)) (λ utf8. names-url base text utf8 file.0) (ap url_target file.1 ∙ ap (host_target url) (host-none url none))
bad-refused base text (zero_in_path url file tftp zero) =
    or_bad base text (url_target (url_of base text)) (λ utf8. names-url base text utf8 file.0) (ap url_target file.1 ∙ either_way (has_host url)
    (λ some. ap (host_target url) (host-some url some).1 ∙ tftp-zero url (host-some url some).0 tftp zero)
    (λ none. ap (host_target url) (host-none url none)))
  where
    tftp-zero : (url : Parts) (host : List ℕ) → url.scheme ≡ codes "tftp" → has_zero (tftp_path url) ≡ true → scheme_target url host ≡ Err BadUri
    tftp-zero url host tftp zero = rw ((bytes_eq-Decides url.scheme (codes "tftp")).1 tftp, zero) refl

utf8_of : (base : Option (List ℕ)) (text : List ℕ) (url : Parts) → url_of base text ≡ Some url → is_utf8 text ≡ true
utf8_of None text url is = either_way (is_utf8 text) (λ utf8. utf8) (λ off. absurd (none-some url (rw off at is)))
utf8_of (Some base) text url is = either_way (is_utf8 text) (λ utf8. utf8) (λ off. absurd (never (joined_url None base) is off))
  where
    never : (found : Option Parts) → option_and_then (λ url. joined_url (Some url) text) found ≡ Some url → is_utf8 text ≡ false → ⊥
    never None is off = none-some url is
    never (Some first) is off = none-some url (rw off at is)

differs : (xs ys : List ℕ) → xs ≢ ys → bytes_eq xs ys ≡ false
differs xs ys other = either_way (bytes_eq xs ys) (λ on. absurd (other ((bytes_eq-Decides xs ys).0 on))) (λ off. off)

pub other-refused : (base : Option (List ℕ)) (text : List ℕ) → IsOtherScheme base text → resolution base text ≡ Err NoScheme
other-refused base text other =
    let url = other.url in
    let host = host-some url other.hosted in
    names-url base text (utf8_of base text url other.named.1) other.named.0
    ∙ ap url_target other.named.1
    ∙ ap (host_target url) host.1
    ∙ of_scheme url host.0 (differs url.scheme (codes "tftp") other.not_tftp) (differs url.scheme (codes "http") other.not_http)
  where
    of_scheme : (url : Parts) (host : List ℕ) → bytes_eq url.scheme (codes "tftp") ≡ false → bytes_eq url.scheme (codes "http") ≡ false → scheme_target url host ≡ Err NoScheme
    of_scheme url host tftp http = rw (tftp, http) refl

-- ---- what each answer says of its text

abbrev Says : Option (List ℕ) → List ℕ → Result UriTarget UriError → Type 0
Says base text (Ok target) = (length (uri_text base text) ≤ 16384) × HasCleanPath target
Says base text (Err BadUri) = IsBadUri base text
Says base text (Err NoScheme) = IsOtherScheme base text
Says base text (Err TooLong) = 16384 < length (uri_text base text)
Says base text (Err NoMemory) = ⊥

says-fitted : (base : Option (List ℕ)) (text : List ℕ) (target : UriTarget) → whole_text target ≡ uri_text base text → HasCleanPath target → Says base text (fitted target)
says-fitted base text target whole clean = ⊎_elim
    (λ long. let on = lt-ltb 16384 (length (whole_text target)) long in subst (Says base text) (sym (too_long target on)) (subst (λ t. 16384 < length t) whole long))
    (λ short. let off = le-ltb 16384 (length (whole_text target)) short in subst (Says base text) (sym (fits target off)) (subst (λ t. length t ≤ 16384) whole short, clean))
    (cases_lt 16384 (length (whole_text target)))
  where
    too_long : (target : UriTarget) → ltb 16384 (length (whole_text target)) ≡ true → fitted target ≡ Err TooLong
    too_long target on = rw on refl

    fits : (target : UriTarget) → ltb 16384 (length (whole_text target)) ≡ false → fitted target ≡ Ok target
    fits target off = rw off refl

says-disk : (base : Option (List ℕ)) (text : List ℕ) (found : Option IscsiTarget) → is_iscsi text ≡ true → iscsi_target (drop 6 text) ≡ found → Says base text (disk_target text found)
says-disk base text None iscsi is = no_disk iscsi (λ disk spelled. none-some disk (sym is ∙ iscsi-read (drop 6 text) disk spelled))
says-disk base text (Some disk) iscsi is = says-fitted base text (Iscsi disk.server disk.port disk.lun disk.target text) (own base text iscsi) tt
  where
    own : (base : Option (List ℕ)) (text : List ℕ) → is_iscsi text ≡ true → text ≡ uri_text base text
    own base text iscsi = rw iscsi refl

url-text : (base : Option (List ℕ)) (text : List ℕ) (url : Parts) → IsFileUrl base text url → whole_of url ≡ uri_text base text
url-text base text url file = rw (file.0, file.1) refl

no_zero : (bytes : List ℕ) → has_zero bytes ≡ false → HasNoZero bytes
no_zero [] none = tt
no_zero (byte ∷ bytes) none =
    let parts = or_false (eqb byte 0) (has_zero bytes) none in
    (grind (arith, nat_tests, parts.0), no_zero bytes parts.1)
  where
    or_false : (a b : Bool) → (a || b) ≡ false → (a ≡ false) × (b ≡ false)
    or_false true b none = absurd (true≢false none)
    or_false false b none = (refl, none)

says-scheme : (base : Option (List ℕ)) (text : List ℕ) (url : Parts) (host : List ℕ) → IsFileUrl base text url → has_host url ≡ true → Says base text (scheme_target url host)
says-scheme base text url host file some =
    let whole = url-text base text url file in
    either_way (bytes_eq url.scheme (codes "tftp"))
    (λ tftp. either_way (has_zero (tftp_path url))
    (λ zero. rw (tftp, zero) (zero_in_path url file ((bytes_eq-Decides url.scheme (codes "tftp")).0 tftp) zero))
    (λ clean. rw (tftp, clean) (says-fitted base text (Tftp host (unwrap_or url.port 69) (tftp_path url) (whole_of url)) whole (no_zero (tftp_path url) clean))))
    (λ no_tftp. either_way (bytes_eq url.scheme (codes "http"))
    (λ http. rw (no_tftp, http) (says-fitted base text (Http host (unwrap_or url.port 80) (http_path url) (whole_of url)) whole tt))
    (λ no_http. rw (no_tftp, no_http) (record {
      url = url;
      named = file;
      hosted = some;
      not_tftp = λ same. true≢false (sym ((bytes_eq-Decides url.scheme (codes "tftp")).1 same) ∙ no_tftp);
      not_http = λ same. true≢false (sym ((bytes_eq-Decides url.scheme (codes "http")).1 same) ∙ no_http);
    })))

says-url : (base : Option (List ℕ)) (text : List ℕ) (found : Option Parts) → is_iscsi text ≡ false → url_of base text ≡ found → Says base text (url_target found)
says-url base text None iscsi is = no_url iscsi is
says-url base text (Some url) iscsi is = either_way (has_host url)
    (λ some. let host = host-some url some in subst (λ h. Says base text (host_target url h)) (sym host.1) (says-scheme base text url host.0 (iscsi, is) some))
    (λ none. subst (λ h. Says base text (host_target url h)) (sym (host-none url none)) (no_host url (iscsi, is) none))

pub says : (base : Option (List ℕ)) (text : List ℕ) → Says base text (resolution base text)
says base text = either_way (is_utf8 text)
    (λ utf8. either_way (is_iscsi text)
    (λ iscsi. subst (Says base text) (sym (names-disk base text utf8 iscsi)) (says-disk base text (iscsi_target (drop 6 text)) iscsi refl))
    (λ file. subst (Says base text) (sym (names-url base text utf8 file)) (says-url base text (url_of base text) file refl)))
    (λ off. let never : IsUtf8 text → ⊥ = λ utf8. true≢false (sym (is_utf8-from_IsUtf8 text utf8) ∙ off) in subst (Says base text) (sym (resolution-none base text never)) (not_utf8 never))

-- ---- each refusal

pub bad-both : (base : Option (List ℕ)) (text : List ℕ) → (resolution base text ≡ Err BadUri) ↔ IsBadUri base text
bad-both base text = (λ is. subst (Says base text) is (says base text), bad-refused base text)

pub other-both : (base : Option (List ℕ)) (text : List ℕ) → (resolution base text ≡ Err NoScheme) ↔ IsOtherScheme base text
other-both base text = (λ is. subst (Says base text) is (says base text), other-refused base text)

long-of : (base : Option (List ℕ)) (text : List ℕ) (r : Result UriTarget UriError) → Says base text r → IsLongUri base text → r ≡ Err TooLong
long-of base text (Ok target) says long = absurd (omega (arith, says.0, long.long))
long-of base text (Err BadUri) says long = absurd (long.not_bad says)
long-of base text (Err NoScheme) says long = absurd (long.not_other says)
long-of base text (Err TooLong) says long = refl
long-of base text (Err NoMemory) says long = absurd says

pub long-both : (base : Option (List ℕ)) (text : List ℕ) → (resolution base text ≡ Err TooLong) ↔ IsLongUri base text
long-both base text = (
  λ is. record {
    not_bad = λ bad. absurd (cc (sym is ∙ bad-refused base text bad));
    not_other = λ other. absurd (cc (sym is ∙ other-refused base text other));
    long = subst (Says base text) is (says base text);
  },
  long-of base text (resolution base text) (says base text),
)

-- what is exact of the expected answer is exact of the answer
pub exactly : (result expected : Result UriTarget UriError) (why : UriError) (Cause : Type 0) → (why ≡ NoMemory → ⊥) → GivesOrNoMemory result expected → (expected ≡ Err why) ↔ Cause → ExactlyWhere result why Cause
exactly (Ok target) expected why Cause memory gives both = (λ is. absurd (cc is), λ cause. absurd (cc (sym gives ∙ both.1 cause)))
exactly (Err e) expected why Cause memory gives both = (
  λ is. let same : e ≡ why = cc is in both.0 (⊎_elim (λ given. given ∙ ap (λ w. Err w) same) (λ full. absurd (memory (sym same ∙ full))) gives),
  λ cause. ⊎_elim (λ given. inl (sym given ∙ both.1 cause)) (λ full. inr (ap (λ w. Err w) full)) gives,
)

-- what is named has a path that may be asked for
pub clean : (base : Option (List ℕ)) (text : List ℕ) (result : Result UriTarget UriError) → GivesOrNoMemory result (resolution base text) → IfOk result HasCleanPath
clean base text (Ok target) gives = (subst (Says base text) gives (says base text)).1
clean base text (Err e) gives = tt
