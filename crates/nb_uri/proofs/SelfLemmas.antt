-- A target's URI names that target again.
use Rattle.std.proofs.Common.{◌≡◌, ◌⊎◌, ℕ, true, false, not, ltb, List, [], ◌++◌, length, drop, codes, Option, Some, None, Result, Ok, Err, refl, sym, ap, subst, ◌∙◌}
use Rattle.std.proofs.Math.Logic.{inl, inr, ⊎_elim}
use Rattle.std.specs.Prelude.{is_some, unwrap_or, slice_index, IfOk}
use Rattle.std.specs.Option.{option_and_then, option_map}
use Rattle.std.specs.Str.{is_utf8, bytes_eq}
use Rattle.std.proofs.lemmas.Bool.{true≢false}
use Rattle.std.proofs.lemmas.Slice.Eq.{bytes_eq-Decides}
use Rattle.std.proofs.lemmas.Str.{is_utf8-from_IsUtf8, IsUtf8-from_ascii}
use Rattle.url.specs.declared.host.Host.{Host}
use Rattle.url.specs.declared.host.Host.TheVariants.{Domain}
use Rattle.url.specs.declared.scheme.SchemeType.TheVariants.{NotSpecial, SpecialNotFile}
use Rattle.url.specs.Canonical.{IsCanonicalAs}
use Rattle.url.specs.Host.{is_empty_host, host_text}
use Rattle.url.specs.Input.{when}
use Rattle.url.specs.Path.{IsSegmentList}
use Rattle.url.specs.declared.scheme.SchemeType.{SchemeType}
use Rattle.url.specs.Parser.{parse_url}
use Rattle.url.specs.Parts.{Parts, kind_of, has_host, has_authority, nonempty_host, IsValid}
use Rattle.url.specs.Scheme.{scheme_type, default_port}
use Rattle.url.proofs.LayoutLemmas.{IsValidHead_same}
use Rattle.url.proofs.RoundTrip.{ends_visibly}
use Rattle.url.proofs.Theorems.{parse_url-serialize, parse_url-serialize_special}
use Rattle.url.proofs.ValidLemmas.{IsAscii-serialize, segment_list_kept, hierarchical, base_from_authority}
use Rattle.nb_uri.specs.declared.target.UriTarget.{UriTarget}
use Rattle.nb_uri.specs.declared.target.UriTarget.TheVariants.{Tftp, Http, Iscsi}
use Rattle.nb_uri.specs.declared.target.UriError.{UriError}
use Rattle.nb_uri.specs.declared.target.UriError.TheVariants.{BadUri, NoScheme, TooLong}
use Rattle.nb_uri.specs.ImageNames.{AsksForItsPath}
use Rattle.nb_uri.specs.IscsiNames.{IscsiTarget, is_iscsi, iscsi_target}
use Rattle.nb_uri.specs.Resolutions.{GivesOrNoMemory, IsReadBack, IsReliable, IsUrlText, MayBeAsked, NamesItself, StaysBelowRoot, resolution, disk_target, url_target, host_target, scheme_target, url_of, joined_url, whole_of, whole_text, fitted, tftp_path, http_path, has_zero}
use Rattle.percent_encoding.specs.Percent.{percent_decode}
use Rattle.nb_uri.proofs.PathTextLemmas.{path_spelled}
use Rattle.nb_uri.proofs.PieceLemmas.{either_way}
use Rattle.nb_uri.proofs.SendableLemmas.{may_be_sent}
use Rattle.nb_uri.proofs.RefusalLemmas.{host-some, host-none, names-disk, names-url}

abbrev without_fragment : Parts → Parts
without_fragment url = record url { fragment = None }

still_valid : (url : Parts) → IsValid url → IsValid (without_fragment url)
still_valid url valid = record {
  head = IsValidHead_same url (without_fragment url) refl valid.head;
  path = valid.path;
  query = valid.query;
  fragment = tt;
}

kind_of_tftp : scheme_type (codes "tftp") ≡ NotSpecial
unfolding scheme_type default_port
kind_of_tftp = refl

kind_of_http : scheme_type (codes "http") ≡ SpecialNotFile
unfolding scheme_type default_port
kind_of_http = refl

has_some : (host : Option (Host (List ℕ))) → not (is_empty_host (unwrap_or host (Domain []))) ≡ true → is_some host ≡ true
has_some None some = absurd (true≢false (sym some))
has_some (Some host) some = refl

-- a URL of either scheme is read from its text without the fragment
parses_tftp : (url : Parts) (other : Option Parts) → IsReadBack url → has_host url ≡ true → url.scheme ≡ codes "tftp" → parse_url other (whole_of url) ≡ Ok (without_fragment url)
parses_tftp url other back some tftp =
    let cut = without_fragment url in
    let valid = still_valid url back.0 in
    let kind : kind_of cut ≡ NotSpecial = ap scheme_type tftp ∙ kind_of_tftp in
    let canonical = subst (λ k. IsCanonicalAs k url) kind back.1 in
    let authority : has_authority cut ≡ true = has_some url.host some in
    let path = hierarchical cut valid.path (base_from_authority cut authority) in
    let visible = ends_visibly cut valid (segment_list_kept (kind_of cut) cut.path path.0) in
    parse_url-serialize cut other valid (subst (λ k. IsCanonicalAs k cut) (sym kind) (canonical.0, visible, canonical.2))

parses_http : (url : Parts) (other : Option Parts) → IsReadBack url → url.scheme ≡ codes "http" → parse_url other (whole_of url) ≡ Ok (without_fragment url)
parses_http url other back http =
    parse_url-serialize_special (without_fragment url) other (still_valid url back.0) (ap scheme_type http ∙ kind_of_http)

-- neither scheme is `iscsi`
tftp_differs : (scheme rest : List ℕ) → scheme ≡ codes "tftp" → is_iscsi (scheme ++ rest) ≡ false
tftp_differs scheme rest is = rw is refl

http_differs : (scheme rest : List ℕ) → scheme ≡ codes "http" → is_iscsi (scheme ++ rest) ≡ false
http_differs scheme rest is = rw is refl

-- the path of a URL with a host is a list of segments
own_segments : (url : Parts) (kind : SchemeType) → IsValid url → has_host url ≡ true → kind_of url ≡ kind → IsSegmentList kind url.path
own_segments url kind valid some same =
    let list = hierarchical url valid.path (base_from_authority url (has_some url.host some)) in
    subst (λ k. IsSegmentList k url.path) same list.0

query_mark : (query : Option (List ℕ)) → (when (is_some query) (codes "?") ++ unwrap_or query [] ≡ []) ⊎ (slice_index (when (is_some query) (codes "?") ++ unwrap_or query []) 0 ≡ 63)
query_mark None = inl refl
query_mark (Some query) = inr refl

-- what is known of a URL that names a file
record Names (url : Parts) (target : UriTarget) : Type 0 where
  hosted : has_host url ≡ true
  scheme : (url.scheme ≡ codes "tftp") ⊎ (url.scheme ≡ codes "http")
  whole : whole_text target ≡ whole_of url
  rooted : StaysBelowRoot target
  asked : AsksForItsPath target
  sendable : MayBeAsked target

fitted-ok : (made target : UriTarget) → fitted made ≡ Ok target → made ≡ target
fitted-ok made target is = either_way (ltb 16384 (length (whole_text made)))
    (λ long. let never : ◌≡◌ {A = Result UriTarget UriError} (Err TooLong) (Ok target) = rw long at is in absurd (cc never))
    (λ short. let same : ◌≡◌ {A = Result UriTarget UriError} (Ok made) (Ok target) = rw short at is in cc same)

names_scheme : (url : Parts) (host : List ℕ) (target : UriTarget) → IsValid url → has_host url ≡ true → option_map host_text (nonempty_host url) ≡ Some host → scheme_target url host ≡ Ok target → Names url target
names_scheme url host target valid some hosted is =
    either_way (bytes_eq url.scheme (codes "tftp"))
    (λ tftp. either_way (has_zero (tftp_path url))
    (λ zero. let never : ◌≡◌ {A = Result UriTarget UriError} (Err BadUri) (Ok target) = rw (tftp, zero) at is in absurd (cc never))
    (λ clean.
    let made = Tftp host (unwrap_or url.port 69) (tftp_path url) (whole_of url) in
    let same = fitted-ok made target (rw (tftp, clean) at is) in
    let scheme = (bytes_eq-Decides url.scheme (codes "tftp")).0 tftp in
    let list = own_segments url NotSpecial valid some (ap scheme_type scheme ∙ kind_of_tftp) in
    record { hosted = some; scheme = inl scheme; whole = ap whole_text (sym same); rooted = subst StaysBelowRoot same (url.path, list, refl); asked = subst AsksForItsPath same (ap percent_decode (sym (path_spelled url valid (has_some url.host some) list))); sendable = subst MayBeAsked same tt }))
    (λ no_tftp. either_way (bytes_eq url.scheme (codes "http"))
    (λ http.
    let made = Http host (unwrap_or url.port 80) (http_path url) (whole_of url) in
    let same = fitted-ok made target (rw (no_tftp, http) at is) in
    let scheme = (bytes_eq-Decides url.scheme (codes "http")).0 http in
    let list = own_segments url SpecialNotFile valid some (ap scheme_type scheme ∙ kind_of_http) in
    record {
      hosted = some;
      scheme = inr scheme;
      whole = ap whole_text (sym same);
      rooted = subst StaysBelowRoot same (url.path, when (is_some url.query) (codes "?") ++ unwrap_or url.query [], list, refl, query_mark url.query);
      asked = subst AsksForItsPath same tt;
      sendable = subst MayBeAsked same (may_be_sent url host valid some (ap scheme_type scheme ∙ kind_of_http) hosted);
    })
    (λ no_http. let never : ◌≡◌ {A = Result UriTarget UriError} (Err NoScheme) (Ok target) = rw (no_tftp, no_http) at is in absurd (cc never)))

names : (url : Parts) (target : UriTarget) → IsValid url → url_target (Some url) ≡ Ok target → Names url target
names url target valid is = either_way (has_host url)
    (λ some. let host = host-some url some in names_scheme url host.0 target valid some host.1 (sym (ap (host_target url) host.1) ∙ is))
    (λ none. let never : ◌≡◌ {A = Result UriTarget UriError} (Err BadUri) (Ok target) = sym (ap (host_target url) (host-none url none)) ∙ is in absurd (cc never))

parses : (url : Parts) (target : UriTarget) → IsReadBack url → Names url target → (other : Option Parts) → parse_url other (whole_of url) ≡ Ok (without_fragment url)
parses url target back known other = ⊎_elim (λ tftp. parses_tftp url other back known.hosted tftp) (λ http. parses_http url other back http) known.scheme

joined : (url : Parts) (other : Option Parts) → is_utf8 (whole_of url) ≡ true → parse_url other (whole_of url) ≡ Ok (without_fragment url) → joined_url other (whole_of url) ≡ Some (without_fragment url)
joined url other utf8 parsed = rw (utf8, parsed) refl

named-again : (url : Parts) (base : Option (List ℕ)) → IsUrlText base → is_utf8 (whole_of url) ≡ true → ((other : Option Parts) → parse_url other (whole_of url) ≡ Ok (without_fragment url)) → url_of base (whole_of url) ≡ Some (without_fragment url)
named-again url None is utf8 parsed = joined url None utf8 (parsed None)
named-again url (Some base) is utf8 parsed = of_base (joined_url None base) is
  where
    of_base : (found : Option Parts) → is_some found ≡ true → option_and_then (λ first. joined_url (Some first) (whole_of url)) found ≡ Some (without_fragment url)
    of_base None some = absurd (true≢false (sym some))
    of_base (Some first) some = joined url (Some first) utf8 (parsed (Some first))

file-itself : (url : Parts) (target : UriTarget) → IsReadBack url → url_target (Some url) ≡ Ok target → NamesItself target
file-itself url target back is = λ base text.
    let known = names url target back.0 is in
    let utf8 = is_utf8-from_IsUtf8 (whole_of url) (IsUtf8-from_ascii (whole_of url) (IsAscii-serialize (without_fragment url) (still_valid url back.0))) in
    let file : is_iscsi (whole_of url) ≡ false = ⊎_elim (λ tftp. tftp_differs url.scheme _ tftp) (λ http. http_differs url.scheme _ http) known.scheme in
    ap (resolution base) known.whole
    ∙ names-url base (whole_of url) utf8 file
    ∙ ap url_target (named-again url base text utf8 (parses url target back known))
    ∙ is

-- the answer for a URL, and for the name of a disk
pub url-reliable : (url : Parts) (result : Result UriTarget UriError) → IsReadBack url → GivesOrNoMemory result (url_target (Some url)) → IfOk result IsReliable
url-reliable url (Ok target) back gives = let known = names url target back.0 gives in (file-itself url target back gives, known.rooted, known.asked, known.sendable)
url-reliable url (Err e) back gives = tt

disk-whole : (text : List ℕ) (found : Option IscsiTarget) (target : UriTarget) → disk_target text found ≡ Ok target → whole_text target ≡ text
disk-whole text None target is = absurd (let never : ◌≡◌ {A = Result UriTarget UriError} (Err BadUri) (Ok target) = is in cc never)
disk-whole text (Some disk) target is = ap whole_text (sym (fitted-ok (Iscsi disk.server disk.port disk.lun disk.target text) target is))

disk-rooted : (text : List ℕ) (found : Option IscsiTarget) (target : UriTarget) → disk_target text found ≡ Ok target → StaysBelowRoot target
disk-rooted text None target is = absurd (let never : ◌≡◌ {A = Result UriTarget UriError} (Err BadUri) (Ok target) = is in cc never)
disk-rooted text (Some disk) target is = subst StaysBelowRoot (fitted-ok (Iscsi disk.server disk.port disk.lun disk.target text) target is) tt

disk-asked : (text : List ℕ) (found : Option IscsiTarget) (target : UriTarget) → disk_target text found ≡ Ok target → AsksForItsPath target
disk-asked text None target is = absurd (let never : ◌≡◌ {A = Result UriTarget UriError} (Err BadUri) (Ok target) = is in cc never)
disk-asked text (Some disk) target is = subst AsksForItsPath (fitted-ok (Iscsi disk.server disk.port disk.lun disk.target text) target is) tt

disk-sendable : (text : List ℕ) (found : Option IscsiTarget) (target : UriTarget) → disk_target text found ≡ Ok target → MayBeAsked target
disk-sendable text None target is = absurd (let never : ◌≡◌ {A = Result UriTarget UriError} (Err BadUri) (Ok target) = is in cc never)
disk-sendable text (Some disk) target is = subst MayBeAsked (fitted-ok (Iscsi disk.server disk.port disk.lun disk.target text) target is) tt

pub disk-reliable : (text : List ℕ) (result : Result UriTarget UriError) → is_utf8 text ≡ true → is_iscsi text ≡ true → GivesOrNoMemory result (disk_target text (iscsi_target (drop 6 text))) → IfOk result IsReliable
disk-reliable text (Ok target) utf8 iscsi gives = (
  λ base _. ap (resolution base) (disk-whole text (iscsi_target (drop 6 text)) target gives) ∙ names-disk base text utf8 iscsi ∙ gives,
  disk-rooted text (iscsi_target (drop 6 text)) target gives,
  disk-asked text (iscsi_target (drop 6 text)) target gives,
  disk-sendable text (iscsi_target (drop 6 text)) target gives,
)
disk-reliable text (Err e) utf8 iscsi gives = tt
