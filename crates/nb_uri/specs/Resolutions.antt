-- URL Standard, sections 4.4 and 4.5 (RFC 3986, sections 4.1 and 5): what a URI names, joined to a base. Own:
-- which schemes are read, and how many bytes a URI may have.
use Rattle.std.specs.Prelude.{◌≡◌, ◌≤◌, ◌⊎◌, ℕ, Bool, true, nat_lt, nat_eq, List, ◌++◌, [], length, drop, slice_index, Option, Some, None, unwrap_or, is_some, Result, Ok, Err, MatchResult, codes, bytes_eq, ⊤, if◌then◌else◌}
use Rattle.std.specs.List.{list_any}
use Rattle.std.specs.Option.{option_map, option_and_then}
use Rattle.std.specs.Result.{result_ok}
use Rattle.std.specs.Str.{is_utf8}
use Rattle.percent_encoding.specs.Percent.{percent_decode}
use Rattle.url.specs.Host.{host_text}
use Rattle.url.specs.Input.{when}
use Rattle.url.specs.declared.scheme.SchemeType.TheVariants.{NotSpecial, SpecialNotFile}
use Rattle.url.specs.Parser.{parse_url}
use Rattle.url.specs.Path.{IsSegmentList}
use Rattle.url.specs.Canonical.{IsCanonical}
use Rattle.url.specs.Parts.{Parts, nonempty_host, serialize, IsValid}
use Rattle.nb_tftpmsg.specs.Texts.{HasNoZero}
use Rattle.nb_responses.specs.Requests.{IsSendable}
use Rattle.nb_uri.specs.declared.target.UriTarget.{UriTarget}
use Rattle.nb_uri.specs.declared.target.UriTarget.TheVariants.{Tftp, Http, Iscsi}
use Rattle.nb_uri.specs.declared.target.UriError.{UriError}
use Rattle.nb_uri.specs.declared.target.UriError.TheVariants.{BadUri, NoScheme, TooLong, NoMemory}
use Rattle.nb_uri.specs.ImageNames.{AsksForItsPath}
use Rattle.nb_uri.specs.IscsiNames.{IscsiTarget, is_iscsi, iscsi_target}

-- the result is the one expected, unless memory ran out
abbrev pub GivesOrNoMemory : {T : Type 0} → Result T UriError → Result T UriError → Type 0
GivesOrNoMemory result expected =
    MatchResult result (λ value. expected ≡ Ok value) (λ why. (expected ≡ Err why) ⊎ (why ≡ NoMemory))

-- the URL of a text in UTF-8, joined to a URL where there is one
abbrev pub joined_url : Option Parts → List ℕ → Option Parts
joined_url base text = if is_utf8 text then result_ok (parse_url base text) else None

-- the URL that a text names; a base is the text of a URL
abbrev pub url_of : Option (List ℕ) → List ℕ → Option Parts
url_of None text = joined_url None text
url_of (Some base) text = option_and_then (λ url. joined_url (Some url) text) (joined_url None base)

-- the result is that URL; where there is none, it isn't one
abbrev pub GivesUrl : Result Parts UriError → Option Parts → Type 0
GivesUrl result expected =
    MatchResult result (λ url. expected ≡ Some url) (λ why. ((why ≡ BadUri) × (expected ≡ None)) ⊎ (why ≡ NoMemory))

-- the text of a URL without its fragment, which no server is sent
abbrev pub whole_of : Parts → List ℕ
whole_of url = serialize (record url { fragment = None })

-- what a TFTP server is asked for: the path, decoded, without its first slash
abbrev pub tftp_path : Parts → List ℕ
tftp_path url = percent_decode (drop 1 url.path)

-- what an HTTP server is asked for: the path and the query, also where that is empty
abbrev pub http_path : Parts → List ℕ
http_path url = url.path ++ (when (is_some url.query) (codes "?") ++ unwrap_or url.query [])

abbrev pub whole_text : UriTarget → List ℕ
whole_text (Tftp host port path whole) = whole
whole_text (Http host port path whole) = whole
whole_text (Iscsi host port lun name whole) = whole

-- the target, if its URI isn't too long
abbrev pub fitted : UriTarget → Result UriTarget UriError
fitted target = if nat_lt 16384 (length (whole_text target)) then Err TooLong else Ok target

abbrev pub has_zero : List ℕ → Bool
has_zero bytes = list_any (λ byte. nat_eq byte 0) bytes

-- a file of a TFTP server; no path that is sent holds a zero byte
abbrev pub tftp_file : Parts → List ℕ → Result UriTarget UriError
tftp_file url host =
    if has_zero (tftp_path url) then Err BadUri
    else fitted (Tftp host (unwrap_or url.port 69) (tftp_path url) (whole_of url))

abbrev pub http_file : Parts → List ℕ → Result UriTarget UriError
http_file url host = fitted (Http host (unwrap_or url.port 80) (http_path url) (whole_of url))

-- what a URL with this host names, by its scheme
abbrev pub scheme_target : Parts → List ℕ → Result UriTarget UriError
scheme_target url host =
    if bytes_eq url.scheme (codes "tftp") then tftp_file url host
    else if bytes_eq url.scheme (codes "http") then http_file url host
    else Err NoScheme

-- without a host it names nothing, whatever its scheme
abbrev pub host_target : Parts → Option (List ℕ) → Result UriTarget UriError
host_target url None = Err BadUri
host_target url (Some host) = scheme_target url host

abbrev pub url_target : Option Parts → Result UriTarget UriError
url_target None = Err BadUri
url_target (Some url) = host_target url (option_map host_text (nonempty_host url))

-- a logical unit of an iSCSI target
abbrev pub disk_target : List ℕ → Option IscsiTarget → Result UriTarget UriError
disk_target text None = Err BadUri
disk_target text (Some disk) = fitted (Iscsi disk.server disk.port disk.lun disk.target text)

-- what a text names, or why it names nothing: the name of an iSCSI target stands alone, every other text is
-- read by the URL Standard
unfoldable pub resolution : Option (List ℕ) → List ℕ → Result UriTarget UriError
resolution base text =
    if is_utf8 text
    then (if is_iscsi text then disk_target text (iscsi_target (drop 6 text)) else url_target (url_of base text))
    else Err BadUri

-- the URL's text is read as that URL again
abbrev pub IsReadBack : Parts → Type 0
IsReadBack url = IsValid url × IsCanonical url

-- the base, where there is one, is the text of a URL
abbrev pub IsUrlText : Option (List ℕ) → Type 0
IsUrlText None = ⊤
IsUrlText (Some base) = is_some (joined_url None base) ≡ true

-- the URI of the target names that target again, whatever it is joined to
abbrev pub NamesItself : UriTarget → Type 0
NamesItself target = (base : Option (List ℕ)) → IsUrlText base → resolution base (whole_text target) ≡ Ok target

-- no segment of the path is `.` or `..`, whether escaped or not: it is the decoded text of such segments, or they
-- and a query
abbrev pub StaysBelowRoot : UriTarget → Type 0
StaysBelowRoot (Tftp host port path whole) = (raw : List ℕ) × IsSegmentList NotSpecial raw × (path ≡ percent_decode (drop 1 raw))
StaysBelowRoot (Http host port path whole) =
    (raw : List ℕ) × (query : List ℕ) × IsSegmentList SpecialNotFile raw × (path ≡ raw ++ query) × ((query ≡ []) ⊎ (slice_index query 0 ≡ 63))
StaysBelowRoot (Iscsi host port lun name whole) = ⊤

-- a request may name the host and ask for the path of a resource as they are
abbrev pub MayBeAsked : UriTarget → Type 0
MayBeAsked (Tftp host port path whole) = ⊤
MayBeAsked (Http host port path whole) = IsSendable host path
MayBeAsked (Iscsi host port lun name whole) = ⊤

abbrev pub IsReliable : UriTarget → Type 0
IsReliable target = NamesItself target × StaysBelowRoot target × AsksForItsPath target × MayBeAsked target

-- a path that a TFTP server may be asked for
abbrev pub HasCleanPath : UriTarget → Type 0
HasCleanPath (Tftp host port path whole) = HasNoZero path
HasCleanPath (Http host port path whole) = ⊤
HasCleanPath (Iscsi host port lun name whole) = ⊤

-- a server's name, which stands in the URI, is as short as that
abbrev pub HasShortHost : UriTarget → Type 0
HasShortHost (Tftp host port path whole) = ⊤
HasShortHost (Http host port path whole) = length host ≤ 16384
HasShortHost (Iscsi host port lun name whole) = ⊤

abbrev pub HostsAreShort : Type 0
HostsAreShort = (base : Option (List ℕ)) (text : List ℕ) (target : UriTarget) → resolution base text ≡ Ok target → HasShortHost target
