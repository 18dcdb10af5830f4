-- How long a server's name may be.
use Rattle.std.proofs.Common.{◌≡◌, ℕ, ◌≤◌, ltb-false, Bool, true, false, cond, not, List, [], ◌∷◌, ◌++◌, length, codes, Option, Some, None, Result, Ok, Err, refl, sym, ap, subst, arith, length-append}
use Rattle.std.specs.Prelude.{is_some, unwrap_or, nat_lt, decimal, ⊤}
use Rattle.std.specs.List.{concat}
use Rattle.std.specs.Option.{option_map}
use Rattle.std.specs.Str.{is_utf8, bytes_eq}
use Rattle.url.specs.declared.host.Host.{Host}
use Rattle.url.specs.declared.host.Host.TheVariants.{Domain}
use Rattle.url.specs.Host.{host_text}
use Rattle.url.specs.Input.{is_empty, when}
use Rattle.url.specs.Parts.{Parts, has_host, has_authority, has_credentials, host_or_empty, needs_guard, nonempty_host}
use Rattle.nb_uri.specs.declared.target.UriTarget.{UriTarget}
use Rattle.nb_uri.specs.declared.target.UriTarget.TheVariants.{Tftp, Http, Iscsi}
use Rattle.nb_uri.specs.declared.target.UriError.{UriError}
use Rattle.nb_uri.specs.declared.target.UriError.TheVariants.{BadUri, NoScheme, TooLong}
use Rattle.nb_uri.specs.IscsiNames.{IscsiTarget, is_iscsi, iscsi_target}
use Rattle.nb_uri.specs.Resolutions.{HasShortHost, HostsAreShort, resolution, disk_target, url_target, host_target, scheme_target, url_of, whole_of, whole_text, fitted, tftp_file, tftp_path, http_file, http_path, has_zero}

pieces_within : (before : List (List ℕ)) (piece : List ℕ) (after : List (List ℕ)) → length piece ≤ length (concat (before ++ (piece ∷ after)))
pieces_within [] piece after = simp length-append (omega arith)
pieces_within (x ∷ xs) piece after = simp length-append (omega (arith, pieces_within xs piece after))

host_within : (url : Parts) → length (host_text (host_or_empty url)) ≤ length (whole_of url)
host_within url = pieces_within
    (url.scheme ∷ cond (has_authority url) (codes "://") (codes ":") ∷ url.username ∷ when (not (is_empty url.password)) (codes ":") ∷ url.password ∷ when (has_credentials url) (codes "@") ∷ [])
    (host_text (host_or_empty url))
    (when (is_some url.port) (codes ":") ∷ unwrap_or (option_map decimal url.port) [] ∷ when (needs_guard url) (codes "/.") ∷ url.path ∷ when (is_some url.query) (codes "?") ∷ unwrap_or url.query [] ∷ when false (codes "#") ∷ [] ∷ [])

-- what a text names, if anything
abbrev Fits : Result UriTarget UriError → Type 0
Fits (Ok target) = HasShortHost target
Fits (Err why) = ⊤

either : (b : Bool) (x y : Result UriTarget UriError) → Fits x → Fits y → Fits (cond b x y)
either true x y p q = p
either false x y p q = q

fitted_short : (host : List ℕ) (port : ℕ) (path whole : List ℕ) → length host ≤ length whole → Fits (fitted (Http host port path whole))
fitted_short host port path whole few = by (nat_lt 16384 (length whole)) refl
  where
    by : (b : Bool) → nat_lt 16384 (length whole) ≡ b → Fits (cond b (Err TooLong) (Ok (Http host port path whole)))
    by true e = tt
    by false e = omega (arith, few, ltb-false 16384 (length whole) e)

scheme_short : (url : Parts) (host : List ℕ) → length host ≤ length (whole_of url) → Fits (scheme_target url host)
scheme_short url host few = either (bytes_eq url.scheme (codes "tftp")) (tftp_file url host) _
    (either (has_zero (tftp_path url)) (Err BadUri) (fitted tftp) tt (either (nat_lt 16384 (length (whole_of url))) (Err TooLong) (Ok tftp) tt tt))
    (either (bytes_eq url.scheme (codes "http")) (http_file url host) (Err NoScheme) (fitted_short host (unwrap_or url.port 80) (http_path url) (whole_of url) few) tt)
  where
    tftp : UriTarget
    tftp = Tftp host (unwrap_or url.port 69) (tftp_path url) (whole_of url)

host_short : (url : Parts) → Fits (url_target (Some url))
host_short url = by (has_host url) url.host refl
  where
    by : (b : Bool) (o : Option (Host (List ℕ))) → url.host ≡ o → Fits (host_target url (option_map host_text (cond b o None)))
    by false o e = tt
    by true None e = tt
    by true (Some host) e =
        let same : length (host_text (host_or_empty url)) ≡ length (host_text host) = ap (λ (o : Option (Host (List ℕ))). length (host_text (unwrap_or o (Domain [])))) e in
        scheme_short url (host_text host) (omega (arith, same, host_within url))

url_short : (o : Option Parts) → Fits (url_target o)
url_short None = tt
url_short (Some url) = host_short url

disk_short : (text : List ℕ) (o : Option IscsiTarget) → Fits (disk_target text o)
disk_short text None = tt
disk_short text (Some disk) = either (nat_lt 16384 (length text)) (Err TooLong) (Ok (Iscsi disk.server disk.port disk.lun disk.target text)) tt tt

resolved_short : (base : Option (List ℕ)) (text : List ℕ) → Fits (resolution base text)
unfolding resolution
resolved_short base text = either (is_utf8 text) _ (Err BadUri) (either (is_iscsi text) _ _ (disk_short text _) (url_short (url_of base text))) tt

pub hosts-short : HostsAreShort
hosts-short base text target is = subst Fits is (resolved_short base text)
