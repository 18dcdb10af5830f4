-- How long the name of a target is that a URI names.
use Rattle.std.proofs.Common.{◌≡◌, ℕ, ◌≤◌, Bool, true, false, cond, List, length, codes, drop, Option, Some, None, Result, Ok, Err, refl, subst}
use Rattle.std.specs.Prelude.{unwrap_or, nat_lt, ⊤}
use Rattle.std.specs.Option.{option_map}
use Rattle.std.specs.Str.{is_utf8, bytes_eq}
use Rattle.url.specs.Host.{host_text}
use Rattle.url.specs.Parts.{Parts, nonempty_host}
use Rattle.nb_uri.specs.declared.target.UriTarget.{UriTarget}
use Rattle.nb_uri.specs.declared.target.UriTarget.TheVariants.{Tftp, Http, Iscsi}
use Rattle.nb_uri.specs.declared.target.UriError.{UriError}
use Rattle.nb_uri.specs.declared.target.UriError.TheVariants.{BadUri, NoScheme, TooLong}
use Rattle.nb_uri.specs.IscsiNames.{IscsiTarget, NamesAreSpelled, is_iscsi, iscsi_target}
use Rattle.nb_uri.specs.Resolutions.{resolution, disk_target, url_target, host_target, scheme_target, url_of, whole_of, fitted, tftp_file, tftp_path, http_file, http_path, has_zero}
use Rattle.nb_drivecmd.specs.declared.disk_names.NamedDisk.{NamedDisk}
use Rattle.nb_drivecmd.specs.DiskNames.{named_disk, disk_by}
use Rattle.nb_drivelogin.proofs.SentNames.{disk_is}

-- the name of a target, if a text names one
abbrev Fits : Result UriTarget UriError → Type 0
Fits (Ok (Tftp host port path whole)) = ⊤
Fits (Ok (Http host port path whole)) = ⊤
Fits (Ok (Iscsi host port lun name whole)) = length name ≤ 223
Fits (Err why) = ⊤

either : (b : Bool) (x y : Result UriTarget UriError) → Fits x → Fits y → Fits (cond b x y)
either true x y p q = p
either false x y p q = q

scheme_fits : (url : Parts) (host : List ℕ) → Fits (scheme_target url host)
scheme_fits url host = either (bytes_eq url.scheme (codes "tftp")) (tftp_file url host) _
    (either (has_zero (tftp_path url)) (Err BadUri) (fitted tftp) tt (either (nat_lt 16384 (length (whole_of url))) (Err TooLong) (Ok tftp) tt tt))
    (either (bytes_eq url.scheme (codes "http")) (http_file url host) (Err NoScheme) (either (nat_lt 16384 (length (whole_of url))) (Err TooLong) (Ok http) tt tt) tt)
  where
    tftp : UriTarget
    tftp = Tftp host (unwrap_or url.port 69) (tftp_path url) (whole_of url)

    http : UriTarget
    http = Http host (unwrap_or url.port 80) (http_path url) (whole_of url)

host_fits : (url : Parts) (host : Option (List ℕ)) → Fits (host_target url host)
host_fits url None = tt
host_fits url (Some host) = scheme_fits url host

url_fits : (o : Option Parts) → Fits (url_target o)
url_fits None = tt
url_fits (Some url) = host_fits url (option_map host_text (nonempty_host url))

disk_fits : NamesAreSpelled → (text name : List ℕ) (o : Option IscsiTarget) → iscsi_target name ≡ o → Fits (disk_target text o)
disk_fits spelled text name None is = tt
disk_fits spelled text name (Some disk) is =
    either (nat_lt 16384 (length text)) (Err TooLong) (Ok (Iscsi disk.server disk.port disk.lun disk.target text)) tt ((spelled name disk).0 is).name_fits

resolved_fits : NamesAreSpelled → (base : Option (List ℕ)) (text : List ℕ) → Fits (resolution base text)
unfolding resolution
resolved_fits spelled base text = either (is_utf8 text) _ (Err BadUri) (either (is_iscsi text) _ _ (disk_fits spelled text (drop 6 text) (iscsi_target (drop 6 text)) refl) (url_fits (url_of base text))) tt

hooked_fits : (r : Result UriTarget UriError) (disk : NamedDisk) → Fits r → disk_by r ≡ Ok disk → length disk.name ≤ 223
hooked_fits (Ok (Tftp host port path whole)) disk fits is = absurd (let z = is in cc)
hooked_fits (Ok (Http host port path whole)) disk fits is = absurd (let z = is in cc)
hooked_fits (Ok (Iscsi host port lun name whole)) disk fits is =
    let one : NamedDisk = record { host = host; port = port; lun = lun; name = name } in
    subst (λ (d : NamedDisk). length d.name ≤ 223) (disk_is (has_zero name) one disk is).1 fits
hooked_fits (Err why) disk fits is = absurd (let z = is in cc)

-- the disk that a word names
pub name_fits : NamesAreSpelled → (base : Option (List ℕ)) (uri : List ℕ) (disk : NamedDisk) → named_disk base uri ≡ Ok disk → length disk.name ≤ 223
name_fits spelled base uri disk is = hooked_fits (resolution base uri) disk (resolved_fits spelled base uri) is
