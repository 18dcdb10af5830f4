-- What is asked of an HTTP server for a file: its request is that of its URL, which is short.
use Rattle.std.proofs.Common.{◌≡◌, ◌≤◌, ℕ, Bool, true, false, cond, drop, length, List, Option, None, Some, Result, Ok, Err, refl, sym, ◌∙◌, ap, subst, arith, ltb-false}
use Rattle.std.specs.Prelude.{codes, nat_lt, unwrap_or}
use Rattle.std.specs.Option.{option_map}
use Rattle.std.specs.Str.{is_utf8, bytes_eq}
use Rattle.url.specs.Host.{host_text}
use Rattle.url.specs.Parts.{Parts, nonempty_host}
use Rattle.nb_uri.specs.declared.target.UriError.{UriError}
use Rattle.nb_uri.specs.declared.target.UriError.TheVariants.{BadUri, NoScheme, TooLong}
use Rattle.nb_uri.specs.declared.target.UriTarget.{UriTarget}
use Rattle.nb_uri.specs.declared.target.UriTarget.TheVariants.{Tftp, Http, Iscsi}
use Rattle.nb_uri.specs.IscsiNames.{IscsiTarget, iscsi_target, is_iscsi}
use Rattle.nb_uri.specs.Resolutions.{HasCleanPath, MayBeAsked, disk_target, fitted, has_zero, host_target, http_file, http_path, resolution, tftp_file, tftp_path, url_of, url_target, whole_of, whole_text}
use Rattle.nb_tftpmsg.specs.Texts.{HasNoZero}
use Rattle.nb_imagecmd.specs.declared.asking.Asking.{Asking}
use Rattle.nb_imagecmd.specs.Asking.{has_long_path, is_file, target_text}
use Rattle.nb_nodes.specs.Asking.{is_path}
use Rattle.nb_machine.specs.Lives.{Live}
use Rattle.nb_machine.specs.Scripts.{transfer_for}
use Rattle.nb_machine.specs.Webs.{request_of_target}
use Rattle.nb_open.specs.declared.opening.Opening.TheVariants.{Web}
use Rattle.nb_open.specs.declared.opening.WebOpening.{WebOpening}
use Rattle.nb_open.specs.Opening.{AsksItsUrl, live_by}
use Rattle.nb_runner.specs.CommandWords.{IsAskedWell, wanted_of}
use Rattle.nb_runner.specs.declared.errand.Wanted.{Wanted}
use Rattle.nb_runner.specs.declared.world.World.{World}
use Rattle.nb_network.specs.Openings.{AsksFrom}
use Rattle.nb_client.specs.Beginnings.{IsConnectionBy, own_address}
use Rattle.nb_client.specs.Snapshots.{state_of_world}
use Rattle.nb_client.proofs.OpenRecords.{path_opens}

-- HOW LONG A URI IS

-- what a text names, if anything, has a short URI
abbrev Fits : Result UriTarget UriError → Type 0
Fits (Ok target) = length (whole_text target) ≤ 16384
Fits (Err why) = Unit {0}

either : (b : Bool) (x y : Result UriTarget UriError) → Fits x → Fits y → Fits (cond b x y)
either true x y p q = p
either false x y p q = q

fitted_fits : (target : UriTarget) → Fits (fitted target)
fitted_fits target = by (nat_lt 16384 (length (whole_text target))) refl
  where
    by : (b : Bool) → nat_lt 16384 (length (whole_text target)) ≡ b → Fits (cond b (Err TooLong) (Ok target))
    by true e = tt
    by false e = ltb-false 16384 (length (whole_text target)) e

host_fits : (url : Parts) (host : Option (List ℕ)) → Fits (host_target url host)
host_fits url None = tt
host_fits url (Some host) = either (bytes_eq url.scheme (codes "tftp")) (tftp_file url host) _
    (either (has_zero (tftp_path url)) (Err BadUri) _ tt (fitted_fits (Tftp host (unwrap_or url.port 69) (tftp_path url) (whole_of url))))
    (either (bytes_eq url.scheme (codes "http")) (http_file url host) (Err NoScheme) (fitted_fits (Http host (unwrap_or url.port 80) (http_path url) (whole_of url))) tt)

url_target_fits : (url : Option Parts) → Fits (url_target url)
url_target_fits None = tt
url_target_fits (Some url) = host_fits url (option_map host_text (nonempty_host url))

disk_fits : (text : List ℕ) (disk : Option IscsiTarget) → Fits (disk_target text disk)
disk_fits text None = tt
disk_fits text (Some disk) = fitted_fits (Iscsi disk.server disk.port disk.lun disk.target text)

resolution_fits : (base : Option (List ℕ)) (text : List ℕ) → Fits (resolution base text)
unfolding resolution
resolution_fits base text = either (is_utf8 text) _ (Err BadUri) (either (is_iscsi text) _ _ (disk_fits text (iscsi_target (drop 6 text))) (url_target_fits (url_of base text))) tt

url_fits : (text : List ℕ) (target : UriTarget) → resolution None text ≡ Ok target → length (whole_text target) ≤ 16384
url_fits text target is = subst Fits is (resolution_fits None text)

-- WHAT IS ASKED FOR

-- a TFTP server may be asked for its file's path, and none for a disk
pub path_asked : (asking : Asking) (host path whole : List ℕ) (port : ℕ) → asking.target ≡ Tftp host port path whole → IsAskedWell asking → is_path (target_text asking.target) ≡ true
path_asked asking host path whole port is fits =
    let clean : HasNoZero path = subst HasCleanPath is fits.fetched.clean in
    let short : nat_lt 1024 (length path) ≡ false = subst (λ t. has_long_path t ≡ false) is fits.fetched.path in
    rw is (path_opens path clean (ltb-false 1024 (length path) short))

pub no_disk_asked : (asking : Asking) (host name whole lun : List ℕ) (port : ℕ) → asking.target ≡ Iscsi host port lun name whole → IsAskedWell asking → ⊥
no_disk_asked asking host name whole lun port is fits = let file : false ≡ true = subst (λ t. is_file t ≡ true) is fits.fetched.file in cc

module _ (wanted : Wanted) (host path whole : List ℕ) (port : ℕ) (is : wanted.asking.target ≡ Http host port path whole) where
  -- its request is that of its URL
  pub asks_its_url : (a : WebOpening) → IsAskedWell wanted.asking → a.ask.host.now ≡ host → a.ask.conn.peer_port ≡ port → a.ask.path.now ≡ path → a.url.now ≡ whole → AsksItsUrl a
  asks_its_url a fits same_host same_port same_path same_url =
      let itself : resolution None whole ≡ Ok (Http host port path whole) =
      subst (λ t. resolution None (whole_text t) ≡ Ok t) is (fits.fetched.itself None tt) in
      let sendable : MayBeAsked (Http host port path whole) = subst MayBeAsked is fits.fetched.sendable in
      record {
        request = rw (same_host, same_port, same_path, same_url) (sym (ap request_of_target itself));
        sendable = rw (same_host, same_path) sendable;
        fits = rw same_url (omega (arith, url_fits whole (Http host port path whole) itself));
      }

  -- and it is the machine's next open
  pub web_live : (w : World) (live : List Live) (a : WebOpening) → IsConnectionBy w wanted.server port a.ask.conn → a.url.now ≡ whole →
      live_by (Web a) w.opens w.time ≡ transfer_for (state_of_world w live) (wanted_of wanted)
  web_live w live a conn same_url = rw (is, conn.isn, conn.peer, conn.peer_port, conn.own_port, same_url) refl

  -- from the client's own address
  pub asks_from : (w : World) (a : WebOpening) → IsConnectionBy w wanted.server port a.ask.conn → AsksFrom w.net.address (Web a)
  asks_from w a conn = λ address is_own. sym (conn.own ∙ ap own_address is_own)
