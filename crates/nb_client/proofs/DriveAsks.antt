-- What is asked of a disk's server: its unit of its target, by a login whose names may be sent.
use Rattle.std.proofs.Common.{◌≡◌, ℕ, ◌<◌, ◌≤◌, Bool, true, false, List, [], ◌∷◌, ◌++◌, length, None, refl, sym, ◌∙◌, ap, subst, arith}
use Rattle.std.specs.List.{AllByRecursion}
use Rattle.std.proofs.lemmas.List.{length-append}
use Rattle.nb_wire.specs.declared.address.Ip4.{Ip4}
use Rattle.nb_conns.specs.declared.conn_ask.ConnAsk.{ConnAsk}
use Rattle.nb_settings.specs.Tables.{TableLists}
use Rattle.nb_ibft.specs.Infos.{AreShortTexts}
use Rattle.nb_login.specs.Refusals.{zero_name}
use Rattle.nb_login.specs.declared.info.LoginInfo.{LoginInfo}
use Rattle.nb_drivecmd.specs.declared.disk_names.NamedDisk.{NamedDisk}
use Rattle.nb_drivecmd.specs.declared.drive.Drive.{Drive}
use Rattle.nb_drivecmd.specs.declared.outcome.Hooking.{Hooking}
use Rattle.nb_drivelogin.specs.DriveLogins.{FitsTable, login_by, login_texts}
use Rattle.nb_drivenodes.specs.DriveAsks.{info_of}
use Rattle.nb_machine.specs.Lives.{Live, iscsi}
use Rattle.nb_machine.specs.States.{net0}
use Rattle.nb_network.specs.Openings.{AsksFrom}
use Rattle.nb_open.specs.Opening.{NamesItsTarget, live_by}
use Rattle.nb_open.specs.declared.opening.DriveOpening.{DriveOpening}
use Rattle.nb_open.specs.declared.opening.Opening.TheVariants.{Drive as Hooked}
use Rattle.nb_runner.specs.declared.world.World.{World}
use Rattle.nb_client.specs.Asked.{live_of_disk, target_of}
use Rattle.nb_client.specs.Beginnings.{IsConnectionBy, own_address}
use Rattle.nb_client.specs.Snapshots.{state_of_world}
use Rattle.nb_client.specs.Soundness.{FitsDisk, HasRoomIf}
use Rattle.nb_client.specs.declared.asked.AskedDisk.{AskedDisk}

-- a drive more may be hooked, where few are
pub room_if : (b : Bool) (ds : List Drive) → length ds < 2 → HasRoomIf b ds
room_if true ds few = few
room_if false ds few = tt

short_names : (texts : List (List ℕ)) → AreShortTexts texts → AllByRecursion (λ (text : List ℕ). length text ≤ 65535) texts
short_names [] short = tt
short_names (text ∷ texts) short = (omega (arith, short.0), short_names texts short.1)

-- A DISK THAT A URI NAMES

module _ (disk : NamedDisk) (words : List ℕ) (table : TableLists) where
  target_is : (login_by disk words table).target ≡ disk.name
  unfolding login_by
  target_is = refl

  unit_is : (login_by disk words table).lun ≡ disk.lun
  unfolding login_by
  unit_is = refl

-- it fits
pub disk_fits : (hooking : Hooking) (server : Ip4) (words target : List ℕ) (table : TableLists) (login : LoginInfo) → login ≡ login_by hooking.disk words table → target ≡ target_of hooking.disk → length hooking.disk.lun ≡ 8 →
    length hooking.disk.name ≤ 223 → FitsTable login → zero_name (login_by hooking.disk words table) ≡ None → FitsDisk (record { hooking = hooking; server = server; login = login; target = target })
disk_fits hooking server words target table login by is unit short texts sendable =
    let d = hooking.disk in
    let name : login.target ≡ d.name = ap (λ (i : LoginInfo). i.target) by ∙ target_is d words table in
    let lun : login.lun ≡ d.lun = ap (λ (i : LoginInfo). i.lun) by ∙ unit_is d words table in
    record {
      target = is ∙ (ap (λ (n : List ℕ). n ++ 0 ∷ d.lun) (sym name) ∙ ap (λ (u : List ℕ). login.target ++ 0 ∷ u) (sym lun));
      short = subst (λ (n : List ℕ). length n ≤ 223) (sym name) short;
      unit = ap length lun ∙ unit;
      texts = texts;
      sendable = ap zero_name by ∙ sendable;
    }

-- ITS OPEN

module _ (disk : AskedDisk) (w : World) (a : DriveOpening) (conn : IsConnectionBy w disk.server disk.hooking.disk.port a.ask.conn) where
  abbrev live_at : ConnAsk → LoginInfo → List ℕ → Live
  live_at c i target = record { number = w.opens; kind = iscsi c.isn i; device = net0; server = c.peer.0; port = c.peer_port; own = c.own_port; target = target; since = w.time; exchanges = [] }

  -- it is the machine's next open
  pub drive_live : info_of a.ask ≡ disk.login → a.target.now ≡ disk.target → (live : List Live) → live_by (Hooked a) w.opens w.time ≡ live_of_disk (state_of_world w live) disk
  drive_live info target live =
      ap (λ (i : LoginInfo). live_at a.ask.conn i a.target.now) info
      ∙ (ap (λ (t : List ℕ). live_at a.ask.conn disk.login t) target ∙ rw (conn.isn, conn.peer, conn.peer_port, conn.own_port) refl)

  -- it may be opened
  pub drive_can : info_of a.ask ≡ disk.login → a.target.now ≡ disk.target → FitsDisk disk → NamesItsTarget a
  drive_can info target fits =
      let name : a.ask.names.target.now ≡ disk.login.target = ap (λ (i : LoginInfo). i.target) info in
      let lun : a.ask.lun ≡ disk.login.lun = ap (λ (i : LoginInfo). i.lun) info in
      let is = target ∙ fits.target in
      let long = length-append disk.login.target (0 ∷ disk.login.lun) in
      record {
        fits = subst (λ (t : List ℕ). length t ≤ 65535) (sym is) (omega (arith, long, fits.short, fits.unit));
        target = is ∙ (ap (λ (n : List ℕ). n ++ 0 ∷ disk.login.lun) (sym name) ∙ ap (λ (u : List ℕ). a.ask.names.target.now ++ 0 ∷ u) (sym lun));
        names = short_names (login_texts (info_of a.ask)) (subst FitsTable (sym info) fits.texts);
        sendable = ap zero_name info ∙ fits.sendable;
      }

  -- from the client's own address
  pub drive_from : AsksFrom w.net.address (Hooked a)
  drive_from = λ address is_own. sym (conn.own ∙ ap own_address is_own)
