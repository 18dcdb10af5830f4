-- What holds of a client between two calls, by where its run stands.
use Rattle.std.specs.Prelude.{◌≡◌, ◌<◌, ◌≤◌, ◌*◌, ℕ, ◌==◌, Bool, true, false, List, [], ◌∷◌, ◌++◌, length, filter, find, Option, Some, None}
use Rattle.std.specs.List.{AllByRecursion, list_any}
use Rattle.std.specs.Option.{is_some, option_and_then}
use Rattle.nb_record.specs.Logged.{Logged}
use Rattle.nb_imagecmd.specs.Promises.{HasShortNames}
use Rattle.nb_drivecmd.specs.declared.drive.Drive.{Drive}
use Rattle.nb_drivelogin.specs.DriveLogins.{FitsTable}
use Rattle.nb_login.specs.Refusals.{zero_name}
use Rattle.nb_machine.specs.Kinds.{answered, read_last}
use Rattle.nb_machine.specs.Lives.{OpenInput, message, tcp_segment, time as time_comes, task, close, OpenKind, tftp, http, iscsi, dns, dhcp, ping, Exchange as Came, Live}
use Rattle.nb_machine.specs.Scripts.{has_number}
use Rattle.nb_network.specs.declared.living.Living.{Living as TheOpen}
use Rattle.nb_runner.specs.declared.world.World.{World}
use Rattle.nb_runner.specs.declared.errand.Onward.{Onward}
use Rattle.nb_runner.specs.declared.query.Query.TheVariants as query
use Rattle.nb_runner.specs.CommandWords.{IsAskedWell, FitsOnward, onward_hooks}
use Rattle.nb_runner.specs.Handings.{AreShortImages, IsAtPiece}
use Rattle.nb_runner.specs.Intents.{CanAsk, query_hooks}
use Rattle.nb_runner.specs.World.{IsLinkOfState}
use Rattle.nb_chains.specs.declared.chain.Chain.{Chain}
use Rattle.nb_chains.specs.declared.kind.ChainKind.{ChainKind}
use Rattle.nb_network.specs.Many.{AreOpensOf, AreSound, HasNoneTied, HasTiedOnlyOf, IsNewestBut, Many, WaitsBeside}
use Rattle.nb_client.specs.Asked.{asked_onward, beside_kind, onward_kind}
use Rattle.nb_client.specs.Snapshots.{Snapshot, snapshot}
use Rattle.nb_client.specs.declared.asked.Asked.{Asked}
use Rattle.nb_client.specs.declared.asked.Asked.TheVariants.{File, Query as Exchange, Disk, Block}
use Rattle.nb_client.specs.declared.asked.AskedDisk.{AskedDisk}
use Rattle.nb_client.specs.declared.pending.Pending.{Pending}
use Rattle.nb_client.specs.declared.pending.Expected.TheVariants.{Open, Moment}
use Rattle.nb_client.specs.declared.site.Site.{Site}
use Rattle.nb_client.specs.declared.stage.Stage.{Stage}
use Rattle.nb_client.specs.declared.stage.Stage.TheVariants as stage

-- a client that works here, whose run stands so
abbrev pub snapshot_at : Site → Stage → Snapshot
snapshot_at c st = snapshot c.used c.world c.opens st

-- the open that a command waits for
abbrev pub awaited_at : Stage → Option ℕ
awaited_at stage.Ready = None
awaited_at (stage.Running s) = None
awaited_at (stage.Waiting s (Open p)) = Some p.number
awaited_at (stage.Waiting s (Moment time)) = None
awaited_at (stage.Reaching s k) = None
awaited_at (stage.Yielded s) = None
awaited_at (stage.Returning s cause) = None
awaited_at (stage.HandingOff h) = None
awaited_at (stage.Left cause) = None
awaited_at stage.HandedOff = None
awaited_at stage.Stopped = None

-- the open of which a command has asked for a block
abbrev pub asks_block : Asked → ℕ → Option ℕ
asks_block (File w) number = None
asks_block (Exchange q) number = None
asks_block (Disk disk) number = None
asks_block (Block d) number = Some number

abbrev pub reads_at : Stage → Option ℕ
reads_at (stage.Waiting s (Open p)) = asks_block p.asked p.number
reads_at (stage.Waiting s (Moment time)) = None
reads_at stage.Ready = None
reads_at (stage.Running s) = None
reads_at (stage.Reaching s k) = None
reads_at (stage.Yielded s) = None
reads_at (stage.Returning s cause) = None
reads_at (stage.HandingOff h) = None
reads_at (stage.Left cause) = None
reads_at stage.HandedOff = None
reads_at stage.Stopped = None

-- A disk that is asked for has a short name, and a login whose texts fit a boot table and of whose names each may be sent.
pub record FitsDisk (disk : AskedDisk) : Type 0 where
  pub target : disk.target ≡ disk.login.target ++ 0 ∷ disk.login.lun
  pub short : length disk.login.target ≤ 223
  pub unit : length disk.login.lun ≡ 8
  pub texts : FitsTable disk.login
  pub sendable : zero_name disk.login ≡ None

-- what is asked for may be
abbrev pub FitsAsked : Asked → Type 0
FitsAsked (File w) = IsAskedWell w.asking
FitsAsked (Exchange q) = CanAsk q
FitsAsked (Disk disk) = FitsDisk disk
FitsAsked (Block d) = Unit {0}

-- a drive more may be hooked, where a command is to hook one
abbrev pub HasRoomIf : Bool → List Drive → Type 0
HasRoomIf false drives = Unit {0}
HasRoomIf true drives = length drives < 2

-- a disk is hooked by it, or once its block has come
abbrev pub asked_hooks : Asked → Bool
asked_hooks (File w) = false
asked_hooks (Exchange q) = query_hooks q
asked_hooks (Disk disk) = true
asked_hooks (Block d) = is_some d

abbrev pub HasRoomFor : Asked → List Drive → Type 0
HasRoomFor a drives = HasRoomIf (asked_hooks a) drives

abbrev pub HasRoomOnward : Onward → List Drive → Type 0
HasRoomOnward next drives = HasRoomIf (onward_hooks next) drives

-- the drives whose open is one of these
abbrev pub has_its_open : List TheOpen → Drive → Bool
has_its_open list d = list_any (λ o. o.speaker.number == d.open_number) list

abbrev pub kept_drives : List TheOpen → List Drive → List Drive
kept_drives list drives = filter (has_its_open list) drives

-- an object waits beside the look-up of a server's name, and beside nothing else
abbrev pub IsBacked : Asked → Option Chain → Type 0
IsBacked (File w) waits = waits ≡ None
IsBacked (Disk disk) waits = waits ≡ None
IsBacked (Block d) waits = waits ≡ None
IsBacked (Exchange query.Lease) waits = waits ≡ None
IsBacked (Exchange (query.Echo server)) waits = waits ≡ None
IsBacked (Exchange (query.Address setting name by)) waits = waits ≡ None
IsBacked (Exchange (query.Host errand name by)) waits = (c : Chain) × (waits ≡ Some c)

-- What waits beside an open waits on, and is the newest but for those of the open that is awaited.
pub record HasWaiting (kind : ChainKind) (waits : Option Chain) (awaited : Option ℕ) (m : Many) : Type 0 where
  pub beside : (c : Chain) → waits ≡ Some c → WaitsBeside kind c m
  pub newest : (c : Chain) → waits ≡ Some c → IsNewestBut awaited c m

-- What a command has asked for fits, and what waits beside its open, where this is awaited still.
pub record IsPendingWell (p : Pending) (awaited : Option ℕ) (m : Many) : Type 0 where
  pub fits : FitsAsked p.asked
  pub backed : IsBacked p.asked p.waits
  pub waiting : HasWaiting (beside_kind p.asked) p.waits awaited m

-- What has waited for the open that is next, if anything has: for the look-up of another server's name nothing has.
pub record HasWaited (w : World) (next : Onward) (waits : Option Chain) (m : Many) : Type 0 where
  pub waiting : HasWaiting (onward_kind next) waits None m
  pub lone : (c : Chain) → IsBacked (asked_onward w next) (Some c) → waits ≡ None

-- whether the drive of this number has answered, whatever state these opens are, and whether it has read what it was asked for
abbrev pub HasAnsweredAs : Bool → ℕ → Many → Type 0
HasAnsweredAs is number m = (live : List Live) → AreOpensOf m.graph m.list live → is ≡ is_some (option_and_then answered (find (has_number number) live))

abbrev pub HasReadAs : Bool → ℕ → Many → Type 0
HasReadAs is number m = (live : List Live) → AreOpensOf m.graph m.list live → is ≡ is_some (option_and_then read_last (find (has_number number) live))

-- whether what was asked for is a disk's, which has answered, or a block's, which has come
abbrev pub IsDriveAnswered : Asked → ℕ → Many → Bool → Type 0
IsDriveAnswered (Disk disk) number m is = HasAnsweredAs is number m
IsDriveAnswered (Block d) number m is = HasReadAs is number m
IsDriveAnswered (File w) number m is = is ≡ false
IsDriveAnswered (Exchange q) number m is = is ≡ false

-- no task was asked of the open, nor of any but the one of this number
abbrev pub AsksNoTask : OpenInput → Type 0
AsksNoTask (message rec port body now) = Unit {0}
AsksNoTask (tcp_segment rec g now) = Unit {0}
AsksNoTask (time_comes now) = Unit {0}
AsksNoTask (task t now) = ⊥
AsksNoTask (close cause) = Unit {0}

abbrev pub IsAskedNoTask : Live → Type 0
IsAskedNoTask l = AllByRecursion (λ (x : Came). AsksNoTask x.came) l.exchanges

abbrev pub IsUnaskedBut : Option ℕ → Live → Type 0
IsUnaskedBut None l = IsAskedNoTask l
IsUnaskedBut (Some k) l = (l.number ≡ k → ⊥) → IsAskedNoTask l

-- the open of this number is a drive's, if it lives
abbrev pub IsDriveKind : OpenKind → Type 0
IsDriveKind tftp = ⊥
IsDriveKind (http isn) = ⊥
IsDriveKind (iscsi isn i) = Unit {0}
IsDriveKind (dns id) = ⊥
IsDriveKind (dhcp a) = ⊥
IsDriveKind ping = ⊥

abbrev pub IsDriveAt : ℕ → List Live → Type 0
IsDriveAt number live = AllByRecursion (λ l. l.number ≡ number → IsDriveKind l.kind) live

-- The open of each drive that is hooked lives, and is a drive's; and no open was asked for a block but the one of this number.
pub record AreHooked (asked : Option ℕ) (m : Many) (drives : List Drive) : Type 0 where
  pub kept : kept_drives m.list drives ≡ drives
  pub live : List Live
  pub are : AreOpensOf m.graph m.list live
  pub unasked : AllByRecursion (IsUnaskedBut asked) live
  pub kinds : AllByRecursion (λ d. IsDriveAt d.open_number live) drives

-- A command that waits for an open has asked for what fits, and it hasn't come yet.
pub record AwaitsWell (p : Pending) (drives : List Drive) (m : Many) : Type 0 where
  pub asked : IsPendingWell p (Some p.number) m
  pub room : HasRoomFor p.asked drives
  pub silent : IsDriveAnswered p.asked p.number m false

-- what holds by where the run stands
abbrev pub StandsWell : Stage → World → Many → Type 0
StandsWell stage.Ready w m = (m.list ≡ []) × (w.opens ≡ 0)
StandsWell (stage.Running s) w m = Unit {0}
StandsWell (stage.Waiting s (Open p)) w m = AwaitsWell p w.state.drives m
StandsWell (stage.Waiting s (Moment time)) w m = Unit {0}
StandsWell (stage.Reaching s k) w m = FitsOnward k.onward × HasRoomOnward k.onward w.state.drives × HasWaited w k.onward k.waits m
StandsWell (stage.Yielded s) w m = Unit {0}
StandsWell (stage.Returning s cause) w m = Unit {0}
StandsWell (stage.HandingOff h) w m = IsAtPiece w.state.images h × (m.list ≡ [])
StandsWell (stage.Left cause) w m = Unit {0}
StandsWell stage.HandedOff w m = m.list ≡ []
StandsWell stage.Stopped w m = m.list ≡ []

-- What holds of a client that has not run out of memory.
pub record IsSound (used : ℕ) (w : World) (m : Many) (st : Stage) : Type 0 where
  pub time : w.time ≤ 60000 * used
  pub opens : AreSound w.w w.opens w.net m
  pub serials : m.graph.book.made ≤ 4 * w.opens
  pub tied : HasTiedOnlyOf (awaited_at st) m
  pub well : StandsWell st w m
  pub short : AreShortImages w.state.images.images
  pub named : HasShortNames w.state.images
  pub linked : IsLinkOfState w
  pub hooked : AreHooked (reads_at st) m w.state.drives

-- So it is where a script's command got what it waited for, but that the open of this number was asked for a block, if one was.
pub record IsSoundBut (asked : Option ℕ) (used : ℕ) (w : World) (m : Many) : Type 0 where
  pub time : w.time ≤ 60000 * used
  pub opens : AreSound w.w w.opens w.net m
  pub serials : m.graph.book.made ≤ 4 * w.opens
  pub tied : HasNoneTied m
  pub short : AreShortImages w.state.images.images
  pub named : HasShortNames w.state.images
  pub linked : IsLinkOfState w
  pub hooked : AreHooked asked m w.state.drives

-- or it has run out, and does nothing more
abbrev pub IsUsable : (lost : Bool) → Snapshot → Type 0
IsUsable true c = c.stage ≡ stage.Stopped
IsUsable false c = IsSound c.used c.world c.many c.stage

-- START was used
abbrev pub WasStarted : Stage → Type 0
WasStarted stage.Ready = ⊥
WasStarted (stage.Running s) = Unit {0}
WasStarted (stage.Waiting s e) = Unit {0}
WasStarted (stage.Reaching s k) = Unit {0}
WasStarted (stage.Yielded s) = Unit {0}
WasStarted (stage.Returning s cause) = Unit {0}
WasStarted (stage.HandingOff h) = Unit {0}
WasStarted (stage.Left cause) = Unit {0}
WasStarted stage.HandedOff = Unit {0}
WasStarted stage.Stopped = Unit {0}

-- a log without records, which has not run short
pub record IsClean (l : Logged) : Type 0 where
  pub empty : l.bytes ≡ []
  pub whole : l.is_short ≡ false
