-- What the scripts of a course agree with in the history of its records: the settings, the device, the command that runs or waits, and
-- the images.
use Rattle.std.specs.Prelude.{◌≡◌, ◌⊎◌, ℕ, ◌+◌, ◌-◌, ◌*◌, ◌<◌, ◌==◌, Bool, true, false, List, [], ◌∷◌, ◌++◌, Some, None, IsSome, length, Ok}
use Rattle.std.specs.List.{AllByRecursion, list_any}
use Rattle.nb_defs.specs.Parts.{HaveNoParts}
use Rattle.nb_defs.specs.Records.{Out, result}
use Rattle.nb_defs.specs.Causes.{ok}
use Rattle.nb_terms.specs.declared.cause.Cause.{Cause}
use Rattle.nb_imagecmd.specs.Asking.{target_port, target_text}
use Rattle.nb_machine.specs.Running.{Running}
use Rattle.nb_uri.specs.declared.target.UriTarget.{UriTarget}
use Rattle.nb_uri.specs.declared.target.UriTarget.TheVariants.{Tftp, Http, Iscsi}
use Rattle.nb_machine.specs.Effects.{ShownWords, sleeps, inquires, onward_effect, hooks_disk, next_at_target}
use Rattle.nb_machine.specs.Errands.{Wanted, Errand, Onward, onward, hooks_then, fetches_now, echoes_now, hooks_now, looks_up_now}
use Rattle.nb_machine.specs.Queries.{Query, for_lease, for_echo, for_host, for_address}
use Rattle.nb_machine.specs.Findings.{first_word, query_id}
use Rattle.nb_machine.specs.Lives.{OpenKind, tftp, http, dns, dhcp, ping, Live, iscsi, OpenInput, message, tcp_segment, time, task, close, Exchange}
use Rattle.nb_machine.specs.States.{State, still_hooked}
use Rattle.nb_machine.specs.Scripts.{fetch, sleep, job_for, answer, moment, Waiting, asks_on, hooks, boots, drive, disk, block, hooked_drive}
use Rattle.nb_machine.specs.Courses as course
use Rattle.nb_machine.specs.Courses.{Standing}
use Rattle.nb_laws.specs.Events.{Event, puts}
use Rattle.nb_laws.specs.Lists.{Hardware, hardware, made, commands_begun}
use Rattle.nb_laws.specs.Cores.{asker_by}
use Rattle.nb_laws.specs.CommandsSoFar.{CommandsSoFar, so_far, comes_by, comes_after, ComesTo, booted_drive}
use Rattle.nb_laws.specs.Moves.{MovedOpen, moves}
use Rattle.nb_machine.specs.Conclusions.{handoff_records}
use Rattle.nb_machine.specs.Kinds.{answered, read_last}
use Rattle.nb_laws.specs.Endings.{ClosesToBoot}
use Rattle.nb_laws.specs.Wanting.{wanted_by}
use Rattle.nb_laws.specs.Progress.{NoneOversleeps}
use Rattle.nb_laws.specs.Drives.{SessionOpening, sessions}
use Rattle.nb_laws.specs.Silence.{AreSilent}
use Rattle.nb_laws.specs.Agreement.{AreScripts, AgreesScript, AsksQuery}
use Rattle.nb_openlaws.specs.Standings.{live_opening}
use Rattle.nb_laws.specs.CommandOpens.{command_open}
use Rattle.nb_laws.specs.Openings.{FindsHost, HasMoved, LooksUpTarget}
use Rattle.nb_laws.specs.HandOff.{boot_table_so_far, HandsDiskOff}
use Rattle.nb_laws.specs.Hookings.{hooked_drives, NoneIsHooked}
use Rattle.nb_login.specs.declared.info.LoginInfo.{LoginInfo}
use Rattle.nb_drivecmd.specs.declared.drive.Drive.{Drive}
use Rattle.nb_drivecmd.specs.declared.outcome.AfterHook.TheVariants.{Keep, Boot}
use Rattle.nb_drivecmd.specs.declared.outcome.Hooking.{Hooking}
use Rattle.nb_drivecmd.specs.HookedDrives.{is_drive}

-- the settings, the device's state and the time are the state's, and the command that began last has its result, or hasn't
pub record SettingsAre (m : CommandsSoFar) (s : State) (still : Bool) : Type 0 where
  pub table : m.table ≡ s.table
  pub up : m.up ≡ s.up
  pub now : m.now ≡ s.now
  pub is_open : m.is_open ≡ still

-- the command that began last sleeps until this time, which hasn't come
pub record SleepsUntil (m : CommandsSoFar) (s : State) (until : ℕ) : Type 0 where
  pub shown : ShownWords
  pub is_shown : m.shown ≡ Some shown
  pub seconds : ℕ
  pub sleeps_so : comes_by s.opens m shown ≡ sleeps seconds
  pub until_is : until ≡ m.since + 1000 * seconds
  pub early : s.now < until

-- the kind of open k for a target: by HTTP its SYN has the open's first word as its number; a disk isn't fetched
abbrev pub open_kind_for : Hardware → ℕ → UriTarget → OpenKind
open_kind_for h k (Tftp host port path whole) = tftp
open_kind_for h k (Http host port path whole) = http (first_word h.identity k)
open_kind_for h k (Iscsi host port lun name whole) = tftp

-- this open is for this query
abbrev pub IsLiveFor : Hardware → Query → Live → Type 0
IsLiveFor h for_lease l = l.kind ≡ dhcp (asker_by h l.number)
IsLiveFor h (for_echo server) l = l.kind ≡ ping
IsLiveFor h (for_host errand name by) l = (l.kind ≡ dns (query_id h.identity l.number)) × (l.target ≡ name) × (l.server ≡ by)
IsLiveFor h (for_address setting name by) l = l.kind ≡ dns (query_id h.identity l.number)

-- no drive of the number of this disk is among these
abbrev pub HasFreeNumber : Hooking → List Drive → Type 0
HasFreeNumber hooking drives = list_any (is_drive hooking.number) drives ≡ false

-- the host of a disk that the command that began last hooks is looked up by this open
pub record LooksUpDisk (h : Hardware) (m : CommandsSoFar) (moved : List MovedOpen) (l : Live) (hooking : Hooking) : Type 0 where
  pub shown : ShownWords
  pub said : m.shown ≡ Some shown
  pub names : comes_after l.number m shown moved ≡ hooks_disk hooking
  pub name : List ℕ
  pub by : ℕ
  pub asked : LooksUpTarget m.table hooking name by
  pub is_for : IsLiveFor h (for_host (hooks_then hooking) name by) l
  pub unit : length hooking.disk.lun ≡ 8

-- the disk that the command that began last hooks is on this open
pub record HooksBy (m : CommandsSoFar) (moved : List MovedOpen) (l : Live) (hooking : Hooking) : Type 0 where
  pub shown : ShownWords
  pub said : m.shown ≡ Some shown
  pub names : comes_after l.number m shown moved ≡ hooks_disk hooking
  pub is_drive : (isn : ℕ) × (i : LoginInfo) × (l.kind ≡ iscsi isn i)

-- no task is asked by this
abbrev pub IsNoTask : OpenInput → Type 0
IsNoTask (message rec port body now) = Unit {0}
IsNoTask (tcp_segment rec g now) = Unit {0}
IsNoTask (time now) = Unit {0}
IsNoTask (task t now) = ⊥
IsNoTask (close cause) = Unit {0}

-- nor was any
abbrev pub AreUnasked : List Exchange → Type 0
AreUnasked xs = AllByRecursion (λ x. IsNoTask x.came) xs

-- the command that began last, whose file was moved so, asks for this file by this open, of the server that its words or the last place name
pub record FetchesWith (h : Hardware) (m : CommandsSoFar) (moved : List MovedOpen) (l : Live) (wanted : Wanted) : Type 0 where
  pub shown : ShownWords
  pub said : m.shown ≡ Some shown
  pub asked : wanted_by (comes_after l.number m shown moved) (live_opening l) ≡ Some wanted
  pub kind_is : l.kind ≡ open_kind_for h l.number wanted.asking.target
  pub server_is : l.server ≡ wanted.server
  pub port_is : l.port ≡ target_port wanted.asking.target
  pub target_is : l.target ≡ target_text wanted.asking.target

-- the command that began last, whose file was moved so, if it asks for one, asks this by this open
pub record AsksIn (h : Hardware) (m : CommandsSoFar) (moved : List MovedOpen) (l : Live) (query : Query) : Type 0 where
  pub shown : ShownWords
  pub said : m.shown ≡ Some shown
  pub asked : AsksQuery (comes_after l.number m shown moved) query
  pub is_for : IsLiveFor h query l

-- the disk that the words of the command that began last hook, where it has made no open
pub record ReachesHookedDisk (es : List Event) (next : Onward) : Type 0 where
  pub first : command_open es ≡ None
  pub hooking : Hooking
  pub names : ComesTo es (made es) (hooks_disk hooking)
  pub asks : next_at_target (made es) (so_far es).table (hooked_drives es) hooking ≡ Ok next
  pub gone : HasFreeNumber hooking (hooked_drives es)
  pub unit : length hooking.disk.lun ≡ 8

-- the same on the server that it has looked up
pub record ReachesLookedUpDisk (es : List Event) (next : Onward) : Type 0 where
  pub hooking : Hooking
  pub names : ComesTo es (made es) (hooks_disk hooking)
  pub name : List ℕ
  pub by : ℕ
  pub address : ℕ
  pub asked : LooksUpTarget (so_far es).table hooking name by
  pub finds : FindsHost es name by address
  pub is_next : next ≡ hooks_now hooking address
  pub gone : HasFreeNumber hooking (hooked_drives es)
  pub unit : length hooking.disk.lun ≡ 8

-- it is no drive's open
abbrev pub OpensNoDrive : Onward → Type 0
OpensNoDrive (fetches_now wanted) = Unit {0}
OpensNoDrive (echoes_now server) = Unit {0}
OpensNoDrive (hooks_now hooking server) = ⊥
OpensNoDrive (looks_up_now errand name by) = Unit {0}

-- what the command that began last asks next
pub data IsToReach (es : List Event) (next : Onward) : Type 0 where
  -- it has looked up its server, and asks this of it
  reaches_host : (errand : Errand) (name : List ℕ) (by address : ℕ) → ComesTo es (made es - 1) (inquires (for_host errand name by)) → FindsHost es name by address →
      next ≡ onward errand address → IsToReach es next
  -- its file was moved, and this is asked for at its place, for which one more open may be made
  reaches_place : HasMoved es → ComesTo es (made es) (onward_effect next) → (made es ≡ 16384 → ⊥) → OpensNoDrive next → IsToReach es next
  -- a disk is hooked
  reaches_disk : ReachesHookedDisk es next → IsToReach es next
  reaches_looked_up_disk : ReachesLookedUpDisk es next → IsToReach es next

abbrev pub IsAnother : ℕ → Live → Type 0
IsAnother k l = (l.number == k) ≡ false

-- this open is the last of those that live, and the command's; others may live beside it
pub record IsAwaited (es : List Event) (s : State) (w : Waiting) (l : Live) : Type 0 where
  pub earlier : List Live
  pub last : s.live ≡ earlier ++ l ∷ []
  pub others : AllByRecursion (IsAnother l.number) earlier
  pub number : s.opens ≡ l.number + 1
  pub its : command_open es ≡ Some (record { number = l.number; over = None })

-- open k was made as a drive's, of which the command boots its disk then, or doesn't
pub record WasSession (boots_it : Bool) (k : ℕ) (es : List Event) : Type 0 where
  pub before : List Event
  pub since : List Event
  pub all : es ≡ before ++ since
  pub session : SessionOpening
  pub is : sessions k before ≡ session ∷ []
  pub so : session.boots ≡ boots_it

-- an open amid those that live
pub record IsAmid (s : State) (l : Live) : Type 0 where
  pub earlier : List Live
  pub later : List Live
  pub parted : s.live ≡ earlier ++ l ∷ later
  pub before : AllByRecursion (IsAnother l.number) earlier
  pub behind : AllByRecursion (IsAnother l.number) later

-- this open is that of the hooked drive that the command that began last boots: the command has made none, and it lives
pub record BootsHooked (es : List Event) (s : State) (l : Live) (d : Drive) : Type 0 where
  pub lives : IsAmid s l
  pub own : d.open_number ≡ l.number
  pub none : command_open es ≡ None
  pub names : booted_drive (so_far es) ≡ Some d
  pub is_drive : (isn : ℕ) × (i : LoginInfo) × (l.kind ≡ iscsi isn i)
  pub kept : WasSession false l.number es

-- What the command that began last waits for. While it hooks a disk, no drive of that disk's number is hooked.
pub data AwaitsSo (es : List Event) (s : State) (w : Waiting) : Type 0 where
  awaits_time : (until : ℕ) → w.awaited ≡ moment until → w.job ≡ sleep → command_open es ≡ None → SleepsUntil (so_far es) s until → AwaitsSo es s w
  awaits_file : (l : Live) (wanted : Wanted) → IsAwaited es s w l → w.awaited ≡ answer l.number → w.job ≡ fetch wanted → FetchesWith (hardware es) (so_far es) (moves es) l wanted → AwaitsSo es s w
  awaits_query : (l : Live) (query : Query) → IsAwaited es s w l → w.awaited ≡ answer l.number → w.job ≡ job_for query → AsksIn (hardware es) (so_far es) (moves es) l query → AwaitsSo es s w
  awaits_host : (l : Live) (hooking : Hooking) → IsAwaited es s w l → w.awaited ≡ answer l.number → w.job ≡ asks_on (hooks_then hooking) → LooksUpDisk (hardware es) (so_far es) (moves es) l hooking →
      HasFreeNumber hooking s.drives → AwaitsSo es s w
  -- a disk that is kept hasn't answered
  awaits_drive : (l : Live) (hooking : Hooking) → IsAwaited es s w l → w.awaited ≡ drive l.number → w.job ≡ hooks hooking → hooking.after ≡ Keep → HooksBy (so_far es) (moves es) l hooking → answered l ≡ None →
      HasFreeNumber hooking s.drives → AwaitsSo es s w
  -- nor one that is booted, of which nothing was asked
  awaits_disk : (l : Live) (hooking : Hooking) (keep : Bool) → IsAwaited es s w l → w.awaited ≡ disk l.number → w.job ≡ hooks hooking → hooking.after ≡ Boot keep → HooksBy (so_far es) (moves es) l hooking → WasSession true l.number es →
      AreUnasked l.exchanges → answered l ≡ None → HasFreeNumber hooking s.drives → AwaitsSo es s w
  -- its block hasn't come
  awaits_block : (l : Live) (hooking : Hooking) (keep : Bool) → IsAwaited es s w l → w.awaited ≡ block l.number → w.job ≡ boots (Some (hooked_drive hooking l)) → hooking.after ≡ Boot keep → HooksBy (so_far es) (moves es) l hooking →
      IsSome (answered l) → read_last l ≡ None → HasFreeNumber hooking s.drives → AwaitsSo es s w
  -- nor has that of a hooked drive
  awaits_hooked : (l : Live) (d : Drive) → BootsHooked es s l d → w.awaited ≡ block l.number → w.job ≡ boots None → read_last l ≡ None → AwaitsSo es s w

-- an open, if it is that of this drive, is a session
abbrev pub IsDriveOf : Drive → Live → Type 0
IsDriveOf d l = l.number ≡ d.open_number → (isn : ℕ) × (i : LoginInfo) × (l.kind ≡ iscsi isn i)

-- this drive was hooked on an open that was made before, and is a drive's as long as it lives
pub record WasHooked (s : State) (d : Drive) : Type 0 where
  pub made_so : d.open_number < s.opens
  pub is_drive : AllByRecursion (IsDriveOf d) s.live

-- the drives are those that were hooked and of which the opens live
pub record HasDrives (m : CommandsSoFar) (s : State) : Type 0 where
  pub are : s.drives ≡ still_hooked s.live m.hooked
  pub were : AllByRecursion (WasHooked s) m.hooked

-- the images and the drives are those of the history, and nothing was handed off
pub record HasImages (es : List Event) (outs : List Out) (s : State) : Type 0 where
  pub list : (so_far es).images ≡ s.images
  pub drives : HasDrives (so_far es) s
  pub none : HaveNoParts outs

-- a script was left: where there are others outside it, the command of the first of them has its cause next, whatever its words were
abbrev pub HasLeft : CommandsSoFar → List Running → Cause → Type 0
HasLeft m [] cause = (m.is_open ≡ false) × (m.left ≡ None)
HasLeft m (inner ∷ outer) cause = (m.is_open ≡ true) × (m.left ≡ Some cause) × (m.shown ≡ None)

-- no script was left whose command has no result yet
abbrev pub NoneLeft : List Event → Type 0
NoneLeft es = (so_far es).left ≡ None

-- the first of these scripts has counted all commands of this step
abbrev pub AreCounted : List Event → List Running → Type 0
AreCounted es [] = Unit {0}
AreCounted es (inner ∷ outer) = commands_begun es ≡ inner.begun

-- The output, with these records still to come, ends with the hand-off of the images that the commands have left, the selected one
-- first, and of the boot table of the drives that are hooked then, after the RESULT of the command that boots it, after which what was closed
-- then may have its FRAME; no PART stands before it.
pub record HandsOver (es : List Event) (outs rest : List Out) : Type 0 where
  pub booted : ClosesToBoot es
  pub place : booted.list.selected ≡ Some booted.kernel
  pub list_is : booted.list ≡ (so_far es).images
  pub before : List Out
  pub none : HaveNoParts before
  pub ends : outs ++ rest ≡ before ++ handoff_records booted.kernel booted.list.images (boot_table_so_far (booted.before ++ puts (result ok) ∷ []))

-- or it ends with that of the first block of a disk, as the command that boots it has read it
abbrev pub HandsEither : List Event → (outs rest : List Out) → Type 0
HandsEither es outs rest = HandsOver es outs rest ⊎ HandsDiskOff es outs rest

-- no PART stands, or the output hands over what was brought
abbrev pub HandsWhatCame : List Event → List Out → Type 0
HandsWhatCame es outs = HaveNoParts outs ⊎ ((rest : List Out) × HandsEither es outs rest)

-- what the history says of the scripts, where a course stands
abbrev pub ScriptsAgree : List Event → List Out → Standing → Type 0
ScriptsAgree es outs course.ready = (es ≡ []) × HaveNoParts outs
ScriptsAgree es outs (course.running s inner outer) = AgreesScript es inner outer × SettingsAre (so_far es) s false × HasImages es outs s × NoneLeft es
ScriptsAgree es outs (course.waiting s w) = AgreesScript es w.script w.outer × SettingsAre (so_far es) s true × HasImages es outs s × NoneLeft es × AwaitsSo es s w
ScriptsAgree es outs (course.reaching s inner outer next) = AgreesScript es inner outer × SettingsAre (so_far es) s true × HasImages es outs s × NoneLeft es × IsToReach es next
ScriptsAgree es outs (course.yielded s inner outer) = AgreesScript es inner outer × SettingsAre (so_far es) s false × HasImages es outs s × NoneLeft es × (inner.begun ≡ 4096)
ScriptsAgree es outs (course.handing s rest) = AreSilent rest × ((so_far es).is_open ≡ false) × HandsEither es outs rest
ScriptsAgree es outs (course.left s outer cause) = AreScripts (so_far es) outer × AreCounted es outer × HasLeft (so_far es) outer cause × SettingsAre (so_far es) s (so_far es).is_open × HasImages es outs s
ScriptsAgree es outs (course.handed_off s) = ((so_far es).is_open ≡ false) × HandsEither es outs []
ScriptsAgree es outs (course.stopped s) = NoneOversleeps es × HaveNoParts outs × NoneIsHooked es
