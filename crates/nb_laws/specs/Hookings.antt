-- The drives that are hooked, by the history alone.
use Rattle.std.specs.Prelude.{◌≡◌, ℕ, ◌-◌, ◌==◌, Bool, true, List, [], ◌∷◌, filter, Some, None, IsSome}
use Rattle.std.specs.Option.{option_and_then}
use Rattle.std.specs.List.{list_any}
use Rattle.nb_drivecmd.specs.declared.drive.Drive.{Drive}
use Rattle.nb_drivecmd.specs.declared.outcome.AfterHook.TheVariants.{Keep, Boot}
use Rattle.nb_drivecmd.specs.declared.outcome.Hooking.{Hooking}
use Rattle.nb_drivecmd.specs.HookedDrives.{is_drive}
use Rattle.nb_terms.specs.declared.cause.Cause.{Cause}
use Rattle.nb_machine.specs.Drives.{DriveAnswer, last_read}
use Rattle.nb_machine.specs.Effects.{hooks_disk, unhooks_drive}
use Rattle.nb_laws.specs.CommandOpens.{command_open}
use Rattle.nb_laws.specs.CommandsSoFar.{so_far, ComesTo, still_living, booted_drive}
use Rattle.nb_laws.specs.Drives.{SessionOpening, sessions, answered_so_far}
use Rattle.nb_laws.specs.Events.{Event}
use Rattle.nb_laws.specs.Lists.{Opening, live, made}

-- those that commands have hooked and of which the opens live, by rising number
abbrev pub hooked_drives : List Event → List Drive
hooked_drives es = still_living es (so_far es).hooked

abbrev pub is_on_open : ℕ → Drive → Bool
is_on_open k drive = drive.open_number == k

-- open k is that of a hooked drive
abbrev pub serves_drive : ℕ → List Event → Bool
serves_drive k es = list_any (is_on_open k) (hooked_drives es)

-- the open that the running command made last has answered as a drive does: its capacity is known
pub record HasDriveAnswer (es : List Event) : Type 0 where
  pub session : SessionOpening
  pub is : sessions (made es - 1) es ≡ session ∷ []
  pub answer : DriveAnswer
  pub answered : answered_so_far (made es - 1) session es ≡ Some answer

-- the words of the command hook a disk
pub record HooksDisk (es : List Event) : Type 0 where
  pub hooking : Hooking
  pub names : ComesTo es (made es) (hooks_disk hooking)

-- they hook a disk that is kept as a drive
pub record KeepsDisk (es : List Event) : Type 0 where
  pub hooking : Hooking
  pub names : ComesTo es (made es) (hooks_disk hooking)
  pub keeps : hooking.after ≡ Keep

-- or one that is booted then
pub record BootsDisk (es : List Event) : Type 0 where
  pub hooking : Hooking
  pub names : ComesTo es (made es) (hooks_disk hooking)
  pub keep : Bool
  pub boots : hooking.after ≡ Boot keep

-- open k is that of the disk which the running command boots: it hooks it on the open that it made last, or it was hooked when the command began
pub data BootsBy (k : ℕ) (es : List Event) : Type 0 where
  boots_hooking : BootsDisk es → IsSome (command_open es) → k ≡ made es - 1 → BootsBy k es
  boots_hooked : (drive : Drive) → command_open es ≡ None → booted_drive (so_far es) ≡ Some drive → drive.open_number ≡ k → BootsBy k es

-- the drive of open k has answered the read that it took last, by all its bytes
pub record HasRead (k : ℕ) (es : List Event) (bytes : List ℕ) : Type 0 where
  pub session : SessionOpening
  pub is : sessions k es ≡ session ∷ []
  pub read : option_and_then last_read (answered_so_far k session es) ≡ Some bytes

-- they let the drive of this number go: it is unhooked, or another disk is hooked in its place
pub data NamesDrive (es : List Event) (number : ℕ) : Type 0 where
  by_unhook : (cause : Cause) → ComesTo es (made es) (unhooks_drive number cause) → NamesDrive es number
  by_hooking : (hooking : Hooking) → ComesTo es (made es) (hooks_disk hooking) → hooking.number ≡ number → NamesDrive es number

-- The command that runs, and has made no open, lets the drive go of which open k is: it was hooked when the command began.
pub record LetsGo (k : ℕ) (es : List Event) : Type 0 where
  pub still : (so_far es).is_open ≡ true
  pub first : command_open es ≡ None
  pub number : ℕ
  pub names : NamesDrive es number
  pub hooked : list_any (is_on_open k) (filter (is_drive number) (so_far es).drives) ≡ true

-- each open that lives is a hooked drive's
abbrev pub OnlyDrivesLive : List Event → Type 0
OnlyDrivesLive es = (k : ℕ) (o : Opening) → live k es ≡ o ∷ [] → serves_drive k es ≡ true

-- why an open lives where a command has its result: it is a hooked drive's, or the disk that the command hooks has answered on it
pub data LivesOn (k : ℕ) (es : List Event) : Type 0 where
  as_drive : serves_drive k es ≡ true → LivesOn k es
  as_hooked : command_open es ≡ Some (record { number = k; over = None }) → HooksDisk es → HasDriveAnswer es → LivesOn k es

-- A command that has no result yet hasn't got the answer of the disk that it hooks and keeps, nor the block of one that it boots: with that it has
-- its result.
pub record NoneIsHooked (es : List Event) : Type 0 where
  pub unanswered : (so_far es).is_open ≡ true → (so_far es).left ≡ None → command_open es ≡ Some (record { number = made es - 1; over = None }) → KeepsDisk es → HasDriveAnswer es → ⊥
  pub unread : (so_far es).is_open ≡ true → (so_far es).left ≡ None → (k : ℕ) (bytes : List ℕ) → BootsBy k es → HasRead k es bytes → ⊥
