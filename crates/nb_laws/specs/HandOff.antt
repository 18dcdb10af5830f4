-- What is handed off: the images that the commands have left in the list, by the history alone.
use Rattle.std.specs.Prelude.{◌≡◌, ℕ, ◌-◌, true, List, [], ◌∷◌, ◌++◌, map, take, Some, ◌*◌, length, Option, option_map}
use Rattle.std.specs.List.{AllByRecursion, flat_map}
use Rattle.std.specs.Option.{option_map_or}
use Rattle.nb_defs.specs.Causes.{ok}
use Rattle.nb_defs.specs.Parts.{HaveNoParts}
use Rattle.nb_defs.specs.Records.{Out, result}
use Rattle.nb_image.specs.declared.image.Image.{Image}
use Rattle.nb_imagecmd.specs.Asking.{target_uri}
use Rattle.nb_command.specs.SettingAddresses.{host}
use Rattle.nb_drivecmd.specs.declared.drive.Drive.{Drive}
use Rattle.nb_drivecmd.specs.HookedDrives.{described_drives}
use Rattle.nb_drivelogin.specs.DriveInfos.{drive_info}
use Rattle.nb_drivelogin.specs.DriveOpens.{DriveOpen}
use Rattle.nb_ibft.specs.Tables.{ibft}
use Rattle.nb_machine.specs.Conclusions.{handoff_records, disk_records}
use Rattle.nb_machine.specs.Effects.{ShownWords}
use Rattle.nb_machine.specs.Errands.{Wanted}
use Rattle.nb_machine.specs.Findings.{first_word}
use Rattle.nb_tftp.specs.Cuts.{CarriesFile}
use Rattle.nb_tftp.specs.Received.{Received}
use Rattle.nb_sans.specs.Targets.{IsDisk, ServesDisk, AreOfDisk}
use Rattle.nb_sans.specs.Sessions.{tasks_taken, task_answers}
use Rattle.nb_streams.specs.Streams.{front}
use Rattle.nb_talks.specs.Talking.{talk_held}
use Rattle.nb_webs.specs.Entries.{StoreEntry, file, elsewhere, disk, ServesEntry}
use Rattle.nb_laws.specs.CommandsSoFar.{so_far, surroundings_in, comes_after}
use Rattle.nb_laws.specs.Drives.{SessionOpening, sessions, session_so_far, answered_so_far}
use Rattle.nb_machine.specs.Drives.{DriveAnswer}
use Rattle.nb_laws.specs.Events.{Event, puts, EachEvent}
use Rattle.nb_laws.specs.Fetching.{FetchesFile}
use Rattle.nb_laws.specs.Lists.{hardware, Opening, openings, datagrams_of, came_ok, last_end, made}
use Rattle.nb_laws.specs.Moves.{MovedOpen, moves}
use Rattle.nb_laws.specs.Endings.{ClosesToBoot, ClosesToBootDisk}
use Rattle.nb_laws.specs.Hookings.{hooked_drives}
use Rattle.nb_laws.specs.Wanting.{wanted_by, is_open_of}
use Rattle.nb_laws.specs.Webs.{opens_a_file, brought_to, talk_by}

-- the open of a drive, by which it was hooked, and how its login went
abbrev pub drive_open_by_session : ℕ → SessionOpening → Option DriveAnswer → DriveOpen
drive_open_by_session k s answered =
    record { number = k; server = host s.opening.server; port = s.opening.port; chap = option_map_or (λ (a : DriveAnswer). a.chap) answered 0; login = s.login }

abbrev pub drive_open_so_far : List Event → Drive → List DriveOpen
drive_open_so_far es drive = map (λ s. drive_open_by_session drive.open_number s (answered_so_far drive.open_number s es)) (sessions drive.open_number es)

-- the boot table of the described drives that are hooked then, as the settings and their logins say; none where none is
unfoldable pub boot_table_so_far : List Event → Option (List ℕ)
boot_table_so_far es = option_map ibft (drive_info (hardware es).mac (so_far es).table (flat_map (drive_open_so_far es) (described_drives (hooked_drives es))))

-- The output, with these records still to come, ends with the hand-off of the images that the commands have left, the selected one
-- first, and of the boot table of the drives that are hooked then, after the RESULT of the command that boots it; no PART stands before it.
pub record HandsOff (es : List Event) (outs rest : List Out) : Type 0 where
  pub booted : ClosesToBoot es
  pub place : booted.list.selected ≡ Some booted.kernel
  -- the list is the one of which it is said what each image is
  pub list_is : booted.list ≡ (so_far es).images
  pub before : List Out
  pub none : HaveNoParts before
  pub ends : outs ++ rest ≡ before ++ handoff_records booted.kernel booted.list.images (boot_table_so_far (booted.before ++ puts (result ok) ∷ []))

-- The same of a disk's first block, as the command that boots it has read it.
pub record HandsDiskOff (es : List Event) (outs rest : List Out) : Type 0 where
  pub booted : ClosesToBootDisk es
  pub before : List Out
  pub none : HaveNoParts before
  pub ends : outs ++ rest ≡ before ++ disk_records booted.block (boot_table_so_far (booted.before ++ puts (result ok) ∷ []))

-- what servers hold: by an address, a port and a target, a path or a whole URI, a file, another place or a refusal; under a disk's name and unit
-- its bytes
abbrev pub Store : Type 0
Store = (address port : ℕ) → (target : List ℕ) → StoreEntry

-- what an open by TFTP has received are blocks of a file
pub record ServesBlocks (entry : StoreEntry) (received : List Received) : Type 0 where
  pub bytes : List ℕ
  pub holds : entry ≡ file bytes
  pub carried : CarriesFile bytes received

-- what has come to a drive's session is served of a disk
pub record ServesSession (entry : StoreEntry) (es : List Event) (k : ℕ) (s : SessionOpening) : Type 0 where
  pub bytes : List ℕ
  pub holds : entry ≡ disk bytes
  pub whole : IsDisk bytes
  pub served : ServesDisk bytes s.login (first_word (hardware es).identity k) (session_so_far k s es).calls (session_so_far k s es).tasks

-- What each open of a file has received so far is what its server holds, at its port, under its target: blocks of a file, or a stream whose
-- response is that of the entry; so is what a drive's open has received, of a disk.
pub record IsHonestTo (entry : StoreEntry) (es : List Event) (k : ℕ) (o : Opening) : Type 0 where
  pub blocks : o.kind ≡ 1 → ServesBlocks entry (datagrams_of k es)
  pub stream : o.kind ≡ 2 → ServesEntry entry (first_word (hardware es).identity k) (talk_by (hardware es) k o (brought_to k es)).calls
  pub session : o.kind ≡ 3 → AllByRecursion (λ s. ServesSession entry es k s) (sessions k es)

abbrev pub AreHonest : Store → List Event → Type 0
AreHonest store es = (k : ℕ) → AllByRecursion (λ o. IsHonestTo (store o.server o.port o.target) es k o) (openings k es)

-- servers are honest at each record
abbrev pub StayHonest : Store → List Event → Type 0
StayHonest store es = EachEvent (λ before e. AreHonest store before) [] es

-- the command that began last fetches a file by this open
pub record FetchesBy (es : List Event) (opening : Opening) (wanted : Wanted) : Type 0 where
  pub shown : ShownWords
  pub is_shown : (so_far es).shown ≡ Some shown
  pub comes_to : wanted_by (comes_after (made es - 1) (so_far es) shown (moves es)) opening ≡ Some wanted
  pub its : is_open_of wanted opening ≡ true
  pub resolves : FetchesFile (surroundings_in (made es - 1) (so_far es)) shown (moves es) wanted

-- the open's server holds, at its port, under its target, the place to which it has moved the file
abbrev pub IsMovedBy : Store → MovedOpen → Type 0
IsMovedBy store m = store m.opening.server m.opening.port m.opening.target ≡ elsewhere m.place

-- An image is the file of an open of the output that has ended in Ok, the last one made until then: the URI of its command resolves to a
-- target from which servers have moved it, five times at most, each as it holds it, to the one that has the open's kind, server, port and
-- target; the image has the name that its command gives, and the last URI; and it is, byte for byte, what the open's server holds, at its
-- port, under that target.
pub record IsFileOf (store : Store) (es : List Event) (image : Image) : Type 0 where
  pub before : List Event
  pub after : List Event
  pub so_far : es ≡ before ++ after
  pub number : ℕ
  pub latest : number ≡ made before - 1
  pub opening : Opening
  pub others : List Opening
  pub more : List Opening
  pub opened : openings number before ≡ others ++ opening ∷ more
  pub kind : opens_a_file opening ≡ true
  pub ended : came_ok (last_end before) ≡ true
  pub wanted : Wanted
  pub asked : FetchesBy before opening wanted
  pub moved : AllByRecursion (IsMovedBy store) (moves before)
  pub name : image.name ≡ wanted.asking.name
  pub uri : image.uri ≡ target_uri wanted.asking.target
  pub body : store opening.server opening.port opening.target ≡ file image.body

-- so is each image that the commands have left in the list
abbrev pub BringTheirs : List Event → Type 0
BringTheirs es = (store : Store) → StayHonest store es → AllByRecursion (IsFileOf store es) (so_far es).images.images

-- and each that is handed off
abbrev pub HandsTheirs : (es : List Event) (outs rest : List Out) → HandsOff es outs rest → Type 0
HandsTheirs es outs rest h = (store : Store) → StayHonest store es → AllByRecursion (IsFileOf store es) h.booted.list.images

-- what a drive has answered is its server's: each good answer to a read is its blocks of the disk, byte for byte, and the capacity is the disk's
pub record IsAnsweredBy (store : Store) (es : List Event) (k : ℕ) (s : SessionOpening) : Type 0 where
  pub bytes : List ℕ
  pub holds : store s.opening.server s.opening.port s.opening.target ≡ disk bytes
  pub answers : AreOfDisk bytes (tasks_taken s.login (front (talk_held (first_word (hardware es).identity k) (session_so_far k s es))) (session_so_far k s es).tasks)
      (task_answers s.login (front (talk_held (first_word (hardware es).identity k) (session_so_far k s es))) (session_so_far k s es).tasks)
  pub capacity : (a : DriveAnswer) → answered_so_far k s es ≡ Some a → 512 * a.capacity ≡ length bytes

-- so has each, where servers are honest
abbrev pub AnswerTheirs : List Event → Type 0
AnswerTheirs es = (store : Store) → AreHonest store es → (k : ℕ) → AllByRecursion (λ s. IsAnsweredBy store es k s) (sessions k es)

-- A block is the first one of the disk that the server of a drive's open holds, at its port, under its target: of the drive's session, with what its
-- OPEN says.
pub record IsFirstBlock (store : Store) (es : List Event) (k : ℕ) (block : List ℕ) : Type 0 where
  pub session : SessionOpening
  pub is : sessions k es ≡ session ∷ []
  pub bytes : List ℕ
  pub holds : store session.opening.server session.opening.port session.opening.target ≡ disk bytes
  pub first : block ≡ take 512 bytes

-- so is the block that is handed off
abbrev pub HandsTheirBlock : (es : List Event) (outs rest : List Out) → HandsDiskOff es outs rest → Type 0
HandsTheirBlock es outs rest h = (store : Store) → StayHonest store es → IsFirstBlock store h.booted.before h.booted.number h.booted.block
