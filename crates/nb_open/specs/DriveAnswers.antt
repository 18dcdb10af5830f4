-- What a drive has answered in an exchange. Our own.
use Rattle.std.specs.Prelude.{◌≡◌, ◌⊎◌, ℕ, ◌+◌, ◌&&◌, Bool, true, false, not, nat_lt, nat_le, List, [], ◌++◌, Option, Some, None, option_map, if◌then◌else◌}
use Rattle.std.specs.Option.{is_some}
use Rattle.nb_disk.specs.Histories.{DiskReading, at_work}
use Rattle.nb_iscsipdu.specs.declared.command.Command.{Command}
use Rattle.nb_iscsipdu.specs.declared.command.Command.TheVariants.{TestUnitReady, ReadCapacity, Read}
use Rattle.nb_drivechains.specs.declared.drive_answer.DriveAnswer.{DriveAnswer as Told}
use Rattle.nb_machine.specs.Drives.{DriveAnswer, session_of}
use Rattle.nb_machine.specs.Kinds.{answered, read_last}
use Rattle.nb_machine.specs.Lives.{OpenInput, message, tcp_segment, time, task, close, OpenKind, tftp, http, iscsi, dns, dhcp, ping, Live}
use Rattle.nb_sans.specs.Sessions.{ReadTask, TaskAnswer, blocks_read, read_refused, read_short, session_reading}
use Rattle.nb_streams.specs.Streams.{front}
use Rattle.nb_talks.specs.Talking.{talk_held}
use Rattle.nb_open.specs.declared.ended.Ended.{Ended}
use Rattle.nb_open.specs.declared.objects.OpenObjects.{OpenObjects}
use Rattle.nb_open.specs.declared.objects.OpenObjects.TheVariants as objects

-- what was delivered as one message: what a drive delivers is blocks
abbrev pub found_bytes : OpenObjects → Option (List ℕ) → Option (List ℕ)
found_bytes (objects.Chain kind chain) bytes = bytes
found_bytes (objects.Web port own chain) bytes = bytes
found_bytes (objects.Drive port own chain) bytes = None

-- the bytes that have come of the read at work
abbrev pub bytes_of_read : DiskReading → Option Command → List ℕ
bytes_of_read r None = []
bytes_of_read r (Some TestUnitReady) = []
bytes_of_read r (Some ReadCapacity) = []
bytes_of_read r (Some (Read lba blocks)) = r.bytes

abbrev pub bytes_by : OpenKind → Live → List ℕ
bytes_by tftp l = []
bytes_by (http isn) l = []
bytes_by (iscsi isn i) l =
    let d = session_of isn i l in
    let r = session_reading i (front (talk_held isn d)) d.tasks in
    bytes_of_read r (at_work r)
bytes_by (dns id) l = []
bytes_by (dhcp a) l = []
bytes_by ping l = []

-- so of an open
abbrev pub bytes_so_far : Live → List ℕ
bytes_so_far l = bytes_by l.kind l

-- whether a read is at work
abbrev pub is_read : Option Command → Bool
is_read None = false
is_read (Some TestUnitReady) = false
is_read (Some ReadCapacity) = false
is_read (Some (Read lba blocks)) = true

abbrev pub reads_by : OpenKind → Live → Bool
reads_by tftp l = false
reads_by (http isn) l = false
reads_by (iscsi isn i) l = let d = session_of isn i l in is_read (at_work (session_reading i (front (talk_held isn d)) d.tasks))
reads_by (dns id) l = false
reads_by (dhcp a) l = false
reads_by ping l = false

-- so of an open
abbrev pub is_reading : Live → Bool
is_reading l = reads_by l.kind l

-- once the capacity is known, an answer is that of a read, by all its bytes
abbrev pub read_answer : Option DriveAnswer → List ℕ → Option TaskAnswer
read_answer None bytes = None
read_answer (Some before) bytes = Some (blocks_read bytes)

-- Nothing was answered, and these bytes of a read have come; or this was, after these. The first answer is of no read, each later one is.
abbrev pub AnswersAfter : Live → Live → Option Told → List ℕ → Type 0
AnswersAfter l after None blocks = (answered after ≡ answered l) × (bytes_so_far after ≡ bytes_so_far l ++ blocks) × (is_reading after ≡ is_reading l)
AnswersAfter l after (Some a) blocks =
    (answered after ≡ Some (record { server = l.server; chap = a.chap; capacity = a.blocks; last = read_answer (answered l) (bytes_so_far l ++ blocks) })) × (bytes_so_far after ≡ [])
    × (is_reading after ≡ false) × (is_reading l ≡ is_some (answered l))

-- the read at work was refused, or not all its bytes have come
abbrev pub IsNotRead : Option TaskAnswer → Type 0
IsNotRead None = ⊥
IsNotRead (Some (blocks_read bytes)) = ⊥
IsNotRead (Some (read_refused status)) = Unit {0}
IsNotRead (Some read_short) = Unit {0}

abbrev pub IsRefused : Option DriveAnswer → Type 0
IsRefused None = ⊥
IsRefused (Some a) = IsNotRead a.last

-- where it has ended a read may have failed, of a drive that had answered, so that nothing more was answered, nor was read last
abbrev pub AnswersAtEnd : Live → Live → Option Told → List ℕ → Type 0
AnswersAtEnd l after None blocks = ((answered after ≡ answered l) ⊎ ((is_some (answered l) ≡ true) × IsRefused (answered after))) × (read_last after ≡ read_last l)
AnswersAtEnd l after (Some a) blocks = AnswersAfter l after (Some a) blocks

-- a drive of this capacity takes a read of at most 64 blocks within the disk, unless one is at work; before it is known it takes none
abbrev pub would_take : (reading : Bool) → ReadTask → (capacity : Option ℕ) → Bool
would_take reading t None = false
would_take reading t (Some capacity) = (nat_lt 0 t.blocks && nat_le t.blocks 64) && (not (nat_lt capacity (t.lba + t.blocks)) && not reading)

abbrev pub takes_task : ReadTask → Live → Bool
takes_task t l = would_take (is_reading l) t (option_map (λ (a : DriveAnswer). a.capacity) (answered l))

-- with no read that was answered last
abbrev pub with_none_last : DriveAnswer → DriveAnswer
with_none_last a = record { server = a.server; chap = a.chap; capacity = a.capacity; last = None }

-- A read is asked of it: one that it takes is at work then, and none of its bytes have come; another changes nothing.
pub record AsksAfter (t : ReadTask) (l after : Live) : Type 0 where
  pub answer : answered after ≡ (if takes_task t l then option_map with_none_last (answered l) else answered l)
  pub bytes : bytes_so_far after ≡ (if takes_task t l then [] else bytes_so_far l)
  pub reading : is_reading after ≡ (if takes_task t l then true else is_reading l)

-- so where something comes to it; what is asked of it is answered later
abbrev pub AnswersTo : OpenInput → Live → Live → Option Told → List ℕ → Type 0
AnswersTo (message rec port body now) l after answer blocks = AnswersAfter l after answer blocks
AnswersTo (tcp_segment rec g now) l after answer blocks = AnswersAfter l after answer blocks
AnswersTo (time now) l after answer blocks = AnswersAfter l after answer blocks
AnswersTo (task t now) l after answer blocks = AsksAfter t l after
AnswersTo (close cause) l after answer blocks = AnswersAfter l after answer blocks

abbrev pub AnswersLastTo : OpenInput → Live → Live → Option Told → List ℕ → Type 0
AnswersLastTo (message rec port body now) l after answer blocks = AnswersAtEnd l after answer blocks
AnswersLastTo (tcp_segment rec g now) l after answer blocks = AnswersAtEnd l after answer blocks
AnswersLastTo (time now) l after answer blocks = AnswersAtEnd l after answer blocks
AnswersLastTo (task t now) l after answer blocks = AsksAfter t l after
AnswersLastTo (close cause) l after answer blocks = AnswersAtEnd l after answer blocks

-- so of a drive; others answer nothing
abbrev pub AnswersFor : OpenObjects → OpenInput → Live → Live → Option Told → List ℕ → Type 0
AnswersFor (objects.Chain kind chain) came l after answer blocks = Unit {0}
AnswersFor (objects.Web port own chain) came l after answer blocks = Unit {0}
AnswersFor (objects.Drive port own chain) came l after answer blocks = AnswersTo came l after answer blocks

abbrev pub AnswersLast : OpenObjects → OpenInput → Live → Live → Option Told → List ℕ → Type 0
AnswersLast (objects.Chain kind chain) came l after answer blocks = Unit {0}
AnswersLast (objects.Web port own chain) came l after answer blocks = Unit {0}
AnswersLast (objects.Drive port own chain) came l after answer blocks = AnswersLastTo came l after answer blocks

abbrev pub AnswersOrEnds : Option Ended → OpenObjects → OpenInput → Live → Live → Option Told → List ℕ → Type 0
AnswersOrEnds None os came l after answer blocks = AnswersFor os came l after answer blocks
AnswersOrEnds (Some e) os came l after answer blocks = AnswersLast os came l after answer blocks
