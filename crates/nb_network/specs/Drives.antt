-- What is kept of a drive that lives: what its login was begun with, what it has answered, and what it reads and has read.
use Rattle.std.specs.Prelude.{ℕ, Bool, List, [], ◌++◌, Option, Some, None, option_map, option_and_then, if◌then◌else◌}
use Rattle.std.specs.Option.{is_some}
use Rattle.nb_drivechains.specs.declared.drive_answer.DriveAnswer.{DriveAnswer as Told}
use Rattle.nb_drivenodes.specs.DriveAsks.{info_of}
use Rattle.nb_login.specs.declared.info.LoginInfo.{LoginInfo}
use Rattle.nb_machine.specs.BootTables.{login_of_kind}
use Rattle.nb_machine.specs.Drives.{DriveAnswer}
use Rattle.nb_machine.specs.Kinds.{answered, read_last}
use Rattle.nb_machine.specs.Lives.{OpenInput, message, tcp_segment, time, task, close, Live}
use Rattle.nb_open.specs.DriveAnswers.{bytes_so_far, is_reading, would_take}
use Rattle.nb_open.specs.declared.opening.Opening.{Opening}
use Rattle.nb_open.specs.declared.opening.Opening.TheVariants.{File, Web, Drive, Name, Lease, Echo}
use Rattle.nb_sans.specs.Sessions.{ReadTask}
use Rattle.nb_teller.specs.Spelling.{Spelling}
use Rattle.nb_network.specs.declared.living.BlocksAsked.{BlocksAsked}
use Rattle.nb_network.specs.declared.living.KeptDrive.{KeptDrive}
use Rattle.nb_network.specs.declared.living.Living.{Living}

-- the bytes that have come of the read at work, if one is
abbrev pub coming_of : Live → Option (List ℕ)
coming_of l = if is_reading l then Some (bytes_so_far l) else None

-- what is kept of it, by its login
abbrev pub kept_drive_of : Live → LoginInfo → KeptDrive
kept_drive_of l login = record {
  login = login;
  chap = option_map (λ (a : DriveAnswer). a.chap) (answered l);
  capacity = option_map (λ (a : DriveAnswer). a.capacity) (answered l);
  coming = coming_of l;
  read = read_last l;
}

-- so of an open, where it is a drive's
abbrev pub drive_of : Live → Option KeptDrive
drive_of l = option_map (kept_drive_of l) (login_of_kind l.kind)

-- of one that begins
abbrev pub drive_by : Opening → Option KeptDrive
drive_by (File a) = None
drive_by (Web a) = None
drive_by (Drive a) = Some (record { login = info_of a.ask; chap = None; capacity = None; coming = None; read = None })
drive_by (Name a) = None
drive_by (Lease a) = None
drive_by (Echo a) = None

-- What is noted of an open as something comes to it: what it has answered, if it has, after these bytes of a read; or the read that is
-- asked of it.
pub data DriveNews : Type 0 where
  brings : Option Told → (blocks : List ℕ) → DriveNews
  asks : ReadTask → DriveNews

-- these bytes have come of the read at work
abbrev pub with_blocks : List ℕ → KeptDrive → KeptDrive
with_blocks blocks d = record { login = d.login; chap = d.chap; capacity = d.capacity; coming = option_map (λ bytes. bytes ++ blocks) d.coming; read = d.read }

-- it has answered so after them, and they were the last of the read at work, if one was
abbrev pub with_answer : Told → List ℕ → KeptDrive → KeptDrive
with_answer a blocks d = record { login = d.login; chap = Some a.chap; capacity = Some a.blocks; coming = None; read = option_map (λ bytes. bytes ++ blocks) d.coming }

-- this read is at work, if it takes it
abbrev pub with_read : ReadTask → KeptDrive → KeptDrive
with_read t d = if would_take (is_some d.coming) t d.capacity then record { login = d.login; chap = d.chap; capacity = d.capacity; coming = Some []; read = None } else d

abbrev pub with_news : DriveNews → KeptDrive → KeptDrive
with_news (brings None blocks) d = with_blocks blocks d
with_news (brings (Some a) blocks) d = with_answer a blocks d
with_news (asks t) d = with_read t d

abbrev pub drive_noted : DriveNews → Option KeptDrive → Option KeptDrive
drive_noted heard d = option_map (with_news heard) d

-- the open, with what is noted of it
abbrev pub noted : DriveNews → Living → Living
noted heard o = record { speaker = o.speaker; objects = o.objects; drive = drive_noted heard o.drive }

-- whether it is a drive that has answered
abbrev pub has_answered : Living → Bool
has_answered o = is_some (option_and_then (λ (d : KeptDrive). d.chap) o.drive)

-- what it has read last as a drive
abbrev pub last_read_by : Living → Option (List ℕ)
last_read_by o = option_and_then (λ (d : KeptDrive). d.read) o.drive

-- what is noted, as something comes to it; what was asked of it is answered later
abbrev pub news_by : OpenInput → Spelling → DriveNews
news_by (message rec port body now) s = brings s.answer s.blocks
news_by (tcp_segment rec g now) s = brings s.answer s.blocks
news_by (time now) s = brings s.answer s.blocks
news_by (task t now) s = asks t
news_by (close cause) s = brings s.answer s.blocks

-- so by what was told, unless this was asked
abbrev pub news_of : Option BlocksAsked → Spelling → DriveNews
news_of None s = brings s.answer s.blocks
news_of (Some a) s = asks (record { lba = a.block; blocks = a.count })
