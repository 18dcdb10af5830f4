-- Which record brought a part of the stream shows in ends alone
use Rattle.std.specs.Prelude.{◌≡◌, ℕ, List, map}
use Rattle.std.specs.Option.{is_some}
use Rattle.nb_login.specs.declared.info.LoginInfo.{LoginInfo}
use Rattle.nb_login.specs.declared.session.Session.{Session}
use Rattle.nb_disk.specs.Histories.{DiskCall, came, asked, stream_ended, DiskReading, SessionNumbers, reading}
use Rattle.nb_disk.specs.DiskAnswers.{disk_answer, session_has_ended}
use Rattle.nb_sans.specs.Sessions.{ReadTask, session_come, drive_calls}

-- the same call, as if this record had brought it
abbrev pub brought_by : ℕ → DiskCall → DiskCall
brought_by rec (came r p) = came rec p
brought_by rec (asked lba blocks) = asked lba blocks
brought_by rec (stream_ended r) = stream_ended rec

-- What a drive reads, puts and gives, and whether it ends, is the same whichever records brought what came; so are the session
-- and its calls.
pub record OnlyEndsShowRecords : Type 0 where
  pub reads : (o : SessionNumbers) (rec : ℕ) (calls : List DiskCall) → reading o (map (brought_by rec) calls) ≡ reading o calls
  pub put : (o : SessionNumbers) (r : DiskReading) (rec : ℕ) (call : DiskCall) → (disk_answer o r (brought_by rec call)).put ≡ (disk_answer o r call).put
  pub give : (o : SessionNumbers) (r : DiskReading) (rec : ℕ) (call : DiskCall) → (disk_answer o r (brought_by rec call)).give ≡ (disk_answer o r call).give
  pub over : (o : SessionNumbers) (r : DiskReading) (rec : ℕ) (call : DiskCall) → is_some (disk_answer o r (brought_by rec call)).over ≡ is_some (disk_answer o r call).over
  pub ended : (o : SessionNumbers) (rec : ℕ) (calls : List DiskCall) → session_has_ended o (map (brought_by rec) calls) ≡ session_has_ended o calls
  pub session : (rec : ℕ) (i : LoginInfo) (stream : List ℕ) → session_come rec i stream ≡ session_come 0 i stream
  pub calls : (rec : ℕ) (i : LoginInfo) (stream : List ℕ) (tasks : List (ReadTask × ℕ)) (s : Session) → drive_calls rec i stream tasks s ≡ map (brought_by rec) (drive_calls 0 i stream tasks s)
