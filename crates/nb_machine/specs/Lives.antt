-- An open that lives: what its OPEN says, and all that came to it since, with what it put then.
use Rattle.std.specs.Prelude.{ℕ, List, [], ◌∷◌, ◌++◌}
use Rattle.nb_terms.specs.declared.cause.Cause.{Cause}
use Rattle.nb_defs.specs.Records.{Out, opened, ended}
use Rattle.nb_stack.specs.Client.{Client}
use Rattle.nb_dhcp.specs.declared.asker.Asker.{Asker}
use Rattle.nb_tcpseg.specs.SegmentText.{SegmentParts}
use Rattle.nb_login.specs.declared.info.LoginInfo.{LoginInfo}
use Rattle.nb_sans.specs.Sessions.{ReadTask}

-- what is opened
pub data OpenKind : Type 0 where
  -- a file by TFTP (RFC 1350)
  tftp : OpenKind
  -- a file by HTTP (RFC 9112), over a connection whose SYN has this number
  http : (isn : ℕ) → OpenKind
  -- a drive by iSCSI (RFC 7143), over a connection whose SYN has this number, with what its hook brings to the login
  iscsi : (isn : ℕ) → LoginInfo → OpenKind
  -- the address of a name by DNS (RFC 1035), by a query of this number
  dns : (id : ℕ) → OpenKind
  -- a lease by DHCP (RFC 2131), for this client
  dhcp : Asker → OpenKind
  -- an echo (RFC 792)
  ping : OpenKind

-- the number of a kind in an OPEN record
abbrev pub kind_number : OpenKind → ℕ
kind_number tftp = 1
kind_number (http isn) = 2
kind_number (iscsi isn i) = 3
kind_number (dns id) = 4
kind_number (dhcp a) = 5
kind_number ping = 6

-- what comes to an open: a message in the record of this number, from this port, or of an echo with this identifier; a segment; a time;
-- from above what a command asks of its drive, which no record brings, or a close
pub data OpenInput : Type 0 where
  message : (rec port : ℕ) (body : List ℕ) (now : ℕ) → OpenInput
  tcp_segment : (rec : ℕ) → SegmentParts → (now : ℕ) → OpenInput
  time : (now : ℕ) → OpenInput
  task : ReadTask → (now : ℕ) → OpenInput
  close : (cause : Cause) → OpenInput

-- what came, the client as it was then, and the records that the open put
pub record Exchange : Type 0 where
  pub came : OpenInput
  pub link : Client
  pub put : List Out

-- an open, from the OPEN that told it, on this device, at this time
pub record Live : Type 0 where
  pub number : ℕ
  pub kind : OpenKind
  pub device : ℕ
  pub server : ℕ
  pub port : ℕ
  pub own : ℕ
  pub target : List ℕ
  pub since : ℕ
  pub exchanges : List Exchange

abbrev pub exchange : OpenInput → Client → List Out → Exchange
exchange came link put = record { came = came; link = link; put = put }

-- with one exchange more
abbrev pub continued : Live → Exchange → Live
continued l x = record l { exchanges = l.exchanges ++ x ∷ [] }

-- its OPEN and its ENDED
abbrev pub open_record : Live → Out
open_record l = opened l.number (kind_number l.kind) l.server l.port l.own l.target

abbrev pub end_record : Live → Cause → Out
end_record l cause = ended l.number cause
