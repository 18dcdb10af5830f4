-- What a command that waits has asked for: as the machine's open and its job.
use Rattle.std.specs.Prelude.{ℕ, List, [], ◌∷◌, ◌++◌}
use Rattle.nb_wire.specs.declared.address.Ip4.{Ip4}
use Rattle.nb_drivecmd.specs.declared.disk_names.NamedDisk.{NamedDisk}
use Rattle.nb_drivecmd.specs.declared.outcome.Hooking.{Hooking}
use Rattle.nb_drivelogin.specs.DriveLogins.{login_by}
use Rattle.nb_machine.specs.Findings.{first_word, open_words}
use Rattle.nb_machine.specs.Lives.{Live, iscsi}
use Rattle.nb_machine.specs.Queries.{for_lease}
use Rattle.nb_machine.specs.Scripts.{Job, fetch, hooks, boots, sleep, Awaited, answer, block, moment, awaited_hook, transfer_for, live_for, job_for}
use Rattle.nb_machine.specs.Starting.{own_port}
use Rattle.nb_machine.specs.States.{State, net0}
use Rattle.nb_runner.specs.CommandWords.{wanted_of}
use Rattle.nb_runner.specs.Intents.{query_of}
use Rattle.nb_runner.specs.declared.errand.Errand.{Errand}
use Rattle.nb_runner.specs.declared.errand.Errand.TheVariants as errand
use Rattle.nb_runner.specs.declared.errand.Onward.{Onward}
use Rattle.nb_runner.specs.declared.errand.Onward.TheVariants as onward
use Rattle.nb_runner.specs.declared.query.Query.TheVariants as query
use Rattle.nb_runner.specs.declared.world.World.{World}
use Rattle.nb_chains.specs.declared.kind.ChainKind.{ChainKind}
use Rattle.nb_chains.specs.declared.kind.ChainKind.TheVariants as chain
use Rattle.nb_traced.specs.Holdings.{GraphObject}
use Rattle.nb_open.specs.Begins.{waiting_pieces}
use Rattle.nb_client.specs.declared.asked.Asked.{Asked}
use Rattle.nb_client.specs.declared.asked.Asked.TheVariants.{File, Query as Exchange, Disk, Block}
use Rattle.nb_client.specs.declared.asked.AskedDisk.{AskedDisk}
use Rattle.nb_client.specs.declared.pending.Expected.{Expected}
use Rattle.nb_client.specs.declared.pending.Expected.TheVariants.{Open, Moment}

-- the name that a disk's target has, a zero, and its logical unit's number
abbrev pub target_of : NamedDisk → List ℕ
target_of disk = disk.name ++ 0 ∷ disk.lun

-- a disk as it is asked for in this world
abbrev pub asked_disk : World → Hooking → Ip4 → AskedDisk
asked_disk w hooking server = record {
  hooking = hooking;
  server = server;
  login = login_by hooking.disk (open_words w.machine w.opens) w.state.table;
  target = target_of hooking.disk;
}

-- the open that is made for a disk
abbrev pub live_of_disk : State → AskedDisk → Live
live_of_disk s disk = record {
  number = s.opens;
  kind = iscsi (first_word s.machine s.opens) disk.login;
  device = net0;
  server = disk.server.0;
  port = disk.hooking.disk.port;
  own = own_port s.w s.opens;
  target = disk.target;
  since = s.now;
  exchanges = [];
}

-- the open that is made for it, and what is done with what comes of that; for a block none is made, so no matter which
abbrev pub live_asked : State → Asked → Live
live_asked s (File w) = transfer_for s (wanted_of w)
live_asked s (Exchange q) = live_for s (query_of q)
live_asked s (Disk disk) = live_of_disk s disk
live_asked s (Block d) = live_for s for_lease

abbrev pub job_asked : Asked → Job
job_asked (File w) = fetch (wanted_of w)
job_asked (Exchange q) = job_for (query_of q)
job_asked (Disk disk) = hooks disk.hooking
job_asked (Block d) = boots d

-- what is awaited of its open, which has this number
abbrev pub awaited_asked : Asked → ℕ → Awaited
awaited_asked (File w) number = answer number
awaited_asked (Exchange q) number = answer number
awaited_asked (Disk disk) number = awaited_hook disk.hooking.after number
awaited_asked (Block d) number = block number

-- what a command waits for
abbrev pub awaited_by : Expected → Awaited
awaited_by (Open p) = awaited_asked p.asked p.number
awaited_by (Moment time) = moment time

abbrev pub job_of : Expected → Job
job_of (Open p) = job_asked p.asked
job_of (Moment time) = sleep

-- the kind of the open that waits for a look-up, and of the one that is next
abbrev pub errand_kind : Errand → ChainKind
errand_kind (errand.File f) = chain.File
errand_kind errand.Echo = chain.Echo
errand_kind (errand.Disk hooking) = chain.Drive

abbrev pub onward_kind : Onward → ChainKind
onward_kind (onward.File w) = chain.File
onward_kind (onward.Echo server) = chain.Echo
onward_kind (onward.Disk hooking server) = chain.Drive
onward_kind (onward.Name e name by) = chain.Name

-- what is asked for next, in this world
abbrev pub asked_onward : World → Onward → Asked
asked_onward w (onward.File wanted) = File wanted
asked_onward w (onward.Echo server) = Exchange (query.Echo server)
asked_onward w (onward.Disk hooking server) = Disk (asked_disk w hooking server)
asked_onward w (onward.Name e name by) = Exchange (query.Host e name by)

-- of a look-up of a server's name, the kind of what waits beside it; else no matter which
abbrev pub beside_kind : Asked → ChainKind
beside_kind (File w) = chain.File
beside_kind (Disk disk) = chain.File
beside_kind (Block d) = chain.File
beside_kind (Exchange query.Lease) = chain.File
beside_kind (Exchange (query.Echo server)) = chain.Echo
beside_kind (Exchange (query.Address setting name by)) = chain.File
beside_kind (Exchange (query.Host e name by)) = errand_kind e

-- the objects that wait
abbrev pub pieces_beside : Expected → List GraphObject
pieces_beside (Open p) = waiting_pieces (beside_kind p.asked) p.waits
pieces_beside (Moment time) = []
