-- The client by the history, and which events are the history of two lists of records.
use Rattle.std.specs.Prelude.{◌≡◌, List, [], None, false}
use Rattle.nb_defs.specs.Records.{In, Out, step, sent, text, command, result, script, opened, tried, advanced, ended, graph, part, done}
use Rattle.nb_stack.specs.Client.{Client}
use Rattle.nb_stack.specs.Brings.{Brings}
use Rattle.nb_stack.specs.Takes.{client_after}
use Rattle.nb_machine.specs.Link.{link_by}
use Rattle.nb_machine.specs.Starting.{device_of}
use Rattle.nb_laws.specs.Events.{Event, starts, hears, waits, stops, puts, inputs, outputs, EachEvent, followed}
use Rattle.nb_laws.specs.CommandsSoFar.{CommandsSoFar, no_commands, so_far_by}

-- before START the device has no MAC
abbrev pub no_device : Client
no_device = record { mac = record { 0 = [] }; address = None; up = false; near = []; ports = [] }

-- START gives the device its MAC; an ARP message may change the neighbours
abbrev pub device_by : Client → Event → Client
device_by c (starts n s) = device_of s
device_by c (hears n bytes m) = client_after c m
device_by c (waits n ms) = c
device_by c (stops n) = c
device_by c (puts o) = c

-- what the commands did, and the device with its neighbours
pub record LinkSoFar : Type 0 where
  pub commands : CommandsSoFar
  pub device : Client

abbrev pub no_link : LinkSoFar
no_link = record { commands = no_commands; device = no_device }

-- the client: the device, with the address that the settings give, up or down as the commands left it
abbrev pub client_of : LinkSoFar → Client
client_of l = link_by l.commands.table l.commands.up l.device

abbrev pub link_so_far_by : List Event → LinkSoFar → Event → LinkSoFar
link_so_far_by before l e = record { commands = so_far_by before l.commands e; device = device_by (client_of l) e }

-- the client and its neighbours after these events; ports aren't told
unfoldable pub client : List Event → Client
client es = client_of (followed link_so_far_by [] no_link es)

-- each frame brought its message to the client as it was then; what is written else is no STEP
abbrev pub IsRead : List Event → Event → Type 0
IsRead before (starts n s) = Unit {0}
IsRead before (hears n bytes m) = Brings (client before).up (client before).mac (client before).address bytes m
IsRead before (waits n ms) = Unit {0}
IsRead before (stops n) = Unit {0}
IsRead before (puts (step number)) = ⊥
IsRead before (puts (sent bytes)) = Unit {0}
IsRead before (puts (text bytes)) = Unit {0}
IsRead before (puts (command depth line place expanded words)) = Unit {0}
IsRead before (puts (result cause)) = Unit {0}
IsRead before (puts (script what depth cause)) = Unit {0}
IsRead before (puts (opened number kind server port own target)) = Unit {0}
IsRead before (puts (tried number count)) = Unit {0}
IsRead before (puts (advanced number place)) = Unit {0}
IsRead before (puts (ended number cause)) = Unit {0}
IsRead before (puts (graph happens)) = Unit {0}
IsRead before (puts (part kind index offset bytes)) = Unit {0}
IsRead before (puts (done status)) = Unit {0}

-- The events are the history of the records used and written: no others are.
pub record IsHistory (ins : List In) (outs : List Out) (es : List Event) : Type 0 where
  pub used : ins ≡ inputs es
  pub written : outs ≡ outputs es
  pub read : EachEvent IsRead [] es
