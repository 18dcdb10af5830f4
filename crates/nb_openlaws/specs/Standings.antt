-- What the history of a course's records says of its state: the time, the opens that were made, and of each that lives, however
-- many there are, what its OPEN says, what it has received and what it has tried.
use Rattle.std.specs.Prelude.{◌≡◌, ℕ, ◌==◌, ◌≤◌, ◌<◌, Bool, false, List, [], ◌∷◌, ◌++◌, map, None, if◌then◌else◌}
use Rattle.std.specs.List.{flat_map, list_any, AllByRecursion}
use Rattle.nb_defs.specs.Records.{Out, step, sent, text, command, result, script, opened, tried, advanced, ended, graph, part, done}
use Rattle.nb_tftp.specs.Received.{received}
use Rattle.nb_tftp.specs.History.{Call, came, ticked}
use Rattle.nb_talks.specs.Talking.{Came}
use Rattle.nb_streams.specs.Trying.{TryMark, comes_in, tries_at}
use Rattle.nb_webs.specs.Webs.{NoTask, call_of}
use Rattle.nb_machine.specs.Connections.{came_on}
use Rattle.nb_machine.specs.Findings.{first_word, query_id}
use Rattle.nb_laws.specs.Agreement.{AreStill}
use Rattle.nb_laws.specs.Silence.{AreSilent}
use Rattle.nb_laws.specs.Cores.{asker_by}
use Rattle.nb_laws.specs.Drives.{sessions}
use Rattle.nb_laws.specs.Events.{Event}
use Rattle.nb_laws.specs.Histories.{client}
use Rattle.nb_laws.specs.Webs.{brought_to, told_try_mark, try_marks_of}
use Rattle.nb_laws.specs.Lists as lists
use Rattle.nb_laws.specs.Lists.{made, port_offset, Hardware, hardware, Opening, openings, open_has_ended, live, calls, Mark, tries, marks, mark_of_call}
use Rattle.nb_machine.specs.Lives.{OpenKind, tftp, http, iscsi, dns, dhcp, ping, kind_number, OpenInput, message, tcp_segment, time, task, close, Exchange, Live}
use Rattle.nb_machine.specs.States.{State, net0}
use Rattle.nb_machine.specs.Scripts.{net0_mac}
use Rattle.nb_machine.specs.Takings.{end_among}
use Rattle.nb_machine.specs.Courses as course
use Rattle.nb_machine.specs.Courses.{Standing}

-- the opening of an open that lives
abbrev pub live_opening : Live → Opening
live_opening l = record { kind = kind_number l.kind; server = l.server; port = l.port; own = l.own; target = l.target; since = l.since }

-- the port that a message came from, as the history has it: an echo comes from none
abbrev pub heard_port : OpenKind → ℕ → ℕ
heard_port tftp port = port
heard_port (http isn) port = port
heard_port (iscsi isn i) port = port
heard_port (dns id) port = port
heard_port (dhcp a) port = port
heard_port ping port = 0

-- what came, as the history has it; a segment comes to a connection, and neither a task nor a close is an event of it
abbrev pub heard_call : OpenKind → OpenInput → List Call
heard_call kind (message rec port body now) = came (received rec (heard_port kind port) body) now ∷ []
heard_call kind (tcp_segment rec g now) = []
heard_call kind (time now) = ticked now ∷ []
heard_call kind (task t now) = []
heard_call kind (close cause) = []

abbrev pub heard_calls : OpenKind → List Exchange → List Call
heard_calls kind xs = flat_map (λ x. heard_call kind x.came) xs

-- when it came
abbrev pub moment_in : OpenInput → ℕ
moment_in (message rec port body now) = now
moment_in (tcp_segment rec g now) = now
moment_in (time now) = now
moment_in (task t now) = now
moment_in (close cause) = 0

-- the try of open k that a record of this time tells
abbrev pub told_try : (k now : ℕ) → Out → List Mark
told_try k now (tried number count) = if number == k then tries count now ∷ [] else []
told_try k now (step number) = []
told_try k now (sent bytes) = []
told_try k now (text bytes) = []
told_try k now (command depth line place expanded words) = []
told_try k now (result cause) = []
told_try k now (script what depth cause) = []
told_try k now (opened number kind server port own target) = []
told_try k now (advanced number place) = []
told_try k now (ended number cause) = []
told_try k now (graph happens) = []
told_try k now (part kind index offset bytes) = []
told_try k now (done status) = []

abbrev pub told_tries : (k now : ℕ) → List Out → List Mark
told_tries k now outs = flat_map (told_try k now) outs

-- what an exchange of open k is in the history: what came, and then the tries that it tells
abbrev pub exchange_marks : OpenKind → ℕ → Exchange → List Mark
exchange_marks kind k x = map mark_of_call (heard_call kind x.came) ++ told_tries k (moment_in x.came) x.put

abbrev pub heard_marks : OpenKind → ℕ → List Exchange → List Mark
heard_marks kind k xs = flat_map (exchange_marks kind k) xs

-- what came to its connection, of segments and times
abbrev pub streamed : List Exchange → List (Came NoTask)
streamed xs = flat_map (λ x. came_on x.came) xs

-- what an exchange of open k is to its connection: what came, and then the tries that it tells
abbrev pub exchange_try_marks : ℕ → Exchange → List TryMark
exchange_try_marks k x = map (λ c. comes_in (call_of c)) (came_on x.came) ++ flat_map (told_try_mark k (moment_in x.came)) x.put

abbrev pub streamed_marks : ℕ → List Exchange → List TryMark
streamed_marks k xs = flat_map (exchange_try_marks k) xs

-- An open of a kind, as its OPEN tells it: a connection's SYN has its number, a look-up's query its number, and a lease its asker, by
-- START's key; a name server is asked at its port 53, a lease of all hosts, from port 68 to port 67, and a ping has no port.
abbrev pub IsKindBy : Hardware → ℕ → OpenKind → Opening → Type 0
IsKindBy h k tftp o = Unit {0}
IsKindBy h k (http isn) o = isn ≡ first_word h.identity k
IsKindBy h k (iscsi isn i) o = isn ≡ first_word h.identity k
IsKindBy h k (dns id) o = (id ≡ query_id h.identity k) × (o.port ≡ 53)
IsKindBy h k (dhcp a) o = (a ≡ asker_by h k) × (o.server ≡ 4294967295) × (o.port ≡ 67) × (o.own ≡ 68) × (o.target ≡ [])
IsKindBy h k ping o = (o.port ≡ 0) × (o.target ≡ [])

-- what the login of a drive's session was begun with is the history's
abbrev pub HasLogin : ℕ → List Event → OpenKind → Opening → Type 0
HasLogin k es tftp o = Unit {0}
HasLogin k es (http isn) o = Unit {0}
HasLogin k es (iscsi isn i) o = (boots : Bool) × (sessions k es ≡ record { opening = o; login = i; boots = boots } ∷ [])
HasLogin k es (dns id) o = Unit {0}
HasLogin k es (dhcp a) o = Unit {0}
HasLogin k es ping o = Unit {0}

-- a message for a ping has its identifier
abbrev pub ComesToOwnPort : OpenKind → (own : ℕ) → OpenInput → Type 0
ComesToOwnPort tftp own input = Unit {0}
ComesToOwnPort (http isn) own input = Unit {0}
ComesToOwnPort (iscsi isn i) own input = Unit {0}
ComesToOwnPort (dns id) own input = Unit {0}
ComesToOwnPort (dhcp a) own input = Unit {0}
ComesToOwnPort ping own (message rec port body now) = port ≡ own
ComesToOwnPort ping own (tcp_segment rec g now) = Unit {0}
ComesToOwnPort ping own (time now) = Unit {0}
ComesToOwnPort ping own (task t now) = Unit {0}
ComesToOwnPort ping own (close cause) = Unit {0}

-- an exchange after which the open goes on
abbrev pub IsOngoing : OpenKind → (number own : ℕ) → Exchange → Type 0
IsOngoing kind number own x = (end_among number x.put ≡ None) × ComesToOwnPort kind own x.came

-- what the history says of an open that lives
pub record AgreesLive (es : List Event) (l : Live) : Type 0 where
  pub made_so : l.number < made es
  pub on_net0 : l.device ≡ net0
  pub kind_is : IsKindBy (hardware es) l.number l.kind (live_opening l)
  pub login : HasLogin l.number es l.kind (live_opening l)
  pub opening : openings l.number es ≡ live_opening l ∷ []
  pub lives : open_has_ended l.number es ≡ false
  pub received : calls l.number es ≡ heard_calls l.kind l.exchanges
  pub tells : marks l.number es ≡ tries 1 l.since ∷ heard_marks l.kind l.number l.exchanges
  pub streams : brought_to l.number es ≡ streamed l.exchanges
  pub tries_stand : try_marks_of l.number es ≡ tries_at 1 l.since ∷ streamed_marks l.number l.exchanges
  pub goes_on : AllByRecursion (IsOngoing l.kind l.number l.own) l.exchanges

abbrev pub AreLive : List Event → List Live → Type 0
AreLive es ls = AllByRecursion (AgreesLive es) ls

abbrev pub has_live_number : ℕ → Live → Bool
has_live_number k l = l.number == k

abbrev pub lives_among : ℕ → List Live → Bool
lives_among k ls = list_any (has_live_number k) ls

-- no two have one number
abbrev pub HaveOwnNumbers : List Live → Type 0
HaveOwnNumbers [] = Unit {0}
HaveOwnNumbers (l ∷ ls) = (lives_among l.number ls ≡ false) × HaveOwnNumbers ls

-- The history says the time, how many opens were made, and of each open that lives all that has come to it and that it has tried;
-- no other open lives, and of those to come nothing is told.
pub record AgreesState (es : List Event) (s : State) : Type 0 where
  pub time : lists.time es ≡ s.now
  pub opens : made es ≡ s.opens
  pub offset : port_offset es ≡ s.w
  pub mac_is : (hardware es).mac ≡ net0_mac s.devices
  pub identity_is : (hardware es).identity ≡ s.machine
  pub each : AreLive es s.live
  pub apart : HaveOwnNumbers s.live
  pub others : (k : ℕ) → lives_among k s.live ≡ false → live k es ≡ []
  pub unopened : (k : ℕ) → made es ≤ k → openings k es ≡ []
  pub unended : (k : ℕ) → made es ≤ k → open_has_ended k es ≡ false
  pub untold : (k : ℕ) → made es ≤ k → (calls k es ≡ []) × (marks k es ≡ [])
  pub unstreamed : (k : ℕ) → made es ≤ k → (brought_to k es ≡ []) × (try_marks_of k es ≡ [])

-- the one device is the history's client
abbrev pub AgreesDevice : List Event → State → Type 0
AgreesDevice es s = s.devices ≡ client es ∷ []

-- what the history says of where a course stands
abbrev pub AgreesStanding : List Event → Standing → Type 0
AgreesStanding es course.ready = es ≡ []
AgreesStanding es (course.running s inner outer) = AgreesState es s
AgreesStanding es (course.waiting s w) = AgreesState es s
AgreesStanding es (course.reaching s inner outer next) = AgreesState es s
AgreesStanding es (course.yielded s inner outer) = AgreesState es s
AgreesStanding es (course.handing s rest) = AgreesState es s × AreStill rest × AreSilent rest
AgreesStanding es (course.left s outer cause) = AgreesState es s
AgreesStanding es (course.handed_off s) = AgreesState es s
AgreesStanding es (course.stopped s) = AgreesState es s
