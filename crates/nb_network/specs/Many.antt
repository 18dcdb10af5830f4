-- The opens that live, as the code has them: their objects on one graph, and their ports, which are bound; and which states of the machine
-- they are.
use Rattle.std.specs.Prelude.{◌≡◌, ◌<◌, ◌≤◌, ◌⊎◌, ℕ, ◌+◌, true, List, [], ◌∷◌, map, Option, Some, None}
use Rattle.std.specs.List.{AllByRecursion, sum_by}
use Rattle.nb_ledger.specs.Ledger.{object_lives, run_state}
use Rattle.nb_frames.specs.Frames.{is_one_of}
use Rattle.nb_graph.specs.Whole.{Objects}
use Rattle.nb_nodes.specs.declared.obj.Obj.{Obj}
use Rattle.nb_stack.specs.Client.{Client}
use Rattle.nb_stack.specs.declared.ports.Port.{Port}
use Rattle.nb_machine.specs.Lives.{Live}
use Rattle.nb_machine.specs.Starting.{own_port}
use Rattle.nb_machine.specs.States.{State, bare}
use Rattle.nb_chains.specs.declared.chain.Chain.{Chain}
use Rattle.nb_chains.specs.declared.kind.ChainKind.{ChainKind}
use Rattle.nb_chains.specs.declared.kind.ChainKind.TheVariants as chain
use Rattle.nb_chains.specs.Chains.{AreOthers, Awaits, chain_ids}
use Rattle.nb_traced.specs.Holdings.{Holdings, GraphObject, Kin}
use Rattle.nb_teller.specs.Speakers.{carrier_number}
use Rattle.nb_open.specs.Begins.{IsLatest}
use Rattle.nb_open.specs.declared.open.Open.{Open}
use Rattle.nb_open.specs.declared.objects.OpenObjects.{OpenObjects}
use Rattle.nb_open.specs.declared.objects.OpenObjects.TheVariants as objects
use Rattle.nb_open.specs.Objects.{AreObjectsChained, objects_ids}
use Rattle.nb_open.specs.Open.{AreUnderWay, IsSpeakerOf, objects_pieces}
use Rattle.nb_network.specs.declared.living.Living.{Living}
use Rattle.nb_network.specs.Drives.{drive_of}

-- the graph, and the opens that live on it, by rising number
pub record Many : Type 0 where
  pub graph : Objects Obj
  pub list : List Living

-- the open alone, without what is kept of it
abbrev pub bare_open : Living → Open
bare_open o = record { speaker = o.speaker; objects = o.objects }

-- the open by its objects
abbrev pub kin_of : Living → Kin
kin_of o = record { number = o.speaker.number; pieces = objects_pieces o.objects }

-- the open lives on this graph, is this one of the machine's, and of a drive its login and its answer are kept
pub record IsLivingOf (g : Objects Obj) (o : Living) (l : Live) : Type 0 where
  pub chained : AreObjectsChained g o.objects
  pub called : IsSpeakerOf (bare_open o) l
  pub under_way : AreUnderWay o.objects g l
  pub drive : o.drive ≡ drive_of l

-- so it is of some
abbrev pub IsLivingOfSome : Objects Obj → Living → Type 0
IsLivingOfSome g o = (l : Live) × IsLivingOf g o l

-- each is one of the machine's, in their order
abbrev pub AreOpensOf : Objects Obj → List Living → List Live → Type 0
AreOpensOf g [] [] = Unit {0}
AreOpensOf g [] (l ∷ ls) = ⊥
AreOpensOf g (o ∷ os) [] = ⊥
AreOpensOf g (o ∷ os) (l ∷ ls) = IsLivingOf g o l × AreOpensOf g os ls

-- The state of the machine has these opens, at this time, over the one device of this link.
pub record IsStateOf (m : Many) (net : Client) (now : ℕ) (s : State) : Type 0 where
  pub devices : s.devices ≡ bare net ∷ []
  pub time : s.now ≡ now
  pub live : AreOpensOf m.graph m.list s.live

-- its port, which is bound
abbrev pub bound_port : Living → Port
bound_port o = record { proto = carrier_number o.speaker.carrier; number = o.speaker.own_port; to = o.speaker.number }

-- the client's port of a chain: RFC 2131 gives a lease's, an echo has its number as identifier
abbrev pub port_for : ChainKind → ℕ → ℕ → ℕ
port_for chain.File w number = own_port w number
port_for chain.Name w number = own_port w number
port_for chain.Lease w number = 68
port_for chain.Echo w number = number
port_for chain.Drive w number = own_port w number

-- UDP, or ICMP of an echo; a unit alone never lives as an open
abbrev pub protocol_for : ChainKind → ℕ
protocol_for chain.File = 17
protocol_for chain.Name = 17
protocol_for chain.Lease = 17
protocol_for chain.Echo = 1
protocol_for chain.Drive = 17

-- those of an open by its objects; a connection's protocol is TCP
abbrev pub own_port_for : OpenObjects → ℕ → ℕ → ℕ
own_port_for (objects.Chain kind chain) w number = port_for kind w number
own_port_for (objects.Web port own chain) w number = own_port w number
own_port_for (objects.Drive port own chain) w number = own_port w number

abbrev pub own_protocol_for : OpenObjects → ℕ
own_protocol_for (objects.Chain kind chain) = protocol_for kind
own_protocol_for (objects.Web port own chain) = 6
own_protocol_for (objects.Drive port own chain) = 6

pub record HasOwnPort (w : ℕ) (o : Living) : Type 0 where
  pub port : o.speaker.own_port ≡ own_port_for o.objects w o.speaker.number
  pub protocol : carrier_number o.speaker.carrier ≡ own_protocol_for o.objects

-- their numbers rise, and are below this
abbrev pub AreRising : ℕ → ℕ → List Living → Type 0
AreRising least most [] = Unit {0}
AreRising least most (o ∷ os) = (least ≤ o.speaker.number) × (o.speaker.number < most) × AreRising (o.speaker.number + 1) most os

-- a lease owns a port that each other lease would
abbrev pub lease_count : ChainKind → ℕ
lease_count chain.File = 0
lease_count chain.Name = 0
lease_count chain.Lease = 1
lease_count chain.Echo = 0
lease_count chain.Drive = 0

abbrev pub leases_in : OpenObjects → ℕ
leases_in (objects.Chain kind chain) = lease_count kind
leases_in (objects.Web port own chain) = 0
leases_in (objects.Drive port own chain) = 0

abbrev pub lease_count_of : Living → ℕ
lease_count_of o = leases_in o.objects

-- no object of one is another's
abbrev pub IsApartFrom : List ℕ → Living → Type 0
IsApartFrom ids o = AreOthers ids (objects_ids o.objects)

abbrev pub AreApart : List Living → Type 0
AreApart [] = Unit {0}
AreApart (o ∷ os) = AllByRecursion (IsApartFrom (objects_ids o.objects)) os × AreApart os

-- the most objects that live at a time
abbrev pub most_objects : ℕ
most_objects = 16

-- What holds of the opens that live, over this link, of a run in which so many were made.
pub record AreSound (w opens : ℕ) (net : Client) (m : Many) : Type 0 where
  pub w_fits : w ≤ 16383
  pub opens_fit : opens ≤ 16384
  pub ports : net.ports ≡ map bound_port m.list
  pub rising : AreRising 0 opens m.list
  pub own : AllByRecursion (HasOwnPort w) m.list
  pub one_lease : sum_by lease_count_of m.list ≤ 1
  pub lives : AllByRecursion (IsLivingOfSome m.graph) m.list
  pub apart : AreApart m.list
  pub room : m.graph.book.room ≡ most_objects

-- tied to the client's address is a lease, which may change it; others are not
abbrev pub AreUntied : OpenObjects → Type 0
AreUntied (objects.Chain kind chain) = lease_count kind ≡ 0
AreUntied (objects.Web port own chain) = Unit {0}
AreUntied (objects.Drive port own chain) = Unit {0}

abbrev pub IsUntied : Living → Type 0
IsUntied o = AreUntied o.objects

-- no open that is tied lives
abbrev pub HasNoneTied : Many → Type 0
HasNoneTied m = AllByRecursion IsUntied m.list

-- an object waits for an open of this kind, beside those that live
pub record WaitsBeside (kind : ChainKind) (c : Chain) (m : Many) : Type 0 where
  pub waits : Awaits kind c m.graph
  pub apart : AllByRecursion (IsApartFrom (chain_ids c)) m.list

-- an output stands with them, and with these pieces that wait, where so many opens were made
pub record FitsHoldings (m : Many) (opens : ℕ) (waits : List GraphObject) (h : Holdings) : Type 0 where
  pub state : h.state ≡ run_state m.graph.book []
  pub living : h.living ≡ map kin_of m.list
  pub waiting : h.waits ≡ waits
  pub numbered : h.begun ≤ opens

-- none but the open of this number is tied
abbrev pub IsUntiedBut : ℕ → Living → Type 0
IsUntiedBut k o = (o.speaker.number ≡ k → ⊥) → IsUntied o

-- none that is tied lives, but for the open that is awaited
abbrev pub HasTiedOnlyOf : Option ℕ → Many → Type 0
HasTiedOnlyOf None m = HasNoneTied m
HasTiedOnlyOf (Some k) m = AllByRecursion (IsUntiedBut k) m.list

-- an object is one of the open of this number
abbrev pub IsOfNumber : ℕ → ℕ → List Living → Type 0
IsOfNumber k y [] = ⊥
IsOfNumber k y (o ∷ os) = ((o.speaker.number ≡ k) × (is_one_of (objects_ids o.objects) y ≡ true)) ⊎ IsOfNumber k y os

-- no object that lives was made after what waits, but for those of the open that is awaited
abbrev pub IsNewestBut : Option ℕ → Chain → Many → Type 0
IsNewestBut None c m = IsLatest (Some c) m.graph
IsNewestBut (Some k) c m = (y : ℕ) → object_lives m.graph.book y ≡ true → IsOfNumber k y m.list ⊎ (y ≤ c.top.0)
