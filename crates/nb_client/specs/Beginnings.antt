-- An open for what a command asks: what it has and asks for, and what waits beside it.
use Rattle.std.specs.Prelude.{◌≡◌, ◌≤◌, ◌+◌, ◌*◌, ℕ, List, [], ◌++◌, Option, Some, None}
use Rattle.nb_defs.specs.Records.{Out, out_texts}
use Rattle.nb_record.specs.Logged.{Logged, Puts}
use Rattle.nb_ledger.specs.declared.event.GraphEvent.{GraphEvent}
use Rattle.nb_wire.specs.declared.address.Ip4.{Ip4}
use Rattle.nb_nodes.specs.declared.lookup_ask.LookupAsk.{LookupAsk}
use Rattle.nb_conns.specs.declared.conn_ask.ConnAsk.{ConnAsk}
use Rattle.nb_machine.specs.Findings.{first_word, query_id}
use Rattle.nb_machine.specs.Starting.{own_port}
use Rattle.nb_machine.specs.States.{State}
use Rattle.nb_stack.specs.Client.{Client}
use Rattle.nb_stack.specs.declared.address.Addr.{Addr}
use Rattle.nb_runner.specs.declared.world.World.{World}
use Rattle.nb_runner.specs.declared.query.Query.TheVariants as query
use Rattle.nb_runner.specs.World.{IsLinkOfState}
use Rattle.nb_chains.specs.declared.chain.Chain.{Chain}
use Rattle.nb_chains.specs.declared.kind.ChainKind.{ChainKind}
use Rattle.nb_chains.specs.declared.kind.ChainKind.TheVariants as chain
use Rattle.nb_traced.specs.Holdings.{Holdings}
use Rattle.nb_traced.specs.Outputs.{Arrived, Traced}
use Rattle.nb_traced.specs.Pieces.{event_records}
use Rattle.nb_open.specs.declared.opening.Opening.{Opening}
use Rattle.nb_open.specs.Begins.{waiting_pieces}
use Rattle.nb_open.specs.Opening.{chain_kind}
use Rattle.nb_network.specs.Many.{AreSound, FitsHoldings, IsStateOf}
use Rattle.nb_network.specs.Openings.{OpensOne, number_by}
use Rattle.nb_network.specs.Takes.{TracesOn}
use Rattle.nb_client.specs.Asked.{beside_kind}
use Rattle.nb_client.specs.Serving.{world_at}
use Rattle.nb_client.specs.Soundness.{HasWaiting, IsBacked}
use Rattle.nb_client.specs.declared.asked.Asked.{Asked}
use Rattle.nb_client.specs.declared.asked.Asked.TheVariants.{File, Query as Exchange, Disk, Block}
use Rattle.nb_client.specs.declared.opening.NewOpen.{NewOpen}
use Rattle.nb_client.specs.declared.site.Site.{Site}

-- an open is made for it: a block is asked for of one that lives
abbrev pub OpensOwn : Asked → Type 0
OpensOwn (File w) = Unit {0}
OpensOwn (Exchange q) = Unit {0}
OpensOwn (Disk disk) = Unit {0}
OpensOwn (Block d) = ⊥

-- the objects of its open
abbrev pub asked_kind : Asked → ChainKind
asked_kind (File w) = chain.File
asked_kind (Disk disk) = chain.Drive
asked_kind (Block d) = chain.Drive
asked_kind (Exchange query.Lease) = chain.Lease
asked_kind (Exchange (query.Echo server)) = chain.Echo
asked_kind (Exchange (query.Address setting name by)) = chain.Name
asked_kind (Exchange (query.Host e name by)) = chain.Name

-- the kind of what waits beside its open, if anything does
abbrev pub IsKindBeside : Option ChainKind → Asked → Type 0
IsKindBeside None a = IsBacked a None
IsKindBeside (Some k) a = (k ≡ beside_kind a) × ((c : Chain) → IsBacked a (Some c))

-- the client's own address; all zero where it has none
abbrev pub own_address : Option Addr → Ip4
own_address None = record { 0 = 0 }
own_address (Some address) = address.ip

-- The next open asks so for the address of this name.
pub record IsLookupBy (w : World) (name : List ℕ) (by : Ip4) (a : LookupAsk) : Type 0 where
  pub server : a.server ≡ by
  pub own : a.own_port ≡ own_port w.w w.opens
  pub id : a.id ≡ query_id w.machine w.opens
  pub named : a.name.now ≡ name

-- The next open asks so for a connection to this port of the server.
pub record IsConnectionBy (w : World) (server : Ip4) (port : ℕ) (a : ConnAsk) : Type 0 where
  pub peer : a.peer ≡ server
  pub peer_port : a.peer_port ≡ port
  pub own : a.own ≡ own_address w.net.address
  pub own_port : a.own_port ≡ own_port w.w w.opens
  pub isn : a.isn ≡ first_word w.machine w.opens

-- The next open was begun, of which this has waited; what waits beside it is of this kind.
pub record BeginsNext (a : Opening) (kind : ChainKind) (waits : Option Chain) (before after : Site) (o : NewOpen) : Type 0 where
  pub opens : OpensOne before.opens before.world.net before.world.time before.world.opens a (waiting_pieces (chain_kind a) waits) (waiting_pieces kind o.waits)
      after.opens after.world.net o.ended o.desk.made.value.text o.desk.told.value.text
  pub used : after.used ≡ before.used
  pub world : after.world ≡ world_at before.world after.world.net before.world.time
  pub sound : AreSound after.world.w (after.world.opens + 1) after.world.net after.opens
  pub serials : after.opens.graph.book.made ≤ 4 * before.world.opens + 4
  pub linked : IsLinkOfState after.world
  pub waiting : HasWaiting kind o.waits (number_by o.ended before.world.opens) after.opens

-- What waits is let go, if anything does, of a run in which so many opens were made; and then these records are put.
pub record DropsWaiting (kind : ChainKind) (waits : Option Chain) (opens : ℕ) (before after : Site) (then_put : List Out) (old new : Logged) : Type 0 where
  pub events : List GraphEvent
  pub puts : Puts old new (out_texts (event_records events ++ then_put))
  pub same_list : after.opens.list ≡ before.opens.list
  pub state : (net : Client) (now : ℕ) (s : State) → IsStateOf before.opens net now s → IsStateOf after.opens net now s
  pub sound : AreSound before.world.w opens before.world.net after.opens
  pub serials : after.opens.graph.book.made ≡ before.opens.graph.book.made
  pub traces : (outs : List Out) (h : Holdings) (so_far : List Arrived) → Traced outs h so_far → FitsHoldings before.opens opens (waiting_pieces kind waits) h →
      TracesOn before.opens opens (waiting_pieces kind waits) (event_records events) [] after.opens opens [] outs h so_far
