-- All that lives is closed: with the run, or with the device.
use Rattle.std.specs.Prelude.{◌≡◌, List, [], ◌++◌, None}
use Rattle.nb_terms.specs.declared.cause.Cause.{Cause}
use Rattle.nb_defs.specs.Records.{Out, out_texts}
use Rattle.nb_traced.specs.Plain.{without_graph}
use Rattle.nb_record.specs.Logged.{Logged, Puts}
use Rattle.nb_machine.specs.CommandRecords.{stopped_cause}
use Rattle.nb_machine.specs.Courses.{down_cause, drives_first}
use Rattle.nb_machine.specs.States.{State}
use Rattle.nb_runner.specs.World.{with_net, world_with_drives}
use Rattle.nb_traced.specs.Holdings.{Holdings, GraphObject}
use Rattle.nb_traced.specs.Outputs.{Arrived, Traced}
use Rattle.nb_machine.specs.Lives.{Live, close}
use Rattle.nb_machine.specs.Takings.{AllTake, Over}
use Rattle.nb_network.specs.Many.{AreSound, FitsHoldings, IsStateOf}
use Rattle.nb_network.specs.Takes.{ClosesFirst, TracesOn}
use Rattle.nb_client.specs.Asked.{beside_kind, onward_kind}
use Rattle.nb_client.specs.declared.closing.WaitingChain.{WaitingChain}
use Rattle.nb_client.specs.declared.site.Site.{Site}
use Rattle.nb_client.specs.declared.pending.Expected.TheVariants.{Open, Moment}
use Rattle.nb_client.specs.declared.stage.Stage.{Stage}
use Rattle.nb_client.specs.declared.stage.Stage.TheVariants as stage

-- Each open was closed with this cause in this order, after these records, and none lives afterwards; what waits is gone too.
pub record ClosesBy (order : List Live → List Live) (cause : Cause) (first : List GraphObject) (front : List Out) (before after : Site) (old new : Logged) : Type 0 where
  pub records : List Out
  pub puts : Puts old new (out_texts (front ++ records))
  pub none : after.opens.list ≡ []
  pub closes : (s : State) → IsStateOf before.opens before.world.net before.world.time s → (overs : List Over) × AllTake s.devices (close cause) (order s.live) (without_graph records) [] overs
  -- where an open lives, a port is closed first
  pub closes_first : (before.opens.list ≡ [] → ⊥) → ClosesFirst cause records
  pub traces : (outs : List Out) (h : Holdings) (so_far : List Arrived) → Traced outs h so_far → FitsHoldings before.opens before.world.opens first h →
      TracesOn before.opens before.world.opens first records [] after.opens before.world.opens [] outs h so_far
  pub world : after.world ≡ world_with_drives (with_net before.world (record before.world.net { ports = [] })) []
  pub sound : AreSound before.world.w before.world.opens after.world.net after.opens
  pub serials : after.opens.graph.book.made ≡ before.opens.graph.book.made

abbrev pub ShutsAll : List GraphObject → List Out → Site → Site → Logged → Logged → Type 0
ShutsAll first front before after old new = ClosesBy (λ live. live) stopped_cause first front before after old new

abbrev pub ClosesDown : Site → Site → Logged → Logged → Type 0
ClosesDown before after old new = ClosesBy (drives_first before.world.state.drives) down_cause [] [] before after old new

-- this waits where the run stands so
abbrev pub IsWaitingAt : Stage → WaitingChain → Type 0
IsWaitingAt (stage.Waiting s (Open p)) w = (w.kind ≡ beside_kind p.asked) × (w.chain ≡ p.waits)
IsWaitingAt (stage.Reaching s k) w = (w.kind ≡ onward_kind k.onward) × (w.chain ≡ k.waits)
IsWaitingAt stage.Ready w = w.chain ≡ None
IsWaitingAt (stage.Running s) w = w.chain ≡ None
IsWaitingAt (stage.Waiting s (Moment time)) w = w.chain ≡ None
IsWaitingAt (stage.Yielded s) w = w.chain ≡ None
IsWaitingAt (stage.Returning s cause) w = w.chain ≡ None
IsWaitingAt (stage.HandingOff h) w = w.chain ≡ None
IsWaitingAt (stage.Left cause) w = w.chain ≡ None
IsWaitingAt stage.HandedOff w = w.chain ≡ None
IsWaitingAt stage.Stopped w = w.chain ≡ None
