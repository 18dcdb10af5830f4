-- What a client is, which states of the machine it stands for, and with which output.
use Rattle.std.specs.Prelude.{◌≡◌, ℕ, List, [], ◌∷◌}
use Rattle.nb_terms.specs.declared.cause.Cause.{Cause}
use Rattle.nb_defs.specs.Records.{Out}
use Rattle.nb_runner.specs.declared.world.World.{World}
use Rattle.nb_runner.specs.declared.handing.Handing.{Handing}
use Rattle.nb_runner.specs.Handings.{records_left}
use Rattle.nb_runner.specs.CommandWords.{onward_of}
use Rattle.nb_machine.specs.Errands.{Onward}
use Rattle.nb_machine.specs.Lives.{Live}
use Rattle.nb_machine.specs.Running.{Running}
use Rattle.nb_machine.specs.Scripts.{Waiting}
use Rattle.nb_machine.specs.States.{State, bare}
use Rattle.nb_machine.specs.Courses.{Progress, stands, ready, running, waiting, reaching, yielded, handing, left, handed_off, stopped}
use Rattle.nb_traced.specs.Holdings.{Holdings, GraphObject}
use Rattle.nb_open.specs.Begins.{waiting_pieces}
use Rattle.nb_network.specs.Many.{AreOpensOf, FitsHoldings, Many}
use Rattle.nb_client.specs.Asked.{awaited_by, job_of, onward_kind, pieces_beside}
use Rattle.nb_client.specs.declared.pending.Next.{Next}
use Rattle.nb_client.specs.declared.pending.Expected.{Expected}
use Rattle.nb_client.specs.declared.stage.Stage.{Stage}
use Rattle.nb_client.specs.declared.stage.Stage.TheVariants as stage

-- a client: how many records were used, what it has beside its script, the opens that live, and where its run stands
pub record Snapshot : Type 0 where
  pub used : ℕ
  pub world : World
  pub many : Many
  pub stage : Stage

abbrev pub snapshot : ℕ → World → Many → Stage → Snapshot
snapshot used world many stage = record { used = used; world = world; many = many; stage = stage }

abbrev pub at_stage : Snapshot → Stage → Snapshot
at_stage c stage = snapshot c.used c.world c.many stage

-- the state of the machine that it has, with these opens that live
abbrev pub state_of_world : World → List Live → State
state_of_world w live = record { w = w.w; machine = w.machine; now = w.time; devices = bare w.net ∷ []; up = w.state.up; table = w.state.table; images = w.state.images; drives = w.state.drives; opens = w.opens; live = live }

-- a command of this script waits, for this
abbrev pub waiting_within : List Running → Running → Expected → Waiting
waiting_within outer s e = record { script = s; outer = outer; awaited = awaited_by e; job = job_of e }

abbrev pub waiting_for : World → Running → Expected → Waiting
waiting_for w s e = waiting_within w.outer s e

-- The progress of the machine for which a client stands: the same count of records, and the same place, with the opens that live.
pub data StandsForProgress : Snapshot → Progress → Type 0 where
  at_ready : (n : ℕ) (w : World) (m : Many) → StandsForProgress (snapshot n w m stage.Ready) (stands n ready)
  at_running : (n : ℕ) (w : World) (m : Many) (s : Running) (live : List Live) → AreOpensOf m.graph m.list live →
      StandsForProgress (snapshot n w m (stage.Running s)) (stands n (running (state_of_world w live) s w.outer))
  at_waiting : (n : ℕ) (w : World) (m : Many) (s : Running) (e : Expected) (live : List Live) → AreOpensOf m.graph m.list live →
      StandsForProgress (snapshot n w m (stage.Waiting s e)) (stands n (waiting (state_of_world w live) (waiting_for w s e)))
  at_reaching : (n : ℕ) (w : World) (m : Many) (s : Running) (k : Next) (live : List Live) (next : Onward) → AreOpensOf m.graph m.list live → onward_of k.onward ≡ next →
      StandsForProgress (snapshot n w m (stage.Reaching s k)) (stands n (reaching (state_of_world w live) s w.outer next))
  at_yielded : (n : ℕ) (w : World) (m : Many) (s : Running) (live : List Live) → AreOpensOf m.graph m.list live →
      StandsForProgress (snapshot n w m (stage.Yielded s)) (stands n (yielded (state_of_world w live) s w.outer))
  at_handing : (n : ℕ) (w : World) (m : Many) (h : Handing) (s : State) (rest : List Out) → s.live ≡ [] → m.list ≡ [] → rest ≡ records_left w.state.images.images h →
      StandsForProgress (snapshot n w m (stage.HandingOff h)) (stands n (handing s rest))
  at_left : (n : ℕ) (w : World) (m : Many) (cause : Cause) (live : List Live) → AreOpensOf m.graph m.list live →
      StandsForProgress (snapshot n w m (stage.Left cause)) (stands n (left (state_of_world w live) [] cause))
  at_returning : (n : ℕ) (w : World) (m : Many) (s : Running) (cause : Cause) (live : List Live) → AreOpensOf m.graph m.list live →
      StandsForProgress (snapshot n w m (stage.Returning s cause)) (stands n (left (state_of_world w live) (s ∷ w.outer) cause))
  at_handed_off : (n : ℕ) (w : World) (m : Many) (s : State) → s.live ≡ [] → m.list ≡ [] → StandsForProgress (snapshot n w m stage.HandedOff) (stands n (handed_off s))
  at_stopped : (n : ℕ) (w : World) (m : Many) (s : State) → s.live ≡ [] → m.list ≡ [] → StandsForProgress (snapshot n w m stage.Stopped) (stands n (stopped s))

-- the objects that wait for the next open
abbrev pub pieces_waiting : Stage → List GraphObject
pieces_waiting stage.Ready = []
pieces_waiting (stage.Running s) = []
pieces_waiting (stage.Waiting s e) = pieces_beside e
pieces_waiting (stage.Reaching s k) = waiting_pieces (onward_kind k.onward) k.waits
pieces_waiting (stage.Yielded s) = []
pieces_waiting (stage.Returning s cause) = []
pieces_waiting (stage.HandingOff h) = []
pieces_waiting (stage.Left cause) = []
pieces_waiting stage.HandedOff = []
pieces_waiting stage.Stopped = []

-- an output stands with the client
abbrev pub FitsOutput : Snapshot → Holdings → Type 0
FitsOutput c h = FitsHoldings c.many c.world.opens (pieces_waiting c.stage) h
