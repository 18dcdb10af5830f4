-- The progress of the machine for which a client stands, by its stage.
use Rattle.std.proofs.Common.{◌≡◌, ℕ, List, [], ◌∷◌, refl, sym, ap}
use Rattle.nb_machine.specs.Courses.{Progress, stands, ready, running, waiting, reaching, yielded, handing, left, handed_off, stopped}
use Rattle.nb_machine.specs.Lives.{Live}
use Rattle.nb_machine.specs.States.{State}
use Rattle.nb_runner.specs.CommandWords.{onward_of}
use Rattle.nb_runner.specs.Handings.{records_left}
use Rattle.nb_runner.specs.declared.world.World.{World}
use Rattle.nb_network.specs.Many.{AreOpensOf, Many}
use Rattle.nb_client.specs.Snapshots.{Snapshot, StandsForProgress, at_ready, at_running, at_waiting, at_reaching, at_yielded, at_handing, at_left, at_returning, at_handed_off, at_stopped, state_of_world, waiting_for}
use Rattle.nb_client.specs.declared.stage.Stage.{Stage}
use Rattle.nb_client.specs.declared.stage.Stage.TheVariants as stage

abbrev pub StandsAt : Stage → ℕ → World → Many → Progress → Type 0
StandsAt stage.Ready n w m p = p ≡ stands n ready
StandsAt (stage.Running s) n w m p = (live : List Live) × AreOpensOf m.graph m.list live × (p ≡ stands n (running (state_of_world w live) s w.outer))
StandsAt (stage.Waiting s e) n w m p = (live : List Live) × AreOpensOf m.graph m.list live × (p ≡ stands n (waiting (state_of_world w live) (waiting_for w s e)))
StandsAt (stage.Reaching s k) n w m p = (live : List Live) × AreOpensOf m.graph m.list live × (p ≡ stands n (reaching (state_of_world w live) s w.outer (onward_of k.onward)))
StandsAt (stage.Yielded s) n w m p = (live : List Live) × AreOpensOf m.graph m.list live × (p ≡ stands n (yielded (state_of_world w live) s w.outer))
StandsAt (stage.Returning s cause) n w m p = (live : List Live) × AreOpensOf m.graph m.list live × (p ≡ stands n (left (state_of_world w live) (s ∷ w.outer) cause))
StandsAt (stage.HandingOff h) n w m p = (s : State) × (s.live ≡ []) × (p ≡ stands n (handing s (records_left w.state.images.images h)))
StandsAt (stage.Left cause) n w m p = (live : List Live) × AreOpensOf m.graph m.list live × (p ≡ stands n (left (state_of_world w live) [] cause))
StandsAt stage.HandedOff n w m p = (s : State) × (s.live ≡ []) × (p ≡ stands n (handed_off s))
StandsAt stage.Stopped n w m p = (s : State) × (s.live ≡ []) × (p ≡ stands n (stopped s))

pub stands_at : (c : Snapshot) (p : Progress) → StandsForProgress c p → StandsAt c.stage c.used c.world c.many p
stands_at c p (at_ready n w m) = refl
stands_at c p (at_running n w m s live are) = (live, are, refl)
stands_at c p (at_waiting n w m s e live are) = (live, are, refl)
stands_at c p (at_reaching n w m s k live next are is) = (live, are, ap (λ x. stands n (reaching (state_of_world w live) s w.outer x)) (sym is))
stands_at c p (at_yielded n w m s live are) = (live, are, refl)
stands_at c p (at_returning n w m s cause live are) = (live, are, refl)
stands_at c p (at_handing n w m h s rest none list is) = (s, none, ap (λ x. stands n (handing s x)) is)
stands_at c p (at_left n w m cause live are) = (live, are, refl)
stands_at c p (at_handed_off n w m s none list) = (s, none, refl)
stands_at c p (at_stopped n w m s none list) = (s, none, refl)
