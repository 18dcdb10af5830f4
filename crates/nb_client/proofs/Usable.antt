-- A client that may use a record hasn't run out of memory, and is sound.
use Rattle.std.proofs.Common.{◌≡◌, ℕ, Bool, true, false, subst}
use Rattle.nb_defs.specs.Records.{In, start, frame, tick, off}
use Rattle.nb_runner.specs.declared.world.World.{World}
use Rattle.nb_network.specs.Many.{Many}
use Rattle.nb_client.specs.Progressing.{CanUse}
use Rattle.nb_client.specs.Snapshots.{snapshot}
use Rattle.nb_client.specs.Soundness.{IsSound, IsUsable}
use Rattle.nb_client.specs.declared.stage.Stage.{Stage}
use Rattle.nb_client.specs.declared.stage.Stage.TheVariants as stage

stopped_uses : (r : In) → CanUse r stage.Stopped → ⊥
stopped_uses (start s) can = can
stopped_uses (frame bytes) can = can
stopped_uses (tick ms) can = can
stopped_uses off can = can

pub usable_sound : (lost : Bool) (n : ℕ) (w : World) (m : Many) (st : Stage) (r : In) → IsUsable lost (snapshot n w m st) → CanUse r st → IsSound n w m st
usable_sound true n w m st r is can = absurd (stopped_uses r (subst (CanUse r) is can))
usable_sound false n w m st r is can = is
