use Rattle.std.proofs.Common.{◌≡◌, sym, ap, subst}
use Rattle.nb_record.specs.View.{in_of}
use Rattle.nb_client.specs.Progressing.{CanUse}
use Rattle.nb_client.specs.Snapshots.{Snapshot}
use Rattle.nb_client.specs.Soundness.{IsUsable, snapshot_at}
use Rattle.nb_client.proofs.Usable.{usable_sound}
use Rattle.nb_client.proofs.client.Client.use_apart.Goals as goal

pub use_record-requires-clause-sound : goal.use_record-requires-clause-sound
use_record-requires-clause-sound c =
    let i = c.self.inside in
    let r = in_of c.args.entry.now in
    let usable : IsUsable i.lost (snapshot_at i.site i.stage) = c.self.invariant in
    let stage : i.stage ≡ c.args.self.now.stage = ap (λ (s : Snapshot). s.stage) c.self.view_is in
    rw c.replace-stage.ensures.value (usable_sound i.lost i.site.used i.site.world i.site.opens i.stage r usable (subst (CanUse r) (sym stage) c.requires.fits))
