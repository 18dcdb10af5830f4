use Rattle.std.proofs.Common.{List, sym, ◌∙◌, ap}
use Rattle.nb_drivecmd.specs.declared.drive.Drive.{Drive}
use Rattle.nb_runner.specs.declared.world.World.{World}
use Rattle.nb_runner.specs.World.{world_with_drives}
use Rattle.nb_client.specs.Drives.{forgotten_at}
use Rattle.nb_client.proofs.DriveKeeps.{forgotten_all, none_forgotten}
use Rattle.nb_client.proofs.site.Site.forget_ended.Goals as goal

pub returns-then-len-eq0-clause-world : goal.returns-then-len-eq0-clause-world
returns-then-len-eq0-clause-world c = none_forgotten c.args.self.now.world c.args.self.now.opens.list (sym c.len.ensures.value ∙ c.if-len-eq0.true)

pub returns-clause-world : goal.returns-clause-world
returns-clause-world c =
    let w = c.args.self.now.world in
    let list = c.args.self.now.opens.list in
    let first = c.forget_at.ensures in
    let second = c.forget_at-2.ensures in
    second.world
    ∙ (ap (λ (v : World). world_with_drives v (forgotten_at 0 c.forget_at.new.self.opens.list v.state.drives)) first.world
    ∙ (ap (λ (m : List _). world_with_drives w (forgotten_at 0 m (forgotten_at 1 list w.state.drives))) (ap (λ m. m.list) first.opens)
    ∙ ap (λ (ds : List Drive). world_with_drives w ds) (forgotten_all list w.state.drives c.len.ensures.few)))
