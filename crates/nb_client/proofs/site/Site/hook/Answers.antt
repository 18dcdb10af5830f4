use Rattle.std.proofs.Common.{List, ◌∙◌, ap}
use Rattle.nb_drivecmd.specs.declared.drive.Drive.{Drive}
use Rattle.nb_runner.specs.World.{world_with_drives}
use Rattle.nb_client.specs.Soundness.{kept_drives}
use Rattle.nb_client.proofs.site.Site.hook.Goals as goal

pub returns-clause-world : goal.returns-clause-world
returns-clause-world c =
    let now = c.args.self.now in
    c.forget_ended.ensures.world ∙ ap (λ (ds : List Drive). world_with_drives now.world (kept_drives now.opens.list ds)) c.hook.ensures
