use Rattle.std.proofs.Common.{◌≡◌, [], ◌∙◌, ap, subst}
use Rattle.nb_machine.specs.Courses.{down_cause}
use Rattle.nb_runner.specs.declared.world.World.{World}
use Rattle.nb_runner.specs.World.{with_net, world_with_drives}
use Rattle.nb_network.specs.Many.{AreSound, Many}
use Rattle.nb_client.specs.Drives.{ClosesDrives}
use Rattle.nb_client.proofs.DriveCloses.{all_closed, drives_closed, drives_gone}
use Rattle.nb_client.proofs.DriveLists.{kept_none}
use Rattle.nb_client.proofs.site.Site.close_all.Goals as goal

pub close_all-requires : goal.close_all-requires
close_all-requires c =
    let now = c.args.self.now in
    let mid = c.close_drives.new.self in
    let d : ClosesDrives down_cause now mid c.args.out.now c.close_drives.new.out = rw c.cause-down.ensures at c.in_ok-close_drives.ensures in
    let good = (drives_closed down_cause now mid d).sound c.requires.0 c.requires.1 in
    record { sound = (mid.world.w, mid.world.opens, good.opens) }

pub returns-clause-closes : goal.returns-clause-closes
returns-clause-closes c =
    let now = c.args.self.now in
    let mid = c.close_drives.new.self in
    let f = c.forget_ended.ensures in
    let e = c.in_ok-desk-2.ensures in
    let d : ClosesDrives down_cause now mid c.args.out.now c.close_drives.new.out = rw c.cause-down.ensures at c.in_ok-close_drives.ensures in
    let so_far = drives_closed down_cause now mid d in
    let good = so_far.sound c.requires.0 c.requires.1 in
    let k = rw c.cause-down.ensures at (e.closes mid.world.w mid.world.opens good.opens) in
    let world : c.forget_ended.new.self.world ≡ world_with_drives (with_net mid.world (record mid.world.net { ports = [] })) [] =
    rw (f.world, e.net, k.none) (ap (world_with_drives (with_net mid.world (record mid.world.net { ports = [] }))) (kept_none mid.world.state.drives)) in
    let sound : AreSound now.world.w now.world.opens c.close_all.new.net c.close_all.new.self =
    subst (λ (v : World). AreSound v.w v.opens c.close_all.new.net c.close_all.new.self) so_far.world (e.sound mid.world.w mid.world.opens good.opens) in
    all_closed now mid c.forget_ended.new.self (λ live are. drives_gone down_cause now mid live are d) so_far (rw f.opens k) world (rw (f.opens, f.world) sound)
    (ap (λ (m : Many). m.graph.book.made) f.opens ∙ (e.serials ∙ so_far.serials))
